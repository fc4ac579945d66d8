-- A descriptor may be made, and one call more was asked then.
use Rattle.std.proofs.Common.{◌≡◌, ◌+◌, Some, sym, subst}
use Rattle.test_asking.specs.sg_facts.Kinds.{MayAsk}
use Rattle.test_asking.specs.sg_facts.Object.{after}
use Rattle.sg_ramfs.specs.RamfsFacts.{ramfs_facts}
use Rattle.sg_ramfs.specs.RamfsObject.{ramfs_object}
use Rattle.sg_ramfs.specs.RamfsTable.{ramfs_table}
use Rattle.test_files.specs.Few.{AreFew}
use Rattle.test_files.proofs.Making.{few_after, may_make}
use Rattle.test_files.proofs.paths.make.Goals as goal

pub ask-requires : goal.ask-requires
ask-requires c =
    let o = ramfs_object c.args.service.now in
    let call = c.in-Ok.ensures in
    subst (MayAsk ramfs_facts o) (sym call.its) (may_make c.args.calls o c.requires.few c.requires.small c.args.parent call.name c.requires.parent)

pub returns-in-Replied : goal.returns-in-Replied
returns-in-Replied c =
    let o = ramfs_object c.args.service.now in
    let call = c.in-Ok.ensures in
    let done = c.in-Replied.ensures in
    let few = few_after c.args.calls o c.requires.few c.requires.small c.args.parent call.name c.requires.parent c.in-Replied.reply in
    subst (AreFew (c.args.calls + 1)) (sym done.changed)
    (subst (λ asked. ramfs_table o asked ≡ Some c.in-Replied.reply → AreFew (c.args.calls + 1) (after ramfs_facts o asked c.in-Replied.reply)) (sym call.its) few done.answered)
