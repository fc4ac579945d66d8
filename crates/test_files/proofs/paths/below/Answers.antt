-- The parent is there, so a descriptor may be made below it.
use Rattle.std.proofs.Common.{◌≡◌, true, rules, is_some}
use Rattle.std.specs.Prelude.{◌==◌}
use Rattle.test_asking.specs.sg_facts.Track.{is_live}
use Rattle.sg_ramfs.specs.sg_slots.Slots.{row_with}
use Rattle.sg_ramfs.specs.RamfsObject.{ramfs_object}
use Rattle.sg_ramfs.specs.RamfsRow.{file_body}
use Rattle.test_files.proofs.Making.{behind, live_where_lent}
use Rattle.test_files.proofs.paths.below.Goals as goal

pub make-requires-clause-parent : goal.make-requires-clause-parent
make-requires-clause-parent g c =
    let rows = (ramfs_object c.args.service.now).rows in
    let some : is_some c.open_file.result ≡ true = search rules in
    behind (c.args.parent == 0) (is_live rows c.args.parent) (live_where_lent rows c.args.parent (λ f. row_with c.args.parent (file_body f)) c.open_file.result c.open_file.ensures some)
