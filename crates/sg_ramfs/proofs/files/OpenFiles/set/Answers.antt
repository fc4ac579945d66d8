-- The file is set at the place that the index has.
use Rattle.std.proofs.Common.{◌<◌, length, sym, ◌∙◌, ap, subst, arith}
use Rattle.sg_facts.specs.Object.{set_file}
use Rattle.std.proofs.lemmas.Grind.{common_steps}
use Rattle.std.proofs.lemmas.List.{length-map}
use Rattle.sg_ramfs.specs.RamfsFiles.{files_of, place_at}
use Rattle.sg_ramfs.proofs.Indexing.{pair_of, place_set, place_within, set_there}
use Rattle.sg_ramfs.proofs.files.OpenFiles.set.Goals as goal

pub index_mut-requires : goal.index_mut-requires
index_mut-requires c =
    let less = place_within (files_of c.args.self.now) c.args.path c.in-Some.at (sym c.in-Some.ensures) in
    let within : c.in-Some.at < length c.args.self.now.list.items = subst (λ n. c.in-Some.at < n) (length-map c.args.self.now.list.items pair_of) less in
    grind (arith, common_steps, within)

pub returns-in-Some-clause-ok : goal.returns-in-Some-clause-ok
returns-in-Some-clause-ok c =
    set_there c.args.self.now.list.items c.args.path c.in-Some.at c.index_mut.result.now (record { path = c.index_mut.result.now.path; bytes = c.in_ok-bytes.bytes }) (sym c.in-Some.ensures)
    (ap (λ f. f.path) c.index_mut.ensures.value) ∙ ap (set_file (files_of c.args.self.now) c.args.path) c.in_ok-bytes.ensures.items

pub returns-in-Some-clause-index : goal.returns-in-Some-clause-index
returns-in-Some-clause-index c = λ path.
    c.requires path ∙ sym (place_set (files_of c.args.self.now) c.args.path c.in_ok-bytes.bytes.items path c.in-Some.at (sym c.in-Some.ensures))
    ∙ sym (ap (λ l. place_at l path) (set_there c.args.self.now.list.items c.args.path c.in-Some.at c.index_mut.result.now (record { path = c.index_mut.result.now.path; bytes = c.in_ok-bytes.bytes }) (sym c.in-Some.ensures)
    (ap (λ f. f.path) c.index_mut.ensures.value)))
