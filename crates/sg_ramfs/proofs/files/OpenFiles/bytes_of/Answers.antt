-- The file is at the place that the index has.
use Rattle.std.proofs.Common.{◌<◌, length, sym, ◌∙◌, ap, subst, arith}
use Rattle.std.proofs.lemmas.Grind.{common_steps}
use Rattle.std.proofs.lemmas.List.{length-map}
use Rattle.sg_ramfs.specs.RamfsFiles.{files_of}
use Rattle.sg_ramfs.proofs.Indexing.{bytes_there, none_there, pair_of, place_within}
use Rattle.sg_ramfs.proofs.files.OpenFiles.bytes_of.Goals as goal

pub index-requires : goal.index-requires
index-requires c =
    let less = place_within (files_of c.args.self.now) c.args.path.now c.in-Some.at (sym c.in-Some.ensures) in
    let within : c.in-Some.at < length c.args.self.now.list.items = subst (λ n. c.in-Some.at < n) (length-map c.args.self.now.list.items pair_of) less in
    grind (arith, common_steps, within)

pub returns-in-Some : goal.returns-in-Some
returns-in-Some c =
    c.as_slice.ensures.value ∙ ap (λ f. f.bytes.items) c.index.ensures ∙ bytes_there c.args.self.now.list.items c.args.path.now c.in-Some.at c.index.result.now (sym c.in-Some.ensures)

pub returns-in-None : goal.returns-in-None
returns-in-None c = none_there (files_of c.args.self.now) c.args.path.now (sym c.in-None.ensures)
