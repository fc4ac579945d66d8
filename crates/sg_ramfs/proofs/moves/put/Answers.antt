-- The patch is in the file of its path.
use Rattle.std.proofs.Common.{◌≡◌, ◌<◌, ◌≤◌, None, Some, length, sym, ◌∙◌, ap, subst, arith}
use Rattle.std.proofs.lemmas.Grind.{common_steps}
use Rattle.std.proofs.lemmas.List.{length-map}
use Rattle.sg_facts.specs.Invoke.{Points}
use Rattle.sg_ramfs.specs.RamfsFiles.{files_of, place_at}
use Rattle.sg_ramfs.proofs.Indexing.{bytes_there, none_there, pair_of, place_set, place_within, set_there}
use Rattle.sg_ramfs.proofs.Writing.{puts_over}
use Rattle.sg_ramfs.proofs.moves.put.Goals as goal

pub index_mut-requires : goal.index_mut-requires
index_mut-requires g c =
    let files = files_of c.args.files.now in
    let there : place_at files c.args.patch.key ≡ Some c.in-Some.at = ap (place_at files) (sym (c.new-path.ensures ∙ c.in-Ok.ensures)) ∙ sym c.in-Some.ensures in
    let within : c.in-Some.at < length c.args.files.now.list.items = subst (λ n. c.in-Some.at < n) (length-map c.args.files.now.list.items pair_of) (place_within files c.args.patch.key c.in-Some.at there) in
    grind (arith, common_steps, within)

pub overwrite-requires-clause-begins : goal.overwrite-requires-clause-begins
overwrite-requires-clause-begins g c =
    let files = files_of c.args.files.now in
    let there : place_at files c.args.patch.key ≡ Some c.in-Some.at = ap (place_at files) (sym (c.new-path.ensures ∙ c.in-Ok.ensures)) ∙ sym c.in-Some.ensures in
    let was = ap (λ f. f.bytes.items) c.index_mut.ensures.value ∙ bytes_there c.args.files.now.list.items c.args.patch.key c.in-Some.at c.index_mut.result.now there in
    subst (λ b. c.args.patch.from ≤ length b) (sym was) c.requires.begins

pub put_new-requires-clause-begins : goal.put_new-requires-clause-begins
put_new-requires-clause-begins g c =
    let files = files_of c.args.files.now in
    let none : place_at files c.args.patch.key ≡ None = ap (place_at files) (sym (c.new-path.ensures ∙ c.in-Ok.ensures)) ∙ sym c.in-None.ensures in
    subst (λ b. c.args.patch.from ≤ length b) (sym (none_there files c.args.patch.key none)) c.requires.begins

pub returns-in-Some-clause-outcome : goal.returns-in-Some-clause-outcome
returns-in-Some-clause-outcome g c =
    let files = files_of c.args.files.now in
    let before : Points = record { asked = g.T.Stops.asked c.args.stops.now; struck = g.T.Stops.struck c.args.stops.now } in
    let later : Points = record { asked = g.T.Stops.asked c.overwrite.new.stops; struck = g.T.Stops.struck c.overwrite.new.stops } in
    let there : place_at files c.args.patch.key ≡ Some c.in-Some.at = ap (place_at files) (sym (c.new-path.ensures ∙ c.in-Ok.ensures)) ∙ sym c.in-Some.ensures in
    let was = ap (λ f. f.bytes.items) c.index_mut.ensures.value ∙ bytes_there c.args.files.now.list.items c.args.patch.key c.in-Some.at c.index_mut.result.now there in
    let is = set_there c.args.files.now.list.items c.args.patch.key c.in-Some.at c.index_mut.result.now (record { path = c.index_mut.result.now.path; bytes = c.overwrite.new.file }) there (ap (λ f. f.path) c.index_mut.ensures.value) in
    puts_over c.args.tree.now files _ c.args.id c.in-Some.at c.args.entry c.args.patch before c.overwrite.result c.overwrite.new.tree c.index_mut.result.now.bytes.items c.overwrite.new.file.items later there was is c.overwrite.ensures.outcome

pub returns-in-Some-clause-indexed : goal.returns-in-Some-clause-indexed
returns-in-Some-clause-indexed g c = λ path.
    let files = files_of c.args.files.now in
    let there : place_at files c.args.patch.key ≡ Some c.in-Some.at = ap (place_at files) (sym (c.new-path.ensures ∙ c.in-Ok.ensures)) ∙ sym c.in-Some.ensures in
    let is = set_there c.args.files.now.list.items c.args.patch.key c.in-Some.at c.index_mut.result.now (record { path = c.index_mut.result.now.path; bytes = c.overwrite.new.file }) there (ap (λ f. f.path) c.index_mut.ensures.value) in
    c.requires.indexed path ∙ sym (place_set files c.args.patch.key c.overwrite.new.file.items path c.in-Some.at there) ∙ sym (ap (λ l. place_at l path) is)
