-- The index has the place after the last file.
use Rattle.std.proofs.Common.{◌≡◌, length, Some, arith, sym, ◌∙◌, ap, subst}
use Rattle.std.specs.BTreeMap.{UpdatesBy}
use Rattle.std.specs.Cmp.Lexicographic.{slice_cmp}
use Rattle.std.specs.Ordering.{nat_cmp}
use Rattle.std.proofs.lemmas.List.{length-map}
use Rattle.sg_ramfs.specs.RamfsFiles.{files_of}
use Rattle.sg_ramfs.proofs.Indexing.{pair_of, prepared}
use Rattle.sg_ramfs.proofs.files.OpenFiles.prepare.Goals as goal

pub returns-clause-ok : goal.returns-clause-ok
returns-clause-ok c =
    let path = c.in_ok-copy.ensures in
    let count : c.len.result ≡ length c.reserve.new.self.items = grind (arith, c.len.ensures) in
    let all : c.len.result ≡ length (files_of c.args.self.now) = count ∙ ap length c.reserve.ensures.items ∙ sym (length-map c.args.self.now.list.items pair_of) in
    prepared (files_of c.args.self.now) c.args.self.now.index c.insert.new.self c.args.path.now c.requires
    (subst (λ n. UpdatesBy (slice_cmp nat_cmp) (slice_cmp nat_cmp c.args.path.now) c.args.self.now.index c.insert.new.self (Some n)) all
    (subst (λ p. UpdatesBy (slice_cmp nat_cmp) (slice_cmp nat_cmp p) c.args.self.now.index c.insert.new.self (Some c.len.result)) path c.in_ok-insert.ensures.updates))
