-- All of the three tests, or the first that fails.
use Rattle.std.proofs.Common.{◌≡◌, Bool, true, false, sym, ◌∙◌, ap}
use Rattle.std.specs.Prelude.{◌&&◌}
use Rattle.sg_known.proofs.states.keeps.Goals as goal
use Rattle.sg_known.proofs.states.keeps.Goals.{then-all_make, else-all_make}

both_then : (a b c r v : Bool) → a ≡ true → v ≡ b → v ≡ true → r ≡ c → r ≡ (a && b && c)
both_then a b c r v one same two last = last ∙ ap (λ x. x && c) (sym two ∙ same) ∙ ap (λ x. x && b && c) (sym one)

pub returns-then-all_move : goal.returns-then-all_move
returns-then-all_move c = elim c.if-all_make.branch [
  | then-all_make w ↦ both_then _ _ _ _ c.if-all_make.value (sym c.all_make.ensures ∙ w.if-all_make.true) (w.value-is ∙ w.all_move.ensures) c.if-all_move.true c.all_stay.ensures
  | else-all_make w ↦ let no : true ≡ false = sym c.if-all_move.true ∙ w.value-is ∙ w.if-all_make.false in absurd (cc no)
]
