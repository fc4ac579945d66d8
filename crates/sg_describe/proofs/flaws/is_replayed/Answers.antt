-- The recover steps of the shape are those of its facts.
use Rattle.std.proofs.Common.{ℕ, Bool, ◌≡◌, false, sym, ap, ◌==◌, ◌∙◌, ◌||◌}
use Rattle.std.specs.List.{list_any}
use Rattle.sg_shape.specs.sg_facts.Facts.{Fun, facts_of, fun_at}
use Rattle.sg_describe.proofs.Mapped.{any_mapped}
use Rattle.sg_describe.proofs.flaws.is_replayed.Goals as goal

pub returns-else-is_creation : goal.returns-else-is_creation
returns-else-is_creation c =
    let number = c.args.number in
    let made : (fun_at (facts_of c.args.shape.now).funs number).creation ≡ false = ap (λ (f : Fun). f.creation) (sym c.fun.ensures) ∙ sym c.is_creation.ensures ∙ c.if-is_creation.false in
    c.is_second.ensures ∙ sym (any_mapped {A = ℕ × ℕ} {B = ℕ × ℕ} (λ p. p.1 == number) (λ p. (p.0, p.1)) c.args.shape.now.steps.now)
    ∙ ap (λ (b : Bool). b || list_any (λ (s : ℕ × ℕ). s.1 == number) (facts_of c.args.shape.now).steps) (sym made)
