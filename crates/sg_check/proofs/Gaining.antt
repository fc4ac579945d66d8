-- A set to which a number comes.
use Rattle.std.proofs.Common.{◌≡◌, ℕ, Bool, true, false, ◌||◌, List, refl, ◌∙◌, ap}
use Rattle.std.specs.Prelude.{◌==◌, if◌then◌else◌}
use Rattle.sg_check.specs.Inside.Numbers.{GainsNumber, has_number}

either : (b x : Bool) → (if b then true else x) ≡ (x || b)
either true true = refl
either true false = refl
either false true = refl
either false false = refl

pub gains : (new inside now : List ℕ) (n : ℕ) → ((q : ℕ) → has_number new q ≡ (if n == q then true else has_number inside q)) → inside ≡ now → GainsNumber now new n
gains new inside now n put same other =
    put other ∙ either (n == other) (has_number inside other) ∙ ap (λ l. has_number l other || (n == other)) same
