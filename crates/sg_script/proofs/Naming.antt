-- Functions by their names.
use Rattle.std.proofs.Common.{◌≡◌, ℕ, ◌+◌, ◌-◌, ◌^◌, ◌<◌, List, [], ◌∷◌, None, Some, refl, sym, ◌∙◌, ap, arith}
use Rattle.std.specs.Prelude.{Bool, true, false, ◌&&◌, ◌==◌, nat_le, if◌then◌else◌}
use Rattle.std.specs.Str.{bytes_eq}
use Rattle.std.proofs.lemmas.Nat.Bits.{bit_at_above}
use Rattle.sg_facts.specs.Facts.{Fun}
use Rattle.sg_facts.specs.Interface.{Declared, declares}
use Rattle.sg_script.specs.Scripts.{declared_from}

and_false : (a : Bool) → (a && false) ≡ false
and_false true = refl
and_false false = refl

-- no function beyond the 32nd is declared
not_declared : (i : Declared) (n : ℕ) → i.declared < 2 ^ 32 → 32 < n → declares i n ≡ false
not_declared i n bound beyond =
    ap (λ b. nat_le 1 n && (b == 1)) (bit_at_above i.declared 32 (n - 1) bound (omega arith)) ∙ and_false (nat_le 1 n)

pub none_beyond : (i : Declared) (name : List ℕ) (n : ℕ) (funs : List Fun) → i.declared < 2 ^ 32 → 32 < n → None ≡ declared_from i name n funs
none_beyond i name n [] bound beyond = refl
none_beyond i name n (f ∷ funs) bound beyond =
    none_beyond i name (n + 1) funs bound (omega arith)
    ∙ sym (ap (λ b. if bytes_eq f.name name && b then Some n else declared_from i name (n + 1) funs) (not_declared i n bound beyond)
    ∙ ap (λ b. if b then Some n else declared_from i name (n + 1) funs) (and_false (bytes_eq f.name name)))
