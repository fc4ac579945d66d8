-- At which points a service stops.
use Rattle.std.specs.Prelude.{ℕ, ◌≡◌, ◌<◌, ◌&&◌, false, cond, nat_le, List, [], ◌∷◌, filter, refl}
use Rattle.std.proofs.Common.{◌∙◌, ap, sym, arith}
use Rattle.std.proofs.lemmas.Bool.Decides.{nat_tests}

-- ascending numbers, all of them above `low`
abbrev pub AscendsAbove : ℕ → List ℕ → Type 0
AscendsAbove low [] = Unit {0}
AscendsAbove low (n ∷ ns) = (low < n) × AscendsAbove n ns

-- the numbers from 1 to `asked`
abbrev pub up_to : ℕ → List ℕ → List ℕ
up_to asked plan = filter (λ n. nat_le 1 n && nat_le n asked) plan

-- what contracts see of listed points: the list, and how many points were asked
pub record Planned : Type 0 where
  pub plan : List ℕ
  pub asked : ℕ

-- the points at which it struck: the listed ones that were asked
abbrev pub struck_of : Planned → List ℕ
struck_of stops = up_to stops.asked stops.plan

-- none of the numbers is from 1 to 0
pub nothing_up_to_0 : (ns : List ℕ) → [] ≡ up_to 0 ns
nothing_up_to_0 [] = refl
nothing_up_to_0 (n ∷ ns) =
    let out : (nat_le 1 n && nat_le n 0) ≡ false = grind (arith, nat_tests) in
    nothing_up_to_0 ns ∙ ap (λ b. cond b (n ∷ up_to 0 ns) (up_to 0 ns)) (sym out)
