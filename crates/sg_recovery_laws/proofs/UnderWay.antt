-- The numbers of a client's entries around a place, as facts of each entry, where a test tells whose items stand before the place.
use Rattle.std.proofs.Common.{◌≡◌, ℕ, ◌≤◌, ◌<◌, Bool, true, false, not, ◌&&◌, ◌||◌, ◌==◌, List, [], ◌∷◌, refl, ◌∙◌, ap, arith}
use Rattle.std.specs.Prelude.{nat_le, nat_lt}
use Rattle.std.proofs.lemmas.Bool.{and_parts}
use Rattle.std.proofs.lemmas.Bool.Decides.{nat_tests}
use Rattle.sg_facts.specs.sg_base.Lists.{When}
use Rattle.sg_facts.specs.declared.entry.Entry.{Entry}
use Rattle.sg_facts.specs.Facts.{Facts}
use Rattle.sg_hist.specs.Recovered.{is_above_earlier, is_answered_later, is_first_of_later}
use Rattle.sg_hist.specs.Inside.Parts.{is_answered_before}

-- a client's entries that were answered before a place have smaller numbers
abbrev pub AreBelow : Facts → (Entry → Bool) → ℕ → ℕ → List Entry → Type 0
AreBelow facts before client seq [] = Unit {0}
AreBelow facts before client seq (e ∷ later) =
    When ((e.call.client == client) && is_answered_before facts before e later) (e.call.seq < seq) × AreBelow facts before client seq later

-- from the first entry on that was answered later than a place, a client's entries have no smaller numbers
abbrev pub AreFrom : (Entry → Bool) → ℕ → ℕ → Bool → List Entry → Type 0
AreFrom before client seq late [] = Unit {0}
AreFrom before client seq late (e ∷ history) =
    When ((e.call.client == client) && (late || is_answered_later before e)) (seq ≤ e.call.seq) × AreFrom before client seq (late || is_answered_later before e) history

less_by : (b : Bool) (m n : ℕ) → (not b || nat_lt m n) ≡ true → When b (m < n)
less_by false m n is = tt
less_by true m n is = grind (arith, nat_tests, is)

by_less : (b : Bool) (m n : ℕ) → When b (m < n) → (not b || nat_lt m n) ≡ true
by_less false m n is = refl
by_less true m n is = grind (arith, nat_tests, is)

most_by : (b : Bool) (m n : ℕ) → (not b || nat_le m n) ≡ true → When b (m ≤ n)
most_by false m n is = tt
most_by true m n is = grind (arith, nat_tests, is)

by_most : (b : Bool) (m n : ℕ) → When b (m ≤ n) → (not b || nat_le m n) ≡ true
by_most false m n is = refl
by_most true m n is = grind (arith, nat_tests, is)

pub below_of : (facts : Facts) (before : Entry → Bool) (client seq : ℕ) (h : List Entry) → is_above_earlier facts before client seq h ≡ true → AreBelow facts before client seq h
below_of facts before client seq [] is = tt
below_of facts before client seq (e ∷ h) is =
    let own = (e.call.client == client) && is_answered_before facts before e h in
    let both = and_parts (not own || nat_lt e.call.seq seq) (is_above_earlier facts before client seq h) is in
    (less_by own e.call.seq seq both.0, below_of facts before client seq h both.1)

pub of_below : (facts : Facts) (before : Entry → Bool) (client seq : ℕ) (h : List Entry) → AreBelow facts before client seq h → is_above_earlier facts before client seq h ≡ true
of_below facts before client seq [] are = refl
of_below facts before client seq (e ∷ h) are =
    ap (λ b. b && is_above_earlier facts before client seq h) (by_less ((e.call.client == client) && is_answered_before facts before e h) e.call.seq seq are.0) ∙ of_below facts before client seq h are.1

pub from_of : (before : Entry → Bool) (client seq : ℕ) (late : Bool) (h : List Entry) → is_first_of_later before client seq late h ≡ true → AreFrom before client seq late h
from_of before client seq late [] is = tt
from_of before client seq late (e ∷ h) is =
    let own = (e.call.client == client) && (late || is_answered_later before e) in
    let both = and_parts (not own || nat_le seq e.call.seq) (is_first_of_later before client seq (late || is_answered_later before e) h) is in
    (most_by own seq e.call.seq both.0, from_of before client seq (late || is_answered_later before e) h both.1)

pub of_from : (before : Entry → Bool) (client seq : ℕ) (late : Bool) (h : List Entry) → AreFrom before client seq late h → is_first_of_later before client seq late h ≡ true
of_from before client seq late [] are = refl
of_from before client seq late (e ∷ h) are =
    ap (λ b. b && is_first_of_later before client seq (late || is_answered_later before e) h) (by_most ((e.call.client == client) && (late || is_answered_later before e)) seq e.call.seq are.0)
    ∙ of_from before client seq (late || is_answered_later before e) h are.1
