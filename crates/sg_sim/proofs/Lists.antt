-- Lists of descriptors, client by client.
use Rattle.std.proofs.Common.{◌≡◌, ℕ, zero, suc, ◌-◌, ◌<◌, List, [], ◌∷◌, ◌++◌, Some, length, refl, ◌∙◌, ap, arith, get_or, slice_set}
use Rattle.std.specs.Prelude.{slice_get, unwrap_or}
use Rattle.sg_facts.specs.sg_base.Room.{Roomy}
use Rattle.sg_play.specs.sg_plain.Playing.Given.{given_in}
use Rattle.sg_sim.specs.Inside.Givens.{lists_of}

pub length_lists : (given : List (Roomy ℕ)) → length (lists_of given) ≡ length given
length_lists [] = refl
length_lists (l ∷ given) = ap suc (length_lists given)

lists_set : (given : List (Roomy ℕ)) (k : ℕ) (new : Roomy ℕ) → lists_of (slice_set given k new) ≡ slice_set (lists_of given) k new.items
lists_set [] k new = refl
lists_set (l ∷ given) zero new = refl
lists_set (l ∷ given) (suc k) new = ap (λ ls. l.items ∷ ls) (lists_set given k new)

list_at : (given : List (Roomy ℕ)) (k : ℕ) (other : Roomy ℕ) → k < length given → (get_or given k other).items ≡ unwrap_or (slice_get (lists_of given) k) []
list_at [] k other within = absurd (omega (arith, within))
list_at (l ∷ given) zero other within = refl
list_at (l ∷ given) (suc k) other within = list_at given k other (omega (arith, within))

-- the list at a place is changed for one with the same descriptors
pub reserved : (given : List (Roomy ℕ)) (k : ℕ) (other new : Roomy ℕ) → new.items ≡ (get_or given k other).items → lists_of (slice_set given k new) ≡ lists_of given
reserved [] k other new same = refl
reserved (l ∷ given) zero other new same = ap (λ items. items ∷ lists_of given) same
reserved (l ∷ given) (suc k) other new same = ap (λ ls. l.items ∷ ls) (reserved given k other new same)

-- the list of a client, found by its place
pub of_client : (given : List (Roomy ℕ)) (client place : ℕ) (other : Roomy ℕ) → place ≡ client - 1 → place < length given → (get_or given place other).items ≡ given_in (lists_of given) client
of_client given client place other same within = list_at given place other within ∙ ap (λ k. unwrap_or (slice_get (lists_of given) k) []) same

-- it has one descriptor more
pub added : (given : List (Roomy ℕ)) (client place id : ℕ) (other new : Roomy ℕ) → place ≡ client - 1 → place < length given → new.items ≡ (get_or given place other).items ++ id ∷ []
    → lists_of (slice_set given place new) ≡ slice_set (lists_of given) (client - 1) (given_in (lists_of given) client ++ id ∷ [])
added given client place id other new same within is =
    ap (λ k. lists_of (slice_set given k new)) same ∙ lists_set given (client - 1) new
    ∙ ap (λ items. slice_set (lists_of given) (client - 1) items) (is ∙ ap (λ items. items ++ id ∷ []) (of_client given client place other same within))

-- a number is there where its place is below the length
pub number_at : (numbers : List ℕ) (k : ℕ) → k < length numbers → slice_get numbers k ≡ Some (get_or numbers k 0)
number_at [] k within = absurd (omega (arith, within))
number_at (n ∷ numbers) zero within = refl
number_at (n ∷ numbers) (suc k) within = number_at numbers k (omega (arith, within))
