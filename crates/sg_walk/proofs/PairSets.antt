-- Sets of pairs, to which pairs come one by one.
use Rattle.std.proofs.Common.{◌≡◌, ℕ, ◌+◌, ◌<◌, Bool, true, false, ◌&&◌, ◌||◌, List, [], ◌∷◌, length, take, get_or, refl, sym, ◌∙◌, ap}
use Rattle.std.specs.Prelude.{◌==◌, if◌then◌else◌}
use Rattle.std.specs.List.{list_any}
use Rattle.std.proofs.lemmas.Cmp.{nat_eq_equiv}
use Rattle.std.proofs.lemmas.List.Folds.{list_any_more}
use Rattle.sg_facts.specs.Interface.{has_pair}
use Rattle.sg_walk.specs.Inside.StepSets.{SamePairs}

-- whether a list has a pair, tested the other way round
looked_up : (state fun : ℕ) (pairs : List (ℕ × ℕ)) → list_any (λ p. (state == p.0) && (fun == p.1)) pairs ≡ has_pair pairs state fun
looked_up state fun [] = refl
looked_up state fun (p ∷ pairs) = rw (nat_eq_equiv.symm state p.0, nat_eq_equiv.symm fun p.1, looked_up state fun pairs)

pub has_it : (now inside : List (ℕ × ℕ)) (state fun : ℕ) (r : Bool) → r ≡ list_any (λ p. (state == p.0) && (fun == p.1)) inside → inside ≡ now
    → r ≡ has_pair now state fun
has_it now inside state fun r is same = is ∙ looked_up state fun inside ∙ ap (λ ps. has_pair ps state fun) same

either : (b x : Bool) → (if b then true else x) ≡ (x || b)
either true true = refl
either true false = refl
either false true = refl
either false false = refl

pub one_more : (pairs : List (ℕ × ℕ)) (k : ℕ) (d : ℕ × ℕ) (old new : List (ℕ × ℕ)) → k < length pairs
    → ((q : ℕ × ℕ) → list_any (λ p. (q.0 == p.0) && (q.1 == p.1)) new
    ≡ (if ((get_or pairs k d).0 == q.0) && ((get_or pairs k d).1 == q.1) then true else list_any (λ p. (q.0 == p.0) && (q.1 == p.1)) old))
    → SamePairs (take k pairs) old → SamePairs (take (k + 1) pairs) new
one_more pairs k d old new in' put before state fun =
    let here : Bool = ((get_or pairs k d).0 == state) && ((get_or pairs k d).1 == fun) in
    sym (looked_up state fun new) ∙ put (state, fun) ∙ either here (list_any (λ p. (state == p.0) && (fun == p.1)) old)
    ∙ ap (λ x. x || here) (looked_up state fun old ∙ before state fun)
    ∙ sym (list_any_more (λ p. (p.0 == state) && (p.1 == fun)) pairs k d in')
