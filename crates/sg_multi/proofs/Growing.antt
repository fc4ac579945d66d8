-- Lists that grow by one member, place by place.
use Rattle.std.proofs.Common.{◌≡◌, ◌⊎◌, inl, inr, ℕ, zero, suc, ◌+◌, List, [], ◌∷◌, ◌++◌, Some, length, refl, sym, ◌∙◌, ap, subst}
use Rattle.std.specs.Prelude.{slice_get}
use Rattle.sg_multi.specs.Members.{IsNewMember, Membered}
use Rattle.sg_multi.specs.sg_sim.sg_play.sg_hist.declared.ended.Ended.{Ended}
use Rattle.sg_multi.specs.Beginning.{AreNew}
use Rattle.sg_multi.specs.Serving.{serving}
use Rattle.sg_multi.specs.Inside.Ended.{AreEnded, IsEndedMember}
use Rattle.sg_multi.specs.declared.ended.MultiEnd.{MultiEnd}
use Rattle.sg_multi.specs.declared.play.MemberTables.{MemberTables}

pushed_at : {T : Type 0} (xs : List T) (new x : T) (k : ℕ) → slice_get (xs ++ new ∷ []) k ≡ Some x → (slice_get xs k ≡ Some x) ⊎ ((k ≡ length xs) × (x ≡ new))
pushed_at [] new x zero there = inr (refl, let same : new ≡ x = cc there in sym same)
pushed_at [] new x (suc k) there = absurd (cc there)
pushed_at (y ∷ xs) new x zero there = inl there
pushed_at (y ∷ xs) new x (suc k) there = elim (pushed_at xs new x k there) [ inl at ↦ inl at | inr last ↦ inr (ap suc last.0, last.1) ]

-- the next member is new, too
pub new_more : (tables : List MemberTables) (stops : List (List ℕ)) (clients : ℕ) (members : List Membered) (place : ℕ) (t : MemberTables) (plan : List ℕ) (m : Membered) → length members ≡ place
    → slice_get tables place ≡ Some t → slice_get stops place ≡ Some plan → IsNewMember (serving t.service) t.tables plan clients m → AreNew tables stops clients members → AreNew tables stops clients (members ++ m ∷ [])
new_more tables stops clients members place t plan m count its points new before k u p x table stop there = by (pushed_at members m x k there)
  where
    by : (slice_get members k ≡ Some x) ⊎ ((k ≡ length members) × (x ≡ m)) → IsNewMember (serving u.service) u.tables p clients x
    by (inl at) = before k u p x table stop at
    by (inr last) =
        let place_is : k ≡ place = last.0 ∙ count in
        let both_tables : Some u ≡ Some t = sym table ∙ ap (slice_get tables) place_is ∙ its in
        let both_stops : Some p ≡ Some plan = sym stop ∙ ap (slice_get stops) place_is ∙ points in
        let same_tables : u ≡ t = cc both_tables in
        let same_stops : p ≡ plan = cc both_stops in
        subst (λ (y : Membered). IsNewMember (serving u.service) u.tables p clients y) (sym last.1)
        (subst (λ (l : List ℕ). IsNewMember (serving u.service) u.tables l clients m) (sym same_stops) (subst (λ (v : MemberTables). IsNewMember (serving v.service) v.tables plan clients m) (sym same_tables) new))

-- so the run of the next member came to this
pub ended_more : (members : List Membered) (ends : List (ℕ × MultiEnd)) (ended : List Ended) (place : ℕ) (m : Membered) (e : Ended) → length ended ≡ place → slice_get members place ≡ Some m
    → IsEndedMember ends (place + 1) m e → AreEnded members ends ended → AreEnded members ends (ended ++ e ∷ [])
ended_more members ends ended place m e count its new before k x y there at = by (pushed_at ended e y k at)
  where
    by : (slice_get ended k ≡ Some y) ⊎ ((k ≡ length ended) × (y ≡ e)) → IsEndedMember ends (k + 1) x y
    by (inl was) = before k x y there was
    by (inr last) =
        let place_is : k ≡ place = last.0 ∙ count in
        let both : Some x ≡ Some m = sym there ∙ ap (slice_get members) place_is ∙ its in
        let same : x ≡ m = cc both in
        subst (λ (z : Ended). IsEndedMember ends (k + 1) x z) (sym last.1)
        (subst (λ (n : ℕ). IsEndedMember ends (n + 1) x e) (sym place_is) (subst (λ (z : Membered). IsEndedMember ends (place + 1) z e) (sym same) new))
