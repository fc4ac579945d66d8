-- The rule at the start, and what it says at the end.
use Rattle.std.proofs.Common.{◌≡◌, ◌≢◌, ℕ, zero, suc, ◌+◌, ◌≤◌, ◌<◌, true, false, List, [], ◌∷◌, ◌++◌, length, Option, Some, refl, sym, ap, ◌∙◌, subst, inl, inr, ⊎_elim, arith}
use mathlib.Core.Logic.{dite}
use mathlib.Core.Option.{some, some-ne-none, some-injective}
use native.Mathlib.Decide.{ℕ_discrete, dec_le}
use lib.ListN.{get_elem?}
use Rattle.atomic_table.specs.Table.{State, opening, Final, Seen}
use Rattle.sg_turn.specs.declared.log.Face.{Face}
use Rattle.sg_turn.specs.declared.view.Knowledge.{Knowledge}
use Rattle.sg_turn.specs.declared.view.SeatState.TheVariants.{Idle, Spent}
use Rattle.sg_turn.specs.declared.view.View.{View}
use Rattle.sg_turn.specs.Logs.{marks_of, Follows, AtLeast}
use Rattle.sg_turn.specs.Inside.TicketLock.{TicketLock, latest, KnowledgeFits, AllFit, Lives, Fits}
use Rattle.sg_turn.specs.Inside.Rule.{OutWith, IsHome, IsOut, KeepsTurns}
use Rattle.sg_turn.specs.Inside.Steps.{first_view}
use Rattle.sg_turn.specs.Seats.{EndsIn, AllEndIn, NumberedFrom}
use Rattle.sg_turn.proofs.Logs.{follows_same}

-- one of these clients has the number, so its owner is the view at this place
owned_by : (z : TicketLock) (i n c : ℕ) (ps : List Knowledge) → AllFit z i ps → NumberedFrom n ps → n ≤ c → c < n + length ps → z.owner c ≡ i
owned_by z i n c [] f num low high = absurd (omega arith)
owned_by z i n c (p ∷ ps) f num low high =
    dite (ℕ_discrete n c)
    (λ e. ap z.owner (sym e ∙ sym num.0) ∙ f.0.owned)
    (λ ne. owned_by z i (suc n) c ps f.1 num.1 (omega arith) (omega arith))

-- the number of the last client
last_number : (n : ℕ) (ps : List Knowledge) (p : Knowledge) → NumberedFrom n (ps ++ p ∷ []) → p.number ≡ n + length ps
last_number n [] p num = num.0 ∙ omega arith
last_number n (q ∷ ps) p num = last_number (suc n) ps p num.1 ∙ omega arith

both_fit : (z : TicketLock) (i : ℕ) (ps : List Knowledge) (p : Knowledge) → AllFit z i ps → KnowledgeFits z i p → AllFit z i (ps ++ p ∷ [])
both_fit z i [] p a f = (f, tt)
both_fit z i (q ∷ ps) p a f = (a.0, both_fit z i ps p a.1 f)

length_both : (ps : List Knowledge) (p : Knowledge) → length (ps ++ p ∷ []) ≡ length ps + 1
length_both [] p = omega arith
length_both (q ∷ ps) p = let h = length_both ps p in omega arith

-- what was counted for more holds was counted for fewer
fewer : (start k n e : ℕ) → k ≤ n → AtLeast start n e → AtLeast start k e
fewer start k n e le h = ⊎_elim (λ (x : start + n ≤ e). inl (omega arith)) (λ x. inr x) h

-- a view that has the value out isn't spent, and isn't idle
out_not_spent : (z : TicketLock) (v : View) → OutWith z v.state → v.state ≢ Spent
out_not_spent z v o e = subst (OutWith z) e o

abbrev opened : Face → TicketLock
opened start = record { ticket = 0; serving = 0; count = 0; faces = λ _. start; owner = λ _. 0; holder = λ _. 0; out = false }

first_lives : (start : Face) → Lives (opened start) 0 (first_view start)
first_lives start = record {
  own = record { numbered = omega arith; owned = refl; known = omega arith; face = refl; own = refl };
  joined = tt;
  deals = λ _ c above. (refl, refl);
  state = tt;
}

first_fits : (start : Face) (i : ℕ) (u : View) → get_elem? (first_view start ∷ []) i ≡ some u → Fits (opened start) i u
first_fits start zero u e = subst (Fits (opened start) 0) (some-injective _ _ e) (inr (first_lives start))
first_fits start (suc i) u e = absurd (some-ne-none u (sym e))

module _ {V : Type 0} (face : V → Face) (start : Face) where
  pub opens : (y : V) → face y ≡ start → KeepsTurns face start (opening (0 ∷ 0 ∷ 0 ∷ []) (Some y ∷ []) (first_view start))
  opens y is = record {
    lock = opened start;
    words = refl;
    turns = omega arith;
    tickets = omega arith;
    held = λ t low high. absurd (omega arith);
    known = (0, first_view start, refl, ((λ e. cc), inl refl));
    begins = refl;
    follows = λ j k le high. follows_same start;
    counts = λ k high. inl (omega arith);
    place = inl (y, refl, is, refl, refl);
    views = first_fits start;
  }

  module _ (id : ℕ) (v : View) where
    -- what a client knows ends in the latest face
    ends : (s : State (Option V) View) (r : KeepsTurns face start s) (y : V) → face y ≡ latest r.lock → (p : Knowledge) → KnowledgeFits r.lock id p → EndsIn start (face y) p
    ends s r y is p f = record {
      face = subst (λ (g : Face). Follows g (face y)) (sym f.face) (subst (Follows (r.lock.faces p.known)) (sym is) (r.follows p.known r.lock.count f.known (omega arith)));
      own = ap (λ (g : Face). marks_of p.number g.log) is ∙ sym f.own;
      known = subst (λ (g : Face). AtLeast start.events p.known g.events) (sym is) (fewer start.events p.known r.lock.count (latest r.lock).events f.known (r.counts r.lock.count (omega arith)));
    }

    all_end : (s : State (Option V) View) (r : KeepsTurns face start s) (y : V) → face y ≡ latest r.lock → (ps : List Knowledge) → AllFit r.lock id ps → AllEndIn start (face y) ps
    all_end s r y is [] f = tt
    all_end s r y is (p ∷ ps) f = (ends s r y is p f.0, all_end s r y is ps f.1)

    -- at the end a seat that is idle and has taken in all others finds the value at home
    pub closes : (ws : List ℕ) (xs : List (Option V)) → v.state ≡ Idle → v.deals ≡ true → NumberedFrom 1 (v.joined ++ v.own ∷ []) → Final (Seen (KeepsTurns face start) id v) ws xs
        → (y : V) × (get_elem? xs 0 ≡ some (Some y)) × AllEndIn start (face y) (v.joined ++ v.own ∷ [])
    closes ws xs is deals num final =
        let s = final.0 in let r = final.1.0 in let at = final.1.1 in let z = r.lock in
        let l : Lives z id v = ⊎_elim (λ (e : v.state ≡ Spent). absurd (cc)) (λ (x : Lives z id v). x) (r.views id v at) in
        let ps = v.joined ++ v.own ∷ [] in
        let fit : AllFit z id ps = both_fit z id v.joined v.own l.joined l.own in
        let top : v.own.number ≡ 1 + length v.joined = last_number 1 v.joined v.own num in
        let mine : (c : ℕ) → 1 ≤ c → z.owner c ≡ id = λ c low. dite (dec_le c v.own.number)
        (λ high. owned_by z id 1 c ps fit num low (let h = length_both v.joined v.own in omega arith))
        (λ above. (l.deals deals c (omega arith)).0) in
        let home : IsHome face z s = ⊎_elim (λ h. h)
        (λ (o : IsOut z s).
        let lu : Lives z (z.holder z.serving) o.0 = ⊎_elim (λ e. absurd (out_not_spent z o.0 o.3 e)) (λ x. x) (r.views (z.holder z.serving) o.0 o.2) in
        let here : z.holder z.serving ≡ id = sym lu.own.owned ∙ mine o.0.own.number lu.own.numbered in
        let same : o.0 ≡ v = some-injective _ _ (sym o.2 ∙ ap (get_elem? s.views) here ∙ at) in
        absurd (subst (OutWith z) (ap (λ (u : View). u.state) same ∙ is) o.3)) r.place in
        (home.0, final.4 0 (Some home.0) (ap (λ hs. get_elem? hs 0) home.1), all_end s r home.0 home.2 ps fit)
