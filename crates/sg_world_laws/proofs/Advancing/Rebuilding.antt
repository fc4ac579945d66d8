-- The first wanted row that isn't whole, and the next call of its walk, at the history and after held replies.
use Rattle.std.proofs.Common.{Bool, List, Some, [], ap, arith, cond, false, inl, inr, length, not, refl, subst, suc, sym, take, true, zero, ℕ, ◌*◌, ◌++◌, ◌+◌, ◌<◌, ◌==◌, ◌^◌, ◌∙◌, ◌∷◌, ◌≡◌, ◌≤◌, ◌⊎◌, ◌≢◌, ◌||◌}
use Rattle.std.specs.Prelude.{find}
use Rattle.sg_facts.specs.sg_base.declared.call.Call.{Call}
use Rattle.sg_facts.specs.Alike.{named}
use Rattle.sg_facts.specs.Counted.{CountedBelow}
use Rattle.sg_facts.specs.Held.{AreReachable, IsAt, ParentIsWhole, set_of}
use Rattle.sg_facts.specs.Interface.{Declared}
use Rattle.sg_facts.specs.Laws.{slow}
use Rattle.sg_facts.specs.Needs.{is_needed, is_wanted, wanted}
use Rattle.sg_facts.specs.Object.{Object, object_of}
use Rattle.sg_facts.specs.Inside.Rows.{object_from}
use Rattle.sg_facts.specs.Sound.{IsSound}
use Rattle.sg_facts.specs.Trace.{Boot}
use Rattle.sg_facts.specs.Track.{is_live, row_at}
use Rattle.sg_facts.specs.Walks.{IsReachable, IsWalkOf}
use Rattle.sg_facts.specs.declared.entry.Entry.{Entry}
use Rattle.sg_facts.specs.declared.row.Row.{Row}
use Rattle.sg_facts.proofs.RowLists.{id_of_row, live_of_row, row_of_live}
use Rattle.sg_recovery_laws.specs.sg_hist.Reading.{walk_in}
use Rattle.sg_recovery_laws.proofs.Objects.Waiting.{after_same}
use Rattle.sg_recovery_laws.specs.Midway.Progress.{IsSoFar, TellsCalls, Told, begun, complete, fresh, is_complete}
use Rattle.sg_recovery_laws.specs.Midway.Stepping.{IsStepped}
use Rattle.sg_recovery_laws.proofs.Midway.Least.{IsLeast, least_row}
use Rattle.sg_recovery_laws.proofs.Midway.Numbers.{counted_below}
use Rattle.sg_recovery_laws.proofs.Midway.Stepping.{stepped}
use Rattle.sg_recovery_laws.proofs.Midway.Tabled.{walk_is}
use Rattle.sg_clients.specs.WorldView.{WorldView, held_in}
use Rattle.sg_world_laws.specs.Keeping.{AreDrawn, KeepsPromise, Stands, Stub, standing}
use Rattle.sg_world_laws.specs.Setting.{IsSetting, Setting}
use Rattle.sg_world_laws.specs.Turns.{IsLetIn}
use Rattle.sg_world_laws.proofs.Orders.{all_drawn, far_now, good_es, good_now, needs_es, reachable_es, sound_es, there_es, time_es, wanted_is}
use Rattle.sg_world_laws.proofs.Struck.{none_drawn}
use Rattle.sg_world_laws.specs.Advancing.Advancing.{IsFirstLeft}

pub told_is : (t : Told) → is_complete t ≡ true → t ≡ complete
told_is fresh is = absurd (cc is)
told_is (begun n) is = absurd (cc is)
told_is complete is = refl

reach_at : (i : Declared) (rows : List Row) (id : ℕ) (r : Row) → AreReachable i rows → row_at rows id ≡ Some r → IsReachable i r.made r.state (set_of r)
reach_at i [] id r reach there = absurd (cc there)
reach_at i (x ∷ rows) id r reach there = at (x.id == id) there (reach_at i rows id r reach.1)
  where
    at : (b : Bool) → cond b (Some x) (row_at rows id) ≡ Some r → (row_at rows id ≡ Some r → IsReachable i r.made r.state (set_of r)) → IsReachable i r.made r.state (set_of r)
    at true there rest = let one : x ≡ r = cc there in subst (λ y. IsReachable i y.made y.state (set_of y)) one reach.0
    at false there rest = rest there

take_done : (done rest : List ℕ) → take (length done) (done ++ rest) ≡ done
take_done [] rest = refl
take_done (d ∷ done) rest = ap (λ l. d ∷ l) (take_done done rest)

-- a list has something after so many of its first
pub record IsCut (n : ℕ) (walk : List ℕ) : Type 0 where
  pub done : List ℕ
  pub fun : ℕ
  pub rest : List ℕ
  pub is : walk ≡ done ++ fun ∷ rest
  pub long : length done ≡ n

pub cut_at : (n : ℕ) (walk : List ℕ) → n < length walk → IsCut n walk
cut_at n [] less = absurd (omega (arith, less))
cut_at zero (f ∷ walk) less = record { done = []; fun = f; rest = walk; is = refl; long = refl }
cut_at (suc n) (f ∷ walk) less =
    let cut = cut_at n walk (omega (arith, less)) in
    record { done = f ∷ cut.done; fun = cut.fun; rest = cut.rest; is = ap (λ l. f ∷ l) cut.is; long = ap suc cut.long }

-- a walk isn't empty
pub some_walk : (i : Declared) (walk : List ℕ) (by state : ℕ) (set : List Bool) → IsWalkOf i walk by state set → 0 < length walk
some_walk i [] by state set its = absurd (let wrong : false ≡ true = its.restored in cc wrong)
some_walk i (f ∷ walk) by state set its = omega arith

module _ (z : Setting) (set : IsSetting z) (w : WorldView) (b : Boot) (boots : List Boot) (v : Object) (stub : Stub) (k : KeepsPromise z (standing w b boots (Some v)) stub)
    (call : Call) (let_in : IsLetIn z (standing w b boots (Some v)) call) (id : ℕ) (first : IsFirstLeft z (standing w b boots (Some v)) stub call id) where
  abbrev o : Object
  o = object_of z.iface.facts w.history

  abbrev ws : List Entry
  ws = held_in (length (b ∷ boots)) w.seats

  up : Stands z (standing w b boots (Some v)) stub v
  up = k.stands

  pub sound_now : IsSound z.iface.facts (object_of z.iface.facts w.history)
  sound_now = set.law.keeps.general (object_of z.iface.facts w.history) (good_now z set w b boots (Some v) stub k).is_sound

  pub least : IsLeast z.iface (object_of z.iface.facts w.history) sound_now stub.told call id
  least = least_row z.iface (object_of z.iface.facts w.history) sound_now stub.told call id first

  -- where every live row is rebuilt first, no reply is held yet
  none_held : z.iface.eager ≡ true → held_in (length (b ∷ boots)) w.seats ≡ []
  unfolding up
  none_held eager = at (held_in (length (b ∷ boots)) w.seats) refl
    where
      whole : held_in (length (b ∷ boots)) w.seats ≢ [] → is_complete (stub.told id) ≡ true
      whole some = ap is_complete (up.rebuilt eager some id (live_of_row (object_of z.iface.facts w.history).rows id least.row least.there))

      at : (held : List Entry) → held_in (length (b ∷ boots)) w.seats ≡ held → held_in (length (b ∷ boots)) w.seats ≡ []
      at [] is = is
      at (e ∷ held) is = absurd (let done = whole (λ none. let wrong : e ∷ held ≡ [] = sym is ∙ none in cc wrong) in let part = least.part in cc (done, part))

  -- so what is drawn of the held replies is nothing, or the call alone tells what is wanted
  drawn_none : (es : List Entry) → AreDrawn (held_in (length (b ∷ boots)) w.seats) es → (es ≡ []) ⊎ (z.iface.eager ≡ false)
  drawn_none es drawn = by z.iface.eager refl
    where
      by : (t : Bool) → z.iface.eager ≡ t → (es ≡ []) ⊎ (z.iface.eager ≡ false)
      by false is = inr is
      by true is = inl (none_drawn es (subst (λ l. AreDrawn l es) (none_held is) drawn))

  module _ (r : Row) (there : row_at (object_of z.iface.facts w.history).rows id ≡ Some r) where
    pub id_is : r.id ≡ id
    id_is = id_of_row (object_of z.iface.facts w.history).rows id r there

    need : z.iface.eager ≡ false → is_needed z.iface.facts (object_of z.iface.facts w.history).rows call r ≡ true
    need on_demand =
        let one : Some least.row ≡ Some r = sym least.there ∙ there in
        let rows_are : least.row ≡ r = cc one in
        sym (ap (λ t. t || is_needed z.iface.facts (object_of z.iface.facts w.history).rows call r) on_demand)
        ∙ subst (λ x. is_wanted z.iface (object_of z.iface.facts w.history).rows call x ≡ true) rows_are least.want

    module _ (es : List Entry) (drawn : AreDrawn (held_in (length (b ∷ boots)) w.seats) es) where
      pub row_es : row_at (object_from z.iface.facts (object_of z.iface.facts w.history) es).rows r.id ≡ Some r
      row_es = elim (drawn_none es drawn) [
        | inl none ↦ ap (λ l. row_at (object_from z.iface.facts (object_of z.iface.facts w.history) l).rows r.id) none ∙ ap (row_at (object_of z.iface.facts w.history).rows) id_is ∙ there
        | inr on_demand ↦ there_es z set w b boots (Some v) stub k es drawn call let_in r (ap (row_at (object_of z.iface.facts w.history).rows) id_is ∙ there) (need on_demand)
      ]

      pub id_es : row_at (object_from z.iface.facts (object_of z.iface.facts w.history) es).rows id ≡ Some r
      id_es = ap (row_at (object_from z.iface.facts (object_of z.iface.facts w.history) es).rows) (sym id_is) ∙ row_es

      pub first_es : find (λ a. not (is_complete (stub.told a))) (wanted z.iface (object_from z.iface.facts (object_of z.iface.facts w.history) es) call).ids ≡ Some id
      first_es = elim (drawn_none es drawn) [
        | inl none ↦ ap (λ l. find (λ a. not (is_complete (stub.told a))) (wanted z.iface (object_from z.iface.facts (object_of z.iface.facts w.history) l) call).ids) none ∙ first
        | inr on_demand ↦
            ap (λ n. find (λ a. not (is_complete (stub.told a))) n.ids)
            (wanted_is z.iface (object_from z.iface.facts (object_of z.iface.facts w.history) es) call on_demand ∙ needs_es z set w b boots (Some v) stub k es drawn call let_in
            ∙ sym (wanted_is z.iface (object_of z.iface.facts w.history) call on_demand)) ∙ first
      ]

      least_es : IsLeast z.iface (object_from z.iface.facts (object_of z.iface.facts w.history) es) (sound_es z set w b boots (Some v) stub k es drawn) stub.told call id
      least_es = least_row z.iface (object_from z.iface.facts (object_of z.iface.facts w.history) es) (sound_es z set w b boots (Some v) stub k es drawn) stub.told call id first_es

      -- its parent is none or whole
      pub parent_es : (r.parent ≡ 0) ⊎ ((is_live (object_from z.iface.facts (object_of z.iface.facts w.history) es).rows r.parent ≡ true) × (stub.told r.parent ≡ complete))
      parent_es =
          let one : Some least_es.row ≡ Some r = sym least_es.there ∙ id_es in
          let rows_are : least_es.row ≡ r = cc one in
          whole (subst (λ x. (x.parent ≡ 0) ⊎ ((is_live (object_from z.iface.facts (object_of z.iface.facts w.history) es).rows x.parent ≡ true) × (is_complete (stub.told x.parent) ≡ true))) rows_are least_es.parent)
        where
          whole : (r.parent ≡ 0) ⊎ ((is_live (object_from z.iface.facts (object_of z.iface.facts w.history) es).rows r.parent ≡ true) × (is_complete (stub.told r.parent) ≡ true))
              → (r.parent ≡ 0) ⊎ ((is_live (object_from z.iface.facts (object_of z.iface.facts w.history) es).rows r.parent ≡ true) × (stub.told r.parent ≡ complete))
          whole (inl root) = inl root
          whole (inr full) = inr (full.0, told_is (stub.told r.parent) full.1)

    -- ---- in the service

    so_far : IsSoFar z.iface z.walks stub.names v r (stub.told id)
    so_far = subst (λ n. IsSoFar z.iface z.walks stub.names v r (stub.told n)) id_is (up.in_recovery.rows r (row_es ws (all_drawn z set w b boots (Some v) stub k)))

    pub reach_r : IsReachable z.iface r.made r.state (set_of r)
    reach_r = reach_at z.iface (object_from z.iface.facts (object_of z.iface.facts w.history) ws).rows r.id r (reachable_es z set w b boots (Some v) stub k ws (all_drawn z set w b boots (Some v) stub k))
        (row_es ws (all_drawn z set w b boots (Some v) stub k))

    parent_whole : ParentIsWhole stub.names (object_from z.iface.facts (object_of z.iface.facts w.history) (held_in (length (b ∷ boots)) w.seats)) v r
    parent_whole = by (parent_es ws (all_drawn z set w b boots (Some v) stub k))
      where
        by : (r.parent ≡ 0) ⊎ ((is_live (object_from z.iface.facts (object_of z.iface.facts w.history) (held_in (length (b ∷ boots)) w.seats)).rows r.parent ≡ true) × (stub.told r.parent ≡ complete))
            → ParentIsWhole stub.names (object_from z.iface.facts (object_of z.iface.facts w.history) (held_in (length (b ∷ boots)) w.seats)) v r
        by (inl root) = inl root
        by (inr full) =
            let x = row_of_live (object_from z.iface.facts (object_of z.iface.facts w.history) (held_in (length (b ∷ boots)) w.seats)).rows r.parent full.0 in
            let there_x = ap (row_at (object_from z.iface.facts (object_of z.iface.facts w.history) (held_in (length (b ∷ boots)) w.seats)).rows) x.2 ∙ x.1 in
            let told_x : stub.told x.0.id ≡ complete = ap stub.told x.2 ∙ full.1 in
            inr (record { row = x.0; of = x.1; whole = subst (IsSoFar z.iface z.walks stub.names v x.0) told_x (up.in_recovery.rows x.0 there_x) })

    -- there is a next call of its walk
    pub record HasNext : Type 0 where
      pub done : List ℕ
      pub fun : ℕ
      pub rest : List ℕ
      pub walk : walk_in z.walks (Some r) ≡ Some (done ++ fun ∷ rest)
      pub tells : TellsCalls (stub.told id) (length done)

    pub has_next : HasNext
    has_next = by (stub.told id) refl so_far least.part
      where
        its : (walk : List ℕ) × (walk_in z.walks (Some r) ≡ Some walk) × IsWalkOf z.iface walk r.made r.state (set_of r)
        its = walk_is z.iface z.walks r set.tables reach_r

        from : (t : Told) → stub.told id ≡ t → (walk : List ℕ) → walk_in z.walks (Some r) ≡ Some walk → (n : ℕ) → ((m : ℕ) → m ≡ n → TellsCalls t m) → n < length walk → HasNext
        from t told walk is n tells less =
            let cut = cut_at n walk less in
            record {
              done = cut.done;
              fun = cut.fun;
              rest = cut.rest;
              walk = is ∙ ap (λ l. Some l) cut.is;
              tells = subst (λ x. TellsCalls x (length cut.done)) (sym told) (tells (length cut.done) cut.long);
            }

        by : (t : Told) → stub.told id ≡ t → IsSoFar z.iface z.walks stub.names v r t → is_complete (stub.told id) ≡ false → HasNext
        by fresh told far part = from fresh told its.0 its.1 0 (λ m is. is) (some_walk z.iface its.0 r.made r.state (set_of r) its.2)
        by (begun n) told far part = from (begun n) told far.walk far.its n (λ m is. is) far.left
        by complete told far part = absurd (let wrong : true ≡ false = sym (ap is_complete told) ∙ part in cc wrong)

    module _ (done rest : List ℕ) (fun : ℕ) (walk : walk_in z.walks (Some r) ≡ Some (done ++ fun ∷ rest)) (tells : TellsCalls (stub.told id) (length done)) where
      pub its_walk : IsWalkOf z.iface (done ++ fun ∷ rest) r.made r.state (set_of r)
      its_walk =
          let its = walk_is z.iface z.walks r set.tables reach_r in
          let both : Some its.0 ≡ Some (done ++ fun ∷ rest) = sym its.1 ∙ walk in
          let same : its.0 ≡ done ++ fun ∷ rest = cc both in
          subst (λ l. IsWalkOf z.iface l r.made r.state (set_of r)) same its.2

      -- where nothing is told nothing is done, and the other way round
      pub none_done : stub.told id ≡ fresh → done ≡ []
      none_done is = empty done (subst (λ t. TellsCalls t (length done)) is tells)
        where
          empty : (ds : List ℕ) → length ds ≡ 0 → ds ≡ []
          empty [] n = refl
          empty (d ∷ ds) n = absurd (omega (arith, n))

      pub is_new : done ≡ [] → stub.told id ≡ fresh
      is_new none = by (stub.told id) refl (subst (λ l. TellsCalls (stub.told id) (length l)) none tells) so_far
        where
          by : (t : Told) → stub.told id ≡ t → TellsCalls (stub.told id) 0 → IsSoFar z.iface z.walks stub.names v r t → stub.told id ≡ fresh
          by fresh told n far = told
          by (begun m) told n far = absurd (let zero_it : 0 ≡ m = subst (λ t. TellsCalls t 0) told n in let some = far.first in omega (arith, zero_it, some))
          by complete told n far = absurd (let wrong : true ≡ false = sym (ap is_complete told) ∙ least.part in cc wrong)

      at_now : IsAt z.iface stub.names v r done
      at_now = by (stub.told id) refl tells least.part so_far
        where
          none : (ds : List ℕ) → length ds ≡ 0 → named stub.names r.id ≡ 0 → IsAt z.iface stub.names v r ds
          none [] n is = is
          none (d ∷ ds) n is = absurd (omega (arith, n))

          by : (t : Told) → stub.told id ≡ t → TellsCalls (stub.told id) (length done) → is_complete (stub.told id) ≡ false → IsSoFar z.iface z.walks stub.names v r t → IsAt z.iface stub.names v r done
          by fresh told n part far = none done (subst (λ t. TellsCalls t (length done)) told n) far
          by (begun m) told n part far =
              let both : Some far.walk ≡ Some (done ++ fun ∷ rest) = sym far.its ∙ walk in
              let same : far.walk ≡ done ++ fun ∷ rest = cc both in
              let long : length done ≡ m = subst (λ t. TellsCalls t (length done)) told n in
              subst (IsAt z.iface stub.names v r) (ap (λ x. take x far.walk) (sym long) ∙ ap (take (length done)) same ∙ take_done done (fun ∷ rest)) far.at
          by complete told n part far = absurd (let wrong : true ≡ false = sym (ap is_complete told) ∙ part in cc wrong)

      -- the call may be asked, is answered Ok, and brings the row one step on
      pub step_now : IsStepped z.iface z.ask z.walks stub.names stub.told stub.present (object_from z.iface.facts (object_of z.iface.facts w.history) (held_in (length (b ∷ boots)) w.seats)) v r done rest fun
      step_now =
          let all = all_drawn z set w b boots (Some v) stub k in
          stepped z.iface z.ask z.sound z.walks stub.names stub.told stub.present (object_from z.iface.facts (object_of z.iface.facts w.history) ws) v set.law set.fits
          (good_es z set w b boots (Some v) stub k ws all) (reachable_es z set w b boots (Some v) stub k ws all) up.in_recovery counted few r done rest fun (row_es ws all) walk its_walk at_now parent_whole
        where
          come : (object_from z.iface.facts (object_of z.iface.facts w.history) (held_in (length (b ∷ boots)) w.seats)).given ≤ length w.history
          come =
              let same = after_same z.iface.facts z.ask z.sound set.law o ws call.client (good_now z set w b boots (Some v) stub k) (time_es z set w b boots (Some v) stub k ws (all_drawn z set w b boots (Some v) stub k))
              k.waiting let_in.none_by in
              let given = k.object.given in
              let is : (object_from z.iface.facts (object_of z.iface.facts w.history) (held_in (length (b ∷ boots)) w.seats)).given ≡ (object_of z.iface.facts w.history).given = same.2 in
              omega (arith, given, is)

          far : slow + 9 * length w.history + 256 < 2 ^ 63
          far = far_now z set w b boots (Some v) stub k

          counted : CountedBelow (2 ^ 63) z.iface.facts v.rows
          counted = counted_below z.iface.facts stub.told (length w.history) (object_from z.iface.facts o ws) v up.numbers come (omega (arith, far))

          few : v.given < 2 ^ 63
          few = let given = up.numbers.given in omega (arith, given, come, far)
