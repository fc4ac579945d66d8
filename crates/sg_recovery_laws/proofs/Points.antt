-- Points stay counted, whatever comes next.
use Rattle.std.proofs.Common.{◌≡◌, ◌⊎◌, inl, inr, ℕ, Bool, true, false, ◌&&◌, ◌||◌, if◌then◌else◌, List, [], ◌∷◌, ◌++◌, None, refl, sym, ◌∙◌, ap, subst, arith, append-nil, append_assoc}
use Rattle.std.specs.Prelude.{unwrap_or}
use Rattle.sg_facts.specs.sg_base.Stops.{asked_after}
use Rattle.sg_facts.specs.declared.outcome.Outcome.{Outcome}
use Rattle.sg_facts.specs.declared.outcome.Outcome.TheVariants.{Replied, Blocks, Stopped, NoMemory}
use Rattle.sg_facts.specs.declared.trace.Item.{Item}
use Rattle.sg_facts.specs.Facts.{Facts, is_visible}
use Rattle.sg_facts.specs.Legal.{Table}
use Rattle.sg_facts.specs.Trace.{Boot}
use Rattle.sg_hist.specs.Growing.{asked_over, booted, last_stop, noted, struck}
use Rattle.sg_hist.specs.Reading.{last_items}
use Rattle.sg_hist.specs.Recovered.{ArePoints, ArePointsOf, IsCount, IsStopOf, asked_with_commit, asked_in, ends_committed, ends_stopped, is_clients, is_replied}
use Rattle.sg_hist.specs.Inside.Parts.{IsPointOf, answer_to, is_stopped}

-- ---- an item more in a boot

points_push : (exact : Bool) (facts : Facts) (ask : Table) (parts : ℕ → ℕ) (asked : ℕ) (front items : List Item) (item : Item)
    → ArePoints exact facts ask parts asked front items
    → IsPointOf exact parts (asked_in facts asked items) (answer_to facts ask (front ++ items) item) item.tag item.shown.fun item.outcome item.points
    → ArePoints exact facts ask parts asked front (items ++ item ∷ [])
points_push exact facts ask parts asked front [] item all one =
    (subst (λ f. IsPointOf exact parts asked (answer_to facts ask f item) item.tag item.shown.fun item.outcome item.points) (append-nil front) one, tt)
points_push exact facts ask parts asked front (x ∷ items) item all one = (
  all.0,
  points_push exact facts ask parts (asked_with_commit facts x) (front ++ x ∷ []) items item all.1
      (subst (λ f. IsPointOf exact parts (asked_in facts (asked_with_commit facts x) items) (answer_to facts ask f item) item.tag item.shown.fun item.outcome item.points)
      (sym (append_assoc front (x ∷ []) items)) one),
)

asked_push : (facts : Facts) (asked : ℕ) (items : List Item) (item : Item) → asked_in facts asked (items ++ item ∷ []) ≡ asked_with_commit facts item
asked_push facts asked [] item = refl
asked_push facts asked (x ∷ items) item = asked_push facts (asked_with_commit facts x) items item

stopped_push : (items : List Item) (item : Item) → ends_stopped (items ++ item ∷ []) ≡ is_stopped item.outcome
stopped_push [] item = refl
stopped_push (x ∷ []) item = refl
stopped_push (x ∷ y ∷ items) item = stopped_push (y ∷ items) item

-- an item that stopped is no reply
stopped_asked : (facts : Facts) (item : Item) → is_stopped item.outcome ≡ true → asked_with_commit facts item ≡ item.points
stopped_asked facts item stopped = ap (λ b. if b then asked_after item.points 1 else item.points) (hidden (is_clients item.tag) (is_visible facts item.shown.fun) item.outcome stopped)
  where
    hidden : (a b : Bool) (outcome : Outcome) → is_stopped outcome ≡ true → a && b && is_replied outcome ≡ false
    hidden true true Stopped is = refl
    hidden true false Stopped is = refl
    hidden false b Stopped is = refl
    hidden a b (Replied reply patch) is = absurd cc
    hidden a b Blocks is = absurd cc
    hidden a b NoMemory is = absurd cc

-- ---- the last boot

pub points_noted : (exact : Bool) (facts : Facts) (ask : Table) (parts : ℕ → ℕ) (asked : ℕ) (b : Boot) (boots : List Boot) (points later : ℕ) (item : Item)
    → last_stop (b ∷ boots) ≡ None → is_stopped item.outcome ≡ false
    → IsPointOf exact parts (asked_over facts asked (b ∷ boots)) (answer_to facts ask (last_items (b ∷ boots)) item) item.tag item.shown.fun item.outcome item.points → IsCount exact later (asked_with_commit facts item)
    → ArePointsOf exact facts ask parts asked (b ∷ boots) points → ArePointsOf exact facts ask parts asked (noted (b ∷ boots) item) later
points_noted exact facts ask parts asked b [] points later item running going one count all =
    let n : ℕ = asked_in facts asked b.items in (
      points_push exact facts ask parts asked [] b.items item all.0
          (subst (λ v. IsPointOf exact parts (unwrap_or v n) (answer_to facts ask b.items item) item.tag item.shown.fun item.outcome item.points) running one),
      subst (IsStopOf exact facts (b.items ++ item ∷ []) (asked_in facts asked (b.items ++ item ∷ []))) (sym running) (stopped_push b.items item ∙ going),
      subst (λ v. IsCount exact later (unwrap_or v (asked_in facts asked (b.items ++ item ∷ [])))) (sym running)
          (subst (IsCount exact later) (sym (asked_push facts asked b.items item)) count),
    )
points_noted exact facts ask parts asked b (c ∷ boots) points later item running going one count all =
    (all.0, all.1, points_noted exact facts ask parts (unwrap_or b.stop (asked_in facts asked b.items)) c boots points later item running going one count all.2)

-- an item that stopped, with the stop of its boot
pub points_stopped : (exact : Bool) (facts : Facts) (ask : Table) (parts : ℕ → ℕ) (asked : ℕ) (b : Boot) (boots : List Boot) (points later : ℕ) (item : Item)
    → last_stop (b ∷ boots) ≡ None → is_stopped item.outcome ≡ true
    → IsPointOf exact parts (asked_over facts asked (b ∷ boots)) (answer_to facts ask (last_items (b ∷ boots)) item) item.tag item.shown.fun item.outcome item.points → IsCount exact later item.points
    → ArePointsOf exact facts ask parts asked (b ∷ boots) points → ArePointsOf exact facts ask parts asked (struck (noted (b ∷ boots) item) item.points) later
points_stopped exact facts ask parts asked b [] points later item running stopped one count all =
    let n : ℕ = asked_in facts asked b.items in
    let ends : ends_stopped (b.items ++ item ∷ []) ≡ true = stopped_push b.items item ∙ stopped in (
      points_push exact facts ask parts asked [] b.items item all.0
          (subst (λ v. IsPointOf exact parts (unwrap_or v n) (answer_to facts ask b.items item) item.tag item.shown.fun item.outcome item.points) running one),
      inl (ap (λ v. v || ends_committed facts (b.items ++ item ∷ [])) ends, sym (asked_push facts asked b.items item ∙ stopped_asked facts item stopped)),
      count,
    )
points_stopped exact facts ask parts asked b (c ∷ []) points later item running stopped one count all =
    (all.0, all.1, points_stopped exact facts ask parts (unwrap_or b.stop (asked_in facts asked b.items)) c [] points later item running stopped one count all.2)
points_stopped exact facts ask parts asked b (c ∷ d ∷ boots) points later item running stopped one count all =
    (all.0, all.1, points_stopped exact facts ask parts (unwrap_or b.stop (asked_in facts asked b.items)) c (d ∷ boots) points later item running stopped one count all.2)

-- a stop at the point of the commit before, or at the next, at which the service was about to be used
pub points_struck : (exact : Bool) (facts : Facts) (ask : Table) (parts : ℕ → ℕ) (asked : ℕ) (b : Boot) (boots : List Boot) (points later stop : ℕ)
    → last_stop (b ∷ boots) ≡ None
    → ((ends_committed facts (last_items (b ∷ boots)) ≡ true) × (stop ≡ asked_over facts asked (b ∷ boots))) ⊎ IsCount exact stop (asked_after (asked_over facts asked (b ∷ boots)) 1)
    → IsCount exact later stop
    → ArePointsOf exact facts ask parts asked (b ∷ boots) points → ArePointsOf exact facts ask parts asked (struck (b ∷ boots) stop) later
points_struck exact facts ask parts asked b boots points later stop running at count all = from asked b boots running at all
  where
    n_or : (b : Bool) → b || true ≡ true
    n_or true = refl
    n_or false = refl

    from : (asked : ℕ) (b : Boot) (boots : List Boot) → last_stop (b ∷ boots) ≡ None
        → ((ends_committed facts (last_items (b ∷ boots)) ≡ true) × (stop ≡ asked_over facts asked (b ∷ boots))) ⊎ IsCount exact stop (asked_after (asked_over facts asked (b ∷ boots)) 1)
        → ArePointsOf exact facts ask parts asked (b ∷ boots) points → ArePointsOf exact facts ask parts asked (struck (b ∷ boots) stop) later
    from asked b [] running (inl both) all =
        let n : ℕ = asked_in facts asked b.items in (
          all.0,
          inl (ap (λ v. ends_stopped b.items || v) both.0 ∙ n_or (ends_stopped b.items), both.1 ∙ ap (λ v. unwrap_or v n) running),
          count,
        )
    from asked b [] running (inr next) all =
        let n : ℕ = asked_in facts asked b.items in
        (all.0, inr (subst (IsStopOf exact facts b.items n) running all.1, subst (λ v. IsCount exact stop (asked_after (unwrap_or v n) 1)) running next), count)
    from asked b (c ∷ []) running at all =
        (all.0, all.1, from (unwrap_or b.stop (asked_in facts asked b.items)) c [] running at all.2)
    from asked b (c ∷ d ∷ boots) running at all =
        (all.0, all.1, from (unwrap_or b.stop (asked_in facts asked b.items)) c (d ∷ boots) running at all.2)

-- a boot after one that was stopped
pub points_booted : (exact : Bool) (facts : Facts) (ask : Table) (parts : ℕ → ℕ) (asked : ℕ) (b : Boot) (boots : List Boot) (points : ℕ)
    → ArePointsOf exact facts ask parts asked (b ∷ boots) points → ArePointsOf exact facts ask parts asked (booted (b ∷ boots)) points
points_booted exact facts ask parts asked b [] points all = (all.0, all.1, (tt, refl, all.2))
points_booted exact facts ask parts asked b (c ∷ boots) points all =
    (all.0, all.1, points_booted exact facts ask parts (unwrap_or b.stop (asked_in facts asked b.items)) c boots points all.2)

-- points that were asked by a step that got no memory
pub points_counted : (exact : Bool) (facts : Facts) (ask : Table) (parts : ℕ → ℕ) (asked : ℕ) (boots : List Boot) (points later : ℕ)
    → IsCount exact later (asked_over facts asked boots) → ArePointsOf exact facts ask parts asked boots points → ArePointsOf exact facts ask parts asked boots later
points_counted exact facts ask parts asked [] points later count all = count
points_counted exact facts ask parts asked (b ∷ boots) points later count all =
    (all.0, all.1, points_counted exact facts ask parts (unwrap_or b.stop (asked_in facts asked b.items)) boots points later count all.2)

-- the beginning
pub points_begin : (exact : Bool) (facts : Facts) (ask : Table) (parts : ℕ → ℕ) → ArePointsOf exact facts ask parts 0 (booted []) 0
points_begin true facts ask parts = (tt, refl, refl)
points_begin false facts ask parts = (tt, refl, omega arith)
