-- The points of a world are counted after every step.
use Rattle.std.proofs.Common.{Bool, List, None, Option, Some, [], arith, false, inl, inr, subst, true, ℕ, ◌++◌, ◌∷◌, ◌≡◌, ◌≤◌}
use Rattle.std.specs.Prelude.{unwrap_or}
use Rattle.sg_facts.specs.sg_base.Stops.{asked_after}
use Rattle.sg_facts.specs.sg_base.declared.reply.Reply.{Reply}
use Rattle.sg_facts.specs.sg_base.declared.reply.Reply.TheVariants.{Ok, Refused}
use Rattle.sg_facts.specs.Facts.{Facts}
use Rattle.sg_facts.specs.Legal.{Table}
use Rattle.sg_facts.specs.Trace.{Boot}
use Rattle.sg_facts.specs.declared.outcome.Outcome.{Outcome}
use Rattle.sg_facts.specs.declared.outcome.Outcome.TheVariants.{Blocks, NoMemory, Replied, Stopped}
use Rattle.sg_facts.specs.declared.trace.Item.{Item}
use Rattle.sg_facts.specs.declared.trace.Tag.{Tag}
use Rattle.sg_facts.specs.declared.trace.Tag.TheVariants.{Client, Load, Walk}
use Rattle.sg_replay.specs.sg_hist.Recovered.{ArePoints, ArePointsOf, IsCount, IsPointOfCall, IsStopOf, asked_with_commit, asked_in}
use Rattle.sg_replay.specs.sg_hist.Inside.Parts.{IsPointOf, answer_to}
use Rattle.sg_replay.specs.sg_hist.Growing.{asked_over}

-- ---- counts

-- the count of a run's points, as the sum over its boots
pub sum_is : (exact : Bool) (facts : Facts) (ask : Table) (parts : ℕ → ℕ) (asked : ℕ) (boots : List Boot) (points : ℕ) → ArePointsOf exact facts ask parts asked boots points → IsCount exact points (asked_over facts asked boots)
sum_is exact facts ask parts asked [] points all = all
sum_is exact facts ask parts asked (b ∷ boots) points all = sum_is exact facts ask parts (unwrap_or b.stop (asked_in facts asked b.items)) boots points all.2

-- a count that is exact is also at least so
pub at_least : (exact : Bool) (points sum : ℕ) → IsCount exact points sum → sum ≤ points
at_least true points sum is = omega (arith, is)
at_least false points sum is = is

-- a number of points exactly after another that is counted
pub count_on : (exact : Bool) (n points asked more : ℕ) → IsCount exact points n → asked ≡ asked_after points more → IsCount exact asked (asked_after n more)
count_on true n points asked more is next = omega (arith, is, next)
count_on false n points asked more is next = omega (arith, is, next)

-- the points of an item, where those before it are counted
point_of_call : (exact : Bool) (parts : ℕ → ℕ) (n points : ℕ) (answer : Option Reply) (fun : ℕ) (outcome : Outcome) (own : ℕ) → IsCount exact points n → IsPointOfCall true parts points answer fun outcome own → IsPointOfCall exact parts n answer fun outcome own
point_of_call true parts n points answer fun outcome own is one = subst (λ m. IsPointOfCall true parts m answer fun outcome own) is one
point_of_call false parts n points answer fun (Replied (Ok good) patch) own is one = omega (arith, is, one)
point_of_call false parts n points answer fun (Replied (Refused code) patch) own is one = omega (arith, is, one)
point_of_call false parts n points answer fun Blocks own is one = omega (arith, is, one)
point_of_call false parts n points None fun Stopped own is one = absurd one
point_of_call false parts n points (Some (Ok good)) fun Stopped own is one = (let low = one.0 in omega (arith, is, low), tt)
point_of_call false parts n points (Some (Refused code)) fun Stopped own is one = omega (arith, is, one)
point_of_call false parts n points answer fun NoMemory own is one = absurd one

pub point_of : (exact : Bool) (parts : ℕ → ℕ) (n points : ℕ) (answer : Option Reply) (tag : Tag) (fun : ℕ) (outcome : Outcome) (own : ℕ) → IsCount exact points n → IsPointOf true parts points answer tag fun outcome own → IsPointOf exact parts n answer tag fun outcome own
point_of exact parts n points answer (Walk id k client) fun outcome own is one = point_of_call exact parts n points answer fun outcome own is one
point_of exact parts n points answer (Client client seq) fun outcome own is one = point_of_call exact parts n points answer fun outcome own is one
point_of true parts n points answer (Load key client) fun outcome own is one = subst (λ m. own ≡ asked_after m 1) is one
point_of false parts n points answer (Load key client) fun outcome own is one = omega (arith, is, one)

-- what is counted exactly is counted at least
weak_call : (parts : ℕ → ℕ) (n : ℕ) (answer : Option Reply) (fun : ℕ) (outcome : Outcome) (own : ℕ) → IsPointOfCall true parts n answer fun outcome own → IsPointOfCall false parts n answer fun outcome own
weak_call parts n answer fun outcome own one = point_of_call false parts n n answer fun outcome own (omega arith) one

weak_points : (facts : Facts) (ask : Table) (parts : ℕ → ℕ) (asked : ℕ) (front items : List Item) → ArePoints true facts ask parts asked front items → ArePoints false facts ask parts asked front items
weak_points facts ask parts asked front [] all = tt
weak_points facts ask parts asked front (item ∷ items) all = (
  point_of false parts asked asked (answer_to facts ask front item) item.tag item.shown.fun item.outcome item.points (omega arith) all.0,
  weak_points facts ask parts (asked_with_commit facts item) (front ++ item ∷ []) items all.1,
)

weak_stop : (facts : Facts) (items : List Item) (asked : ℕ) (stop : Option ℕ) → IsStopOf true facts items asked stop → IsStopOf false facts items asked stop
weak_stop facts items asked None is = is
weak_stop facts items asked (Some stop) (inl is) = inl is
weak_stop facts items asked (Some stop) (inr is) = inr (is.0, let one = is.1 in omega (arith, one))

pub weak : (facts : Facts) (ask : Table) (parts : ℕ → ℕ) (asked : ℕ) (boots : List Boot) (points : ℕ) → ArePointsOf true facts ask parts asked boots points → ArePointsOf false facts ask parts asked boots points
weak facts ask parts asked [] points all = omega (arith, all)
weak facts ask parts asked (b ∷ boots) points all = (
  weak_points facts ask parts asked [] b.items all.0,
  weak_stop facts b.items (asked_in facts asked b.items) b.stop all.1,
  weak facts ask parts (unwrap_or b.stop (asked_in facts asked b.items)) boots points all.2,
)

-- counted exactly or at least, it is counted at least
pub weak_of : (exact : Bool) (facts : Facts) (ask : Table) (parts : ℕ → ℕ) (asked : ℕ) (boots : List Boot) (points : ℕ) → ArePointsOf exact facts ask parts asked boots points → ArePointsOf false facts ask parts asked boots points
weak_of true facts ask parts asked boots points all = weak facts ask parts asked boots points all
weak_of false facts ask parts asked boots points all = all
