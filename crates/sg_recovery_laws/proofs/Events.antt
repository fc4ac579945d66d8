-- Where an item is noted last, and that the service was rebooted as it should be.
use Rattle.std.proofs.Common.{◌≡◌, ℕ, false, ◌≢◌, List, [], ◌∷◌, ◌++◌, IsSome, refl, sym, subst}
use Rattle.sg_facts.specs.sg_base.Lists.{Each}
use Rattle.sg_facts.specs.declared.outcome.Outcome.{Outcome}
use Rattle.sg_facts.specs.declared.outcome.Outcome.TheVariants.{Replied, Blocks, Stopped, NoMemory}
use Rattle.sg_facts.specs.declared.trace.Item.{Item}
use Rattle.sg_facts.specs.declared.trace.Tag.{Tag}
use Rattle.sg_facts.specs.declared.trace.Tag.TheVariants.{Walk, Load, Client}
use Rattle.sg_facts.specs.Facts.{Facts}
use Rattle.sg_facts.specs.Legal.{Table}
use Rattle.sg_facts.specs.Trace.{Boot}
use Rattle.sg_hist.proofs.Growing.{places-more}
use Rattle.sg_recovery_laws.proofs.Lists.{each_append, each_push, each_split}
use Rattle.sg_recovery_laws.proofs.Same.{again, again_is}
use Rattle.sg_hist.specs.Growing.{AreGrown, HasOneMore, IsGrown, booted, last_stop, noted, place_after, struck}
use Rattle.sg_hist.specs.Reading.{Position, items_after, items_of, places_from, places_in}
use Rattle.sg_hist.specs.Recovered.{AreStopped, IsRebooted, ends_stopped}
use Rattle.sg_hist.specs.Inside.Parts.{AskedAs, IsLastIfStopped, is_stopped}

-- ---- the place of the item that is noted last

pub own_item : (older : List Item) (b : Boot) (boots : List Boot) (item : Item) → (place_after older (b ∷ boots) item).item ≡ item
own_item older b [] item = refl
own_item older b (c ∷ boots) item = own_item (older ++ b.items) c boots item

pub no_after : (older : List Item) (b : Boot) (boots : List Boot) (item : Item) → items_after (place_after older (b ∷ boots) item) ≡ []
no_after older b [] item = refl
no_after older b (c ∷ boots) item = no_after (older ++ b.items) c boots item

-- what holds of each place, grown, and of the last, holds of all places
carried : (item : Item) (P Q : Position → Type 0) (ps qs : List Position) → ((p q : Position) → IsGrown item p q → P p → Q q) → AreGrown item ps qs → Each P ps → Each Q qs
carried item P Q [] [] so g all = tt
carried item P Q [] (q ∷ qs) so g all = absurd g
carried item P Q (p ∷ ps) [] so g all = absurd g
carried item P Q (p ∷ ps) (q ∷ qs) so g all = (so p q g.0 all.0, carried item P Q ps qs so g.1 all.1)

pub with_last : (item : Item) (last : Position) (P Q : Position → Type 0) (ps qs : List Position) → HasOneMore item last ps qs → ((p q : Position) → IsGrown item p q → P p → Q q)
    → Q last → Each P ps → Each Q qs
with_last item last P Q ps qs more so one all =
    subst (Each Q) (sym more.are) (each_push Q more.grown last (carried item P Q ps more.grown so more.each all) one)

-- ---- reboots

asked_again : (facts : Facts) (ask : Table) (item : Item) (p q : Position) → IsGrown item p q → AskedAs facts ask p p.item.tag → AskedAs facts ask q q.item.tag
asked_again facts ask item p q g asked =
    subst (λ v. AskedAs facts ask v v.item.tag) (again_is item p q g) (by p.item.tag asked)
  where
    by : (tag : Tag) → AskedAs facts ask p tag → AskedAs facts ask (again p q.rest q.newer) tag
    by (Load key client) asked = tt
    by (Walk id k client) asked = asked
    by (Client client seq) asked = asked

abbrev StopsLast : List Item → Type 0
StopsLast [] = Unit {0}
StopsLast (x ∷ items) = IsLastIfStopped items x.outcome × StopsLast items

stops_from : (older front items newer : List Item) → Each (λ p. IsLastIfStopped p.rest p.item.outcome) (places_in older front items newer) → StopsLast items
stops_from older front [] newer all = tt
stops_from older front (x ∷ items) newer all = (all.0, stops_from older (front ++ x ∷ []) items newer all.1)

stops_to : (older front items newer : List Item) → StopsLast items → Each (λ p. IsLastIfStopped p.rest p.item.outcome) (places_in older front items newer)
stops_to older front [] newer all = tt
stops_to older front (x ∷ items) newer all = (all.0, stops_to older (front ++ x ∷ []) items newer all.1)

may_stop : (outcome : Outcome) → IsLastIfStopped [] outcome
may_stop Stopped = refl
may_stop (Replied reply patch) = tt
may_stop Blocks = tt
may_stop NoMemory = tt

goes_on : (rest : List Item) (outcome : Outcome) → is_stopped outcome ≡ false → IsLastIfStopped rest outcome
goes_on rest Stopped not_so = absurd cc
goes_on rest (Replied reply patch) not_so = tt
goes_on rest Blocks not_so = tt
goes_on rest NoMemory not_so = tt

not_stopped : (x : Item) (rest more : List Item) (outcome : Outcome) → IsLastIfStopped (x ∷ rest) outcome → IsLastIfStopped more outcome
not_stopped x rest more Stopped is = absurd cc
not_stopped x rest more (Replied reply patch) is = tt
not_stopped x rest more Blocks is = tt
not_stopped x rest more NoMemory is = tt

stops_more : (items : List Item) (item : Item) → ends_stopped items ≡ false → StopsLast items → StopsLast (items ++ item ∷ [])
stops_more [] item running all = (may_stop item.outcome, tt)
stops_more (x ∷ []) item running all = (goes_on (item ∷ []) x.outcome running, (may_stop item.outcome, tt))
stops_more (x ∷ y ∷ items) item running all =
    (not_stopped y items ((y ∷ items) ++ item ∷ []) x.outcome all.0, stops_more (y ∷ items) item running all.1)

last_more : (older : List Item) (b : Boot) (boots : List Boot) (item : Item) → ends_stopped (place_after older (b ∷ boots) item).front ≡ false
    → Each (λ p. IsLastIfStopped p.rest p.item.outcome) (places_from older (b ∷ boots))
    → Each (λ p. IsLastIfStopped p.rest p.item.outcome) (places_from older (noted (b ∷ boots) item))
last_more older b [] item running all =
    let P : Position → Type 0 = λ p. IsLastIfStopped p.rest p.item.outcome in
    let before = each_split P (places_in older [] b.items []) [] all in
    each_append P (places_in older [] (b.items ++ item ∷ []) []) []
    (stops_to older [] (b.items ++ item ∷ []) [] (stops_more b.items item running (stops_from older [] b.items [] before.0))) tt
last_more older b (c ∷ boots) item running all =
    let P : Position → Type 0 = λ p. IsLastIfStopped p.rest p.item.outcome in
    let both = each_split P (places_in older [] b.items (items_of (c ∷ boots))) (places_from (older ++ b.items) (c ∷ boots)) all in
    each_append P (places_in older [] b.items (items_of (noted (c ∷ boots) item))) (places_from (older ++ b.items) (noted (c ∷ boots) item))
    (stops_to older [] b.items (items_of (noted (c ∷ boots) item)) (stops_from older [] b.items (items_of (c ∷ boots)) both.0))
    (last_more (older ++ b.items) c boots item running both.1)

stopped_noted : (b : Boot) (boots : List Boot) (item : Item) → AreStopped (b ∷ boots) → AreStopped (noted (b ∷ boots) item)
stopped_noted b [] item are = tt
stopped_noted b (c ∷ []) item are = (are.0, tt)
stopped_noted b (c ∷ d ∷ boots) item are = (are.0, stopped_noted c (d ∷ boots) item are.1)

pub stopped_struck : (boots : List Boot) (stop : ℕ) → AreStopped boots → AreStopped (struck boots stop)
stopped_struck [] stop are = tt
stopped_struck (b ∷ []) stop are = tt
stopped_struck (b ∷ c ∷ []) stop are = (are.0, tt)
stopped_struck (b ∷ c ∷ d ∷ boots) stop are = (are.0, stopped_struck (c ∷ d ∷ boots) stop are.1)

pub stopped_booted : (b : Boot) (boots : List Boot) → IsSome (last_stop (b ∷ boots)) → AreStopped (b ∷ boots) → AreStopped (booted (b ∷ boots))
stopped_booted b [] last are = (last, tt)
stopped_booted b (c ∷ boots) last are = (are.0, stopped_booted c boots last are.1)

pub reboots_noted : (facts : Facts) (ask : Table) (b : Boot) (boots : List Boot) (points later : ℕ) (item : Item)
    → ends_stopped (place_after [] (b ∷ boots) item).front ≡ false
    → AskedAs facts ask (place_after [] (b ∷ boots) item) (place_after [] (b ∷ boots) item).item.tag
    → IsRebooted facts ask (record { boots = b ∷ boots; points = points })
    → IsRebooted facts ask (record { boots = noted (b ∷ boots) item; points = later })
reboots_noted facts ask b boots points later item running asked r = record {
  booted = some b boots;
  table = with_last item (place_after [] (b ∷ boots) item) (λ p. AskedAs facts ask p p.item.tag) (λ p. AskedAs facts ask p p.item.tag)
      (places_from [] (b ∷ boots)) (places_from [] (noted (b ∷ boots) item)) (places-more [] b boots item) (asked_again facts ask item) asked r.table;
  stopped = stopped_noted b boots item r.stopped;
  last = last_more [] b boots item running r.last;
}
  where
    some : (b : Boot) (boots : List Boot) → noted (b ∷ boots) item ≢ []
    some b [] is = absurd (cc is)
    some b (c ∷ boots) is = absurd (cc is)
