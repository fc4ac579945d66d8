-- A play whose service stopped makes no visible entry any more that has its item in the first boot.
use Rattle.std.proofs.Common.{◌≡◌, ◌≢◌, ℕ, Bool, true, false, not, List, [], ◌∷◌, ◌++◌, None, Some, IsSome, refl, sym, ◌∙◌, ap, append-nil, append_assoc}
use Rattle.std.specs.Prelude.{◌&&◌, ◌||◌}
use Rattle.std.specs.List.{list_any}
use Rattle.std.specs.declared.option.Option.{Option}
use Rattle.std.proofs.lemmas.List.Folds.{list_any-append}
use Rattle.sg_facts.specs.declared.entry.Entry.{Entry}
use Rattle.sg_facts.specs.declared.trace.Item.{Item}
use Rattle.sg_facts.specs.Facts.{Facts, is_visible}
use Rattle.sg_facts.specs.Object.{Object}
use Rattle.sg_facts.specs.Trace.{Boot}
use Rattle.sg_plain.specs.sg_hist.Reading.{is_by_guard, is_item_of, items_of}
use Rattle.sg_plain.specs.Inside.Turns.{stage_after}
use Rattle.sg_plain.specs.Promises.{is_in_first_boot}
use Rattle.sg_plain.proofs.sg_hist.Growing.{items_booted, items_more, items_struck}
use Rattle.sg_plain.specs.sg_hist.Growing.{booted, noted, struck}
use Rattle.sg_plain.specs.sg_script.declared.script.Script.{Script}
use Rattle.sg_world.specs.sg_world_laws.Setting.{Setting}
use Rattle.sg_play.specs.Asked.{are_asked_so}
use Rattle.sg_play.specs.Following.Asking.{asked_by}
use Rattle.sg_play.specs.Following.Follows.{IsPastStop}
use Rattle.sg_play.proofs.Following.Created.{any_left, any_right}

-- ---- boots that grow

some_noted : (b : Boot) (boots : List Boot) (item : Item) → noted (b ∷ boots) item ≢ []
some_noted b [] item none = cc none
some_noted b (c ∷ boots) item none = cc none

some_struck : (b : Boot) (boots : List Boot) (stop : ℕ) → struck (b ∷ boots) stop ≢ []
some_struck b [] stop none = cc none
some_struck b (c ∷ boots) stop none = cc none

some_booted : (boots : List Boot) → booted boots ≢ []
some_booted [] none = cc none
some_booted (b ∷ boots) none = cc none

-- ---- entries that aren't of the first boot alone

fails : (a g f n m : Bool) → (n ≡ true → m ≡ true) → (a && g && f && not n) ≡ false → (a && g && f && not m) ≡ false
fails true true true true m so is = ap not (so refl)
fails true true true false m so is = absurd (cc is)
fails true true false n m so is = refl
fails true false f n m so is = refl
fails false g f n m so is = refl

module _ (facts : Facts) (first : Boot) (newer grown : List Boot) (more : (test : Item → Bool) → list_any test (items_of newer) ≡ true → list_any test (items_of grown) ≡ true) where
  -- who isn't stays so while later boots grow
  later_on : (es : List Entry) → list_any (is_in_first_boot facts (first ∷ newer)) es ≡ false → list_any (is_in_first_boot facts (first ∷ grown)) es ≡ false
  later_on [] none = refl
  later_on (e ∷ es) none =
      by (is_in_first_boot facts (first ∷ newer) e) (list_any (is_in_first_boot facts (first ∷ newer)) es) none
      (fails (is_visible facts e.call.fun) (not (is_by_guard e.reply)) (list_any (is_item_of e) first.items) (list_any (is_item_of e) (items_of newer)) (list_any (is_item_of e) (items_of grown)) (more (is_item_of e)))
      (later_on es)
    where
      by : (a b : Bool) → (a || b) ≡ false → (a ≡ false → is_in_first_boot facts (first ∷ grown) e ≡ false) → (b ≡ false → list_any (is_in_first_boot facts (first ∷ grown)) es ≡ false)
          → (is_in_first_boot facts (first ∷ grown) e || list_any (is_in_first_boot facts (first ∷ grown)) es) ≡ false
      by false b none own rest = ap (λ t. t || list_any (is_in_first_boot facts (first ∷ grown)) es) (own refl) ∙ rest none
      by true b none own rest = absurd (cc none)

-- an entry of a call that isn't visible, and one of a refusal by the guard
pub hidden_later : (facts : Facts) (boots : List Boot) (e : Entry) → is_visible facts e.call.fun ≡ false → is_in_first_boot facts boots e ≡ false
hidden_later facts [] e hidden = refl
hidden_later facts (b ∷ boots) e hidden = ap (λ v. v && not (is_by_guard e.reply) && list_any (is_item_of e) b.items && not (list_any (is_item_of e) (items_of boots))) hidden

pub guard_later : (facts : Facts) (boots : List Boot) (e : Entry) → is_by_guard e.reply ≡ true → is_in_first_boot facts boots e ≡ false
guard_later facts [] e guards = refl
guard_later facts (b ∷ boots) e guards =
    nothing (is_visible facts e.call.fun) (is_by_guard e.reply) (list_any (is_item_of e) b.items) (not (list_any (is_item_of e) (items_of boots))) guards
  where
    nothing : (a g f n : Bool) → g ≡ true → (a && not g && f && n) ≡ false
    nothing true true f n is = refl
    nothing false g f n is = refl
    nothing true false f n is = absurd (cc is)

-- one whose item is noted in a later boot
noted_later : (facts : Facts) (first b : Boot) (boots : List Boot) (item : Item) (e : Entry) → is_item_of e item ≡ true → is_in_first_boot facts (first ∷ noted (b ∷ boots) item) e ≡ false
noted_later facts first b boots item e own =
    fails (is_visible facts e.call.fun) (not (is_by_guard e.reply)) (list_any (is_item_of e) first.items) true (list_any (is_item_of e) (items_of (noted (b ∷ boots) item)))
    (λ yes_so. ap (list_any (is_item_of e)) (items_more b boots item) ∙ any_right (is_item_of e) (items_of (b ∷ boots)) (item ∷ []) (ap (λ t. t || false) own))
    (nothing (is_visible facts e.call.fun) (not (is_by_guard e.reply)) (list_any (is_item_of e) first.items))
  where
    nothing : (a b c : Bool) → (a && b && c && false) ≡ false
    nothing true true true = refl
    nothing true true false = refl
    nothing true false c = refl
    nothing false b c = refl

-- ---- events

module _ (z : Setting) (script : Script) (history : List Entry) (boots : List Boot) (running : Option Object) (s : IsPastStop z script history boots running) where
  -- an entry that has no item in the first boot, or isn't visible
  pub stopped_entered : (e : Entry) → is_in_first_boot z.iface.facts boots e ≡ false → IsPastStop z script (history ++ e ∷ []) boots running
  stopped_entered e not_first = record {
    first = s.first;
    newer = s.newer;
    are = s.are;
    stopped = s.stopped;
    again = s.again;
    turns = s.turns;
    more = s.more ++ e ∷ [];
    entries = ap (λ h. h ++ e ∷ []) s.entries ∙ append_assoc (stage_after z.iface z.ask script s.turns).history s.more (e ∷ []);
    later = list_any-append (is_in_first_boot z.iface.facts boots) s.more (e ∷ []) ∙ both (list_any (is_in_first_boot z.iface.facts boots) s.more) (is_in_first_boot z.iface.facts boots e) s.later not_first;
    asked = s.asked;
    asks = s.asks;
  }
    where
      both : (a b : Bool) → a ≡ false → b ≡ false → (a || (b || false)) ≡ false
      both false false x y = refl
      both true b x y = absurd (cc x)
      both false true x y = absurd (cc y)

  -- later boots grow
  grown_to : (grown : List Boot) (now : List Boot) (up : Option Object) → now ≡ s.first ∷ grown → grown ≢ [] → ((test : Item → Bool) → list_any test (items_of s.newer) ≡ true → list_any test (items_of grown) ≡ true)
      → IsPastStop z script history now up
  grown_to grown now up is some more = record {
    first = s.first;
    newer = grown;
    are = is;
    stopped = s.stopped;
    again = λ runs. some;
    turns = s.turns;
    more = s.more;
    entries = s.entries;
    later = ap (λ b. list_any (is_in_first_boot z.iface.facts b) s.more) is
        ∙ later_on z.iface.facts s.first s.newer grown more s.more (ap (λ b. list_any (is_in_first_boot z.iface.facts b) s.more) (sym s.are) ∙ s.later);
    asked = s.asked;
    asks = s.asks;
  }

  pub stopped_booted : (up : Option Object) → IsPastStop z script history (booted boots) up
  stopped_booted up = grown_to (booted s.newer) (booted boots) up (ap booted s.are) (some_booted s.newer) (λ test is. ap (list_any test) (items_booted s.newer) ∙ is)

  module _ (runs : IsSome running) where
    -- an item is noted
    pub stopped_noted : (item : Item) (up : Option Object) → IsPastStop z script history (noted boots item) up
    stopped_noted item up = by s.newer refl
      where
        by : (newer : List Boot) → s.newer ≡ newer → IsPastStop z script history (noted boots item) up
        by [] none = absurd (s.again runs none)
        by (b ∷ newer) is = grown_to (noted (b ∷ newer) item) (noted boots item) up (ap (λ l. noted l item) (s.are ∙ ap (λ l. s.first ∷ l) is)) (some_noted b newer item)
            (λ test any. ap (list_any test) (items_more b newer item) ∙ any_left test (items_of (b ∷ newer)) (item ∷ []) (ap (λ l. list_any test (items_of l)) (sym is) ∙ any))

    -- the service stops again
    pub stopped_again : (stop : ℕ) (up : Option Object) → IsPastStop z script history (struck boots stop) up
    stopped_again stop up = by s.newer refl
      where
        by : (newer : List Boot) → s.newer ≡ newer → IsPastStop z script history (struck boots stop) up
        by [] none = absurd (s.again runs none)
        by (b ∷ newer) is = grown_to (struck (b ∷ newer) stop) (struck boots stop) up (ap (λ l. struck l stop) (s.are ∙ ap (λ l. s.first ∷ l) is)) (some_struck b newer stop)
            (λ test any. ap (list_any test) (items_struck (b ∷ newer) stop) ∙ ap (λ l. list_any test (items_of l)) (sym is) ∙ any)

    -- an entry is noted with its item
    own_later : (item : Item) (e : Entry) → is_item_of e item ≡ true → is_in_first_boot z.iface.facts (noted boots item) e ≡ false
    own_later item e own = by s.newer refl
      where
        by : (newer : List Boot) → s.newer ≡ newer → is_in_first_boot z.iface.facts (noted boots item) e ≡ false
        by [] none = absurd (s.again runs none)
        by (b ∷ newer) is = ap (λ l. is_in_first_boot z.iface.facts (noted l item) e) (s.are ∙ ap (λ l. s.first ∷ l) is) ∙ noted_later z.iface.facts s.first b newer item e own

-- an entry is committed with its item
pub stopped_committed : (z : Setting) (script : Script) (history : List Entry) (boots : List Boot) (running : Option Object) (s : IsPastStop z script history boots running) → IsSome running
    → (item : Item) (e : Entry) → is_item_of e item ≡ true → (up : Option Object) → IsPastStop z script (history ++ e ∷ []) (noted boots item) up
stopped_committed z script history boots running s runs item e own up =
    stopped_entered z script history (noted boots item) up (stopped_noted z script history boots running s runs item up) e (own_later z script history boots running s runs item e own)

-- ---- the first stop

pub stops_first : (z : Setting) (script : Script) (history : List Entry) (boots : List Boot) (items : List Item) (stop turns : ℕ) → boots ≡ record { items = items; stop = Some stop } ∷ []
    → history ≡ (stage_after z.iface z.ask script turns).history → (asked : ℕ) → are_asked_so items (asked_by z.iface z.ask script asked) ≡ true → IsPastStop z script history boots None
stops_first z script history boots items stop turns are is asked asks = record {
  first = record { items = items; stop = Some stop };
  newer = [];
  are = are;
  stopped = refl;
  again = λ runs. absurd (cc runs);
  turns = turns;
  more = [];
  entries = is ∙ sym (append-nil (stage_after z.iface z.ask script turns).history);
  later = refl;
  asked = asked;
  asks = asks;
}
