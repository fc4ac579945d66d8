-- The last of several boots, and what a change of it makes of them.
use Rattle.std.proofs.Common.{◌≡◌, ◌≢◌, ℕ, List, [], ◌∷◌, ◌++◌, None, Some, refl, ap}
use Rattle.std.specs.Prelude.{map}
use Rattle.sg_boot.specs.Inside.Journals.{last_room}
use Rattle.sg_facts.specs.declared.trace.BootLog.{BootLog}
use Rattle.sg_facts.specs.declared.trace.Item.{Item}
use Rattle.sg_facts.specs.Trace.{Boot}
use Rattle.sg_facts.specs.Inside.Rows.{boot_of}
use Rattle.sg_hist.specs.Recovered.{ends_stopped}
use Rattle.sg_hist.specs.Inside.Parts.{is_stopped}
use Rattle.sg_hist.specs.Growing.{booted, last_stop, noted, struck}
use Rattle.sg_hist.specs.Reading.{last_items}

-- ---- boots with room

-- the last of boots is the one at their end
pub room_at_end : (front : List BootLog) (b : BootLog) → last_room (front ++ b ∷ []) ≡ b.items.room
room_at_end [] b = refl
room_at_end (x ∷ []) b = refl
room_at_end (x ∷ y ∷ front) b = room_at_end (y ∷ front) b

-- an item more in the last boot
pub noted_at_end : (front : List BootLog) (b c : BootLog) (item : Item) → c.items.items ≡ b.items.items ++ item ∷ [] → c.stop ≡ b.stop
    → map boot_of (front ++ c ∷ []) ≡ noted (map boot_of (front ++ b ∷ [])) item
noted_at_end [] b c item items stop = cc (items, stop)
noted_at_end (x ∷ []) b c item items stop = cc (items, stop)
noted_at_end (x ∷ y ∷ front) b c item items stop = ap (λ bs. boot_of x ∷ bs) (noted_at_end (y ∷ front) b c item items stop)

-- the last boot ended at a point
pub struck_at_end : (front : List BootLog) (b c : BootLog) (stop : ℕ) → c.items.items ≡ b.items.items → c.stop ≡ Some stop
    → map boot_of (front ++ c ∷ []) ≡ struck (map boot_of (front ++ b ∷ [])) stop
struck_at_end [] b c stop items stops = cc (items, stops)
struck_at_end (x ∷ []) b c stop items stops = cc (items, stops)
struck_at_end (x ∷ y ∷ front) b c stop items stops = ap (λ bs. boot_of x ∷ bs) (struck_at_end (y ∷ front) b c stop items stops)

-- ---- an item more

pub begun_noted : (boots : List Boot) (item : Item) → boots ≢ [] → noted boots item ≢ []
begun_noted [] item begun = λ e. begun refl
begun_noted (b ∷ []) item begun = λ e. cc e
begun_noted (b ∷ c ∷ boots) item begun = λ e. cc e

pub stop_noted : (boots : List Boot) (item : Item) → last_stop (noted boots item) ≡ last_stop boots
stop_noted [] item = refl
stop_noted (b ∷ []) item = refl
stop_noted (b ∷ c ∷ []) item = refl
stop_noted (b ∷ c ∷ d ∷ boots) item = stop_noted (c ∷ d ∷ boots) item

pub items_noted : (boots : List Boot) (item : Item) → boots ≢ [] → last_items (noted boots item) ≡ last_items boots ++ item ∷ []
items_noted [] item begun = absurd (begun refl)
items_noted (b ∷ []) item begun = refl
items_noted (b ∷ c ∷ []) item begun = refl
items_noted (b ∷ c ∷ d ∷ boots) item begun = items_noted (c ∷ d ∷ boots) item (λ e. cc e)

-- whether the service stopped within the last item is told by that item
pub stopped_at_end : (items : List Item) (item : Item) → ends_stopped (items ++ item ∷ []) ≡ is_stopped item.outcome
stopped_at_end [] item = refl
stopped_at_end (x ∷ []) item = refl
stopped_at_end (x ∷ y ∷ items) item = stopped_at_end (y ∷ items) item

-- ---- a stop

pub begun_struck : (boots : List Boot) (stop : ℕ) → boots ≢ [] → struck boots stop ≢ []
begun_struck [] stop begun = λ e. begun refl
begun_struck (b ∷ []) stop begun = λ e. cc e
begun_struck (b ∷ c ∷ boots) stop begun = λ e. cc e

pub stop_struck : (boots : List Boot) (stop : ℕ) → boots ≢ [] → last_stop (struck boots stop) ≡ Some stop
stop_struck [] stop begun = absurd (begun refl)
stop_struck (b ∷ []) stop begun = refl
stop_struck (b ∷ c ∷ []) stop begun = refl
stop_struck (b ∷ c ∷ d ∷ boots) stop begun = stop_struck (c ∷ d ∷ boots) stop (λ e. cc e)

-- ---- a boot more

pub begun_booted : (boots : List Boot) → booted boots ≢ []
begun_booted [] = λ e. cc e
begun_booted (b ∷ boots) = λ e. cc e

pub stop_booted : (boots : List Boot) → last_stop (booted boots) ≡ None
stop_booted [] = refl
stop_booted (b ∷ []) = refl
stop_booted (b ∷ c ∷ boots) = stop_booted (c ∷ boots)

pub items_booted : (boots : List Boot) → last_items (booted boots) ≡ []
items_booted [] = refl
items_booted (b ∷ []) = refl
items_booted (b ∷ c ∷ boots) = items_booted (c ∷ boots)
