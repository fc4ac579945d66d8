-- The places of a run where an item is noted, the service stops or is booted, as far as waits go.
use Rattle.std.proofs.Common.{◌≡◌, ◌≢◌, ℕ, suc, length, List, [], ◌∷◌, ◌++◌, refl, ◌∙◌, ap}
use Rattle.sg_facts.specs.declared.trace.Item.{Item}
use Rattle.sg_facts.specs.Trace.{Boot}
use Rattle.sg_recovery_laws.specs.sg_hist.Reading.{last_items, older_items, places_in, last_places}
use Rattle.sg_recovery_laws.proofs.InBoots.{older_noted}
use Rattle.sg_recovery_laws.specs.sg_hist.Growing.{booted, noted, struck}

-- ---- the last boot

pub items_noted : (b : Boot) (boots : List Boot) (item : Item) → last_items (noted (b ∷ boots) item) ≡ last_items (b ∷ boots) ++ item ∷ []
items_noted b [] item = refl
items_noted b (c ∷ []) item = refl
items_noted b (c ∷ d ∷ boots) item = items_noted c (d ∷ boots) item

pub items_struck : (boots : List Boot) (stop : ℕ) → last_items (struck boots stop) ≡ last_items boots
items_struck [] stop = refl
items_struck (b ∷ []) stop = refl
items_struck (b ∷ c ∷ []) stop = refl
items_struck (b ∷ c ∷ d ∷ boots) stop = items_struck (c ∷ d ∷ boots) stop

older_struck : (before : List Item) (boots : List Boot) (stop : ℕ) → older_items before (struck boots stop) ≡ older_items before boots
older_struck before [] stop = refl
older_struck before (b ∷ []) stop = refl
older_struck before (b ∷ c ∷ []) stop = refl
older_struck before (b ∷ c ∷ d ∷ boots) stop = older_struck (before ++ b.items) (c ∷ d ∷ boots) stop

pub items_booted : (boots : List Boot) → last_items (booted boots) ≡ []
items_booted [] = refl
items_booted (b ∷ []) = refl
items_booted (b ∷ c ∷ boots) = items_booted (c ∷ boots)

pub places_noted : (b : Boot) (boots : List Boot) (item : Item) → last_places (noted (b ∷ boots) item) ≡ places_in (older_items [] (b ∷ boots)) [] (last_items (b ∷ boots) ++ item ∷ []) []
places_noted b boots item =
    ap (λ l. places_in l [] (last_items (noted (b ∷ boots) item)) []) (older_noted [] b boots item) ∙ ap (λ l. places_in (older_items [] (b ∷ boots)) [] l []) (items_noted b boots item)

pub places_last_struck : (boots : List Boot) (stop : ℕ) → last_places (struck boots stop) ≡ last_places boots
places_last_struck boots stop = ap (λ l. places_in l [] (last_items (struck boots stop)) []) (older_struck [] boots stop) ∙ ap (λ l. places_in (older_items [] boots) [] l []) (items_struck boots stop)

pub places_last_booted : (boots : List Boot) → last_places (booted boots) ≡ []
places_last_booted boots = ap (λ l. places_in (older_items [] (booted boots)) [] l []) (items_booted boots)

pub some_item : (items : List Item) (item : Item) → items ++ item ∷ [] ≢ []
some_item [] item is = cc is
some_item (x ∷ items) item is = cc is

pub length_struck : (boots : List Boot) (stop : ℕ) → length (struck boots stop) ≡ length boots
length_struck [] stop = refl
length_struck (b ∷ []) stop = refl
length_struck (b ∷ c ∷ boots) stop = ap suc (length_struck (c ∷ boots) stop)

pub length_noted : (boots : List Boot) (item : Item) → length (noted boots item) ≡ length boots
length_noted [] item = refl
length_noted (b ∷ []) item = refl
length_noted (b ∷ c ∷ boots) item = ap suc (length_noted (c ∷ boots) item)
