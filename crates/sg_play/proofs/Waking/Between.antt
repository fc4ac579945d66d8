-- Who waits at the places of a boot is woken between, where the run grows.
use Rattle.std.proofs.Common.{◌≡◌, ℕ, Bool, true, false, not, ◌&&◌, ◌||◌, List, [], ◌∷◌, ◌++◌, refl, sym, ◌∙◌, ap, append_assoc}
use Rattle.std.specs.Prelude.{◌==◌}
use Rattle.std.specs.List.{list_any}
use Rattle.sg_facts.specs.sg_base.Lists.{Each, When}
use Rattle.sg_facts.specs.declared.entry.Entry.{Entry}
use Rattle.sg_facts.specs.declared.trace.Item.{Item}
use Rattle.sg_facts.specs.declared.trace.Tag.{Tag}
use Rattle.sg_facts.specs.declared.trace.Tag.TheVariants.{Walk, Load, Client}
use Rattle.sg_facts.specs.Facts.{Facts}
use Rattle.sg_plain.specs.sg_hist.Reading.{Position, is_tagged, places_in}
use Rattle.sg_plain.specs.Promises.{is_woken_first}
use Rattle.sg_plain.specs.Inside.Kept.{IsWokenBetween}
use Rattle.sg_plain.specs.sg_hist.Wakes.{has_blocked, wakes_at}
use Rattle.sg_plain.proofs.sg_hist.Growing.{in_boot, in_older}
use Rattle.sg_plain.specs.sg_hist.Growing.{AreGrown, IsGrown}
use Rattle.sg_world.specs.sg_recovery_laws.LastItem.LastPlace.{last_place}
use Rattle.sg_world.proofs.sg_world_laws.Ending.Wakers.{any_end, any_front}
use Rattle.sg_play.specs.Waking.Waking.{IsWokenSince, waits_at}
use Rattle.sg_facts.proofs.Replaying.Found.{same_test}

-- ---- tests

pub when_so : (b : Bool) (P Q : Type 0) → (b ≡ true → P → Q) → When b P → When b Q
when_so true P Q so is = so refl is
when_so false P Q so is = tt

pub when_all : (b : Bool) (P : Type 0) → P → When b P
when_all true P is = is
when_all false P is = tt

or_true : (a : Bool) → (a || true) ≡ true
or_true true = refl
or_true false = refl

-- the call of a tag is of its client and number
pub own_tag : (client seq : ℕ) → is_tagged client seq (Client client seq) ≡ true
own_tag client seq = ap (λ b. b && (seq == seq)) (same_test client client refl) ∙ same_test seq seq refl

-- ---- one place more

module _ (facts : Facts) (entries : List Entry) where
  -- one wait more comes first after others only where one of these wakes it
  first_more : (client seq id : ℕ) (ps : List Position) (last : Position) → (waits_at client seq last ≡ true → list_any (wakes_at facts entries id) ps ≡ true)
      → is_woken_first facts entries client seq id ps ≡ true → is_woken_first facts entries client seq id (ps ++ last ∷ []) ≡ true
  first_more client seq id [] last again is = by (waits_at client seq last) refl
    where
      by : (b : Bool) → waits_at client seq last ≡ b → (wakes_at facts entries id last || (not (waits_at client seq last) && true)) ≡ true
      by true waits = absurd (cc (again waits))
      by false waits = ap (λ b. wakes_at facts entries id last || (not b && true)) waits ∙ or_true (wakes_at facts entries id last)
  first_more client seq id (p ∷ ps) last again is =
      by (wakes_at facts entries id p) (waits_at client seq p) again is (first_more client seq id ps last)
    where
      by : (wakes waits : Bool) → (waits_at client seq last ≡ true → (wakes || list_any (wakes_at facts entries id) ps) ≡ true)
          → (wakes || (not waits && is_woken_first facts entries client seq id ps)) ≡ true
          → ((waits_at client seq last ≡ true → list_any (wakes_at facts entries id) ps ≡ true) → is_woken_first facts entries client seq id ps ≡ true
          → is_woken_first facts entries client seq id (ps ++ last ∷ []) ≡ true)
          → (wakes || (not waits && is_woken_first facts entries client seq id (ps ++ last ∷ []))) ≡ true
      by true waits again is rest = refl
      by false false again is rest = rest again is
      by false true again is rest = absurd (cc is)

module _ (facts : Facts) (entries now : List Entry) (x : Item) (same : (id : ℕ) (p q : Position) → IsGrown x p q → wakes_at facts now id q ≡ wakes_at facts entries id p) where
  waits_same : (client seq : ℕ) (p q : Position) → IsGrown x p q → waits_at client seq q ≡ waits_at client seq p
  waits_same client seq p q g = ap (λ item. is_tagged client seq item.tag && has_blocked item.outcome) g.own

  first_grown : (client seq id : ℕ) (ps qs : List Position) → AreGrown x ps qs → is_woken_first facts now client seq id qs ≡ is_woken_first facts entries client seq id ps
  first_grown client seq id [] [] g = refl
  first_grown client seq id [] (q ∷ qs) g = absurd g
  first_grown client seq id (p ∷ ps) [] g = absurd g
  first_grown client seq id (p ∷ ps) (q ∷ qs) g =
      ap (λ b. b || (not (waits_at client seq q) && is_woken_first facts now client seq id qs)) (same id p q g.0)
      ∙ ap (λ b. wakes_at facts entries id p || (not b && is_woken_first facts now client seq id qs)) (waits_same client seq p q g.0)
      ∙ ap (λ b. wakes_at facts entries id p || (not (waits_at client seq p) && b)) (first_grown client seq id ps qs g.1)

  any_grown : (id : ℕ) (ps qs : List Position) → AreGrown x ps qs → list_any (wakes_at facts now id) qs ≡ list_any (wakes_at facts entries id) ps
  any_grown id [] [] g = refl
  any_grown id [] (q ∷ qs) g = absurd g
  any_grown id (p ∷ ps) [] g = absurd g
  any_grown id (p ∷ ps) (q ∷ qs) g = ap (λ b. b || list_any (wakes_at facts now id) qs) (same id p q g.0) ∙ ap (λ b. wakes_at facts entries id p || b) (any_grown id ps qs g.1)

  -- the item stands in a later boot
  pub between_older : (older front items newer : List Item) → Each (λ p. IsWokenBetween facts entries p p.item.tag) (places_in older front items newer)
      → Each (λ p. IsWokenBetween facts now p p.item.tag) (places_in older front items (newer ++ x ∷ []))
  between_older older front [] newer all = tt
  between_older older front (item ∷ rest) newer all = (by item.tag all.0, between_older older (front ++ item ∷ []) rest newer all.1)
    where
      by : (tag : Tag) → IsWokenBetween facts entries (record { older = older; front = front; item = item; rest = rest; newer = newer }) tag
          → IsWokenBetween facts now (record { older = older; front = front; item = item; rest = rest; newer = newer ++ x ∷ [] }) tag
      by (Walk id k client) is = tt
      by (Load key client) is = tt
      by (Client client seq) is =
          when_so (has_blocked item.outcome) (is_woken_first facts entries client seq item.shown.desc (places_in older (front ++ item ∷ []) rest newer) ≡ true)
          (is_woken_first facts now client seq item.shown.desc (places_in older (front ++ item ∷ []) rest (newer ++ x ∷ [])) ≡ true)
          (λ blocks woken. first_grown client seq item.shown.desc (places_in older (front ++ item ∷ []) rest newer) (places_in older (front ++ item ∷ []) rest (newer ++ x ∷ []))
          (in_older older (front ++ item ∷ []) rest newer x) ∙ woken) is

  -- the item stands in this boot; where its call waits, it was woken since it did before
  pub between_last : (older front items : List Item) → Each (λ p. IsWokenBetween facts entries p p.item.tag) (places_in older front items [])
      → ((client seq : ℕ) → (is_tagged client seq x.tag && has_blocked x.outcome) ≡ true → Each (IsWokenSince facts entries client seq) (places_in older front items []))
      → Each (λ p. IsWokenBetween facts now p p.item.tag) (places_in older front (items ++ x ∷ []) [])
  between_last older front [] all again = (by x.tag, tt)
    where
      by : (tag : Tag) → IsWokenBetween facts now (last_place older front x) tag
      by (Walk id k client) = tt
      by (Load key client) = tt
      by (Client client seq) = when_all (has_blocked x.outcome) (true ≡ true) refl
  between_last older front (item ∷ rest) all again =
      (by item.tag refl all.0, between_last older (front ++ item ∷ []) rest all.1 (λ client seq waits. (again client seq waits).1))
    where
      by : (tag : Tag) → item.tag ≡ tag → IsWokenBetween facts entries (record { older = older; front = front; item = item; rest = rest; newer = [] }) tag
          → IsWokenBetween facts now (record { older = older; front = front; item = item; rest = rest ++ x ∷ []; newer = [] }) tag
      by (Walk id k client) tag is = tt
      by (Load key client) tag is = tt
      by (Client client seq) tag is =
          when_so (has_blocked item.outcome) (is_woken_first facts entries client seq item.shown.desc (places_in older (front ++ item ∷ []) rest []) ≡ true)
          (is_woken_first facts now client seq item.shown.desc (places_in older (front ++ item ∷ []) (rest ++ x ∷ []) []) ≡ true)
          (λ blocks woken.
          let more = in_boot older (front ++ item ∷ []) rest x in
          let own : waits_at client seq (record { older = older; front = front; item = item; rest = rest; newer = [] }) ≡ true
          = ap (λ t. is_tagged client seq t && has_blocked item.outcome) tag ∙ ap (λ b. b && has_blocked item.outcome) (own_tag client seq) ∙ blocks in
          ap (is_woken_first facts now client seq item.shown.desc) more.are
          ∙ first_more facts now client seq item.shown.desc more.grown (last_place older ((front ++ item ∷ []) ++ rest) x)
          (λ waits. any_grown item.shown.desc (places_in older (front ++ item ∷ []) rest []) more.grown more.each ∙ (again client seq waits).0 own)
          (first_grown client seq item.shown.desc (places_in older (front ++ item ∷ []) rest []) more.grown more.each ∙ woken)) is

  -- who was woken since it waited, was so where an item is noted at which it doesn't wait
  pub since_more : (client seq : ℕ) → (is_tagged client seq x.tag && has_blocked x.outcome) ≡ false → (older front items : List Item) → Each (IsWokenSince facts entries client seq) (places_in older front items [])
      → Each (IsWokenSince facts now client seq) (places_in older front (items ++ x ∷ []) [])
  since_more client seq none older front [] all = ((λ waits. absurd (cc (sym none ∙ waits))), tt)
  since_more client seq none older front (item ∷ rest) all = (
    λ waits.
        let more = in_boot older (front ++ item ∷ []) rest x in
        ap (list_any (wakes_at facts now item.shown.desc)) more.are
        ∙ any_front (wakes_at facts now item.shown.desc) more.grown (last_place older ((front ++ item ∷ []) ++ rest) x)
        (any_grown item.shown.desc (places_in older (front ++ item ∷ []) rest []) more.grown more.each ∙ all.0 waits),
    since_more client seq none older (front ++ item ∷ []) rest all.1,
  )

-- or where the item wakes it
pub since_woken : (facts : Facts) (now : List Entry) (x : Item) (client seq id : ℕ) → (is_tagged client seq x.tag && has_blocked x.outcome) ≡ false → (older front items : List Item)
    → Each (λ item. is_tagged client seq item.tag ≡ true → item.shown.desc ≡ id) items → wakes_at facts now id (last_place older (front ++ items) x) ≡ true
    → Each (IsWokenSince facts now client seq) (places_in older front (items ++ x ∷ []) [])
since_woken facts now x client seq id none older front [] its wake = ((λ waits. absurd (cc (sym none ∙ waits))), tt)
since_woken facts now x client seq id none older front (item ∷ rest) its wake = (
  λ waits.
      let more = in_boot older (front ++ item ∷ []) rest x in
      let last : Position = last_place older ((front ++ item ∷ []) ++ rest) x in
      let here : wakes_at facts now id last ≡ true = ap (λ l. wakes_at facts now id (last_place older l x)) (append_assoc front (item ∷ []) rest) ∙ wake in
      ap (list_any (wakes_at facts now item.shown.desc)) more.are
      ∙ any_end (wakes_at facts now item.shown.desc) more.grown last (ap (λ d. wakes_at facts now d last) (its.0 (first_of (is_tagged client seq item.tag) (has_blocked item.outcome) waits)) ∙ here),
  since_woken facts now x client seq id none older (front ++ item ∷ []) rest its.1 (ap (λ l. wakes_at facts now id (last_place older l x)) (append_assoc front (item ∷ []) rest) ∙ wake),
)
  where
    first_of : (a b : Bool) → (a && b) ≡ true → a ≡ true
    first_of true b is = refl
    first_of false b is = absurd (cc is)

-- ---- no place more

module _ (facts : Facts) (entries now : List Entry) (same : (id : ℕ) (p : Position) → wakes_at facts now id p ≡ wakes_at facts entries id p) where
  first_same : (client seq id : ℕ) (ps : List Position) → is_woken_first facts now client seq id ps ≡ is_woken_first facts entries client seq id ps
  first_same client seq id [] = refl
  first_same client seq id (p ∷ ps) =
      ap (λ b. b || (not (waits_at client seq p) && is_woken_first facts now client seq id ps)) (same id p)
      ∙ ap (λ b. wakes_at facts entries id p || (not (waits_at client seq p) && b)) (first_same client seq id ps)

  any_same : (id : ℕ) (ps : List Position) → list_any (wakes_at facts now id) ps ≡ list_any (wakes_at facts entries id) ps
  any_same id [] = refl
  any_same id (p ∷ ps) = ap (λ b. b || list_any (wakes_at facts now id) ps) (same id p) ∙ ap (λ b. wakes_at facts entries id p || b) (any_same id ps)

  pub between_same : (ps : List Position) → Each (λ p. IsWokenBetween facts entries p p.item.tag) ps → Each (λ p. IsWokenBetween facts now p p.item.tag) ps
  between_same [] all = tt
  between_same (p ∷ ps) all = (by p.item.tag all.0, between_same ps all.1)
    where
      by : (tag : Tag) → IsWokenBetween facts entries p tag → IsWokenBetween facts now p tag
      by (Walk id k client) is = tt
      by (Load key client) is = tt
      by (Client client seq) is =
          let ps : List Position = places_in p.older (p.front ++ p.item ∷ []) p.rest p.newer in
          when_so (has_blocked p.item.outcome) (is_woken_first facts entries client seq p.item.shown.desc ps ≡ true) (is_woken_first facts now client seq p.item.shown.desc ps ≡ true)
          (λ blocks woken. first_same client seq p.item.shown.desc ps ∙ woken) is

  pub since_same : (client seq : ℕ) (ps : List Position) → Each (IsWokenSince facts entries client seq) ps → Each (IsWokenSince facts now client seq) ps
  since_same client seq [] all = tt
  since_same client seq (p ∷ ps) all = (
    λ waits. any_same p.item.shown.desc (places_in p.older (p.front ++ p.item ∷ []) p.rest p.newer) ∙ all.0 waits,
    since_same client seq ps all.1,
  )

-- where waits are told by no entry at all, they are by any
module _ (facts : Facts) (now : List Entry) where
  first_none : (client seq id : ℕ) (ps : List Position) → is_woken_first facts [] client seq id ps ≡ true → is_woken_first facts now client seq id ps ≡ true
  first_none client seq id [] is = refl
  first_none client seq id (p ∷ ps) is = by (waits_at client seq p) is (first_none client seq id ps)
    where
      by : (waits : Bool) → (not waits && is_woken_first facts [] client seq id ps) ≡ true → (is_woken_first facts [] client seq id ps ≡ true → is_woken_first facts now client seq id ps ≡ true)
          → (wakes_at facts now id p || (not waits && is_woken_first facts now client seq id ps)) ≡ true
      by true is rest = absurd (cc is)
      by false is rest = ap (λ b. wakes_at facts now id p || b) (rest is) ∙ or_true (wakes_at facts now id p)

  pub between_none : (ps : List Position) → Each (λ p. IsWokenBetween facts [] p p.item.tag) ps → Each (λ p. IsWokenBetween facts now p p.item.tag) ps
  between_none [] all = tt
  between_none (p ∷ ps) all = (by p.item.tag all.0, between_none ps all.1)
    where
      by : (tag : Tag) → IsWokenBetween facts [] p tag → IsWokenBetween facts now p tag
      by (Walk id k client) is = tt
      by (Load key client) is = tt
      by (Client client seq) is =
          let ps : List Position = places_in p.older (p.front ++ p.item ∷ []) p.rest p.newer in
          when_so (has_blocked p.item.outcome) (is_woken_first facts [] client seq p.item.shown.desc ps ≡ true) (is_woken_first facts now client seq p.item.shown.desc ps ≡ true)
          (λ blocks woken. first_none client seq p.item.shown.desc ps woken) is
