-- Who waits was told so in the last boot, and no entry's item woke it since, where the run grows.
use Rattle.std.proofs.Common.{◌≡◌, ◌≢◌, ℕ, Bool, true, false, cond, not, ◌&&◌, ◌||◌, List, [], ◌∷◌, ◌++◌, refl, sym, ◌∙◌, ap, append_assoc, append-nil}
use Rattle.std.specs.List.{list_any}
use Rattle.sg_facts.specs.sg_base.declared.call.Call.{Call}
use Rattle.sg_facts.specs.sg_base.declared.reply.Reply.{Reply}
use Rattle.sg_facts.specs.sg_base.declared.reply.Reply.TheVariants.{Ok, Refused}
use Rattle.sg_facts.specs.declared.entry.Entry.{Entry}
use Rattle.sg_facts.specs.declared.row.Row.{Row}
use Rattle.sg_facts.specs.declared.trace.Item.{Item}
use Rattle.sg_facts.specs.Facts.{Facts}
use Rattle.sg_facts.specs.Object.{object_of}
use Rattle.sg_facts.specs.Trace.{Boot}
use Rattle.sg_recovery_laws.specs.sg_hist.Reading.{Position, is_by_guard, is_item_of, is_tagged, items_after, last_items, object_before, older_items, places_in, last_places}
use Rattle.sg_recovery_laws.specs.sg_hist.Wakes.{has_blocked, wakes, wakes_at}
use Rattle.sg_recovery_laws.proofs.sg_hist.Growing.{entries_before-not_yet}
use Rattle.sg_recovery_laws.specs.sg_hist.Growing.{IsGrown, IsOfNoEntry, noted}
use Rattle.sg_clients.specs.WorldView.{Seat, is_blocked_phase, wakes_seat, woken_seat}
use Rattle.sg_clients.specs.declared.phase.Phase.TheVariants.{Asked, Blocked}
use Rattle.sg_recovery_laws.proofs.LastItem.Later.{object_before_last}
use Rattle.sg_recovery_laws.specs.LastItem.LastPlace.{HaveItems, last_place}
use Rattle.sg_world_laws.proofs.Ending.Boots.{places_noted}
use Rattle.sg_world_laws.proofs.Ending.Wakers.{not_before}
use Rattle.sg_recovery_laws.specs.sg_hist.Ending.{is_still_blocked}
use Rattle.sg_recovery_laws.specs.sg_hist.Inside.Parts.{waits_in}

-- ---- an item is noted

module _ (facts : Facts) (entries now : List Entry) (x : Item) (same : (id : ℕ) (p q : Position) → IsGrown x p q → wakes_at facts now id q ≡ wakes_at facts entries id p) (call : Call) where
  -- the place of an item of the last boot, and the place when one more is noted
  grown : (older front rest : List Item) (item : Item) → IsGrown x (record { older = older; front = front; item = item; rest = rest; newer = [] }) (record { older = older; front = front; item = item; rest = rest ++ x ∷ []; newer = [] })
  grown older front rest item = record { older = refl; front = refl; own = refl; after_it = append-nil (rest ++ x ∷ []) ∙ ap (λ l. l ++ x ∷ []) (sym (append-nil rest)) }

  abbrev last_in : List Item → List Item → Position
  last_in older front = last_place older front x

  shift : (older front : List Item) (item : Item) (rest : List Item) → last_in older ((front ++ item ∷ []) ++ rest) ≡ last_in older (front ++ item ∷ rest)
  shift older front item rest = ap (last_in older) (append_assoc front (item ∷ []) rest)

  -- whether some item wakes who waits
  any_more : (older front rest : List Item) → list_any (wakes_at facts now call.desc) (places_in older front (rest ++ x ∷ []) [])
      ≡ list_any (wakes_at facts entries call.desc) (places_in older front rest []) || wakes_at facts now call.desc (last_in older (front ++ rest))
  any_more older front [] = either (wakes_at facts now call.desc (last_in older front)) ∙ ap (λ l. wakes_at facts now call.desc (last_in older l)) (sym (append-nil front))
    where
      either : (b : Bool) → (b || false) ≡ b
      either true = refl
      either false = refl
  any_more older front (item ∷ rest) =
      ap (λ b. b || list_any (wakes_at facts now call.desc) (places_in older (front ++ item ∷ []) (rest ++ x ∷ []) []))
      (same call.desc (record { older = older; front = front; item = item; rest = rest; newer = [] }) (record { older = older; front = front; item = item; rest = rest ++ x ∷ []; newer = [] }) (grown older front rest item))
      ∙ ap (λ b. wakes_at facts entries call.desc (record { older = older; front = front; item = item; rest = rest; newer = [] }) || b) (any_more older (front ++ item ∷ []) rest)
      ∙ ap (λ p. wakes_at facts entries call.desc (record { older = older; front = front; item = item; rest = rest; newer = [] }) || (list_any (wakes_at facts entries call.desc) (places_in older (front ++ item ∷ []) rest []) || wakes_at facts now call.desc p))
      (shift older front item rest)
      ∙ or_assoc (wakes_at facts entries call.desc (record { older = older; front = front; item = item; rest = rest; newer = [] })) (list_any (wakes_at facts entries call.desc) (places_in older (front ++ item ∷ []) rest []))
      (wakes_at facts now call.desc (last_in older (front ++ item ∷ rest)))
    where
      or_assoc : (a b d : Bool) → (a || (b || d)) ≡ ((a || b) || d)
      or_assoc true b d = refl
      or_assoc false b d = refl

  -- who was told stays so where the item doesn't wake it
  pub blocked_more : (older front rest : List Item) → wakes_at facts now call.desc (last_in older (front ++ rest)) ≡ false → is_still_blocked facts entries call (places_in older front rest []) ≡ true
      → is_still_blocked facts now call (places_in older front (rest ++ x ∷ []) []) ≡ true
  blocked_more older front [] none blocked = absurd (cc blocked)
  blocked_more older front (item ∷ rest) none blocked =
      ap (λ b. (waits_in call p && not b) || is_still_blocked facts now call (places_in older (front ++ item ∷ []) (rest ++ x ∷ []) []))
      (any_more older (front ++ item ∷ []) rest ∙ ap (λ b. list_any (wakes_at facts entries call.desc) (places_in older (front ++ item ∷ []) rest []) || b) none_there
      ∙ either (list_any (wakes_at facts entries call.desc) (places_in older (front ++ item ∷ []) rest [])))
      ∙ by (waits_in call p && not (list_any (wakes_at facts entries call.desc) (places_in older (front ++ item ∷ []) rest []))) blocked (blocked_more older (front ++ item ∷ []) rest none_there)
    where
      p : Position
      p = record { older = older; front = front; item = item; rest = rest; newer = [] }

      none_there : wakes_at facts now call.desc (last_in older ((front ++ item ∷ []) ++ rest)) ≡ false
      none_there = ap (wakes_at facts now call.desc) (shift older front item rest) ∙ none

      either : (b : Bool) → (b || false) ≡ b
      either true = refl
      either false = refl

      by : (b : Bool) → (b || is_still_blocked facts entries call (places_in older (front ++ item ∷ []) rest [])) ≡ true
          → (is_still_blocked facts entries call (places_in older (front ++ item ∷ []) rest []) ≡ true → is_still_blocked facts now call (places_in older (front ++ item ∷ []) (rest ++ x ∷ []) []) ≡ true)
          → (b || is_still_blocked facts now call (places_in older (front ++ item ∷ []) (rest ++ x ∷ []) [])) ≡ true
      by true blocked rest = refl
      by false blocked rest = rest blocked

  -- who has to wait at the item is told by it
  pub blocked_last : (older front rest : List Item) → (is_tagged call.client call.seq x.tag && has_blocked x.outcome) ≡ true → is_still_blocked facts now call (places_in older front (rest ++ x ∷ []) []) ≡ true
  blocked_last older front [] waits = ap (λ b. (b && not false) || false) waits
  blocked_last older front (item ∷ rest) waits =
      ap (λ b. (waits_in call q && not (list_any (wakes_at facts now call.desc) (places_in older (front ++ item ∷ []) (rest ++ x ∷ []) []))) || b) (blocked_last older (front ++ item ∷ []) rest waits)
      ∙ either (waits_in call q && not (list_any (wakes_at facts now call.desc) (places_in older (front ++ item ∷ []) (rest ++ x ∷ []) [])))
    where
      q : Position
      q = record { older = older; front = front; item = item; rest = rest ++ x ∷ []; newer = [] }

      either : (b : Bool) → (b || true) ≡ true
      either true = refl
      either false = refl

  -- in the boots of a run
  pub blocked_noted : (boots : List Boot) → boots ≢ [] → wakes_at facts now call.desc (last_place (older_items [] boots) (last_items boots) x) ≡ false → is_still_blocked facts entries call (last_places boots) ≡ true
      → is_still_blocked facts now call (last_places (noted boots x)) ≡ true
  blocked_noted [] begun none blocked = absurd (begun refl)
  blocked_noted (b ∷ boots) begun none blocked =
      ap (is_still_blocked facts now call) (places_noted b boots x) ∙ blocked_more (older_items [] (b ∷ boots)) [] (last_items (b ∷ boots)) none blocked

  pub blocked_waiting : (boots : List Boot) → boots ≢ [] → (is_tagged call.client call.seq x.tag && has_blocked x.outcome) ≡ true → is_still_blocked facts now call (last_places (noted boots x)) ≡ true
  blocked_waiting [] begun waits = absurd (begun refl)
  blocked_waiting (b ∷ boots) begun waits = ap (is_still_blocked facts now call) (places_noted b boots x) ∙ blocked_last (older_items [] (b ∷ boots)) [] (last_items (b ∷ boots)) waits

-- ---- the entries change, but wake as before

any_same : (facts : Facts) (entries now : List Entry) (id : ℕ) → ((p : Position) → wakes_at facts now id p ≡ wakes_at facts entries id p) → (ps : List Position) → list_any (wakes_at facts now id) ps ≡ list_any (wakes_at facts entries id) ps
any_same facts entries now id same [] = refl
any_same facts entries now id same (p ∷ ps) =
    ap (λ b. b || list_any (wakes_at facts now id) ps) (same p) ∙ ap (λ b. wakes_at facts entries id p || b) (any_same facts entries now id same ps)

pub blocked_same : (facts : Facts) (entries now : List Entry) (call : Call) → ((p : Position) → wakes_at facts now call.desc p ≡ wakes_at facts entries call.desc p) → (ps : List Position)
    → is_still_blocked facts now call ps ≡ is_still_blocked facts entries call ps
blocked_same facts entries now call same [] = refl
blocked_same facts entries now call same (p ∷ ps) =
    ap (λ b. (waits_in call p && not b) || is_still_blocked facts now call ps) (any_same facts entries now call.desc same ps)
    ∙ ap (λ b. (waits_in call p && not (list_any (wakes_at facts entries call.desc) ps)) || b) (blocked_same facts entries now call same ps)

-- ---- whom the last item wakes

module _ (facts : Facts) (id : ℕ) where
  abbrev wakes_by : List Row → Position → Entry → Bool
  wakes_by rows p e = not (is_by_guard e.reply) && is_item_of e p.item && not (list_any (is_item_of e) (items_after p)) && wakes facts rows e.call e.reply id

  none_by : (rows : List Row) (p : Position) (history : List Entry) → IsOfNoEntry p.item history → list_any (wakes_by rows p) history ≡ false
  none_by rows p [] none = refl
  none_by rows p (e ∷ history) none =
      ap (λ b. (not (is_by_guard e.reply) && b && not (list_any (is_item_of e) (items_after p)) && wakes facts rows e.call e.reply id) || list_any (wakes_by rows p) history) none.0
      ∙ ap (λ b. b || list_any (wakes_by rows p) history) (nothing (not (is_by_guard e.reply)) (not (list_any (is_item_of e) (items_after p))) (wakes facts rows e.call e.reply id)) ∙ none_by rows p history none.1
    where
      nothing : (a b d : Bool) → (a && false && b && d) ≡ false
      nothing true b d = refl
      nothing false b d = refl

  -- an item of no entry wakes nobody
  pub wakes_nobody : (p : Position) (history : List Entry) → IsOfNoEntry p.item history → wakes_at facts history id p ≡ false
  wakes_nobody p history none = none_by (object_before facts history p).rows p history none

  any_last : (rows : List Row) (p : Position) (history : List Entry) (e : Entry) → list_any (wakes_by rows p) history ≡ false → wakes_by rows p e ≡ false → list_any (wakes_by rows p) (history ++ e ∷ []) ≡ false
  any_last rows p [] e none own = ap (λ b. b || false) own
  any_last rows p (d ∷ history) e none own = by (wakes_by rows p d) none (any_last rows p history e)
    where
      by : (b : Bool) → (b || list_any (wakes_by rows p) history) ≡ false → (list_any (wakes_by rows p) history ≡ false → wakes_by rows p e ≡ false → list_any (wakes_by rows p) (history ++ e ∷ []) ≡ false)
          → (b || list_any (wakes_by rows p) (history ++ e ∷ [])) ≡ false
      by true none rest = absurd (cc none)
      by false none rest = rest none own

  -- an item that is noted with its entry wakes only who waits for that
  pub wakes_only : (older front : List Item) (item : Item) (history : List Entry) (e : Entry) → IsOfNoEntry item history → HaveItems (older ++ front) history → is_item_of e item ≡ true
      → wakes facts (object_of facts history).rows e.call e.reply id ≡ false → wakes_at facts (history ++ e ∷ []) id (last_place older front item) ≡ false
  wakes_only older front item history e none items own no_wake =
      let last : Position = last_place older front item in
      let rows : List Row = (object_of facts history).rows in
      ap (λ es. list_any (wakes_by (object_of facts es).rows last) (history ++ e ∷ [])) (entries_before-not_yet last history e (not_before facts id older front item e own))
      ∙ ap (λ o. list_any (wakes_by o.rows last) (history ++ e ∷ [])) (object_before_last facts older front item history none items)
      ∙ any_last rows last history e (none_by rows last history none)
      (ap (λ b. not (is_by_guard e.reply) && is_item_of e item && not false && b) no_wake ∙ nothing (not (is_by_guard e.reply)) (is_item_of e item))
    where
      nothing : (a b : Bool) → (a && b && not false && false) ≡ false
      nothing true true = refl
      nothing true false = refl
      nothing false b = refl

-- ---- a seat that a test doesn't wake

-- who still waits waited before, in the same call, and the test doesn't wake it
pub record WaitsOn (test : Call → Bool) (s later : Seat) : Type 0 where
  pub waited : s.phase ≡ Blocked
  pub call : later.call ≡ s.call
  pub unmet : test s.call ≡ false

pub waits_on : (test : Call → Bool) (s : Seat) → (woken_seat test s).phase ≡ Blocked → WaitsOn test s (woken_seat test s)
waits_on test s blocked = by (is_blocked_phase s.phase) refl (test s.call) refl
  where
    tells : (b t : Bool) → is_blocked_phase s.phase ≡ b → test s.call ≡ t → woken_seat test s ≡ cond (b && t) (record s { phase = Asked }) s
    tells b t is met = ap (λ d. cond (d && test s.call) (record s { phase = Asked }) s) is ∙ ap (λ d. cond (b && d) (record s { phase = Asked }) s) met

    by : (b : Bool) → is_blocked_phase s.phase ≡ b → (t : Bool) → test s.call ≡ t → WaitsOn test s (woken_seat test s)
    by true is true met = absurd (let asked : Asked ≡ Blocked = ap (λ (x : Seat). x.phase) (sym (tells true true is met)) ∙ blocked in cc asked)
    by true is false met =
        let stays : woken_seat test s ≡ s = tells true false is met in
        record { waited = ap (λ (x : Seat). x.phase) (sym stays) ∙ blocked; call = ap (λ (x : Seat). x.call) stays; unmet = met }
    by false is t met =
        let stays : woken_seat test s ≡ s = tells false t is met in
        let was : s.phase ≡ Blocked = ap (λ (x : Seat). x.phase) (sym stays) ∙ blocked in
        absurd (let test_of : is_blocked_phase s.phase ≡ true = ap is_blocked_phase was in cc (is, test_of))

-- whom an answered call doesn't wake, that no place of its item wakes
pub unwoken_by : (facts : Facts) (rows : List Row) (call other : Call) (reply : Reply) → wakes_seat facts rows call reply other ≡ false → wakes facts rows call reply other.desc ≡ false
unwoken_by facts rows call other (Refused code) is = refl
unwoken_by facts rows call other (Ok good) is = is
