-- Replies that are no entry's are held or lost, whatever comes next.
use Rattle.std.proofs.Common.{◌≡◌, ◌≢◌, ◌⊎◌, ℕ, ◌≤◌, Bool, true, false, not, ◌&&◌, ◌||◌, List, [], ◌∷◌, ◌++◌, None, Some, IsSome, length, refl, sym, ◌∙◌, ap, subst, inl, inr, append-nil, append_assoc}
use Rattle.std.specs.declared.option.Option.{Option}
use Rattle.std.specs.Prelude.{◌==◌}
use Rattle.std.specs.List.{list_any}
use Rattle.std.proofs.lemmas.List.Folds.{list_any-append}
use Rattle.sg_facts.specs.sg_base.Lists.{Each, When}
use Rattle.sg_facts.specs.declared.entry.Entry.{Entry}
use Rattle.sg_facts.specs.declared.trace.Item.{Item}
use Rattle.sg_facts.specs.declared.trace.Tag.{Tag}
use Rattle.sg_facts.specs.declared.trace.Tag.TheVariants.{Walk, Load, Client}
use Rattle.sg_facts.specs.Trace.{Boot}
use Rattle.sg_facts.proofs.Replaying.Found.{other_test}
use Rattle.sg_recovery_laws.specs.sg_hist.Ending.{AreLost, client_of}
use Rattle.sg_recovery_laws.specs.sg_hist.Inside.Parts.{IsLost, is_unentered}
use Rattle.sg_recovery_laws.specs.sg_hist.Growing.{IsGrown, IsOfNoEntry, booted, last_stop, noted, struck}
use Rattle.sg_recovery_laws.specs.sg_hist.Reading.{Position, is_by_guard, is_item_of, is_tagged, items_of, places_in}
use Rattle.sg_recovery_laws.specs.sg_hist.Recovered.{is_clients, is_entered, is_replied}
use Rattle.sg_recovery_laws.proofs.Lists.{each_map}
use Rattle.sg_recovery_laws.proofs.sg_hist.Growing.{items_booted, items_more, items_struck}
use Rattle.sg_recovery_laws.proofs.Served.{entered_later, entered_more}
use Rattle.sg_clients.specs.WorldView.{Seat, seat_in}
use Rattle.sg_world_laws.specs.Ending.{AreLostSoFar, HoldsReply, IsHeldOrLost}

-- ---- places

-- a place of the last boot
abbrev pub last_at : List Item → List Item → Item → List Item → Position
last_at older front x rest = record { older = older; front = front; item = x; rest = rest; newer = [] }

-- an item more stands after each place of the last boot, and has a place of its own
each_noted : (P Q : Position → Type 0) (older front items : List Item) (item : Item)
    → ((front rest : List Item) (x : Item) → P (last_at older front x rest) → Q (last_at older front x (rest ++ item ∷ [])))
    → ((front : List Item) → Q (last_at older front item []))
    → Each P (places_in older front items []) → Each Q (places_in older front (items ++ item ∷ []) [])
each_noted P Q older front [] item step own all = (own front, tt)
each_noted P Q older front (x ∷ items) item step own all = (step front items x all.0, each_noted P Q older (front ++ x ∷ []) items item step own all.1)

-- and after each place of a boot before
each_newer : (P Q : Position → Type 0) (older front items newer : List Item) (item : Item)
    → ((p q : Position) → IsGrown item p q → q.item ≡ p.item → q.rest ≡ p.rest → P p → Q q)
    → Each P (places_in older front items newer) → Each Q (places_in older front items (newer ++ item ∷ []))
each_newer P Q older front [] newer item step all = tt
each_newer P Q older front (x ∷ items) newer item step all = (
  step (record { older = older; front = front; item = x; rest = items; newer = newer }) (record { older = older; front = front; item = x; rest = items; newer = newer ++ item ∷ [] })
      (record { older = refl; front = refl; own = refl; after_it = sym (append_assoc items newer (item ∷ [])) }) refl refl all.0,
  each_newer P Q older (front ++ x ∷ []) items newer item step all.1,
)

-- the places of the last boot
each_last : (P Q : Position → Type 0) (older front items : List Item) → ((front rest : List Item) (x : Item) → P (last_at older front x rest) → Q (last_at older front x rest))
    → Each P (places_in older front items []) → Each Q (places_in older front items [])
each_last P Q older front [] step all = tt
each_last P Q older front (x ∷ items) step all = (step front items x all.0, each_last P Q older (front ++ x ∷ []) items step all.1)

grown_last : (older front rest : List Item) (x item : Item) → IsGrown item (last_at older front x rest) (last_at older front x (rest ++ item ∷ []))
grown_last older front rest x item = record {
  older = refl;
  front = refl;
  own = refl;
  after_it = append-nil (rest ++ item ∷ []) ∙ ap (λ l. l ++ item ∷ []) (sym (append-nil rest));
}

-- ---- which replies are no entry's

-- what is asked of fewer places, is asked of all of them
when_fewer : {A B : Type 0} (a b : Bool) → (b ≡ true → a ≡ true) → (b ≡ true → A → B) → When a A → When b B
when_fewer {A = A} a true fewer so all = so refl (subst (λ x. When x A) (fewer refl) all)
when_fewer a false fewer so all = tt

fewer_by : (h h' : List Entry) (p q : Position) → q.item ≡ p.item → (is_entered h p ≡ true → is_entered h' q ≡ true) → is_unentered h' q ≡ true → is_unentered h p ≡ true
fewer_by h h' p q own kept is =
    by (is_clients p.item.tag && is_replied p.item.outcome) (is_entered h p) (is_entered h' q) kept (subst (λ (i : Item). (is_clients i.tag && is_replied i.outcome && not (is_entered h' q)) ≡ true) own is)
  where
    by : (x a b : Bool) → (a ≡ true → b ≡ true) → (x && not b) ≡ true → (x && not a) ≡ true
    by false a b kept is = absurd (cc is)
    by true false b kept is = refl
    by true true true kept is = absurd (cc is)
    by true true false kept is = absurd (cc (kept refl))

-- where an item is noted that is of no entry
pub fewer_noted : (item : Item) (h : List Entry) → IsOfNoEntry item h → (p q : Position) → IsGrown item p q → is_unentered h q ≡ true → is_unentered h p ≡ true
fewer_noted item h none p q g = fewer_by h h p q g.own (λ is. entered_more item p q h g none ∙ is)

-- where its entry is appended too
pub fewer_committed : (item : Item) (h : List Entry) (e : Entry) → IsOfNoEntry item h → (p q : Position) → IsGrown item p q → is_unentered (h ++ e ∷ []) q ≡ true → is_unentered h p ≡ true
fewer_committed item h e none p q g = fewer_by h (h ++ e ∷ []) p q g.own (λ is. entered_later q h (e ∷ []) (entered_more item p q h g none ∙ is))

-- where an entry is appended
pub fewer_entered : (h : List Entry) (e : Entry) (p : Position) → is_unentered (h ++ e ∷ []) p ≡ true → is_unentered h p ≡ true
fewer_entered h e p = fewer_by h (h ++ e ∷ []) p p refl (λ is. entered_later p h (e ∷ []) is)

-- the item of an entry, after which nothing was noted for its client, is its own
pub entered_own : (h : List Entry) (e : Entry) (p : Position) → is_by_guard e.reply ≡ false → is_item_of e p.item ≡ true → list_any (is_item_of e) (p.rest ++ p.newer) ≡ false → is_unentered (h ++ e ∷ []) p ≡ false
entered_own h e p served own last =
    ap (λ b. is_clients p.item.tag && is_replied p.item.outcome && not b) entered ∙ none (is_clients p.item.tag && is_replied p.item.outcome)
  where
    test : Entry → Bool
    test x = not (is_by_guard x.reply) && is_item_of x p.item && not (list_any (is_item_of x) (p.rest ++ p.newer))

    its : test e ≡ true
    its =
        ap (λ b. not b && is_item_of e p.item && not (list_any (is_item_of e) (p.rest ++ p.newer))) served
        ∙ ap (λ b. not false && b && not (list_any (is_item_of e) (p.rest ++ p.newer))) own ∙ ap (λ b. not false && true && not b) last

    some : (a : Bool) → (a || (true || false)) ≡ true
    some true = refl
    some false = refl

    entered : is_entered (h ++ e ∷ []) p ≡ true
    entered = list_any-append test h (e ∷ []) ∙ ap (λ b. list_any test h || (b || false)) its ∙ some (list_any test h)

    none : (x : Bool) → (x && not true) ≡ false
    none true = refl
    none false = refl

-- where nothing was noted for a client, nothing was of its entry
pub none_of_client : (e : Entry) (c : ℕ) (rest : List Item) → e.call.client ≡ c → list_any (λ i. client_of i.tag == c) rest ≡ false → list_any (is_item_of e) rest ≡ false
none_of_client e c [] own quiet = refl
none_of_client e c (x ∷ rest) own quiet = none (is_item_of e x) (list_any (is_item_of e) rest) (tagged x.tag (left (client_of x.tag == c) (list_any (λ i. client_of i.tag == c) rest) quiet))
    (none_of_client e c rest own (right (client_of x.tag == c) (list_any (λ i. client_of i.tag == c) rest) quiet))
  where
    left : (a b : Bool) → (a || b) ≡ false → a ≡ false
    left false b is = refl
    left true b is = absurd (cc is)

    right : (a b : Bool) → (a || b) ≡ false → b ≡ false
    right false b is = is
    right true b is = absurd (cc is)

    none : (a b : Bool) → a ≡ false → b ≡ false → (a || b) ≡ false
    none a b first second = ap (λ t. t || b) first ∙ second

    tagged : (tag : Tag) → (client_of tag == c) ≡ false → is_tagged e.call.client e.call.seq tag ≡ false
    tagged (Walk id k client) other = refl
    tagged (Load key client) other = refl
    tagged (Client client seq) other = ap (λ b. b && (seq == e.call.seq)) (ap (λ n. client == n) own ∙ other)

-- an item that is no reply to a client's call
pub free_item : (A : Type 0) (h : List Entry) (p : Position) → (is_clients p.item.tag && is_replied p.item.outcome) ≡ false → When (is_unentered h p) A
free_item A h p free = subst (λ b. When (b && not (is_entered h p)) A) (sym free) tt

-- ---- boots

-- an item is noted in a boot that goes on
module _ (h now : List Entry) (seats later : List Seat) (boot : ℕ) (item : Item) (fewer : (p q : Position) → IsGrown item p q → is_unentered now q ≡ true → is_unentered h p ≡ true)
    (keeps : (older front rest : List Item) (x : Item) → IsHeldOrLost seats boot None (last_at older front x rest) → IsHeldOrLost later boot None (last_at older front x (rest ++ item ∷ [])))
    (own : (older front : List Item) → When (is_unentered now (last_at older front item [])) (IsHeldOrLost later boot None (last_at older front item []))) where
  before : (stop : Option ℕ) (older items newer : List Item) → Each (IsLost h stop) (places_in older [] items newer) → Each (IsLost now stop) (places_in older [] items (newer ++ item ∷ []))
  before stop older items newer =
      each_newer (IsLost h stop) (IsLost now stop) older [] items newer item (λ p q g its rest. when_fewer (is_unentered h p) (is_unentered now q) (fewer p q g)
      (λ is both. (
        both.0,
        ap (λ (i : Item). list_any (λ x. client_of x.tag == client_of i.tag) q.rest) its ∙ ap (list_any (λ x. client_of x.tag == client_of p.item.tag)) rest ∙ both.1,
      )))

  pub lost_noted : (older : List Item) (b : Boot) (boots : List Boot) → last_stop (b ∷ boots) ≡ None → AreLostSoFar h seats boot older (b ∷ boots) → AreLostSoFar now later boot older (noted (b ∷ boots) item)
  lost_noted older b [] running all =
      subst (λ s. Each (λ p. When (is_unentered now p) (IsHeldOrLost later boot s p)) (places_in older [] (b.items ++ item ∷ []) [])) (sym running)
      (each_noted (λ p. When (is_unentered h p) (IsHeldOrLost seats boot None p)) (λ p. When (is_unentered now p) (IsHeldOrLost later boot None p)) older [] b.items item
      (λ front rest x. when_fewer (is_unentered h (last_at older front x rest)) (is_unentered now (last_at older front x (rest ++ item ∷ [])))
      (fewer (last_at older front x rest) (last_at older front x (rest ++ item ∷ [])) (grown_last older front rest x item)) (λ is. keeps older front rest x)) (own older)
      (subst (λ s. Each (λ p. When (is_unentered h p) (IsHeldOrLost seats boot s p)) (places_in older [] b.items [])) running all))
  lost_noted older b (c ∷ []) running all = (
    subst (λ l. Each (IsLost now b.stop) (places_in older [] b.items l)) (sym (items_more c [] item)) (before b.stop older b.items (items_of (c ∷ [])) all.0),
    lost_noted (older ++ b.items) c [] running all.1,
  )
  lost_noted older b (c ∷ d ∷ boots) running all = (
    subst (λ l. Each (IsLost now b.stop) (places_in older [] b.items l)) (sym (items_more c (d ∷ boots) item)) (before b.stop older b.items (items_of (c ∷ d ∷ boots)) all.0),
    lost_noted (older ++ b.items) c (d ∷ boots) running all.1,
  )

module _ (h : List Entry) (seats : List Seat) (boot : ℕ) where
  -- the service stops: what was held is lost
  pub lost_struck : (older : List Item) (b : Boot) (boots : List Boot) (stop : ℕ) → AreLostSoFar h seats boot older (b ∷ boots) → AreLostSoFar h seats boot older (struck (b ∷ boots) stop)
  lost_struck older b [] stop all =
      each_map (λ p. When (is_unentered h p) (IsHeldOrLost seats boot b.stop p)) (λ p. When (is_unentered h p) (IsHeldOrLost seats boot (Some stop) p)) (places_in older [] b.items [])
      (λ p. when_fewer (is_unentered h p) (is_unentered h p) (λ is. is) (λ is old. record { quiet = old.quiet; gone = inl refl })) all
  lost_struck older b (c ∷ []) stop all = (all.0, lost_struck (older ++ b.items) c [] stop all.1)
  lost_struck older b (c ∷ d ∷ boots) stop all =
      (subst (λ l. Each (IsLost h b.stop) (places_in older [] b.items l)) (sym (items_struck (c ∷ d ∷ boots) stop)) all.0, lost_struck (older ++ b.items) c (d ∷ boots) stop all.1)

  -- and is booted again
  pub lost_booted : (later : List Seat) (next : ℕ) (older : List Item) (b : Boot) (boots : List Boot) → IsSome (last_stop (b ∷ boots)) → AreLostSoFar h seats boot older (b ∷ boots)
      → AreLostSoFar h later next older (booted (b ∷ boots))
  lost_booted later next older b [] stopped all = (
    each_map (λ p. When (is_unentered h p) (IsHeldOrLost seats boot b.stop p)) (IsLost h b.stop) (places_in older [] b.items [])
        (λ p. when_fewer (is_unentered h p) (is_unentered h p) (λ is. is) (λ is old. (stopped, old.quiet))) all,
    tt,
  )
  lost_booted later next older b (c ∷ boots) stopped all =
      (subst (λ l. Each (IsLost h b.stop) (places_in older [] b.items l)) (sym (items_booted (c ∷ boots))) all.0, lost_booted later next (older ++ b.items) c boots stopped all.1)

  -- where nobody holds a reply, all are lost
  pub lost_over : ((tag : Tag) → HoldsReply seats boot tag → ⊥) → (older : List Item) (b : Boot) (boots : List Boot) → AreLostSoFar h seats boot older (b ∷ boots) → AreLost h older (b ∷ boots)
  lost_over nobody older b [] all = (
    each_map (λ p. When (is_unentered h p) (IsHeldOrLost seats boot b.stop p)) (IsLost h b.stop) (places_in older [] b.items [])
        (λ p. when_fewer (is_unentered h p) (is_unentered h p) (λ is. is) (λ is old. (by p old.gone, old.quiet))) all,
    tt,
  )
    where
      by : (p : Position) → IsSome b.stop ⊎ HoldsReply seats boot p.item.tag → IsSome b.stop
      by p (inl some) = some
      by p (inr holds) = absurd (nobody p.item.tag holds)
  lost_over nobody older b (c ∷ boots) all = (all.0, lost_over nobody (older ++ b.items) c boots all.1)

-- an entry is appended, or seats change
pub lost_moved : (h now : List Entry) (seats later : List Seat) (boot : ℕ) (last : Option ℕ) → ((p : Position) → is_unentered now p ≡ true → is_unentered h p ≡ true)
    → ((older front rest : List Item) (x : Item) → is_unentered now (last_at older front x rest) ≡ true → IsHeldOrLost seats boot last (last_at older front x rest)
    → IsHeldOrLost later boot last (last_at older front x rest))
    → (older : List Item) (b : Boot) (boots : List Boot) → last_stop (b ∷ boots) ≡ last → AreLostSoFar h seats boot older (b ∷ boots) → AreLostSoFar now later boot older (b ∷ boots)
lost_moved h now seats later boot last fewer keeps older b [] is all =
    subst (λ s. Each (λ p. When (is_unentered now p) (IsHeldOrLost later boot s p)) (places_in older [] b.items [])) (sym is)
    (each_last (λ p. When (is_unentered h p) (IsHeldOrLost seats boot last p)) (λ p. When (is_unentered now p) (IsHeldOrLost later boot last p)) older [] b.items
    (λ front rest x. when_fewer (is_unentered h (last_at older front x rest)) (is_unentered now (last_at older front x rest)) (fewer (last_at older front x rest)) (keeps older front rest x))
    (subst (λ s. Each (λ p. When (is_unentered h p) (IsHeldOrLost seats boot s p)) (places_in older [] b.items [])) is all))
lost_moved h now seats later boot last fewer keeps older b (c ∷ boots) is all = (
  each_map (IsLost h b.stop) (IsLost now b.stop) (places_in older [] b.items (items_of (c ∷ boots))) (λ p. when_fewer (is_unentered h p) (is_unentered now p) (fewer p) (λ is both. both)) all.0,
  lost_moved h now seats later boot last fewer keeps (older ++ b.items) c boots is all.1,
)

-- ---- seats

-- nothing is noted for another client
other_client : (tag own : Tag) (c client : ℕ) → client_of tag ≡ c → client_of own ≡ client → client ≢ c → (client_of tag == client_of own) ≡ false
other_client tag own c client is its other = ap (λ n. n == client_of own) is ∙ ap (λ n. c == n) its ∙ other_test c client (λ same. other (sym same))

pub quiet_noted : (rest : List Item) (item : Item) (own : Tag) (c client : ℕ) → client_of item.tag ≡ c → client_of own ≡ client → client ≢ c → list_any (λ x. client_of x.tag == client_of own) rest ≡ false
    → list_any (λ x. client_of x.tag == client_of own) (rest ++ item ∷ []) ≡ false
quiet_noted rest item own c client is its other quiet =
    list_any-append (λ x. client_of x.tag == client_of own) rest (item ∷ []) ∙ ap (λ b. b || ((client_of item.tag == client_of own) || false)) quiet
    ∙ ap (λ b. false || (b || false)) (other_client item.tag own c client is its other)

-- a reply is held on where the seats change of others
pub holds_on : (seats later : List Seat) (boot : ℕ) (tag : Tag) (holds : HoldsReply seats boot tag) → length later ≡ length seats → seat_in later holds.client ≡ seat_in seats holds.client → HoldsReply later boot tag
holds_on seats later boot tag holds count same = record {
  client = holds.client;
  first = holds.first;
  last = subst (λ n. holds.client ≤ n) (sym count) holds.last;
  phase = ap (λ (s : Seat). s.phase) same ∙ holds.phase;
  given = ap (λ (s : Seat). s.boot) same ∙ holds.given;
  its = holds.its ∙ ap (λ (s : Seat). Client holds.client s.call.seq) (sym same);
  served = ap (λ (s : Seat). is_by_guard s.reply) same ∙ holds.served;
}
