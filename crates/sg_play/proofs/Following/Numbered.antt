-- No entry has the number of a client's next call; and each entry's item is among those of the only boot.
use Rattle.std.proofs.Common.{◌≡◌, ℕ, ◌+◌, ◌≤◌, Bool, true, false, cond, not, List, [], ◌∷◌, ◌++◌, None, Some, find, length, refl, ◌∙◌, ap, arith}
use Rattle.std.specs.Prelude.{◌==◌, ◌&&◌, ◌||◌, reverse}
use Rattle.std.specs.List.{list_any}
use Rattle.std.specs.declared.option.Option.{Option}
use Rattle.std.proofs.lemmas.Bool.Decides.{nat_tests}
use Rattle.sg_facts.specs.sg_base.Lists.{Each, When}
use Rattle.sg_facts.specs.declared.entry.Entry.{Entry}
use Rattle.sg_facts.specs.declared.trace.Item.{Item}
use Rattle.sg_facts.specs.declared.trace.Tag.TheVariants.{Walk, Load, Client}
use Rattle.sg_facts.specs.Facts.{Facts}
use Rattle.sg_facts.specs.Trace.{Run}
use Rattle.sg_plain.specs.sg_hist.Clients.{calls_of}
use Rattle.sg_plain.specs.sg_hist.Reading.{Position, desc_in, id_given, is_by_guard, is_item_of, is_tagged, item_of, places_in, places_of}
use Rattle.sg_plain.specs.sg_hist.Inside.Reads.{desc_of}
use Rattle.sg_plain.specs.sg_hist.Inside.Parts.{GivesEntry, HasItem}
use Rattle.sg_plain.specs.Promises.{AreFirstCalls}
use Rattle.sg_world.proofs.sg_world_laws.Items.{IsAmong, among_in, found_passes}
use Rattle.sg_plain.specs.sg_hist.Growing.{IsOfNoEntry}
use Rattle.sg_world.proofs.sg_recovery_laws.Given.{is_numbered}
use Rattle.sg_world.proofs.sg_recovery_laws.Lists.{each_append}
use Rattle.sg_world.proofs.sg_recovery_laws.Served.{Has, each_reverse, found_has}
use Rattle.sg_plain.specs.sg_script.declared.script.ScriptCall.{ScriptCall}
use Rattle.sg_world.specs.sg_recovery_laws.LastItem.LastPlace.{HaveItems}
use Rattle.sg_facts.proofs.Replaying.Found.{other_test}

-- ---- numbers

-- no entry has this number of this client
abbrev pub NoneHas : ℕ → ℕ → List Entry → Type 0
NoneHas client seq h = Each (λ e. is_numbered client seq e ≡ false) h

first_below : (facts : Facts) (history : List Entry) (client n seq : ℕ) (es : List Entry) (calls : List ScriptCall) → AreFirstCalls facts history client n es calls → n + length es ≤ seq
    → Each (λ e. (e.call.seq == seq) ≡ false) es
first_below facts history client n seq [] calls are above = tt
first_below facts history client n seq (e ∷ es) [] are above = absurd are
first_below facts history client n seq (e ∷ es) (c ∷ calls) are above =
    let own : e.call.seq ≡ n = ap (λ x. x.seq) are.0 in
    (other_test e.call.seq seq (λ same. absurd (omega (arith, own, same, above))), first_below facts history client (n + 1) seq es calls are.1 (omega (arith, above)))

of_client : (client seq : ℕ) (h : List Entry) → Each (λ e. (e.call.seq == seq) ≡ false) (calls_of h client) → NoneHas client seq h
of_client client seq [] none = tt
of_client client seq (e ∷ h) none = at (e.call.client == client) refl none (of_client client seq h)
  where
    at : (b : Bool) → (e.call.client == client) ≡ b → Each (λ x. (x.call.seq == seq) ≡ false) (cond b (e ∷ calls_of h client) (calls_of h client))
        → (Each (λ x. (x.call.seq == seq) ≡ false) (calls_of h client) → NoneHas client seq h) → NoneHas client seq (e ∷ h)
    at true is none rest = (ap (λ b. b && (e.call.seq == seq)) is ∙ none.0, rest none.1)
    at false is none rest = (ap (λ b. b && (e.call.seq == seq)) is, rest none)

-- the number of a client's next call is new
pub next_is_new : (facts : Facts) (history : List Entry) (client : ℕ) (calls : List ScriptCall) → AreFirstCalls facts history client 1 (calls_of history client) calls
    → NoneHas client (length (calls_of history client) + 1) history
next_is_new facts history client calls are = of_client client (length (calls_of history client) + 1) history
    (first_below facts history client 1 (length (calls_of history client) + 1) (calls_of history client) calls are (omega arith))

-- so the entry that is added under it gives the id
pub id_new : (h : List Entry) (e : Entry) (client seq : ℕ) → NoneHas client seq h → is_numbered client seq e ≡ true → id_given (h ++ e ∷ []) client seq ≡ desc_of e.reply
id_new [] e client seq none own = ap (λ b. desc_in (cond b (Some e) None)) own
id_new (x ∷ h) e client seq none own = ap (λ b. desc_in (cond b (Some x) (find (is_numbered client seq) (h ++ e ∷ [])))) none.0 ∙ id_new h e client seq none.1 own

turned : (c s x y : ℕ) → ((x == c) && (y == s)) ≡ false → ((c == x) && (s == y)) ≡ false
turned c s x y is = grind (arith, nat_tests, is)

-- and an item under it is of no entry
pub of_no_entry : (item : Item) (client seq : ℕ) (h : List Entry) → item.tag ≡ Client client seq → NoneHas client seq h → IsOfNoEntry item h
of_no_entry item client seq [] tag none = tt
of_no_entry item client seq (e ∷ h) tag none =
    (ap (is_tagged e.call.client e.call.seq) tag ∙ turned client seq e.call.client e.call.seq none.0, of_no_entry item client seq h tag none.1)

-- nor is one that isn't a client's
pub walk_of_none : (item : Item) (id k client : ℕ) (h : List Entry) → item.tag ≡ Walk id k client → IsOfNoEntry item h
walk_of_none item id k client [] tag = tt
walk_of_none item id k client (e ∷ h) tag = (ap (is_tagged e.call.client e.call.seq) tag, walk_of_none item id k client h tag)

pub load_of_none : (item : Item) (key : List ℕ) (client : ℕ) (h : List Entry) → item.tag ≡ Load key client → IsOfNoEntry item h
load_of_none item key client [] tag = tt
load_of_none item key client (e ∷ h) tag = (ap (is_tagged e.call.client e.call.seq) tag, load_of_none item key client h tag)

-- ---- items

-- the run of one boot that didn't stop
abbrev pub one_boot : List Item → ℕ → Run
one_boot items points = record { boots = record { items = items; stop = None } ∷ []; points = points }

pub have_items : (facts : Facts) (h : List Entry) (items : List Item) (points : ℕ) (es : List Entry) → Each (HasItem facts h (one_boot items points)) es → HaveItems items es
have_items facts h items points [] all = tt
have_items facts h items points (e ∷ es) all = (by (is_by_guard e.reply) all.0, have_items facts h items points es all.1)
  where
    run : Run
    run = one_boot items points

    found : Has (IsAmong items) (item_of run e)
    found = found_has (IsAmong items) (λ p. is_item_of e p.item) (reverse (places_of run)) (each_reverse (IsAmong items) (places_of run)
        (each_append (IsAmong items) (places_in [] [] items []) [] (among_in items [] [] items [] (λ test is. is)) tt))

    at : (o : Option Position) → item_of run e ≡ o → Has (IsAmong items) o → GivesEntry facts h e o → list_any (is_item_of e) items ≡ true
    at None is among gives = absurd gives
    at (Some p) is among gives = among (is_item_of e) (found_passes (λ q. is_item_of e q.item) (reverse (places_of run)) p is)

    by : (b : Bool) → When (not b) (GivesEntry facts h e (item_of run e)) → (b || list_any (is_item_of e) items) ≡ true
    by true gives = refl
    by false gives = at (item_of run e) refl found gives
