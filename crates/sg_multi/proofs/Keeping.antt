-- A play over several services keeps what it keeps, at an offer, at a step, and where one wants memory.
use Rattle.std.proofs.Common.{◌≡◌, ◌≢◌, ◌⊎◌, ℕ, zero, suc, ◌+◌, ◌-◌, ◌<◌, ◌≤◌, Bool, true, false, cond, List, [], ◌∷◌, ◌++◌, Some, length, map, take, refl, sym, ◌∙◌, ap, subst, inl, inr, arith, slice_set, length-append}
use Rattle.std.specs.Prelude.{◌==◌, ◌&&◌, nat_lt, slice_get, unwrap_or}
use Rattle.std.proofs.lemmas.Bool.{and_parts}
use Rattle.std.proofs.lemmas.Bool.Decides.{nat_tests}
use Rattle.sg_facts.specs.sg_base.declared.call.Call.{Call}
use Rattle.sg_facts.specs.sg_base.declared.reply.Reply.{Reply}
use Rattle.sg_facts.specs.Tables.{Compiled}
use Rattle.sg_facts.proofs.Replaying.Found.{same_test}
use Rattle.sg_multi.proofs.sg_sim.sg_play.Waking.Shapes.{call_is_next, call_is_own}
use Rattle.sg_multi.proofs.sg_sim.sg_play.sg_plain.sg_clients.Lines.{length_set, same_or_other, seat_here, seat_there}
use Rattle.sg_multi.specs.Members.{ChangesAt, Membered, setting_by, setting_in, view_in}
use Rattle.sg_multi.specs.Serving.{Serving}
use Rattle.sg_multi.specs.sg_sim.sg_plain.Calls.{most_client}
use Rattle.sg_multi.specs.sg_sim.sg_plain.Playing.Callers.{is_receipted}
use Rattle.sg_multi.specs.sg_sim.sg_plain.Playing.Given.{GaveIds, given_in, with_handed}
use Rattle.sg_multi.specs.sg_sim.sg_plain.Playing.Turns.{is_free_phase}
use Rattle.sg_multi.specs.sg_sim.sg_play.Recovering.{RecoversSoFar}
use Rattle.sg_multi.specs.sg_sim.sg_play.Turning.{handed_by}
use Rattle.sg_multi.specs.sg_sim.sg_play.sg_hist.Clients.{calls_of}
use Rattle.sg_multi.specs.sg_sim.sg_play.sg_hist.Inside.Reads.{desc_of}
use Rattle.sg_multi.specs.sg_sim.sg_script.declared.multi.MultiCall.{MultiCall}
use Rattle.sg_multi.specs.sg_sim.sg_script.declared.multi.MultiScript.{MultiScript}
use Rattle.sg_multi.specs.sg_sim.sg_clients.WorldView.{Seat, WorldView, happened, is_offered, offered, seat_in, seat_of}
use Rattle.sg_multi.specs.sg_sim.sg_clients.declared.phase.Phase.{Phase}
use Rattle.sg_multi.specs.sg_sim.sg_clients.declared.phase.Phase.TheVariants.{Idle, Asked, Held, Receipted, Blocked, Left}
use Rattle.sg_multi.specs.sg_sim.sg_world.declared.did.Did.{Did}
use Rattle.sg_multi.specs.sg_sim.sg_world.declared.did.Did.TheVariants.{Answered, Blocked as Waits, Booted, Loaded, Lost, Replayed, Served, Skipped, Struck}
use Rattle.sg_multi.specs.sg_sim.sg_world.Steps.{AnswersLast, HasStepped, LackedMemory}
use Rattle.sg_multi.specs.Calls.{AreFirstMultiCalls, IsCallOf, multi_calls}
use Rattle.sg_multi.specs.Inside.Callers.{HasReceipt, IsSeatOf, Offers}
use Rattle.sg_multi.specs.Inside.Keeps.{IsAllHanded, IsMultiCaller, KeepsMulti, all_of_first, interfaces_of, is_multi_setting_up}
use Rattle.sg_multi.specs.Inside.Member.{KeepsMember}
use Rattle.sg_multi.specs.Inside.Turns.{SameMembers}
use Rattle.sg_multi.specs.Merged.{Merges, MultiEntry, entries_at, entries_in, own_in}
use Rattle.sg_multi.specs.sg_sim.sg_world_laws.Seats.{last_of}
use Rattle.sg_multi.specs.sg_sim.sg_world_laws.Setting.{Setting, stubs_of}
use Rattle.sg_multi.specs.Playable.{IsMultiPlayable}
use Rattle.sg_multi.specs.Played.{stubs_in}
use Rattle.sg_multi.proofs.Calling.{at_its_member, call_grown, few_given, first_grown, first_more, first_same, fits_at, gave_front, gave_last, gave_same, offers_alone, receipt_alone, seat_free, seat_goes_on}
use Rattle.sg_multi.proofs.MemberLaws.{member_happened, member_stepped, member_wanted}
use Rattle.sg_multi.proofs.Merging.{last_at, length_kept, map_kept, map_set, mapped_at, merges_push, merges_same, own_more, own_same, set_cases, set_elsewhere, set_there, there_is}
use Rattle.sg_multi.proofs.Stepping.{Answers, Enters, GoesOn, GoesQuietly, HandsOver, IsQuiet, clients_kept, goes_quietly, goes_same, is_answered}

-- ---- lists of descriptors

pub given_here : (given : List (List ℕ)) (c : ℕ) (new : List ℕ) → 1 ≤ c → c ≤ length given → given_in (slice_set given (c - 1) new) c ≡ new
given_here given c new first last =
    let old = there_is given (c - 1) (omega (arith, first, last)) in
    ap (λ o. unwrap_or o []) (set_there given (c - 1) old.0 new old.1)

pub given_there : (given : List (List ℕ)) (c d : ℕ) (new : List ℕ) → 1 ≤ c → 1 ≤ d → d ≢ c → given_in (slice_set given (c - 1) new) d ≡ given_in given d
given_there given c d new first from other = ap (λ o. unwrap_or o []) (set_elsewhere given (c - 1) (d - 1) new (λ same. other (omega (arith, first, from, same))))

-- ---- the setup

all_push : (merged : List MultiEntry) (x : MultiEntry) → all_of_first merged ≡ true → x.entry.call.client ≡ 1 → all_of_first (merged ++ x ∷ []) ≡ true
all_push [] x all its = ap (λ b. b && true) (same_test x.entry.call.client 1 its)
all_push (y ∷ merged) x all its =
    let both = and_parts (y.entry.call.client == 1) (all_of_first merged) all in
    ap (λ b. b && all_of_first (merged ++ x ∷ [])) both.0 ∙ all_push merged x both.1 its

all_front : (merged : List MultiEntry) (n : ℕ) → all_of_first merged ≡ true → all_of_first (take n merged) ≡ true
all_front [] zero all = refl
all_front [] (suc n) all = refl
all_front (y ∷ merged) zero all = refl
all_front (y ∷ merged) (suc n) all =
    let both = and_parts (y.entry.call.client == 1) (all_of_first merged) all in
    ap (λ b. b && all_of_first (take n merged)) both.0 ∙ all_front merged n both.1

front_push : (merged : List MultiEntry) (x : MultiEntry) (n : ℕ) → n ≤ length merged → take n (merged ++ x ∷ []) ≡ take n merged
front_push merged x zero within = refl
front_push [] x (suc n) within = absurd (omega (arith, within))
front_push (y ∷ merged) x (suc n) within = ap (λ l. y ∷ l) (front_push merged x n (omega (arith, within)))

own_within : (client : ℕ) (merged : List MultiEntry) → length (own_in client merged) ≤ length merged
own_within client [] = omega arith
own_within client (x ∷ merged) = at (x.entry.call.client == client) (own_within client merged)
  where
    at : (b : Bool) → length (own_in client merged) ≤ length merged → length (cond b (x ∷ own_in client merged) (own_in client merged)) ≤ length (x ∷ merged)
    at true within = omega (arith, within)
    at false within = omega (arith, within)

not_below : (n m : ℕ) → nat_lt n m ≡ false → m ≤ n
not_below n m is = grind (arith, nat_tests)

below : (n m : ℕ) → nat_lt n m ≡ true → n < m
below n m is = grind (arith, nat_tests)

is_below : (n m : ℕ) → n < m → nat_lt n m ≡ true
is_below n m is = grind (arith, nat_tests)

pub never_less : (n m : ℕ) → m ≡ n → nat_lt n m ≡ false
never_less n m same = grind (arith, nat_tests, same)

pub one_less : (n m : ℕ) → m ≡ n + 1 → nat_lt n m ≡ true
one_less n m same = grind (arith, nat_tests, same)

bool_cases : (b : Bool) → (b ≡ true) ⊎ (b ≡ false)
bool_cases true = inl refl
bool_cases false = inr refl

-- who is at the setup after a reply was handed over was so before
pub handed_was : (script : MultiScript) (given : List (List ℕ)) (c : ℕ) → 1 ≤ c → c ≤ length given → (id : ℕ) → is_multi_setting_up script (with_handed given c (Some id)) ≡ true → is_multi_setting_up script given ≡ true
handed_was script given c first last id on = by (same_or_other 1 c)
  where
    less : length (given_in (with_handed given c (Some id)) 1) < length script.setup
    less = below (length (given_in (with_handed given c (Some id)) 1)) (length script.setup) on

    own : given_in (with_handed given c (Some id)) c ≡ given_in given c ++ id ∷ []
    own = given_here given c (given_in given c ++ id ∷ []) first last

    by : (1 ≡ c) ⊎ (1 ≢ c) → is_multi_setting_up script given ≡ true
    by (inl same) =
        let more : length (given_in (with_handed given c (Some id)) 1) ≡ length (given_in given 1) + 1
        = ap (λ n. length (given_in (with_handed given c (Some id)) n)) same ∙ ap (λ (l : List ℕ). length l) own ∙ length-append (given_in given c) (id ∷ []) ∙ ap (λ n. length (given_in given n) + 1) (sym same) in
        is_below (length (given_in given 1)) (length script.setup) (omega (arith, less, more))
    by (inr other) =
        is_below (length (given_in given 1)) (length script.setup)
        (subst (λ (l : List ℕ). length l < length script.setup) (given_there given c 1 (given_in given c ++ id ∷ []) first (omega arith) other) less)

free_receipts : (p : Phase) → is_free_phase p ≡ true → is_receipted p ≡ false
free_receipts Idle free = refl
free_receipts Left free = refl
free_receipts Asked free = absurd (cc free)
free_receipts Held free = absurd (cc free)
free_receipts Receipted free = absurd (cc free)
free_receipts Blocked free = absurd (cc free)

not_true : (b : Bool) → (b ≡ true → ⊥) → b ≡ false
not_true true not = absurd (not refl)
not_true false not = refl

-- ---- the last of a list

split_last : (es : List MultiEntry) (n : ℕ) → length es ≡ n + 1 → (front : List MultiEntry) × (x : MultiEntry) × (es ≡ front ++ x ∷ []) × (length front ≡ n)
split_last [] n count = absurd (omega (arith, count))
split_last (x ∷ []) zero count = ([], x, refl, refl)
split_last (x ∷ []) (suc n) count = absurd (omega (arith, count))
split_last (x ∷ y ∷ es) zero count = absurd (omega (arith, count))
split_last (x ∷ y ∷ es) (suc n) count = let rest = split_last (y ∷ es) n (omega (arith, count)) in (x ∷ rest.0, rest.1, ap (λ l. x ∷ l) rest.2, ap suc rest.3)

-- ---- a member changes

-- what holds of a member's world at another view holds of the member that has it
pub moved : (P : Setting → WorldView → Type 0) (old new : Membered) (now : WorldView) → new.service ≡ old.service → new.world.tables ≡ old.world.tables → view_in new ≡ now → P (setting_in old) now → P (setting_in new) (view_in new)
moved P old new now service tables view is =
    subst (P (setting_in new)) (sym view)
    (subst (λ (t : Compiled). P (setting_by new.service t) now) (sym tables) (subst (λ (k : Serving). P (setting_by k old.world.tables) now) (sym service) is))

-- the world of a member is that of a play of its own, at another view
member_moved : (old new : Membered) (now : WorldView) → new.service ≡ old.service → new.world.tables ≡ old.world.tables → view_in new ≡ now → KeepsMember (setting_in old) now → KeepsMember (setting_in new) (view_in new)
member_moved old new now service tables view is = moved KeepsMember old new now service tables view is

-- by what a run is judged that is of a service with some tables
pub stubs_alike : (k l : Serving) → k ≡ l → (s t : Compiled) → s ≡ t → stubs_of (setting_by k s) ≡ stubs_of (setting_by l t)
stubs_alike k l same s t alike = ap (λ x. stubs_of (setting_by x s)) same ∙ ap (λ x. stubs_of (setting_by l x)) alike

stubs_moved : (old new : Membered) → new.service ≡ old.service → new.world.tables ≡ old.world.tables → stubs_in new ≡ stubs_in old
stubs_moved old new service tables = stubs_alike new.service old.service service new.world.tables old.world.tables tables

module _ (members later : List Membered) (script : MultiScript) (given : List (List ℕ)) (order : List ℕ) (place : ℕ) (m : Membered) (now : WorldView) (changes : ChangesAt members place m now later)
    (is : KeepsMulti members script given order) where
  abbrev w : WorldView
  w = view_in m

  pub same_interfaces : interfaces_of later ≡ interfaces_of members
  same_interfaces = ap interfaces_of changes.are ∙ map_kept (λ x. x.world.tables.iface) members place m changes.new changes.there (ap (λ t. t.iface) changes.tables)

  same_plans : map (λ x. x.world.plan) later ≡ map (λ x. x.world.plan) members
  same_plans = ap (map (λ x. x.world.plan)) changes.are ∙ map_kept (λ x. x.world.plan) members place m changes.new changes.there changes.plan

  pub same_members : SameMembers members later
  same_members = ap (map stubs_in) changes.are ∙ map_kept stubs_in members place m changes.new changes.there (stubs_moved m changes.new changes.service changes.tables)

  -- the members after the change
  pub later_cases : (q : ℕ) (x : Membered) → slice_get later q ≡ Some x → ((q ≡ place) × (x ≡ changes.new)) ⊎ ((q ≢ place) × (slice_get members q ≡ Some x))
  later_cases q x there = set_cases members place changes.new q x (ap (λ l. slice_get l q) (sym changes.are) ∙ there)

  pub new_there : slice_get later place ≡ Some changes.new
  new_there = ap (λ l. slice_get l place) changes.are ∙ set_there members place m changes.new changes.there

  pub still_there : (q : ℕ) (x : Membered) → q ≢ place → slice_get members q ≡ Some x → slice_get later q ≡ Some x
  still_there q x other there = ap (λ l. slice_get l q) changes.are ∙ set_elsewhere members place q changes.new other ∙ there

  seat_new : (d : ℕ) → seat_of (view_in changes.new) d ≡ seat_of now d
  seat_new d = ap (λ v. seat_of v d) changes.view_is

  same_member : (x : Membered) → slice_get members place ≡ Some x → x ≡ m
  same_member x there = let both : Some x ≡ Some m = sym there ∙ changes.there in cc both

  -- ---- what is kept however the callers go on

  pub rebuilt : (gave : List (List ℕ)) (noted : List ℕ) → KeepsMember (setting_in m) now → length now.seats ≡ length w.seats → length gave ≡ length given → (merged : List MultiEntry)
      → Merges noted (map (λ x. (view_in x).history) later) merged
      → ((d : ℕ) → 1 ≤ d → d ≤ most_client script.clients → IsMultiCaller later script merged d (given_in gave d))
      → ((d : ℕ) → own_in d merged ≢ [] → (1 ≤ d) × (d ≤ most_client script.clients))
      → all_of_first (take (length script.setup) merged) ≡ true → (is_multi_setting_up script gave ≡ true → all_of_first merged ≡ true) → KeepsMulti later script gave noted
  rebuilt gave noted member seats lists merged merges callers none_else front setting_up = record {
    playable = subst (λ i. IsMultiPlayable i script) (sym same_interfaces) is.playable;
    plans = same_plans ∙ is.plans;
    clients = λ q x there. count q x (later_cases q x there);
    lists = lists ∙ is.lists;
    each = λ q x there. each q x (later_cases q x there);
    merged = merged;
    merges = merges;
    callers = callers;
    none_else = none_else;
    front = front;
    setting_up = setting_up;
  }
    where
      count : (q : ℕ) (x : Membered) → ((q ≡ place) × (x ≡ changes.new)) ⊎ ((q ≢ place) × (slice_get members q ≡ Some x)) → length (view_in x).seats ≡ most_client script.clients
      count q x (inl its) = ap (λ y. length (view_in y).seats) its.1 ∙ ap (λ v. length v.seats) changes.view_is ∙ seats ∙ is.clients place m changes.there
      count q x (inr other) = is.clients q x other.1

      each : (q : ℕ) (x : Membered) → ((q ≡ place) × (x ≡ changes.new)) ⊎ ((q ≢ place) × (slice_get members q ≡ Some x)) → KeepsMember (setting_in x) (view_in x)
      each q x (inl its) = subst (λ (y : Membered). KeepsMember (setting_in y) (view_in y)) (sym its.1) (member_moved m changes.new now changes.service changes.tables changes.view_is member)
      each q x (inr other) = is.each q x other.1

  -- ---- a client whose call is under way as before

  pub caller_goes_on : (merged : List MultiEntry) (d : ℕ) → own_in d merged ≡ own_in d is.merged → GoesOn (seat_of w d) (seat_of now d) → 1 ≤ d → d ≤ most_client script.clients
      → IsMultiCaller later script merged d (given_in given d)
  caller_goes_on merged d own goes from to = record {
    made = subst (λ i. AreFirstMultiCalls i merged d (own_in d merged) (multi_calls script d)) (sym same_interfaces)
        (subst (λ es. AreFirstMultiCalls (interfaces_of members) merged d es (multi_calls script d)) (sym own) (first_same (interfaces_of members) is.merged merged d (own_in d is.merged) (multi_calls script d) own was.made));
    gave = subst (λ es. GaveIds (take (length (given_in given d)) (entries_in es)) (given_in given d)) (sym own) was.gave;
    seats = λ q x there. subst (λ i. IsSeatOf i script merged d (given_in given d) q (seat_of (view_in x) d)) (sym same_interfaces) (seat q x (later_cases q x there));
    settled = λ handed. ap (λ (l : List MultiEntry). length l) own ∙ was.settled (λ q x there. before handed q x there (same_or_other q place));
  }
    where
      was : IsMultiCaller members script is.merged d (given_in given d)
      was = is.callers d from to

      seat : (q : ℕ) (x : Membered) → ((q ≡ place) × (x ≡ changes.new)) ⊎ ((q ≢ place) × (slice_get members q ≡ Some x))
          → IsSeatOf (interfaces_of members) script merged d (given_in given d) q (seat_of (view_in x) d)
      seat q x (inl its) =
          subst (λ n. IsSeatOf (interfaces_of members) script merged d (given_in given d) n (seat_of (view_in x) d)) (sym its.0)
          (subst (λ (y : Membered). IsSeatOf (interfaces_of members) script merged d (given_in given d) place (seat_of (view_in y) d)) (sym its.1)
          (subst (IsSeatOf (interfaces_of members) script merged d (given_in given d) place) (sym (seat_new d))
          (seat_goes_on (interfaces_of members) script is.merged d (given_in given d) merged place (seat_of w d) (seat_of now d) own goes.offered goes.receipted goes.call (was.seats place m changes.there))))
      seat q x (inr other) =
          seat_goes_on (interfaces_of members) script is.merged d (given_in given d) merged q (seat_of (view_in x) d) (seat_of (view_in x) d) own refl refl refl (was.seats q x other.1)

      before : IsAllHanded later d → (q : ℕ) (x : Membered) → slice_get members q ≡ Some x → (q ≡ place) ⊎ (q ≢ place) → is_receipted (seat_of (view_in x) d).phase ≡ false
      before handed q x there (inl same) =
          let its = same_member x (ap (slice_get members) (sym same) ∙ there) in
          ap (λ y. is_receipted (seat_of (view_in y) d).phase) its ∙ sym goes.receipted ∙ ap (λ (s : Seat). is_receipted s.phase) (sym (seat_new d)) ∙ handed place changes.new new_there
      before handed q x there (inr other) = handed q x (still_there q x other there)

  -- ---- the client of an entry

  -- an entry was made of the client's call
  module _ (c : ℕ) (first : 1 ≤ c) (last : c ≤ most_client script.clients) (p : Phase) (reply : Reply) (e : Enters w c p reply now) where
    abbrev pub entry : MultiEntry
    entry = record { member = place + 1; entry = record { call = (seat_of w c).call; reply = reply } }

    abbrev pub merged_more : List MultiEntry
    merged_more = is.merged ++ entry ∷ []

    abbrev gave : List ℕ
    gave = given_in given c

    was_caller : IsMultiCaller members script is.merged c gave
    was_caller = is.callers c first last

    seat_then : IsSeatOf (interfaces_of members) script is.merged c gave place (seat_of w c)
    seat_then = was_caller.seats place m changes.there

    offer : Offers (interfaces_of members) script is.merged c gave place (seat_of w c)
    offer = seat_then.offers e.offered

    pub its_client : entry.entry.call.client ≡ c
    its_client = ap (λ x. x.client) offer.its.is

    own_grown : own_in c merged_more ≡ own_in c is.merged ++ entry ∷ []
    own_grown = own_more is.merged entry c its_client

    pub others_own : (d : ℕ) → d ≢ c → own_in d merged_more ≡ own_in d is.merged
    others_own d other = own_same is.merged entry d (λ same. other (sym same ∙ its_client))

    next_there : slice_get (multi_calls script c) (length (own_in c is.merged)) ≡ Some offer.written
    next_there = ap (slice_get (multi_calls script c)) offer.all_given ∙ offer.next

    made_more : AreFirstMultiCalls (interfaces_of members) merged_more c (own_in c merged_more) (multi_calls script c)
    made_more = subst (λ es. AreFirstMultiCalls (interfaces_of members) merged_more c es (multi_calls script c)) (sym own_grown)
        (first_more (interfaces_of members) merged_more c (own_in c is.merged) (multi_calls script c) entry offer.written
        (first_grown (interfaces_of members) is.merged merged_more entry c 1 (own_in c is.merged) (multi_calls script c) own_grown (omega arith) (is.playable.fit c) was_caller.made)
        next_there
        (call_grown (interfaces_of members) is.merged merged_more entry c (1 + length (own_in c is.merged)) offer.written (place + 1) (seat_of w c).call own_grown (omega arith)
        (fits_at (interfaces_of members) 1 (multi_calls script c) (length (own_in c is.merged)) offer.written (is.playable.fit c) next_there) offer.its))

    one_more : length (own_in c merged_more) ≡ length gave + 1
    one_more = ap (λ (l : List MultiEntry). length l) own_grown ∙ length-append (own_in c is.merged) (entry ∷ []) ∙ ap (λ n. n + 1) offer.all_given

    -- elsewhere the client has no call under way
    free_elsewhere : (now_given : List ℕ) (q : ℕ) (x : Membered) → q ≢ place → slice_get members q ≡ Some x → IsSeatOf (interfaces_of members) script merged_more c now_given q (seat_of (view_in x) c)
    free_elsewhere now_given q x other there =
        let alone = offers_alone (interfaces_of members) script is.merged c gave place q (seat_of w c) (seat_of (view_in x) c) (λ same. other (sym same)) e.offered seat_then (was_caller.seats q x there) in
        seat_free (interfaces_of members) script merged_more c now_given q (seat_of (view_in x) c) (not_true (is_offered (seat_of (view_in x) c).phase) alone.0) (not_true (is_receipted (seat_of (view_in x) c).phase) alone.1)

    -- its seat is then so
    phase_new : (seat_of (view_in changes.new) c).phase ≡ p
    phase_new = ap (λ (s : Seat). s.phase) (seat_new c) ∙ e.phase

    caller_with : (now_given : List ℕ) → GaveIds (take (length now_given) (entries_in (own_in c merged_more))) now_given
        → IsSeatOf (interfaces_of members) script merged_more c now_given place (seat_of (view_in changes.new) c)
        → (IsAllHanded later c → length (own_in c merged_more) ≡ length now_given) → IsMultiCaller later script merged_more c now_given
    caller_with now_given ids here settled = record {
      made = subst (λ i. AreFirstMultiCalls i merged_more c (own_in c merged_more) (multi_calls script c)) (sym same_interfaces) made_more;
      gave = ids;
      seats = λ q x there. subst (λ i. IsSeatOf i script merged_more c now_given q (seat_of (view_in x) c)) (sym same_interfaces) (seat q x (later_cases q x there));
      settled = settled;
    }
      where
        seat : (q : ℕ) (x : Membered) → ((q ≡ place) × (x ≡ changes.new)) ⊎ ((q ≢ place) × (slice_get members q ≡ Some x)) → IsSeatOf (interfaces_of members) script merged_more c now_given q (seat_of (view_in x) c)
        seat q x (inl its) = subst (λ n. IsSeatOf (interfaces_of members) script merged_more c now_given n (seat_of (view_in x) c)) (sym its.0)
            (subst (λ (y : Membered). IsSeatOf (interfaces_of members) script merged_more c now_given place (seat_of (view_in y) c)) (sym its.1) here)
        seat q x (inr other) = free_elsewhere now_given q x other.0 other.1

    -- the reply is still to be handed over
    pub caller_receipted : p ≡ Receipted → IsMultiCaller later script merged_more c gave
    caller_receipted receipted = caller_with gave
        (subst (λ es. GaveIds (take (length gave) (entries_in es)) gave) (sym own_grown) (gave_same (own_in c is.merged) entry gave was_caller.gave))
        (record {
          offers = λ offers. absurd (let none : is_offered (seat_of (view_in changes.new) c).phase ≡ false = ap is_offered (phase_new ∙ receipted) in cc (none, offers));
          receipt = λ has. record { one_more = one_more; written = offer.written; next = offer.next; its_member = offer.its.its_member };
        })
        (λ handed. absurd (let has : is_receipted (seat_of (view_in changes.new) c).phase ≡ true = ap is_receipted (phase_new ∙ receipted) in let none = handed place changes.new new_there in cc (has, none)))

    -- it was handed over at once
    pub caller_answered : p ≡ Idle → IsMultiCaller later script merged_more c (gave ++ desc_of reply ∷ [])
    caller_answered idle = caller_with (gave ++ desc_of reply ∷ [])
        (subst (λ es. GaveIds (take (length (gave ++ desc_of reply ∷ [])) (entries_in es)) (gave ++ desc_of reply ∷ [])) (sym own_grown)
        (gave_last (own_in c is.merged) entry gave (desc_of reply) offer.all_given was_caller.gave refl))
        (seat_free (interfaces_of members) script merged_more c (gave ++ desc_of reply ∷ []) place (seat_of (view_in changes.new) c) (ap is_offered (phase_new ∙ idle)) (ap is_receipted (phase_new ∙ idle)))
        (λ handed. one_more ∙ sym (length-append gave (desc_of reply ∷ [])))

    -- the merged list has the entry
    pub merges_more : Merges (order ++ (place + 1) ∷ []) (map (λ x. (view_in x).history) later) merged_more
    merges_more =
        let history : (view_in changes.new).history ≡ w.history ++ entry.entry ∷ [] = ap (λ v. v.history) changes.view_is ∙ e.entered in
        subst (λ h. Merges (order ++ (place + 1) ∷ []) h merged_more) (sym (ap (map (λ x. (view_in x).history)) changes.are ∙ map_set (λ x. (view_in x).history) members place changes.new ∙ ap (slice_set (map (λ x. (view_in x).history) members) place) history))
        (merges_push order (map (λ x. (view_in x).history) members) is.merged place w.history entry.entry (mapped_at (λ x. (view_in x).history) members place m changes.there) is.merges)

    pub none_else_more : (d : ℕ) → own_in d merged_more ≢ [] → (1 ≤ d) × (d ≤ most_client script.clients)
    none_else_more d some = by (same_or_other d c)
      where
        by : (d ≡ c) ⊎ (d ≢ c) → (1 ≤ d) × (d ≤ most_client script.clients)
        by (inl same) = subst (λ n. (1 ≤ n) × (n ≤ most_client script.clients)) (sym same) (first, last)
        by (inr other) = is.none_else d (λ none. some (others_own d other ∙ none))

    -- the setup's calls stay in front
    module _ (turn : is_multi_setting_up script given ≡ true → c ≡ 1) where
      pub front_more : all_of_first (take (length script.setup) merged_more) ≡ true
      front_more = by (bool_cases (is_multi_setting_up script given))
        where
          by : (is_multi_setting_up script given ≡ true) ⊎ (is_multi_setting_up script given ≡ false) → all_of_first (take (length script.setup) merged_more) ≡ true
          by (inl on) = all_front merged_more (length script.setup) (all_push is.merged entry (is.setting_up on) (its_client ∙ turn on))
          by (inr over) =
              let one : 1 ≤ most_client script.clients = omega (arith, first, last) in
              let handed = few_given (own_in 1 is.merged) (given_in given 1) (is.callers 1 (omega arith) one).gave in
              ap all_of_first (front_push is.merged entry (length script.setup) (omega (arith, not_below (length (given_in given 1)) (length script.setup) over, handed, own_within 1 is.merged)))
              ∙ is.front

      pub setting_more : is_multi_setting_up script given ≡ true → all_of_first merged_more ≡ true
      setting_more on = all_push is.merged entry (is.setting_up on) (its_client ∙ turn on)

  -- ---- a reply is handed over

  module _ (c : ℕ) (first : 1 ≤ c) (last : c ≤ most_client script.clients) (h : HandsOver w c now) (reply : Reply) (call : Call)
      (last_is : last_of (calls_of now.history c) ≡ Some (record { call = call; reply = reply })) where
    abbrev gave_then : List ℕ
    gave_then = given_in given c

    caller_then : IsMultiCaller members script is.merged c gave_then
    caller_then = is.callers c first last

    seat_was : IsSeatOf (interfaces_of members) script is.merged c gave_then place (seat_of w c)
    seat_was = caller_then.seats place m changes.there

    receipted : is_receipted (seat_of w c).phase ≡ true
    receipted = ap is_receipted h.was

    receipt : HasReceipt script is.merged c gave_then place
    receipt = seat_was.receipt receipted

    pub caller_handed : IsMultiCaller later script is.merged c (gave_then ++ desc_of reply ∷ [])
    caller_handed = by (split_last (own_in c is.merged) (length gave_then) receipt.one_more)
      where
        new : List ℕ
        new = gave_then ++ desc_of reply ∷ []

        seat : (q : ℕ) (x : Membered) → ((q ≡ place) × (x ≡ changes.new)) ⊎ ((q ≢ place) × (slice_get members q ≡ Some x)) → IsSeatOf (interfaces_of members) script is.merged c new q (seat_of (view_in x) c)
        seat q x (inl its) =
            let idle = ap (λ y. (seat_of (view_in y) c).phase) its.1 ∙ ap (λ (s : Seat). s.phase) (seat_new c) ∙ h.phase in
            seat_free (interfaces_of members) script is.merged c new q (seat_of (view_in x) c) (ap is_offered idle) (ap is_receipted idle)
        seat q x (inr other) =
            let alone = receipt_alone (interfaces_of members) script is.merged c gave_then place q (seat_of w c) (seat_of (view_in x) c) (λ same. other.0 (sym same)) receipted seat_was (caller_then.seats q x other.1) in
            seat_free (interfaces_of members) script is.merged c new q (seat_of (view_in x) c) (not_true (is_offered (seat_of (view_in x) c).phase) alone.0) (not_true (is_receipted (seat_of (view_in x) c).phase) alone.1)

        by : (front : List MultiEntry) × (x : MultiEntry) × (own_in c is.merged ≡ front ++ x ∷ []) × (length front ≡ length gave_then) → IsMultiCaller later script is.merged c new
        by (front, x, own, count) =
            let its : x.member ≡ place + 1 = at_its_member (interfaces_of members) is.merged c front x [] (multi_calls script c) receipt.written
            (subst (λ es. AreFirstMultiCalls (interfaces_of members) is.merged c es (multi_calls script c)) own caller_then.made) (ap (slice_get (multi_calls script c)) count ∙ receipt.next) ∙ sym receipt.its_member in
            let history : entries_at x.member is.merged ≡ now.history = ap (λ n. entries_at n is.merged) its
            ∙ is.merges.each place w.history (mapped_at (λ y. (view_in y).history) members place m changes.there) ∙ sym h.same in
            let both : Some x.entry ≡ Some (record { call = call; reply = reply }) = sym (last_at is.merged c front x own) ∙ ap (λ es. last_of (calls_of es c)) history ∙ last_is in
            let entry_is : x.entry ≡ record { call = call; reply = reply } = cc both in
            let front_gave : GaveIds (take (length gave_then) (entries_in front)) gave_then = gave_front front x gave_then count (subst (λ es. GaveIds (take (length gave_then) (entries_in es)) gave_then) own caller_then.gave) in
            record {
              made = subst (λ i. AreFirstMultiCalls i is.merged c (own_in c is.merged) (multi_calls script c)) (sym same_interfaces) caller_then.made;
              gave = subst (λ es. GaveIds (take (length new) (entries_in es)) new) (sym own) (gave_last front x gave_then (desc_of reply) count front_gave (ap (λ y. desc_of y.reply) entry_is));
              seats = λ q y there. subst (λ i. IsSeatOf i script is.merged c new q (seat_of (view_in y) c)) (sym same_interfaces) (seat q y (later_cases q y there));
              settled = λ handed. receipt.one_more ∙ sym (length-append gave_then (desc_of reply ∷ []));
            }

  -- ---- all together

  -- nothing changes for any client
  pub kept_still : KeepsMember (setting_in m) now → IsQuiet w now → KeepsMulti later script given order
  kept_still member q = rebuilt given order member q.clients refl is.merged (merges_same order (map (λ x. (view_in x).history) members) (map (λ x. (view_in x).history) later) is.merged histories is.merges)
      (λ d from to. caller_goes_on is.merged d refl (q.each d from) from to) is.none_else is.front is.setting_up
    where
      histories : map (λ x. (view_in x).history) later ≡ map (λ x. (view_in x).history) members
      histories = ap (map (λ x. (view_in x).history)) changes.are
          ∙ map_kept (λ x. (view_in x).history) members place m changes.new changes.there (ap (λ v. v.history) changes.view_is ∙ q.same)

  -- what a client is given is longer by one
  module _ (c : ℕ) (first : 1 ≤ c) (last : c ≤ most_client script.clients) (id : ℕ) where
    abbrev gave_more : List (List ℕ)
    gave_more = with_handed given c (Some id)

    within_lists : c ≤ length given
    within_lists = omega (arith, last, is.lists)

    given_own : given_in gave_more c ≡ given_in given c ++ id ∷ []
    given_own = given_here given c (given_in given c ++ id ∷ []) first within_lists

    given_other : (d : ℕ) → 1 ≤ d → d ≢ c → given_in gave_more d ≡ given_in given d
    given_other d from other = given_there given c d (given_in given c ++ id ∷ []) first from other

    was_on : is_multi_setting_up script gave_more ≡ true → is_multi_setting_up script given ≡ true
    was_on on = handed_was script given c first within_lists id on

    callers_more : (merged : List MultiEntry) → IsMultiCaller later script merged c (given_in given c ++ id ∷ [])
        → ((d : ℕ) → 1 ≤ d → d ≤ most_client script.clients → d ≢ c → IsMultiCaller later script merged d (given_in given d))
        → (d : ℕ) → 1 ≤ d → d ≤ most_client script.clients → IsMultiCaller later script merged d (given_in gave_more d)
    callers_more merged own others d from to = by (same_or_other d c)
      where
        by : (d ≡ c) ⊎ (d ≢ c) → IsMultiCaller later script merged d (given_in gave_more d)
        by (inl same) = subst (λ n. IsMultiCaller later script merged n (given_in gave_more n)) (sym same) (subst (IsMultiCaller later script merged c) (sym given_own) own)
        by (inr other) = subst (IsMultiCaller later script merged d) (sym (given_other d from other)) (others d from to other)

    -- a reply is handed over that was in the history
    pub kept_handed : KeepsMember (setting_in m) now → (h : HandsOver w c now) → (reply : Reply) (call : Call) → last_of (calls_of now.history c) ≡ Some (record { call = call; reply = reply }) → id ≡ desc_of reply
        → KeepsMulti later script gave_more order
    kept_handed member h reply call last_is told =
        rebuilt gave_more order member h.clients (length_kept given (c - 1) (given_in given c ++ id ∷ [])) is.merged
        (merges_same order (map (λ x. (view_in x).history) members) (map (λ x. (view_in x).history) later) is.merged
        (ap (map (λ x. (view_in x).history)) changes.are ∙ map_kept (λ x. (view_in x).history) members place m changes.new changes.there (ap (λ v. v.history) changes.view_is ∙ h.same)) is.merges)
        (callers_more is.merged (subst (λ n. IsMultiCaller later script is.merged c (given_in given c ++ n ∷ [])) (sym told) (caller_handed c first last h reply call last_is))
        (λ d from to other. caller_goes_on is.merged d refl (h.others d from other) from to))
        is.none_else is.front (λ on. is.setting_up (was_on on))

    -- a reply is handed over as its call comes into the history
    pub kept_answered : KeepsMember (setting_in m) now → (reply : Reply) → Enters w c Idle reply now → (is_multi_setting_up script given ≡ true → c ≡ 1) → id ≡ desc_of reply
        → KeepsMulti later script gave_more (order ++ (place + 1) ∷ [])
    kept_answered member reply e turn told =
        rebuilt gave_more (order ++ (place + 1) ∷ []) member e.clients (length_kept given (c - 1) (given_in given c ++ id ∷ [])) (merged_more c first last Idle reply e)
        (merges_more c first last Idle reply e)
        (callers_more (merged_more c first last Idle reply e)
        (subst (λ n. IsMultiCaller later script (merged_more c first last Idle reply e) c (given_in given c ++ n ∷ [])) (sym told) (caller_answered c first last Idle reply e refl))
        (λ d from to other. caller_goes_on (merged_more c first last Idle reply e) d (others_own c first last Idle reply e d other) (e.others d from other) from to))
        (none_else_more c first last Idle reply e) (front_more c first last Idle reply e turn) (λ on. setting_more c first last Idle reply e turn (was_on on))

  -- a call comes into the history, and its reply is still to be handed over
  pub kept_entered : KeepsMember (setting_in m) now → (c : ℕ) → 1 ≤ c → c ≤ most_client script.clients → (reply : Reply) → Enters w c Receipted reply now → (is_multi_setting_up script given ≡ true → c ≡ 1)
      → KeepsMulti later script given (order ++ (place + 1) ∷ [])
  kept_entered member c first last reply e turn =
      rebuilt given (order ++ (place + 1) ∷ []) member e.clients refl (merged_more c first last Receipted reply e) (merges_more c first last Receipted reply e)
      (λ d from to. by d from to (same_or_other d c)) (none_else_more c first last Receipted reply e) (front_more c first last Receipted reply e turn) (setting_more c first last Receipted reply e turn)
    where
      by : (d : ℕ) → 1 ≤ d → d ≤ most_client script.clients → (d ≡ c) ⊎ (d ≢ c) → IsMultiCaller later script (merged_more c first last Receipted reply e) d (given_in given d)
      by d from to (inl same) = subst (λ n. IsMultiCaller later script (merged_more c first last Receipted reply e) n (given_in given n)) (sym same) (caller_receipted c first last Receipted reply e refl)
      by d from to (inr other) = caller_goes_on (merged_more c first last Receipted reply e) d (others_own c first last Receipted reply e d other) (e.others d from other) from to

  -- ---- a step

  module _ (c : ℕ) (first : 1 ≤ c) (last : c ≤ most_client script.clients) (turn : is_multi_setting_up script given ≡ true → c ≡ 1) (before : RecoversSoFar (setting_in m) w) (behind : RecoversSoFar (setting_in m) now) where
    here : c ≤ length w.seats
    here = omega (arith, last, is.clients place m changes.there)

    member_is : KeepsMember (setting_in m) w
    member_is = is.each place m changes.there

    its : is_offered (seat_of w c).phase ≡ true → (seat_of w c).call.client ≡ c
    its = call_is_own (setting_in m).iface.facts member_is.script w.history c (seat_of w c) (member_is.playing.callers.each c first here)

    number : is_offered (seat_of w c).phase ≡ true → (seat_of w c).call.seq ≡ (seat_of w c).seq + 1
    number = call_is_next (setting_in m).iface.facts member_is.script w.history c (seat_of w c) (member_is.playing.callers.each c first here)

    -- what a step of the client keeps, where the order has an entry more if the client has
    abbrev KeptBy : Did → Type 0
    KeptBy did = KeepsMulti later script (with_handed given c (handed_by did)) (cond (nat_lt (seat_of w c).seq (seat_of now c).seq) (order ++ (place + 1) ∷ []) order)

    order_same : (gave : List (List ℕ)) → (seat_of now c).seq ≡ (seat_of w c).seq → KeepsMulti later script gave order
        → KeepsMulti later script gave (cond (nat_lt (seat_of w c).seq (seat_of now c).seq) (order ++ (place + 1) ∷ []) order)
    order_same gave same kept = subst (λ b. KeepsMulti later script gave (cond b (order ++ (place + 1) ∷ []) order)) (sym (never_less (seat_of w c).seq (seat_of now c).seq same)) kept

    order_more : (gave : List (List ℕ)) → (seat_of now c).seq ≡ (seat_of w c).seq + 1 → KeepsMulti later script gave (order ++ (place + 1) ∷ [])
        → KeepsMulti later script gave (cond (nat_lt (seat_of w c).seq (seat_of now c).seq) (order ++ (place + 1) ∷ []) order)
    order_more gave more kept = subst (λ b. KeepsMulti later script gave (cond b (order ++ (place + 1) ∷ []) order)) (sym (one_less (seat_of w c).seq (seat_of now c).seq more)) kept

    quiet : (did : Did) → HasStepped (setting_in m) w c did now → AnswersLast now c did → ((reply : Reply) → did ≡ Answered reply → ⊥)
        → KeepsMulti later script given (cond (nat_lt (seat_of w c).seq (seat_of now c).seq) (order ++ (place + 1) ∷ []) order)
    quiet did steps answers none = by (goes_quietly (setting_in m) w c first here its did now none steps)
      where
        member : KeepsMember (setting_in m) now
        member = member_stepped (setting_in m) w c first here member_is before did now behind steps answers

        by : GoesQuietly w c now → KeepsMulti later script given (cond (nat_lt (seat_of w c).seq (seat_of now c).seq) (order ++ (place + 1) ∷ []) order)
        by (inl q) = order_same given (q.each c first).seq (kept_still member q)
        by (inr (reply, e)) = order_more given (e.number ∙ number e.offered) (kept_entered member c first last reply e turn)

    pub kept_step : (did : Did) → HasStepped (setting_in m) w c did now → AnswersLast now c did → KeptBy did
    kept_step Skipped steps answers = quiet Skipped steps answers (λ reply answered. cc answered)
    kept_step Struck steps answers = quiet Struck steps answers (λ reply answered. cc answered)
    kept_step Booted steps answers = quiet Booted steps answers (λ reply answered. cc answered)
    kept_step Replayed steps answers = quiet Replayed steps answers (λ reply answered. cc answered)
    kept_step Loaded steps answers = quiet Loaded steps answers (λ reply answered. cc answered)
    kept_step Served steps answers = quiet Served steps answers (λ reply answered. cc answered)
    kept_step Waits steps answers = quiet Waits steps answers (λ reply answered. cc answered)
    kept_step Lost steps answers = quiet Lost steps answers (λ reply answered. cc answered)
    kept_step (Answered reply) steps answers = by (is_answered (setting_in m) w c first here its reply now steps)
      where
        member : KeepsMember (setting_in m) now
        member = member_stepped (setting_in m) w c first here member_is before (Answered reply) now behind steps answers

        by : Answers w c reply now → KeptBy (Answered reply)
        by (inl h) = order_same (with_handed given c (Some (desc_of reply))) h.number (kept_handed c first last (desc_of reply) member h reply answers.0 answers.1 refl)
        by (inr e) = order_more (with_handed given c (Some (desc_of reply))) (e.number ∙ number e.offered) (kept_answered c first last (desc_of reply) member reply e turn refl)

  -- it leaves as many clients
  pub seats_stay : (c : ℕ) → 1 ≤ c → c ≤ most_client script.clients → (did : Did) → HasStepped (setting_in m) w c did now → length now.seats ≡ length w.seats
  seats_stay c first last did steps =
      let within : c ≤ length w.seats = omega (arith, last, is.clients place m changes.there) in
      let own = is.each place m changes.there in
      clients_kept (setting_in m) w c first within (call_is_own (setting_in m).iface.facts own.script w.history c (seat_of w c) (own.playing.callers.each c first within)) did now steps

  -- a step wanted memory
  pub kept_wanted : (c : ℕ) → LackedMemory (setting_in m) w c now → KeepsMulti later script given order
  kept_wanted c wants = kept_still (member_wanted (setting_in m) w c now wants (is.each place m changes.there))
      (subst (IsQuiet w) (sym wants.counted) (record { same = refl; clients = refl; each = λ client from. goes_same (seat_of w client) }))

  -- an event was counted
  pub kept_happened : now ≡ happened w → KeepsMulti later script given order
  kept_happened counted = kept_still (subst (KeepsMember (setting_in m)) (sym counted) (member_happened (setting_in m) w (is.each place m changes.there)))
      (subst (IsQuiet w) (sym counted) (record { same = refl; clients = refl; each = λ client from. goes_same (seat_of w client) }))

  -- ---- an offer

  module _ (c : ℕ) (first : 1 ≤ c) (last : c ≤ most_client script.clients) (free : is_free_phase (seat_of w c).phase ≡ true) (written : MultiCall)
      (next : slice_get (multi_calls script c) (length (given_in given c)) ≡ Some written) (its_place : place + 1 ≡ written.member) where
    offering : IsMultiCaller members script is.merged c (given_in given c)
    offering = is.callers c first last

    -- the client was handed all its replies
    pub all_handed : length (own_in c is.merged) ≡ length (given_in given c)
    all_handed = offering.settled (λ q x there. not_true (is_receipted (seat_of (view_in x) c).phase) (λ has. by q x there has (same_or_other q place)))
      where
        by : (q : ℕ) (x : Membered) → slice_get members q ≡ Some x → is_receipted (seat_of (view_in x) c).phase ≡ true → (q ≡ place) ⊎ (q ≢ place) → ⊥
        by q x there has (inl same) =
            let its = same_member x (ap (slice_get members) (sym same) ∙ there) in
            let none : is_receipted (seat_of w c).phase ≡ false = free_receipts (seat_of w c).phase free in
            let was : is_receipted (seat_of w c).phase ≡ true = ap (λ y. is_receipted (seat_of (view_in y) c).phase) (sym its) ∙ has in
            cc (none, was)
        by q x there has (inr other) =
            let r = (offering.seats q x there).receipt has in
            let both : Some r.written ≡ Some written = sym r.next ∙ next in
            let same : r.written ≡ written = cc both in
            other (omega (arith, r.its_member, ap (λ (y : MultiCall). y.member) same, its_place))

    module _ (call : Call) (its : IsCallOf (interfaces_of members) is.merged c written (place + 1) call) (offers : now ≡ happened (offered w c call)) where
      within_seats : c ≤ length w.seats
      within_seats = omega (arith, last, is.clients place m changes.there)

      seats_now : now.seats ≡ slice_set w.seats (c - 1) (record (seat_of w c) { phase = Asked; call = call })
      seats_now = ap (λ (x : WorldView). x.seats) offers

      seat_asked : seat_of now c ≡ record (seat_of w c) { phase = Asked; call = call }
      seat_asked = ap (λ l. seat_in l c) seats_now ∙ seat_here w.seats c (record (seat_of w c) { phase = Asked; call = call }) first within_seats

      caller_asks : IsMultiCaller later script is.merged c (given_in given c)
      caller_asks = record {
        made = subst (λ i. AreFirstMultiCalls i is.merged c (own_in c is.merged) (multi_calls script c)) (sym same_interfaces) offering.made;
        gave = offering.gave;
        seats = λ q x there. subst (λ i. IsSeatOf i script is.merged c (given_in given c) q (seat_of (view_in x) c)) (sym same_interfaces) (seat q x (later_cases q x there));
        settled = λ handed. all_handed;
      }
        where
          new_seat : IsSeatOf (interfaces_of members) script is.merged c (given_in given c) place (record (seat_of w c) { phase = Asked; call = call })
          new_seat = record {
            offers = λ is_so. record { all_given = all_handed; written = written; next = next; its = its };
            receipt = λ has. absurd (cc has);
          }

          seat : (q : ℕ) (x : Membered) → ((q ≡ place) × (x ≡ changes.new)) ⊎ ((q ≢ place) × (slice_get members q ≡ Some x)) → IsSeatOf (interfaces_of members) script is.merged c (given_in given c) q (seat_of (view_in x) c)
          seat q x (inl here) = subst (λ n. IsSeatOf (interfaces_of members) script is.merged c (given_in given c) n (seat_of (view_in x) c)) (sym here.0)
              (subst (IsSeatOf (interfaces_of members) script is.merged c (given_in given c) place) (sym (ap (λ y. seat_of (view_in y) c) here.1 ∙ seat_new c ∙ seat_asked)) new_seat)
          seat q x (inr other) = offering.seats q x other.1

      pub kept_offered : KeepsMember (setting_in m) now → KeepsMulti later script given order
      kept_offered member = rebuilt given order member (ap (λ (l : List Seat). length l) seats_now ∙ length_set w.seats (c - 1) (record (seat_of w c) { phase = Asked; call = call })) refl is.merged
          (merges_same order (map (λ x. (view_in x).history) members) (map (λ x. (view_in x).history) later) is.merged
          (ap (map (λ x. (view_in x).history)) changes.are ∙ map_kept (λ x. (view_in x).history) members place m changes.new changes.there (ap (λ v. v.history) changes.view_is ∙ ap (λ (x : WorldView). x.history) offers)) is.merges)
          (λ d from to. by d from to (same_or_other d c)) is.none_else is.front is.setting_up
        where
          by : (d : ℕ) → 1 ≤ d → d ≤ most_client script.clients → (d ≡ c) ⊎ (d ≢ c) → IsMultiCaller later script is.merged d (given_in given d)
          by d from to (inl same) = subst (λ n. IsMultiCaller later script is.merged n (given_in given n)) (sym same) caller_asks
          by d from to (inr other) = caller_goes_on is.merged d refl
              (subst (GoesOn (seat_of w d)) (sym (ap (λ l. seat_in l d) seats_now ∙ seat_there w.seats c d (record (seat_of w c) { phase = Asked; call = call }) first from other)) (goes_same (seat_of w d))) from to
