-- What a play over several services promises, where nobody can take a turn.
use Rattle.std.proofs.Common.{◌≡◌, ◌≢◌, ℕ, zero, suc, ◌+◌, ◌-◌, ◌<◌, ◌≤◌, Bool, true, false, cond, not, List, [], ◌∷◌, ◌++◌, Some, None, filter, flat_map, length, map, take, refl, sym, ◌∙◌, ap, subst, arith, append-nil, append_assoc}
use Rattle.std.specs.Prelude.{◌==◌, ◌&&◌, ◌||◌, nat_le, nat_lt, slice_get, unwrap_or}
use Rattle.std.specs.List.{list_all, list_any}
use Rattle.std.specs.Option.{option_map_or}
use Rattle.std.specs.declared.option.Option.{Option}
use Rattle.std.proofs.lemmas.Bool.Decides.{nat_tests}
use Rattle.sg_multi.specs.sg_edge.Stops.{AscendsAbove, up_to}
use Rattle.sg_facts.specs.Interface.{Declared}
use Rattle.sg_facts.specs.Legal.{IsLegal, answer}
use Rattle.sg_facts.specs.Object.{object_of}
use Rattle.sg_facts.specs.Trace.{run_of}
use Rattle.sg_facts.specs.sg_base.Lists.{Each}
use Rattle.sg_facts.specs.sg_base.declared.call.Call.{Call}
use Rattle.sg_facts.proofs.Legality.{IsLegal-from}
use Rattle.sg_facts.proofs.Replaying.Found.{other_test, same_test}
use Rattle.sg_multi.proofs.sg_sim.sg_play.Ends.{IsOver, over_by}
use Rattle.sg_multi.proofs.sg_sim.sg_play.Striking.Striking.{striking_over}
use Rattle.sg_multi.proofs.sg_sim.sg_play.Waking.Waking.{waking_woken}
use Rattle.sg_multi.proofs.sg_sim.sg_play.sg_world.sg_world_laws.sg_recovery_laws.Lists.{each_append}
use Rattle.sg_multi.specs.Members.{Membered, setting_in, view_in}
use Rattle.sg_multi.specs.sg_sim.Played.{IsOfWorld}
use Rattle.sg_multi.specs.sg_sim.sg_plain.Calls.{ascending_from, most_client}
use Rattle.sg_multi.specs.sg_sim.sg_plain.Plain.{IsPlay, first_stage, stage_from}
use Rattle.sg_multi.specs.sg_sim.sg_plain.Playing.Callers.{is_receipted}
use Rattle.sg_multi.specs.sg_sim.sg_plain.Playing.Given.{given_in}
use Rattle.sg_multi.specs.sg_sim.sg_plain.Playing.Ends.{ends_from}
use Rattle.sg_multi.specs.sg_sim.sg_plain.Playing.Turns.{NobodyGoes, may_go}
use Rattle.sg_multi.specs.sg_sim.sg_plain.Promises.{AreWoken, IsSetupFirst}
use Rattle.sg_multi.specs.sg_sim.sg_play.Recovering.{RecoversSoFar}
use Rattle.sg_multi.specs.sg_sim.sg_play.sg_hist.Clients.{AreNumbered}
use Rattle.sg_multi.specs.sg_sim.sg_play.sg_hist.Ending.{AreAsked, HasRecovered}
use Rattle.sg_multi.specs.sg_sim.sg_play.sg_hist.Inside.Parts.{IsStillBlocked, waiting_in}
use Rattle.sg_multi.specs.sg_sim.sg_play.sg_hist.Reading.{places_of}
use Rattle.sg_multi.specs.sg_sim.sg_play.sg_hist.Recovered.{IsRecovered, Stubs, struck_in, waiting}
use Rattle.sg_multi.specs.sg_sim.sg_play.sg_hist.declared.ended.End.TheVariants.{Done as done, Blocked as blocked}
use Rattle.sg_multi.specs.sg_sim.sg_play.sg_hist.declared.ended.Ended.{Ended}
use Rattle.sg_multi.specs.sg_sim.sg_script.declared.multi.MultiCall.{MultiCall}
use Rattle.sg_multi.specs.sg_sim.sg_script.declared.multi.MultiScript.{MultiScript}
use Rattle.sg_multi.specs.sg_sim.sg_clients.WorldView.{Seat, WorldView, is_blocked_phase, is_offered, no_seat, offered_by, seat_of, unanswered}
use Rattle.sg_multi.specs.sg_sim.sg_clients.declared.phase.Phase.{Phase}
use Rattle.sg_multi.specs.sg_sim.sg_clients.declared.phase.Phase.TheVariants.{Idle, Asked, Held, Receipted, Blocked as Waits, Left}
use Rattle.sg_multi.specs.sg_sim.sg_world_laws.Setting.{Setting}
use Rattle.sg_multi.specs.Calls.{AreFirstMultiCalls, AreMultiCalls, has_multi_calls, multi_callers, multi_calls, setup_at}
use Rattle.sg_multi.specs.Ends.{AreMultiEnds, IsMultiEnd, IsWaiting, end_at, ends_at}
use Rattle.sg_multi.specs.Inside.Asked.{AreAskedSoFar}
use Rattle.sg_multi.specs.Inside.Callers.{IsSeatOf}
use Rattle.sg_multi.specs.Inside.Ended.{AreEndedMembers}
use Rattle.sg_multi.specs.Inside.Keeps.{IsMultiCaller, KeepsMulti, interfaces_of, is_multi_setting_up}
use Rattle.sg_multi.specs.Inside.SettingUp.{AreSettingUp}
use Rattle.sg_multi.specs.Inside.Member.{KeepsMember}
use Rattle.sg_multi.specs.Inside.Turns.{end_of_client, ends_up_to}
use Rattle.sg_multi.specs.Inside.Whose.{NobodyGoesOn, next_of, seat_at}
use Rattle.sg_multi.specs.Merged.{Merges, MultiEntry, entries_at, own_in}
use Rattle.sg_multi.specs.Played.{AreBeforeStops, IsAskedInTurn, IsMemberPlayed, IsMultiPlayed, stubs_in}
use Rattle.sg_multi.specs.SeveralServices.{MemberCall, multi_call_after, multi_workload, several_services}
use Rattle.sg_multi.specs.declared.ended.MultiEnd.{MultiEnd}
use Rattle.sg_multi.specs.declared.ended.MultiEnd.TheVariants.{Done, Blocked}
use Rattle.sg_multi.proofs.Asking.{asked_over}
use Rattle.sg_multi.proofs.Calling.{fits_at, no_more}
use Rattle.sg_multi.proofs.Merging.{at_mapped, length_mapped, mapped_at, shown_alike, there_is, there_within}
use Rattle.sg_multi.proofs.Stages.{next_call_is}
use Rattle.sg_multi.proofs.Own.{calls_alone, empty_script, nothing_of}
use Rattle.sg_multi.proofs.SettingUp.{sets_up_first}

-- ---- phases

-- who can't go on by itself waits, or has no call under way
rests_or_waits : (p : Phase) → may_go p false ≡ false → is_offered p ≡ true → p ≡ Waits
rests_or_waits Idle rests offers = absurd (cc offers)
rests_or_waits Left rests offers = absurd (cc offers)
rests_or_waits Asked rests offers = absurd (cc rests)
rests_or_waits Held rests offers = absurd (cc rests)
rests_or_waits Receipted rests offers = absurd (cc rests)
rests_or_waits Waits rests offers = refl

blocked_waits : (p : Phase) → not (is_blocked_phase p) ≡ false → p ≡ Waits
blocked_waits Waits is = refl
blocked_waits Idle is = absurd (cc is)
blocked_waits Asked is = absurd (cc is)
blocked_waits Held is = absurd (cc is)
blocked_waits Receipted is = absurd (cc is)
blocked_waits Left is = absurd (cc is)

-- ---- lists

never_less : (n : ℕ) → nat_lt n 0 ≡ false
never_less n = grind (arith, nat_tests)

none_at : (calls : List MultiCall) (k : ℕ) → not (length calls == 0) ≡ false → slice_get calls k ≡ None
none_at [] k none = refl
none_at (c ∷ calls) k none = absurd (cc (sym (ap not (other_test (length (c ∷ calls)) 0 (λ is. cc is))) ∙ none))

at_least : (calls : List MultiCall) (k : ℕ) → slice_get calls k ≡ None → length calls ≤ k
at_least [] k none = omega arith
at_least (c ∷ calls) zero none = absurd (cc none)
at_least (c ∷ calls) (suc k) none = omega (arith, at_least calls k none)

-- what holds of each client in a range holds of those with a call
each_caller : (P : ℕ → Type 0) (test : ℕ → Bool) (k n : ℕ) → ((m : ℕ) → k ≤ m → m < k + n → P m) → Each P (filter test (ascending_from k n))
each_caller P test k zero all = tt
each_caller P test k (suc n) all = by (test k) (each_caller P test (k + 1) n (λ m from below. all m (omega (arith, from)) (omega (arith, below))))
  where
    by : (b : Bool) → Each P (filter test (ascending_from (k + 1) n)) → Each P (cond b (k ∷ filter test (ascending_from (k + 1) n)) (filter test (ascending_from (k + 1) n)))
    by true rest = (all k (omega arith) (omega arith), rest)
    by false rest = rest

or_true : (b : Bool) → (b || true) ≡ true
or_true true = refl
or_true false = refl

-- a client in a range with a call is among these
among_callers : (test : ℕ → Bool) (k n m : ℕ) → k ≤ m → m < k + n → test m ≡ true → list_any (λ c. c == m) (filter test (ascending_from k n)) ≡ true
among_callers test k zero m from below meets = absurd (omega (arith, from, below))
among_callers test k (suc n) m from below meets = by (k == m) refl (test k) refl (λ other. among_callers test (k + 1) n m (omega (arith, from, other)) (omega (arith, below)) meets)
  where
    by : (same : Bool) → (k == m) ≡ same → (b : Bool) → test k ≡ b → ((k ≡ m → ⊥) → list_any (λ c. c == m) (filter test (ascending_from (k + 1) n)) ≡ true)
        → list_any (λ c. c == m) (cond b (k ∷ filter test (ascending_from (k + 1) n)) (filter test (ascending_from (k + 1) n))) ≡ true
    by true same true met rest = ap (λ b. b || list_any (λ c. c == m) (filter test (ascending_from (k + 1) n))) same
    by true same false met rest = let its : k ≡ m = grind (arith, nat_tests) in absurd (cc (sym meets ∙ ap test (sym its) ∙ met))
    by false same true met rest = ap (λ b. (k == m) || b) (rest (λ its. cc (sym (same_test k m its) ∙ same))) ∙ or_true (k == m)
    by false same false met rest = rest (λ its. cc (sym (same_test k m its) ∙ same))

-- a client has the entry that stands among others
has_entry : (front : List MultiEntry) (x : MultiEntry) (es : List MultiEntry) → own_in x.entry.call.client (front ++ x ∷ es) ≡ [] → ⊥
has_entry [] x es none = at (x.entry.call.client == x.entry.call.client) (same_test x.entry.call.client x.entry.call.client refl) none
  where
    at : (b : Bool) → b ≡ true → cond b (x ∷ own_in x.entry.call.client es) (own_in x.entry.call.client es) ≡ [] → ⊥
    at true is none = cc none
    at false is none = cc is
has_entry (y ∷ front) x es none = at (y.entry.call.client == x.entry.call.client) (has_entry front x es) none
  where
    at : (b : Bool) → (own_in x.entry.call.client (front ++ x ∷ es) ≡ [] → ⊥) → cond b (y ∷ own_in x.entry.call.client (front ++ x ∷ es)) (own_in x.entry.call.client (front ++ x ∷ es)) ≡ [] → ⊥
    at true behind none = cc none
    at false behind none = behind none

some_call : (interfaces : List Declared) (merged : List MultiEntry) (client : ℕ) (es : List MultiEntry) (calls : List MultiCall) → es ≢ [] → AreFirstMultiCalls interfaces merged client es calls → not (length calls == 0) ≡ true
some_call interfaces merged client [] calls some are = absurd (some refl)
some_call interfaces merged client (e ∷ es) [] some are = absurd are
some_call interfaces merged client (e ∷ es) (c ∷ calls) some are = ap not (other_test (length (c ∷ calls)) 0 (λ is. cc is))

-- stops that ascend are the listed ones up to a point
listed : (low : ℕ) (stops : List ℕ) (points : ℕ) → AscendsAbove low stops → up_to points stops ≡ filter (λ stop. nat_le stop points) stops
listed low [] points ascend = refl
listed low (n ∷ stops) points ascend =
    ap (λ b. cond (b && nat_le n points) (n ∷ up_to points stops) (up_to points stops)) (from_one n low ascend.0)
    ∙ ap (λ l. cond (nat_le n points) (n ∷ l) l) (listed n stops points ascend.1)
  where
    from_one : (n low : ℕ) → low < n → nat_le 1 n ≡ true
    from_one n low above = grind (arith, nat_tests)

pub each_at : {T : Type 0} (P : T → Type 0) (xs : List T) (k : ℕ) (x : T) → Each P xs → slice_get xs k ≡ Some x → P x
each_at P [] k x all there = absurd (cc there)
each_at P (y ∷ xs) zero x all there = let same : y ≡ x = cc there in subst P same all.0
each_at P (y ∷ xs) (suc k) x all there = each_at P xs k x all.1 there

-- the calls that wait, one client after the other
waiting_from : (m : ℕ) (end_of : ℕ → MultiEnd) (has : ℕ → Bool) (k : ℕ) (seats : List Seat)
    → ((j : ℕ) → j < length seats → offered_by (unwrap_or (slice_get seats j) no_seat) ≡ waiting_in (end_at m (end_of (k + j))))
    → ((j : ℕ) → j < length seats → has (k + j) ≡ false → waiting_in (end_at m (end_of (k + j))) ≡ [])
    → flat_map offered_by seats ≡ waiting (ends_at m (map (λ c. (c, end_of c)) (filter has (ascending_from k (length seats)))))
waiting_from m end_of has k [] each none = refl
waiting_from m end_of has k (s ∷ seats) each none =
    by (has k) refl (waiting_from m end_of has (k + 1) seats
    (λ j below. each (suc j) (omega (arith, below)) ∙ ap (λ n. waiting_in (end_at m (end_of n))) (let next : k + suc j ≡ k + 1 + j = omega arith in next))
    (λ j below not. ap (λ n. waiting_in (end_at m (end_of n))) (let next : k + 1 + j ≡ k + suc j = omega arith in next) ∙ none (suc j) (omega (arith, below)) (ap has (let next : k + suc j ≡ k + 1 + j = omega arith in next) ∙ not)))
  where
    rest : List (ℕ × MultiEnd)
    rest = map (λ c. (c, end_of c)) (filter has (ascending_from (k + 1) (length seats)))

    first : k + 0 ≡ k
    first = omega arith

    here : offered_by s ≡ waiting_in (end_at m (end_of k))
    here = each zero (omega arith) ∙ ap (λ n. waiting_in (end_at m (end_of n))) first

    by : (b : Bool) → has k ≡ b → flat_map offered_by seats ≡ waiting (ends_at m rest)
        → offered_by s ++ flat_map offered_by seats ≡ waiting (ends_at m (map (λ c. (c, end_of c)) (cond b (k ∷ filter has (ascending_from (k + 1) (length seats))) (filter has (ascending_from (k + 1) (length seats))))))
    by true is more = ap (λ l. l ++ flat_map offered_by seats) here ∙ ap (λ l. waiting_in (end_at m (end_of k)) ++ l) more
    by false is more = ap (λ l. l ++ flat_map offered_by seats) (here ∙ sym (ap (λ n. waiting_in (end_at m (end_of n))) first) ∙ none zero (omega arith) (ap has first ∙ is)) ∙ more

each_offered : (P : Call → Type 0) (seats : List Seat) → ((j : ℕ) → j < length seats → Each P (offered_by (unwrap_or (slice_get seats j) no_seat))) → Each P (flat_map offered_by seats)
each_offered P [] all = tt
each_offered P (s ∷ seats) all = each_append P (offered_by s) (flat_map offered_by seats) (all zero (omega arith)) (each_offered P seats (λ j below. all (suc j) (omega (arith, below))))

-- ---- where nobody can go on

module _ (members : List Membered) (script : MultiScript) (given : List (List ℕ)) (order : List ℕ) (is : KeepsMulti members script given order) (nobody : NobodyGoesOn members script given) where
  -- the member at a place has this seat of a client
  seat_there_is : (q : ℕ) (x : Membered) (c : ℕ) → slice_get members q ≡ Some x → seat_at members q c ≡ seat_of (view_in x) c
  seat_there_is q x c there = ap (λ o. option_map_or (λ m. seat_of (view_in m) c) o no_seat) there

  -- a client that has a call more waits in it
  next_waits : (c : ℕ) → 1 ≤ c → c ≤ most_client script.clients → (written : MultiCall) → next_of script given c ≡ Some written → (seat_at members (written.member - 1) c).phase ≡ Waits
  next_waits c first last written next =
      blocked_waits (seat_at members (written.member - 1) c).phase
      (sym (ap (λ o. option_map_or (λ (x : MultiCall). not (is_blocked_phase (seat_at members (x.member - 1) c).phase)) o false) next) ∙ nobody c first last)

  module _ (c : ℕ) (first : 1 ≤ c) (last : c ≤ most_client script.clients) (q : ℕ) (x : Membered) (there : slice_get members q ≡ Some x) where
    abbrev s : Seat
    s = seat_of (view_in x) c

    seat : IsSeatOf (interfaces_of members) script is.merged c (given_in given c) q s
    seat = (is.callers c first last).seats q x there

    waits_here : (written : MultiCall) → next_of script given c ≡ Some written → q + 1 ≡ written.member → s.phase ≡ Waits
    waits_here written next its =
        ap (λ (t : Seat). t.phase) (sym (seat_there_is q x c there)) ∙ ap (λ n. (seat_at members n c).phase) (let place : q ≡ written.member - 1 = omega (arith, its) in place) ∙ next_waits c first last written next

    pub seat_rests : may_go s.phase false ≡ false
    seat_rests = by s.phase refl
      where
        offers : (p : Phase) → s.phase ≡ p → is_offered p ≡ true → p ≡ Waits
        offers p phase so = let o = seat.offers (ap is_offered phase ∙ so) in sym phase ∙ waits_here o.written o.next o.its.its_member

        by : (p : Phase) → s.phase ≡ p → may_go p false ≡ false
        by Idle phase = refl
        by Left phase = refl
        by Waits phase = refl
        by Asked phase = absurd (let is_so = offers Asked phase refl in cc is_so)
        by Held phase = absurd (let is_so = offers Held phase refl in cc is_so)
        by Receipted phase = absurd (let r = seat.receipt (ap is_receipted phase) in let is_so = sym phase ∙ waits_here r.written r.next r.its_member in cc is_so)

    -- the client waits in its call of that member, as its end says
    pub waits_as_ended : offered_by s ≡ waiting_in (end_at (q + 1) (end_of_client members script given c))
    waits_as_ended = by (is_offered s.phase) refl
      where
        ends_so : (o : Option MultiCall) → end_of_client members script given c ≡ option_map_or (λ y. Blocked y.member (seat_at members (y.member - 1) c).call) o Done → (is_offered s.phase ≡ false) → next_of script given c ≡ o
            → [] ≡ waiting_in (end_at (q + 1) (end_of_client members script given c))
        ends_so None ends free next = ap (λ e. waiting_in (end_at (q + 1) e)) (sym ends)
        ends_so (Some written) ends free next = other (written.member == q + 1) refl ∙ ap (λ e. waiting_in (end_at (q + 1) e)) (sym ends)
          where
            other : (b : Bool) → (written.member == q + 1) ≡ b → [] ≡ waiting_in (cond b (blocked (seat_at members (written.member - 1) c).call) done)
            other false not = refl
            other true its =
                let same : q + 1 ≡ written.member = grind (arith, nat_tests, its) in
                absurd (let offers : is_offered s.phase ≡ true = ap is_offered (waits_here written next same) in cc (free, offers))

        by : (b : Bool) → is_offered s.phase ≡ b → cond b (s.call ∷ []) [] ≡ waiting_in (end_at (q + 1) (end_of_client members script given c))
        by false free = ends_so (next_of script given c) refl free refl
        by true so =
            let o = seat.offers so in
            let member = o.its.its_member in
            let at_place : q ≡ o.written.member - 1 = omega (arith, member) in
            let call : s.call ≡ (seat_at members (o.written.member - 1) c).call = ap (λ (t : Seat). t.call) (sym (seat_there_is q x c there)) ∙ ap (λ n. (seat_at members n c).call) at_place in
            ap (λ k. k ∷ []) call
            ∙ ap (λ b. waiting_in (cond b (blocked (seat_at members (o.written.member - 1) c).call) done)) (sym (same_test o.written.member (q + 1) (sym member)))
            ∙ ap (λ e. waiting_in (end_at (q + 1) e)) (sym (ap (λ n. option_map_or (λ (y : MultiCall). Blocked y.member (seat_at members (y.member - 1) c).call) n Done) o.next))

  -- ---- the run of a member

  -- what the world of a member tells of itself, where the play is over
  module _ (q : ℕ) (x : Membered) (there : slice_get members q ≡ Some x) (told : RecoversSoFar (setting_in x) (view_in x))
      (recovered : IsRecovered (stubs_in x) (view_in x).history (view_in x).run (unanswered (view_in x))) where
    abbrev w : WorldView
    w = view_in x

    abbrev z : Setting
    z = setting_in x

    keeps : KeepsMember z w
    keeps = is.each q x there

    as_many : length w.seats ≡ most_client script.clients
    as_many = is.clients q x there

    abbrev end_of : ℕ → MultiEnd
    end_of = end_of_client members script given

    abbrev ends : List (ℕ × MultiEnd)
    ends = ends_up_to members script given (most_client script.clients)

    place_of : (j : ℕ) → j ≡ 1 + j - 1
    place_of j = omega arith

    seat_so : (j : ℕ) → unwrap_or (slice_get w.seats j) no_seat ≡ seat_of w (1 + j)
    seat_so j = ap (λ n. unwrap_or (slice_get w.seats n) no_seat) (place_of j)

    without_calls : (c : ℕ) → has_multi_calls script c ≡ false → waiting_in (end_at (q + 1) (end_of c)) ≡ []
    without_calls c none = ap (λ o. waiting_in (end_at (q + 1) (option_map_or (λ y. Blocked y.member (seat_at members (y.member - 1) c).call) o Done))) (none_at (multi_calls script c) (length (given_in given c)) none)

    waiting_is : flat_map offered_by w.seats ≡ waiting (ends_at (q + 1) ends)
    waiting_is =
        waiting_from (q + 1) end_of (has_multi_calls script) 1 w.seats
        (λ j below. ap offered_by (seat_so j) ∙ waits_as_ended (1 + j) (omega arith) (omega (arith, below, as_many)) q x there)
        (λ j below. without_calls (1 + j))
        ∙ ap (λ n. waiting (ends_at (q + 1) (map (λ c. (c, end_of c)) (filter (has_multi_calls script) (ascending_from 1 n))))) as_many

    left_is : unanswered w ≡ waiting (ends_at (q + 1) ends)
    left_is = ap (λ l. flat_map offered_by w.seats ++ map (λ y. y.call) l) keeps.none_withdrawn ∙ append-nil (flat_map offered_by w.seats) ∙ waiting_is

    nobody_here : NobodyGoes (empty_script (most_client script.clients)) w.seats
    nobody_here c first last =
        ap (λ (l : List _). may_go (seat_of w c).phase (nat_lt (seat_of w c).seq (length l))) (calls_alone (empty_script (most_client script.clients)) c refl ∙ nothing_of c 1 (most_client script.clients))
        ∙ ap (may_go (seat_of w c).phase) (never_less (seat_of w c).seq) ∙ seat_rests c first (omega (arith, last, as_many)) q x there

    over : IsOver z.iface.facts w.history w.run.boots (ends_from (empty_script (most_client script.clients)) 1 w.seats)
    over = over_by z (empty_script (most_client script.clients)) w told.ending keeps.none_withdrawn nobody_here

    still_blocked : Each (IsStillBlocked z.iface.facts w.history w.run.boots) (waiting (ends_at (q + 1) ends))
    still_blocked = subst (Each (IsStillBlocked z.iface.facts w.history w.run.boots)) waiting_is
        (each_offered (IsStillBlocked z.iface.facts w.history w.run.boots) w.seats (λ j below. subst (λ s. Each (IsStillBlocked z.iface.facts w.history w.run.boots) (offered_by s)) (sym (seat_so j)) (at (1 + j) (omega arith) (omega (arith, below)))))
      where
        at : (c : ℕ) → 1 ≤ c → c ≤ length w.seats → Each (IsStillBlocked z.iface.facts w.history w.run.boots) (offered_by (seat_of w c))
        at c first last = by (is_offered (seat_of w c).phase) refl
          where
            by : (b : Bool) → is_offered (seat_of w c).phase ≡ b → Each (IsStillBlocked z.iface.facts w.history w.run.boots) (cond b ((seat_of w c).call ∷ []) [])
            by false free = tt
            by true so =
                let waits : (seat_of w c).phase ≡ Waits = ap (λ p. p) (rests_so (seat_of w c).phase refl so) in
                ((told.ending.blocked c first last).blocked waits, tt)
              where
                rests_so : (p : Phase) → (seat_of w c).phase ≡ p → is_offered (seat_of w c).phase ≡ true → (seat_of w c).phase ≡ Waits
                rests_so p phase offers = rests_or_waits (seat_of w c).phase (seat_rests c first (omega (arith, last, as_many)) q x there) offers

    pub member_played : (stops : List ℕ) → x.world.plan ≡ stops → AscendsAbove 0 stops → struck_in w.run ≡ up_to w.run.points x.world.plan
        → IsSetupFirst (setup_at (q + 1) script) w.history w.run → (ended : Ended) → IsOfWorld w ended → ended.ends ≡ ends_at (q + 1) ends → IsMemberPlayed (stubs_in x) (setup_at (q + 1) script) stops ended
    member_played stops plan ascend struck sets_up ended its ends_are = record {
      legal = subst (IsLegal z.iface z.ask) (sym its.0) (IsLegal-from z.iface z.ask w.history told.legal);
      numbered = subst (AreNumbered []) (sym its.0) keeps.numbered;
      setup = subst (λ h. IsSetupFirst (setup_at (q + 1) script) h (run_of ended.trace)) (sym its.0) (subst (IsSetupFirst (setup_at (q + 1) script) w.history) (sym its.1) sets_up);
      recovered = subst (λ h. HasRecovered (stubs_in x) h (run_of ended.trace) ended.ends) (sym its.0)
          (subst (λ r. HasRecovered (stubs_in x) w.history r ended.ends) (sym its.1) (subst (HasRecovered (stubs_in x) w.history w.run) (sym ends_are) (record {
            tables = told.set.tables;
            recovered = subst (IsRecovered (stubs_in x) w.history w.run) left_is recovered;
            blocked = still_blocked;
            used = over.used;
            asked = subst (λ u. AreAsked z.iface w.history u [] w.run.boots) left_is (striking_over z w over.quiet keeps.striking);
            lost = over.lost;
          })));
      stopped = subst (λ r. struck_in r ≡ filter (λ stop. nat_le stop r.points) stops) (sym its.1) (struck ∙ ap (up_to w.run.points) plan ∙ listed 0 stops w.run.points ascend);
      woken = subst (λ h. AreWoken z.iface.facts h (run_of ended.trace)) (sym its.0) (subst (AreWoken z.iface.facts w.history) (sym its.1) (waking_woken z w keeps.none_waits keeps.waking));
    }

  -- ---- the calls of all clients

  is_caller : (c : ℕ) → own_in c is.merged ≢ [] → list_any (λ d. d == c) (multi_callers script) ≡ true
  is_caller c some =
      let there = is.none_else c some in
      among_callers (has_multi_calls script) 1 (most_client script.clients) c there.0 (omega (arith, there.1))
      (some_call (interfaces_of members) is.merged c (own_in c is.merged) (multi_calls script c) some (is.callers c there.0 there.1).made)

  all_callers : (before es : List MultiEntry) → before ++ es ≡ is.merged → list_all (λ e. list_any (λ c. c == e.entry.call.client) (multi_callers script)) es ≡ true
  all_callers before [] same = refl
  all_callers before (e ∷ es) same =
      ap (λ b. b && list_all (λ y. list_any (λ c. c == y.entry.call.client) (multi_callers script)) es)
      (is_caller e.entry.call.client (λ none. has_entry before e es (ap (own_in e.entry.call.client) same ∙ none)))
      ∙ all_callers (before ++ e ∷ []) es (append_assoc before (e ∷ []) es ∙ same)

  stubs_interfaces : (xs : List Membered) → map (λ s. s.interface) (map stubs_in xs) ≡ interfaces_of xs
  stubs_interfaces [] = refl
  stubs_interfaces (y ∷ xs) = ap (λ l. y.world.tables.iface ∷ l) (stubs_interfaces xs)

  pub multi_calls_are : AreMultiCalls (map (λ s. s.interface) (map stubs_in members)) script is.merged
  multi_calls_are = subst (λ i. AreMultiCalls i script is.merged) (sym (stubs_interfaces members)) (record {
    each = each_caller (λ client. AreFirstMultiCalls (interfaces_of members) is.merged client (own_in client is.merged) (multi_calls script client)) (has_multi_calls script) 1 (most_client script.clients)
        (λ c from below. (is.callers c from (omega (arith, below))).made);
    none_else = all_callers [] is.merged refl;
    setup = is.front;
  })

  -- ---- the ends of all clients

  abbrev called : ℕ → Call → MemberCall
  called member call = record { member = member; call = call }

  pub multi_end : ((q : ℕ) (x : Membered) → slice_get members q ≡ Some x → RecoversSoFar (setting_in x) (view_in x)) → (c : ℕ) → 1 ≤ c → c ≤ most_client script.clients
      → IsMultiEnd (map stubs_in members) is.merged script c (end_of_client members script given c)
  multi_end told c first last = by (next_of script given c) refl
    where
      caller : IsMultiCaller members script is.merged c (given_in given c)
      caller = is.callers c first last

      by : (o : Option MultiCall) → next_of script given c ≡ o → IsMultiEnd (map stubs_in members) is.merged script c (option_map_or (λ y. Blocked y.member (seat_at members (y.member - 1) c).call) o Done)
      by None next =
          let all : length (own_in c is.merged) ≡ length (given_in given c) = caller.settled (λ q x there. no_receipt q x there) in
          omega (arith, all, at_least (multi_calls script c) (length (given_in given c)) next, no_more (interfaces_of members) is.merged c (own_in c is.merged) (multi_calls script c) caller.made)
        where
          no_receipt : (q : ℕ) (x : Membered) → slice_get members q ≡ Some x → is_receipted (seat_of (view_in x) c).phase ≡ false
          no_receipt q x there = at (is_receipted (seat_of (view_in x) c).phase) refl
            where
              at : (b : Bool) → is_receipted (seat_of (view_in x) c).phase ≡ b → is_receipted (seat_of (view_in x) c).phase ≡ false
              at false not = not
              at true has = let r = (caller.seats q x there).receipt has in absurd (let both : Some r.written ≡ None = sym r.next ∙ next in cc both)
      by (Some written) next =
          let fits = fits_at (interfaces_of members) 1 (multi_calls script c) (length (given_in given c)) written (is.playable.fit c) next in
          let found = at_mapped (λ (y : Membered). y.world.tables.iface) members (written.member - 1) fits.iface fits.there in
          waits written next fits.first found.0 found.1
        where
          waits : (written : MultiCall) → next_of script given c ≡ Some written → 1 ≤ written.member → (x : Membered) → slice_get members (written.member - 1) ≡ Some x
              → IsWaiting (map stubs_in members) is.merged script c written.member (seat_at members (written.member - 1) c).call
          waits written next some x there =
              let q = written.member - 1 in
              let number : q + 1 ≡ written.member = omega (arith, some) in
              let same = seat_there_is q x c there in
              let phase : (seat_of (view_in x) c).phase ≡ Waits = ap (λ (t : Seat). t.phase) (sym same) ∙ next_waits c first last written next in
              let o = (caller.seats q x there).offers (ap is_offered phase) in
              record {
                next = ap (multi_call_after (map stubs_in members) script is.merged c) o.all_given
                    ∙ next_call_is members script given order is c first last written next q number x there (ap is_offered phase)
                    ∙ ap (λ (k : ℕ). Some (called k (seat_of (view_in x) c).call)) number
                    ∙ ap (λ (t : Seat). Some (called written.member t.call)) (sym same);
                stubs = stubs_in x;
                there = mapped_at stubs_in members q x there;
                none =
                    let history : (view_in x).history ≡ entries_at written.member is.merged = sym (is.merges.each q (view_in x).history (mapped_at (λ (y : Membered). (view_in y).history) members q x there)) ∙ ap (λ n. entries_at n is.merged) number in
                    subst (λ h. answer (stubs_in x).interface (stubs_in x).ask (object_of (stubs_in x).interface.facts h) (seat_at members q c).call ≡ None) history
                    (subst (λ (t : Seat). answer (stubs_in x).interface (stubs_in x).ask (object_of (stubs_in x).interface.facts (view_in x).history) t.call ≡ None) (sym same)
                    ((told q x there).waits c first (omega (arith, last, is.clients q x there)) phase));
              }

  numbers_of_ends : (f : ℕ → MultiEnd) (cs : List ℕ) → map (λ (e : ℕ × MultiEnd). e.0) (map (λ c. (c, f c)) cs) ≡ cs
  numbers_of_ends f [] = refl
  numbers_of_ends f (c ∷ cs) = ap (λ l. c ∷ l) (numbers_of_ends f cs)

  each_paired : (P : ℕ → MultiEnd → Type 0) (f : ℕ → MultiEnd) (cs : List ℕ) → Each (λ c. P c (f c)) cs → Each (λ (e : ℕ × MultiEnd). P e.0 e.1) (map (λ c. (c, f c)) cs)
  each_paired P f [] all = tt
  each_paired P f (c ∷ cs) all = (all.0, each_paired P f cs all.1)

  pub multi_ends_are : ((q : ℕ) (x : Membered) → slice_get members q ≡ Some x → RecoversSoFar (setting_in x) (view_in x))
      → AreMultiEnds (map stubs_in members) is.merged script (ends_up_to members script given (most_client script.clients))
  multi_ends_are told = record {
    clients = numbers_of_ends (end_of_client members script given) (multi_callers script);
    each = each_paired (IsMultiEnd (map stubs_in members) is.merged script) (end_of_client members script given) (multi_callers script)
        (each_caller (λ c. IsMultiEnd (map stubs_in members) is.merged script c (end_of_client members script given c)) (has_multi_calls script) 1 (most_client script.clients)
        (λ c from below. multi_end told c from (omega (arith, below))));
  }

  -- ---- the whole

  -- what the members' runs came to is what the play promises
  pub multi_played : 1 ≤ most_client script.clients → is_multi_setting_up script given ≡ false → AreSettingUp members script given → AreAskedSoFar members script is.merged → (eds : List Ended) → AreEndedMembers members (ends_up_to members script given (most_client script.clients)) eds
      → (Each (λ e. struck_in (run_of e.trace) ≡ []) eds → IsPlay (several_services (map stubs_in members) script) (multi_workload script) is.merged)
      → ((n : ℕ) → AreBeforeStops (map stubs_in members) eds is.merged n
      → (turns : ℕ) × (take n is.merged ≡ take n (stage_from (several_services (map stubs_in members) script) (multi_workload script) (first_stage (multi_workload script)) turns).history))
      → IsMultiPlayed (map stubs_in members) script (record { order = order; members = eds; ends = ends_up_to members script given (most_client script.clients) })
  multi_played some settled sets_up asked eds are plain begins = let each = are.each in record {
    count = are.count ∙ sym (length_mapped stubs_in members);
    each = λ q s stops e member stop there.
        let found = at_mapped stubs_in members q s member in
        let k = each q found.0 e found.1 there in
        let plan : found.0.world.plan ≡ stops = (let both : Some found.0.world.plan ≡ Some stops = sym (mapped_at (λ (y : Membered). y.world.plan) members q found.0 found.1) ∙ ap (λ l. slice_get l q) is.plans ∙ stop in cc both) in (
          subst (λ y. IsMemberPlayed y (setup_at (q + 1) script) stops e) found.2
              (member_played q found.0 found.1 k.told k.recovered stops plan (each_at (AscendsAbove 0) script.stops q stops is.playable.stops stop) k.struck
              (sets_up_first members script given order is some q found.0 found.1 settled (sets_up q found.0 found.1)) e k.its k.ends_are),
          k.ends_are,
        );
    merged = is.merged;
    merges = subst (λ h. Merges order h is.merged) (sym (shown_alike (λ (e : Ended). e.history.items) (λ (x : Membered). (view_in x).history) eds members are.count (λ q e x there here. (each q x e here there).its.0))) is.merges;
    calls = multi_calls_are;
    asked = λ q s e member there.
        let found = at_mapped stubs_in members q s member in
        let run : run_of e.trace ≡ (view_in found.0).run = (each q found.0 e found.1 there).its.1 in
        subst (λ (y : Stubs). Each (λ p. IsAskedInTurn y.interface.facts is.merged (q + 1) p p.item.tag) (places_of (run_of e.trace))) found.2
        (subst (λ r. Each (λ p. IsAskedInTurn (setting_in found.0).iface.facts is.merged (q + 1) p p.item.tag) (places_of r)) (sym run) (asked_over members script given order is q found.0 found.1 asked));
    ends = multi_ends_are (λ q x there. let e = there_is eds q (omega (arith, are.count, there_within members q x there)) in (each q x e.0 there e.1).told);
    plain = plain;
    begins = begins;
  }
