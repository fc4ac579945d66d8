-- What a turn of a client does to the worlds of the members and to how far the clients have come.
use Rattle.std.proofs.Common.{◌≡◌, ℕ, zero, suc, ◌+◌, ◌-◌, ◌<◌, ◌≤◌, ◌^◌, Bool, true, false, cond, List, [], ◌∷◌, ◌++◌, None, Some, drop, filter, length, map, take, refl, sym, ◌∙◌, ap, subst, arith, slice_set}
use Rattle.std.specs.Prelude.{◌==◌, OnErr, OnOk, nat_lt, option_map, slice_get, slice_index_or}
use Rattle.std.specs.Option.{option_map_or}
use Rattle.std.specs.declared.option.Option.{Option}
use Rattle.std.specs.declared.result.Result.{Result}
use Rattle.std.specs.declared.result.Result.TheVariants.{Ok, Err}
use Rattle.sg_facts.specs.sg_base.Room.{Roomy}
use Rattle.sg_facts.specs.sg_base.declared.call.Call.{Call}
use Rattle.sg_facts.specs.declared.entry.Entry.{Entry}
use Rattle.sg_facts.specs.Facts.{fun_at}
use Rattle.sg_facts.specs.Interface.{Declared, declares}
use Rattle.sg_facts.specs.Kinds.{AreWords, FitsKinds}
use Rattle.sg_facts.specs.Limits.{most_script_calls}
use Rattle.sg_facts.specs.Tables.{Compiled}
use Rattle.sg_multi.proofs.Places.{ok_so}
use Rattle.sg_multi.proofs.sg_sim.sg_play.sg_plain.sg_clients.Lines.{seat_here}
use Rattle.sg_multi.specs.Members.{ChangesAt, Membered, setting_by, setting_in, view_in}
use Rattle.sg_multi.specs.Serving.{Serving}
use Rattle.sg_multi.specs.sg_sim.Inside.Givens.{lists_of, room_for}
use Rattle.sg_multi.specs.sg_sim.sg_plain.Calls.{most_client}
use Rattle.sg_multi.specs.sg_sim.sg_plain.Playing.Given.{GaveIds, given_in, with_handed}
use Rattle.sg_multi.specs.sg_sim.sg_plain.Playing.Turns.{is_free_phase}
use Rattle.sg_multi.specs.sg_sim.sg_plain.Script.{call_fits, desc_among, values_of}
use Rattle.sg_multi.specs.sg_sim.sg_play.Following.Follows.{HoldAll}
use Rattle.sg_multi.specs.sg_sim.sg_play.NextCall.{IsResolved}
use Rattle.sg_multi.specs.sg_sim.sg_play.Recovering.{RecoversSoFar}
use Rattle.sg_multi.specs.sg_sim.sg_play.Turning.{handed_by}
use Rattle.sg_facts.specs.declared.next_call.NextCall.{NextCall}
use Rattle.sg_multi.specs.sg_sim.sg_play.sg_clients.Clients.{IsClient}
use Rattle.sg_multi.specs.sg_sim.sg_play.sg_hist.Clients.{calls_of}
use Rattle.sg_multi.specs.sg_sim.sg_play.sg_hist.Recovered.{Stubs}
use Rattle.sg_multi.specs.sg_sim.sg_script.declared.multi.MultiCall.{MultiCall}
use Rattle.sg_multi.specs.sg_sim.sg_script.declared.multi.MultiScript.{MultiScript}
use Rattle.sg_multi.specs.sg_sim.sg_clients.WorldView.{IsFree, Seat, WorldView, happened, no_seat, offered, seat_of}
use Rattle.sg_multi.specs.sg_sim.sg_clients.declared.phase.Phase.{Phase}
use Rattle.sg_multi.specs.sg_sim.sg_clients.declared.phase.Phase.TheVariants.{Idle, Asked, Held, Receipted, Blocked, Left}
use Rattle.sg_multi.specs.sg_sim.sg_world.Steps.{AnswersLast, HasStepped, LackedMemory}
use Rattle.sg_multi.specs.sg_sim.sg_world.declared.did.Did.{Did}
use Rattle.sg_multi.specs.Calls.{IsCallOf, multi_calls}
use Rattle.sg_multi.specs.Inside.Asked.{AreAskedSoFar}
use Rattle.sg_multi.specs.Inside.Keeps.{KeepsMulti, interfaces_of, is_multi_setting_up}
use Rattle.sg_multi.specs.Inside.SettingUp.{AreSettingUp}
use Rattle.sg_multi.specs.Inside.Following.{Begins, FollowsMulti, IsNextMultiTurn, NoneStruck, players_now, stage_now}
use Rattle.sg_multi.specs.Inside.Turns.{KeepsRunning, SameMembers, TakesNextTurn}
use Rattle.sg_multi.specs.Inside.Whose.{next_of, seat_at}
use Rattle.sg_multi.specs.Merged.{MultiEntry, entries_at, entries_in, own_in}
use Rattle.sg_multi.specs.Playable.{FitsMember}
use Rattle.sg_multi.specs.Played.{AreOfMembers, stubs_in}
use Rattle.sg_multi.specs.Inside.Ended.{AreEndedMembers}
use Rattle.sg_multi.specs.declared.ended.MultiEnd.{MultiEnd}
use Rattle.sg_multi.specs.sg_sim.sg_script.Scripts.{most_members}
use Rattle.sg_multi.specs.sg_sim.sg_play.sg_hist.declared.ended.Ended.{Ended}
use Rattle.sg_multi.specs.declared.running.Running.{Running}
use Rattle.sg_multi.proofs.Asking.{asked_turn}
use Rattle.sg_multi.proofs.Beginning.{first_client}
use Rattle.sg_multi.proofs.Calling.{fits_at}
use Rattle.sg_multi.proofs.Following.{StillKeeps, follows_idle, follows_turn, happened_back, happened_never, happened_stays, offer_back, offer_never, offer_stays, still, wanted_back, wanted_never, wanted_stays}
use Rattle.sg_multi.proofs.Grown.{grows}
use Rattle.sg_multi.proofs.Holding.{hold_offered}
use Rattle.sg_multi.proofs.Keeping.{all_handed, handed_was, kept_happened, kept_offered, kept_step, kept_wanted, same_members, seats_stay}
use Rattle.sg_multi.proofs.MemberLaws.{MayBeOffered, may_be_offered}
use Rattle.sg_multi.proofs.Merging.{at_mapped, calls_at, calls_in, length_mapped, mapped_at, set_there, there_within}
use Rattle.sg_multi.proofs.Stages.{its_interface, seat_now}
use Rattle.sg_multi.proofs.Noting.{notes}
use Rattle.sg_multi.proofs.Own.{call_literal, desc_literal, literal_call, values_literal}
use Rattle.sg_multi.proofs.PastStop.{begins_turn}
use Rattle.sg_multi.proofs.SettingUp.{sets_up_turn}

-- ---- lists

-- what is read at a place stands there
pub read_there : {T : Type 0} (xs : List T) (k : ℕ) (d : T) → k < length xs → slice_get xs k ≡ Some (slice_index_or xs k d)
read_there [] k d below = absurd (omega (arith, below))
read_there (x ∷ xs) zero d below = refl
read_there (x ∷ xs) (suc k) d below = read_there xs k d (omega (arith, below))

set_self : {T : Type 0} (xs : List T) (k : ℕ) (x : T) → slice_get xs k ≡ Some x → xs ≡ slice_set xs k x
set_self [] k x there = absurd (cc there)
set_self (y ∷ xs) zero x there = let same : y ≡ x = cc there in ap (λ z. z ∷ xs) same
set_self (y ∷ xs) (suc k) x there = ap (λ l. y ∷ l) (set_self xs k x there)

filtered_within : (member : ℕ) (es : List MultiEntry) → length (entries_at member es) ≤ length es
filtered_within member [] = omega arith
filtered_within member (x ∷ es) = at (x.member == member) (filtered_within member es)
  where
    at : (b : Bool) → length (entries_at member es) ≤ length es → length (map (λ e. e.entry) (cond b (x ∷ filter (λ e. e.member == member) es) (filter (λ e. e.member == member) es))) ≤ length (x ∷ es)
    at true within = omega (arith, within)
    at false within = omega (arith, within)

take_whole : {T : Type 0} (xs : List T) (n : ℕ) → n ≡ length xs → take n xs ≡ xs
take_whole [] zero is = refl
take_whole [] (suc n) is = absurd (cc is)
take_whole (x ∷ xs) zero is = absurd (cc is)
take_whole (x ∷ xs) (suc n) is = ap (λ l. x ∷ l) (take_whole xs n (omega (arith, is)))

-- ---- results and phases

pub either : {A E : Type 0} (P Q R : Type 0) (r : Result A E) → OnOk r P → OnErr r Q → (P → R) → (Q → R) → R
either P Q R (Ok a) p q one other = one p
either P Q R (Err e) p q one other = other q

pub on_err : {A E : Type 0} (P : Type 0) (r : Result A E) → P → OnErr r P
on_err P (Ok a) is = tt
on_err P (Err e) is = is

pub free_is : (p : Phase) → is_free_phase p ≡ true → IsFree p
free_is Idle free = tt
free_is Left free = tt
free_is Asked free = absurd (cc free)
free_is Held free = absurd (cc free)
free_is Receipted free = absurd (cc free)
free_is Blocked free = absurd (cc free)

-- ---- members

-- what holds of the member of a number holds of the one at its place
pub at_place : (P : Membered → Type 0) (members : List Membered) (n number : ℕ) (m : Membered) → n ≡ number → slice_get members (number - 1) ≡ Some m → P m → (x : Membered) → slice_get members (n - 1) ≡ Some x → P x
at_place P members n number m same there holds x at =
    let both : Some m ≡ Some x = sym there ∙ ap (λ k. slice_get members (k - 1)) (sym same) ∙ at in
    let its : m ≡ x = cc both in
    subst P its holds

-- the member at a place has this seat of a client
pub seat_is : (members : List Membered) (place : ℕ) (m : Membered) (client : ℕ) → slice_get members place ≡ Some m → seat_at members place client ≡ seat_of (view_in m) client
seat_is members place m client there = ap (λ o. option_map_or (λ (x : Membered). seat_of (view_in x) client) o no_seat) there

-- what a world tells of itself after a change
pub told_back : (old new : Membered) (now : WorldView) → new.service ≡ old.service → new.world.tables ≡ old.world.tables → view_in new ≡ now → RecoversSoFar (setting_in new) (view_in new) → RecoversSoFar (setting_in old) now
told_back old new now service tables view told =
    subst (λ (k : Serving). RecoversSoFar (setting_by k old.world.tables) now) service
    (subst (λ (t : Compiled). RecoversSoFar (setting_by new.service t) now) tables (subst (RecoversSoFar (setting_in new)) view told))

module _ (members : List Membered) (script : MultiScript) (lists : List (Roomy ℕ)) (order : List ℕ) (is : KeepsMulti members script (lists_of lists) order) (client : ℕ) (first : 1 ≤ client)
    (last : client ≤ most_client script.clients) where
  abbrev given : List (List ℕ)
  given = lists_of lists

  pub client_there : IsClient (length lists) client
  client_there = (first, subst (λ n. client ≤ n) (sym (sym (length_mapped (λ (l : Roomy ℕ). l.items) lists) ∙ is.lists)) last)

  pub seats_there : (place : ℕ) (m : Membered) → slice_get members place ≡ Some m → IsClient (length (view_in m).seats) client
  seats_there place m there = (first, subst (λ n. client ≤ n) (sym (is.clients place m there)) last)

  -- a client's next call is of one of the members
  module _ (call : MultiCall) (next : next_of script given client ≡ Some call) where
    call_fits_there : FitsMember (interfaces_of members) (1 + length (given_in given client)) call
    call_fits_there = fits_at (interfaces_of members) 1 (multi_calls script client) (length (given_in given client)) call (is.playable.fit client) next

    pub some_member : 1 ≤ call.member
    some_member = call_fits_there.first

    pub member_there : (m : Membered) × (slice_get members (call.member - 1) ≡ Some m)
    member_there = let found = at_mapped (λ (x : Membered). x.world.tables.iface) members (call.member - 1) call_fits_there.iface call_fits_there.there in (found.0, found.1)

    pub member_within : call.member ≤ length members
    member_within = omega (arith, some_member, there_within members (call.member - 1) member_there.0 member_there.1)

    -- it may be offered there, where the client has no call under way
    module _ (m : Membered) (there : slice_get members (call.member - 1) ≡ Some m) (free : is_free_phase (seat_of (view_in m) client).phase ≡ true) where
      abbrev place : ℕ
      place = call.member - 1

      its_place : place + 1 ≡ call.member
      its_place = omega (arith, some_member)

      abbrev w : WorldView
      w = view_in m

      abbrev own : List Entry
      own = entries_in (own_in client is.merged)

      unchanged : ChangesAt members place m w members
      unchanged = record { new = m; are = set_self members place m there; there = there; view_is = refl; service = refl; tables = refl; plan = refl }

      handed : length (own_in client is.merged) ≡ length (given_in given client)
      handed = all_handed members members script given order place m w unchanged is client first last free call next its_place

      -- it is resolved by what the client was given
      pub gave_own : GaveIds own (given_in given client)
      gave_own = subst (λ es. GaveIds es (given_in given client)) (take_whole own (length (given_in given client)) (sym (length_mapped (λ (e : MultiEntry). e.entry) (own_in client is.merged) ∙ handed)))
          (is.callers client first last).gave

      iface_is : m.world.tables.iface ≡ call_fits_there.iface
      iface_is = let both : Some m.world.tables.iface ≡ Some call_fits_there.iface = sym (mapped_at (λ (x : Membered). x.world.tables.iface) members place m there) ∙ call_fits_there.there in cc both

      own_there : calls_of w.history client ≡ entries_at (place + 1) (own_in client is.merged)
      own_there = ap (λ h. calls_of h client) (sym (is.merges.each place w.history (mapped_at (λ (x : Membered). (view_in x).history) members place m there))) ∙ calls_at is.merged (place + 1) client

      few_there : length (calls_of w.history client) + 1 ≤ most_script_calls
      few_there = omega (
        arith,
        ap (λ (l : List Entry). length l) own_there,
        filtered_within (place + 1) (own_in client is.merged),
        handed,
        there_within (multi_calls script client) (length (given_in given client)) call next,
        is.playable.few client,
      )

      fits_there : call_fits (setting_in m).iface (1 + length (calls_of w.history client)) (literal_call own call.call) ≡ true
      fits_there = call_literal (setting_in m).iface own (1 + length (given_in given client)) (1 + length (calls_of w.history client)) call.call
          (subst (λ i. call_fits i (1 + length (given_in given client)) call.call ≡ true) (sym (its_interface m.service m.world.tables ∙ iface_is)) call_fits_there.fits)

      module _ (made : NextCall) (resolved : IsResolved m.world.tables.iface.facts own call.call made) (words : AreWords made.args) where
        abbrev offer : Call
        offer = record { client = client; seq = (seat_of w client).seq + 1; fun = call.call.fun; desc = made.desc; args = made.args }

        abbrev given_call : Call
        given_call = record { client = client; seq = (seat_of w client).seq + 1; fun = made.fun; desc = made.desc; args = made.args }

        same_call : offer ≡ given_call
        same_call = ap (λ f. record { client = client; seq = (seat_of w client).seq + 1; fun = f; desc = made.desc; args = made.args }) (sym resolved.fun)

        setting_iface : m.world.tables.iface ≡ (setting_in m).iface
        setting_iface = sym (its_interface m.service m.world.tables)

        may : MayBeOffered (setting_in m) w client offer
        may = may_be_offered (setting_in m) w client first (seats_there place m there).1 (is.each place m there) free (literal_call own call.call) fits_there few_there made.desc made.args
            (resolved.desc ∙ ap (λ (i : Declared). desc_among own (fun_at i.facts.funs call.call.fun).kinds call.call.args) setting_iface
            ∙ sym (desc_literal own (calls_of w.history client) (fun_at (setting_in m).iface.facts.funs call.call.fun).kinds call.call.args))
            (resolved.args ∙ ap (λ (i : Declared). values_of own (fun_at i.facts.funs call.call.fun).kinds call.call.args) setting_iface
            ∙ sym (values_literal own (calls_of w.history client) (fun_at (setting_in m).iface.facts.funs call.call.fun).kinds call.call.args))
            words

        pub may_offer : MayBeOffered (setting_in m) w client given_call
        may_offer = subst (MayBeOffered (setting_in m) w client) same_call may

        pub numbered_here : (seat_of w client).seq + 1 < 2 ^ 32
        numbered_here = may_offer.numbered

        pub declared_here : declares m.world.tables.iface made.fun ≡ true
        declared_here = subst (λ i. declares i made.fun ≡ true) (sym setting_iface) may_offer.declared

        pub fits_here : FitsKinds m.world.tables.iface.facts given_call
        fits_here = subst (λ (i : Declared). FitsKinds i.facts given_call) (sym setting_iface) may_offer.fits

        its : IsCallOf (interfaces_of members) is.merged client call (place + 1) given_call
        its = record {
          iface = m.world.tables.iface;
          its_member = its_place;
          there = ap (slice_get (interfaces_of members)) (let same : place + 1 - 1 ≡ place = omega arith in same) ∙ mapped_at (λ (x : Membered). x.world.tables.iface) members place m there;
          is = sym same_call
              ∙ ap (λ d. record { client = client; seq = (seat_of w client).seq + 1; fun = call.call.fun; desc = d; args = made.args }) (resolved.desc
              ∙ ap (λ es. desc_among es (fun_at m.world.tables.iface.facts.funs call.call.fun).kinds call.call.args) (sym (calls_in is.merged client)))
              ∙ ap (λ vs. record { client = client; seq = (seat_of w client).seq + 1; fun = call.call.fun; desc = desc_among (calls_of (entries_in is.merged) client) (fun_at m.world.tables.iface.facts.funs call.call.fun).kinds call.call.args; args = vs })
              (resolved.args ∙ ap (λ es. values_of es (fun_at m.world.tables.iface.facts.funs call.call.fun).kinds call.call.args) (sym (calls_in is.merged client)));
        }

        pub offered_keeps : (later : List Membered) → ChangesAt members place m (happened (offered w client given_call)) later → StillKeeps members later script given order is
        offered_keeps later changes =
            let now = happened (offered w client given_call) in
            let within : client ≤ length w.seats = (seats_there place m there).1 in
            still members later script given order place m now changes is refl refl refl
            (hold_offered (setting_in m).iface.facts w client given_call first within) (offer_back members later script given order place m now changes is client given_call first within free refl)
            (offer_never members later script given order place m now changes is client given_call first within free refl) (offer_stays members later script given order place m now changes is client given_call first within free refl)
            (kept_offered members later script given order place m now changes is client first last free call next its_place given_call its refl may_offer.keeps)

        -- what the offer came to
        pub offered_at : {E : Type 0} (n : ℕ) → n ≡ call.member → (later : List Membered) (r : Result Unit E) → ((x : Membered) → slice_get members (n - 1) ≡ Some x → OnOk r (ChangesAt members (n - 1) x (happened (offered (view_in x) client (record { client = client; seq = (seat_of (view_in x) client).seq + 1; fun = made.fun; desc = made.desc; args = made.args }))) later))
            → ((x : Membered) → slice_get members (n - 1) ≡ Some x → OnErr r (ChangesAt members (n - 1) x (happened (view_in x)) later)) → StillKeeps members later script given order is
        offered_at n same later r ok err =
            let its_there = ap (λ k. slice_get members (k - 1)) same ∙ there in
            either (ChangesAt members (n - 1) m (happened (offered w client given_call)) later) (ChangesAt members (n - 1) m (happened w) later) (StillKeeps members later script given order is) r
            (ok m its_there) (err m its_there)
            (λ changes. offered_keeps later (subst (λ k. ChangesAt members (k - 1) m (happened (offered w client given_call)) later) same changes))
            (λ changes. let at = subst (λ k. ChangesAt members (k - 1) m (happened w) later) same changes in
            still members later script given order place m (happened w) at is refl refl refl (λ hold. hold) (happened_back members later script given order place m (happened w) at is refl)
            (happened_never members later script given order place m (happened w) at is refl) (happened_stays members later script given order place m (happened w) at is refl)
            (kept_happened members later script given order place m (happened w) at is refl))

        -- the client's call is under way then
        pub offered_asks : {E : Type 0} (n : ℕ) → n ≡ call.member → (later : List Membered) (r : Result Unit E) → ((x : Membered) → slice_get members (n - 1) ≡ Some x → OnOk r (ChangesAt members (n - 1) x (happened (offered (view_in x) client (record { client = client; seq = (seat_of (view_in x) client).seq + 1; fun = made.fun; desc = made.desc; args = made.args }))) later))
            → OnOk r (is_free_phase (seat_at later place client).phase ≡ false)
        offered_asks n same later r ok =
            ok_so (ChangesAt members (n - 1) m (happened (offered w client given_call)) later) (is_free_phase (seat_at later place client).phase ≡ false) r
            (λ changes. let at = subst (λ k. ChangesAt members (k - 1) m (happened (offered w client given_call)) later) same changes in
            ap (λ (s : Seat). is_free_phase s.phase) (seat_now members script given order is later place m (happened (offered w client given_call)) at client
            ∙ seat_here w.seats client (record (seat_of w client) { phase = Asked; call = given_call }) first (seats_there place m there).1))
            (ok m (ap (λ k. slice_get members (k - 1)) same ∙ there))

-- ---- a step

-- where client 1 is at the setup, it was so before it was handed a reply
was_setting_up : (script : MultiScript) (given : List (List ℕ)) → length given ≡ most_client script.clients → (client : ℕ) → 1 ≤ client → client ≤ most_client script.clients → (did : Did)
    → is_multi_setting_up script (with_handed given client (handed_by did)) ≡ true → is_multi_setting_up script given ≡ true
was_setting_up script given lists client first last did = by (handed_by did)
  where
    by : (o : Option ℕ) → is_multi_setting_up script (with_handed given client o) ≡ true → is_multi_setting_up script given ≡ true
    by None on = on
    by (Some id) on = handed_was script given client first (omega (arith, last, lists)) id on

module _ (members : List Membered) (script : MultiScript) (given : List (List ℕ)) (order : List ℕ) (is : KeepsMulti members script given order) (client : ℕ) (first : 1 ≤ client)
    (last : client ≤ most_client script.clients) (member n : ℕ) (some : 1 ≤ member) (its : n ≡ member) (m : Membered) (there : slice_get members (member - 1) ≡ Some m) (later : List Membered) where
  place_there : slice_get members (n - 1) ≡ Some m
  place_there = ap (λ k. slice_get members (k - 1)) its ∙ there

  number_is : n - 1 + 1 ≡ member
  number_is = omega (arith, some, its)

  -- what is kept where an entry of a member is noted, if the client's count in its world has grown
  abbrev KeptAt : Did → ℕ → WorldView → Type 0
  KeptAt did k v = KeepsMulti later script (with_handed given client (handed_by did)) (cond (nat_lt (seat_of (view_in m) client).seq (seat_of v client).seq) (order ++ k ∷ []) order)

  -- what a step of a client came to at its member, which was read again
  pub stepped_at : (turn : is_multi_setting_up script given ≡ true → client ≡ 1) → RecoversSoFar (setting_in m) (view_in m) → (did : Did) (x : Membered) → slice_get later (member - 1) ≡ Some x → RecoversSoFar (setting_in x) (view_in x)
      → ((y : Membered) → slice_get members (n - 1) ≡ Some y → (now : WorldView) × ChangesAt members (n - 1) y now later × HasStepped (setting_in y) (view_in y) client did now × AnswersLast now client did)
      → KeepsMulti later script (with_handed given client (handed_by did)) (cond (nat_lt (seat_of (view_in m) client).seq (seat_of (view_in x) client).seq) (order ++ member ∷ []) order)
  stepped_at turn before did x at told came = by (came m place_there)
    where
      by : (now : WorldView) × ChangesAt members (n - 1) m now later × HasStepped (setting_in m) (view_in m) client did now × AnswersLast now client did → KeptAt did member (view_in x)
      by (now, changes, steps, answers) =
          let both : Some x ≡ Some changes.new = sym at ∙ ap (λ k. slice_get later (k - 1)) (sym its) ∙ ap (λ l. slice_get l (n - 1)) changes.are ∙ set_there members (n - 1) m changes.new changes.there in
          let new : x ≡ changes.new = cc both in
          let view : view_in x ≡ now = ap (λ (y : Membered). view_in y) new ∙ changes.view_is in
          let behind : RecoversSoFar (setting_in m) now = told_back m changes.new now changes.service changes.tables changes.view_is (subst (λ (y : Membered). RecoversSoFar (setting_in y) (view_in y)) new told) in
          subst (λ k. KeptAt did k (view_in x)) number_is
          (subst (KeptAt did (n - 1 + 1)) (sym view) (kept_step members later script given order (n - 1) m now changes is client first last turn before behind did steps answers))

  -- the members stay, and there are as many
  pub stepped_same : (did : Did) → ((y : Membered) → slice_get members (n - 1) ≡ Some y → (now : WorldView) × ChangesAt members (n - 1) y now later × HasStepped (setting_in y) (view_in y) client did now × AnswersLast now client did)
      → SameMembers members later
  stepped_same did came = let k = came m place_there in same_members members later script given order (n - 1) m k.0 k.1 is

  -- the clients of the member are as many
  pub stepped_seats : (did : Did) → ((y : Membered) → slice_get members (n - 1) ≡ Some y → (now : WorldView) × ChangesAt members (n - 1) y now later × HasStepped (setting_in y) (view_in y) client did now × AnswersLast now client did)
      → (x : Membered) → slice_get later (member - 1) ≡ Some x → IsClient (length (view_in x).seats) client
  stepped_seats did came x at = (first, subst (λ k. client ≤ k) (sym (count (came m place_there))) last)
    where
      count : (now : WorldView) × ChangesAt members (n - 1) m now later × HasStepped (setting_in m) (view_in m) client did now × AnswersLast now client did → length (view_in x).seats ≡ most_client script.clients
      count (now, changes, steps, answers) =
          let both : Some x ≡ Some changes.new = sym at ∙ ap (λ k. slice_get later (k - 1)) (sym its) ∙ ap (λ l. slice_get l (n - 1)) changes.are ∙ set_there members (n - 1) m changes.new changes.there in
          let new : x ≡ changes.new = cc both in
          ap (λ (y : Membered). length (view_in y).seats) new ∙ ap (λ (v : WorldView). length v.seats) changes.view_is ∙ seats_stay members later script given order (n - 1) m now changes is client first last did steps ∙ is.clients (n - 1) m place_there

  -- the play without stops is followed on, where it is the client's turn there
  pub stepped_follows : (written : MultiCall) → next_of script given client ≡ Some written → written.member ≡ member → is_free_phase (seat_of (view_in m) client).phase ≡ false → RecoversSoFar (setting_in m) (view_in m)
      → (did : Did) (x : Membered) → slice_get later (member - 1) ≡ Some x → RecoversSoFar (setting_in x) (view_in x)
      → ((y : Membered) → slice_get members (n - 1) ≡ Some y → (now : WorldView) × ChangesAt members (n - 1) y now later × HasStepped (setting_in y) (view_in y) client did now × AnswersLast now client did)
      → (kept : KeepsMulti later script (with_handed given client (handed_by did)) (cond (nat_lt (seat_of (view_in m) client).seq (seat_of (view_in x) client).seq) (order ++ member ∷ []) order)) (passed latest taken : ℕ)
      → IsNextMultiTurn script (stage_now members script given is.merged passed latest) client taken → (NoneStruck members → FollowsMulti members script given is.merged passed latest)
      → NoneStruck later → FollowsMulti later script (with_handed given client (handed_by did)) kept.merged taken client
  stepped_follows written next own busy before did x at told came kept passed latest taken turn follows none = by (came m place_there)
    where
      by : (now : WorldView) × ChangesAt members (n - 1) m now later × HasStepped (setting_in m) (view_in m) client did now × AnswersLast now client did
          → FollowsMulti later script (with_handed given client (handed_by did)) kept.merged taken client
      by (now, changes, steps, answers) =
          let both : Some x ≡ Some changes.new = sym at ∙ ap (λ k. slice_get later (k - 1)) (sym its) ∙ ap (λ l. slice_get l (n - 1)) changes.are ∙ set_there members (n - 1) m changes.new changes.there in
          let new : x ≡ changes.new = cc both in
          let view : view_in x ≡ now = ap (λ (y : Membered). view_in y) new ∙ changes.view_is in
          let behind : RecoversSoFar (setting_in m) now = told_back m changes.new now changes.service changes.tables changes.view_is (subst (λ (y : Membered). RecoversSoFar (setting_in y) (view_in y)) new told) in
          follows_turn members later script given order (n - 1) m now changes is client first last written next (number_is ∙ sym own) busy before behind did steps
          (cond (nat_lt (seat_of (view_in m) client).seq (seat_of (view_in x) client).seq) (order ++ member ∷ []) order)
          (ap (λ k. cond (nat_lt (seat_of (view_in m) client).seq (seat_of now client).seq) (order ++ k ∷ []) order) number_is
          ∙ ap (λ v. cond (nat_lt (seat_of (view_in m) client).seq (seat_of v client).seq) (order ++ member ∷ []) order) (sym view)) kept passed latest taken turn follows none

  -- the entries begin as the play without stops does, where it is the client's turn there while no member was stopped
  pub stepped_begins : (written : MultiCall) → next_of script given client ≡ Some written → written.member ≡ member → is_free_phase (seat_of (view_in m) client).phase ≡ false → RecoversSoFar (setting_in m) (view_in m)
      → (did : Did) (x : Membered) → slice_get later (member - 1) ≡ Some x
      → ((y : Membered) → slice_get members (n - 1) ≡ Some y → (now : WorldView) × ChangesAt members (n - 1) y now later × HasStepped (setting_in y) (view_in y) client did now × AnswersLast now client did)
      → (kept : KeepsMulti later script (with_handed given client (handed_by did)) (cond (nat_lt (seat_of (view_in m) client).seq (seat_of (view_in x) client).seq) (order ++ member ∷ []) order)) (passed latest taken : ℕ)
      → IsNextMultiTurn script (stage_now members script given is.merged passed latest) client taken → (NoneStruck members → FollowsMulti members script given is.merged passed latest)
      → Begins members script is.merged → Begins later script kept.merged
  stepped_begins written next own busy before did x at came kept passed latest taken turn follows begins = by (came m place_there)
    where
      by : (now : WorldView) × ChangesAt members (n - 1) m now later × HasStepped (setting_in m) (view_in m) client did now × AnswersLast now client did → Begins later script kept.merged
      by (now, changes, steps, answers) =
          let both : Some x ≡ Some changes.new = sym at ∙ ap (λ k. slice_get later (k - 1)) (sym its) ∙ ap (λ l. slice_get l (n - 1)) changes.are ∙ set_there members (n - 1) m changes.new changes.there in
          let new : x ≡ changes.new = cc both in
          let view : view_in x ≡ now = ap (λ (y : Membered). view_in y) new ∙ changes.view_is in
          begins_turn members later script given order (n - 1) m now changes is client first last written next (number_is ∙ sym own) busy before did steps
          (cond (nat_lt (seat_of (view_in m) client).seq (seat_of (view_in x) client).seq) (order ++ member ∷ []) order)
          (ap (λ k. cond (nat_lt (seat_of (view_in m) client).seq (seat_of now client).seq) (order ++ k ∷ []) order) number_is
          ∙ ap (λ v. cond (nat_lt (seat_of (view_in m) client).seq (seat_of v client).seq) (order ++ member ∷ []) order) (sym view)) kept passed latest taken turn follows begins

  -- the member was asked no call before its client's earlier calls were answered
  pub stepped_asked : RecoversSoFar (setting_in m) (view_in m) → (did : Did) (x : Membered) → slice_get later (member - 1) ≡ Some x
      → ((y : Membered) → slice_get members (n - 1) ≡ Some y → (now : WorldView) × ChangesAt members (n - 1) y now later × HasStepped (setting_in y) (view_in y) client did now × AnswersLast now client did)
      → (kept : KeepsMulti later script (with_handed given client (handed_by did)) (cond (nat_lt (seat_of (view_in m) client).seq (seat_of (view_in x) client).seq) (order ++ member ∷ []) order))
      → AreAskedSoFar members script is.merged → AreAskedSoFar later script kept.merged
  stepped_asked before did x at came kept all = by (came m place_there)
    where
      by : (now : WorldView) × ChangesAt members (n - 1) m now later × HasStepped (setting_in m) (view_in m) client did now × AnswersLast now client did → AreAskedSoFar later script kept.merged
      by (now, changes, steps, answers) =
          let both : Some x ≡ Some changes.new = sym at ∙ ap (λ k. slice_get later (k - 1)) (sym its) ∙ ap (λ l. slice_get l (n - 1)) changes.are ∙ set_there members (n - 1) m changes.new changes.there in
          let new : x ≡ changes.new = cc both in
          let view : view_in x ≡ now = ap (λ (y : Membered). view_in y) new ∙ changes.view_is in
          asked_turn members later script given order (n - 1) m now changes is client first last before (notes (setting_in m) (view_in m) client did now steps) kept.merged
          (grows members later script given order (n - 1) m now changes is (with_handed given client (handed_by did))
          (cond (nat_lt (seat_of (view_in m) client).seq (seat_of (view_in x) client).seq) (order ++ member ∷ []) order) kept client first last did steps
          (ap (λ k. cond (nat_lt (seat_of (view_in m) client).seq (seat_of now client).seq) (order ++ k ∷ []) order) number_is
          ∙ ap (λ v. cond (nat_lt (seat_of (view_in m) client).seq (seat_of v client).seq) (order ++ member ∷ []) order) (sym view))) all

  -- the setup comes first still
  pub stepped_sets_up : (turn : is_multi_setting_up script given ≡ true → client ≡ 1) → (did : Did)
      → ((y : Membered) → slice_get members (n - 1) ≡ Some y → (now : WorldView) × ChangesAt members (n - 1) y now later × HasStepped (setting_in y) (view_in y) client did now × AnswersLast now client did)
      → AreSettingUp members script given → AreSettingUp later script (with_handed given client (handed_by did))
  stepped_sets_up turn did came sets_up =
      let k = came m place_there in
      sets_up_turn members later script given order (n - 1) m k.0 k.1 is (first_client 0 script.clients is.playable.clients) (with_handed given client (handed_by did)) (was_setting_up script given is.lists client first last did) client turn
      (notes (setting_in m) (view_in m) client did k.0 k.2) sets_up

  -- a step that wanted memory
  pub wanted_at : ((y : Membered) → slice_get members (n - 1) ≡ Some y → (now : WorldView) × ChangesAt members (n - 1) y now later × LackedMemory (setting_in y) (view_in y) client now) → StillKeeps members later script given order is
  wanted_at came = by (came m place_there)
    where
      by : (now : WorldView) × ChangesAt members (n - 1) m now later × LackedMemory (setting_in m) (view_in m) client now → StillKeeps members later script given order is
      by (now, changes, wants) =
          still members later script given order (n - 1) m now changes is (ap (λ (y : WorldView). y.history) wants.counted) (ap (λ (y : WorldView). y.run.boots) wants.counted)
          (ap (λ (y : WorldView). y.running) wants.counted) (λ hold. subst (λ (y : WorldView). HoldAll (setting_in m).iface.facts y.seats) (sym wants.counted) hold) (wanted_back members later script given order (n - 1) m now changes is client wants)
          (wanted_never members later script given order (n - 1) m now changes is client wants) (wanted_stays members later script given order (n - 1) m now changes is client wants)
          (kept_wanted members later script given order (n - 1) m now changes is client wants)

-- as many members
pub as_many : (members later : List Membered) → SameMembers members later → length later ≡ length members
as_many members later same = sym (length_mapped stubs_in later) ∙ ap (λ (l : List Stubs). length l) same ∙ length_mapped stubs_in members

-- ---- all that changes

-- what a play keeps of its parts
pub record KeepsParts (script : MultiScript) (members : List Membered) (given : List (List ℕ)) (order : List ℕ) (passed last : ℕ) : Type 0 where
  pub keeps : KeepsMulti members script given order
  pub sets_up : AreSettingUp members script given
  pub asked : AreAskedSoFar members script keeps.merged
  pub begins : Begins members script keeps.merged
  pub follows : NoneStruck members → FollowsMulti members script given keeps.merged passed last

-- as they stand
pub parts_of : {N : Type 0} (script : MultiScript) (r : Running N) → KeepsRunning script r → KeepsParts script r.members (lists_of r.given) r.order.items r.passed r.last
parts_of script r is = record { keeps = is.keeps; sets_up = is.sets_up; asked = is.asked; begins = is.begins; follows = is.follows }

-- and with the client of the last turn one of the play's
pub running_of : {N : Type 0} (script : MultiScript) (r : Running N) → r.last ≤ most_client script.clients → KeepsParts script r.members (lists_of r.given) r.order.items r.passed r.last → KeepsRunning script r
running_of script r last parts = record { keeps = parts.keeps; last_there = last; sets_up = parts.sets_up; asked = parts.asked; begins = parts.begins; follows = parts.follows }

-- parts that are equal
pub parts_same : (script : MultiScript) (members now : List Membered) (given later : List (List ℕ)) (order noted : List ℕ) (passed last : ℕ) → now ≡ members → later ≡ given → noted ≡ order
    → KeepsParts script members given order passed last → KeepsParts script now later noted passed last
parts_same script members now given later order noted passed last same lists items is =
    subst (λ ms. KeepsParts script ms later noted passed last) (sym same) (subst (λ l. KeepsParts script members l noted passed last) (sym lists) (subst (λ o. KeepsParts script members given o passed last) (sym items) is))

-- memory was taken
pub reserved_keeps : {N : Type 0} (script : MultiScript) (r q : Running N) → q.members ≡ r.members → lists_of q.given ≡ lists_of r.given → q.order.items ≡ r.order.items → q.passed ≡ r.passed → q.last ≡ r.last → KeepsRunning script r → KeepsRunning script q
reserved_keeps script r q members lists items passed last is =
    running_of script q (subst (λ n. n ≤ most_client script.clients) (sym last) is.last_there)
    (parts_same script r.members q.members (lists_of r.given) (lists_of q.given) r.order.items q.order.items q.passed q.last members lists items
    (subst (λ k. KeepsParts script r.members (lists_of r.given) r.order.items k q.last) (sym passed)
    (subst (KeepsParts script r.members (lists_of r.given) r.order.items r.passed) (sym last) (parts_of script r is))))

-- and the next turn is the same
pub reserved_turn : {N : Type 0} (script : MultiScript) (r q : Running N) (client taken : ℕ) → q.members ≡ r.members → lists_of q.given ≡ lists_of r.given → q.passed ≡ r.passed → q.last ≡ r.last → TakesNextTurn script r client taken → (merged : List MultiEntry)
    → IsNextMultiTurn script (stage_now q.members script (lists_of q.given) merged q.passed q.last) client taken
reserved_turn script r q client taken members lists passed last turn merged =
    subst (λ ms. IsNextMultiTurn script (stage_now ms script (lists_of q.given) merged q.passed q.last) client taken) (sym members)
    (subst (λ l. IsNextMultiTurn script (stage_now r.members script l merged q.passed q.last) client taken) (sym lists)
    (subst (λ k. IsNextMultiTurn script (stage_now r.members script (lists_of r.given) merged k q.last) client taken) (sym passed)
    (subst (λ k. IsNextMultiTurn script (stage_now r.members script (lists_of r.given) merged r.passed k) client taken) (sym last) (turn merged))))

-- there is a first client
pub first_there : {N : Type 0} (script : MultiScript) (r : Running N) → KeepsRunning script r → 1 ≤ most_client script.clients
first_there script r is = first_client 0 script.clients is.keeps.playable.clients

-- the member of an entry was noted where one was made, and then what the client was given where a reply was handed over
pub noted_keeps : {N : Type 0} (script : MultiScript) (q : Running N) (later : List Membered) (a b : Running N) (client member : ℕ) (did : Did) (handed : Option ℕ) (made : Bool) (old new : ℕ) → made ≡ nat_lt old new → handed ≡ handed_by did
    → a.order.items ≡ cond made (q.order.items ++ member ∷ []) q.order.items → a ≡ record q { members = later; order = a.order }
    → lists_of b.given ≡ with_handed (lists_of a.given) client handed → b ≡ record a { given = b.given } → client ≤ most_client script.clients → (taken : ℕ)
    → KeepsParts script later (with_handed (lists_of q.given) client (handed_by did)) (cond (nat_lt old new) (q.order.items ++ member ∷ []) q.order.items) taken client
    → KeepsRunning script (record b { passed = taken; last = client })
noted_keeps {N = N} script q later a b client member did handed made old new is_made is_handed items rest_a lists rest_b within taken kept =
    let members : b.members ≡ later = ap (λ (x : Running N). x.members) rest_b ∙ ap (λ (x : Running N). x.members) rest_a in
    let given : lists_of b.given ≡ with_handed (lists_of q.given) client (handed_by did)
    = lists ∙ ap (λ (x : Running N). with_handed (lists_of x.given) client handed) rest_a ∙ ap (with_handed (lists_of q.given) client) is_handed in
    let order : b.order.items ≡ cond (nat_lt old new) (q.order.items ++ member ∷ []) q.order.items
    = ap (λ (x : Running N). x.order.items) rest_b ∙ items ∙ ap (λ t. cond t (q.order.items ++ member ∷ []) q.order.items) is_made in
    running_of script (record b { passed = taken; last = client }) within
    (parts_same script later b.members (with_handed (lists_of q.given) client (handed_by did)) (lists_of b.given)
    (cond (nat_lt old new) (q.order.items ++ member ∷ []) q.order.items) b.order.items taken client members given order kept)

-- a client that was there is so, and there is as much room for what it is given, where nothing else was noted
pub client_noted : {N : Type 0} {q a : Running N} (client : ℕ) → a ≡ q → IsClient (length q.given) client → IsClient (length a.given) client
client_noted {N = N} client rest there = subst (λ (x : Running N). IsClient (length x.given) client) (sym rest) there

pub room_noted : {N : Type 0} {q a : Running N} (client : ℕ) → a ≡ q → 0 < room_for q.given client → 0 < room_for a.given client
room_noted {N = N} client rest room = subst (λ (x : Running N). 0 < room_for x.given client) (sym rest) room

-- and the members are those that there were
pub members_noted : {N : Type 0} {q a b : Running N} → a ≡ q → b ≡ record a { given = b.given } → SameMembers q.members b.members
members_noted {N = N} rest_a rest_b = ap (λ (x : Running N). map stubs_in x.members) rest_b ∙ ap (λ (x : Running N). map stubs_in x.members) rest_a

-- a client's next call is of a member
pub its_next : (o : Option MultiCall) (member : ℕ) → option_map (λ (c : MultiCall). c.member) o ≡ Some member → (written : MultiCall) × (o ≡ Some written) × (written.member ≡ member)
its_next None member is = absurd (cc is)
its_next (Some c) member is = (c, refl, cc is)

-- a client that has no call more takes its turn: nothing is done
pub idle_turn : {N : Type 0} (script : MultiScript) (r : Running N) (client taken : ℕ) → KeepsRunning script r → 1 ≤ client → client ≤ most_client script.clients → next_of script (lists_of r.given) client ≡ None → TakesNextTurn script r client taken
    → KeepsRunning script (record r { passed = taken; last = client })
idle_turn script r client taken is first last none turn = record {
  keeps = is.keeps;
  last_there = last;
  sets_up = is.sets_up;
  asked = is.asked;
  begins = is.begins;
  follows = λ unstruck. follows_idle r.members script (lists_of r.given) is.keeps.merged r.passed r.last client taken first last none (turn is.keeps.merged) (is.follows unstruck);
}

-- where it was a client's turn, it is so behind its offer
pub turn_after_offer : {N : Type 0} (script : MultiScript) (r q : Running N) (client taken : ℕ) → players_now q.members script (lists_of q.given) ≡ players_now r.members script (lists_of r.given) → q.passed ≡ r.passed → q.last ≡ r.last
    → TakesNextTurn script r client taken → TakesNextTurn script q client taken
turn_after_offer script r q client taken players passed last turn merged =
    subst (λ ps. IsNextMultiTurn script (record { history = merged; players = ps; schedule = drop q.passed script.schedule; last = q.last }) client taken) (sym players)
    (subst (λ k. IsNextMultiTurn script (record { history = merged; players = players_now r.members script (lists_of r.given); schedule = drop k script.schedule; last = q.last }) client taken) (sym passed)
    (subst (λ k. IsNextMultiTurn script (record { history = merged; players = players_now r.members script (lists_of r.given); schedule = drop r.passed script.schedule; last = k }) client taken) (sym last) (turn merged)))

-- there are no more members than there may be
pub few_members : {N : Type 0} (script : MultiScript) (r : Running N) → KeepsRunning script r → length r.members ≤ most_members
few_members script r is = subst (λ n. n ≤ most_members) (length_mapped (λ (x : Membered). x.world.tables.iface) r.members) is.keeps.playable.at_most

-- what the runs of members came to is what their worlds have done
pub of_members : (members : List Membered) (ends : List (ℕ × MultiEnd)) (ended : List Ended) → AreEndedMembers members ends ended → AreOfMembers members ended
of_members members ends ended are place m e there at = (are.each place m e there at).its

pub at_zero : (n : ℕ) → n ≤ 0 → n ≡ 0
at_zero n none = omega (arith, none)
