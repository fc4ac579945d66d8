-- The items of the setup come first in the run of each member: it holds of a new play, it is kept by all that happens, and it gives the promise.
use Rattle.std.proofs.Common.{◌≡◌, ◌≢◌, ◌⊎◌, ℕ, ◌+◌, ◌≤◌, Bool, true, false, List, [], ◌∷◌, ◌++◌, Some, length, refl, sym, ◌∙◌, ap, subst, inl, inr, arith, replicate, take}
use Rattle.std.specs.Prelude.{◌==◌, ◌&&◌, ◌||◌, nat_le, nat_lt, slice_get}
use Rattle.std.proofs.lemmas.Bool.{and_parts}
use Rattle.std.proofs.lemmas.Bool.Decides.{nat_tests}
use Rattle.std.proofs.lemmas.List.Folds.{list_all-append}
use Rattle.sg_facts.specs.declared.trace.Item.{Item}
use Rattle.sg_facts.specs.declared.trace.Tag.{Tag}
use Rattle.sg_facts.specs.declared.trace.Tag.TheVariants.{Client, Load, Walk}
use Rattle.sg_facts.specs.Trace.{Boot}
use Rattle.sg_multi.proofs.sg_sim.sg_play.Fronts.{up_to_end, up_to_front}
use Rattle.sg_multi.proofs.sg_sim.sg_play.Waking.Shapes.{call_is_next}
use Rattle.sg_multi.proofs.sg_sim.sg_play.sg_plain.sg_hist.Growing.{items_more}
use Rattle.sg_multi.proofs.sg_sim.sg_play.sg_world.sg_world_laws.Ending.Calls.{test_same}
use Rattle.sg_multi.specs.Members.{ChangesAt, Membered, setting_in, view_in}
use Rattle.sg_multi.specs.sg_sim.sg_plain.Calls.{most_client, part_of}
use Rattle.sg_multi.specs.sg_sim.sg_plain.Inside.Kept.{is_of_setup, is_setup_first}
use Rattle.sg_multi.specs.sg_sim.sg_plain.Playing.Callers.{IsCaller}
use Rattle.sg_multi.specs.sg_sim.sg_plain.Playing.Given.{given_in}
use Rattle.sg_multi.specs.sg_sim.sg_plain.Promises.{IsSetupFirst}
use Rattle.sg_multi.specs.sg_sim.sg_play.sg_hist.Clients.{calls_of}
use Rattle.sg_multi.specs.sg_sim.sg_play.sg_hist.Ending.{client_of}
use Rattle.sg_multi.specs.sg_sim.sg_play.sg_hist.Growing.{noted}
use Rattle.sg_multi.specs.sg_sim.sg_play.sg_hist.Reading.{items_of, places_from}
use Rattle.sg_multi.specs.sg_sim.sg_script.declared.multi.MultiScript.{MultiScript}
use Rattle.sg_multi.specs.sg_sim.sg_script.declared.script.Script.{Script}
use Rattle.sg_multi.specs.sg_sim.sg_clients.WorldView.{WorldView, is_offered, new_world, no_seat, seat_of}
use Rattle.sg_multi.specs.sg_sim.sg_clients.declared.phase.Phase.TheVariants.{Asked}
use Rattle.sg_multi.specs.Calls.{multi_calls, setup_at}
use Rattle.sg_multi.specs.Inside.Asked.{calls_there}
use Rattle.sg_multi.specs.Inside.Callers.{Offers}
use Rattle.sg_multi.specs.Inside.Keeps.{IsMultiCaller, KeepsMulti, interfaces_of, is_multi_setting_up}
use Rattle.sg_multi.specs.Inside.Member.{KeepsMember}
use Rattle.sg_multi.specs.Inside.SettingUp.{AreSettingUp, IsSettingUpAt, are_of_first}
use Rattle.sg_multi.specs.Merged.{MultiEntry, own_in}
use Rattle.sg_multi.proofs.Calling.{few_given}
use Rattle.sg_multi.proofs.Counting.{as_many_there, front_there, own_there, setup_there}
use Rattle.sg_multi.proofs.Keeping.{later_cases}
use Rattle.sg_multi.proofs.Noting.{IsOwnTag, Notes, own_client}

-- ---- an item more

all_more : (items : List Item) (item : Item) → are_of_first items ≡ true → (client_of item.tag == 1) ≡ true → are_of_first (items ++ item ∷ []) ≡ true
all_more items item all own =
    list_all-append (λ x. client_of x.tag == 1) items (item ∷ []) ∙ ap (λ b. b && ((client_of item.tag == 1) && true)) all ∙ ap (λ b. b && true) own

-- what isn't of the setup stands after it
first_more : (script : Script) (items : List Item) (item : Item) → is_setup_first script items ≡ true → (is_of_setup script item.tag ≡ true → are_of_first (items ++ item ∷ []) ≡ true)
    → is_setup_first script (items ++ item ∷ []) ≡ true
first_more script items item is all = by (is_of_setup script item.tag) refl
  where
    test : Item → Bool
    test x = is_of_setup script x.tag

    by : (b : Bool) → is_of_setup script item.tag ≡ b → is_setup_first script (items ++ item ∷ []) ≡ true
    by true own = ap are_of_first (up_to_end test items item own) ∙ all own
    by false other = ap are_of_first (up_to_front test items (item ∷ []) (ap (λ b. b || false) other)) ∙ is

noted_cases : (boots : List Boot) (item : Item) → (items_of (noted boots item) ≡ items_of boots) ⊎ (items_of (noted boots item) ≡ items_of boots ++ item ∷ [])
noted_cases [] item = inl refl
noted_cases (b ∷ boots) item = inr (items_more b boots item)

not_below : (n m : ℕ) → nat_lt n m ≡ false → m ≤ n
not_below n m is = grind (arith, nat_tests)

at_most : (n m : ℕ) → nat_le n m ≡ true → n ≤ m
at_most n m is = grind (arith, nat_tests)

-- ---- a member

module _ (members : List Membered) (script : MultiScript) (given : List (List ℕ)) (order : List ℕ) (is : KeepsMulti members script given order) (some : 1 ≤ most_client script.clients)
    (place : ℕ) (m : Membered) (there : slice_get members place ≡ Some m) where
  abbrev w : WorldView
  w = view_in m

  abbrev its : Script
  its = setup_at (place + 1) script

  abbrev own : List MultiEntry
  own = own_in 1 is.merged

  caller : IsMultiCaller members script is.merged 1 (given_in given 1)
  caller = is.callers 1 (omega arith) some

  counted : length (calls_of w.history 1) ≡ length (calls_there (place + 1) (take (length own) (multi_calls script 1)))
  counted = own_there members script given order is place 1 m there ∙ as_many_there (interfaces_of members) is.merged 1 (place + 1) own (multi_calls script 1) caller.made

  -- client 1 made as many calls there as the setup has, once it made all of the setup
  behind_setup : length script.setup ≤ length own → length its.setup ≤ length (calls_of w.history 1)
  behind_setup all =
      let most : length (calls_there (place + 1) script.setup) ≤ length (calls_there (place + 1) (take (length own) (multi_calls script 1))) = front_there (place + 1) script.setup (part_of 1 script.clients) (length own) all in
      omega (arith, setup_there (place + 1) script, counted, most)

  -- the call of the setup that client 1 asks isn't handed over yet
  still_on : (seq : ℕ) → (seat_of w 1).phase ≡ Asked → seq ≡ (seat_of w 1).call.seq → nat_le seq (length its.setup) ≡ true → is_multi_setting_up script given ≡ true
  still_on seq asked number within = by (is_multi_setting_up script given) refl
    where
      by : (b : Bool) → is_multi_setting_up script given ≡ b → b ≡ true
      by true on = refl
      by false over =
          let keeps : KeepsMember (setting_in m) w = is.each place m there in
          let there_one : 1 ≤ length w.seats = omega (arith, some, is.clients place m there) in
          let at : IsCaller (setting_in m).iface.facts keeps.script w.history 1 (seat_of w 1) = keeps.playing.callers.each 1 (omega arith) there_one in
          let offers : is_offered (seat_of w 1).phase ≡ true = ap is_offered asked in
          let next : (seat_of w 1).call.seq ≡ (seat_of w 1).seq + 1 = call_is_next (setting_in m).iface.facts keeps.script w.history 1 (seat_of w 1) at offers in
          let count : (seat_of w 1).seq ≡ length (calls_of w.history 1) = at.count in
          let o : Offers (interfaces_of members) script is.merged 1 (given_in given 1) place (seat_of w 1) = (caller.seats place m there).offers offers in
          let gave : length own ≡ length (given_in given 1) = o.all_given in
          let done : length script.setup ≤ length (given_in given 1) = not_below (length (given_in given 1)) (length script.setup) over in
          let made : length its.setup ≤ length (calls_of w.history 1) = behind_setup (omega (arith, gave, done)) in
          absurd (omega (arith, number, next, count, made, at_most seq (length its.setup) within))

  of_setup : (c : ℕ) (tag : Tag) → IsOwnTag w c tag → is_of_setup its tag ≡ true → is_multi_setting_up script given ≡ true
  of_setup c (Walk id k d) own is_so = absurd (cc is_so)
  of_setup c (Load key d) own is_so = absurd (cc is_so)
  of_setup c (Client d seq) own is_so =
      let both = and_parts (d == 1) (nat_le seq (length its.setup)) is_so in
      let same : c ≡ 1 = sym own.0 ∙ test_same d 1 both.0 in
      still_on seq (ap (λ n. (seat_of w n).phase) (sym same) ∙ own.1) (own.2 ∙ ap (λ n. (seat_of w n).call.seq) same) both.1

  -- a client notes nothing or one item in its turn, client 1 while the setup isn't done
  sets_up_noted : (gave : List (List ℕ)) → (is_multi_setting_up script gave ≡ true → is_multi_setting_up script given ≡ true) → (c : ℕ) → (is_multi_setting_up script given ≡ true → c ≡ 1) → (later : List Boot) → Notes w c later
      → IsSettingUpAt script given (place + 1) w.run.boots → IsSettingUpAt script gave (place + 1) later
  sets_up_noted gave was c turn later (inl same) at = record {
    front = ap (is_setup_first its) same.items ∙ at.front;
    all = λ on. ap are_of_first same.items ∙ at.all (was on);
  }
  sets_up_noted gave was c turn later (inr n) at = by (noted_cases w.run.boots n.item)
    where
      by : (items_of (noted w.run.boots n.item) ≡ items_of w.run.boots) ⊎ (items_of (noted w.run.boots n.item) ≡ items_of w.run.boots ++ n.item ∷ []) → IsSettingUpAt script gave (place + 1) later
      by (inl none) = record {
        front = ap (is_setup_first its) (n.same.items ∙ none) ∙ at.front;
        all = λ on. ap are_of_first (n.same.items ∙ none) ∙ at.all (was on);
      }
      by (inr more) =
          let all : is_multi_setting_up script given ≡ true → are_of_first (items_of w.run.boots ++ n.item ∷ []) ≡ true
          = λ on. all_more (items_of w.run.boots) n.item (at.all on) (ap (λ k. k == 1) (own_client w c n.item.tag n.own ∙ turn on)) in
          record {
            front = ap (is_setup_first its) (n.same.items ∙ more) ∙ first_more its (items_of w.run.boots) n.item at.front (λ own. all (of_setup c n.item.tag n.own own));
            all = λ on. ap are_of_first (n.same.items ∙ more) ∙ all (was on);
          }

  -- where the setup is done, it came first
  pub sets_up_first : is_multi_setting_up script given ≡ false → IsSettingUpAt script given (place + 1) w.run.boots → IsSetupFirst its w.history w.run
  sets_up_first over at = record {
    done = behind_setup (omega (arith, not_below (length (given_in given 1)) (length script.setup) over, few_given own (given_in given 1) caller.gave));
    items = at.front;
  }

-- ---- all members

module _ (members later : List Membered) (script : MultiScript) (given : List (List ℕ)) (order : List ℕ) (place : ℕ) (m : Membered) (now : WorldView) (changes : ChangesAt members place m now later)
    (is : KeepsMulti members script given order) (some : 1 ≤ most_client script.clients) where
  -- a client takes its turn at one of them
  pub sets_up_turn : (gave : List (List ℕ)) → (is_multi_setting_up script gave ≡ true → is_multi_setting_up script given ≡ true) → (c : ℕ) → (is_multi_setting_up script given ≡ true → c ≡ 1)
      → Notes (view_in m) c now.run.boots → AreSettingUp members script given → AreSettingUp later script gave
  sets_up_turn gave was c turn notes at q x there = by (later_cases members later script given order place m now changes is q x there)
    where
      by : ((q ≡ place) × (x ≡ changes.new)) ⊎ ((q ≢ place) × (slice_get members q ≡ Some x)) → IsSettingUpAt script gave (q + 1) (view_in x).run.boots
      by (inl its) =
          subst (λ n. IsSettingUpAt script gave (n + 1) (view_in x).run.boots) (sym its.0)
          (subst (λ (y : Membered). IsSettingUpAt script gave (place + 1) (view_in y).run.boots) (sym its.1)
          (subst (λ (v : WorldView). IsSettingUpAt script gave (place + 1) v.run.boots) (sym changes.view_is)
          (sets_up_noted members script given order is some place m changes.there gave was c turn now.run.boots notes (at place m changes.there))))
      by (inr other) = let a = at q x other.1 in record { front = a.front; all = λ on. a.all (was on) }

  -- nothing is noted
  pub sets_up_still : now.run.boots ≡ (view_in m).run.boots → AreSettingUp members script given → AreSettingUp later script given
  sets_up_still same = sets_up_turn given (λ on. on) 1 (λ on. refl) (inl (record { items = ap items_of same; places = ap (places_from []) same }))

-- nothing was done yet
pub sets_up_new : (members : List Membered) (script : MultiScript) (given : List (List ℕ)) (n : ℕ) → ((q : ℕ) (x : Membered) → slice_get members q ≡ Some x → view_in x ≡ new_world (replicate n no_seat)) → AreSettingUp members script given
sets_up_new members script given n new q x there = subst (λ (v : WorldView). IsSettingUpAt script given (q + 1) v.run.boots) (sym (new q x there)) (record { front = refl; all = λ on. refl })
