-- Where a play over several services begins.
use Rattle.std.proofs.Common.{◌≡◌, ℕ, zero, suc, ◌-◌, ◌≤◌, true, List, [], ◌∷◌, Some, length, map, take, replicate, refl, sym, ◌∙◌, ap, subst, arith}
use Rattle.std.specs.Prelude.{slice_get, unwrap_or}
use Rattle.std.proofs.lemmas.List.{length-replicate}
use Rattle.sg_facts.specs.sg_base.Lists.{Each}
use Rattle.sg_facts.specs.Interface.{Declared}
use Rattle.sg_facts.specs.Limits.{last_client}
use Rattle.sg_facts.specs.Tables.{Compiled}
use Rattle.sg_multi.proofs.sg_sim.Beginning.{new_seat}
use Rattle.sg_multi.specs.Members.{Membered, setting_in, view_in}
use Rattle.sg_multi.specs.Serving.{IsOfServed, serving}
use Rattle.sg_multi.specs.sg_sim.sg_plain.Calls.{most_client}
use Rattle.sg_multi.specs.sg_sim.sg_plain.Playing.Callers.{is_receipted}
use Rattle.sg_multi.specs.sg_sim.sg_plain.Playing.Playable.{AreClients}
use Rattle.sg_multi.specs.sg_sim.sg_plain.Answering.{no_query_waits}
use Rattle.sg_multi.specs.sg_sim.sg_script.declared.multi.MultiCall.{MultiCall}
use Rattle.sg_multi.specs.sg_sim.sg_script.declared.multi.MultiScript.{MultiScript}
use Rattle.sg_multi.specs.sg_sim.sg_clients.WorldView.{Seat, WorldView, is_offered, new_world, no_seat, seat_of}
use Rattle.sg_multi.specs.Beginning.{AreNewMembers}
use Rattle.sg_multi.specs.Inside.Keeps.{IsMultiCaller, KeepsMulti, all_of_first, interfaces_of}
use Rattle.sg_multi.specs.Playable.{IsMultiPlayable}
use Rattle.sg_multi.specs.Played.{stubs_by, stubs_in}
use Rattle.sg_multi.specs.declared.play.MemberTables.{MemberTables}
use Rattle.sg_multi.proofs.Calling.{seat_free}
use Rattle.sg_multi.proofs.Ending.{each_at}
use Rattle.sg_multi.proofs.Keeping.{stubs_alike}
use Rattle.sg_multi.proofs.MemberLaws.{member_new}
use Rattle.sg_multi.proofs.Merging.{at_mapped, shown_alike, there_is, there_within}
use Rattle.sg_multi.proofs.Queries.{no_query_at}
use Rattle.sg_multi.proofs.Stages.{its_interface}

-- there is a first client, and no more than there may be
pub first_client : (above : ℕ) (clients : List (ℕ × List MultiCall)) → AreClients above clients → 1 ≤ most_client clients
first_client above [] are = omega arith
first_client above (c ∷ []) are = omega (arith, are.0)
first_client above (c ∷ d ∷ clients) are = first_client c.0 (d ∷ clients) are.2

pub last_within : (above : ℕ) (clients : List (ℕ × List MultiCall)) → AreClients above clients → most_client clients ≤ last_client
last_within above [] are = omega arith
last_within above (c ∷ []) are = are.1
last_within above (c ∷ d ∷ clients) are = last_within c.0 (d ∷ clients) are.2

-- ---- nothing given

abbrev nothing : List ℕ
nothing = []

given_at : (n k : ℕ) → unwrap_or (slice_get (replicate n nothing) k) [] ≡ []
given_at zero k = refl
given_at (suc n) zero = refl
given_at (suc n) (suc k) = given_at n k

no_front : (n : ℕ) → all_of_first (take n []) ≡ true
no_front zero = refl
no_front (suc n) = refl

module _ (tables : List MemberTables) (script : MultiScript) (members : List Membered) (services : Each (λ (t : MemberTables). IsOfServed t.tables.iface t.service) tables)
    (playable : IsMultiPlayable (map (λ t. t.tables.iface) tables) script) (new : AreNewMembers tables script.stops (most_client script.clients) members) where
  abbrev n : ℕ
  n = most_client script.clients

  stops_count : length script.stops ≡ length tables
  stops_count = playable.members ∙ mapped_count tables
    where
      mapped_count : (ts : List MemberTables) → length (map (λ (t : MemberTables). t.tables.iface) ts) ≡ length ts
      mapped_count [] = refl
      mapped_count (t ∷ ts) = ap suc (mapped_count ts)

  interfaces_are : interfaces_of members ≡ map (λ t. t.tables.iface) tables
  interfaces_are = shown_alike (λ (x : Membered). x.world.tables.iface) (λ (t : MemberTables). t.tables.iface) members tables new.count
      (λ k x t there its. let plan = there_is script.stops k (omega (arith, stops_count, there_within tables k t its)) in ap (λ (c : Compiled). c.iface) (new.each k t plan.0 x its plan.1 there).tables_are)

  map_same : (xs : List (List ℕ)) → map (λ l. l) xs ≡ xs
  map_same [] = refl
  map_same (x ∷ xs) = ap (λ l. x ∷ l) (map_same xs)

  plans_are : map (λ x. x.world.plan) members ≡ script.stops
  plans_are = shown_alike (λ (x : Membered). x.world.plan) (λ (l : List ℕ). l) members script.stops (new.count ∙ sym stops_count)
      (λ k x plan there its. let t = there_is tables k (omega (arith, stops_count, there_within script.stops k plan its)) in (new.each k t.0 plan x t.1 its there).plan_is)
      ∙ map_same script.stops

  pub stubs_are : map stubs_in members ≡ map stubs_by tables
  stubs_are = shown_alike stubs_in stubs_by members tables new.count
      (λ k x t there its. let plan = there_is script.stops k (omega (arith, stops_count, there_within tables k t its)) in let m = new.each k t plan.0 x its plan.1 there in
      stubs_alike x.service (serving t.service) m.service_is x.world.tables t.tables m.tables_are)

  -- what is known of each
  pub view_new : (q : ℕ) (x : Membered) → slice_get members q ≡ Some x → view_in x ≡ new_world (replicate n no_seat)
  view_new q x there =
      let t = there_is tables q (omega (arith, new.count, there_within members q x there)) in
      let plan = there_is script.stops q (omega (arith, new.count, stops_count, there_within members q x there)) in
      (new.each q t.0 plan.0 x t.1 plan.1 there).nothing_done

  waits_none : (q : ℕ) (x : Membered) → slice_get members q ≡ Some x → no_query_waits (setting_in x).iface.facts ≡ true
  waits_none q x there =
      let t = there_is tables q (omega (arith, new.count, there_within members q x there)) in
      let plan = there_is script.stops q (omega (arith, new.count, stops_count, there_within members q x there)) in
      let m = new.each q t.0 plan.0 x t.1 plan.1 there in
      let of : IsOfServed t.0.tables.iface t.0.service = each_at (λ (t : MemberTables). IsOfServed t.tables.iface t.service) tables q t.0 services t.1 in
      subst (λ f. no_query_waits f ≡ true) (sym (ap (λ (i : Declared). i.facts) (its_interface x.service x.world.tables ∙ ap (λ (c : Compiled). c.iface) m.tables_are)
      ∙ of.its)) (no_query_at t.0.service of.fit)

  pub kept_new : KeepsMulti members script (replicate n []) []
  kept_new = record {
    playable = subst (λ i. IsMultiPlayable i script) (sym interfaces_are) playable;
    plans = plans_are;
    clients = λ q x there. ap (λ v. length v.seats) (view_new q x there) ∙ length-replicate n no_seat;
    lists = length-replicate n [];
    each = λ q x there. member_new (setting_in x) (view_in x) n (waits_none q x there) (first_client 0 script.clients playable.clients) (last_within 0 script.clients playable.clients) (view_new q x there);
    merged = [];
    merges = record {
      members = refl;
      within = tt;
      each = λ q history at. let found = at_mapped (λ (x : Membered). (view_in x).history) members q history at in sym (ap (λ (v : WorldView). v.history) (view_new q found.0 found.1)) ∙ found.2;
    };
    callers = λ c first last. subst (IsMultiCaller members script [] c) (sym (given_at n (c - 1))) (record {
      made = tt;
      gave = refl;
      seats = λ q x there.
          let seat : seat_of (view_in x) c ≡ no_seat = ap (λ v. seat_of v c) (view_new q x there) ∙ new_seat n c in
          seat_free (interfaces_of members) script [] c [] q (seat_of (view_in x) c) (ap (λ (s : Seat). is_offered s.phase) seat) (ap (λ (s : Seat). is_receipted s.phase) seat);
      settled = λ handed. refl;
    });
    none_else = λ d some. absurd (some refl);
    front = no_front (length script.setup);
    setting_up = λ on. refl;
  }
