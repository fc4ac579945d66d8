-- The play without stops of several services, one turn more; and a merged list is told by the order of its members and their histories.
use Rattle.std.proofs.Common.{◌≡◌, ◌≢◌, ◌⊎◌, ℕ, zero, suc, ◌+◌, ◌<◌, ◌≤◌, cond, List, [], ◌∷◌, ◌++◌, Some, drop, filter, length, map, refl, sym, ◌∙◌, ap, subst, inl, inr, arith}
use Rattle.std.specs.Prelude.{◌==◌, nat_lt}
use Rattle.std.proofs.lemmas.Bool.{cases_lt}
use Rattle.sg_facts.specs.sg_base.Lists.{Each}
use Rattle.sg_facts.specs.declared.entry.Entry.{Entry}
use Rattle.sg_facts.proofs.Replaying.Found.{other_test, same_test}
use Rattle.sg_multi.specs.Members.{ChangesAt, Membered, setting_in, view_in}
use Rattle.sg_multi.specs.sg_sim.sg_plain.Calls.{most_client}
use Rattle.sg_multi.specs.sg_sim.sg_plain.Inside.Turns.{after_turn}
use Rattle.sg_multi.specs.sg_sim.sg_plain.Plain.{Stage, System, Workload, first_stage, next_stage, player_of, stage_from, turned}
use Rattle.sg_multi.specs.sg_sim.sg_plain.Playing.Given.{with_handed}
use Rattle.sg_multi.specs.sg_sim.sg_play.Turning.{handed_by}
use Rattle.sg_multi.specs.sg_sim.sg_script.declared.multi.MultiCall.{MultiCall}
use Rattle.sg_multi.specs.sg_sim.sg_script.declared.multi.MultiScript.{MultiScript}
use Rattle.sg_multi.specs.sg_sim.sg_clients.WorldView.{WorldView, seat_of}
use Rattle.sg_multi.specs.sg_sim.sg_world.declared.did.Did.{Did}
use Rattle.sg_multi.proofs.sg_sim.sg_play.sg_plain.sg_clients.Lines.{same_or_other}
use Rattle.sg_multi.specs.Inside.Following.{IsNextMultiTurn, stage_now, stage_with}
use Rattle.sg_multi.specs.Inside.Keeps.{KeepsMulti}
use Rattle.sg_multi.specs.Inside.Whose.{next_of}
use Rattle.sg_multi.specs.Merged.{Merges, MultiEntry, entries_at}
use Rattle.sg_multi.specs.Played.{stubs_in}
use Rattle.sg_multi.specs.SeveralServices.{MemberCall, multi_workload, several_services}
use Rattle.sg_multi.proofs.Merging.{there_is}
use Rattle.sg_multi.proofs.Stages.{turned_into}
use Rattle.sg_multi.proofs.Unstopped.{TurnsAs}

-- ---- one turn more

module _ (sys : System MultiEntry MemberCall) (work : Workload) where
  -- it may be counted at the end
  from_more : (s : Stage MultiEntry) (n : ℕ) → stage_from sys work s (suc n) ≡ next_stage sys work (stage_from sys work s n)
  from_more s zero = refl
  from_more s (suc n) = from_more (next_stage sys work s) n

-- the turn of who takes the next leads to the stage after it
pub turned_on : (sys : System MultiEntry MemberCall) (members : List Membered) (script : MultiScript) (given : List (List ℕ)) (merged : List MultiEntry) (passed last c later turns : ℕ)
    → IsNextMultiTurn script (stage_now members script given merged passed last) c later
    → stage_now members script given merged passed last ≡ stage_from sys (multi_workload script) (first_stage (multi_workload script)) turns
    → turned sys (multi_workload script) c (stage_with members script given merged (drop later script.schedule) c) (player_of (stage_with members script given merged (drop later script.schedule) c) c).phase
    ≡ stage_from sys (multi_workload script) (first_stage (multi_workload script)) (suc turns)
turned_on sys members script given merged passed last c later turns next at =
    let work = multi_workload script in
    let s = stage_now members script given merged passed last in
    ap (λ (l : List ℕ). turned sys work c (record s { schedule = l; last = c }) (player_of s c).phase) next.schedule
    ∙ ap (after_turn sys work s) (sym next.turn) ∙ ap (next_stage sys work) at ∙ sym (from_more sys work (first_stage work) turns)

-- ---- merged lists

-- none is of a member that there isn't
outside : (count k : ℕ) (a : List MultiEntry) → Each (λ member. (1 ≤ member) × (member ≤ count)) (map (λ e. e.member) a) → (k ≡ 0) ⊎ (count < k) → entries_at k a ≡ []
outside count k [] within out = refl
outside count k (x ∷ a) within out =
    ap (λ b. map (λ e. e.entry) (cond b (x ∷ filter (λ e. e.member == k) a) (filter (λ e. e.member == k) a))) (other_test x.member k (apart out)) ∙ outside count k a within.1 out
  where
    apart : (k ≡ 0) ⊎ (count < k) → x.member ≢ k
    apart (inl none) same = absurd (omega (arith, none, same, within.0.0))
    apart (inr above) same = absurd (omega (arith, above, same, within.0.1))

at_own : (k : ℕ) (x : MultiEntry) (a : List MultiEntry) → x.member ≡ k → entries_at k (x ∷ a) ≡ x.entry ∷ entries_at k a
at_own k x a its = ap (λ b. map (λ e. e.entry) (cond b (x ∷ filter (λ e. e.member == k) a) (filter (λ e. e.member == k) a))) (same_test x.member k its)

at_other : (k : ℕ) (x : MultiEntry) (a : List MultiEntry) → x.member ≢ k → entries_at k (x ∷ a) ≡ entries_at k a
at_other k x a other = ap (λ b. map (λ e. e.entry) (cond b (x ∷ filter (λ e. e.member == k) a) (filter (λ e. e.member == k) a))) (other_test x.member k other)

same_merged : (a b : List MultiEntry) → map (λ e. e.member) a ≡ map (λ e. e.member) b → ((k : ℕ) → entries_at k a ≡ entries_at k b) → a ≡ b
same_merged [] [] members each = refl
same_merged [] (y ∷ b) members each = absurd (cc members)
same_merged (x ∷ a) [] members each = absurd (cc members)
same_merged (x ∷ a) (y ∷ b) members each = ap (λ e. e ∷ a) first ∙ ap (λ l. y ∷ l) (same_merged a b rest_members (λ k. rest k (same_or_other x.member k)))
  where
    own : x.member ≡ y.member
    own = cc members

    rest_members : map (λ (e : MultiEntry). e.member) a ≡ map (λ (e : MultiEntry). e.member) b
    rest_members = cc members

    heads : x.entry ∷ entries_at x.member a ≡ y.entry ∷ entries_at x.member b
    heads = sym (at_own x.member x a refl) ∙ each x.member ∙ at_own x.member y b (sym own)

    entry : x.entry ≡ y.entry
    entry = cc heads

    first : x ≡ y
    first = ap (λ n. record { member = n; entry = x.entry }) own ∙ ap (λ e. record { member = y.member; entry = e }) entry

    rest : (k : ℕ) → (x.member ≡ k) ⊎ (x.member ≢ k) → entries_at k a ≡ entries_at k b
    rest k (inl its) =
        let both : x.entry ∷ entries_at k a ≡ y.entry ∷ entries_at k b = sym (at_own k x a its) ∙ each k ∙ at_own k y b (sym own ∙ its) in cc both
    rest k (inr other) = sym (at_other k x a other) ∙ each k ∙ at_other k y b (λ its. other (own ∙ its))

-- the order and the histories tell the merged list
pub merged_one : (order : List ℕ) (histories : List (List Entry)) (a b : List MultiEntry) → Merges order histories a → Merges order histories b → a ≡ b
merged_one order histories a b x y = same_merged a b (x.members ∙ sym y.members) each
  where
    none : (k : ℕ) → (k ≡ 0) ⊎ (length histories < k) → entries_at k a ≡ entries_at k b
    none k out =
        outside (length histories) k a (subst (Each (λ member. (1 ≤ member) × (member ≤ length histories))) (sym x.members) x.within) out
        ∙ sym (outside (length histories) k b (subst (Each (λ member. (1 ≤ member) × (member ≤ length histories))) (sym y.members) y.within) out)

    each : (k : ℕ) → entries_at k a ≡ entries_at k b
    each zero = none zero (inl refl)
    each (suc place) = by (cases_lt place (length histories))
      where
        by : (place < length histories) ⊎ (length histories ≤ place) → entries_at (suc place) a ≡ entries_at (suc place) b
        by (inl below) =
            let found = there_is histories place below in
            let number : place + 1 ≡ suc place = omega arith in
            ap (λ k. entries_at k a) (sym number) ∙ x.each place found.0 found.1 ∙ sym (y.each place found.0 found.1) ∙ ap (λ k. entries_at k b) number
        by (inr beyond) = none (suc place) (inr (omega (arith, beyond)))

-- ---- a step as a turn

-- a step that is a turn of the play without stops leads to the stage after it
module _ (members later : List Membered) (script : MultiScript) (given : List (List ℕ)) (order : List ℕ) (place : ℕ) (m : Membered) (now : WorldView) (changes : ChangesAt members place m now later)
    (is : KeepsMulti members script given order) (c : ℕ) (first : 1 ≤ c) (last : c ≤ most_client script.clients) (written : MultiCall) (next : next_of script given c ≡ Some written) (number : place + 1 ≡ written.member)
    (did : Did) (turns_as : TurnsAs (setting_in m) (view_in m) c did now) (order_then : List ℕ)
    (order_is : cond (nat_lt (seat_of (view_in m) c).seq (seat_of now c).seq) (order ++ (place + 1) ∷ []) order ≡ order_then) (kept : KeepsMulti later script (with_handed given c (handed_by did)) order_then) where
  pub turned_at : (passed latest taken turns : ℕ) → IsNextMultiTurn script (stage_now members script given is.merged passed latest) c taken
      → stage_now members script given is.merged passed latest ≡ stage_from (several_services (map stubs_in members) script) (multi_workload script) (first_stage (multi_workload script)) turns
      → stage_with later script (with_handed given c (handed_by did)) kept.merged (drop taken script.schedule) c
      ≡ stage_from (several_services (map stubs_in members) script) (multi_workload script) (first_stage (multi_workload script)) (suc turns)
  turned_at passed latest taken turns turn at =
      let t = turned_into members script given order is later place m now changes c first last written next number (drop taken script.schedule) c did turns_as in
      let same : t.merged ≡ kept.merged = merged_one order_then (map (λ x. (view_in x).history) later) t.merged kept.merged
      (subst (λ (o : List ℕ). Merges o (map (λ x. (view_in x).history) later) t.merged) order_is t.merges) kept.merges in
      ap (λ (g : List MultiEntry). stage_with later script (with_handed given c (handed_by did)) g (drop taken script.schedule) c) (sym same)
      ∙ sym t.leads ∙ turned_on (several_services (map stubs_in members) script) members script given is.merged passed latest c taken turns turn at
