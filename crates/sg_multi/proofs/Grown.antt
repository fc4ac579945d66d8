-- What a step makes of the merged list: it stays, or has one entry more.
use Rattle.std.proofs.Common.{◌≡◌, ◌⊎◌, ℕ, ◌+◌, ◌≤◌, true, cond, List, [], ◌∷◌, ◌++◌, length, map, refl, sym, ◌∙◌, ap, subst, inl, inr, arith}
use Rattle.std.specs.Prelude.{nat_lt}
use Rattle.sg_facts.specs.sg_base.declared.reply.Reply.{Reply}
use Rattle.sg_facts.specs.declared.entry.Entry.{Entry}
use Rattle.sg_multi.proofs.sg_sim.sg_play.Waking.Shapes.{call_is_next, call_is_own}
use Rattle.sg_multi.specs.Members.{ChangesAt, Membered, setting_in, view_in}
use Rattle.sg_multi.specs.sg_sim.sg_plain.Calls.{most_client}
use Rattle.sg_multi.specs.sg_sim.sg_plain.Playing.Callers.{IsCaller}
use Rattle.sg_multi.specs.sg_sim.sg_script.declared.multi.MultiScript.{MultiScript}
use Rattle.sg_multi.specs.sg_sim.sg_clients.WorldView.{WorldView, is_offered, seat_of}
use Rattle.sg_multi.specs.sg_sim.sg_clients.declared.phase.Phase.{Phase}
use Rattle.sg_multi.specs.sg_sim.sg_clients.declared.phase.Phase.TheVariants.{Idle, Receipted}
use Rattle.sg_multi.specs.sg_sim.sg_world.declared.did.Did.{Did}
use Rattle.sg_multi.specs.sg_sim.sg_world.declared.did.Did.TheVariants.{Answered, Blocked as Waits, Booted, Loaded, Lost, Replayed, Served, Skipped, Struck}
use Rattle.sg_multi.specs.sg_sim.sg_world.Steps.{HasStepped}
use Rattle.sg_multi.specs.Inside.Keeps.{KeepsMulti}
use Rattle.sg_multi.specs.Inside.Member.{KeepsMember}
use Rattle.sg_multi.specs.Merged.{Merges, MultiEntry}
use Rattle.sg_multi.proofs.Keeping.{merged_more, merges_more, never_less, one_less}
use Rattle.sg_multi.proofs.Merging.{map_kept, merges_same}
use Rattle.sg_multi.proofs.Onward.{merged_one}
use Rattle.sg_multi.proofs.Stepping.{Answers, Enters, GoesQuietly, goes_quietly, is_answered}

-- the history of the member of a number and the merged list stay, or each has the same entry more
abbrev pub GrowsTo : ℕ → List Entry → List MultiEntry → List Entry → List MultiEntry → Type 0
GrowsTo number history merged later then =
    ((later ≡ history) × (then ≡ merged)) ⊎ ((e : Entry) × (later ≡ history ++ e ∷ []) × (then ≡ merged ++ record { member = number; entry = e } ∷ []))

module _ (members later : List Membered) (script : MultiScript) (given : List (List ℕ)) (order : List ℕ) (place : ℕ) (m : Membered) (now : WorldView) (changes : ChangesAt members place m now later)
    (is : KeepsMulti members script given order) (gave : List (List ℕ)) (order_then : List ℕ) (kept : KeepsMulti later script gave order_then) where
  abbrev w : WorldView
  w = view_in m

  abbrev histories : List Membered → List (List Entry)
  histories list = map (λ x. (view_in x).history) list

  -- the order is that of the entries before
  pub merged_same : order ≡ order_then → now.history ≡ w.history → kept.merged ≡ is.merged
  merged_same same history =
      merged_one order_then (histories later) kept.merged is.merged kept.merges
      (subst (λ o. Merges o (histories later) is.merged) same
      (merges_same order (histories members) (histories later) is.merged
      (ap histories changes.are ∙ map_kept (λ x. (view_in x).history) members place m changes.new changes.there (ap (λ v. v.history) changes.view_is ∙ history)) is.merges))

  module _ (c : ℕ) (first : 1 ≤ c) (last : c ≤ most_client script.clients) (did : Did) (steps : HasStepped (setting_in m) w c did now)
      (order_is : cond (nat_lt (seat_of w c).seq (seat_of now c).seq) (order ++ (place + 1) ∷ []) order ≡ order_then) where
    within : c ≤ length w.seats
    within = omega (arith, last, is.clients place m changes.there)

    member_is : KeepsMember (setting_in m) w
    member_is = is.each place m changes.there

    caller : IsCaller (setting_in m).iface.facts member_is.script w.history c (seat_of w c)
    caller = member_is.playing.callers.each c first within

    its : is_offered (seat_of w c).phase ≡ true → (seat_of w c).call.client ≡ c
    its = call_is_own (setting_in m).iface.facts member_is.script w.history c (seat_of w c) caller

    number : is_offered (seat_of w c).phase ≡ true → (seat_of w c).call.seq ≡ (seat_of w c).seq + 1
    number = call_is_next (setting_in m).iface.facts member_is.script w.history c (seat_of w c) caller

    abbrev Grows : Type 0
    Grows = GrowsTo (place + 1) w.history is.merged now.history kept.merged

    quietly : now.history ≡ w.history → (seat_of now c).seq ≡ (seat_of w c).seq → Grows
    quietly history seq =
        inl (history, merged_same (sym (ap (λ b. cond b (order ++ (place + 1) ∷ []) order) (never_less (seat_of w c).seq (seat_of now c).seq seq)) ∙ order_is) history)

    entered : (p : Phase) (reply : Reply) → Enters w c p reply now → Grows
    entered p reply e = inr (
      record { call = (seat_of w c).call; reply = reply },
      e.entered,
      merged_one order_then (histories later) kept.merged (merged_more members later script given order place m now changes is c first last p reply e) kept.merges
          (subst (λ o. Merges o (histories later) (merged_more members later script given order place m now changes is c first last p reply e))
          (sym (ap (λ b. cond b (order ++ (place + 1) ∷ []) order) (one_less (seat_of w c).seq (seat_of now c).seq (e.number ∙ number e.offered))) ∙ order_is)
          (merges_more members later script given order place m now changes is c first last p reply e)),
    )

    quiet : ((reply : Reply) → did ≡ Answered reply → ⊥) → Grows
    quiet none = by (goes_quietly (setting_in m) w c first within its did now none steps)
      where
        by : GoesQuietly w c now → Grows
        by (inl q) = quietly q.same (q.each c first).seq
        by (inr (reply, e)) = entered Receipted reply e

    answered : (reply : Reply) → did ≡ Answered reply → Grows
    answered reply same = by (is_answered (setting_in m) w c first within its reply now (subst (λ d. HasStepped (setting_in m) w c d now) same steps))
      where
        by : Answers w c reply now → Grows
        by (inl h) = quietly h.same h.number
        by (inr e) = entered Idle reply e

    pub grows : Grows
    grows = by did refl
      where
        by : (d : Did) → did ≡ d → Grows
        by Skipped same = quiet (λ reply is_so. cc (is_so, same))
        by Struck same = quiet (λ reply is_so. cc (is_so, same))
        by Booted same = quiet (λ reply is_so. cc (is_so, same))
        by Replayed same = quiet (λ reply is_so. cc (is_so, same))
        by Loaded same = quiet (λ reply is_so. cc (is_so, same))
        by Served same = quiet (λ reply is_so. cc (is_so, same))
        by Waits same = quiet (λ reply is_so. cc (is_so, same))
        by Lost same = quiet (λ reply is_so. cc (is_so, same))
        by (Answered reply) same = answered reply same
