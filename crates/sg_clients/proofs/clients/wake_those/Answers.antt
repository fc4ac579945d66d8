-- Each seat that waits is asked again, if its descriptor passes, and else counts.
use Rattle.std.proofs.Common.{◌≡◌, ◌<◌, ◌≤◌, ◌+◌, ◌∙◌, ℕ, Bool, ap, arith, below_more, false, get_or, length, map, not, subst, sym, take, true}
use Rattle.std.proofs.lemmas.List.{get_or_default, set-get_or}
use Rattle.sg_clients.specs.WorldView.{Seat, is_blocked_phase, no_seat, woken_seat}
use Rattle.sg_clients.specs.Inside.Waiting.{count_if_waits, waiting_in}
use Rattle.sg_clients.proofs.Seats.{all_kept, set_unseen}
use Rattle.sg_clients.proofs.Waking.{at_most_one, count_next, count_rests, done_next, not_woken, still_counts, woken_once, woken_stays}
use Rattle.sg_clients.proofs.clients.wake_those.Goals.{then-is_blocked, else-is_blocked}
use Rattle.sg_clients.proofs.clients.wake_those.Goals as goal

pub loop-seat-preserved : goal.loop-seat-preserved
loop-seat-preserved g c =
    let seats = c.loop-seat.seats in
    let i = c.loop-seat.seat-index in
    let so_far = c.loop-seat.invariant in
    let less : i < length seats = omega (arith, c.loop-seat-test.true, c.loop-seat.auto.seats) in
    let seat : Seat = get_or seats i c.seat-item.result in
    let there : seat ≡ get_or seats i no_seat = get_or_default seats i c.seat-item.result no_seat less in
    elim c.if-is_blocked.branch [
      | then-is_blocked w ↦
          let new = w.wake.new.self in
          let meets_now : Bool = w.test-meets.result in
          let blocked : is_blocked_phase seat.phase ≡ true = sym c.is_blocked.ensures ∙ w.if-is_blocked.true in
          let small : w.from-waiting.result ≤ 1 = subst (λ n. n ≤ 1) (sym w.from-waiting.ensures) (at_most_one (not meets_now)) in
          record {
            few = omega (arith, w.waiting-is, so_far.few, small);
            count = w.waiting-is ∙ ap (λ n. n + w.from-waiting.result) so_far.count
                ∙ ap (λ n. waiting_in (take i seats) + n) (w.from-waiting.ensures ∙ sym (ap count_if_waits w.wake.ensures ∙ still_counts meets_now seat blocked))
                ∙ sym (ap (λ l. waiting_in (take (i + 1) l)) w.seats-is ∙ count_next seats i new less);
            done = λ meets answers.
                let is : meets_now ≡ meets seat.call.desc = answers w.call.result.now.desc meets_now w.test-meets.ensures ∙ ap (λ call. meets call.desc) w.call.ensures in
                subst (λ l. (k : ℕ) → k < i + 1 → woken_seat (λ call. meets call.desc) (get_or l k no_seat) ≡ get_or l k no_seat) (sym w.seats-is)
                (done_next (woken_seat (λ call. meets call.desc)) seats i new less
                (ap (woken_seat (λ call. meets call.desc)) w.wake.ensures ∙ woken_stays meets meets_now seat is ∙ sym w.wake.ensures) (so_far.done meets answers));
            rest = λ meets answers.
                let is : meets_now ≡ meets seat.call.desc = answers w.call.result.now.desc meets_now w.test-meets.ensures ∙ ap (λ call. meets call.desc) w.call.ensures in
                let asked = woken_seat (λ call. meets call.desc) in
                ap (map asked) w.seats-is ∙ set_unseen asked seats i new (ap asked w.wake.ensures ∙ woken_once meets meets_now seat is ∙ ap asked there) ∙ so_far.rest meets answers;
          }
      | else-is_blocked w ↦
          let rests : is_blocked_phase (get_or seats i no_seat).phase ≡ false = sym (c.is_blocked.ensures ∙ ap (λ s. is_blocked_phase s.phase) there) ∙ w.if-is_blocked.false in
          let same = w.seats-is ∙ set-get_or seats i c.seat-item.result in
          record {
            few = omega (arith, w.waiting-is, so_far.few);
            count = w.waiting-is ∙ so_far.count ∙ sym (ap (λ l. waiting_in (take (i + 1) l)) same ∙ count_rests seats i less rests);
            done = λ meets answers.
                subst (λ l. (k : ℕ) → k < i + 1 → woken_seat (λ call. meets call.desc) (get_or l k no_seat) ≡ get_or l k no_seat) (sym same)
                (below_more _ _ (so_far.done meets answers) (not_woken (λ call. meets call.desc) (get_or seats i no_seat) rests));
            rest = λ meets answers. ap (map (woken_seat (λ call. meets call.desc))) same ∙ so_far.rest meets answers;
          }
    ]

pub returns-clause-woken : goal.returns-clause-woken
returns-clause-woken g c = λ meets answers.
    all_kept (woken_seat (λ call. meets call.desc)) c.loop-seat.seats
    (λ k less. c.loop-seat.invariant.done meets answers k (omega (arith, less, c.loop-seat-test.false, c.loop-seat.auto.seats)))
    ∙ c.loop-seat.invariant.rest meets answers
