-- Seats under wake-ups: what is offered stays, and who holds a reply goes on to.

-- a seat that is woken is the same, or was blocked and is asked
use Rattle.std.proofs.Common.{Bool, List, [], ap, arith, cond, false, flat_map, if◌then◌else◌, inl, inr, length, map, refl, subst, suc, sym, true, ℕ, ◌++◌, ◌+◌, ◌==◌, ◌∙◌, ◌∷◌, ◌≡◌, ◌≤◌, ◌⊎◌}
use Rattle.sg_facts.specs.sg_base.Lists.{Each}
use Rattle.sg_facts.specs.sg_base.declared.call.Call.{Call}
use Rattle.sg_facts.proofs.RowLists.{more}
use Rattle.sg_facts.specs.Limits.{last_client}
use Rattle.sg_facts.specs.declared.entry.Entry.{Entry}
use Rattle.sg_recovery_laws.proofs.Lists.{each_map}
use Rattle.sg_clients.specs.WorldView.{Seat, held_in, is_held_in, is_offered, woken_seat}
use Rattle.sg_clients.specs.declared.phase.Phase.{Phase}
use Rattle.sg_clients.specs.declared.phase.Phase.TheVariants.{Idle, Asked, Held, Receipted, Blocked, Left}
use Rattle.sg_clients.specs.declared.withdrawn.Withdrawn.{Withdrawn}
use Rattle.sg_recovery_laws.proofs.sg_track.Ascending.{later}
use Rattle.sg_facts.proofs.Replaying.Found.{other_test}
use Rattle.sg_world_laws.specs.Seats.{AreGone, AreSeated, HaveSeats, IsSeated, all_seqs}
use Rattle.sg_world_laws.specs.Setting.{Setting}

pub woken_is : (test : Call → Bool) (s : Seat) → (woken_seat test s ≡ s) ⊎ ((s.phase ≡ Blocked) × (woken_seat test s ≡ record s { phase = Asked }))
woken_is test s = by s.phase refl
  where
    at : (b : Bool) → b ≡ test s.call → s.phase ≡ Blocked → (cond b (record s { phase = Asked }) s ≡ s) ⊎ ((s.phase ≡ Blocked) × (cond b (record s { phase = Asked }) s ≡ record s { phase = Asked }))
    at true is was = inr (was, refl)
    at false is was = inl refl

    by : (p : Phase) → s.phase ≡ p → (woken_seat test (record s { phase = p }) ≡ record s { phase = p }) ⊎ ((p ≡ Blocked) × (woken_seat test (record s { phase = p }) ≡ record s { phase = Asked }))
    by Idle is = inl refl
    by Asked is = inl refl
    by Held is = inl refl
    by Receipted is = inl refl
    by Left is = inl refl
    by Blocked is = at2 (test s.call)
      where
        at2 : (b : Bool) → (cond b (record s { phase = Asked }) (record s { phase = Blocked }) ≡ record s { phase = Blocked }) ⊎ ((Blocked ≡ Blocked) × (cond b (record s { phase = Asked }) (record s { phase = Blocked }) ≡ record s { phase = Asked }))
        at2 true = inr (refl, refl)
        at2 false = inl refl

abbrev calls_in : List Seat → List Call
calls_in seats = flat_map (λ s. if is_offered s.phase then s.call ∷ [] else []) seats

pub offered_woken : (test : Call → Bool) (seats : List Seat) → calls_in (map (woken_seat test) seats) ≡ calls_in seats
offered_woken test [] = refl
offered_woken test (s ∷ seats) = by (woken_is test s) (offered_woken test seats)
  where
    own : Seat → List Call
    own s = if is_offered s.phase then s.call ∷ [] else []

    by : (woken_seat test s ≡ s) ⊎ ((s.phase ≡ Blocked) × (woken_seat test s ≡ record s { phase = Asked })) → calls_in (map (woken_seat test) seats) ≡ calls_in seats
        → (if is_offered (woken_seat test s).phase then (woken_seat test s).call ∷ [] else []) ++ calls_in (map (woken_seat test) seats) ≡ (if is_offered s.phase then s.call ∷ [] else []) ++ calls_in seats
    by (inl same) rest = ap (λ x. (if is_offered x.phase then x.call ∷ [] else []) ++ calls_in (map (woken_seat test) seats)) same ∙ ap (λ l. (if is_offered s.phase then s.call ∷ [] else []) ++ l) rest
    by (inr was) rest =
        ap (λ x. (if is_offered x.phase then x.call ∷ [] else []) ++ calls_in (map (woken_seat test) seats)) was.1 ∙ ap (λ l. s.call ∷ l) rest
        ∙ sym (ap (λ p. (if is_offered p then s.call ∷ [] else []) ++ calls_in seats) was.0)

pub held_woken : (boot : ℕ) (test : Call → Bool) (seats : List Seat) → held_in boot (map (woken_seat test) seats) ≡ held_in boot seats
held_woken boot test [] = refl
held_woken boot test (s ∷ seats) = by (woken_is test s) (held_woken boot test seats)
  where
    by : (woken_seat test s ≡ s) ⊎ ((s.phase ≡ Blocked) × (woken_seat test s ≡ record s { phase = Asked })) → held_in boot (map (woken_seat test) seats) ≡ held_in boot seats
        → held_in boot (woken_seat test s ∷ map (woken_seat test) seats) ≡ held_in boot (s ∷ seats)
    by (inl same) rest = ap (λ x. held_in boot (x ∷ map (woken_seat test) seats)) same ∙ ap (λ l. if is_held_in boot s then record { call = s.call; reply = s.reply } ∷ l else l) rest
    by (inr was) rest =
        ap (λ x. held_in boot (x ∷ map (woken_seat test) seats)) was.1 ∙ rest
        ∙ sym (ap (λ p. held_in boot (record s { phase = p } ∷ seats)) was.0)

-- nothing was held in a boot that is yet to come
pub none_held : (boots : ℕ) (seats : List Seat) → Each (λ s. s.boot ≤ boots) seats → held_in (boots + 1) seats ≡ []
none_held boots [] few = refl
none_held boots (s ∷ seats) few = ap (λ b. if b then record { call = s.call; reply = s.reply } ∷ held_in (boots + 1) seats else held_in (boots + 1) seats) (isnt s.phase) ∙ none_held boots seats few.1
  where
    other : (s.boot == boots + 1) ≡ false
    other = other_test s.boot (boots + 1) (λ is. omega (arith, few.0, is))

    isnt : (p : Phase) → is_held_in (boots + 1) (record s { phase = p }) ≡ false
    isnt Idle = refl
    isnt Asked = refl
    isnt Held = other
    isnt Receipted = refl
    isnt Blocked = refl
    isnt Left = refl

pub few_woken : (n : ℕ) (test : Call → Bool) (seats : List Seat) → Each (λ s. s.boot ≤ n) seats → Each (λ s. s.boot ≤ n) (map (woken_seat test) seats)
few_woken n test [] few = tt
few_woken n test (s ∷ seats) few = (by (woken_is test s), few_woken n test seats few.1)
  where
    by : (woken_seat test s ≡ s) ⊎ ((s.phase ≡ Blocked) × (woken_seat test s ≡ record s { phase = Asked })) → (woken_seat test s).boot ≤ n
    by (inl same) = subst (λ x. x.boot ≤ n) (sym same) few.0
    by (inr was) = subst (λ x. x.boot ≤ n) (sym was.1) few.0

-- seats that are woken are as before, at one history
seated_woken : (z : Setting) (history : List Entry) (withdrawn : List Withdrawn) (test : Call → Bool) (client : ℕ) (seats : List Seat) → AreSeated z history withdrawn client seats
    → AreSeated z history withdrawn client (map (woken_seat test) seats)
seated_woken z history withdrawn test client [] all = tt
seated_woken z history withdrawn test client (s ∷ seats) all = (by (woken_is test s) all.0, gone (woken_is test s) all.1, seated_woken z history withdrawn test (client + 1) seats all.2)
  where
    by : (woken_seat test s ≡ s) ⊎ ((s.phase ≡ Blocked) × (woken_seat test s ≡ record s { phase = Asked })) → IsSeated z history client s → IsSeated z history client (woken_seat test s)
    by (inl same) is = subst (IsSeated z history client) (sym same) is
    by (inr was) is = subst (IsSeated z history client) (sym was.1) (record {
      its = λ offer. is.its (ap is_offered was.0);
      next = λ offer. is.next (ap is_offered was.0);
      may = λ offer. is.may (ap is_offered was.0);
      waits = λ isnt. absurd (cc isnt);
      receipt = λ isnt. absurd (cc isnt);
      count = is.count;
      few = is.few;
    })

    gone : (woken_seat test s ≡ s) ⊎ ((s.phase ≡ Blocked) × (woken_seat test s ≡ record s { phase = Asked })) → AreGone withdrawn client s → AreGone withdrawn client (woken_seat test s)
    gone (inl same) is = subst (AreGone withdrawn client) (sym same) is
    gone (inr was) is = subst (AreGone withdrawn client) (sym was.1) is

pub seq_woken : (test : Call → Bool) (s : Seat) → (woken_seat test s).seq ≡ s.seq
seq_woken test s = by (woken_is test s)
  where
    by : (woken_seat test s ≡ s) ⊎ ((s.phase ≡ Blocked) × (woken_seat test s ≡ record s { phase = Asked })) → (woken_seat test s).seq ≡ s.seq
    by (inl same) = ap (λ x. x.seq) same
    by (inr was) = ap (λ x. x.seq) was.1

pub seqs_woken : (test : Call → Bool) (seats : List Seat) → all_seqs (map (woken_seat test) seats) ≡ all_seqs seats
seqs_woken test [] = refl
seqs_woken test (s ∷ seats) = let rest = seqs_woken test seats in let own = seq_woken test s in omega (arith, rest, own)

pub length_woken : (test : Call → Bool) (seats : List Seat) → length (map (woken_seat test) seats) ≡ length seats
length_woken test [] = refl
length_woken test (s ∷ seats) = ap suc (length_woken test seats)

pub seats_woken : (z : Setting) (history : List Entry) (withdrawn : List Withdrawn) (boots later : ℕ) (seats : List Seat) (test : Call → Bool) → boots ≤ later → HaveSeats z history withdrawn boots seats
    → HaveSeats z history withdrawn later (map (woken_seat test) seats)
seats_woken z history withdrawn boots later seats test more have = record {
  each = seated_woken z history withdrawn test 1 seats have.each;
  numbered = have.numbered;
  total = seqs_woken test seats ∙ have.total;
  few = subst (λ n. n ≤ last_client) (sym (length_woken test seats)) have.few;
  boots_few = each_map (λ s. s.boot ≤ boots) (λ s. s.boot ≤ later) (map (woken_seat test) seats) (λ s few. omega (arith, more, few)) (few_woken boots test seats have.boots_few);
}
