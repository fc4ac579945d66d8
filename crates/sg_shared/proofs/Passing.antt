-- Passes that go to threads and come back.
use Rattle.std.proofs.Common.{◌≡◌, ◌⊎◌, ℕ, zero, suc, ◌+◌, ◌<◌, ◌≤◌, Bool, true, false, List, [], ◌∷◌, ◌++◌, Ok, Err, length, map, refl, sym, ap, ◌∙◌, subst, inl, inr, arith}
use Rattle.std.proofs.lemmas.Bool.{cases_lt}
use Rattle.std.specs.Result.{IfOk}
use Rattle.std.specs.declared.result.Result.{Result}
use Rattle.sg_facts.specs.sg_base.Lists.{Each}
use Rattle.sg_log.specs.Log.{log_of}
use Rattle.sg_log.specs.Names.{IsSeatOf, TellsWorld}
use Rattle.sg_log.specs.sg_turn.Passes.{AreAllPasses, Grows}
use Rattle.sg_log.specs.sg_turn.Told.{HasNoCall, Standing, asking, entries_by, has_reply, idle, left, standing_in}
use Rattle.sg_log.specs.sg_turn.declared.log.Face.{Face}
use Rattle.sg_log.specs.sg_turn.Seats.{NumberedFrom, SeatView, TurnView, all_seats, first_seats, knowledge_of, new_seat}
use Rattle.sg_shared.specs.Inside.Seats.{AllFree, AreSamePasses, IsSamePass, MayPlay}
use Rattle.sg_sim.proofs.Beginning.{new_seat as new_seat_of}
use Rattle.sg_sim.specs.Playing.{new_of}
use Rattle.sg_sim.specs.sg_plain.Calls.{most_client}
use Rattle.sg_sim.specs.sg_plain.Playing.Callers.{is_setting_up}
use Rattle.sg_sim.specs.sg_plain.Playing.Turns.{is_free_phase}
use Rattle.sg_sim.specs.sg_plain.sg_script.declared.script.Script.{Script}
use Rattle.sg_sim.specs.sg_clients.WorldView.{Seat, WorldView, is_offered, seat_of}
use Rattle.sg_sim.specs.sg_clients.declared.phase.Phase.{Phase}
use Rattle.sg_sim.specs.sg_clients.declared.phase.Phase.TheVariants.{Idle, Asked, Held, Receipted, Blocked, Left}

-- ---- the same pass

pub same_self : (p : SeatView) → IsSamePass p p
same_self p = record { number = refl; turn = refl; last = refl }

-- it has seen more since
pub same_grown : (o p q : SeatView) → IsSamePass o p → Grows p q → IsSamePass o q
same_grown o p q same grows = record { number = grows.number ∙ same.number; turn = grows.turn ∙ same.turn; last = grows.last ∙ same.last }

-- ---- the same passes

same_push : (ps qs : List SeatView) (p q : SeatView) → AreSamePasses ps qs → IsSamePass p q → AreSamePasses (ps ++ p ∷ []) (qs ++ q ∷ [])
same_push [] [] p q same it = (it, tt)
same_push [] (y ∷ qs) p q same it = absurd same
same_push (x ∷ ps) [] p q same it = absurd same
same_push (x ∷ ps) (y ∷ qs) p q same it = (same.0, same_push ps qs p q same.1 it)

-- the last pass went out and came back
pub same_pushed : (ps qs popped played : List SeatView) (p q sent : SeatView) → ps ≡ popped ++ p ∷ [] → qs ≡ played ++ q ∷ [] → AreSamePasses popped played → sent ≡ p
    → IsSamePass sent q → AreSamePasses ps qs
same_pushed ps qs popped played p q sent out back same is it =
    subst (λ xs. AreSamePasses xs qs) (sym out)
    (subst (AreSamePasses (popped ++ p ∷ [])) (sym back) (same_push popped played p q same (subst (λ (x : SeatView). IsSamePass x q) is it)))

-- ---- all passes

front_passes : (t : TurnView) (ps qs : List SeatView) (n : ℕ) → AreSamePasses ps qs → Each (λ (p : SeatView). p.turn ≡ t.id) ps → NumberedFrom n (map knowledge_of ps)
    → Each (λ (p : SeatView). p.turn ≡ t.id) qs × NumberedFrom n (map knowledge_of qs)
front_passes t [] [] n same turns numbers = (tt, tt)
front_passes t [] (q ∷ qs) n same turns numbers = absurd same
front_passes t (p ∷ ps) [] n same turns numbers = absurd same
front_passes t (p ∷ ps) (q ∷ qs) n same turns numbers =
    let rest = front_passes t ps qs (suc n) same.1 turns.1 numbers.1 in
    ((same.0.turn ∙ turns.0, rest.0), (same.0.number ∙ numbers.0, rest.1))

-- the last of them
last_pass : (ps qs : List SeatView) (p : SeatView) → AreSamePasses (ps ++ p ∷ []) qs → (others : List SeatView) × (final : SeatView) × (qs ≡ others ++ final ∷ []) × IsSamePass p final
last_pass [] [] p same = absurd same
last_pass [] (q ∷ []) p same = ([], q, refl, same.0)
last_pass [] (q ∷ r ∷ qs) p same = absurd same.1
last_pass (x ∷ ps) [] p same = absurd same
last_pass (x ∷ ps) (q ∷ qs) p same = let rest = last_pass ps qs p same.1 in (q ∷ rest.0, rest.1, ap (λ l. q ∷ l) rest.2, rest.3)

push_numbered : (n : ℕ) (ps : List SeatView) (p : SeatView) → NumberedFrom n (map knowledge_of ps) → p.number ≡ n + length ps → NumberedFrom n (map knowledge_of (ps ++ p ∷ []))
push_numbered n [] p numbers is = (is ∙ omega arith, tt)
push_numbered n (x ∷ ps) p numbers is = (numbers.0, push_numbered (suc n) ps p numbers.1 (is ∙ omega arith))

length_push : (ps : List SeatView) (p : SeatView) → length (ps ++ p ∷ []) ≡ suc (length ps)
length_push [] p = refl
length_push (x ∷ ps) p = ap suc (length_push ps p)

firsts_length : (t : TurnView) (n : ℕ) → length (first_seats t n) ≡ n
firsts_length t zero = refl
firsts_length t (suc n) = length_push (first_seats t n) (new_seat t (suc n) false) ∙ ap suc (firsts_length t n)

firsts_numbered : (t : TurnView) (n : ℕ) → NumberedFrom 1 (map knowledge_of (first_seats t n))
firsts_numbered t zero = tt
firsts_numbered t (suc n) = push_numbered 1 (first_seats t n) (new_seat t (suc n) false) (firsts_numbered t n) (let count = firsts_length t n in omega (arith, count))

-- what holds of each new seat holds of all
each_more : (P : SeatView → Type 0) (ps : List SeatView) (p : SeatView) → Each P ps → P p → Each P (ps ++ p ∷ [])
each_more P [] p all it = (it, tt)
each_more P (x ∷ ps) p all it = (all.0, each_more P ps p all.1 it)

firsts_each : (P : SeatView → Type 0) (t : TurnView) (n : ℕ) → ((k : ℕ) → 1 ≤ k → k ≤ n → P (new_seat t k false)) → Each P (first_seats t n)
firsts_each P t zero all = tt
firsts_each P t (suc n) all = each_more P (first_seats t n) (new_seat t (suc n) false) (firsts_each P t n (λ k first last. all k first (omega (arith, last)))) (all (suc n) (omega arith) (omega arith))

all_each : (P : SeatView → Type 0) (t : TurnView) (n : ℕ) → ((k : ℕ) (l : _) → 1 ≤ k → k ≤ n → P (new_seat t k l)) → Each P (all_seats t n)
all_each P t zero all = tt
all_each P t (suc n) all = each_more P (first_seats t n) (new_seat t (suc n) true) (firsts_each P t n (λ k first last. all k false first (omega (arith, last)))) (all (suc n) true (omega arith) (omega arith))

-- the passes that were dealt are all there when they come back
pub all_back : (t : TurnView) (n : ℕ) (qs : List SeatView) → 1 ≤ n → AreSamePasses (all_seats t n) qs → AreAllPasses t qs
all_back t zero qs some same = absurd (omega (arith, some))
all_back t (suc n) qs some same =
    let ends = last_pass (first_seats t n) qs (new_seat t (suc n) true) same in
    let kept = front_passes t (all_seats t (suc n)) qs 1 same (all_each (λ (p : SeatView). p.turn ≡ t.id) t (suc n) (λ k l first last. refl))
    (push_numbered 1 (first_seats t n) (new_seat t (suc n) true) (firsts_numbered t n) (let count = firsts_length t n in omega (arith, count))) in
    record {
      others = ends.0;
      final = ends.1;
      list = ends.2;
      last = ends.3.last;
      turns = kept.0;
      numbers = kept.1;
    }

-- ---- the beginning

-- after the setup of a new world
pub setup_free : (script : Script) (old now : WorldView) → old ≡ new_of script → (is_setting_up script old.seats ≡ false → now ≡ old) → (is_setting_up script old.seats ≡ true → is_free_phase (seat_of now 1).phase ≡ true)
    → ((client : ℕ) → 2 ≤ client → seat_of now client ≡ seat_of old client) → AllFree now
setup_free script old now new stays one others client first last = by (is_setting_up script old.seats) refl
  where
    fresh : (c : ℕ) → is_free_phase (seat_of old c).phase ≡ true
    fresh c = ap (λ (w : WorldView). is_free_phase (seat_of w c).phase) new ∙ ap (λ (s : Seat). is_free_phase s.phase) (new_seat_of (most_client script.clients) c)

    by : (b : Bool) → is_setting_up script old.seats ≡ b → is_free_phase (seat_of now client).phase ≡ true
    by false off = ap (λ (w : WorldView). is_free_phase (seat_of w client).phase) (stays off) ∙ fresh client
    by true on = at (cases_lt client 2)
      where
        at : (client < 2) ⊎ (2 ≤ client) → is_free_phase (seat_of now client).phase ≡ true
        at (inl below) = let is : 1 ≡ client = omega (arith, first, below) in subst (λ c. is_free_phase (seat_of now c).phase ≡ true) is (one on)
        at (inr above) = ap (λ (s : Seat). is_free_phase s.phase) (others client above) ∙ fresh client

free_stands : (st : Standing) (s : Seat) → IsSeatOf st s → is_free_phase s.phase ≡ true → HasNoCall st
free_stands idle s is free = tt
free_stands left s is free = tt
free_stands (asking call) s is free = absurd (by s.phase is.0 free)
  where
    by : (p : Phase) → is_offered p ≡ true → is_free_phase p ≡ true → ⊥
    by Idle offers free = cc offers
    by Left offers free = cc offers
    by Receipted offers free = cc offers
    by Asked offers free = cc free
    by Held offers free = cc free
    by Blocked offers free = cc free
free_stands (has_reply call reply) s is free = absurd (let not = ap is_free_phase is in cc (not, free))

-- each client of a world that has no call under way may play by a new pass
pub all_play : (t : TurnView) (w : WorldView) → t.start.log ≡ log_of w → TellsWorld w → AllFree w
    → Each (MayPlay t w.history) (all_seats t (length w.seats))
all_play t w log told free = all_each (MayPlay t w.history) t (length w.seats) (λ k l first last. record {
  turn = refl;
  free = subst (λ ms. HasNoCall (standing_in k ms)) (sym log) (free_stands (standing_in k (log_of w)) (seat_of w k) (told.stands k (first, last)) (free k first last));
  own = ap (λ ms. entries_by k ms) log ∙ told.own k;
})

-- and so may they by those that a sharing of it dealt
pub shared_play : {V E : Type 0} (items : V → List SeatView) (f : Face) (w : WorldView) (n : ℕ) (r : Result (TurnView × V) E) → f.log ≡ log_of w → length w.seats ≡ n → TellsWorld w → AllFree w
    → IfOk r (λ s. s.0.start ≡ f) → IfOk r (λ s. items s.1 ≡ all_seats s.0 n) → IfOk r (λ s. Each (MayPlay s.0 w.history) (items s.1))
shared_play items f w n (Ok s) log seats told free start passes = subst (Each (MayPlay s.0 w.history)) (ap (all_seats s.0) seats ∙ sym passes) (all_play s.0 w (ap (λ (x : Face). x.log) start ∙ log) told free)
shared_play items f w n (Err e) log seats told free start passes = tt
