-- The calls of the setup come first.
use Rattle.std.proofs.Common.{◌≡◌, ◌≢◌, ◌⊎◌, ℕ, zero, suc, ◌-◌, ◌<◌, ◌≤◌, Bool, true, false, cond, List, [], ◌∷◌, ◌++◌, length, take, refl, sym, ◌∙◌, ap, subst, inl, inr, arith}
use Rattle.std.specs.Prelude.{◌==◌, ◌&&◌, nat_lt}
use Rattle.std.proofs.lemmas.Bool.{and_parts}
use Rattle.std.proofs.lemmas.Bool.Decides.{nat_tests}
use Rattle.sg_facts.specs.declared.entry.Entry.{Entry}
use Rattle.sg_clients.specs.sg_hist.Clients.{calls_of}
use Rattle.sg_script.specs.declared.script.Script.{Script}
use Rattle.sg_facts.proofs.Replaying.Found.{same_test}
use Rattle.sg_clients.proofs.Lines.{same_or_other}
use Rattle.sg_clients.specs.WorldView.{Seat, is_offered, seat_in}
use Rattle.sg_plain.specs.Playing.Callers.{EntersCall, EntersNothing, HandsOn, SetsUpFirst, StepsOn, all_of_first, handed, is_receipted, is_setting_up}

-- ---- entries of the first client

all_push : (history : List Entry) (e : Entry) → all_of_first history ≡ true → e.call.client ≡ 1 → all_of_first (history ++ e ∷ []) ≡ true
all_push [] e all its = ap (λ b. b && true) (same_test e.call.client 1 its)
all_push (x ∷ history) e all its =
    let both = and_parts (x.call.client == 1) (all_of_first history) all in
    ap (λ b. b && all_of_first (history ++ e ∷ [])) both.0 ∙ all_push history e both.1 its

all_front : (history : List Entry) (n : ℕ) → all_of_first history ≡ true → all_of_first (take n history) ≡ true
all_front [] zero all = refl
all_front [] (suc n) all = refl
all_front (x ∷ history) zero all = refl
all_front (x ∷ history) (suc n) all =
    let both = and_parts (x.call.client == 1) (all_of_first history) all in
    ap (λ b. b && all_of_first (take n history)) both.0 ∙ all_front history n both.1

front_push : (history : List Entry) (e : Entry) (n : ℕ) → n ≤ length history → take n (history ++ e ∷ []) ≡ take n history
front_push history e zero within = refl
front_push [] e (suc n) within = absurd (omega (arith, within))
front_push (x ∷ history) e (suc n) within = ap (λ l. x ∷ l) (front_push history e n (omega (arith, within)))

own_within : (history : List Entry) (client : ℕ) → length (calls_of history client) ≤ length history
own_within [] client = omega arith
own_within (x ∷ history) client = at (x.call.client == client) (own_within history client)
  where
    at : (b : Bool) → length (calls_of history client) ≤ length history → length (cond b (x ∷ calls_of history client) (calls_of history client)) ≤ length (x ∷ history)
    at true within = omega (arith, within)
    at false within = omega (arith, within)

pub handed_within : (s : Seat) → handed s ≤ s.seq
handed_within s = at (is_receipted s.phase)
  where
    at : (b : Bool) → cond b (s.seq - 1) s.seq ≤ s.seq
    at true = omega arith
    at false = omega arith

-- ---- whether the setup is over

below : (n m : ℕ) → nat_lt n m ≡ true → n < m
below n m is = grind (arith, nat_tests)

not_below : (n m : ℕ) → nat_lt n m ≡ false → m ≤ n
not_below n m is = grind (arith, nat_tests)

is_below : (n m : ℕ) → n < m → nat_lt n m ≡ true
is_below n m is = grind (arith, nat_tests)

module _ (script : Script) (seats later : List Seat) (more : handed (seat_in seats 1) ≤ handed (seat_in later 1)) where
  -- a client that is still at the setup was so before
  was_setting_up : is_setting_up script later ≡ true → is_setting_up script seats ≡ true
  was_setting_up is = is_below (handed (seat_in seats 1)) (length script.setup) (omega (arith, more, below (handed (seat_in later 1)) (length script.setup) is))

-- nor is a client handed less by a step
handed_grows : (seats later : List Seat) (c client : ℕ) → 1 ≤ client → HandsOn seats c later → handed (seat_in seats client) ≤ handed (seat_in later client)
handed_grows seats later c client first on = by (same_or_other client c)
  where
    by : (client ≡ c) ⊎ (client ≢ c) → handed (seat_in seats client) ≤ handed (seat_in later client)
    by (inl same) = subst (λ n. handed (seat_in seats n) ≤ handed (seat_in later n)) (sym same) on.own
    by (inr other) = omega (arith, on.others client first other)

bool_cases : (b : Bool) → (b ≡ true) ⊎ (b ≡ false)
bool_cases true = inl refl
bool_cases false = inr refl

not_offered : (b a : Bool) → (b ≡ true → a ≡ true) → a ≡ false → b ≡ false
not_offered true a so none = absurd (cc (sym none ∙ so refl))
not_offered false a so none = refl

-- a step that makes no entry
pub setup_still : (script : Script) (history now : List Entry) (seats later : List Seat) (c : ℕ) → SetsUpFirst script history seats → EntersNothing history seats c now later → SetsUpFirst script now later
setup_still script history now seats later c first enters =
    let was = was_setting_up script seats later (handed_grows seats later c 1 (omega arith) enters.handed_on) in
    record {
      front = ap (λ h. all_of_first (take (length script.setup) h)) enters.same ∙ first.front;
      all = λ is. ap all_of_first enters.same ∙ first.all (was is);
      others = λ is client from other. not_offered (is_offered (seat_in later client).phase) (is_offered (seat_in seats client).phase) (enters.each client from).offered (first.others (was is) client from other);
    }

module _ (script : Script) (history now : List Entry) (seats later : List Seat) (c : ℕ) (turn : is_setting_up script seats ≡ true → c ≡ 1)
    (count : (seat_in seats 1).seq ≡ length (calls_of history 1)) (its : is_offered (seat_in seats c).phase ≡ true → (seat_in seats c).call.client ≡ c)
    (first : SetsUpFirst script history seats) where
  call_entered : EntersCall history seats c now later → SetsUpFirst script now later
  call_entered enters =
      let was = was_setting_up script seats later (handed_grows seats later c 1 (omega arith) enters.handed_on) in
      record {
        front = ap (λ h. all_of_first (take (length script.setup) h)) enters.entered ∙ by (bool_cases (is_setting_up script seats));
        all = λ is. ap all_of_first enters.entered ∙ all_push history entry (first.all (was is)) (its enters.offered ∙ turn (was is));
        others = λ is client from other. not_offered (is_offered (seat_in later client).phase) (is_offered (seat_in seats client).phase)
            (enters.others client from (λ own. other (own ∙ turn (was is)))).offered (first.others (was is) client from other);
      }
    where
      entry : Entry
      entry = record { call = (seat_in seats c).call; reply = enters.reply }

      by : (is_setting_up script seats ≡ true) ⊎ (is_setting_up script seats ≡ false) → all_of_first (take (length script.setup) (history ++ entry ∷ [])) ≡ true
      by (inl is) = all_front (history ++ entry ∷ []) (length script.setup) (all_push history entry (first.all is) (its enters.offered ∙ turn is))
      by (inr over) =
          ap all_of_first (front_push history entry (length script.setup) (omega (arith, not_below (handed (seat_in seats 1)) (length script.setup) over, handed_within (seat_in seats 1), count, own_within history 1)))
          ∙ first.front

  -- a step of a client, which is client 1 while the setup goes on
  pub setup_step : StepsOn history seats c now later → SetsUpFirst script now later
  setup_step (inl enters) = setup_still script history now seats later c first enters
  setup_step (inr enters) = call_entered enters

-- an offer of a client, which is client 1 while the setup goes on
pub setup_offer : (script : Script) (history : List Entry) (seats later : List Seat) (c : ℕ) → (is_setting_up script seats ≡ true → c ≡ 1) → handed (seat_in later 1) ≡ handed (seat_in seats 1)
    → ((client : ℕ) → 1 ≤ client → client ≢ c → is_offered (seat_in later client).phase ≡ is_offered (seat_in seats client).phase) → SetsUpFirst script history seats → SetsUpFirst script history later
setup_offer script history seats later c turn same others first =
    let was = was_setting_up script seats later (omega (arith, same)) in
    record {
      front = first.front;
      all = λ is. first.all (was is);
      others = λ is client from other. others client from (λ own. other (own ∙ turn (was is))) ∙ first.others (was is) client from other;
    }
