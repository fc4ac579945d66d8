-- What clients were given, after a step.
use Rattle.std.proofs.Common.{◌≡◌, ◌≢◌, ◌⊎◌, ℕ, zero, suc, ◌-◌, ◌≤◌, List, [], ◌∷◌, ◌++◌, None, Some, length, map, take, refl, sym, ◌∙◌, ap, subst, inl, inr, arith, length-append, slice_set, get_or-set_same, get_or-set_other}
use Rattle.std.specs.declared.option.Option.{Option}
use Rattle.std.proofs.lemmas.Option.{unwrap_or-slice_get}
use Rattle.sg_facts.specs.declared.entry.Entry.{Entry}
use Rattle.sg_facts.specs.Interface.{Declared}
use Rattle.sg_clients.specs.sg_hist.Clients.{calls_of}
use Rattle.sg_clients.specs.sg_hist.Inside.Reads.{desc_of}
use Rattle.sg_clients.specs.WorldView.{Seat, seat_in}
use Rattle.sg_script.specs.declared.script.Script.{Script}
use Rattle.sg_clients.proofs.Lines.{same_or_other}
use Rattle.sg_plain.specs.Playing.Callers.{AreCallers, HandsOn, StepsOn, handed}
use Rattle.sg_plain.specs.Playing.Given.{GaveIds, HandsToClient, HandsReply, HaveGiven, given_in, with_handed}
use Rattle.sg_plain.specs.Playing.Playable.{IsPlayable}
use Rattle.sg_plain.proofs.Playing.Calling.{its_entry, others_same, own_more}
use Rattle.sg_plain.proofs.Playing.Setting.{handed_within}

-- ---- lists

take_front : (xs ys : List Entry) (n : ℕ) → n ≤ length xs → take n (xs ++ ys) ≡ take n xs
take_front xs ys zero within = refl
take_front [] ys (suc n) within = absurd (omega (arith, within))
take_front (x ∷ xs) ys (suc n) within = ap (λ l. x ∷ l) (take_front xs ys n (omega (arith, within)))

take_all : (xs : List Entry) (n : ℕ) → n ≡ length xs → take n xs ≡ xs
take_all [] zero is = refl
take_all [] (suc n) is = absurd (cc is)
take_all (x ∷ xs) zero is = absurd (cc is)
take_all (x ∷ xs) (suc n) is = ap (λ l. x ∷ l) (take_all xs n (omega (arith, is)))

map_push : (f : Entry → ℕ) (xs : List Entry) (x : Entry) → map f (xs ++ x ∷ []) ≡ map f xs ++ f x ∷ []
map_push f [] x = refl
map_push f (y ∷ xs) x = ap (λ l. f y ∷ l) (map_push f xs x)

given_here : (given : List (List ℕ)) (c : ℕ) (new : List ℕ) → 1 ≤ c → c ≤ length given → given_in (slice_set given (c - 1) new) c ≡ new
given_here given c new first last = unwrap_or-slice_get (slice_set given (c - 1) new) (c - 1) [] ∙ get_or-set_same given (c - 1) new [] (omega (arith, first, last))

given_there : (given : List (List ℕ)) (c client : ℕ) (new : List ℕ) → 1 ≤ c → 1 ≤ client → client ≢ c → given_in (slice_set given (c - 1) new) client ≡ given_in given client
given_there given c client new first from other =
    unwrap_or-slice_get (slice_set given (c - 1) new) (client - 1) []
    ∙ get_or-set_other given (c - 1) (client - 1) new [] (λ same. other (omega (arith, first, from, same)))
    ∙ sym (unwrap_or-slice_get given (client - 1) [])

length_given : (given : List (List ℕ)) (at : ℕ) (new : List ℕ) → length (slice_set given at new) ≡ length given
length_given [] at new = refl
length_given (g ∷ given) zero new = refl
length_given (g ∷ given) (suc at) new = ap suc (length_given given at new)

-- ---- a step

module _ (i : Declared) (script : Script) (history now : List Entry) (seats later : List Seat) (c : ℕ) (given : List (List ℕ)) (playable : IsPlayable i script) (first : 1 ≤ c) (last : c ≤ length seats)
    (are : AreCallers i.facts script history seats) (have : HaveGiven history seats given) (steps : StepsOn history seats c now later) where
  clients_same : length later ≡ length seats
  clients_same = elim steps [ inl enters ↦ enters.clients | inr enters ↦ enters.clients ]

  hands_on : HandsOn seats c later
  hands_on = elim steps [ inl enters ↦ enters.handed_on | inr enters ↦ enters.handed_on ]

  -- another client has the entries that it had
  others_own : (client : ℕ) → client ≢ c → calls_of now client ≡ calls_of history client
  others_own client other = by steps
    where
      by : StepsOn history seats c now later → calls_of now client ≡ calls_of history client
      by (inl enters) = ap (λ h. calls_of h client) enters.same
      by (inr enters) = ap (λ h. calls_of h client) enters.entered
          ∙ others_same history (record { call = (seat_in seats c).call; reply = enters.reply }) client (λ same. other (sym same ∙ its_entry i script playable history now seats later c first last are enters))

  -- the client's own entries are as they were as far as it was handed replies
  own_front : (n : ℕ) → n ≤ length (calls_of history c) → take n (calls_of now c) ≡ take n (calls_of history c)
  own_front n within = by steps
    where
      by : StepsOn history seats c now later → take n (calls_of now c) ≡ take n (calls_of history c)
      by (inl enters) = ap (λ h. take n (calls_of h c)) enters.same
      by (inr enters) =
          let e : Entry = record { call = (seat_in seats c).call; reply = enters.reply } in
          ap (take n) (ap (λ h. calls_of h c) enters.entered ∙ own_more history e c (its_entry i script playable history now seats later c first last are enters)) ∙ take_front (calls_of history c) (e ∷ []) n within

  handed_few : handed (seat_in seats c) ≤ length (calls_of history c)
  handed_few = omega (arith, handed_within (seat_in seats c), (are.each c first last).count)

  other_given : (client : ℕ) → 1 ≤ client → client ≤ length seats → client ≢ c → GaveIds (take (handed (seat_in later client)) (calls_of now client)) (given_in given client)
  other_given client from to other =
      ap (λ n. map (λ e. desc_of e.reply) (take n (calls_of now client))) (hands_on.others client from other)
      ∙ ap (λ es. map (λ e. desc_of e.reply) (take (handed (seat_in seats client)) es)) (others_own client other)
      ∙ have.each client from to

  -- nothing was handed over
  pub given_same : handed (seat_in later c) ≡ handed (seat_in seats c) → HaveGiven now later given
  given_same same = record {
    clients = have.clients ∙ sym clients_same;
    each = λ client from to. by client from (subst (λ n. client ≤ n) clients_same to) (same_or_other client c);
  }
    where
      own : GaveIds (take (handed (seat_in later c)) (calls_of now c)) (given_in given c)
      own = ap (λ n. map (λ e. desc_of e.reply) (take n (calls_of now c))) same ∙ ap (map (λ e. desc_of e.reply)) (own_front (handed (seat_in seats c)) handed_few) ∙ have.each c first last

      by : (client : ℕ) → 1 ≤ client → client ≤ length seats → (client ≡ c) ⊎ (client ≢ c) → GaveIds (take (handed (seat_in later client)) (calls_of now client)) (given_in given client)
      by client from to (inl it) = subst (λ n. GaveIds (take (handed (seat_in later n)) (calls_of now n)) (given_in given n)) (sym it) own
      by client from to (inr other) = other_given client from to other

  -- a reply was handed over
  pub given_more : (id : ℕ) → HandsReply seats c now later id → HaveGiven now later (with_handed given c (Some id))
  given_more id hands = record {
    clients = length_given given (c - 1) new ∙ have.clients ∙ sym clients_same;
    each = λ client from to. by client from (subst (λ n. client ≤ n) clients_same to) (same_or_other client c);
  }
    where
      new : List ℕ
      new = given_in given c ++ id ∷ []

      within : c ≤ length given
      within = omega (arith, last, have.clients)

      front_length : length hands.front ≡ handed (seat_in seats c)
      front_length = omega (arith, ap length hands.is, length-append hands.front (hands.last ∷ []), hands.all_handed, hands.one_more)

      front_is : hands.front ≡ take (handed (seat_in seats c)) (calls_of history c)
      front_is =
          sym (take_all hands.front (handed (seat_in seats c)) (sym front_length))
          ∙ sym (take_front hands.front (hands.last ∷ []) (handed (seat_in seats c)) (omega (arith, front_length)))
          ∙ ap (take (handed (seat_in seats c))) (sym hands.is)
          ∙ own_front (handed (seat_in seats c)) handed_few

      own : GaveIds (take (handed (seat_in later c)) (calls_of now c)) new
      own =
          ap (map (λ e. desc_of e.reply)) (take_all (calls_of now c) (handed (seat_in later c)) hands.all_handed ∙ hands.is)
          ∙ map_push (λ e. desc_of e.reply) hands.front hands.last
          ∙ ap (λ l. l ++ desc_of hands.last.reply ∷ []) (ap (map (λ e. desc_of e.reply)) front_is ∙ have.each c first last)
          ∙ ap (λ d. given_in given c ++ d ∷ []) hands.gave

      by : (client : ℕ) → 1 ≤ client → client ≤ length seats → (client ≡ c) ⊎ (client ≢ c) → GaveIds (take (handed (seat_in later client)) (calls_of now client)) (given_in (slice_set given (c - 1) new) client)
      by client from to (inl it) = subst (λ n. GaveIds (take (handed (seat_in later n)) (calls_of now n)) (given_in (slice_set given (c - 1) new) n)) (sym it)
          (subst (GaveIds (take (handed (seat_in later c)) (calls_of now c))) (sym (given_here given c new first within)) own)
      by client from to (inr other) = subst (GaveIds (take (handed (seat_in later client)) (calls_of now client))) (sym (given_there given c client new first from other)) (other_given client from to other)

  pub given_step : (told : Option ℕ) → HandsToClient seats c now later told → HaveGiven now later (with_handed given c told)
  given_step None same = given_same same
  given_step (Some id) hands = given_more id hands
