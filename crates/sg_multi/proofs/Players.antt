-- The players of clients in ascending numbers, by look-ups, and where one is another then, or those who wait are woken.
use Rattle.std.proofs.Common.{◌≡◌, ◌≢◌, ℕ, zero, suc, ◌+◌, ◌-◌, ◌<◌, ◌≤◌, Bool, true, false, ◌∷◌, None, Some, length, map, refl, ◌∙◌, ap, arith, slice_set}
use Rattle.std.specs.Prelude.{slice_get}
use Rattle.sg_multi.specs.sg_sim.sg_plain.Calls.{ascending_from}
use Rattle.sg_multi.specs.sg_sim.sg_plain.Plain.{PlainPhase, Player, after_wakes, blocked, holding, ready, replied, through, woken_phase}

module _ (f : ℕ → Player) where
  pub get_from : (k n j : ℕ) → j < n → slice_get (map f (ascending_from k n)) j ≡ Some (f (k + j))
  get_from k zero j below = absurd (omega (arith, below))
  get_from k (suc n) zero below = ap (λ m. Some (f m)) (let same : k ≡ k + 0 = omega arith in same)
  get_from k (suc n) (suc j) below = get_from (k + 1) n j (omega (arith, below)) ∙ ap (λ m. Some (f m)) (let same : (k + 1) + j ≡ k + suc j = omega arith in same)

  pub none_from : (k n j : ℕ) → n ≤ j → slice_get (map f (ascending_from k n)) j ≡ None
  none_from k zero j beyond = refl
  none_from k (suc n) zero beyond = absurd (omega (arith, beyond))
  none_from k (suc n) (suc j) beyond = none_from (k + 1) n j (omega (arith, beyond))

  pub length_from : (k n : ℕ) → length (map f (ascending_from k n)) ≡ n
  length_from k zero = refl
  length_from k (suc n) = ap suc (length_from (k + 1) n)

  -- those who wait are woken
  pub woken_from : (wakes : ℕ → ℕ → Bool) (k n : ℕ) → after_wakes wakes k (map f (ascending_from k n))
      ≡ map (λ d. record (f d) { phase = woken_phase (wakes d (f d).done) (f d).phase }) (ascending_from k n)
  woken_from wakes k zero = refl
  woken_from wakes k (suc n) = ap (λ l. record (f k) { phase = woken_phase (wakes k (f k).done) (f k).phase } ∷ l) (woken_from wakes (k + 1) n)

  module _ (g : ℕ → Player) where
    pub same_from : (k n : ℕ) → ((i : ℕ) → k ≤ i → i < k + n → f i ≡ g i) → map f (ascending_from k n) ≡ map g (ascending_from k n)
    same_from k zero same = refl
    same_from k (suc n) same =
        ap (λ p. p ∷ map f (ascending_from (k + 1) n)) (same k (omega arith) (omega arith))
        ∙ ap (λ l. g k ∷ l) (same_from (k + 1) n (λ i from below. same i (omega (arith, from)) (omega (arith, below))))

    -- one is another then
    pub set_from : (k n c : ℕ) → k ≤ c → c < k + n → ((i : ℕ) → k ≤ i → i < k + n → i ≢ c → f i ≡ g i)
        → map f (ascending_from k n) ≡ slice_set (map g (ascending_from k n)) (c - k) (f c)
    set_from k zero c from below same = absurd (omega (arith, from, below))
    set_from k (suc n) c from below same =
        by (c - k) refl (λ after. set_from (k + 1) n c after (omega (arith, below)) (λ i above within. same i (omega (arith, above)) (omega (arith, within))))
      where
        by : (j : ℕ) → c - k ≡ j → (k + 1 ≤ c → map f (ascending_from (k + 1) n) ≡ slice_set (map g (ascending_from (k + 1) n)) (c - (k + 1)) (f c))
            → map f (ascending_from k (suc n)) ≡ slice_set (map g (ascending_from k (suc n))) j (f c)
        by zero is rest =
            let here : k ≡ c = omega (arith, from, is) in
            ap (λ l. f k ∷ l) (same_from (k + 1) n (λ i after within. same i (omega (arith, after)) (omega (arith, within)) (λ its. absurd (omega (arith, its, after, here)))))
            ∙ ap (λ m. f m ∷ map g (ascending_from (k + 1) n)) here
        by (suc j) is rest =
            let next : c - (k + 1) ≡ j = omega (arith, from, is) in
            ap (λ p. p ∷ map f (ascending_from (k + 1) n)) (same k (omega arith) (omega arith) (λ its. absurd (omega (arith, its, is))))
            ∙ ap (λ l. g k ∷ l) (rest (omega (arith, from, is)) ∙ ap (λ m. slice_set (map g (ascending_from (k + 1) n)) m (f c)) next)

  -- the player of a client
  pub player_in : (n c : ℕ) → 1 ≤ c → c ≤ n → slice_get (map f (ascending_from 1 n)) (c - 1) ≡ Some (f c)
  player_in n c first last = get_from 1 n (c - 1) (omega (arith, first, last)) ∙ ap (λ m. Some (f m)) (let same : 1 + (c - 1) ≡ c = omega (arith, first) in same)

-- ---- who is woken

-- what a client is at is the same, woken or not, where it doesn't wait
pub woken_same : (w : Bool) (p : PlainPhase) → p ≢ blocked → woken_phase w p ≡ p
woken_same true ready not = refl
woken_same false ready not = refl
woken_same true replied not = refl
woken_same false replied not = refl
woken_same true (holding reply) not = refl
woken_same false (holding reply) not = refl
woken_same true through not = refl
woken_same false through not = refl
woken_same w blocked not = absurd (not refl)
