-- Lists of ends that grow by one client, and clients none of whom can take a turn.
use Rattle.std.proofs.Common.{◌≡◌, ◌⊎◌, inl, inr, ℕ, zero, suc, ◌+◌, ◌<◌, ◌≤◌, Bool, true, false, cond, not, List, [], ◌∷◌, ◌++◌, None, Some, Bor, filter, length, map, refl, ◌∙◌, ap, arith, is_some, option_copied}
use Rattle.std.specs.Prelude.{◌==◌, slice_get}
use Rattle.std.specs.declared.option.Option.{Option}
use Rattle.std.proofs.lemmas.Bool.{cases_lt}
use Rattle.std.proofs.lemmas.Bool.Decides.{nat_tests}
use Rattle.std.proofs.lemmas.List.{map-append}
use Rattle.std.proofs.lemmas.List.Elements.{filter-append}
use Rattle.sg_multi.specs.Members.{Membered}
use Rattle.sg_multi.specs.sg_sim.sg_plain.Calls.{ascending_from, most_client}
use Rattle.sg_multi.specs.sg_sim.sg_script.declared.multi.MultiScript.{MultiScript}
use Rattle.sg_multi.specs.Calls.{has_multi_calls}
use Rattle.sg_multi.specs.Inside.Turns.{NobodyGoesNow, NoneAfter, end_by, end_of_client, ends_up_to, may_go_now}
use Rattle.sg_multi.specs.declared.ended.MultiEnd.{MultiEnd}
use Rattle.sg_multi.specs.declared.running.Running.{Running}

-- ---- ends

ascending_more : (k n : ℕ) → ascending_from k (n + 1) ≡ ascending_from k n ++ (k + n) ∷ []
ascending_more k zero = let none_more : k ≡ k + 0 = omega arith in ap (λ m. m ∷ []) none_more
ascending_more k (suc n) =
    let more : suc n + 1 ≡ suc (n + 1) = omega arith in
    let next : k + 1 + n ≡ k + suc n = omega arith in
    ap (ascending_from k) more ∙ ap (λ l. k ∷ l) (ascending_more (k + 1) n) ∙ ap (λ m. k ∷ ascending_from (k + 1) n ++ m ∷ []) next

callers_more : (test : ℕ → Bool) (n : ℕ) → filter test (ascending_from 1 (n + 1)) ≡ filter test (ascending_from 1 n) ++ cond (test (n + 1)) ((n + 1) ∷ []) []
callers_more test n =
    let next : 1 + n ≡ n + 1 = omega arith in
    ap (filter test) (ascending_more 1 n) ∙ filter-append test (ascending_from 1 n) ((1 + n) ∷ [])
    ∙ ap (λ m. filter test (ascending_from 1 n) ++ cond (test m) (m ∷ []) []) next

module _ (members : List Membered) (script : MultiScript) (given : List (List ℕ)) (n : ℕ) where
  abbrev ended : ℕ → ℕ × MultiEnd
  ended c = (c, end_of_client members script given c)

  -- the next client has its end, where it has a call
  pub ends_more : ends_up_to members script given (n + 1) ≡ ends_up_to members script given n ++ end_by members script given (n + 1)
  ends_more =
      ap (map ended) (callers_more (has_multi_calls script) n)
      ∙ map-append ended (filter (has_multi_calls script) (ascending_from 1 n)) (cond (has_multi_calls script (n + 1)) ((n + 1) ∷ []) [])
      ∙ ap (λ l. ends_up_to members script given n ++ l) (by (has_multi_calls script (n + 1)))
    where
      by : (b : Bool) → map ended (cond b ((n + 1) ∷ []) []) ≡ cond b (ended (n + 1) ∷ []) []
      by true = refl
      by false = refl

-- a list begins with an element where it isn't empty
pub some_first : {T : Type 0} (xs : List T) (r : Option (Bor T)) → option_copied r ≡ slice_get xs 0 → is_some r ≡ not (length xs == 0)
some_first [] None is = refl
some_first [] (Some x) is = absurd (cc is)
some_first (y ∷ xs) None is = absurd (cc is)
some_first (y ∷ xs) (Some x) is = some (length xs)
  where
    some : (n : ℕ) → true ≡ not (suc n == 0)
    some n = grind (arith, nat_tests)

-- ---- turns

-- one client more can't take a turn
pub none_more : {N : Type 0} (script : MultiScript) (r : Running N) (behind client : ℕ) → NoneAfter script r behind client → may_go_now script r (client + 1) ≡ false → NoneAfter script r behind (client + 1)
none_more script r behind client before not other above within = by (cases_lt client other)
  where
    by : (client < other) ⊎ (other ≤ client) → may_go_now script r other ≡ false
    by (inl more) = let same : other ≡ client + 1 = omega (arith, more, within) in ap (may_go_now script r) same ∙ not
    by (inr less) = before other above less

-- nobody can, behind a client and up to it
pub nobody : {N : Type 0} (script : MultiScript) (r : Running N) (last : ℕ) → NoneAfter script r last (most_client script.clients) → NoneAfter script r 0 last → NobodyGoesNow script r
nobody script r last behind around client first within = by (cases_lt last client)
  where
    by : (last < client) ⊎ (client ≤ last) → may_go_now script r client ≡ false
    by (inl more) = behind client more within
    by (inr less) = around client (omega (arith, first)) less
