-- The history of a play is the script's calls.
use Rattle.std.proofs.Common.{◌≡◌, ◌≢◌, ℕ, zero, suc, ◌+◌, ◌<◌, ◌≤◌, Bool, true, false, cond, not, List, [], ◌∷◌, ◌++◌, filter, length, refl, sym, ◌∙◌, ap, arith, append_assoc}
use Rattle.std.specs.Prelude.{◌==◌, ◌&&◌, ◌||◌}
use Rattle.std.specs.List.{list_all, list_any}
use Rattle.std.proofs.lemmas.Bool.Decides.{nat_tests}
use Rattle.std.proofs.lemmas.List.Elements.{filter-append}
use Rattle.sg_facts.specs.sg_base.Lists.{Each}
use Rattle.sg_facts.specs.declared.entry.Entry.{Entry}
use Rattle.sg_facts.specs.Facts.{Facts}
use Rattle.sg_clients.specs.sg_hist.Clients.{calls_of}
use Rattle.sg_plain.specs.Calls.{ascending_from, callers, most_client, script_calls}
use Rattle.sg_plain.specs.Promises.{AreFirstCalls, AreScriptsCalls}
use Rattle.sg_script.specs.declared.script.Script.{Script}
use Rattle.sg_script.specs.declared.script.ScriptCall.{ScriptCall}
use Rattle.sg_clients.specs.WorldView.{Seat}
use Rattle.sg_facts.proofs.Replaying.Found.{other_test, same_test}
use Rattle.sg_plain.specs.Playing.Callers.{AreCallers, SetsUpFirst}
use Rattle.sg_plain.specs.Playing.Ends.{has_calls}

-- ---- numbers one after the other

pub one_more_from : (n count : ℕ) → ascending_from n (suc count) ≡ ascending_from n count ++ (n + count) ∷ []
one_more_from n zero = ap (λ m. m ∷ []) (omega arith)
one_more_from n (suc count) = ap (λ l. n ∷ l) (one_more_from (n + 1) count) ∙ ap (λ m. n ∷ ascending_from (n + 1) count ++ m ∷ []) (omega arith)

-- the clients with a call, one number more of them
pub callers_more : (script : Script) (count : ℕ) → filter (has_calls script) (ascending_from 1 (count + 1))
    ≡ filter (has_calls script) (ascending_from 1 count) ++ cond (has_calls script (count + 1)) ((count + 1) ∷ []) []
callers_more script count =
    let next : count + 1 ≡ suc count = omega arith in
    ap (λ n. filter (has_calls script) (ascending_from 1 n)) next
    ∙ ap (filter (has_calls script)) (one_more_from 1 count)
    ∙ filter-append (has_calls script) (ascending_from 1 count) ((1 + count) ∷ [])
    ∙ ap (λ m. filter (has_calls script) (ascending_from 1 count) ++ cond (has_calls script m) (m ∷ []) []) (omega arith)

-- what holds of each number holds of those that meet a test
each_filtered : (P : ℕ → Type 0) (test : ℕ → Bool) (n count : ℕ) → ((m : ℕ) → n ≤ m → m < n + count → P m) → Each P (filter test (ascending_from n count))
each_filtered P test n zero all = tt
each_filtered P test n (suc count) all = by (test n) (each_filtered P test (n + 1) count (λ m from below. all m (omega (arith, from)) (omega (arith, below))))
  where
    by : (b : Bool) → Each P (filter test (ascending_from (n + 1) count)) → Each P (cond b (n ∷ filter test (ascending_from (n + 1) count)) (filter test (ascending_from (n + 1) count)))
    by true rest = (all n (omega arith) (omega arith), rest)
    by false rest = rest

-- a number that meets the test is among them
among : (test : ℕ → Bool) (n count m : ℕ) → n ≤ m → m < n + count → test m ≡ true → list_any (λ c. c == m) (filter test (ascending_from n count)) ≡ true
among test n zero m from below meets = absurd (omega (arith, from, below))
among test n (suc count) m from below meets = by (n == m) refl (test n) refl (λ other. among test (n + 1) count m (omega (arith, from, other)) (omega (arith, below)) meets)
  where
    or_true : (b : Bool) → (b || true) ≡ true
    or_true true = refl
    or_true false = refl

    by : (same : Bool) → (n == m) ≡ same → (b : Bool) → test n ≡ b → ((n ≡ m → ⊥) → list_any (λ c. c == m) (filter test (ascending_from (n + 1) count)) ≡ true)
        → list_any (λ c. c == m) (cond b (n ∷ filter test (ascending_from (n + 1) count)) (filter test (ascending_from (n + 1) count))) ≡ true
    by true same true met rest = ap (λ b. b || list_any (λ c. c == m) (filter test (ascending_from (n + 1) count))) same
    by true same false met rest = let its : n ≡ m = grind (arith, nat_tests) in absurd (cc (sym meets ∙ ap test (sym its) ∙ met))
    by false same true met rest = ap (λ b. (n == m) || b) (rest (λ its. cc (sym (same_test n m its) ∙ same))) ∙ or_true (n == m)
    by false same false met rest = rest (λ its. cc (sym (same_test n m its) ∙ same))

-- ---- each entry is of a client with calls

no_calls : (facts : Facts) (history : List Entry) (client : ℕ) (es : List Entry) (calls : List ScriptCall) → es ≢ [] → AreFirstCalls facts history client 1 es calls → not (length calls == 0) ≡ true
no_calls facts history client [] calls some are = absurd (some refl)
no_calls facts history client (e ∷ es) [] some are = absurd are
no_calls facts history client (e ∷ es) (c ∷ calls) some are = ap not (other_test (length (c ∷ calls)) 0 (λ is. cc is))

-- a client has the entry that stands among others
not_none : (front : List Entry) (e : Entry) (es : List Entry) → calls_of (front ++ e ∷ es) e.call.client ≡ [] → ⊥
not_none [] e es none = at (e.call.client == e.call.client) (same_test e.call.client e.call.client refl) none
  where
    at : (b : Bool) → b ≡ true → cond b (e ∷ calls_of es e.call.client) (calls_of es e.call.client) ≡ [] → ⊥
    at true is none = cc none
    at false is none = cc is
not_none (x ∷ front) e es none = at (x.call.client == e.call.client) (not_none front e es) none
  where
    at : (b : Bool) → (calls_of (front ++ e ∷ es) e.call.client ≡ [] → ⊥) → cond b (x ∷ calls_of (front ++ e ∷ es) e.call.client) (calls_of (front ++ e ∷ es) e.call.client) ≡ [] → ⊥
    at true behind none = cc none
    at false behind none = behind none

module _ (facts : Facts) (script : Script) (history : List Entry) (seats : List Seat) (clients : length seats ≡ most_client script.clients) (are : AreCallers facts script history seats) where
  is_caller : (client : ℕ) → calls_of history client ≢ [] → list_any (λ c. c == client) (callers script) ≡ true
  is_caller client some =
      let there = are.none_else client some in
      among (has_calls script) 1 (most_client script.clients) client there.0 (omega (arith, there.1, clients))
      (no_calls facts history client (calls_of history client) (script_calls script client) some (are.each client there.0 there.1).made)

  all_callers : (before es : List Entry) → before ++ es ≡ history → list_all (λ e. list_any (λ c. c == e.call.client) (callers script)) es ≡ true
  all_callers before [] is = refl
  all_callers before (e ∷ es) is =
      ap (λ b. b && list_all (λ x. list_any (λ c. c == x.call.client) (callers script)) es) (is_caller e.call.client (λ none. not_none before e es (ap (λ h. calls_of h e.call.client) is ∙ none)))
      ∙ all_callers (before ++ e ∷ []) es (append_assoc before (e ∷ []) es ∙ is)

  -- the entries are the script's calls
  pub scripts_calls : SetsUpFirst script history seats → AreScriptsCalls facts script history
  scripts_calls first = record {
    each = each_filtered (λ client. AreFirstCalls facts history client 1 (calls_of history client) (script_calls script client)) (has_calls script) 1 (most_client script.clients)
        (λ client from below. (are.each client from (omega (arith, below, clients))).made);
    none_else = all_callers [] history refl;
    setup = first.front;
  }
