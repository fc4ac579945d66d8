-- The calls of a script that may be played: each client's are numbered one after the other, each is of one of the service's functions,
-- and there aren't more than a history may have.
use Rattle.std.proofs.Common.{◌≡◌, ℕ, zero, suc, ◌+◌, ◌*◌, ◌≤◌, Bool, true, false, cond, ◌||◌, not, List, [], ◌∷◌, ◌++◌, filter, length, refl, sym, ◌∙◌, ap, subst, append_assoc, arith}
use Rattle.std.specs.Prelude.{◌==◌, nat_le}
use Rattle.std.specs.List.{list_all, list_any}
use Rattle.std.proofs.lemmas.Bool.Decides.{nat_tests}
use Rattle.std.proofs.lemmas.List.Elements.{filter-append}
use Rattle.sg_cost.proofs.Few.Lists.{both_true}
use Rattle.sg_cost.specs.Costs.{IsClients, most_entries}
use Rattle.sg_facts.proofs.Replaying.Found.{same_test}
use Rattle.sg_facts.specs.Facts.{Facts, fun_at}
use Rattle.sg_facts.specs.Inside.Rows.{is_desc, is_parent}
use Rattle.sg_facts.specs.Fits.{Fits}
use Rattle.sg_facts.specs.Interface.{Declared, declares}
use Rattle.sg_facts.specs.Kinds.{IsCall, kinds_fit}
use Rattle.sg_facts.specs.Limits.{last_client, most_script_calls}
use Rattle.sg_facts.specs.declared.entry.Entry.{Entry}
use Rattle.sg_facts.specs.declared.shape.Kind.{Kind}
use Rattle.sg_facts.specs.declared.shape.Kind.TheVariants.{Desc, Parent, Word as IsWord, Text as IsText}
use Rattle.sg_facts.specs.sg_base.Lists.{Each}
use Rattle.sg_plain.specs.Calls.{ascending_from, callers, most_client, resolved_by, script_calls}
use Rattle.sg_plain.specs.Playing.Playable.{AreClients, IsPlayable}
use Rattle.sg_plain.specs.Promises.{AreFirstCalls, AreScriptsCalls}
use Rattle.sg_plain.specs.Script.{arg_fits, args_fit, call_fits, calls_fit, desc_among, values_of}
use Rattle.sg_plain.specs.sg_script.declared.script.Arg.{Arg}
use Rattle.sg_plain.specs.sg_script.declared.script.Arg.TheVariants.{Number, Text, Back}
use Rattle.sg_plain.specs.sg_script.declared.script.Script.{Script}
use Rattle.sg_plain.specs.sg_script.declared.script.ScriptCall.{ScriptCall}
use Rattle.sg_report.specs.sg_hist.Clients.{AreNumbered, calls_of}

-- ---- a call of a script

-- what arguments that fit come to are values of the kinds
values_fit : (own : List Entry) (n : ℕ) (kinds : List Kind) (args : List Arg) → args_fit n kinds args ≡ true → kinds_fit kinds (values_of own kinds args) ≡ true
values_fit own n [] [] fit = refl
values_fit own n [] (a ∷ args) fit = absurd (cc fit)
values_fit own n (k ∷ kinds) [] fit = absurd (cc fit)
values_fit own n (Desc ∷ kinds) (a ∷ args) fit = values_fit own n kinds args (both_true (arg_fits n Desc a) (args_fit n kinds args) fit).1
values_fit own n (Parent ∷ kinds) (a ∷ args) fit = values_fit own n kinds args (both_true (arg_fits n Parent a) (args_fit n kinds args) fit).1
values_fit own n (IsWord ∷ kinds) (Number m ∷ args) fit = values_fit own n kinds args (both_true (arg_fits n IsWord (Number m)) (args_fit n kinds args) fit).1
values_fit own n (IsWord ∷ kinds) (Back k ∷ args) fit = values_fit own n kinds args (both_true (arg_fits n IsWord (Back k)) (args_fit n kinds args) fit).1
values_fit own n (IsWord ∷ kinds) (Text t ∷ args) fit = absurd (cc fit)
values_fit own n (IsText ∷ kinds) (Text t ∷ args) fit = values_fit own n kinds args (both_true (arg_fits n IsText (Text t)) (args_fit n kinds args) fit).1
values_fit own n (IsText ∷ kinds) (Number m ∷ args) fit = absurd (cc fit)
values_fit own n (IsText ∷ kinds) (Back k ∷ args) fit = absurd (cc fit)

-- without a parameter for one there is no descriptor
no_desc : (own : List Entry) (kinds : List Kind) (args : List Arg) → list_any is_desc kinds ≡ false → list_any is_parent kinds ≡ false → desc_among own kinds args ≡ 0
no_desc own [] args none none' = refl
no_desc own (k ∷ kinds) [] none none' = refl
no_desc own (Desc ∷ kinds) (a ∷ args) none none' = absurd (cc none)
no_desc own (Parent ∷ kinds) (a ∷ args) none none' = absurd (cc none')
no_desc own (IsWord ∷ kinds) (a ∷ args) none none' = no_desc own kinds args none none'
no_desc own (IsText ∷ kinds) (a ∷ args) none none' = no_desc own kinds args none none'

-- a call that fits is one of the service's functions
is_call : (i : Declared) (history : List Entry) (client n : ℕ) (c : ScriptCall) → Fits i → call_fits i n c ≡ true → IsCall i.facts (resolved_by i.facts history client n c)
is_call i history client n c fits fit =
    let kinds = (fun_at i.facts.funs c.fun).kinds in
    let two = both_true (declares i c.fun) (args_fit n kinds c.args) fit in
    let first = (both_true (nat_le 1 c.fun) _ two.0).0 in
    record {
      first = grind (arith, nat_tests, first);
      last = fits.funs c.fun two.0;
      fits = record { args = values_fit (calls_of history client) n kinds c.args two.1; desc = λ no_d no_p. no_desc (calls_of history client) kinds c.args no_d no_p };
    }

-- ---- the calls of a client

-- the entry after a front is the next call of the script, which fits
record IsNext (i : Declared) (history : List Entry) (client n : ℕ) (e : Entry) : Type 0 where
  call : ScriptCall
  is : e.call ≡ resolved_by i.facts history client n call
  fits : call_fits i n call ≡ true

next_at : (i : Declared) (history : List Entry) (client n : ℕ) (front : List Entry) (e : Entry) (rest : List Entry) (calls : List ScriptCall)
    → AreFirstCalls i.facts history client n (front ++ e ∷ rest) calls → calls_fit i n calls ≡ true → IsNext i history client (n + length front) e
next_at i history client n [] e rest [] are fit = absurd are
next_at i history client n [] e rest (c ∷ calls) are fit =
    subst (λ m. IsNext i history client m e) (omega arith) (record { call = c; is = are.0; fits = (both_true (call_fits i n c) (calls_fit i (n + 1) calls) fit).0 })
next_at i history client n (x ∷ front) e rest [] are fit = absurd are
next_at i history client n (x ∷ front) e rest (c ∷ calls) are fit =
    subst (λ m. IsNext i history client m e) (omega arith) (next_at i history client (n + 1) front e rest calls are.1 (both_true (call_fits i n c) (calls_fit i (n + 1) calls) fit).1)

no_more : (facts : Facts) (history : List Entry) (client n : ℕ) (es : List Entry) (calls : List ScriptCall) → AreFirstCalls facts history client n es calls → length es ≤ length calls
no_more facts history client n [] calls are = omega arith
no_more facts history client n (e ∷ es) [] are = absurd are
no_more facts history client n (e ∷ es) (c ∷ calls) are = let rest = no_more facts history client (n + 1) es calls are.1 in omega (arith, rest)

-- what holds of each of some numbers holds of one that is among them
each_among : (P : ℕ → Type 0) (cs : List ℕ) (client : ℕ) → Each P cs → list_any (λ c. c == client) cs ≡ true → P client
each_among P [] client all among = absurd (cc among)
each_among P (c ∷ cs) client all among = by (c == client) refl among (each_among P cs client all.1)
  where
    by : (b : Bool) → (c == client) ≡ b → (b || list_any (λ x. x == client) cs) ≡ true → (list_any (λ x. x == client) cs ≡ true → P client) → P client
    by true is among rest = let same : c ≡ client = grind (arith, nat_tests, is) in subst P same all.0
    by false is among rest = rest among

all_at : (test : Entry → Bool) (before : List Entry) (e : Entry) (rest : List Entry) → list_all test (before ++ e ∷ rest) ≡ true → test e ≡ true
all_at test [] e rest all = (both_true (test e) (list_all test rest) all).0
all_at test (x ∷ before) e rest all = all_at test before e rest (both_true (test x) (list_all test (before ++ e ∷ rest)) all).1

module _ (i : Declared) (script : Script) (history : List Entry) (playable : IsPlayable i script) (calls : AreScriptsCalls i.facts script history) where
  -- each entry is its client's next call
  next_of : (before : List Entry) (e : Entry) (rest : List Entry) → history ≡ before ++ e ∷ rest → IsNext i history e.call.client (1 + length (calls_of before e.call.client)) e
  next_of before e rest is =
      let client = e.call.client in
      let among = all_at (λ x. list_any (λ c. c == x.call.client) (callers script)) before e rest (subst (λ h. list_all (λ x. list_any (λ c. c == x.call.client) (callers script)) h ≡ true) is calls.none_else) in
      let own : calls_of history client ≡ calls_of before client ++ e ∷ calls_of rest client
      = ap (λ h. calls_of h client) is ∙ filter-append (λ x. x.call.client == client) before (e ∷ rest)
      ∙ ap (λ b. calls_of before client ++ cond b (e ∷ calls_of rest client) (calls_of rest client)) (same_test client client refl) in
      let made = each_among (λ c. AreFirstCalls i.facts history c 1 (calls_of history c) (script_calls script c)) (callers script) client calls.each among in
      next_at i history client 1 (calls_of before client) e (calls_of rest client) (script_calls script client)
      (subst (λ l. AreFirstCalls i.facts history client 1 l (script_calls script client)) own made) (playable.fit client)

  numbered_after : (before rest : List Entry) → history ≡ before ++ rest → AreNumbered before rest
  numbered_after before [] is = tt
  numbered_after before (e ∷ rest) is =
      let next = next_of before e rest is in
      let seq = ap (λ c. c.seq) next.is in
      (omega (arith, seq), numbered_after (before ++ e ∷ []) rest (is ∙ sym (append_assoc before (e ∷ []) rest)))

  pub scripts_numbered : AreNumbered [] history
  scripts_numbered = numbered_after [] history refl

  calls_after : Fits i → (before rest : List Entry) → history ≡ before ++ rest → Each (λ e. IsCall i.facts e.call) rest
  calls_after fits before [] is = tt
  calls_after fits before (e ∷ rest) is =
      let next = next_of before e rest is in (
        subst (IsCall i.facts) (sym next.is) (is_call i history e.call.client (1 + length (calls_of before e.call.client)) next.call fits next.fits),
        calls_after fits (before ++ e ∷ []) rest (is ∙ sym (append_assoc before (e ∷ []) rest)),
      )

  pub scripts_are_calls : Fits i → Each (λ e. IsCall i.facts e.call) history
  scripts_are_calls fits = calls_after fits [] history refl

  -- ---- clients

  between : (n count : ℕ) → 1 ≤ n → n + count ≤ last_client + 1 → Each (λ c. (1 ≤ c) × (c ≤ last_client)) (ascending_from n count)
  between n zero low high = tt
  between n (suc count) low high = ((low, omega (arith, high)), between (n + 1) count (omega arith) (omega (arith, high)))

  each_left : (P : ℕ → Type 0) (test : ℕ → Bool) (ns : List ℕ) → Each P ns → Each P (filter test ns)
  each_left P test [] all = tt
  each_left P test (n ∷ ns) all = by (test n) (each_left P test ns all.1)
    where
      by : (b : Bool) → Each P (filter test ns) → Each P (cond b (n ∷ filter test ns) (filter test ns))
      by true rest = (all.0, rest)
      by false rest = rest

  clients_after : (before rest : List Entry) → list_all (λ e. list_any (λ c. c == e.call.client) (callers script)) rest ≡ true → most_client script.clients ≤ last_client
      → Each (λ e. (1 ≤ e.call.client) × (e.call.client ≤ last_client)) rest
  clients_after before [] all most = tt
  clients_after before (e ∷ rest) all most =
      let two = both_true (list_any (λ c. c == e.call.client) (callers script)) (list_all (λ x. list_any (λ c. c == x.call.client) (callers script)) rest) all in (
        each_among (λ c. (1 ≤ c) × (c ≤ last_client)) (callers script) e.call.client
            (each_left (λ c. (1 ≤ c) × (c ≤ last_client)) (λ c. not (length (script_calls script c) == 0)) (ascending_from 1 (most_client script.clients)) (between 1 (most_client script.clients) (omega arith) (omega (arith, most)))) two.0,
        clients_after (before ++ e ∷ []) rest two.1 most,
      )

  -- ---- how many

  -- the entries of clients, together
  abbrev count_of : List Entry → List ℕ → ℕ
  count_of h [] = 0
  count_of h (c ∷ cs) = length (calls_of h c) + count_of h cs

  -- an entry more of one of them
  count_more : (e : Entry) (h : List Entry) (cs : List ℕ) → count_of h cs ≤ count_of (e ∷ h) cs
  count_more e h [] = omega arith
  count_more e h (c ∷ cs) = by (e.call.client == c) (count_more e h cs)
    where
      by : (b : Bool) → count_of h cs ≤ count_of (e ∷ h) cs → length (calls_of h c) + count_of h cs ≤ length (cond b (e ∷ calls_of h c) (calls_of h c)) + count_of (e ∷ h) cs
      by true rest = omega (arith, rest)
      by false rest = omega (arith, rest)

  count_one : (e : Entry) (h : List Entry) (cs : List ℕ) → list_any (λ c. c == e.call.client) cs ≡ true → count_of h cs + 1 ≤ count_of (e ∷ h) cs
  count_one e h [] among = absurd (cc among)
  count_one e h (c ∷ cs) among = by (c == e.call.client) refl among (count_one e h cs) (count_more e h cs)
    where
      by : (b : Bool) → (c == e.call.client) ≡ b → (b || list_any (λ x. x == e.call.client) cs) ≡ true → (list_any (λ x. x == e.call.client) cs ≡ true → count_of h cs + 1 ≤ count_of (e ∷ h) cs)
          → count_of h cs ≤ count_of (e ∷ h) cs → count_of h (c ∷ cs) + 1 ≤ count_of (e ∷ h) (c ∷ cs)
      by true is among rest less =
          let same : c ≡ e.call.client = grind (arith, nat_tests, is) in
          let one : length (calls_of (e ∷ h) c) ≡ length (e ∷ calls_of h c) = ap (λ b. length (cond b (e ∷ calls_of h c) (calls_of h c))) (same_test e.call.client c (sym same)) in
          omega (arith, one, less)
      by false is among rest less =
          let one = rest among in
          let no_less = at (e.call.client == c) in
          omega (arith, one, no_less)
        where
          at : (b : Bool) → length (calls_of h c) ≤ length (cond b (e ∷ calls_of h c) (calls_of h c))
          at true = omega arith
          at false = omega arith

  all_counted : (cs : List ℕ) (h : List Entry) → list_all (λ e. list_any (λ c. c == e.call.client) cs) h ≡ true → length h ≤ count_of h cs
  all_counted cs [] all = omega arith
  all_counted cs (e ∷ h) all =
      let two = both_true (list_any (λ c. c == e.call.client) cs) (list_all (λ x. list_any (λ c. c == x.call.client) cs) h) all in
      let one = count_one e h cs two.0 in
      let rest = all_counted cs h two.1 in
      omega (arith, one, rest)

  few_of : (cs : List ℕ) → Each (λ c. AreFirstCalls i.facts history c 1 (calls_of history c) (script_calls script c)) cs → count_of history cs ≤ length cs * most_script_calls
  few_of [] each = omega arith
  few_of (c ∷ cs) each =
      let own = no_more i.facts history c 1 (calls_of history c) (script_calls script c) each.0 in
      let most = playable.few c in
      let rest = few_of cs each.1 in
      omega (arith, own, most, rest)

  few_left : (test : ℕ → Bool) (ns : List ℕ) → length (filter test ns) ≤ length ns
  few_left test [] = omega arith
  few_left test (n ∷ ns) = by (test n) (few_left test ns)
    where
      by : (b : Bool) → length (filter test ns) ≤ length ns → length (cond b (n ∷ filter test ns) (filter test ns)) ≤ length (n ∷ ns)
      by true rest = omega (arith, rest)
      by false rest = omega (arith, rest)

  length_ascending : (n count : ℕ) → length (ascending_from n count) ≡ count
  length_ascending n zero = refl
  length_ascending n (suc count) = ap suc (length_ascending (n + 1) count)

  last_few : (above : ℕ) (clients : List (ℕ × List ScriptCall)) → AreClients above clients → most_client clients ≤ last_client
  last_few above [] are = omega arith
  last_few above (c ∷ []) are = are.1
  last_few above (c ∷ d ∷ clients) are = last_few c.0 (d ∷ clients) are.2

  pub scripts_few : length history ≤ most_entries
  scripts_few =
      let counted = all_counted (callers script) history calls.none_else in
      let most = few_of (callers script) calls.each in
      let left = few_left (λ c. not (length (script_calls script c) == 0)) (ascending_from 1 (most_client script.clients)) in
      let long = length_ascending 1 (most_client script.clients) in
      let last = last_few 0 script.clients playable.clients in
      omega (arith, counted, most, left, long, last)

  together : (es : List Entry) → Each (λ e. IsCall i.facts e.call) es → Each (λ e. (1 ≤ e.call.client) × (e.call.client ≤ last_client)) es → Each (λ e. IsClients i.facts e.call) es
  together [] are its = tt
  together (e ∷ es) are its = ((are.0, its.0.0, its.0.1), together es are.1 its.1)

  pub scripts_are_clients : Fits i → Each (λ e. IsClients i.facts e.call) history
  scripts_are_clients fits = together history (scripts_are_calls fits) (clients_after [] history calls.none_else (last_few 0 script.clients playable.clients))
