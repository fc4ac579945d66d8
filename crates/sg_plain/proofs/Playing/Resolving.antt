-- A call of a script comes to the same when the history grows, since `$k` names an earlier call of its client.
use Rattle.std.proofs.Common.{◌≡◌, ℕ, zero, suc, ◌+◌, ◌<◌, ◌≤◌, true, List, [], ◌∷◌, ◌++◌, Some, length, refl, sym, ◌∙◌, ap, subst, arith}
use Rattle.std.specs.Prelude.{slice_get}
use Rattle.std.proofs.lemmas.Bool.{and_parts}
use Rattle.std.proofs.lemmas.Bool.Decides.{nat_tests}
use Rattle.sg_facts.specs.sg_base.declared.call.Call.{Call}
use Rattle.sg_facts.specs.sg_base.declared.value.Value.TheVariants.{Word}
use Rattle.sg_facts.specs.declared.entry.Entry.{Entry}
use Rattle.sg_facts.specs.declared.shape.Kind.{Kind}
use Rattle.sg_facts.specs.declared.shape.Kind.TheVariants.{Desc, Parent, Word as IsWord, Text as IsText}
use Rattle.sg_facts.specs.Facts.{Facts, fun_at}
use Rattle.sg_facts.specs.Interface.{Declared, declares}
use Rattle.sg_clients.specs.sg_hist.Clients.{calls_of}
use Rattle.sg_clients.specs.sg_hist.Reading.{desc_in}
use Rattle.sg_plain.specs.Calls.{resolved_by}
use Rattle.sg_plain.specs.Promises.{AreFirstCalls}
use Rattle.sg_script.specs.declared.script.Arg.{Arg}
use Rattle.sg_script.specs.declared.script.Arg.TheVariants.{Number, Text, Back}
use Rattle.sg_script.specs.declared.script.ScriptCall.{ScriptCall}
use Rattle.sg_plain.specs.Script.{arg_fits, arg_value, args_fit, call_fits, calls_fit, desc_among, id_of_call, value_of, values_of}

-- what a call comes to by its client's own entries
abbrev pub resolved_on : Facts → List Entry → ℕ → ℕ → ScriptCall → Call
resolved_on facts own client seq c = record {
  client = client;
  seq = seq;
  fun = c.fun;
  desc = desc_among own (fun_at facts.funs c.fun).kinds c.args;
  args = values_of own (fun_at facts.funs c.fun).kinds c.args;
}

get_grown : (own : List Entry) (e : Entry) (k : ℕ) → k < length own → slice_get (own ++ e ∷ []) k ≡ slice_get own k
get_grown [] e k within = absurd (omega (arith, within))
get_grown (x ∷ own) e zero within = refl
get_grown (x ∷ own) e (suc k) within = get_grown own e k (omega (arith, within))

id_grown : (own : List Entry) (e : Entry) (k : ℕ) → k ≤ length own → id_of_call (own ++ e ∷ []) k ≡ id_of_call own k
id_grown own e zero within = refl
id_grown own e (suc k) within = ap desc_in (get_grown own e k (omega (arith, within)))

-- `$k` names an earlier call
back_below : (n : ℕ) (kind : Kind) (k : ℕ) → arg_fits n kind (Back k) ≡ true → k < n
back_below n Desc k fits = grind (arith, nat_tests)
back_below n Parent k fits = grind (arith, nat_tests)
back_below n IsWord k fits = grind (arith, nat_tests)
back_below n IsText k fits = absurd (cc fits)

module _ (own : List Entry) (e : Entry) (n : ℕ) (within : n ≤ length own + 1) where
  arg_grown : (kind : Kind) (a : Arg) → arg_fits n kind a ≡ true → arg_value (own ++ e ∷ []) a ≡ arg_value own a
  arg_grown kind (Number m) fits = refl
  arg_grown kind (Text t) fits = refl
  arg_grown kind (Back k) fits = id_grown own e k (omega (arith, within, back_below n kind k fits))

  value_grown : (kind : Kind) (a : Arg) → arg_fits n kind a ≡ true → value_of (own ++ e ∷ []) a ≡ value_of own a
  value_grown kind (Number m) fits = refl
  value_grown kind (Text t) fits = refl
  value_grown kind (Back k) fits = ap (λ m. Word m) (id_grown own e k (omega (arith, within, back_below n kind k fits)))

  desc_grown : (kinds : List Kind) (args : List Arg) → args_fit n kinds args ≡ true → desc_among (own ++ e ∷ []) kinds args ≡ desc_among own kinds args
  desc_grown [] args fits = refl
  desc_grown (k ∷ kinds) [] fits = refl
  desc_grown (Desc ∷ kinds) (a ∷ args) fits = arg_grown Desc a (and_parts _ _ fits).0
  desc_grown (Parent ∷ kinds) (a ∷ args) fits = arg_grown Parent a (and_parts _ _ fits).0
  desc_grown (IsWord ∷ kinds) (a ∷ args) fits = desc_grown kinds args (and_parts (arg_fits n IsWord a) _ fits).1
  desc_grown (IsText ∷ kinds) (a ∷ args) fits = desc_grown kinds args (and_parts (arg_fits n IsText a) _ fits).1

  values_grown : (kinds : List Kind) (args : List Arg) → args_fit n kinds args ≡ true → values_of (own ++ e ∷ []) kinds args ≡ values_of own kinds args
  values_grown [] args fits = refl
  values_grown (k ∷ kinds) [] fits = refl
  values_grown (Desc ∷ kinds) (a ∷ args) fits = values_grown kinds args (and_parts (arg_fits n Desc a) _ fits).1
  values_grown (Parent ∷ kinds) (a ∷ args) fits = values_grown kinds args (and_parts (arg_fits n Parent a) _ fits).1
  values_grown (IsWord ∷ kinds) (a ∷ args) fits =
      ap (λ v. v ∷ values_of (own ++ e ∷ []) kinds args) (value_grown IsWord a (and_parts _ _ fits).0)
      ∙ ap (λ vs. value_of own a ∷ vs) (values_grown kinds args (and_parts (arg_fits n IsWord a) _ fits).1)
  values_grown (IsText ∷ kinds) (a ∷ args) fits =
      ap (λ v. v ∷ values_of (own ++ e ∷ []) kinds args) (value_grown IsText a (and_parts _ _ fits).0)
      ∙ ap (λ vs. value_of own a ∷ vs) (values_grown kinds args (and_parts (arg_fits n IsText a) _ fits).1)

  resolved_grown : (i : Declared) (client seq : ℕ) (c : ScriptCall) → call_fits i n c ≡ true → resolved_on i.facts (own ++ e ∷ []) client seq c ≡ resolved_on i.facts own client seq c
  resolved_grown i client seq c fits =
      let kinds = (fun_at i.facts.funs c.fun).kinds in
      let args = (and_parts (declares i c.fun) (args_fit n kinds c.args) fits).1 in
      ap (λ d. record { client = client; seq = seq; fun = c.fun; desc = d; args = values_of (own ++ e ∷ []) kinds c.args }) (desc_grown kinds c.args args)
      ∙ ap (λ vs. record { client = client; seq = seq; fun = c.fun; desc = desc_among own kinds c.args; args = vs }) (values_grown kinds c.args args)

-- ---- the first calls of a client

-- they are as they were where its own entries are
pub first_same : (facts : Facts) (history now : List Entry) (client seq : ℕ) (es : List Entry) (calls : List ScriptCall) → calls_of now client ≡ calls_of history client
    → AreFirstCalls facts history client seq es calls → AreFirstCalls facts now client seq es calls
first_same facts history now client seq [] calls same are = tt
first_same facts history now client seq (e ∷ es) [] same are = absurd are
first_same facts history now client seq (e ∷ es) (c ∷ calls) same are =
    (are.0 ∙ ap (λ own. resolved_on facts own client seq c) (sym same), first_same facts history now client (seq + 1) es calls same are.1)

-- and where it has one more
pub first_grown : (i : Declared) (history now : List Entry) (x : Entry) (client seq : ℕ) (es : List Entry) (calls : List ScriptCall)
    → calls_of now client ≡ calls_of history client ++ x ∷ [] → calls_fit i seq calls ≡ true → seq + length es ≤ length (calls_of history client) + 1
    → AreFirstCalls i.facts history client seq es calls → AreFirstCalls i.facts now client seq es calls
first_grown i history now x client seq [] calls grown fit within are = tt
first_grown i history now x client seq (e ∷ es) [] grown fit within are = absurd are
first_grown i history now x client seq (e ∷ es) (c ∷ calls) grown fit within are =
    let both = and_parts (call_fits i seq c) (calls_fit i (seq + 1) calls) fit in (
      are.0 ∙ sym (resolved_grown (calls_of history client) x seq (omega (arith, within)) i client seq c both.0) ∙ ap (λ own. resolved_on i.facts own client seq c) (sym grown),
      first_grown i history now x client (seq + 1) es calls grown both.1 (omega (arith, within)) are.1,
    )

-- the next of them is entered
pub first_more : (facts : Facts) (history : List Entry) (client seq : ℕ) (es : List Entry) (calls : List ScriptCall) (e : Entry) (c : ScriptCall)
    → AreFirstCalls facts history client seq es calls → slice_get calls (length es) ≡ Some c → e.call ≡ resolved_by facts history client (seq + length es) c
    → AreFirstCalls facts history client seq (es ++ e ∷ []) calls
first_more facts history client seq [] [] e c are there is = absurd (cc there)
first_more facts history client seq [] (d ∷ calls) e c are there is =
    let same : d ≡ c = cc there in
    (is ∙ ap (λ n. resolved_by facts history client n c) (omega arith) ∙ ap (λ x. resolved_by facts history client seq x) (sym same), tt)
first_more facts history client seq (x ∷ es) [] e c are there is = absurd are
first_more facts history client seq (x ∷ es) (d ∷ calls) e c are there is =
    (are.0, first_more facts history client (seq + 1) es calls e c are.1 there (is ∙ ap (λ n. resolved_by facts history client n c) (omega arith)))

-- the call of a number fits
pub fits_at : (i : Declared) (n : ℕ) (calls : List ScriptCall) (k : ℕ) (c : ScriptCall) → calls_fit i n calls ≡ true → slice_get calls k ≡ Some c → call_fits i (n + k) c ≡ true
fits_at i n [] k c fit there = absurd (cc there)
fits_at i n (d ∷ calls) zero c fit there =
    let same : d ≡ c = cc there in
    subst (λ x. call_fits i (n + 0) x ≡ true) same (subst (λ m. call_fits i m d ≡ true) (omega arith) (and_parts (call_fits i n d) (calls_fit i (n + 1) calls) fit).0)
fits_at i n (d ∷ calls) (suc k) c fit there =
    subst (λ m. call_fits i m c ≡ true) (omega arith) (fits_at i (n + 1) calls k c (and_parts (call_fits i n d) (calls_fit i (n + 1) calls) fit).1 there)

-- and what it comes to does so by its client's entries, one more of them or not
pub resolved_more : (i : Declared) (history now : List Entry) (x : Entry) (client seq : ℕ) (c : ScriptCall) → calls_of now client ≡ calls_of history client ++ x ∷ []
    → seq ≤ length (calls_of history client) + 1 → call_fits i seq c ≡ true → resolved_by i.facts now client seq c ≡ resolved_by i.facts history client seq c
resolved_more i history now x client seq c grown within fits =
    ap (λ own. resolved_on i.facts own client seq c) grown ∙ resolved_grown (calls_of history client) x seq within i client seq c fits
