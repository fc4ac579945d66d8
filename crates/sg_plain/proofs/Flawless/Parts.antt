-- Calls in which nothing is wrong fit the interface.
use Rattle.std.proofs.Common.{◌≡◌, ◌⊎◌, inl, inr, ℕ, ◌+◌, Bool, true, false, not, List, [], ◌∷◌, None, Some, cond, map, refl, sym, ◌∙◌, ap, subst}
use Rattle.std.specs.Prelude.{◌&&◌, nat_le, nat_lt, unwrap_or}
use Rattle.std.specs.Option.{option_map_or}
use Rattle.std.specs.Str.{bytes_eq}
use Rattle.std.specs.declared.option.Option.{Option}
use Rattle.std.specs.List.{list_all}
use Rattle.sg_facts.specs.declared.shape.Kind.{Kind}
use Rattle.sg_facts.specs.declared.shape.Kind.TheVariants.{Desc, Parent, Word, Text as IsText}
use Rattle.sg_facts.specs.Facts.{Fun, fun_at}
use Rattle.sg_facts.specs.Interface.{Declared, declares}
use Rattle.sg_plain.specs.Script.{args_fit, call_fits, calls_fit}
use Rattle.sg_script.specs.sg_script_parse.declared.tree.WrittenArg.{WrittenArg}
use Rattle.sg_script.specs.sg_script_parse.declared.tree.WrittenArg.TheVariants.{Number, Text, Back}
use Rattle.sg_script.specs.sg_script_parse.declared.tree.WrittenCall.{WrittenCall}
use Rattle.sg_script.specs.declared.fault.ScriptKind.TheVariants.{Blocking}
use Rattle.sg_script.specs.declared.script.ScriptCall.{ScriptCall}
use Rattle.sg_script.specs.Numbers.{counts_as}
use Rattle.sg_script.specs.Scripts.{script_call_of, declared_fun, declared_from}
use Rattle.sg_script.specs.Inside.Parts.{arg_of, fun_flaws}
use Rattle.sg_script.specs.Flaws.{written_args_fit as written_fit, call_flaws, calls_before, calls_flaws}
use Rattle.sg_script.proofs.Held.{back_none, both, front_none, is_true, not_flawed}

-- ---- calls

-- arguments fit as they are written, and as they stand
same_fit : (own : ℕ) (kinds : List Kind) (args : List WrittenArg) → args_fit own kinds (map arg_of args) ≡ written_fit own kinds args
same_fit own [] [] = refl
same_fit own [] (a ∷ args) = refl
same_fit own (k ∷ kinds) [] = refl
same_fit own (IsText ∷ kinds) (Text t ∷ args) = same_fit own kinds args
same_fit own (IsText ∷ kinds) (Number n ∷ args) = refl
same_fit own (IsText ∷ kinds) (Back n ∷ args) = refl
same_fit own (Desc ∷ kinds) (Text t ∷ args) = refl
same_fit own (Desc ∷ kinds) (Number n ∷ args) = same_fit own kinds args
same_fit own (Desc ∷ kinds) (Back n ∷ args) = ap (λ v. nat_le 1 (counts_as n.bytes) && nat_lt (counts_as n.bytes) own && v) (same_fit own kinds args)
same_fit own (Parent ∷ kinds) (Text t ∷ args) = refl
same_fit own (Parent ∷ kinds) (Number n ∷ args) = same_fit own kinds args
same_fit own (Parent ∷ kinds) (Back n ∷ args) = ap (λ v. nat_le 1 (counts_as n.bytes) && nat_lt (counts_as n.bytes) own && v) (same_fit own kinds args)
same_fit own (Word ∷ kinds) (Text t ∷ args) = refl
same_fit own (Word ∷ kinds) (Number n ∷ args) = same_fit own kinds args
same_fit own (Word ∷ kinds) (Back n ∷ args) = ap (λ v. nat_le 1 (counts_as n.bytes) && nat_lt (counts_as n.bytes) own && v) (same_fit own kinds args)

pick : (b : Bool) (n f : ℕ) (rest : Option ℕ) → cond b (Some n) rest ≡ Some f → ((b ≡ true) × (n ≡ f)) ⊎ (rest ≡ Some f)
pick true n f rest e = inl (refl, let g : n ≡ f = cc in g)
pick false n f rest e = inr e

pub right : (a b : Bool) → a && b ≡ true → b ≡ true
right true b e = e
right false b e = absurd cc

pub left : (a b : Bool) → a && b ≡ true → a ≡ true
left true b e = refl
left false b e = absurd cc

-- a function that is found by its name is declared
found_declared : (i : Declared) (name : List ℕ) (n : ℕ) (funs : List Fun) (f : ℕ) → declared_from i name n funs ≡ Some f → declares i f ≡ true
found_declared i name n [] f e = absurd cc
found_declared i name n (g ∷ funs) f e =
    by (pick (bytes_eq g.name name && declares i n) n f (declared_from i name (n + 1) funs) e) (found_declared i name (n + 1) funs f)
  where
    by : ((bytes_eq g.name name && declares i n ≡ true) × (n ≡ f)) ⊎ (declared_from i name (n + 1) funs ≡ Some f)
        → (declared_from i name (n + 1) funs ≡ Some f → declares i f ≡ true) → declares i f ≡ true
    by (inl (is, same)) later = subst (λ v. declares i v ≡ true) same (right (bytes_eq g.name name) (declares i n) is)
    by (inr found) later = later found

-- what a call without a flaw comes to fits, and in a setup it doesn't wait
pub record IsGoodCall (i : Declared) (in_setup : Bool) (own : ℕ) (c : ScriptCall) : Type 0 where
  pub fits : call_fits i own c ≡ true
  pub goes : in_setup ≡ true → not (fun_at i.facts.funs c.fun).block ≡ true

pub fun_fits : (i : Declared) (in_setup : Bool) (own : ℕ) (c : WrittenCall) (found : Option ℕ) → declared_fun i c.name.bytes ≡ found → fun_flaws in_setup own c (option_map_or (λ f. Some (fun_at i.facts.funs f)) found None) ≡ []
    → IsGoodCall i in_setup own (script_call_of i c)
fun_fits i in_setup own c None is e = absurd cc
fun_fits i in_setup own c (Some f) is e =
    let fit = is_true _ (not_flawed _ _ _ (front_none _ _ e)) in
    let n : unwrap_or (declared_fun i c.name.bytes) 0 ≡ f = ap (λ v. unwrap_or v 0) is in
    record {
      fits = ap (λ v. declares i v && args_fit own (fun_at i.facts.funs v).kinds (map arg_of c.args)) n
          ∙ both (declares i f) _ (found_declared i c.name.bytes 1 i.facts.funs f is) (same_fit own (fun_at i.facts.funs f).kinds c.args ∙ fit);
      goes = λ setup. ap (λ v. not (fun_at i.facts.funs v).block) n ∙ by (fun_at i.facts.funs f).block (ap (λ s. s && (fun_at i.facts.funs f).block) (sym setup) ∙ not_flawed _ Blocking c.name.at (back_none _ _ e));
    }
  where
    by : (b : Bool) → true && b ≡ false → not b ≡ true
    by true is = absurd (cc is)
    by false is = refl

call_good : (i : Declared) (in_setup : Bool) (nth own : ℕ) (c : WrittenCall) → call_flaws (i ∷ []) in_setup nth own c ≡ [] → IsGoodCall i in_setup own (script_call_of i c)
call_good i in_setup nth own c e = fun_fits i in_setup own c (declared_fun i c.name.bytes) refl (front_none _ _ (front_none _ _ e))

pub calls_all_fit : (i : Declared) (in_setup : Bool) (nth own : ℕ) (calls : List WrittenCall) → calls_flaws (i ∷ []) in_setup nth own calls ≡ []
    → calls_fit i own (map (script_call_of i) calls) ≡ true
calls_all_fit i in_setup nth own [] e = refl
calls_all_fit i in_setup nth own (c ∷ calls) e =
    both (call_fits i own (script_call_of i c)) _ (call_good i in_setup nth own c (front_none _ _ e)).fits (calls_all_fit i in_setup (nth + 1) (own + 1) calls (back_none _ _ e))

pub calls_all_go : (i : Declared) (nth own : ℕ) (calls : List WrittenCall) → calls_flaws (i ∷ []) true nth own calls ≡ []
    → list_all (λ (c : ScriptCall). not (fun_at i.facts.funs c.fun).block) (map (script_call_of i) calls) ≡ true
calls_all_go i nth own [] e = refl
calls_all_go i nth own (c ∷ calls) e =
    both (not (fun_at i.facts.funs (script_call_of i c).fun).block) _ ((call_good i true nth own c (front_none _ _ e)).goes refl) (calls_all_go i (nth + 1) (own + 1) calls (back_none _ _ e))

-- the calls of a client fit, after so many setup calls
abbrev pub Fit : Declared → ℕ → ℕ × List ScriptCall → Type 0
Fit i setup c = calls_fit i (calls_before setup c.0 + 1) c.1 ≡ true
