-- A script that was read for several interfaces, and in which nothing is wrong, may be played over their services.
use Rattle.std.proofs.Common.{◌≡◌, ◌⊎◌, inl, inr, ℕ, suc, ◌+◌, ◌-◌, ◌≤◌, Bool, true, false, not, List, [], ◌∷◌, ◌++◌, None, Some, Ok, cond, length, map, slice_get, refl, sym, ◌∙◌, ap, subst, arith}
use Rattle.std.proofs.lemmas.List.{length-map}
use Rattle.std.proofs.lemmas.List.FromFn.{length-map-range_with_len}
use Rattle.std.specs.Prelude.{◌==◌, filter, unwrap_or}
use Rattle.std.specs.declared.option.Option.{Option}
use Rattle.std.specs.Option.{option_map_or}
use Rattle.std.specs.List.{flat_map, range_with_len}
use Rattle.sg_multi.specs.sg_edge.Stops.{AscendsAbove}
use Rattle.sg_facts.specs.sg_base.Lists.{Each}
use Rattle.sg_facts.specs.Facts.{fun_at}
use Rattle.sg_facts.specs.Interface.{Declared}
use Rattle.sg_multi.specs.sg_sim.sg_plain.Calls.{part_of}
use Rattle.sg_script.specs.sg_script_parse.declared.tree.WrittenCall.{WrittenCall}
use Rattle.sg_script.specs.declared.multi.MultiCall.{MultiCall}
use Rattle.sg_script.specs.declared.multi.MultiScript.{MultiScript}
use Rattle.sg_script.specs.Flaws.{call_flaws, calls_before, calls_flaws}
use Rattle.sg_script.specs.Inside.Parts.{fun_flaws}
use Rattle.sg_script.specs.Reads.{IsMultiReadingOf}
use Rattle.sg_script.specs.Scripts.{calls_of_setup, clients_of, declared_fun, found_from, function_named, is_stop_of, most_members, multi_call_of, script_args, script_call_of, stops_of}
use Rattle.sg_script.proofs.Held.{back_none, front_none}
use Rattle.sg_multi.proofs.sg_sim.sg_plain.Flawless.Clients.{IsRead, calls_few, clients_read, of_part}
use Rattle.sg_multi.proofs.sg_sim.sg_plain.Flawless.Once.{IsFlawlessSetup, all_turns, setup_flawless, stops_ascending}
use Rattle.sg_multi.proofs.sg_sim.sg_plain.Flawless.Parts.{IsGoodCall, fun_fits}
use Rattle.sg_multi.specs.Playable.{AllFit, FitsMember, IsMultiPlayable, MayNotWait}

-- ---- the member of a call

-- the first of some members that declares a function of a name, with its place, from 0, and the function's number there
record IsFound (members : List Declared) (first : ℕ) (name : List ℕ) : Type 0 where
  iface : Declared
  place : ℕ
  fun : ℕ
  found : found_from first members name ≡ Some (first + place, fun)
  there : slice_get members place ≡ Some iface
  declared : declared_fun iface name ≡ Some fun
  named : function_named members name ≡ Some (fun_at iface.facts.funs fun)

find_in : (members : List Declared) (first : ℕ) (name : List ℕ) → (function_named members name ≡ None) ⊎ IsFound members first name
find_in [] first name = inl refl
find_in (i ∷ members) first name = by (declared_fun i name) refl (find_in members (first + 1) name)
  where
    found : (o : Option ℕ) → declared_fun i name ≡ o → found_from first (i ∷ members) name ≡ option_map_or (λ f. Some (first, f)) o (found_from (first + 1) members name)
    found o is = ap (λ v. option_map_or (λ f. Some (first, f)) v (found_from (first + 1) members name)) is

    named : (o : Option ℕ) → declared_fun i name ≡ o → function_named (i ∷ members) name ≡ option_map_or (λ f. Some (fun_at i.facts.funs f)) o (function_named members name)
    named o is = ap (λ v. option_map_or (λ f. Some (fun_at i.facts.funs f)) v (function_named members name)) is

    by : (o : Option ℕ) → declared_fun i name ≡ o → (function_named members name ≡ None) ⊎ IsFound members (first + 1) name
        → (function_named (i ∷ members) name ≡ None) ⊎ IsFound (i ∷ members) first name
    by (Some f) is rest = inr (record {
      iface = i;
      place = 0;
      fun = f;
      found = found (Some f) is ∙ ap (λ n. Some (n, f)) (let same : first ≡ first + 0 = omega arith in same);
      there = refl;
      declared = is;
      named = named (Some f) is;
    })
    by None is (inl none) = inl (named None is ∙ none)
    by None is (inr at) = inr (record {
      iface = at.iface;
      place = suc at.place;
      fun = at.fun;
      found = found None is ∙ at.found ∙ ap (λ n. Some (n, at.fun)) (let same : first + 1 + at.place ≡ first + suc at.place = omega arith in same);
      there = at.there;
      declared = at.declared;
      named = named None is ∙ at.named;
    })

-- ---- calls

-- the call of a member, from 1, and of the function of a number, with the arguments of a written call
abbrev made_of : WrittenCall → ℕ × ℕ → MultiCall
made_of c found = record { member = found.0; call = record { fun = found.1; args = script_args c.args } }

-- what a call without a flaw comes to is of a member and fits its interface, and in a setup it doesn't wait
record IsGoodMultiCall (members : List Declared) (in_setup : Bool) (own : ℕ) (c : MultiCall) : Type 0 where
  fits : FitsMember members own c
  goes : in_setup ≡ true → MayNotWait members c

call_good : (members : List Declared) (in_setup : Bool) (nth own : ℕ) (c : WrittenCall) → call_flaws members in_setup nth own c ≡ [] → IsGoodMultiCall members in_setup own (multi_call_of members c)
call_good members in_setup nth own c none = by (find_in members 1 c.name.bytes)
  where
    unknown : fun_flaws in_setup own c None ≡ [] → ⊥
    unknown none = cc none

    by_function : fun_flaws in_setup own c (function_named members c.name.bytes) ≡ []
    by_function = front_none _ _ (front_none _ _ none)

    by : (function_named members c.name.bytes ≡ None) ⊎ IsFound members 1 c.name.bytes → IsGoodMultiCall members in_setup own (multi_call_of members c)
    by (inl isn't) = absurd (unknown (subst (λ o. fun_flaws in_setup own c o ≡ []) isn't by_function))
    by (inr at) =
        let good : IsGoodCall at.iface in_setup own (script_call_of at.iface c) =
        fun_fits at.iface in_setup own c (Some at.fun) at.declared (subst (λ o. fun_flaws in_setup own c o ≡ []) at.named by_function) in
        subst (IsGoodMultiCall members in_setup own) (sym made) (record {
          fits = record { iface = at.iface; first = omega arith; there = ap (slice_get members) (let same : 1 + at.place - 1 ≡ at.place = omega arith in same) ∙ at.there; fits = good.fits };
          goes = λ setup i there. subst (λ (j : Declared). not (fun_at j.facts.funs (script_call_of at.iface c).fun).block ≡ true) (same i there) (good.goes setup);
        })
      where
        made : multi_call_of members c ≡ made_of c (1 + at.place, (script_call_of at.iface c).fun)
        made = ap (λ o. made_of c (unwrap_or o (0, 0))) at.found ∙ ap (λ o. made_of c (1 + at.place, unwrap_or o 0)) (sym at.declared)

        same : (i : Declared) → slice_get members (1 + at.place - 1) ≡ Some i → at.iface ≡ i
        same i there =
            let both : Some at.iface ≡ Some i = sym at.there ∙ ap (slice_get members) (let same : at.place ≡ 1 + at.place - 1 = omega arith in same) ∙ there in
            let it : at.iface ≡ i = cc both in it

all_fit : (members : List Declared) (in_setup : Bool) (nth own : ℕ) (calls : List WrittenCall) → calls_flaws members in_setup nth own calls ≡ [] → AllFit members own (map (multi_call_of members) calls)
all_fit members in_setup nth own [] none = tt
all_fit members in_setup nth own (c ∷ calls) none =
    ((call_good members in_setup nth own c (front_none _ (calls_flaws members in_setup (nth + 1) (own + 1) calls) none)).fits, all_fit members in_setup (nth + 1) (own + 1) calls (back_none (call_flaws members in_setup nth own c) _ none))

all_go : (members : List Declared) (nth own : ℕ) (calls : List WrittenCall) → calls_flaws members true nth own calls ≡ [] → Each (MayNotWait members) (map (multi_call_of members) calls)
all_go members nth own [] none = tt
all_go members nth own (c ∷ calls) none =
    ((call_good members true nth own c (front_none _ (calls_flaws members true (nth + 1) (own + 1) calls) none)).goes refl, all_go members (nth + 1) (own + 1) calls (back_none (call_flaws members true nth own c) _ none))

all_fit_two : (members : List Declared) (n : ℕ) (xs ys : List MultiCall) → AllFit members n xs → AllFit members (length xs + n) ys → AllFit members n (xs ++ ys)
all_fit_two members n [] ys one two = subst (λ m. AllFit members m ys) (omega arith) two
all_fit_two members n (x ∷ xs) ys one two = (one.0, all_fit_two members (n + 1) xs ys one.1 (subst (λ m. AllFit members m ys) (omega arith) two))

-- ---- the script

-- what is made of numbers is so for each, where it is so for any number
each_made : (P : List ℕ → Type 0) (make : ℕ → List ℕ) → ((n : ℕ) → P (make n)) → (ns : List ℕ) → Each P (map make ns)
each_made P make all [] = tt
each_made P make all (n ∷ ns) = (all n, each_made P make all ns)

-- a script that was read for several interfaces may be played
pub multi_playable : (members : List Declared) (text : List ℕ) (script : MultiScript) → length members ≤ most_members → IsMultiReadingOf members text (Ok script) → IsMultiPlayable members script
multi_playable members text script most is = subst (IsMultiPlayable members) (sym is.3) (record {
  fit = fit;
  few = calls_few members (multi_call_of members) is.0 is.2;
  clients = read.ascend;
  setup = all_go members setup.0 1 (flat_map calls_of_setup is.0) setup.1;
  turns = all_turns members (length (flat_map calls_of_setup is.0)) [] is.0 is.2;
  members = length-map-range_with_len (λ m. stops_of (filter (is_stop_of members m) is.0)) 0 (length members);
  at_most = most;
  stops = each_made (AscendsAbove 0) (λ m. stops_of (filter (is_stop_of members m) is.0)) (stops_ascending members is.0 is.2) (range_with_len 0 (length members));
})
  where
    setup : IsFlawlessSetup members is.0
    setup = setup_flawless members is.0 is.2

    -- a client's calls fit, where those of a setup come before client 1's
    IsFit : ℕ × List MultiCall → Type 0
    IsFit c = AllFit members (calls_before (length (flat_map calls_of_setup is.0)) c.0 + 1) c.1

    read : IsRead IsFit is.0 (clients_of (multi_call_of members) is.0)
    read = clients_read members (multi_call_of members) is.0 is.2 IsFit
        (λ n nth calls none. all_fit members false nth (calls_before (length (flat_map calls_of_setup is.0)) n + 1) calls none)

    fit : (client : ℕ) → AllFit members 1 (cond (client == 1) (map (multi_call_of members) (flat_map calls_of_setup is.0)) [] ++ part_of client (clients_of (multi_call_of members) is.0))
    fit client = by (client == 1) (of_part IsFit client (clients_of (multi_call_of members) is.0) tt read.good)
      where
        by : (b : Bool) → AllFit members (cond b (length (flat_map calls_of_setup is.0)) 0 + 1) (part_of client (clients_of (multi_call_of members) is.0))
            → AllFit members 1 (cond b (map (multi_call_of members) (flat_map calls_of_setup is.0)) [] ++ part_of client (clients_of (multi_call_of members) is.0))
        by true own =
            all_fit_two members 1 (map (multi_call_of members) (flat_map calls_of_setup is.0)) (part_of client (clients_of (multi_call_of members) is.0))
            (all_fit members true setup.0 1 (flat_map calls_of_setup is.0) setup.1)
            (subst (λ m. AllFit members (m + 1) (part_of client (clients_of (multi_call_of members) is.0))) (sym (length-map (flat_map calls_of_setup is.0) (multi_call_of members))) own)
        by false own = subst (λ m. AllFit members m (part_of client (clients_of (multi_call_of members) is.0))) (omega arith) own
