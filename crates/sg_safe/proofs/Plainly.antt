-- What a description keeps to by itself.
use Rattle.std.proofs.Common.{◌≡◌, ℕ, zero, suc, ◌≤◌, true, length, None, Some, refl, ap, subst, arith}
use Rattle.std.specs.Prelude.{◌&&◌, nat_le, nat_lt, slice_get, unwrap_or}
use Rattle.std.specs.List.{list_all}
use Rattle.std.specs.declared.option.Option.{Option}
use Rattle.std.proofs.lemmas.Bool.Decides.{nat_tests}
use Rattle.std.proofs.lemmas.Option.{slice_get_within}
use Rattle.sg_known.specs.sg_facts.Allowed.{acts_on_one, each_replays_well, is_allowed, keeps_private, keeps_to, replays_all, steps_make_none}
use Rattle.sg_known.specs.sg_facts.Facts.{Facts, Fun, fun_at, no_fun}
use Rattle.sg_known.specs.sg_described.Described.{Described}
use Rattle.sg_known.specs.sg_described.Known.{greatest}
use Rattle.sg_known.specs.sg_described.Safe.{IsPlain}
use Rattle.sg_known.proofs.sg_described.Keeping.Answering.{plain_fun}
use Rattle.sg_known.proofs.sg_described.Keeping.Basics.{both_true}
use Rattle.sg_known.proofs.sg_described.Keeping.Fitting.{greatest_length}

few : (n : ℕ) → nat_le n 8 ≡ true → n ≤ 8
few n is = grind (arith, nat_tests, is)

pub few_fields : (facts : Facts) → is_allowed facts ≡ true → length facts.fields ≤ 8
few_fields facts allowed =
    let n = length facts.funs in
    let a = nat_le (length facts.fields) 8 && keeps_private facts in
    let six = both_true (a && list_all (keeps_to facts) facts.funs && replays_all facts n && list_all (acts_on_one facts) facts.funs && each_replays_well facts n) (steps_make_none facts) allowed in
    let five = both_true (a && list_all (keeps_to facts) facts.funs && replays_all facts n && list_all (acts_on_one facts) facts.funs) (each_replays_well facts n) six.0 in
    let four = both_true (a && list_all (keeps_to facts) facts.funs && replays_all facts n) (list_all (acts_on_one facts) facts.funs) five.0 in
    let three = both_true (a && list_all (keeps_to facts) facts.funs) (replays_all facts n) four.0 in
    let two = both_true a (list_all (keeps_to facts) facts.funs) three.0 in
    few (length facts.fields) (both_true (nat_le (length facts.fields) 8) (keeps_private facts) two.0).0

pub few_most : (d : Described) → IsPlain d → length d.most ≤ 8
few_most d plain = let low = few_fields d.facts plain.allowed in let same = plain.fields in omega (arith, low, same)

pub few_greatest : (d : Described) → IsPlain d → length (greatest d) ≤ 8
few_greatest d plain = let low = few_most d plain in let same = greatest_length d in omega (arith, low, same)

-- each function changes fields that there are
pub effects_within : (d : Described) → IsPlain d → (fun : ℕ) → list_all (λ e. nat_lt e.0 (length d.facts.fields)) (fun_at d.facts.funs fun).effects ≡ true
effects_within d plain zero = refl
effects_within d plain (suc k) = at (slice_get d.facts.funs k) refl
  where
    at : (o : Option Fun) → slice_get d.facts.funs k ≡ o → list_all (λ e. nat_lt e.0 (length d.facts.fields)) (fun_at d.facts.funs (suc k)).effects ≡ true
    at None is = ap (λ o. list_all (λ e. nat_lt e.0 (length d.facts.fields)) (unwrap_or o no_fun).effects) is
    at (Some f) is =
        let low = slice_get_within d.facts.funs k f is in
        let its = plain_fun d plain (suc k) (omega arith) (omega (arith, low)) in
        subst (λ n. list_all (λ e. nat_lt e.0 n) (fun_at d.facts.funs (suc k)).effects ≡ true) plain.fields its.within
