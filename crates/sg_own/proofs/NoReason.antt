-- Where a description is safe there is no reason why it isn't.
use Rattle.std.proofs.Common.{◌≡◌, None, ◌∙◌, ap}
use Rattle.std.specs.Option.{option_map, option_or}
use Rattle.std.specs.declared.option.Option.{Option}
use Rattle.sg_safe.specs.sg_described.Described.{Described}
use Rattle.sg_safe.specs.sg_described.Safe.{IsSafe}
use Rattle.sg_safe.specs.sg_described.Walking.{spots_of}
use Rattle.sg_safe.specs.Reasons.{counts_far, counts_in, failing, fails_first, fails_in, fails_on, first_from, first_in, recounts, unsafe_in, waits_in}
use Rattle.sg_safe.proofs.Reasoning.{begins_none, far_none, is_none, recounts_none, waits_none, walks_none}

neither : {A : Type 0} (o p : Option A) → o ≡ None → p ≡ None → option_or o p ≡ None
neither o p first second = ap (λ q. option_or q p) first ∙ second

no_map : {A B : Type 0} (f : A → B) (o : Option A) → o ≡ None → option_map f o ≡ None
no_map f o is = ap (option_map f) is

pub no_reason : (d : Described) → IsSafe d → unsafe_in d ≡ None
no_reason d safe =
    let far = first_from (counts_far d) 0 d.most in
    let again = first_from (recounts d) 1 d.facts.funs in
    let first = first_from (fails_first d) 1 d.facts.funs in
    let later = first_in (fails_on d) (spots_of d) in
    neither (counts_in d) (option_or (waits_in d) (fails_in d))
    (neither far again (is_none far (far_none d ∙ safe.counts)) (is_none again (recounts_none d ∙ safe.recounts)))
    (neither (waits_in d) (fails_in d) (is_none (waits_in d) (waits_none d ∙ safe.waits))
    (neither (option_map failing first) (option_map failing later)
    (no_map failing first (is_none first (begins_none d ∙ safe.begins))) (no_map failing later (is_none later (walks_none d ∙ safe.walks)))))
