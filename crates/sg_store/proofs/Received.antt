-- The receipts when one is put in its place.
use Rattle.std.proofs.Common.{◌≡◌, ℕ, zero, suc, ◌-◌, ◌≤◌, false, cond, List, [], ◌∷◌, Some, None, length, refl, ◌∙◌, ap, arith, slice_get, slice_set, unwrap_or}
use Rattle.std.specs.Prelude.{◌==◌}
use Rattle.std.proofs.lemmas.Bool.Decides.{nat_tests}
use Rattle.std.specs.declared.option.Option.{Option}
use Rattle.sg_store.specs.declared.receipts.Receipt.{Receipt}
use Rattle.sg_store.specs.Stored.{receipt_in}

get_put : (list : List (Option Receipt)) (at k : ℕ) (new : Option Receipt) → suc at ≤ length list
    → unwrap_or {T = Option Receipt} (slice_get (slice_set list at new) k) None ≡ cond (k == at) new (unwrap_or {T = Option Receipt} (slice_get list k) None)
get_put [] at k new within = absurd (omega (arith, within))
get_put (x ∷ list) zero zero new within = refl
get_put (x ∷ list) zero (suc k) new within = ap (λ b. cond b new (unwrap_or {T = Option Receipt} (slice_get list k) None)) (let apart : false ≡ (suc k == 0) = grind (arith, nat_tests) in apart)
get_put (x ∷ list) (suc at) zero new within = ap (λ b. cond b new (unwrap_or {T = Option Receipt} (Some x) None)) (let apart : false ≡ (0 == suc at) = grind (arith, nat_tests) in apart)
get_put (x ∷ list) (suc at) (suc k) new within =
    get_put list at k new (omega (arith, within)) ∙ ap (λ b. cond b new (unwrap_or {T = Option Receipt} (slice_get list k) None)) (let same : (k == at) ≡ (suc k == suc at) = grind (arith, nat_tests) in same)

pub receipt_put : (list : List (Option Receipt)) (client : ℕ) (receipt : Receipt) (k : ℕ) → 1 ≤ client → client ≤ length list
    → receipt_in (slice_set list (client - 1) (Some receipt)) k ≡ cond (k == client) (Some receipt) (receipt_in list k)
receipt_put list zero receipt k first last = absurd (omega (arith, first))
receipt_put list (suc at) receipt zero first last = ap (λ b. cond b (Some receipt) None) (let apart : false ≡ (0 == suc at) = grind (arith, nat_tests) in apart)
receipt_put list (suc at) receipt (suc k) first last =
    ap (λ n. unwrap_or {T = Option Receipt} (slice_get (slice_set list n (Some receipt)) k) None) (let is : suc at - 1 ≡ at = omega arith in is)
    ∙ get_put list at k (Some receipt) last
    ∙ ap (λ b. cond b (Some receipt) (unwrap_or {T = Option Receipt} (slice_get list k) None)) (let same : (k == at) ≡ (suc k == suc at) = grind (arith, nat_tests) in same)
