-- Two places are one where they are told to be.
use Rattle.std.proofs.Common.{◌≡◌, ◌∙◌, true, ap, arith}
use Rattle.std.specs.Prelude.{◌==◌}
use Rattle.std.proofs.lemmas.Bool.Decides.{nat_tests}
use Rattle.sg_facts.proofs.Replaying.Steps.{both_true}
use Rattle.sg_mm.specs.declared.page.PageKey.{PageKey}
use Rattle.sg_mm.specs.Inside.MmIndex.{is_place}

-- places that are told to be one are
pub one_place : (a b : PageKey) → is_place a b ≡ true → a ≡ b
one_place a b is =
    let both = both_true (a.space == b.space) (a.addr == b.addr) is in
    let space : a.space ≡ b.space = let s = both.0 in grind (arith, nat_tests, s) in
    let addr : a.addr ≡ b.addr = let t = both.1 in grind (arith, nat_tests, t) in
    ap (λ n. record { space = n; addr = a.addr }) space ∙ ap (λ n. record { space = b.space; addr = n }) addr
