-- A description that is safe is what is made safe of it.
use Rattle.std.proofs.Common.{◌≡◌, Bool, true, cond, not, length, sym, ◌∙◌, ap}
use Rattle.std.specs.Prelude.{◌==◌, ◌&&◌}
use Rattle.sg_described.specs.Described.{Described}
use Rattle.sg_described.specs.Safe.{IsPlain, IsSafe, described_nothing, is_plain, is_safe, made_safe}
use Rattle.sg_described.proofs.Keeping.Basics.{own_test}

and_true : {a b : Bool} → a ≡ true → b ≡ true → (a && b) ≡ true
and_true {b = b} one other = ap (λ x. x && b) one ∙ other

plain_so : (d : Described) → IsPlain d → is_plain d ≡ true
plain_so d plain =
    let same : (length d.most == length d.facts.fields) ≡ true = ap (λ n. n == length d.facts.fields) plain.fields ∙ own_test (length d.facts.fields) in
    let a1 = and_true plain.allowed plain.no_parents in
    let a2 = and_true a1 (ap not plain.alone) in
    let a3 = and_true a2 (ap not plain.fileless) in
    let a4 = and_true a3 plain.words in
    let a5 = and_true a4 same in
    let a6 = and_true a5 plain.most in
    let a7 = and_true a6 plain.answers in
    let a8 = and_true a7 plain.moves in
    let a9 = and_true a8 plain.funs in
    and_true a9 plain.rules

safe_so : (d : Described) → IsSafe d → is_safe d ≡ true
safe_so d safe =
    let a1 = and_true (plain_so d safe.plain) safe.counts in
    let a2 = and_true a1 safe.recounts in
    let a3 = and_true a2 safe.waits in
    let a4 = and_true a3 safe.begins in
    and_true a4 safe.walks

pub picked : (d : Described) → IsSafe d → d ≡ made_safe d
picked d safe = sym (ap (λ b. cond b d described_nothing) (safe_so d safe))
