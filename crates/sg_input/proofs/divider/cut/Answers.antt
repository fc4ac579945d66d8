-- Line by line.
use Rattle.std.proofs.Common.{◌+◌, ◌≤◌, sym, subst, length, take, ℕ, List}
use Rattle.std.specs.Prelude.{MatchOption}
use Rattle.sg_input.specs.Divider.{Divides, IsCut}
use Rattle.sg_input.specs.Inside.Dividing.{AreLines}
use Rattle.sg_input.proofs.Cuts.{cut_at, no_cut, next_line}
use Rattle.sg_input.proofs.divider.cut.Goals as goal

pub returns-in-Some : goal.returns-in-Some
returns-in-Some c =
    let d = c.in-Some.ensures in
    cut_at c.args.input.now c.lines.at c.split_at.result.0.now c.split_at.result.1.now d.0 c.in-Some.behind.now
    c.lines.invariant.0 c.lines.invariant.1 c.lines.invariant.2 c.split_at.ensures.front c.split_at.ensures.back c.split_at.ensures.front_len d.1 d.2

pub returns-in_err-at : goal.returns-in_err-at
returns-in_err-at c =
    let none = no_cut c.args.input.now c.lines.at c.split_at.result.1.now c.lines.invariant.2 c.split_at.ensures.back c.in_default.ensures c.in_err-at.ensures in
    subst
    (λ r. MatchOption r ((before behind : List ℕ) → Divides c.args.input.now before behind → ⊥) (λ p. IsCut c.args.input.now p.0.now p.1.now))
    (sym c.from_residual.ensures) none

pub lines-preserved : goal.lines-preserved
lines-preserved c =
    let n = c.in_ok-at.ensures in
    subst
    (λ n. (c.lines.at + n ≤ length c.args.input.now) × AreLines (take (c.lines.at + n) c.args.input.now)
    × ((before behind : List ℕ) → Divides c.args.input.now before behind → c.lines.at + n ≤ length before))
    (sym n.1)
    (next_line c.args.input.now c.lines.at c.split_at.result.1.now n.0 c.lines.invariant.0 c.lines.invariant.2 c.split_at.ensures.back
    c.in_default.ensures n.2 n.3 n.4)
