-- From all states on none goes any more after as many times as there are functions.
use Rattle.std.proofs.Common.{◌≤◌, ◌++◌, length, ◌∙◌, ap, arith}
use Rattle.sg_described.specs.sg_facts.Facts.{facts_of}
use Rattle.sg_described.specs.NeverZero.{states_from, states_left}
use Rattle.sg_known.proofs.Settling.{length_states}
use Rattle.sg_known.proofs.states.never_zero_states.Goals as goal

pub returns : goal.returns
returns c =
    let facts = facts_of c.args.shape.now in
    let all = c.in_ok-add_states.ensures ∙ ap (λ l. l ++ states_from 1 facts.funs) c.new-states.ensures in
    let count = ap length all in
    let funs = length_states 1 facts.funs in
    let few : length c.add_states.new.states ≤ length facts.funs = omega (arith, count, funs) in
    c.in_ok-settled.ensures (length facts.funs) few ∙ ap (states_left facts c.args.field (length facts.funs)) all
