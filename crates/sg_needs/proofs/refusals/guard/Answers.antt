use Rattle.std.proofs.Common.{sym, ◌∙◌, ap, cond}
use Rattle.std.specs.Prelude.{None}
use Rattle.sg_facts.specs.Facts.{fun_at}
use Rattle.sg_facts.specs.Inside.Guards.{refusal}
use Rattle.sg_needs.specs.Refused.{refused_by_rows}
use Rattle.sg_needs.proofs.refusals.guard.Goals as goal

-- what the rows refuse is what an object with these rows refuses, and a call that is no query is refused by that alone
pub returns-else-is_query : goal.returns-else-is_query
returns-else-is_query c o same =
    let i = c.args.iface.now in
    let f = fun_at i.facts.funs c.args.call.now.fun in
    c.refusal.ensures
    ∙ ap (λ g. refused_by_rows i g c.args.rows.now.rows c.args.call.now) c.fun-fun.ensures
    ∙ ap (λ rows. refused_by_rows i f rows c.args.call.now) (sym same)
    ∙ ap (λ b. cond b None (refusal i f o c.args.call.now)) (sym c.if-is_query.false ∙ c.is_query.ensures ∙ ap (λ g. g.query) c.fun-fun.ensures)
