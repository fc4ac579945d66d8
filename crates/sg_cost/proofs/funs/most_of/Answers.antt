-- What a call of a function costs at most.
use Rattle.std.proofs.Common.{◌||◌, sym, ◌∙◌, ap}
use Rattle.sg_cost.proofs.FunCosts.{fun_all, fun_line, fun_none}
use Rattle.sg_facts.specs.Facts.{takes_desc, takes_parent}
use Rattle.sg_cost.proofs.funs.most_of.Goals as goal

pub returns-then-wants_all : goal.returns-then-wants_all
returns-then-wants_all c = λ walks given rows are all deepest.
    all ∙ fun_all c.args.iface.now walks given rows are c.args.fun (sym (c.if-wants_all.ensures))

pub returns-then-takes_id : goal.returns-then-takes_id
returns-then-takes_id c = λ walks given rows are all deepest.
    deepest ∙ fun_line c.args.iface.now walks given rows are c.args.fun (sym (c.if-wants_all.ensures))
    (sym (c.if-takes_id.ensures ∙ ap (λ f. takes_desc f || takes_parent f) c.fun.ensures))

pub returns-else-takes_id : goal.returns-else-takes_id
returns-else-takes_id c = λ walks given rows are all deepest.
    fun_none c.args.iface.now walks given rows are c.args.fun (sym (c.if-wants_all.ensures))
    (sym (c.if-takes_id.ensures ∙ ap (λ f. takes_desc f || takes_parent f) c.fun.ensures))
