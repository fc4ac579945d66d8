-- As many as pass the test.
use Rattle.std.proofs.Common.{◌∙◌, rules, tests}
use Rattle.std.proofs.lemmas.Iterator.{YieldsList-from_slice}
use Rattle.std.proofs.lemmas.Iterator.Consumers.{YieldsList-from_filter, count_from_yields_List}
use Rattle.std.proofs.lemmas.List.Sums.{length-filter}
use Rattle.sg_explain.proofs.rebuilt.others_with_calls.Goals as goal

pub returns-clause-count : goal.returns-clause-count
returns-clause-count c =
    count_from_yields_List c.filter.result c.count.result c.count.ensures.ran
    (YieldsList-from_filter _ _ (YieldsList-from_slice c.args.clients.now (cc)) c.filter.ensures.closure (λ x b q k. search (rules, tests))) ∙ length-filter _ c.args.clients.now
