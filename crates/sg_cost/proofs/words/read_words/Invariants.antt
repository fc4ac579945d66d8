-- The words of the first entries are read.
use Rattle.std.proofs.Common.{take}
use Rattle.sg_facts.specs.Kinds.{AreWords}
use Rattle.sg_facts.specs.sg_base.Lists.{Each}
use Rattle.sg_cost.proofs.words.read_words.Given as goal

abbrev pub invariant-entries : goal.invariant-entries
invariant-entries l = Each (λ e. AreWords e.call.args) (take l.at l.history.items)
