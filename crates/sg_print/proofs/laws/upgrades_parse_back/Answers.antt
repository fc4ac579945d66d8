use Rattle.sg_print.proofs.Law.{upgrades_back}
use Rattle.sg_print.proofs.laws.upgrades_parse_back.Goals as goal

pub returns : goal.returns
returns c = λ text tree a free. upgrades_back text tree a free
