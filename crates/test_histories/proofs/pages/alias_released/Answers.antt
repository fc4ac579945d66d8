-- The replies compute, and the other one doesn't.
use Rattle.std.proofs.Common.{refl}
use Rattle.sg_facts.specs.sg_base.declared.reply.Code.TheVariants.{NoParent}
use Rattle.sg_facts.specs.Laws.{whole}
use Rattle.sg_load.specs.Services.sg_mm.MmFacts.{mm_facts}
use Rattle.sg_load.specs.Services.sg_mm.MmTable.{mm_table}
use Rattle.test_histories.specs.Written.{refused, with_reply}
use Rattle.test_histories.specs.MmRows.{alias_released}
use Rattle.sg_facts.proofs.Legality.{IsLegal-from, LegalFrom-is}
use Rattle.test_histories.proofs.pages.alias_released.Goals as goal

pub returns-clause-legal : goal.returns-clause-legal
returns-clause-legal c = IsLegal-from (whole mm_facts) mm_table alias_released (refl, (refl, (refl, tt)))

pub returns-clause-wrong : goal.returns-clause-wrong
returns-clause-wrong c legal = cc ((LegalFrom-is (whole mm_facts) mm_table (with_reply 1 (refused NoParent) alias_released) legal).1.0)
