-- The replies compute, and the other one doesn't.
use Rattle.std.proofs.Common.{refl}
use Rattle.sg_facts.specs.Laws.{whole}
use Rattle.sg_load.specs.Services.sg_mm.MmFacts.{mm_facts}
use Rattle.sg_load.specs.Services.sg_mm.MmTable.{mm_table}
use Rattle.test_histories.specs.Written.{ok, ok_at, with_reply}
use Rattle.test_histories.specs.MmRows.{subtree_goes}
use Rattle.sg_facts.proofs.Legality.{IsLegal-from, LegalFrom-is}
use Rattle.test_histories.proofs.pages.subtree_goes.Goals as goal

pub returns-clause-legal : goal.returns-clause-legal
returns-clause-legal c = IsLegal-from (whole mm_facts) mm_table subtree_goes (refl, (refl, (refl, (refl, (refl, (refl, (refl, tt)))))))

pub returns-clause-found : goal.returns-clause-found
returns-clause-found c legal = cc ((LegalFrom-is (whole mm_facts) mm_table (with_reply 4 (ok_at 2) subtree_goes) legal).1.1.1.1.0)

pub returns-clause-released : goal.returns-clause-released
returns-clause-released c legal = cc ((LegalFrom-is (whole mm_facts) mm_table (with_reply 5 ok subtree_goes) legal).1.1.1.1.1.0)
