-- The replies compute, and the other one doesn't.
use Rattle.std.proofs.Common.{refl}
use Rattle.sg_facts.specs.Laws.{whole}
use Rattle.sg_load.specs.Services.sg_ramfs.RamfsFacts.{ramfs_facts}
use Rattle.sg_load.specs.Services.sg_ramfs.RamfsTable.{ramfs_table}
use Rattle.test_histories.specs.Written.{ok_with, with_reply}
use Rattle.test_histories.specs.RamfsRows.{file_refusals}
use Rattle.sg_facts.proofs.Legality.{IsLegal-from, LegalFrom-is}
use Rattle.test_histories.proofs.files.file_refusals.Goals as goal

pub returns-clause-legal : goal.returns-clause-legal
returns-clause-legal c = IsLegal-from (whole ramfs_facts) ramfs_table file_refusals (refl, (refl, (refl, (refl, (refl, (refl, (refl, tt)))))))

pub returns-clause-wrong : goal.returns-clause-wrong
returns-clause-wrong c legal = cc ((LegalFrom-is (whole ramfs_facts) ramfs_table (with_reply 5 (ok_with 0 0) file_refusals) legal).1.1.1.1.1.0)
