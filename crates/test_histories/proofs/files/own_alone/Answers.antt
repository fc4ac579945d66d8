-- The replies compute, and the other one doesn't.
use Rattle.std.proofs.Common.{refl}
use Rattle.std.specs.Prelude.{[]}
use Rattle.sg_facts.specs.Laws.{whole}
use Rattle.sg_load.specs.Services.sg_ramfs.RamfsFacts.{ramfs_facts}
use Rattle.sg_load.specs.Services.sg_ramfs.RamfsTable.{ramfs_table}
use Rattle.test_histories.specs.Written.{ok_bytes, with_reply}
use Rattle.test_histories.specs.RamfsRows.{own_alone}
use Rattle.sg_facts.proofs.Legality.{IsLegal-from, LegalFrom-is}
use Rattle.test_histories.proofs.files.own_alone.Goals as goal

pub returns-clause-legal : goal.returns-clause-legal
returns-clause-legal c = IsLegal-from (whole ramfs_facts) ramfs_table own_alone (refl, (refl, (refl, (refl, (refl, tt)))))

pub returns-clause-wrong : goal.returns-clause-wrong
returns-clause-wrong c legal = cc ((LegalFrom-is (whole ramfs_facts) ramfs_table (with_reply 1 (ok_bytes 0 []) own_alone) legal).1.0)
