-- The replies compute, and the other one doesn't.
use Rattle.std.proofs.Common.{◌≡◌, Some, refl, ap}
use Rattle.std.specs.Prelude.{[], codes}
use Rattle.sg_facts.specs.Laws.{whole}
use Rattle.sg_load.specs.Services.sg_ramfs.RamfsFacts.{ramfs_facts}
use Rattle.sg_load.specs.Services.sg_ramfs.RamfsTable.{ramfs_table}
use Rattle.test_histories.specs.Written.{ok_bytes, ok_with, with_reply}
use Rattle.test_histories.specs.RamfsRows.{one_file}
use Rattle.sg_facts.proofs.Legality.{IsLegal-from, LegalFrom-is}
use Rattle.test_histories.proofs.Replies.{bytes_in}
use Rattle.test_histories.proofs.files.one_file.Goals as goal

pub returns-clause-legal : goal.returns-clause-legal
returns-clause-legal c = IsLegal-from (whole ramfs_facts) ramfs_table one_file (refl, (refl, (refl, (refl, (refl, (refl, tt))))))

pub returns-clause-read : goal.returns-clause-read
returns-clause-read c legal =
    let is : Some (ok_bytes 5 (codes "hello")) ≡ Some (ok_bytes 0 []) = (LegalFrom-is (whole ramfs_facts) ramfs_table (with_reply 3 (ok_bytes 0 []) one_file) legal).1.1.1.0 in
    let none : codes "hello" ≡ [] = ap bytes_in is in
    cc none

pub returns-clause-gap : goal.returns-clause-gap
returns-clause-gap c legal = cc ((LegalFrom-is (whole ramfs_facts) ramfs_table (with_reply 5 (ok_with 0 1) one_file) legal).1.1.1.1.1.0)
