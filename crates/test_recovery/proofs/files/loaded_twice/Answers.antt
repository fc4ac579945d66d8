use Rattle.test_recovery.proofs.RamfsFaults.{loaded_twice-wrong}
use Rattle.test_recovery.proofs.files.loaded_twice.Goals as goal

pub returns : goal.returns
returns c = record { wrong = loaded_twice-wrong }
