use Rattle.test_recovery.proofs.RamfsRuns.{file_loaded-recovered}
use Rattle.test_recovery.proofs.files.file_loaded.Goals as goal

pub returns : goal.returns
returns c = record { recovered = file_loaded-recovered }
