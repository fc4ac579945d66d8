use Rattle.test_pictures.proofs.Lines.{all_harmless, columns_show}
use Rattle.test_pictures.proofs.columns.columns_read.Goals as goal

pub returns : goal.returns
returns c = record { texts = λ facts ended bytes r. columns_show r; harmless = λ facts ended bytes r. all_harmless r }
