use Rattle.test_pictures.proofs.Early.{are_columns}
use Rattle.test_pictures.proofs.columns.columns_drawn.Goals as goal

pub returns : goal.returns
returns c = record { drawn = are_columns }
