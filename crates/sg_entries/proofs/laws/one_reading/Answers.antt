-- Two answers on one text are one.
use Rattle.sg_entries.proofs.Unique.{one_reading}
use Rattle.sg_entries.proofs.laws.one_reading.Goals as goal

pub returns : goal.returns
returns c = λ shows i text one other a b n m. one_reading shows i text one other a b n m
