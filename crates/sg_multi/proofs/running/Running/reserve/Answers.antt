-- What there is room for stays.
use Rattle.sg_multi.proofs.running.Running.reserve.Goals as goal

pub reserve-requires : goal.reserve-requires
reserve-requires g c = record { client = c.requires }
