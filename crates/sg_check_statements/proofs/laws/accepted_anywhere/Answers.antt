-- Neither places nor the version are looked at.
use Rattle.sg_check_statements.proofs.Anywhere.Accepting.{accepted_there}
use Rattle.sg_check_statements.proofs.laws.accepted_anywhere.Goals as goal

pub returns : goal.returns
returns c = λ services one other i same accepted. accepted_there services one other same i accepted
