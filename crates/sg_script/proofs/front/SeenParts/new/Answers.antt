-- No client has had a part, and no member a `stop`.
use Rattle.std.proofs.Common.{false, refl, arith}
use Rattle.std.proofs.lemmas.List.{get_or-replicate}
use Rattle.sg_script.proofs.front.SeenParts.new.Goals as goal

pub returns-clause-front : goal.returns-clause-front
returns-clause-front c = λ members. record {
  setup = refl;
  clients = λ k few. get_or-replicate 65 k false false (omega arith);
  schedule = refl;
  stops = λ m few. get_or-replicate 64 m false false (omega (arith, few));
  calls = refl;
}
