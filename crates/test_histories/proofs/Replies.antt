-- What an answer carries, so that answers that differ in it are told apart.
use Rattle.std.proofs.Common.{ℕ, List, [], Some}
use Rattle.std.specs.declared.option.Option.{Option}
use Rattle.sg_facts.specs.sg_base.declared.reply.Reply.{Reply}
use Rattle.sg_facts.specs.sg_base.declared.reply.Reply.TheVariants.{Ok}

-- the descriptor of an answer
abbrev pub desc_in : Option Reply → ℕ
desc_in (Some (Ok good)) = good.desc
desc_in _ = 0

-- the bytes of an answer
abbrev pub bytes_in : Option Reply → List ℕ
bytes_in (Some (Ok good)) = good.bytes
bytes_in _ = []
