-- How far a text is found to be without flaw.
use Rattle.std.specs.Prelude.{ℕ, ◌≡◌, ◌<◌, None}
use Rattle.sg_shape.specs.sg_check_statements.sg_parse.declared.tree.Tree.{Tree}
use Rattle.sg_describe.specs.declared.fault.AnswerFaultKind.{AnswerFaultKind}
use Rattle.sg_describe.specs.AnswerFaults.{answer_place, answer_rank}

-- nothing of the first kinds is wrong with what a text says of answers, so many of them
abbrev pub AreClear : Tree → ℕ → Type 0
AreClear tree kinds = (kind : AnswerFaultKind) → answer_rank kind < kinds → answer_place tree kind ≡ None
