-- What is first wrong with what a text says of answers.
use Rattle.std.specs.Prelude.{ℕ, ◌≡◌, ◌<◌, List, [], ◌∷◌, None, Some}
use Rattle.std.specs.List.{position_or_len}
use Rattle.std.specs.Option.{option_or}
use Rattle.std.specs.declared.option.Option.{Option}
use Rattle.sg_shape.specs.sg_facts.Facts.{Facts}
use Rattle.sg_shape.specs.sg_check_statements.sg_parse.declared.tree.Tree.{Tree}
use Rattle.sg_shape.specs.ShapeOfText.{shape_of_text}
use Rattle.sg_describe.specs.declared.fault.AnswerError.{AnswerError}
use Rattle.sg_describe.specs.declared.fault.AnswerError.TheVariants.{NoMemory, Fault}
use Rattle.sg_describe.specs.declared.fault.AnswerFaultKind.{AnswerFaultKind}
use Rattle.sg_describe.specs.declared.fault.AnswerFaultKind.TheVariants.{NotYet, UnknownField, UnknownCode, GuardsCode, NoArgument, TooBig, TwoAnswers, TwoLimits, MayNotBlock, NoWord, EndsWithWord, NotExternal}
use Rattle.sg_describe.specs.contracts.fault.AnswerFaultKindPartialEq.TheImpl.{eq-value as same_kind}
use Rattle.sg_describe.specs.AnswerFlaws.{funs_flaw, head_flaw, repeat_place, statement_flaw}
use Rattle.sg_describe.specs.Said.{first_in}

-- the first place at which a text of a shape has a flaw of a kind: at the head, else in a statement, else in a function, else where something
-- is said again
abbrev pub flaw_of : AnswerFaultKind → Facts → Tree → Option ℕ
flaw_of kind facts tree =
    option_or (head_flaw kind facts tree)
    (option_or (first_in (statement_flaw kind facts) tree.statements)
    (option_or (funs_flaw kind facts tree.statements 1 facts.funs) (repeat_place kind [] tree.statements)))

-- the first place at which a text has a flaw of a kind
abbrev pub answer_place : Tree → AnswerFaultKind → Option ℕ
answer_place tree kind = flaw_of kind (shape_of_text tree) tree

-- the kinds in the order in which they are looked for
abbrev pub answer_kinds : List AnswerFaultKind
answer_kinds =
    NotYet ∷ UnknownField ∷ UnknownCode ∷ GuardsCode ∷ NoArgument ∷ TooBig ∷ TwoAnswers ∷ TwoLimits ∷ MayNotBlock ∷ NoWord ∷ EndsWithWord
    ∷ NotExternal ∷ []

-- the place of a kind in that order
abbrev pub answer_rank : AnswerFaultKind → ℕ
answer_rank kind = position_or_len (λ other. same_kind.it other kind) answer_kinds

-- nothing is wrong with what a text says of answers
abbrev pub HasNoAnswerFlaw : Tree → Type 0
HasNoAnswerFlaw tree = (kind : AnswerFaultKind) → answer_place tree kind ≡ None

-- what is first wrong: of the kinds that are wrong the earliest, at its first place
pub record IsFirstAnswerFlaw (tree : Tree) (kind : AnswerFaultKind) (at : ℕ) : Type 0 where
  pub here : answer_place tree kind ≡ Some at
  pub earliest : (other : AnswerFaultKind) → answer_rank other < answer_rank kind → answer_place tree other ≡ None

-- an error tells what is first wrong, or that there is no memory
abbrev pub IsFirstAnswerError : Tree → AnswerError → Type 0
IsFirstAnswerError tree NoMemory = Unit {0}
IsFirstAnswerError tree (Fault fault) = IsFirstAnswerFlaw tree fault.kind fault.at
