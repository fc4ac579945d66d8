-- What is first wrong with a text that describes a service of its own, and when it is accepted.
use Rattle.std.specs.Prelude.{ℕ, ◌≡◌, ◌⊎◌, List, [], ◌∷◌, None, Some}
use Rattle.std.specs.declared.option.Option.{Option}
use Rattle.sg_describe.specs.sg_facts.Facts.{Facts}
use Rattle.sg_describe.specs.sg_facts.Interface.{Declared}
use Rattle.sg_check.specs.sg_check_statements.Faults.{IsAccepted, IsFault}
use Rattle.sg_check.specs.sg_check_statements.declared.fault.CheckKind.TheVariants.{NoWalk as no_walk}
use Rattle.sg_check.specs.sg_check_statements.sg_parse.declared.tree.Statement.{Statement}
use Rattle.sg_check.specs.sg_check_statements.sg_parse.declared.tree.Statement.TheVariants.{External}
use Rattle.sg_check.specs.sg_check_statements.sg_parse.declared.tree.Tree.{Tree}
use Rattle.sg_describe.specs.sg_shape.Faults.{HasNoShapeFlaw, IsFirstShapeFlaw}
use Rattle.sg_describe.specs.sg_shape.ShapeOfText.{shape_of_text}
use Rattle.sg_describe.specs.sg_described.Safe.{IsSafe}
use Rattle.sg_describe.specs.AnswerFaults.{HasNoAnswerFlaw, IsFirstAnswerFlaw}
use Rattle.sg_describe.specs.DescribedText.{described_of_text}
use Rattle.sg_describe.specs.Said.{first_in, proto_place}
use Rattle.sg_safe.specs.Reasons.{unsafe_in}
use Rattle.sg_safe.specs.declared.reason.Unsafe.{Unsafe}
use Rattle.sg_own.specs.declared.fault.OwnKind.{OwnKind}
use Rattle.sg_own.specs.declared.fault.OwnKind.TheVariants.{Shape, Answers, Safety, Walks}
use Rattle.sg_own.specs.SafePlaces.{kind_of, reason_place}

-- nothing is wrong with a text by itself, nor with what it says of answers
pub record IsDescription (tree : Tree) : Type 0 where
  pub shape : HasNoShapeFlaw tree
  pub answers : HasNoAnswerFlaw tree

-- the services among which a text of its own is looked for: that which it describes
abbrev pub itself : Tree → List Facts
itself tree = shape_of_text tree ∷ []

-- the prototype of the first function that a statement says does something outside that can't be done again: no walk may begin with it
abbrev pub external_in : List Statement → Statement → Option ℕ
external_in statements s = elim s [ External fun ↦ proto_place fun.bytes statements | _ ↦ None ]

abbrev pub external_place : Tree → Option ℕ
external_place tree = first_in (external_in tree.statements) tree.statements

-- what is first wrong with a text of its own, and where: with its shape; else with what it says of answers; else why its service can't be
-- recovered; else that it makes no descriptor, that a function isn't reached, or that a state has no walk
abbrev pub IsOwnFault : Tree → OwnKind → ℕ → Type 0
IsOwnFault tree (Shape kind) at = IsFirstShapeFlaw tree kind at
IsOwnFault tree (Answers kind) at = HasNoShapeFlaw tree × IsFirstAnswerFlaw tree kind at
IsOwnFault tree (Safety kind) at =
    IsDescription tree × (reason : Unsafe) × (unsafe_in (described_of_text tree) ≡ Some reason)
    × (kind ≡ kind_of reason) × (at ≡ reason_place (shape_of_text tree) tree.statements reason)
IsOwnFault tree (Walks kind) at =
    IsDescription tree × IsSafe (described_of_text tree)
    × (IsFault (itself tree) tree kind at
    ⊎ (((i : Declared) × IsAccepted (itself tree) tree i) × (external_place tree ≡ Some at) × (kind ≡ no_walk)))

-- a text of its own is accepted: it describes a service that is safe, and this is the interface that it declares, each state of which has
-- a walk that doesn't do again what can't be done again
pub record IsOwnAccepted (tree : Tree) (i : Declared) : Type 0 where
  pub described : IsDescription tree
  pub safe : IsSafe (described_of_text tree)
  pub accepted : IsAccepted (itself tree) tree i
  pub inside : external_place tree ≡ None
