-- What is first wrong with a text by itself.
use Rattle.std.specs.Prelude.{ℕ, ◌≡◌, ◌<◌, ◌&&◌, not, List, [], ◌∷◌, None, Some}
use Rattle.std.specs.Bool.{then_some}
use Rattle.std.specs.List.{position_or_len}
use Rattle.std.specs.Option.{option_or}
use Rattle.std.specs.declared.option.Option.{Option}
use Rattle.sg_check_statements.specs.sg_facts.Allowed.{is_cross}
use Rattle.sg_check_statements.specs.Flaws.{wrong_fact}
use Rattle.sg_check_statements.specs.sg_parse.declared.tree.Tree.{Tree}
use Rattle.sg_shape.specs.declared.fault.ShapeError.{ShapeError}
use Rattle.sg_shape.specs.declared.fault.ShapeError.TheVariants.{NoMemory, Fault}
use Rattle.sg_shape.specs.declared.fault.ShapeFaultKind.{ShapeFaultKind}
use Rattle.sg_shape.specs.declared.fault.ShapeFaultKind.TheVariants.{Limit, DuplicateName, UnknownFunction, BadParams, MixedField, TwoEffects, Contradiction, PrivateLooksAround, QueryTakes, FileWithoutDesc, TextChanged, BlocksOrMakes, StateOfOther, MakesOn, ActsOnNone, NoParents, ReplayWrites, ArgumentLost, ReplayUnknown, RecoverMakes, WrongFact}
use Rattle.sg_shape.specs.contracts.fault.ShapeFaultKindPartialEq.TheImpl.{eq-value as same_kind}
use Rattle.sg_shape.specs.Flaws.{first_proto, is_flawed, limit_place, mixed_place, second_place, unknown_place}
use Rattle.sg_shape.specs.Prototypes.{protos_of}
use Rattle.sg_shape.specs.ShapeOfText.{shape_of_text}

-- the first place at which something of a kind is wrong with a text by itself. A private service whose descriptors may have parents of
-- other clients is told at that fact; a fact at the head that isn't the shape's, at the fact; the rest as each kind says
unfoldable pub place_of : Tree → ShapeFaultKind → Option ℕ
place_of tree Limit = limit_place tree.statements
place_of tree DuplicateName = second_place [] (protos_of tree.statements)
place_of tree UnknownFunction = unknown_place tree.statements
place_of tree MixedField = mixed_place tree.statements
place_of tree PrivateLooksAround =
    option_or (then_some (not (shape_of_text tree).global && is_cross (shape_of_text tree).parents) tree.facts.parent.at)
    (first_proto (is_flawed PrivateLooksAround (shape_of_text tree) tree.statements) tree.statements)
place_of tree WrongFact = wrong_fact (shape_of_text tree) tree.facts
place_of tree kind = first_proto (is_flawed kind (shape_of_text tree) tree.statements) tree.statements

-- the kinds in the order in which they are looked for
abbrev pub shape_kinds : List ShapeFaultKind
shape_kinds =
    Limit ∷ DuplicateName ∷ UnknownFunction ∷ BadParams ∷ MixedField ∷ TwoEffects ∷ Contradiction ∷ PrivateLooksAround ∷ QueryTakes
    ∷ FileWithoutDesc ∷ TextChanged ∷ BlocksOrMakes ∷ StateOfOther ∷ MakesOn ∷ ActsOnNone ∷ NoParents ∷ ReplayWrites ∷ ArgumentLost
    ∷ ReplayUnknown ∷ RecoverMakes ∷ WrongFact ∷ []

-- the place of a kind in that order
abbrev pub shape_rank : ShapeFaultKind → ℕ
shape_rank kind = position_or_len (λ other. same_kind.it other kind) shape_kinds

-- nothing is wrong with a text by itself
abbrev pub HasNoShapeFlaw : Tree → Type 0
HasNoShapeFlaw tree = (kind : ShapeFaultKind) → place_of tree kind ≡ None

-- what is first wrong with a text by itself: of the kinds that are wrong the earliest, at its first place
pub record IsFirstShapeFlaw (tree : Tree) (kind : ShapeFaultKind) (at : ℕ) : Type 0 where
  pub here : place_of tree kind ≡ Some at
  pub earliest : (other : ShapeFaultKind) → shape_rank other < shape_rank kind → place_of tree other ≡ None

-- an error tells what is first wrong with a text by itself, or that there is no memory
abbrev pub IsFirstShapeError : Tree → ShapeError → Type 0
IsFirstShapeError tree NoMemory = Unit {0}
IsFirstShapeError tree (Fault fault) = IsFirstShapeFlaw tree fault.kind fault.at
