-- Kinds of flaws that are told alike.
use Rattle.std.proofs.Common.{◌≡◌, List, refl}
use Rattle.std.specs.Prelude.{find, unwrap_or}
use Rattle.std.specs.Option.{option_map}
use Rattle.sg_check_statements.specs.sg_facts.Facts.{Facts}
use Rattle.sg_check_statements.specs.Flaws.{fun_of_name}
use Rattle.sg_check_statements.specs.Says.{fun_number}
use Rattle.sg_check_statements.specs.sg_parse.declared.tree.Statement.{Statement}
use Rattle.sg_check_statements.specs.sg_parse.declared.tree.Tree.{Tree}
use Rattle.sg_shape.specs.declared.fault.ShapeFaultKind.{ShapeFaultKind}
use Rattle.sg_shape.specs.declared.fault.ShapeFaultKind.TheVariants.{Limit, DuplicateName, UnknownFunction, BadParams, MixedField, TwoEffects, Contradiction, PrivateLooksAround, WrongFact}
use Rattle.sg_shape.specs.Faults.{place_of}
use Rattle.sg_shape.specs.Flaws.{is_flawed, is_forbidden}
use Rattle.sg_shape.specs.Prototypes.{Prototype, protos_of}
use Rattle.sg_shape.specs.ShapeOfText.{shape_of_text}

-- any other kind is a flaw of a function
pub of_function : (kind : ShapeFaultKind) (facts : Facts) (statements : List Statement) (p : Prototype)
    → (kind ≡ BadParams → ⊥) → (kind ≡ TwoEffects → ⊥) → (kind ≡ Contradiction → ⊥)
    → is_flawed kind facts statements p ≡ is_forbidden kind facts (unwrap_or (fun_number facts.funs p.name.bytes) 0) (fun_of_name facts p.name.bytes)
of_function BadParams facts statements p params effects state = absurd (params refl)
of_function TwoEffects facts statements p params effects state = absurd (effects refl)
of_function Contradiction facts statements p params effects state = absurd (state refl)
of_function _ facts statements p params effects state = refl

-- any other kind is told at the first prototype that has the flaw
pub of_proto : (tree : Tree) (kind : ShapeFaultKind)
    → (kind ≡ Limit → ⊥) → (kind ≡ DuplicateName → ⊥) → (kind ≡ UnknownFunction → ⊥) → (kind ≡ MixedField → ⊥) → (kind ≡ PrivateLooksAround → ⊥) → (kind ≡ WrongFact → ⊥)
    → place_of tree kind ≡ option_map (λ p. p.name.at) (find (is_flawed kind (shape_of_text tree) tree.statements) (protos_of tree.statements))
unfolding place_of
of_proto tree Limit limit twice unknown mixed looks fact = absurd (limit refl)
of_proto tree DuplicateName limit twice unknown mixed looks fact = absurd (twice refl)
of_proto tree UnknownFunction limit twice unknown mixed looks fact = absurd (unknown refl)
of_proto tree MixedField limit twice unknown mixed looks fact = absurd (mixed refl)
of_proto tree PrivateLooksAround limit twice unknown mixed looks fact = absurd (looks refl)
of_proto tree WrongFact limit twice unknown mixed looks fact = absurd (fact refl)
of_proto tree _ limit twice unknown mixed looks fact = refl
