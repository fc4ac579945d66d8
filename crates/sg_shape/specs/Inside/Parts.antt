-- The parts of the definitions, by themselves.
use Rattle.std.specs.Prelude.{ℕ, Bool, if◌then◌else◌, List, [], ◌∷◌, None, Some, codes, map}
use Rattle.std.specs.declared.option.Option.{Option}
use Rattle.sg_check_statements.specs.sg_facts.declared.shape.Effect.{Effect}
use Rattle.sg_check_statements.specs.sg_facts.declared.shape.Effect.TheVariants.{SetArg, AddArg}
use Rattle.sg_check_statements.specs.sg_facts.declared.shape.FieldShape.{FieldShape}
use Rattle.sg_check_statements.specs.sg_facts.Facts.{Field}
use Rattle.sg_check_statements.specs.Params.{has_word}
use Rattle.sg_check_statements.specs.Says.{says}
use Rattle.sg_check_statements.specs.sg_parse.declared.tree.Param.{Param}
use Rattle.sg_check_statements.specs.sg_parse.declared.tree.Statement.{Statement}

-- the effect that an argument declares
abbrev pub arg_effect : ℕ → Param → Option (List ℕ × Effect)
arg_effect k p =
    if has_word p.form (codes "desc_data") then Some (p.name.bytes, SetArg k)
    else (if has_word p.form (codes "desc_data_add") then Some (p.name.bytes, AddArg k) else None)

-- what statements say of a function, flag by flag, in the order of the flags' bits
abbrev pub flags_said : List Statement → List ℕ → List Bool
flags_said statements f =
    says statements (codes "sm_creation") f ∷ says statements (codes "sm_terminal") f ∷ says statements (codes "sm_block") f
    ∷ says statements (codes "sm_wakeup") f ∷ says statements (codes "sm_query") f ∷ says statements (codes "sm_needs_all") f
    ∷ says statements (codes "resc_data") f ∷ []

-- the fields of a shape as plain data
abbrev pub fields_in : List FieldShape → List Field
fields_in fields = map (λ f. record { name = f.name.now; text = f.text }) fields
