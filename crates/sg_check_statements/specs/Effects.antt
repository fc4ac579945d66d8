-- Which effects a text declares for a function, by the names of the fields.
use Rattle.std.specs.Prelude.{ℕ, ◌+◌, Bool, ◌&&◌, ◌||◌, if◌then◌else◌, List, [], ◌∷◌, ◌++◌, codes}
use Rattle.std.specs.List.{list_any, list_all, flat_map}
use Rattle.std.specs.Str.{bytes_eq}
use Rattle.sg_facts.specs.declared.shape.Effect.{Effect}
use Rattle.sg_facts.specs.declared.shape.Effect.TheVariants.{SetCaller, SetArg, AddArg, SetRet, AddRet, Clear, SubOne, SubRet}
use Rattle.sg_facts.specs.contracts.shape.EffectPartialEq.TheImpl.{eq-value}
use Rattle.sg_parse.specs.declared.tree.Param.{Param}
use Rattle.sg_parse.specs.declared.tree.Ret.{Ret}
use Rattle.sg_parse.specs.declared.tree.Ret.TheVariants.{Plain, Set, Add, Sub}
use Rattle.sg_parse.specs.declared.tree.Statement.{Statement}
use Rattle.sg_parse.specs.declared.tree.Statement.TheVariants.{Two}
use Rattle.sg_check_statements.specs.Params.{has_word}

-- the effects that later parameters declare, each with its field's name: descriptor and parent are no arguments, and the others are
-- numbered from a number on
abbrev pub arg_effects : ℕ → List Param → List (List ℕ × Effect)
arg_effects k [] = []
arg_effects k (p ∷ params) =
    if has_word p.form (codes "desc") || has_word p.form (codes "parent_desc") then arg_effects k params
    else (if has_word p.form (codes "desc_data") then (p.name.bytes, SetArg k) ∷ arg_effects (k + 1) params
    else (if has_word p.form (codes "desc_data_add") then (p.name.bytes, AddArg k) ∷ arg_effects (k + 1) params
    else arg_effects (k + 1) params))

-- all that a text declares for a function with this prototype: its first parameter's field is set to the caller, then come the effects of
-- the later ones and that of the returned word, and then those of statements that clear a field, or subtract one from it
abbrev pub declared_effects : List Statement → List ℕ → Ret → List Param → List (List ℕ × Effect)
declared_effects statements f ret params =
    (elim params [ [] ↦ [] | p ∷ later ↦ if has_word p.form (codes "desc_data") then (p.name.bytes, SetCaller) ∷ [] else [] ])
    ++ (elim params [ [] ↦ [] | p ∷ later ↦ arg_effects 0 later ])
    ++ (elim ret [ Plain ty ↦ [] | Set ty field ↦ (field.bytes, SetRet) ∷ [] | Add ty field ↦ (field.bytes, AddRet) ∷ [] | Sub ty field ↦ (field.bytes, SubRet) ∷ [] ])
    ++ flat_map (λ (s : Statement). elim s [
      | Two word first second ↦
          if bytes_eq first.bytes f && bytes_eq word.bytes (codes "desc_data_clear") then (second.bytes, Clear) ∷ []
          else (if bytes_eq first.bytes f && bytes_eq word.bytes (codes "desc_data_sub") then (second.bytes, SubOne) ∷ [] else [])
      | _ ↦ []
    ]) statements

-- whether two effects are one: `==` of the Rust type
abbrev pub same_effect : Effect → Effect → Bool
same_effect a b = eq-value.it a b

-- whether an effect on a field of this name is among these
abbrev pub has_effect : List (List ℕ × Effect) → List ℕ × Effect → Bool
has_effect effects e = list_any (λ other. bytes_eq other.0 e.0 && same_effect other.1 e.1) effects

-- whether two lists have the same effects
abbrev pub same_effects : List (List ℕ × Effect) → List (List ℕ × Effect) → Bool
same_effects xs ys = list_all (has_effect ys) xs && list_all (has_effect xs) ys
