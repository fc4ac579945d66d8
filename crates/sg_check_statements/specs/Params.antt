-- Which parameters a function's prototype is to have.
use Rattle.std.specs.Prelude.{ℕ, ◌-◌, ◌==◌, Bool, false, ◌&&◌, ◌||◌, not, List, [], ◌∷◌, codes, length, slice_get}
use Rattle.std.specs.declared.option.Option.{Option}
use Rattle.std.specs.Option.{option_map_or}
use Rattle.std.specs.Str.{bytes_eq}
use Rattle.std.specs.Cmp.Lexicographic.{pointwise}
use Rattle.sg_facts.specs.declared.shape.Kind.{Kind}
use Rattle.sg_facts.specs.declared.shape.Kind.TheVariants.{Desc, Parent, Word, Text}
use Rattle.sg_facts.specs.Facts.{Fun}
use Rattle.sg_parse.specs.declared.tree.Param.{Param}
use Rattle.sg_parse.specs.declared.tree.TypeName.{TypeName}
use Rattle.sg_parse.specs.sg_lex.Lexeme.{Spelling as Named}

-- whether a name, where there is one, is this word
abbrev pub has_word : Option Named → List ℕ → Bool
has_word name w = option_map_or (λ n. bytes_eq n.bytes w) name false

-- whether a later parameter is of a kind: a descriptor or a parent by its form, and then no text; else a text exactly
-- where its type has a star
abbrev pub is_of_kind : Param → Kind → Bool
is_of_kind p Desc = has_word p.form (codes "desc") && (p.ty.stars == 0)
is_of_kind p Parent = has_word p.form (codes "parent_desc") && (p.ty.stars == 0)
is_of_kind p Word = not (has_word p.form (codes "desc")) && not (has_word p.form (codes "parent_desc")) && (p.ty.stars == 0)
is_of_kind p Text = not (has_word p.form (codes "desc")) && not (has_word p.form (codes "parent_desc")) && not (p.ty.stars == 0)

-- a client type has no star, and its last name is one of these
abbrev pub is_client_type : TypeName → Bool
is_client_type ty =
    let last = slice_get ty.names (length ty.names - 1) in
    (ty.stars == 0) && (has_word last (codes "spdid_t") || has_word last (codes "componentid_t"))

-- the first parameter is a client, and is neither descriptor nor parent, nor added to a field
abbrev pub is_caller : Param → Bool
is_caller p = is_client_type p.ty && not (has_word p.form (codes "desc") || has_word p.form (codes "parent_desc") || has_word p.form (codes "desc_data_add"))

-- whether parameters are those of a function: the first is a client, whose type has no star and ends in one of two names, and is neither
-- descriptor nor parent, nor added to a field; the later ones are of the kinds, one by one
abbrev pub fit_params : Fun → List Param → Bool
fit_params f [] = false
fit_params f (p ∷ params) =
    let last = slice_get p.ty.names (length p.ty.names - 1) in
    ((p.ty.stars == 0) && (has_word last (codes "spdid_t") || has_word last (codes "componentid_t")))
    && not (has_word p.form (codes "desc") || has_word p.form (codes "parent_desc") || has_word p.form (codes "desc_data_add"))
    && pointwise is_of_kind params f.kinds
