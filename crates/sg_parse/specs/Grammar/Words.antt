-- The words that the grammar keeps for itself.
use Rattle.std.specs.Prelude.{ℕ, Bool, not, List, [], ◌∷◌, ◌++◌, codes, nat_eq}
use Rattle.std.specs.List.{list_any}
use Rattle.std.specs.Cmp.Lexicographic.{pointwise}
use Rattle.sg_parse.specs.declared.words.Sort.{Sort}
use Rattle.sg_parse.specs.declared.words.Sort.TheVariants.{Name, One, Two, Form, Parents, Closing, Flag}

-- the words of each sort. A name may be any word but those of statements and forms, and these
abbrev pub words_of : Sort → List (List ℕ)
words_of Name = codes "service_global_info" ∷ codes "desc_data_retval" ∷ codes "desc_data_retval_add" ∷ []
-- the words of the statements over one function
words_of One =
    codes "sm_creation" ∷ codes "sm_terminal" ∷ codes "sm_block" ∷ codes "sm_wakeup" ∷ codes "sm_query"
    ∷ codes "sm_keep" ∷ codes "sm_needs_all" ∷ codes "resc_data" ∷ []
-- the words of the statements over two functions, or over a function and a field
words_of Two =
    codes "sm_state" ∷ codes "sm_transition" ∷ codes "sm_recover" ∷ codes "desc_data_clear" ∷ codes "desc_data_sub" ∷ []
-- the words of the forms that a parameter can have
words_of Form = codes "desc" ∷ codes "parent_desc" ∷ codes "desc_data" ∷ codes "desc_data_add" ∷ []
words_of Parents = codes "none" ∷ codes "same" ∷ codes "cross" ∷ []
words_of Closing = codes "refuse" ∷ codes "subtree" ∷ []
words_of Flag = codes "true" ∷ codes "false" ∷ []

-- whether a word is of a sort
abbrev pub is_of : Sort → List ℕ → Bool
is_of Name word = not (list_any (pointwise nat_eq word) (words_of Name ++ (words_of One ++ (words_of Two ++ words_of Form))))
is_of sort word = list_any (pointwise nat_eq word) (words_of sort)
