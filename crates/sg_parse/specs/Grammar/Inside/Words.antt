-- The words that the grammar keeps for itself, as lists.
use Rattle.std.specs.Prelude.{ℕ, Bool, List, ◌++◌, nat_eq}
use Rattle.std.specs.List.{list_any}
use Rattle.std.specs.Cmp.Lexicographic.{pointwise}
use Rattle.sg_parse.specs.declared.words.Sort.TheVariants.{Name, One, Two, Form}
use Rattle.sg_parse.specs.Grammar.Words.{words_of}

-- whether a word is one of these
abbrev pub is_in : List (List ℕ) → List ℕ → Bool
is_in words word = list_any (λ other. pointwise nat_eq word other) words

-- the words of the statements over one function
abbrev pub one_words : List (List ℕ)
one_words = words_of One

-- the words of the statements over two functions, or over a function and a field
abbrev pub two_words : List (List ℕ)
two_words = words_of Two

-- the words of the forms that a parameter can have
abbrev pub form_words : List (List ℕ)
form_words = words_of Form

-- the words that no name may be
abbrev pub reserved_words : List (List ℕ)
reserved_words = words_of Name ++ (one_words ++ (two_words ++ form_words))
