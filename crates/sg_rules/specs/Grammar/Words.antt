-- The words of rules.
use Rattle.std.specs.Prelude.{ℕ, Bool, not, List, [], ◌∷◌, codes, nat_eq}
use Rattle.std.specs.List.{list_any}
use Rattle.std.specs.Cmp.Lexicographic.{pointwise}
use Rattle.sg_rules.specs.declared.words.Keyword.{Keyword}
use Rattle.sg_rules.specs.declared.words.Keyword.TheVariants.{Refuse, Wait, Give, If, Is, Not, Below, Above, Plus, Minus, Least, Greatest, Caller, State, Row, Where, Else, First, SomeRow, NoRow}

-- each word as it is spelt
abbrev pub word_of : Keyword → List ℕ
word_of Refuse = codes "refuse"
word_of Wait = codes "wait"
word_of Give = codes "give"
word_of If = codes "if"
word_of Is = codes "is"
word_of Not = codes "not"
word_of Below = codes "below"
word_of Above = codes "above"
word_of Plus = codes "plus"
word_of Minus = codes "minus"
word_of Least = codes "least"
word_of Greatest = codes "greatest"
word_of Caller = codes "caller"
word_of State = codes "state"
word_of Row = codes "row"
word_of Where = codes "where"
word_of Else = codes "else"
word_of First = codes "first"
word_of SomeRow = codes "some"
word_of NoRow = codes "no"

-- all of them
abbrev pub keywords : List Keyword
keywords =
    Refuse ∷ Wait ∷ Give ∷ If ∷ Is ∷ Not ∷ Below ∷ Above ∷ Plus ∷ Minus ∷ Least ∷ Greatest ∷ Caller ∷ State ∷ Row ∷ Where ∷ Else ∷ First ∷ SomeRow
    ∷ NoRow ∷ []

-- whether a word may be a name in a rule: it is none of these
abbrev pub is_name : List ℕ → Bool
is_name word = not (list_any (λ keyword. pointwise nat_eq word (word_of keyword)) keywords)
