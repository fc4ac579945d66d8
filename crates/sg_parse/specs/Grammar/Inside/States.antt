-- How far a text has been read: an automaton over tokens, whose states carry the tree so far. Nothing public rests on the automaton;
-- the automaton is proved to read exactly the sentences, and says in what steps the parser goes.
use Rattle.std.specs.Prelude.{ℕ, ◌+◌, ◌==◌, ◌&&◌, Bool, true, false, if◌then◌else◌, List, [], ◌∷◌, ◌++◌, None, Some, codes, nat_eq, length}
use Rattle.std.specs.declared.option.Option.{Option}
use Rattle.std.specs.Option.{option_map}
use Rattle.std.specs.Cmp.Lexicographic.{pointwise}
use Rattle.sg_rules.specs.sg_lex.declared.token.TokenKind.TheVariants.{Word, Number, Mark}
use Rattle.sg_rules.specs.sg_lex.Lexeme.{Lexeme, Spelling}
use Rattle.sg_rules.specs.sg_lex.Inside.Automata.{Automaton}
use Rattle.sg_rules.specs.sg_lex.Inside.Tests.{has_kind, is_fixed}
use Rattle.sg_rules.specs.declared.version.Newer.{Newer}
use Rattle.sg_rules.specs.declared.version.Newer.TheVariants.{Second, Third}
use Rattle.sg_rules.specs.declared.tree.Rule.{Rule}
use Rattle.sg_rules.specs.declared.words.Wanted.TheVariants.{Name as rule_name}
use Rattle.sg_rules.specs.Versions.{seen}
use Rattle.sg_rules.specs.Grammar.Words.{word_of}
use Rattle.sg_rules.specs.Grammar.Pieces.{RulePiece, fixed, word_at, name as name_in_rule, number as number_in_rule}
use Rattle.sg_rules.specs.Grammar.Inside.States.{RuleState, ruled, fits as is_in_rule, wants, step as rule_step, rules_at}
use Rattle.sg_rules.specs.declared.error.ParseError.{ParseError}
use Rattle.sg_rules.specs.declared.error.ParseError.TheVariants.{NoMemory, Lex, Syntax}
use Rattle.sg_parse.specs.declared.tree.Facts.{Facts}
use Rattle.sg_parse.specs.declared.tree.Statement.{Statement}
use Rattle.sg_parse.specs.declared.tree.Statement.TheVariants.{One, Two, Proto, External, Most, Unique, Answer}
use Rattle.sg_parse.specs.declared.tree.Ret.{Ret}
use Rattle.sg_parse.specs.declared.tree.Ret.TheVariants.{Plain, Set, Add, Sub}
use Rattle.sg_parse.specs.declared.tree.TypeName.{TypeName}
use Rattle.sg_parse.specs.declared.tree.Param.{Param}
use Rattle.sg_parse.specs.declared.tree.Tree.{Tree}
use Rattle.sg_parse.specs.declared.words.Sort.{Sort}
use Rattle.sg_parse.specs.declared.words.Sort.TheVariants.{Name, One as one_word, Two as two_word, Form, Parents, Closing, Flag}
use Rattle.sg_parse.specs.Grammar.Words.{is_of}
use Rattle.sg_parse.specs.Grammar.Pieces.{Piece, word, mark, name, number, version_number, kept, newer, rule, are_of}
use Rattle.sg_parse.specs.Grammar.Inside.Forms.{open_brace, close_brace, open_bracket, close_bracket, equals, comma, semicolon, star}

-- ---- tests of tokens

-- a token is a word of a sort
abbrev pub has_sort : Sort → Lexeme → Bool
has_sort sort token = has_kind Word token && is_of sort token.bytes

-- a token is spelt so
abbrev pub is_spelt : Spelling → Lexeme → Bool
is_spelt n token = pointwise nat_eq token.bytes n.bytes && (token.at == n.at)

-- a token is this piece of a rule
abbrev pub is_of_rule : RulePiece → Lexeme → Bool
is_of_rule (fixed p) token = is_in_rule p token
is_of_rule (word_at keyword at) token = is_fixed (word_of keyword) token && (token.at == at)
is_of_rule (name_in_rule n) token = wants rule_name token && is_spelt n token
is_of_rule (number_in_rule n) token = has_kind Number token && is_spelt n token

-- a token is this piece
abbrev pub fits : Piece → Lexeme → Bool
fits (word bytes) token = is_fixed bytes token
fits (mark bytes) token = has_kind Mark token && pointwise nat_eq token.bytes bytes
fits (name sort n) token = has_sort sort token && is_spelt n token
fits (number n) token = has_kind Number token && is_spelt n token
fits (version_number version) token = has_kind Number token && are_of version token.bytes
fits (kept bytes) token = has_kind Mark token && pointwise nat_eq token.bytes bytes
fits (newer version p) token = fits p (seen version token)
fits (rule p) token = is_of_rule p token

-- the name, or the number, that a token is
abbrev pub named_by : Lexeme → Spelling
named_by token = record { bytes = token.bytes; at = token.at }

-- ---- states

-- what follows a type whose names are so many and a last one, and that has so many stars
abbrev pub Later : Type 0 → Type 0
Later State = List Spelling → Spelling → ℕ → State

-- how far a text has been read: what may come next, with the tree so far
pub data State : Type 0 where
  -- no token may come
  dead : State
  -- this piece, and then the state
  due : Piece → State → State
  -- this word and then the state, or as the second state
  fork : List ℕ → State → State → State
  -- a word of a sort, and then the state of it
  want : Sort → (Spelling → State) → State
  -- a number, and then the state of it
  want_number : (Spelling → State) → State
  -- the number 2 and then the first state, or the number 3 and then the second
  versioned : State → State → State
  -- in a type, after its names so far: a further name, a star, or what follows the type
  names : List Spelling → Spelling → (List Spelling → Spelling → ℕ → State) → State
  -- in a type, after so many stars: a further star, or what follows the type
  stars : List Spelling → Spelling → ℕ → (List Spelling → Spelling → ℕ → State) → State
  -- a form and then the state of it, or as the second state
  either : (Spelling → State) → State → State
  -- after a parameter: a comma and a further one, or the end of the parameters and then the state of them all
  listed : List Param → (List Param → State) → State
  -- after the name of a field: a comma and a further one, or the end of the fields and then the state of them all
  fielded : List Spelling → (List Spelling → State) → State
  -- in the rules of a function, as far as these have been read: up to the brace that closes them, and then the state of them all
  answering : RuleState → (List Rule → State) → State
  -- before a statement or the end
  statements : Facts → List Statement → State
  -- the state, in a text of a version
  in_newer : Newer → State → State

-- all names of a type
abbrev pub type_of : List Spelling → Spelling → ℕ → TypeName
type_of front last n = record { names = front ++ last ∷ []; stars = n }

-- a type and a name: without stars the last of at least two names is that name
abbrev pub declared : (TypeName → Spelling → State) → List Spelling → Spelling → ℕ → State
declared go front last n =
    if n == 0
    then (if length front == 0 then dead else go (record { names = front; stars = 0 }) last)
    else want Name (λ n'. go (type_of front last n) n')

-- a parameter after others
abbrev pub with_param : (List Param → State) → List Param → TypeName → Option Spelling → Spelling → State
with_param go params ty form n = listed (params ++ record { ty = ty; form = form; name = n } ∷ []) go

-- after the names and stars of the type of a parameter: its name, or a form with its name in brackets
abbrev pub param_after : (List Param → State) → List Param → List Spelling → Spelling → ℕ → State
param_after go params front last n =
    either
    (λ form. due open_bracket (want Name (λ n'. due close_bracket (with_param go params (type_of front last n) (Some form) n'))))
    (declared (λ ty n'. with_param go params ty None n') front last n)

-- before a parameter, after those that were read
abbrev pub param : (List Param → State) → List Param → State
param go params = want Name (λ first. names [] first (param_after go params))

-- after the word of a statement over one function
abbrev pub one_rest : (Statement → State) → Spelling → State
one_rest go w = due open_bracket (want Name (λ fun. due close_bracket (due semicolon (go (One w fun)))))

-- after the word of a statement over two names
abbrev pub two_rest : (Statement → State) → Spelling → State
two_rest go w =
    due open_bracket (want Name (λ first. due comma (want Name (λ second.
    due close_bracket (due semicolon (go (Two w first second)))))))

-- after the name of a function
abbrev pub proto_rest : (Statement → State) → Ret → Spelling → State
proto_rest go ret n = due open_bracket (param (λ params. due semicolon (go (Proto ret n params))) [])

-- after the type of a returned word that goes into a field: the field, and then the prototype's name and parameters
abbrev pub returned_after : (Statement → State) → (TypeName → Spelling → Ret) → List Spelling → Spelling → ℕ → State
returned_after go make front last n =
    due comma (want Name (λ field. due close_bracket (want Name (λ n'.
    proto_rest go (make (type_of front last n) field) n'))))

-- after the word that says what becomes of a returned word: its type and its field in brackets, and then the prototype
abbrev pub returned_rest : (Statement → State) → (TypeName → Spelling → Ret) → State
returned_rest go make = due open_bracket (want Name (λ first. names [] first (returned_after go make)))

-- after the first name of a plain return
abbrev pub plain_rest : (Statement → State) → Spelling → State
plain_rest go first = names [] first (declared (λ ty n. proto_rest go (Plain ty) n))

-- after the words of statements that only a text of a version after the first has

-- after `sm_external`
abbrev pub external_rest : (Statement → State) → State
external_rest go = due open_bracket (want Name (λ fun. due close_bracket (due semicolon (go (External fun)))))

-- after `desc_data_most`
abbrev pub most_rest : (Statement → State) → State
most_rest go =
    due open_bracket (want Name (λ field. due comma (want_number (λ most. due close_bracket (due semicolon (go (Most field most)))))))

-- after `desc_data_unique`
abbrev pub unique_rest : (Statement → State) → State
unique_rest go = due open_bracket (want Name (λ first. fielded (first ∷ []) (λ fields. due semicolon (go (Unique fields)))))

-- after `sm_answer`
abbrev pub answer_rest : (Statement → State) → State
answer_rest go =
    due open_bracket (want Name (λ fun. due close_bracket (due open_brace (answering (ruled []) (λ rules. go (Answer fun rules))))))

-- after the first token of a statement that is a word which a version keeps for itself, or else this
abbrev pub kept_after : (Statement → State) → Lexeme → Option State → Option State
kept_after go token other =
    if fits (kept (codes "desc_data_retval_sub")) token then Some (returned_rest go Sub)
    else (if fits (kept (codes "sm_external")) token then Some (external_rest go)
    else (if fits (kept (codes "desc_data_most")) token then Some (most_rest go)
    else (if fits (kept (codes "desc_data_unique")) token then Some (unique_rest go)
    else (if fits (kept (codes "sm_answer")) token then Some (answer_rest go)
    else other))))

-- after the first token of a statement
abbrev pub statement_after : (Statement → State) → Lexeme → Option State
statement_after go token =
    if has_sort one_word token then Some (one_rest go (named_by token))
    else (if has_sort two_word token then Some (two_rest go (named_by token))
    else (if fits (word (codes "desc_data_retval")) token then Some (returned_rest go Set)
    else (if fits (word (codes "desc_data_retval_add")) token then Some (returned_rest go Add)
    else kept_after go token (if has_sort Name token then Some (plain_rest go (named_by token)) else None))))

-- with one statement more
abbrev pub with_statement : Facts → List Statement → Statement → State
with_statement facts before statement = statements facts (before ++ statement ∷ [])

-- a fact of the head, and what follows it
abbrev pub fact : List ℕ → Sort → Piece → (Spelling → State) → State
fact what sort end go = due (word what) (due equals (want sort (λ value. due end (go value))))

-- the end of the head, which says the version and when descriptors are rebuilt
abbrev pub head_end : (version : ℕ) (eager : Bool) (a b c d e f g : Spelling) → State
head_end version eager a b c d e f g =
    due (mark (codes "}")) (due semicolon
    (statements (record { version = version; service = a; parent = b; close = c; global = d; block = e; has_data = f; resc_data = g; eager = eager }) []))

-- after the last fact that texts of all versions have
abbrev pub first_end : (a b c d e f g : Spelling) → State
first_end a b c d e f g = head_end 1 false a b c d e f g

-- after those facts in a text of a version after the first: when descriptors are rebuilt, and the end
abbrev pub newer_end : (version : ℕ) (a b c d e f g : Spelling) → State
newer_end version a b c d e f g =
    due comma (due (word (codes "desc_recover")) (due equals
    (fork (codes "eager") (head_end version true a b c d e f g) (due (word (codes "demand")) (head_end version false a b c d e f g)))))

-- the states after each fact of the head, from the last to the first, where these follow them all
module _ (end : (a b c d e f g : Spelling) → State) where
  abbrev pub head6 : (a b c d e f : Spelling) → State
  head6 a b c d e f = due (word (codes "resc_has_data")) (due equals (want Flag (end a b c d e f)))

  abbrev pub head5 : (a b c d e : Spelling) → State
  head5 a b c d e = fact (codes "desc_has_data") Flag comma (head6 a b c d e)

  abbrev pub head4 : (a b c d : Spelling) → State
  head4 a b c d = fact (codes "desc_block") Flag comma (head5 a b c d)

  abbrev pub head3 : (a b c : Spelling) → State
  head3 a b c = fact (codes "desc_is_global") Flag comma (head4 a b c)

  abbrev pub head2 : (a b : Spelling) → State
  head2 a b = fact (codes "desc_close") Closing comma (head3 a b)

  abbrev pub head1 : Spelling → State
  head1 a = fact (codes "desc_has_parent") Parents comma (head2 a)

  abbrev pub head0 : State
  head0 = fact (codes "service") Name comma head1

-- after the number of version 2, and of version 3
abbrev pub second_rest : State → State
second_rest s = due comma (in_newer Second s)

abbrev pub third_rest : State → State
third_rest s = due comma (in_newer Second (in_newer Third s))

-- after the word that says a version, in a text of version 2 or 3
abbrev pub newer_rest : State → State → State
newer_rest two three = due equals (versioned (second_rest two) (third_rest three))

-- before the first token
abbrev pub start : State
start =
    due (word (codes "service_global_info")) (due equals (due open_brace
    (fork (codes "version") (newer_rest (head0 (newer_end 2)) (head0 (newer_end 3))) (head0 first_end))))

-- ---- steps

-- after a token in the rules of a function, where these go on so with it, or don't; and where they don't, may end so
abbrev pub answering_after : (List Rule → State) → Lexeme → Option RuleState → Option (List Rule) → Option State
answering_after k token (Some next) rules = Some (answering next k)
answering_after k token None (Some rules) = if fits close_brace token then Some (k rules) else None
answering_after k token None None = None

-- the state after a token; None where the token may not come
unfoldable pub step : State → Lexeme → Option State
step dead token = None
step (due piece s) token = if fits piece token then Some s else None
step (fork what s other) token = if fits (word what) token then Some s else step other token
step (want sort k) token = if has_sort sort token then Some (k (named_by token)) else None
step (want_number k) token = if has_kind Number token then Some (k (named_by token)) else None
step (versioned two three) token =
    if fits (version_number Second) token then Some two
    else (if fits (version_number Third) token then Some three
    else None)
step (names front last k) token =
    if has_sort Name token then Some (names (front ++ last ∷ []) (named_by token) k)
    else (if fits star token then Some (stars front last 1 k)
    else step (k front last 0) token)
step (stars front last n k) token =
    if fits star token then Some (stars front last (n + 1) k) else step (k front last n) token
step (either k s) token = if has_sort Form token then Some (k (named_by token)) else step s token
step (listed params k) token =
    if fits comma token then Some (param k params)
    else (if fits close_bracket token then Some (k params)
    else None)
step (fielded fields k) token =
    if fits comma token then Some (want Name (λ n. fielded (fields ++ n ∷ []) k))
    else (if fits close_bracket token then Some (k fields)
    else None)
step (answering r k) token = answering_after k token (rule_step r token) (rules_at r)
step (statements facts before) token = statement_after (with_statement facts before) token
step (in_newer version s) token = option_map (in_newer version) (step s (seen version token))

-- the tree, where the text may end here
unfoldable pub tree_at : State → Option Tree
tree_at dead = None
tree_at (due piece s) = None
tree_at (fork what s other) = tree_at other
tree_at (want sort k) = None
tree_at (want_number k) = None
tree_at (versioned two three) = None
tree_at (names front last k) = tree_at (k front last 0)
tree_at (stars front last n k) = tree_at (k front last n)
tree_at (either k s) = tree_at s
tree_at (listed params k) = None
tree_at (fielded fields k) = None
tree_at (answering r k) = None
tree_at (statements facts before) = Some (record { facts = facts; statements = before })
tree_at (in_newer version s) = tree_at s

-- how the automaton reads a text
abbrev pub trees : Automaton State Tree ParseError
trees = record { start = start; step = step; value_at = tree_at; no_token = Lex; no_sentence = Syntax; no_memory = NoMemory }
