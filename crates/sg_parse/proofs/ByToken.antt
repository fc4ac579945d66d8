-- What is read from a state, by the token that comes next.
use Rattle.std.proofs.Common.{◌≡◌, ℕ, zero, suc, ◌+◌, ◌==◌, ◌&&◌, if◌then◌else◌, length, true, false, nat_eq, List, [], ◌∷◌, ◌++◌, refl, sym, ap, subst, ◌∙◌}
use Rattle.std.specs.Prelude.{None, Some, Ok, Err, codes, IfErr, IsErrAnd, MatchResult}
use Rattle.std.specs.declared.option.Option.{Option}
use Rattle.std.specs.declared.result.Result.{Result}
use Rattle.std.specs.Cmp.Lexicographic.{pointwise}
use Rattle.sg_rules.specs.sg_lex.declared.token.LexFault.{LexFault}
use Rattle.sg_rules.specs.sg_lex.Lexeme.{Lexeme, Spelling as Named}
use Rattle.sg_rules.specs.sg_lex.Tokens.{Answer}
use Rattle.sg_rules.specs.declared.error.ParseError.{ParseError}
use Rattle.sg_rules.specs.declared.error.ParseError.TheVariants.{Lex, Syntax}
use Rattle.sg_parse.specs.Grammar.Inside.States.{State, dead, due, fork, want, want_number, versioned, names, stars, either, listed, fielded, statements, param, declared, type_of, with_statement, statement_after, kept_after, one_rest, two_rest, plain_rest, returned_rest, external_rest, most_rest, unique_rest, answer_rest, has_sort, fits, named_by, step, tree_at, trees}
use Rattle.sg_rules.specs.sg_lex.Inside.Automata.{Reading, read, read_on}
use Rattle.sg_parse.proofs.Grammar.Basics.{if_then, if_else, mark-has_sort}
use Rattle.sg_rules.proofs.sg_lex.Automata.{read_failed, read_next, read_end, alike}
use Rattle.std.proofs.Math.Dec.{eqb-suc-zero}
use Rattle.sg_parse.specs.declared.tree.Facts.{Facts}
use Rattle.sg_parse.specs.declared.tree.Ret.TheVariants.{Set, Add, Sub}
use Rattle.sg_parse.specs.declared.tree.Statement.{Statement}
use Rattle.sg_parse.specs.declared.tree.TypeName.{TypeName}
use Rattle.sg_parse.specs.declared.tree.Param.{Param}
use Rattle.sg_parse.specs.declared.words.Sort.{Sort}
use Rattle.sg_parse.specs.declared.words.Sort.TheVariants.{Name, Form, One as one_word, Two as two_word}
use Rattle.sg_parse.specs.Grammar.Inside.Forms.{star, comma, close_bracket}
use Rattle.sg_parse.specs.Grammar.Words.{is_of}
use Rattle.sg_rules.specs.sg_lex.declared.token.TokenKind.TheVariants.{Number, Mark}
use Rattle.sg_rules.specs.sg_lex.Inside.Tests.{has_kind}
use Rattle.sg_rules.proofs.sg_lex.SameKinds.{kind_is}
use Rattle.sg_rules.specs.declared.version.Newer.TheVariants.{Second, Third}
use Rattle.sg_parse.specs.Grammar.Pieces.{Piece, word, version_number, kept}
use Rattle.sg_parse.specs.Inside.{named_token, number_token}
use Rattle.sg_rules.specs.sg_lex.Inside.Ahead.{Off, Came}

-- ---- no token comes

pub no_token_came : (s : State) (old : Reading) (fault : LexFault) (behind : List Answer) → old.rest ≡ Err fault ∷ behind → read trees s old ≡ Err (Lex fault.at)
no_token_came s old fault behind e = read_failed trees s old fault behind e

-- what was made of an answer whose fault is told as an error
pub no_token_told : {X : Type 0} (old : Reading) (behind : List Answer) (answer : Result X LexFault) (told : Result X ParseError) (Makes : LexFault → ParseError → Type 0)
    → ((fault : LexFault) (error : ParseError) → Makes fault error → error ≡ Lex fault.at) → IfErr answer (λ fault. old.rest ≡ Err fault ∷ behind)
    → MatchResult answer (λ x. told ≡ Ok x) (λ fault. IsErrAnd told (Makes fault)) → IfErr told (λ error. (s : State) → read trees s old ≡ Err error)
no_token_told old behind (Err fault) (Err error) Makes h e m = λ s. no_token_came s old fault behind e ∙ ap Err (sym (h fault error m))
no_token_told old behind (Err fault) (Ok x) Makes h e m = absurd m
no_token_told old behind (Ok x) told Makes h e m = subst (λ v. IfErr v (λ error. (s : State) → read trees s old ≡ Err error)) (sym m) tt

-- ---- no token may come

pub dead_token : (old new : Reading) (token : Lexeme) → old.rest ≡ Ok token ∷ new.rest → new.end ≡ old.end → read trees dead old ≡ Err (Syntax token.at)
unfolding step
dead_token old new token e g = read_next trees dead old new token e g

pub dead_end : (old : Reading) → old.rest ≡ [] → read trees dead old ≡ Err (Syntax old.end)
unfolding tree_at
dead_end old e = read_end trees dead old e

-- ---- states that one token decides

pub due_came : (s : State) (p : Piece) (old new : Reading) → Came (fits p) old.rest new.rest → new.end ≡ old.end → read trees (due p s) old ≡ read trees s new
unfolding step
due_came s p old new m g =
    read_next trees (due p s) old new m.token m.all g ∙ ap (λ v. read_on trees v m.token new) (if_then (fits p m.token) (Some s) None m.is)

pub due_missing : (s : State) (p : Piece) (old : Reading) → Off (fits p) old.rest → read trees (due p s) old ≡ read trees dead old
unfolding step tree_at
due_missing s p old o = alike trees (due p s) dead (fits p) old (λ token h. if_else (fits p token) (Some s) None h) refl o

pub fork_came : (bytes : List ℕ) (s other : State) (old new : Reading) → Came (fits (word bytes)) old.rest new.rest → new.end ≡ old.end
    → read trees (fork bytes s other) old ≡ read trees s new
unfolding step
fork_came bytes s other old new m g =
    read_next trees (fork bytes s other) old new m.token m.all g
    ∙ ap (λ v. read_on trees v m.token new) (if_then (fits (word bytes) m.token) (Some s) (step other m.token) m.is)

pub fork_missing : (bytes : List ℕ) (s other : State) (old : Reading) → Off (fits (word bytes)) old.rest → read trees (fork bytes s other) old ≡ read trees other old
unfolding step tree_at
fork_missing bytes s other old o =
    alike trees (fork bytes s other) other (fits (word bytes)) old (λ token h. if_else (fits (word bytes) token) (Some s) (step other token) h) refl o

pub word_came : (sort : Sort) (k : Named → State) (n : Named) (old new : Reading) → old.rest ≡ Ok (named_token n) ∷ new.rest → is_of sort n.bytes ≡ true → new.end ≡ old.end
    → read trees (want sort k) old ≡ read trees (k n) new
unfolding step
word_came sort k n old new e h g =
    read_next trees (want sort k) old new (named_token n) e g
    ∙ ap (λ v. read_on trees v (named_token n) new) (if_then (has_sort sort (named_token n)) (Some (k n)) None h)

pub word_missing : (sort : Sort) (k : Named → State) (old : Reading) → Off (has_sort sort) old.rest → read trees (want sort k) old ≡ read trees dead old
unfolding step tree_at
word_missing sort k old o = alike trees (want sort k) dead (has_sort sort) old (λ token h. if_else (has_sort sort token) (Some (k (named_by token))) None h) refl o

pub number_came : (k : Named → State) (n : Named) (old new : Reading) → old.rest ≡ Ok (number_token n) ∷ new.rest → new.end ≡ old.end
    → read trees (want_number k) old ≡ read trees (k n) new
unfolding step
number_came k n old new e g = read_next trees (want_number k) old new (number_token n) e g

pub number_missing : (k : Named → State) (old : Reading) → Off (has_kind Number) old.rest → read trees (want_number k) old ≡ read trees dead old
unfolding step tree_at
number_missing k old o = alike trees (want_number k) dead (has_kind Number) old (λ token h. if_else (has_kind Number token) (Some (k (named_by token))) None h) refl o

pub second_came : (two three : State) (old new : Reading) → Came (fits (version_number Second)) old.rest new.rest → new.end ≡ old.end
    → read trees (versioned two three) old ≡ read trees two new
unfolding step
second_came two three old new m g =
    read_next trees (versioned two three) old new m.token m.all g
    ∙ ap (λ v. read_on trees v m.token new) (if_then (fits (version_number Second) m.token) (Some two) _ m.is)

-- another number than 2
third_due : (two three : State) (old : Reading) → Off (fits (version_number Second)) old.rest → read trees (versioned two three) old ≡ read trees (due (version_number Third) three) old
unfolding step tree_at
third_due two three old o =
    alike trees (versioned two three) (due (version_number Third) three) (fits (version_number Second)) old
    (λ token h. if_else (fits (version_number Second) token) (Some two) (if fits (version_number Third) token then Some three else None) h) refl o

pub third_came : (two three : State) (old new : Reading) → Off (fits (version_number Second)) old.rest → Came (fits (version_number Third)) old.rest new.rest → new.end ≡ old.end
    → read trees (versioned two three) old ≡ read trees three new
third_came two three old new o m g = third_due two three old o ∙ due_came three (version_number Third) old new m g

pub no_version : (two three : State) (old : Reading) → Off (fits (version_number Second)) old.rest → Off (fits (version_number Third)) old.rest
    → read trees (versioned two three) old ≡ read trees dead old
no_version two three old o p = third_due two three old o ∙ due_missing three (version_number Third) old p

-- ---- states that go on where a test fails

pub name_came : (front : List Named) (last : Named) (k : List Named → Named → ℕ → State) (n : Named) (old new : Reading)
    → old.rest ≡ Ok (named_token n) ∷ new.rest → is_of Name n.bytes ≡ true → new.end ≡ old.end
    → read trees (names front last k) old ≡ read trees (names (front ++ last ∷ []) n k) new
unfolding step
name_came front last k n old new e h g =
    read_next trees (names front last k) old new (named_token n) e g
    ∙ ap (λ v. read_on trees v (named_token n) new) (if_then (has_sort Name (named_token n)) (Some (names (front ++ last ∷ []) n k)) _ h)

pub names_over : (front : List Named) (last : Named) (k : List Named → Named → ℕ → State) (old : Reading)
    → Off (has_sort Name) old.rest → read trees (names front last k) old ≡ read trees (stars front last 0 k) old
unfolding step tree_at
names_over front last k old o =
    alike trees (names front last k) (stars front last 0 k) (has_sort Name) old
    (λ token h. if_else (has_sort Name token) (Some (names (front ++ last ∷ []) (named_by token) k))
    (if fits star token then Some (stars front last 1 k) else step (k front last 0) token) h) refl o

pub star_came : (front : List Named) (last : Named) (n : ℕ) (k : List Named → Named → ℕ → State) (old new : Reading)
    → Came (fits star) old.rest new.rest → new.end ≡ old.end → read trees (stars front last n k) old ≡ read trees (stars front last (n + 1) k) new
unfolding step
star_came front last n k old new m g =
    read_next trees (stars front last n k) old new m.token m.all g
    ∙ ap (λ v. read_on trees v m.token new) (if_then (fits star m.token) (Some (stars front last (n + 1) k)) (step (k front last n) m.token) m.is)

pub stars_over : (front : List Named) (last : Named) (n : ℕ) (k : List Named → Named → ℕ → State) (old : Reading)
    → Off (fits star) old.rest → read trees (stars front last n k) old ≡ read trees (k front last n) old
unfolding step tree_at
stars_over front last n k old o =
    alike trees (stars front last n k) (k front last n) (fits star) old
    (λ token h. if_else (fits star token) (Some (stars front last (n + 1) k)) (step (k front last n) token) h) refl o

pub form_came : (k : Named → State) (s : State) (n : Named) (old new : Reading) → old.rest ≡ Ok (named_token n) ∷ new.rest → is_of Form n.bytes ≡ true → new.end ≡ old.end
    → read trees (either k s) old ≡ read trees (k n) new
unfolding step
form_came k s n old new e h g =
    read_next trees (either k s) old new (named_token n) e g
    ∙ ap (λ v. read_on trees v (named_token n) new) (if_then (has_sort Form (named_token n)) (Some (k n)) (step s (named_token n)) h)

pub form_missing : (k : Named → State) (s : State) (old : Reading) → Off (has_sort Form) old.rest → read trees (either k s) old ≡ read trees s old
unfolding step tree_at
form_missing k s old o =
    alike trees (either k s) s (has_sort Form) old (λ token h. if_else (has_sort Form token) (Some (k (named_by token))) (step s token) h) refl o

pub comma_came : (params : List Param) (k : List Param → State) (old new : Reading) → Came (fits comma) old.rest new.rest → new.end ≡ old.end
    → read trees (listed params k) old ≡ read trees (param k params) new
unfolding step
comma_came params k old new m g =
    read_next trees (listed params k) old new m.token m.all g
    ∙ ap (λ v. read_on trees v m.token new) (if_then (fits comma m.token) (Some (param k params)) _ m.is)

pub comma_missing : (params : List Param) (k : List Param → State) (old : Reading) → Off (fits comma) old.rest
    → read trees (listed params k) old ≡ read trees (due close_bracket (k params)) old
unfolding step tree_at
comma_missing params k old o =
    alike trees (listed params k) (due close_bracket (k params)) (fits comma) old
    (λ token h. if_else (fits comma token) (Some (param k params)) (if fits close_bracket token then Some (k params) else None) h) refl o

pub field_came : (fields : List Named) (k : List Named → State) (old new : Reading) → Came (fits comma) old.rest new.rest → new.end ≡ old.end
    → read trees (fielded fields k) old ≡ read trees (want Name (λ n. fielded (fields ++ n ∷ []) k)) new
unfolding step
field_came fields k old new m g =
    read_next trees (fielded fields k) old new m.token m.all g
    ∙ ap (λ v. read_on trees v m.token new) (if_then (fits comma m.token) (Some (want Name (λ n. fielded (fields ++ n ∷ []) k))) _ m.is)

pub fields_over : (fields : List Named) (k : List Named → State) (old : Reading) → Off (fits comma) old.rest
    → read trees (fielded fields k) old ≡ read trees (due close_bracket (k fields)) old
unfolding step tree_at
fields_over fields k old o =
    alike trees (fielded fields k) (due close_bracket (k fields)) (fits comma) old
    (λ token h. if_else (fits comma token) (Some (want Name (λ n. fielded (fields ++ n ∷ []) k))) (if fits close_bracket token then Some (k fields) else None) h) refl o

-- ---- a type and a name

pub declared_none : (go : TypeName → Named → State) (front : List Named) (last : Named) (n : ℕ) (old : Reading) → n ≡ 0 → front ≡ []
    → read trees (declared go front last n) old ≡ read trees dead old
declared_none go front last n old e g =
    ap (λ v. read trees (declared go front last v) old) e ∙ ap (λ v. read trees (declared go v last 0) old) g

pub declared_bare : (go : TypeName → Named → State) (front : List Named) (last : Named) (n : ℕ) (old : Reading) → n ≡ 0 → (front ≡ [] → ⊥)
    → read trees (declared go front last n) old ≡ read trees (go (record { names = front; stars = 0 }) last) old
declared_bare go front last n old e g =
    ap (λ v. read trees (declared go front last v) old) e
    ∙ ap (λ v. read trees v old) (if_else (length front == 0) dead (go (record { names = front; stars = 0 }) last) (full front g))
  where
    full : (xs : List Named) → (xs ≡ [] → ⊥) → (length xs == 0) ≡ false
    full [] h = absurd (h refl)
    full (x ∷ xs) h = eqb-suc-zero (length xs)

pub declared_starred : (go : TypeName → Named → State) (front : List Named) (last : Named) (n : ℕ) (old : Reading) → (n ≡ 0 → ⊥)
    → read trees (declared go front last n) old ≡ read trees (want Name (λ m. go (type_of front last n) m)) old
declared_starred go front last n old h =
    ap (λ v. read trees v old) (if_else (n == 0) _ (want Name (λ m. go (type_of front last n) m)) (some n h))
  where
    some : (n : ℕ) → (n ≡ 0 → ⊥) → (n == 0) ≡ false
    some zero h = absurd (h refl)
    some (suc n) h = eqb-suc-zero n

-- ---- statements

pub statement_came : (facts : Facts) (before : List Statement) (old new : Reading) (token : Lexeme) → old.rest ≡ Ok token ∷ new.rest → new.end ≡ old.end
    → read trees (statements facts before) old ≡ read_on trees (statement_after (with_statement facts before) token) token new
unfolding step
statement_came facts before old new token e g = read_next trees (statements facts before) old new token e g

pub statement_end : (facts : Facts) (before : List Statement) (old : Reading) → old.rest ≡ [] → read trees (statements facts before) old ≡ Ok (record { facts = facts; statements = before })
unfolding tree_at
statement_end facts before old e = read_end trees (statements facts before) old e

-- after the first token of a statement, by the tests that fail and the one that holds

pub is_one : (go : Statement → State) (token : Lexeme) (r : Reading) → has_sort one_word token ≡ true
    → read_on trees (statement_after go token) token r ≡ read trees (one_rest go (named_by token)) r
is_one go token r h = ap (λ v. read_on trees v token r) (if_then (has_sort one_word token) _ _ h)

pub is_two : (go : Statement → State) (token : Lexeme) (r : Reading) → has_sort one_word token ≡ false → has_sort two_word token ≡ true
    → read_on trees (statement_after go token) token r ≡ read trees (two_rest go (named_by token)) r
is_two go token r a h = ap (λ v. read_on trees v token r) (if_else (has_sort one_word token) _ _ a ∙ if_then (has_sort two_word token) _ _ h)

pub is_set : (go : Statement → State) (token : Lexeme) (r : Reading) → has_sort one_word token ≡ false → has_sort two_word token ≡ false
    → fits (word (codes "desc_data_retval")) token ≡ true
    → read_on trees (statement_after go token) token r ≡ read trees (returned_rest go Set) r
is_set go token r a b h =
    ap (λ v. read_on trees v token r) (if_else (has_sort one_word token) _ _ a ∙ if_else (has_sort two_word token) _ _ b
    ∙ if_then (fits (word (codes "desc_data_retval")) token) _ _ h)

pub is_add : (go : Statement → State) (token : Lexeme) (r : Reading) → has_sort one_word token ≡ false → has_sort two_word token ≡ false
    → fits (word (codes "desc_data_retval")) token ≡ false → fits (word (codes "desc_data_retval_add")) token ≡ true
    → read_on trees (statement_after go token) token r ≡ read trees (returned_rest go Add) r
is_add go token r a b c h =
    ap (λ v. read_on trees v token r) (if_else (has_sort one_word token) _ _ a ∙ if_else (has_sort two_word token) _ _ b
    ∙ if_else (fits (word (codes "desc_data_retval")) token) _ _ c
    ∙ if_then (fits (word (codes "desc_data_retval_add")) token) _ _ h)

-- another kind of token is no word that a version keeps for itself
no_kept : (go : Statement → State) (token : Lexeme) (other : Option State) → has_kind Mark token ≡ false → kept_after go token other ≡ other
no_kept go token other h =
    if_else (fits (kept (codes "desc_data_retval_sub")) token) _ _ (off (codes "desc_data_retval_sub"))
    ∙ if_else (fits (kept (codes "sm_external")) token) _ _ (off (codes "sm_external"))
    ∙ if_else (fits (kept (codes "desc_data_most")) token) _ _ (off (codes "desc_data_most"))
    ∙ if_else (fits (kept (codes "desc_data_unique")) token) _ _ (off (codes "desc_data_unique"))
    ∙ if_else (fits (kept (codes "sm_answer")) token) _ _ (off (codes "sm_answer"))
  where
    off : (bytes : List ℕ) → fits (kept bytes) token ≡ false
    off bytes = ap (λ b. b && pointwise nat_eq token.bytes bytes) h

pub is_kept : (go : Statement → State) (token : Lexeme) (r : Reading) → has_sort one_word token ≡ false → has_sort two_word token ≡ false
    → fits (word (codes "desc_data_retval")) token ≡ false → fits (word (codes "desc_data_retval_add")) token ≡ false → has_kind Mark token ≡ true
    → read_on trees (statement_after go token) token r ≡ read_on trees (kept_after go token None) token r
is_kept go token r a b c d h =
    ap (λ v. read_on trees v token r) (if_else (has_sort one_word token) _ _ a ∙ if_else (has_sort two_word token) _ _ b
    ∙ if_else (fits (word (codes "desc_data_retval")) token) _ _ c
    ∙ if_else (fits (word (codes "desc_data_retval_add")) token) _ _ d
    ∙ ap (kept_after go token) (if_else (has_sort Name token) (Some (plain_rest go (named_by token))) None (mark-has_sort Name token (kind_is token.kind Mark h))))

pub is_plain : (go : Statement → State) (token : Lexeme) (r : Reading) → has_sort one_word token ≡ false → has_sort two_word token ≡ false
    → fits (word (codes "desc_data_retval")) token ≡ false → fits (word (codes "desc_data_retval_add")) token ≡ false → has_kind Mark token ≡ false
    → has_sort Name token ≡ true
    → read_on trees (statement_after go token) token r ≡ read trees (plain_rest go (named_by token)) r
is_plain go token r a b c d e h =
    ap (λ v. read_on trees v token r) (if_else (has_sort one_word token) _ _ a ∙ if_else (has_sort two_word token) _ _ b
    ∙ if_else (fits (word (codes "desc_data_retval")) token) _ _ c
    ∙ if_else (fits (word (codes "desc_data_retval_add")) token) _ _ d
    ∙ no_kept go token (if has_sort Name token then Some (plain_rest go (named_by token)) else None) e
    ∙ if_then (has_sort Name token) _ _ h)

pub is_none : (go : Statement → State) (token : Lexeme) (r : Reading) → has_sort one_word token ≡ false → has_sort two_word token ≡ false
    → fits (word (codes "desc_data_retval")) token ≡ false → fits (word (codes "desc_data_retval_add")) token ≡ false → has_kind Mark token ≡ false
    → has_sort Name token ≡ false
    → read_on trees (statement_after go token) token r ≡ Err (Syntax token.at)
is_none go token r a b c d e h =
    ap (λ v. read_on trees v token r) (if_else (has_sort one_word token) _ _ a ∙ if_else (has_sort two_word token) _ _ b
    ∙ if_else (fits (word (codes "desc_data_retval")) token) _ _ c
    ∙ if_else (fits (word (codes "desc_data_retval_add")) token) _ _ d
    ∙ no_kept go token (if has_sort Name token then Some (plain_rest go (named_by token)) else None) e
    ∙ if_else (has_sort Name token) (Some (plain_rest go (named_by token))) None h)

-- after a word that a version keeps for itself, by the tests that fail and the one that holds

pub is_sub : (go : Statement → State) (token : Lexeme) (r : Reading) → fits (kept (codes "desc_data_retval_sub")) token ≡ true
    → read_on trees (kept_after go token None) token r ≡ read trees (returned_rest go Sub) r
is_sub go token r h = ap (λ v. read_on trees v token r) (if_then (fits (kept (codes "desc_data_retval_sub")) token) _ _ h)

pub is_external : (go : Statement → State) (token : Lexeme) (r : Reading) → fits (kept (codes "desc_data_retval_sub")) token ≡ false → fits (kept (codes "sm_external")) token ≡ true
    → read_on trees (kept_after go token None) token r ≡ read trees (external_rest go) r
is_external go token r a h =
    ap (λ v. read_on trees v token r) (if_else (fits (kept (codes "desc_data_retval_sub")) token) _ _ a ∙ if_then (fits (kept (codes "sm_external")) token) _ _ h)

pub is_most : (go : Statement → State) (token : Lexeme) (r : Reading) → fits (kept (codes "desc_data_retval_sub")) token ≡ false → fits (kept (codes "sm_external")) token ≡ false
    → fits (kept (codes "desc_data_most")) token ≡ true
    → read_on trees (kept_after go token None) token r ≡ read trees (most_rest go) r
is_most go token r a b h =
    ap (λ v. read_on trees v token r) (if_else (fits (kept (codes "desc_data_retval_sub")) token) _ _ a ∙ if_else (fits (kept (codes "sm_external")) token) _ _ b
    ∙ if_then (fits (kept (codes "desc_data_most")) token) _ _ h)

pub is_unique : (go : Statement → State) (token : Lexeme) (r : Reading) → fits (kept (codes "desc_data_retval_sub")) token ≡ false → fits (kept (codes "sm_external")) token ≡ false
    → fits (kept (codes "desc_data_most")) token ≡ false → fits (kept (codes "desc_data_unique")) token ≡ true
    → read_on trees (kept_after go token None) token r ≡ read trees (unique_rest go) r
is_unique go token r a b c h =
    ap (λ v. read_on trees v token r) (if_else (fits (kept (codes "desc_data_retval_sub")) token) _ _ a ∙ if_else (fits (kept (codes "sm_external")) token) _ _ b
    ∙ if_else (fits (kept (codes "desc_data_most")) token) _ _ c
    ∙ if_then (fits (kept (codes "desc_data_unique")) token) _ _ h)

pub is_answer : (go : Statement → State) (token : Lexeme) (r : Reading) → fits (kept (codes "desc_data_retval_sub")) token ≡ false → fits (kept (codes "sm_external")) token ≡ false
    → fits (kept (codes "desc_data_most")) token ≡ false → fits (kept (codes "desc_data_unique")) token ≡ false → fits (kept (codes "sm_answer")) token ≡ true
    → read_on trees (kept_after go token None) token r ≡ read trees (answer_rest go) r
is_answer go token r a b c d h =
    ap (λ v. read_on trees v token r) (if_else (fits (kept (codes "desc_data_retval_sub")) token) _ _ a ∙ if_else (fits (kept (codes "sm_external")) token) _ _ b
    ∙ if_else (fits (kept (codes "desc_data_most")) token) _ _ c
    ∙ if_else (fits (kept (codes "desc_data_unique")) token) _ _ d
    ∙ if_then (fits (kept (codes "sm_answer")) token) _ _ h)

pub is_no_statement : (go : Statement → State) (token : Lexeme) (r : Reading) → fits (kept (codes "desc_data_retval_sub")) token ≡ false → fits (kept (codes "sm_external")) token ≡ false
    → fits (kept (codes "desc_data_most")) token ≡ false → fits (kept (codes "desc_data_unique")) token ≡ false → fits (kept (codes "sm_answer")) token ≡ false
    → read_on trees (kept_after go token None) token r ≡ Err (Syntax token.at)
is_no_statement go token r a b c d h =
    ap (λ v. read_on trees v token r) (if_else (fits (kept (codes "desc_data_retval_sub")) token) _ _ a ∙ if_else (fits (kept (codes "sm_external")) token) _ _ b
    ∙ if_else (fits (kept (codes "desc_data_most")) token) _ _ c
    ∙ if_else (fits (kept (codes "desc_data_unique")) token) _ _ d
    ∙ if_else (fits (kept (codes "sm_answer")) token) _ _ h)
