-- What is read from a state, by the token that comes next.
use Rattle.std.proofs.Common.{◌≡◌, ℕ, Bool, if◌then◌else◌, true, false, List, [], ◌∷◌, ◌++◌, refl, sym, ap, ◌∙◌}
use Rattle.std.specs.Prelude.{None, Some, Ok, Err, codes}
use Rattle.sg_lex.specs.declared.token.LexFault.{LexFault}
use Rattle.sg_lex.specs.declared.token.TokenKind.TheVariants.{Word, Number, Text}
use Rattle.sg_lex.specs.Lexeme.{Lexeme, Spelling}
use Rattle.sg_lex.specs.Tokens.{Answer}
use Rattle.sg_script_parse.specs.declared.error.ScriptSyntax.TheVariants.{Syntax}
use Rattle.sg_script_parse.specs.declared.tree.WrittenArg.{WrittenArg}
use Rattle.sg_script_parse.specs.declared.tree.WrittenArg.TheVariants.{Number as number_arg, Text as text_arg, Back as back_arg}
use Rattle.sg_script_parse.specs.declared.tree.WrittenCall.{WrittenCall}
use Rattle.sg_script_parse.specs.declared.tree.Part.{Part}
use Rattle.sg_script_parse.specs.Grammar.Inside.States.{ScriptState, dead, due, want, want_word, argument, bracketed, listed, body, counts, script, spelt_by, argument_after, call_rest, setup_rest, client_rest, schedule_rest, stop_rest, part_after, with_part, step, parts_at, scripts}
use Rattle.sg_lex.specs.Inside.Tests.{has_kind, is_this_mark, is_fixed}
use Rattle.sg_lex.specs.Inside.Automata.{Reading, read, read_on}
use Rattle.sg_script_parse.proofs.Grammar.Basics.{if_then, if_else}
use Rattle.sg_lex.proofs.Automata.{read_failed, read_next, read_end, goes_on, alike}
use Rattle.sg_script_parse.specs.Inside.{spelt_token}
use Rattle.sg_lex.specs.Inside.Ahead.{Off, Came}
use Rattle.sg_lex.specs.Inside.Marks.{dollar_byte, close_bracket_byte, comma_byte, close_brace_byte, semicolon_byte}

-- ---- no token comes

pub no_token_came : (s : ScriptState) (old : Reading) (fault : LexFault) (behind : List Answer) → old.rest ≡ Err fault ∷ behind → read scripts s old ≡ Err (Syntax fault.at)
no_token_came s old fault behind e = read_failed scripts s old fault behind e

-- ---- no token may come

pub dead_token : (old new : Reading) (token : Lexeme) → old.rest ≡ Ok token ∷ new.rest → new.end ≡ old.end → read scripts dead old ≡ Err (Syntax token.at)
unfolding step
dead_token old new token e g = read_next scripts dead old new token e g

pub dead_end : (old : Reading) → old.rest ≡ [] → read scripts dead old ≡ Err (Syntax old.end)
unfolding parts_at
dead_end old e = read_end scripts dead old e

-- ---- states that one token decides

pub due_came : (byte : ℕ) (s : ScriptState) (old new : Reading) → Came (is_this_mark byte) old.rest new.rest → new.end ≡ old.end → read scripts (due byte s) old ≡ read scripts s new
unfolding step
due_came byte s old new m g = goes_on scripts (due byte s) s old new m.token m.all g (if_then (is_this_mark byte m.token) (Some s) None m.is)

pub due_missing : (byte : ℕ) (s : ScriptState) (old : Reading) → Off (is_this_mark byte) old.rest → read scripts (due byte s) old ≡ read scripts dead old
unfolding step parts_at
due_missing byte s old o = alike scripts (due byte s) dead (is_this_mark byte) old (λ token h. if_else (is_this_mark byte token) (Some s) None h) refl o

pub number_came : (k : Spelling → ScriptState) (n : Spelling) (old new : Reading) → old.rest ≡ Ok (spelt_token Number n) ∷ new.rest → new.end ≡ old.end
    → read scripts (want k) old ≡ read scripts (k n) new
unfolding step
number_came k n old new e g = goes_on scripts (want k) (k n) old new (spelt_token Number n) e g refl

pub number_missing : (k : Spelling → ScriptState) (old : Reading) → Off (has_kind Number) old.rest → read scripts (want k) old ≡ read scripts dead old
unfolding step parts_at
number_missing k old o = alike scripts (want k) dead (has_kind Number) old (λ token h. if_else (has_kind Number token) (Some (k (spelt_by token))) None h) refl o

pub word_came : (k : Spelling → ScriptState) (w : Spelling) (old new : Reading) → old.rest ≡ Ok (spelt_token Word w) ∷ new.rest → new.end ≡ old.end
    → read scripts (want_word k) old ≡ read scripts (k w) new
unfolding step
word_came k w old new e g = goes_on scripts (want_word k) (k w) old new (spelt_token Word w) e g refl

pub word_missing : (k : Spelling → ScriptState) (old : Reading) → Off (has_kind Word) old.rest → read scripts (want_word k) old ≡ read scripts dead old
unfolding step parts_at
word_missing k old o = alike scripts (want_word k) dead (has_kind Word) old (λ token h. if_else (has_kind Word token) (Some (k (spelt_by token))) None h) refl o

-- ---- arguments

pub dollar_came : (k : WrittenArg → ScriptState) (old new : Reading) → Came (is_this_mark dollar_byte) old.rest new.rest → new.end ≡ old.end
    → read scripts (argument k) old ≡ read scripts (want (λ n. k (back_arg n))) new
unfolding step
dollar_came k old new m g =
    goes_on scripts (argument k) (want (λ n. k (back_arg n))) old new m.token m.all g (if_then (is_this_mark dollar_byte m.token) (Some (want (λ n. k (back_arg n)))) _ m.is)

pub text_came : (k : WrittenArg → ScriptState) (t : Spelling) (old new : Reading) → old.rest ≡ Ok (spelt_token Text t) ∷ new.rest → new.end ≡ old.end
    → read scripts (argument k) old ≡ read scripts (k (text_arg t)) new
unfolding step
text_came k t old new e g = goes_on scripts (argument k) (k (text_arg t)) old new (spelt_token Text t) e g refl

-- neither `$` nor a text: a number
pub neither_came : (k : WrittenArg → ScriptState) (old : Reading) → Off (is_this_mark dollar_byte) old.rest → Off (has_kind Text) old.rest
    → read scripts (argument k) old ≡ read scripts (want (λ n. k (number_arg n))) old
unfolding step parts_at
neither_came k old o p = by old.rest refl o p
  where
    by : (answers : List Answer) → old.rest ≡ answers → Off (is_this_mark dollar_byte) answers → Off (has_kind Text) answers → read scripts (argument k) old ≡ read scripts (want (λ n. k (number_arg n))) old
    by [] e o p = read_end scripts (argument k) old e ∙ sym (read_end scripts (want (λ n. k (number_arg n))) old e)
    by (Ok token ∷ answers) e o p =
        let new : Reading = record { rest = answers; end = old.end } in
        read_next scripts (argument k) old new token e refl
        ∙ ap (λ v. read_on scripts v token new) (if_else (is_this_mark dollar_byte token) (Some (want (λ n. k (back_arg n)))) _ o
        ∙ if_else (has_kind Text token) (Some (k (text_arg (spelt_by token)))) _ p)
        ∙ sym (read_next scripts (want (λ n. k (number_arg n))) old new token e refl)
    by (Err fault ∷ answers) e o p = absurd o

pub no_argument : (k : List WrittenArg → ScriptState) (old new : Reading) → Came (is_this_mark close_bracket_byte) old.rest new.rest → new.end ≡ old.end
    → read scripts (bracketed k) old ≡ read scripts (k []) new
unfolding step
no_argument k old new m g =
    goes_on scripts (bracketed k) (k []) old new m.token m.all g (if_then (is_this_mark close_bracket_byte m.token) (Some (k [])) _ m.is)

pub some_argument : (k : List WrittenArg → ScriptState) (old : Reading) → Off (is_this_mark close_bracket_byte) old.rest
    → read scripts (bracketed k) old ≡ read scripts (argument (λ a. listed (a ∷ []) k)) old
unfolding step parts_at
some_argument k old o =
    alike scripts (bracketed k) (argument (λ a. listed (a ∷ []) k)) (is_this_mark close_bracket_byte) old
    (λ token h. if_else (is_this_mark close_bracket_byte token) (Some (k [])) (argument_after (λ a. listed (a ∷ []) k) token) h) refl o

pub comma_came : (args : List WrittenArg) (k : List WrittenArg → ScriptState) (old new : Reading) → Came (is_this_mark comma_byte) old.rest new.rest → new.end ≡ old.end
    → read scripts (listed args k) old ≡ read scripts (argument (λ a. listed (args ++ a ∷ []) k)) new
unfolding step
comma_came args k old new m g =
    goes_on scripts (listed args k) (argument (λ a. listed (args ++ a ∷ []) k)) old new m.token m.all g
    (if_then (is_this_mark comma_byte m.token) (Some (argument (λ a. listed (args ++ a ∷ []) k))) _ m.is)

pub comma_missing : (args : List WrittenArg) (k : List WrittenArg → ScriptState) (old : Reading) → Off (is_this_mark comma_byte) old.rest
    → read scripts (listed args k) old ≡ read scripts (due close_bracket_byte (k args)) old
unfolding step parts_at
comma_missing args k old o =
    alike scripts (listed args k) (due close_bracket_byte (k args)) (is_this_mark comma_byte) old
    (λ token h. if_else (is_this_mark comma_byte token) (Some (argument (λ a. listed (args ++ a ∷ []) k))) (if is_this_mark close_bracket_byte token then Some (k args) else None) h) refl o

-- ---- calls and numbers

-- with one call more
abbrev pub with_call : List WrittenCall → (List WrittenCall → ScriptState) → WrittenCall → ScriptState
with_call calls k c = body (calls ++ c ∷ []) k

pub name_came : (calls : List WrittenCall) (k : List WrittenCall → ScriptState) (name : Spelling) (old new : Reading) → old.rest ≡ Ok (spelt_token Word name) ∷ new.rest → new.end ≡ old.end
    → read scripts (body calls k) old ≡ read scripts (call_rest (with_call calls k) name) new
unfolding step
name_came calls k name old new e g =
    goes_on scripts (body calls k) (call_rest (with_call calls k) name) old new (spelt_token Word name) e g refl

pub name_missing : (calls : List WrittenCall) (k : List WrittenCall → ScriptState) (old : Reading) → Off (has_kind Word) old.rest
    → read scripts (body calls k) old ≡ read scripts (due close_brace_byte (k calls)) old
unfolding step parts_at
name_missing calls k old o =
    alike scripts (body calls k) (due close_brace_byte (k calls)) (has_kind Word) old
    (λ token h. if_else (has_kind Word token) (Some (call_rest (with_call calls k) (spelt_by token))) (if is_this_mark close_brace_byte token then Some (k calls) else None) h) refl o

pub count_came : (numbers : List Spelling) (k : List Spelling → ScriptState) (n : Spelling) (old new : Reading) → old.rest ≡ Ok (spelt_token Number n) ∷ new.rest → new.end ≡ old.end
    → read scripts (counts numbers k) old ≡ read scripts (counts (numbers ++ n ∷ []) k) new
unfolding step
count_came numbers k n old new e g =
    goes_on scripts (counts numbers k) (counts (numbers ++ n ∷ []) k) old new (spelt_token Number n) e g refl

pub count_missing : (numbers : List Spelling) (k : List Spelling → ScriptState) (old : Reading) → Off (has_kind Number) old.rest
    → read scripts (counts numbers k) old ≡ read scripts (due semicolon_byte (k numbers)) old
unfolding step parts_at
count_missing numbers k old o =
    alike scripts (counts numbers k) (due semicolon_byte (k numbers)) (has_kind Number) old
    (λ token h. if_else (has_kind Number token) (Some (counts (numbers ++ spelt_by token ∷ []) k)) (if is_this_mark semicolon_byte token then Some (k numbers) else None) h) refl o

-- ---- parts

pub part_came : (several : Bool) (parts : List Part) (old new : Reading) (token : Lexeme) → old.rest ≡ Ok token ∷ new.rest → new.end ≡ old.end
    → read scripts (script several parts) old ≡ read_on scripts (part_after several (with_part several parts) token) token new
unfolding step
part_came several parts old new token e g = read_next scripts (script several parts) old new token e g

pub script_end : (several : Bool) (parts : List Part) (old : Reading) → old.rest ≡ [] → read scripts (script several parts) old ≡ Ok parts
unfolding parts_at
script_end several parts old e = read_end scripts (script several parts) old e

-- after the first token of a part, by the tests that fail and the one that holds

pub is_setup : (several : Bool) (go : Part → ScriptState) (token : Lexeme) (r : Reading) → is_fixed (codes "setup") token ≡ true
    → read_on scripts (part_after several go token) token r ≡ read scripts (setup_rest go token.at) r
is_setup several go token r h = ap (λ v. read_on scripts v token r) (if_then (is_fixed (codes "setup") token) _ _ h)

pub is_client : (several : Bool) (go : Part → ScriptState) (token : Lexeme) (r : Reading) → is_fixed (codes "setup") token ≡ false → is_fixed (codes "client") token ≡ true
    → read_on scripts (part_after several go token) token r ≡ read scripts (client_rest go token.at) r
is_client several go token r a h =
    ap (λ v. read_on scripts v token r) (if_else (is_fixed (codes "setup") token) _ _ a ∙ if_then (is_fixed (codes "client") token) _ _ h)

pub is_schedule : (several : Bool) (go : Part → ScriptState) (token : Lexeme) (r : Reading) → is_fixed (codes "setup") token ≡ false → is_fixed (codes "client") token ≡ false
    → is_fixed (codes "schedule") token ≡ true → read_on scripts (part_after several go token) token r ≡ read scripts (schedule_rest go token.at) r
is_schedule several go token r a b h =
    ap (λ v. read_on scripts v token r) (if_else (is_fixed (codes "setup") token) _ _ a ∙ if_else (is_fixed (codes "client") token) _ _ b
    ∙ if_then (is_fixed (codes "schedule") token) _ _ h)

pub is_stop : (several : Bool) (go : Part → ScriptState) (token : Lexeme) (r : Reading) → is_fixed (codes "setup") token ≡ false → is_fixed (codes "client") token ≡ false
    → is_fixed (codes "schedule") token ≡ false → is_fixed (codes "stop") token ≡ true
    → read_on scripts (part_after several go token) token r ≡ read scripts (stop_rest several go token.at) r
is_stop several go token r a b c h =
    ap (λ v. read_on scripts v token r) (if_else (is_fixed (codes "setup") token) _ _ a ∙ if_else (is_fixed (codes "client") token) _ _ b
    ∙ if_else (is_fixed (codes "schedule") token) _ _ c ∙ if_then (is_fixed (codes "stop") token) _ _ h)

pub is_no_part : (several : Bool) (go : Part → ScriptState) (token : Lexeme) (r : Reading) → is_fixed (codes "setup") token ≡ false → is_fixed (codes "client") token ≡ false
    → is_fixed (codes "schedule") token ≡ false → is_fixed (codes "stop") token ≡ false
    → read_on scripts (part_after several go token) token r ≡ Err (Syntax token.at)
is_no_part several go token r a b c d =
    ap (λ v. read_on scripts v token r) (if_else (is_fixed (codes "setup") token) _ _ a ∙ if_else (is_fixed (codes "client") token) _ _ b
    ∙ if_else (is_fixed (codes "schedule") token) _ _ c ∙ if_else (is_fixed (codes "stop") token) (Some (stop_rest several go token.at)) None d)
