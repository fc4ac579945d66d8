-- What has been read by a state: each token adds a piece to it, and each state that is reached can be completed.
use Rattle.std.proofs.Common.{◌≡◌, Bool, true, false, not, List, [], ◌∷◌, ◌++◌, refl, sym, ap, subst, ◌∙◌, append_assoc}
use Rattle.std.specs.Prelude.{None, Some, ◌&&◌, codes}
use Rattle.std.specs.List.{list_all}
use Rattle.std.proofs.lemmas.List.{append-nil}
use Rattle.sg_lex.specs.declared.token.TokenKind.TheVariants.{Word, Number, Text}
use Rattle.sg_lex.specs.Lexeme.{Lexeme, Spelling}
use Rattle.sg_script_parse.specs.declared.tree.WrittenArg.{WrittenArg}
use Rattle.sg_script_parse.specs.declared.tree.WrittenArg.TheVariants.{Number as number_arg, Text as text_arg, Back as back_arg}
use Rattle.sg_script_parse.specs.declared.tree.WrittenCall.{WrittenCall}
use Rattle.sg_script_parse.specs.declared.tree.Part.{Part}
use Rattle.sg_script_parse.specs.declared.tree.Part.TheVariants.{Setup, Client, Schedule, Stop}
use Rattle.sg_script_parse.specs.Grammar.Pieces.{ScriptPiece, mark, IsScriptPiece}
use Rattle.sg_script_parse.specs.Grammar.Inside.Pieces.{fixed, word, number, quoted}
use Rattle.sg_script_parse.specs.Grammar.Sentence.{arg_pieces, is_named_for}
use Rattle.sg_script_parse.specs.Grammar.Inside.States.{ScriptState, dead, due, want, want_word, argument, bracketed, listed, body, counts, script, spelt_by, argument_after, part_after, with_part, call_rest, setup_rest, client_rest, schedule_rest, stop_rest, step}
use Rattle.sg_lex.specs.Inside.Tests.{has_kind, is_this_mark, is_fixed}
use Rattle.sg_script_parse.proofs.Grammar.Basics.{none_some, chosen, of-is, mark-is, fixed-is, both_left, both_right}
use Rattle.sg_script_parse.proofs.Grammar.Thens.{listed_then, args_then, calls_then, numbers_then, part_then, parts_then, parts_snoc}
use Rattle.sg_lex.specs.Inside.Marks.{dollar_byte, close_bracket_byte, comma_byte, close_brace_byte, semicolon_byte}

-- with what the state wants, and whatever follows, the pieces are those of the parts, of a script for several services or for one
abbrev pub HasRead : Bool → ScriptState → (List ScriptPiece → List ScriptPiece) → Type 0
HasRead several dead f = ⊥
HasRead several (due byte s) f = HasRead several s (λ r. f (mark (byte ∷ []) ∷ r))
HasRead several (want k) f = (n : Spelling) → HasRead several (k n) (λ r. f (number n ∷ r))
HasRead several (want_word k) f = (s : Spelling) → HasRead several (k s) (λ r. f (word s ∷ r))
HasRead several (argument k) f = (a : WrittenArg) → HasRead several (k a) (λ r. f (arg_pieces a ++ r))
HasRead several (bracketed k) f = (args : List WrittenArg) → HasRead several (k args) (λ r. f (args_then args r))
HasRead several (listed args k) f = (more : List WrittenArg) → HasRead several (k (args ++ more)) (λ r. f (listed_then more r))
HasRead several (body calls k) f = (more : List WrittenCall) → HasRead several (k (calls ++ more)) (λ r. f (calls_then more r))
HasRead several (counts numbers k) f = (more : List Spelling) → HasRead several (k (numbers ++ more)) (λ r. f (numbers_then more r))
HasRead several (script one parts) f = ((r : List ScriptPiece) → f r ≡ parts_then parts r) × (list_all (is_named_for several) parts ≡ true) × (one ≡ several)

-- the token is a piece, and the state after it has read that too
pub record Grown (several : Bool) (f : List ScriptPiece → List ScriptPiece) (token : Lexeme) (next : ScriptState) : Type 0 where
  pub piece : ScriptPiece
  pub is : IsScriptPiece token piece
  pub has : HasRead several next (λ r. f (piece ∷ r))

-- one piece more
one_more : (several : Bool) (f : List ScriptPiece → List ScriptPiece) (token : Lexeme) (s next : ScriptState) (p : ScriptPiece) → IsScriptPiece token p → s ≡ next
    → HasRead several s (λ r. f (p ∷ r)) → Grown several f token next
one_more several f token s next p is e h = record { piece = p; is = is; has = subst (λ v. HasRead several v (λ r. f (p ∷ r))) e h }

argument_grown : (several : Bool) (k : WrittenArg → ScriptState) (f : List ScriptPiece → List ScriptPiece) (token : Lexeme) (next : ScriptState)
    → ((a : WrittenArg) → HasRead several (k a) (λ r. f (arg_pieces a ++ r))) → argument_after k token ≡ Some next → Grown several f token next
argument_grown several k f token next h e =
    chosen (Grown several f token next) (is_this_mark dollar_byte token) (want (λ n. k (back_arg n))) _ next e
    (λ t g. one_more several f token (want (λ n. k (back_arg n))) next (mark (dollar_byte ∷ [])) (mark-is dollar_byte token t) g (λ n. h (back_arg n)))
    (λ _ e1. chosen (Grown several f token next) (has_kind Text token) (k (text_arg (spelt_by token))) _ next e1
    (λ t g. one_more several f token (k (text_arg (spelt_by token))) next (quoted (spelt_by token)) (of-is Text token t) g (h (text_arg (spelt_by token))))
    (λ _ e2. chosen (Grown several f token next) (has_kind Number token) (k (number_arg (spelt_by token))) None next e2
    (λ t g. one_more several f token (k (number_arg (spelt_by token))) next (number (spelt_by token)) (of-is Number token t) g (h (number_arg (spelt_by token))))
    (λ _ e3. none_some (Grown several f token next) next e3)))

-- a test that holds of all, and of one more
all_and : (test : Part → Bool) (parts : List Part) (p : Part) → list_all test parts ≡ true → test p ≡ true → list_all test (parts ++ p ∷ []) ≡ true
all_and test [] p all is = ap (λ b. b && true) is
all_and test (q ∷ parts) p all is =
    ap (λ b. b && list_all test (parts ++ p ∷ [])) (both_left (test q) (list_all test parts) all) ∙ all_and test parts p (both_right (test q) (list_all test parts) all) is

part_grown : (several : Bool) (parts : List Part) (f : List ScriptPiece → List ScriptPiece) (token : Lexeme) (next : ScriptState)
    → ((r : List ScriptPiece) → f r ≡ parts_then parts r) → list_all (is_named_for several) parts ≡ true
    → part_after several (with_part several parts) token ≡ Some next → Grown several f token next
part_grown several parts f token next h all e =
    chosen (Grown several f token next) (is_fixed (codes "setup") token) (setup_rest (with_part several parts) token.at) _ next e
    (λ t g. one_more several f token (setup_rest (with_part several parts) token.at) next (fixed (codes "setup") token.at) (fixed-is (codes "setup") token t) g
    (λ calls. whole (Setup token.at calls) refl))
    (λ _ e1. chosen (Grown several f token next) (is_fixed (codes "client") token) (client_rest (with_part several parts) token.at) _ next e1
    (λ t g. one_more several f token (client_rest (with_part several parts) token.at) next (fixed (codes "client") token.at) (fixed-is (codes "client") token t) g
    (λ n calls. whole (Client token.at n calls) refl))
    (λ _ e2. chosen (Grown several f token next) (is_fixed (codes "schedule") token) (schedule_rest (with_part several parts) token.at) _ next e2
    (λ t g. one_more several f token (schedule_rest (with_part several parts) token.at) next (fixed (codes "schedule") token.at) (fixed-is (codes "schedule") token t) g
    (λ numbers. whole (Schedule token.at numbers) refl))
    (λ _ e3. chosen (Grown several f token next) (is_fixed (codes "stop") token) (stop_rest several (with_part several parts) token.at) None next e3
    (λ t g. one_more several f token (stop_rest several (with_part several parts) token.at) next (fixed (codes "stop") token.at) (fixed-is (codes "stop") token t) g
    (stops several refl))
    (λ _ e4. none_some (Grown several f token next) next e4))))
  where
    whole : (p : Part) → is_named_for several p ≡ true → HasRead several (with_part several parts p) (λ r. f (part_then p r))
    whole p is = ((λ r. h (part_then p r) ∙ sym (parts_snoc parts p r)), all_and (is_named_for several) parts p all is, refl)

    stops : (b : Bool) → several ≡ b → HasRead several (stop_rest b (with_part several parts) token.at) (λ r. f (fixed (codes "stop") token.at ∷ r))
    stops false one = λ numbers. whole (Stop token.at None numbers) (ap not one)
    stops true many = λ s numbers. whole (Stop token.at (Some s) numbers) many

pub grown : (several : Bool) (s : ScriptState) (f : List ScriptPiece → List ScriptPiece) (token : Lexeme) (next : ScriptState) → HasRead several s f → step s token ≡ Some next → Grown several f token next
unfolding step
grown several dead f token next h e = absurd h
grown several (due byte s) f token next h e =
    chosen (Grown several f token next) (is_this_mark byte token) s None next e
    (λ t g. one_more several f token s next (mark (byte ∷ [])) (mark-is byte token t) g h)
    (λ _ e1. none_some (Grown several f token next) next e1)
grown several (want k) f token next h e =
    chosen (Grown several f token next) (has_kind Number token) (k (spelt_by token)) None next e
    (λ t g. one_more several f token (k (spelt_by token)) next (number (spelt_by token)) (of-is Number token t) g (h (spelt_by token)))
    (λ _ e1. none_some (Grown several f token next) next e1)
grown several (want_word k) f token next h e =
    chosen (Grown several f token next) (has_kind Word token) (k (spelt_by token)) None next e
    (λ t g. one_more several f token (k (spelt_by token)) next (word (spelt_by token)) (of-is Word token t) g (h (spelt_by token)))
    (λ _ e1. none_some (Grown several f token next) next e1)
grown several (argument k) f token next h e = argument_grown several k f token next h e
grown several (bracketed k) f token next h e =
    chosen (Grown several f token next) (is_this_mark close_bracket_byte token) (k []) _ next e
    (λ t g. one_more several f token (k []) next (mark (close_bracket_byte ∷ [])) (mark-is close_bracket_byte token t) g (h []))
    (λ _ e1. argument_grown several (λ a. listed (a ∷ []) k) f token next (λ a more. h (a ∷ more)) e1)
grown several (listed args k) f token next h e =
    chosen (Grown several f token next) (is_this_mark comma_byte token) (argument (λ a. listed (args ++ a ∷ []) k)) _ next e
    (λ t g. one_more several f token (argument (λ a. listed (args ++ a ∷ []) k)) next (mark (comma_byte ∷ [])) (mark-is comma_byte token t) g
    (λ a more. subst (λ v. HasRead several (k v) (λ r. f (listed_then (a ∷ more) r))) (sym (append_assoc args (a ∷ []) more)) (h (a ∷ more))))
    (λ _ e1. chosen (Grown several f token next) (is_this_mark close_bracket_byte token) (k args) None next e1
    (λ t g. one_more several f token (k args) next (mark (close_bracket_byte ∷ [])) (mark-is close_bracket_byte token t) g
    (subst (λ v. HasRead several (k v) (λ r. f (mark (close_bracket_byte ∷ []) ∷ r))) (append-nil args) (h [])))
    (λ _ e2. none_some (Grown several f token next) next e2))
grown several (body calls k) f token next h e =
    chosen (Grown several f token next) (has_kind Word token) (call_rest (λ c. body (calls ++ c ∷ []) k) (spelt_by token)) _ next e
    (λ t g. one_more several f token (call_rest (λ c. body (calls ++ c ∷ []) k) (spelt_by token)) next (word (spelt_by token)) (of-is Word token t) g
    (λ args more.
    let c : WrittenCall = record { name = spelt_by token; args = args } in
    subst (λ v. HasRead several (k v) (λ r. f (calls_then (c ∷ more) r))) (sym (append_assoc calls (c ∷ []) more)) (h (c ∷ more))))
    (λ _ e1. chosen (Grown several f token next) (is_this_mark close_brace_byte token) (k calls) None next e1
    (λ t g. one_more several f token (k calls) next (mark (close_brace_byte ∷ [])) (mark-is close_brace_byte token t) g
    (subst (λ v. HasRead several (k v) (λ r. f (mark (close_brace_byte ∷ []) ∷ r))) (append-nil calls) (h [])))
    (λ _ e2. none_some (Grown several f token next) next e2))
grown several (counts numbers k) f token next h e =
    chosen (Grown several f token next) (has_kind Number token) (counts (numbers ++ spelt_by token ∷ []) k) _ next e
    (λ t g. one_more several f token (counts (numbers ++ spelt_by token ∷ []) k) next (number (spelt_by token)) (of-is Number token t) g
    (λ more. subst (λ v. HasRead several (k v) (λ r. f (numbers_then (spelt_by token ∷ more) r))) (sym (append_assoc numbers (spelt_by token ∷ []) more))
    (h (spelt_by token ∷ more))))
    (λ _ e1. chosen (Grown several f token next) (is_this_mark semicolon_byte token) (k numbers) None next e1
    (λ t g. one_more several f token (k numbers) next (mark (semicolon_byte ∷ [])) (mark-is semicolon_byte token t) g
    (subst (λ v. HasRead several (k v) (λ r. f (mark (semicolon_byte ∷ []) ∷ r))) (append-nil numbers) (h [])))
    (λ _ e2. none_some (Grown several f token next) next e2))
grown several (script one parts) f token next h e =
    part_grown several parts f token next h.0 h.1 (subst (λ b. part_after b (with_part b parts) token ≡ Some next) h.2 e)
