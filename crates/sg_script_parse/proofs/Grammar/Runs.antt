-- Tokens read one after another, and the scripts that they are.
use Rattle.std.proofs.Common.{◌≡◌, Bool, true, false, List, [], ◌∷◌, ◌++◌, refl, sym, ap, subst, ◌∙◌}
use Rattle.std.specs.Prelude.{None, Some}
use Rattle.std.specs.List.{list_all}
use Rattle.std.proofs.lemmas.List.{append-nil}
use Rattle.sg_lex.specs.Lexeme.{Lexeme, Spelling}
use Rattle.sg_lex.specs.Sentences.{Begins, ArePieces}
use Rattle.sg_lex.proofs.Automata.{Runs, runs-append}
use Rattle.sg_lex.proofs.Answers.{ReadsJust}
use Rattle.sg_script_parse.specs.declared.error.ScriptSyntax.{ScriptSyntax}
use Rattle.sg_script_parse.specs.declared.tree.WrittenArg.TheVariants.{Number as number_arg}
use Rattle.sg_script_parse.specs.declared.tree.Part.{Part}
use Rattle.sg_script_parse.specs.Grammar.Pieces.{ScriptPiece, mark, IsScriptPiece}
use Rattle.sg_script_parse.specs.Grammar.Inside.Pieces.{number, word}
use Rattle.sg_script_parse.specs.Grammar.Sentence.{IsScriptSentence, is_named_for}
use Rattle.sg_script_parse.specs.Grammar.Inside.States.{ScriptState, dead, due, want, want_word, argument, bracketed, listed, body, counts, script, script_start, step, parts_at, scripts, scripts_for}
use Rattle.sg_script_parse.proofs.Grammar.Basics.{none_some, some_is, made, if_then, bytes_same}
use Rattle.sg_script_parse.proofs.Grammar.Thens.{parts_are, parts_then}
use Rattle.sg_script_parse.proofs.Grammar.Grown.{HasRead, grown}
use Rattle.sg_script_parse.proofs.Grammar.Goes.{parts_go}
use Rattle.sg_lex.specs.Inside.Marks.{close_bracket_byte, close_brace_byte, semicolon_byte}

-- ---- at the end

pub script_at : (several : Bool) (parts : List Part) → parts_at (script several parts) ≡ Some parts
unfolding parts_at
script_at several parts = refl

-- a state that has been read, and at which the text may end
record Ended (several : Bool) (s : ScriptState) (f : List ScriptPiece → List ScriptPiece) (parts : List Part) : Type 0 where
  is : s ≡ script several parts
  pieces : (r : List ScriptPiece) → f r ≡ parts_then parts r
  stops : list_all (is_named_for several) parts ≡ true

ended_at : (several : Bool) (s : ScriptState) (f : List ScriptPiece → List ScriptPiece) (parts : List Part) → HasRead several s f → parts_at s ≡ Some parts → Ended several s f parts
unfolding parts_at
ended_at several (script one ps) f parts h e =
    let same : ps ≡ parts = some_is ps parts e in
    record {
      is = ap (λ b. script b ps) h.2 ∙ ap (script several) same;
      pieces = λ r. h.0 r ∙ ap (λ l. parts_then l r) same;
      stops = ap (list_all (is_named_for several)) (sym same) ∙ h.1;
    }
ended_at several dead f parts h e = absurd h
ended_at several (due byte s) f parts h e = none_some (Ended several (due byte s) f parts) parts e
ended_at several (want k) f parts h e = none_some (Ended several (want k) f parts) parts e
ended_at several (want_word k) f parts h e = none_some (Ended several (want_word k) f parts) parts e
ended_at several (argument k) f parts h e = none_some (Ended several (argument k) f parts) parts e
ended_at several (bracketed k) f parts h e = none_some (Ended several (bracketed k) f parts) parts e
ended_at several (listed args k) f parts h e = none_some (Ended several (listed args k) f parts) parts e
ended_at several (body calls k) f parts h e = none_some (Ended several (body calls k) f parts) parts e
ended_at several (counts numbers k) f parts h e = none_some (Ended several (counts numbers k) f parts) parts e

-- ---- what tokens are

-- the pieces that tokens are, where reading them leads to a state
record Spelt (several : Bool) (f : List ScriptPiece → List ScriptPiece) (tokens : List Lexeme) (end : ScriptState) : Type 0 where
  pieces : List ScriptPiece
  are : ArePieces IsScriptPiece tokens pieces
  has : HasRead several end (λ r. f (pieces ++ r))

spelt : (several : Bool) (s end : ScriptState) (f : List ScriptPiece → List ScriptPiece) (tokens : List Lexeme) → HasRead several s f → Runs scripts s tokens end → Spelt several f tokens end
spelt several s end f [] h g = record { pieces = []; are = tt; has = subst (λ v. HasRead several v f) g h }
spelt several s end f (t ∷ ts) h g =
    let a = grown several s f t g.0 h g.1 in
    let b = spelt several g.0 end (λ r. f (a.piece ∷ r)) ts a.has g.2 in
    record { pieces = a.piece ∷ b.pieces; are = (a.is, b.are); has = b.has }

read_to : (several : Bool) (tokens : List Lexeme) (end : ScriptState) → Runs scripts (script_start several) tokens end → Spelt several (λ r. r) tokens end
read_to several tokens end h = spelt several (script_start several) end (λ r. r) tokens ((λ r. refl), refl, refl) h

-- ---- every state that is reached can be completed

record Completed (several : Bool) (s : ScriptState) : Type 0 where
  tokens : List Lexeme
  parts : List Part
  runs : Runs scripts s tokens (script several parts)

-- a number or a word, whichever
any_spelling : Spelling
any_spelling = record { bytes = 0x30 ∷ []; at = 0 }

then_piece : (several : Bool) (s mid : ScriptState) (p : ScriptPiece) → step s (made p 0) ≡ Some mid → Completed several mid → Completed several s
then_piece several s mid p e c = record { tokens = made p 0 ∷ c.tokens; parts = c.parts; runs = (mid, e, c.runs) }

completed : (several : Bool) (s : ScriptState) (f : List ScriptPiece → List ScriptPiece) → HasRead several s f → Completed several s
unfolding step
completed several dead f h = absurd h
completed several (due byte s) f h =
    then_piece several (due byte s) s (mark (byte ∷ [])) (if_then _ (Some s) None (bytes_same (byte ∷ []))) (completed several s _ h)
completed several (want k) f h = then_piece several (want k) (k any_spelling) (number any_spelling) refl (completed several (k any_spelling) _ (h any_spelling))
completed several (want_word k) f h = then_piece several (want_word k) (k any_spelling) (word any_spelling) refl (completed several (k any_spelling) _ (h any_spelling))
completed several (argument k) f h =
    then_piece several (argument k) (k (number_arg any_spelling)) (number any_spelling) refl (completed several (k (number_arg any_spelling)) _ (h (number_arg any_spelling)))
completed several (bracketed k) f h = then_piece several (bracketed k) (k []) (mark (close_bracket_byte ∷ [])) refl (completed several (k []) _ (h []))
completed several (listed args k) f h =
    then_piece several (listed args k) (k args) (mark (close_bracket_byte ∷ [])) refl (subst (λ v. Completed several (k v)) (append-nil args) (completed several (k (args ++ [])) _ (h [])))
completed several (body calls k) f h =
    then_piece several (body calls k) (k calls) (mark (close_brace_byte ∷ [])) refl (subst (λ v. Completed several (k v)) (append-nil calls) (completed several (k (calls ++ [])) _ (h [])))
completed several (counts numbers k) f h =
    then_piece several (counts numbers k) (k numbers) (mark (semicolon_byte ∷ [])) refl (subst (λ v. Completed several (k v)) (append-nil numbers) (completed several (k (numbers ++ [])) _ (h [])))
completed several (script one parts) f h = record { tokens = []; parts = parts; runs = ap (λ b. script b parts) h.2 }

-- ---- sentences

pub reached : (several : Bool) (tokens : List Lexeme) (parts : List Part) → IsScriptSentence several tokens parts → Runs scripts (script_start several) tokens (script several parts)
reached several tokens parts h = parts_go several parts [] h.1 tokens (subst (ArePieces IsScriptPiece tokens) (parts_are parts) h.0)

pub sentence_of : (several : Bool) (tokens : List Lexeme) (parts : List Part) (end : ScriptState) → Runs scripts (script_start several) tokens end → parts_at end ≡ Some parts
    → IsScriptSentence several tokens parts
sentence_of several tokens parts end h is =
    let s = read_to several tokens end h in
    let e = ended_at several end (λ r. s.pieces ++ r) parts s.has is in
    (subst (ArePieces IsScriptPiece tokens) (sym (append-nil s.pieces) ∙ e.pieces [] ∙ sym (parts_are parts)) s.are, e.stops)

-- what is read begins a sentence
pub begins_of : (several : Bool) (tokens : List Lexeme) (end : ScriptState) → Runs scripts (script_start several) tokens end → Begins (IsScriptSentence several) tokens
begins_of several tokens end h =
    let c = completed several end _ (read_to several tokens end h).has in (
      c.tokens,
      c.parts,
      sentence_of several (tokens ++ c.tokens) c.parts (script several c.parts)
          (runs-append scripts (script_start several) end (script several c.parts) tokens c.tokens h c.runs) (script_at several c.parts),
    )

-- ---- the start doesn't matter

-- tokens lead on in an automaton as they do in one that starts elsewhere
runs_as : (several other : Bool) (s : ScriptState) (tokens : List Lexeme) (end : ScriptState) → Runs (scripts_for several) s tokens end → Runs (scripts_for other) s tokens end
runs_as several other s [] end h = h
runs_as several other s (t ∷ ts) end h = (h.0, h.1, runs_as several other h.0 ts end h.2)

-- the automaton reads just the scripts
pub just : (several : Bool) → ReadsJust ScriptState (List Part) ScriptSyntax (scripts_for several) (IsScriptSentence several)
just several = record {
  reached = λ tokens parts is. record {
    end = script several parts;
    runs = runs_as false several (script_start several) tokens (script several parts) (reached several tokens parts is);
    is = script_at several parts;
  };
  sentence_of = λ tokens parts end runs is. sentence_of several tokens parts end (runs_as several false (script_start several) tokens end runs) is;
  begins_of = λ tokens end runs. begins_of several tokens end (runs_as several false (script_start several) tokens end runs);
}
