-- How far a line has been read: an automaton over bytes, whose states carry what has been read so far. Nothing public
-- rests on the automaton, which is proved to read exactly the lines of entries, and says in what steps the parser goes.
use Rattle.std.specs.Prelude.{ℕ, zero, suc, ◌+◌, ◌==◌, Bool, true, false, if◌then◌else◌, List, [], ◌∷◌, ◌++◌, None, Some, codes}
use Rattle.std.specs.declared.option.Option.{Option}
use Rattle.std.specs.Option.{option_map}
use Rattle.std.specs.Char.{is_ascii_digit}
use Rattle.sg_facts.specs.sg_base.declared.reply.Code.{Code}
use Rattle.sg_facts.specs.sg_base.Text.{is_text_byte}
use Rattle.sg_lex.specs.Bytes.{begins_word, is_in_word}
use Rattle.sg_lex.specs.Inside.Marks.{open_bracket_byte, close_bracket_byte, comma_byte}
use Rattle.sg_entries.specs.declared.tree.WrittenArg.{WrittenArg}
use Rattle.sg_entries.specs.declared.tree.WrittenArg.TheVariants.{Number, Text}
use Rattle.sg_entries.specs.declared.tree.WrittenAnswer.{WrittenAnswer}
use Rattle.sg_entries.specs.declared.tree.WrittenAnswer.TheVariants.{Refused, Ok}
use Rattle.sg_entries.specs.declared.tree.WrittenEntry.{WrittenEntry}
use Rattle.sg_lex.specs.Lexeme.{Spelling}
use Rattle.sg_entries.specs.Inside.Classes.{is_first_digit}
use Rattle.sg_entries.specs.Inside.Forms.{quote_byte}
use Rattle.sg_entries.specs.Inside.CodeWords.{code_of, begins_code}

-- ---- states

-- how far a line has been read: what may come next, with what was read so far
pub data EntryState : Type 0 where
  -- the end
  done : WrittenEntry → EntryState
  -- a byte of a class, and then the state of its place and of it
  first : (ℕ → Bool) → (ℕ → ℕ → EntryState) → EntryState
  -- a byte of a class, and then the state of its place and of it; with any other what may come in the last state
  orelse : (ℕ → Bool) → (ℕ → ℕ → EntryState) → EntryState → EntryState
  -- after bytes from a place on: a further one of the class; with any other what may come in the state of them all
  run : (ℕ → Bool) → ℕ → List ℕ → (Spelling → EntryState) → EntryState
  -- after an argument: a comma and a further one, or `)` and then the state of them all
  listed : List WrittenArg → (List WrittenArg → EntryState) → EntryState
  -- after some bytes of a code: a further one, or the end
  coded : List ℕ → (Code → WrittenEntry) → EntryState

-- this byte, and then the state
abbrev pub byte : ℕ → EntryState → EntryState
byte b s = first (λ c. c == b) (λ place c. s)

-- these bytes, and then the state
abbrev pub bytes : List ℕ → EntryState → EntryState
bytes [] s = s
bytes (b ∷ bs) s = byte b (bytes bs s)

-- a number that isn't 0, and then the state of it
abbrev pub positive : (Spelling → EntryState) → EntryState
positive k = first is_first_digit (λ place c. run is_ascii_digit place (c ∷ []) k)

-- a number, and then the state of it
abbrev pub number : (Spelling → EntryState) → EntryState
number k = orelse (λ c. c == 0x30) (λ place c. k (record { bytes = c ∷ []; at = place })) (positive k)

-- a name, and then the state of it
abbrev pub name : (Spelling → EntryState) → EntryState
name k = first begins_word (λ place c. run is_in_word place (c ∷ []) k)

-- after the first quote, from this place on: a text and its last quote, and then the state of it
abbrev pub text_rest : ℕ → (Spelling → EntryState) → EntryState
text_rest place k = run is_text_byte place [] (λ t. byte quote_byte (k t))

-- a text in quotes, and then the state of it
abbrev pub text : (Spelling → EntryState) → EntryState
text k = first (λ c. c == quote_byte) (λ place c. text_rest (place + 1) k)

-- an argument, and then the state of it
abbrev pub argument : (WrittenArg → EntryState) → EntryState
argument k = orelse (λ c. c == quote_byte) (λ place c. text_rest (place + 1) (λ t. k (Text t))) (number (λ n. k (Number n)))

-- after `(`: arguments or none, `)`, and then the state of them
abbrev pub bracketed : (List WrittenArg → EntryState) → EntryState
bracketed k = orelse (λ c. c == close_bracket_byte) (λ place c. k []) (argument (λ a. listed (a ∷ []) k))

-- after the comma: a space, an argument, and what may come after it
abbrev pub comma_rest : List WrittenArg → (List WrittenArg → EntryState) → EntryState
comma_rest args k = byte 0x20 (argument (λ a. listed (args ++ a ∷ []) k))

-- up to so many further words, each with a space before it, and the end
unfoldable pub words : ℕ → Option Spelling → List Spelling → (WrittenAnswer → WrittenEntry) → EntryState
words zero desc read k = done (k (Ok desc read None))
words (suc n) desc read k =
    orelse (λ c. c == 0x20) (λ place c. number (λ w. words n desc (read ++ w ∷ []) k)) (done (k (Ok desc read None)))

-- up to so many further words, each with a space after it, and then a text and the end
unfoldable pub words_and_bytes : ℕ → Option Spelling → List Spelling → (WrittenAnswer → WrittenEntry) → EntryState
words_and_bytes zero desc read k = text (λ t. done (k (Ok desc read (Some t))))
words_and_bytes (suc n) desc read k =
    orelse (λ c. c == quote_byte) (λ place c. text_rest (place + 1) (λ t. done (k (Ok desc read (Some t)))))
    (number (λ w. byte 0x20 (words_and_bytes n desc (read ++ w ∷ []) k)))

-- after `ok` and a space, of a function that doesn't show its bytes
abbrev pub spaced_rest : (WrittenAnswer → WrittenEntry) → EntryState
spaced_rest k = orelse (λ c. c == 0x23) (λ place c. positive (λ d. words 4 (Some d) [] k)) (number (λ w. words 3 None (w ∷ []) k))

-- after `ok` and a space, of a function that shows its bytes
abbrev pub shown_rest : (WrittenAnswer → WrittenEntry) → EntryState
shown_rest k = orelse (λ c. c == 0x23) (λ place c. positive (λ d. byte 0x20 (words_and_bytes 4 (Some d) [] k))) (words_and_bytes 4 None [] k)

-- after `ok`, of a function that shows its bytes, or doesn't
unfoldable pub given : Bool → (WrittenAnswer → WrittenEntry) → EntryState
given true k = byte 0x20 (shown_rest k)
given false k =
    orelse (λ c. c == 0x20) (λ place c. spaced_rest k) (done (k (Ok None [] None)))

-- an answer and the end
abbrev pub answered : Bool → (WrittenAnswer → WrittenEntry) → EntryState
answered shown k =
    orelse (λ c. c == 0x6F) (λ place c. byte 0x6B (given shown k)) (bytes (codes "refused ") (coded [] (λ code. k (Refused code))))

-- after the arguments: the answer, by whether a function of a name shows its bytes
abbrev pub call_answer : (List ℕ → Bool) → Spelling → Spelling → Spelling → List WrittenArg → EntryState
call_answer shows client seq function args =
    bytes (codes " = ") (answered (shows function.bytes) (λ answer. record { client = client; seq = seq; name = function; args = args; answer = answer }))

-- after the name: the arguments and the answer
abbrev pub call_rest : (List ℕ → Bool) → Spelling → Spelling → Spelling → EntryState
call_rest shows client seq function = byte open_bracket_byte (bracketed (call_answer shows client seq function))

-- after the client's number: the number of the call, its name and the rest
abbrev pub client_rest : (List ℕ → Bool) → Spelling → EntryState
client_rest shows client = byte 0x2E (number (λ seq. byte 0x20 (name (call_rest shows client seq))))

-- before the first byte
abbrev pub entry_start : (List ℕ → Bool) → EntryState
entry_start shows = byte 0x63 (number (client_rest shows))

-- ---- steps

-- the state after a byte at a place; None where the byte may not come
unfoldable pub step : EntryState → ℕ → ℕ → Option EntryState
step (done e) place b = None
step (first p g) place b = if p b then Some (g place b) else None
step (orelse p g s) place b = if p b then Some (g place b) else step s place b
step (run p from read k) place b =
    if p b then Some (run p from (read ++ b ∷ []) k) else step (k (record { bytes = read; at = from })) place b
step (listed args k) place b =
    if b == comma_byte then Some (comma_rest args k)
    else (if b == close_bracket_byte then Some (k args)
    else None)
step (coded read k) place b = if begins_code (read ++ b ∷ []) then Some (coded (read ++ b ∷ []) k) else None

-- the entry, where the line may end here
unfoldable pub entry_at : EntryState → Option WrittenEntry
entry_at (done e) = Some e
entry_at (first p g) = None
entry_at (orelse p g s) = entry_at s
entry_at (run p from read k) = entry_at (k (record { bytes = read; at = from }))
entry_at (listed args k) = None
entry_at (coded read k) = option_map k (code_of read)
