-- A text that prints a history is read to it.
use Rattle.std.proofs.Common.{◌≡◌, inl, inr, ℕ, ◌+◌, ◌≤◌, Bool, true, false, cond, not, List, [], ◌∷◌, ◌++◌, None, Some, length, map, refl, sym, ◌∙◌, ap, subst, append_assoc, arith}
use Rattle.std.specs.Prelude.{◌==◌, ◌&&◌, codes}
use Rattle.std.specs.Char.{is_ascii_digit}
use Rattle.std.specs.List.{flat_map, list_all, onto_first, slice_split}
use Rattle.std.specs.declared.option.Option.{Option}
use Rattle.std.proofs.lemmas.Bool.Decides.{nat_tests}
use Rattle.sg_entries.proofs.Flawless.{flawless_parts}
use Rattle.sg_entries.proofs.Rewritten.{tree_flawless, tree_of, tree_stands, tree_well_formed}
use Rattle.sg_entries.proofs.Spelt.{Tells, ended, line_printed, written}
use Rattle.sg_entries.proofs.Within.{each_both}
use Rattle.sg_entries.specs.Flaws.{flaws_from}
use Rattle.sg_entries.specs.Inside.Flaws.{in_line, too_many_entries}
use Rattle.sg_entries.specs.Lines.{begins_entry, entry_lines, entry_lines_of, front_lines, placed}
use Rattle.sg_entries.specs.Inside.Cutting.{line_feed, lines_from}
use Rattle.sg_entries.specs.Printed.{HasNames, MayBePrinted, PrintsHistory}
use Rattle.sg_entries.specs.Reads.{AreEntries}
use Rattle.sg_entries.specs.Inside.Parsing.{IsHistory}
use Rattle.sg_entries.specs.Standing.{entry_of}
use Rattle.sg_facts.specs.sg_base.Codes.{code_name}
use Rattle.sg_entries.specs.Entry.{answer_pieces, arg_pieces, entry_pieces}
use Rattle.sg_entries.specs.Inside.Forms.{IsWellFormed, args_pieces, bytes_pieces, desc_pieces, entry_bytes, next_arg_pieces, word_pieces}
use Rattle.sg_entries.specs.Pieces.{ArePlaced, EntryPiece, IsPiece, IsPositive, fixed, name, number, piece_bytes, positive, printable}
use Rattle.sg_entries.specs.Inside.Classes.{IsName, IsNumber}
use Rattle.sg_entries.specs.sg_lex.Lexeme.{Spelling}
use Rattle.sg_entries.specs.declared.tree.WrittenAnswer.{WrittenAnswer}
use Rattle.sg_entries.specs.declared.tree.WrittenAnswer.TheVariants.{Refused as refused, Ok as good}
use Rattle.sg_entries.specs.declared.tree.WrittenArg.{WrittenArg}
use Rattle.sg_entries.specs.declared.tree.WrittenArg.TheVariants.{Number, Text as text}
use Rattle.sg_entries.specs.declared.tree.WrittenEntry.{WrittenEntry}
use Rattle.sg_entries.specs.sg_lex.Bytes.{begins_word, is_in_word}
use Rattle.sg_facts.specs.Interface.{Declared}
use Rattle.sg_facts.specs.Words.{line_end}
use Rattle.sg_facts.specs.declared.entry.Entry.{Entry}
use Rattle.sg_facts.specs.sg_base.Lists.{Each}
use Rattle.sg_facts.specs.sg_base.Text.{is_text_byte}
use Rattle.sg_facts.specs.sg_base.declared.reply.Code.{Code}
use Rattle.sg_facts.specs.sg_base.declared.reply.Code.TheVariants.{NoDesc, NoParent, BadState, HasChildren, Full, NotOwner, Held, Occupied, NotFound, Overflow, Gap, TooBig, BadName}
use Rattle.sg_report.specs.Report.{entry_line}

-- ---- bytes that end no line

-- bytes without LF
abbrev pub IsWithin : List ℕ → Type 0
IsWithin bytes = list_all (λ b. not (b == line_feed)) bytes ≡ true

right : (a b : Bool) → a && b ≡ true → b ≡ true
right true b e = e
right false b e = absurd cc

left : (a b : Bool) → a && b ≡ true → a ≡ true
left true b e = refl
left false b e = absurd cc

both : (a b : Bool) → a ≡ true → b ≡ true → a && b ≡ true
both a b x y = ap (λ v. v && b) x ∙ y

within_more : (xs ys : List ℕ) → IsWithin xs → IsWithin ys → IsWithin (xs ++ ys)
within_more [] ys h g = g
within_more (x ∷ xs) ys h g = both (not (x == line_feed)) _ (left (not (x == line_feed)) _ h) (within_more xs ys (right (not (x == line_feed)) _ h) g)

-- bytes of a kind in which LF isn't
within_all : (test : ℕ → Bool) → ((b : ℕ) → test b ≡ true → not (b == line_feed) ≡ true) → (bytes : List ℕ) → list_all test bytes ≡ true → IsWithin bytes
within_all test other [] all = refl
within_all test other (b ∷ bytes) all = both (not (b == line_feed)) _ (other b (left (test b) _ all)) (within_all test other bytes (right (test b) _ all))

digit_within : (b : ℕ) → is_ascii_digit b ≡ true → not (b == line_feed) ≡ true
digit_within b is = grind (arith, nat_tests, is)

text_within : (b : ℕ) → is_text_byte b ≡ true → not (b == line_feed) ≡ true
text_within b is = grind (arith, nat_tests, is)

word_within : (b : ℕ) → is_in_word b ≡ true → not (b == line_feed) ≡ true
word_within b is = grind (arith, nat_tests, is)

begin_within : (b : ℕ) → begins_word b ≡ true → not (b == line_feed) ≡ true
begin_within b is = grind (arith, nat_tests, is)

positive_within : (bytes : List ℕ) → IsPositive bytes → IsWithin bytes
positive_within [] is = refl
positive_within (b ∷ bytes) is = both (not (b == line_feed)) _ (digit_within b (left (is_ascii_digit b) _ is.0)) (within_all is_ascii_digit digit_within bytes is.1)

number_within : (bytes : List ℕ) → IsNumber bytes → IsWithin bytes
number_within bytes (inl zero) = subst IsWithin (sym zero) refl
number_within bytes (inr is) = positive_within bytes is

name_within : (bytes : List ℕ) → IsName bytes → IsWithin bytes
name_within [] is = refl
name_within (b ∷ bytes) is = both (not (b == line_feed)) _ (begin_within b is.0) (within_all is_in_word word_within bytes is.1)

-- fixed bytes of a piece are without LF
abbrev IsFixedWithin : EntryPiece → Type 0
IsFixedWithin (fixed bytes) = IsWithin bytes
IsFixedWithin (number s) = Unit {0}
IsFixedWithin (positive s) = Unit {0}
IsFixedWithin (name s) = Unit {0}
IsFixedWithin (printable s) = Unit {0}

piece_within : (place : ℕ) (p : EntryPiece) → IsPiece place p → IsFixedWithin p → IsWithin (piece_bytes p)
piece_within place (fixed bytes) is own = own
piece_within place (number s) is own = number_within s.bytes is.0
piece_within place (positive s) is own = positive_within s.bytes is.0
piece_within place (name s) is own = name_within s.bytes is.0
piece_within place (printable s) is own = within_all is_text_byte text_within s.bytes is.0

pieces_within : (place : ℕ) (pieces : List EntryPiece) → ArePlaced place pieces → Each IsFixedWithin pieces → IsWithin (written pieces)
pieces_within place [] are own = refl
pieces_within place (p ∷ pieces) are own =
    within_more (piece_bytes p) (written pieces) (piece_within place p are.0 own.0) (pieces_within (place + length (piece_bytes p)) pieces are.1 own.1)

arg_fixed : (a : WrittenArg) → Each IsFixedWithin (arg_pieces a)
arg_fixed (Number n) = (tt, tt)
arg_fixed (text t) = (refl, (tt, (refl, tt)))

next_args_fixed : (args : List WrittenArg) → Each IsFixedWithin (flat_map next_arg_pieces args)
next_args_fixed [] = tt
next_args_fixed (a ∷ args) = (refl, each_both IsFixedWithin (arg_pieces a) (flat_map next_arg_pieces args) (arg_fixed a) (next_args_fixed args))

args_fixed : (args : List WrittenArg) → Each IsFixedWithin (args_pieces args)
args_fixed [] = tt
args_fixed (a ∷ args) = each_both IsFixedWithin (arg_pieces a) (flat_map next_arg_pieces args) (arg_fixed a) (next_args_fixed args)

desc_fixed : (desc : Option Spelling) → Each IsFixedWithin (desc_pieces desc)
desc_fixed None = tt
desc_fixed (Some d) = (refl, (tt, tt))

words_fixed : (words : List Spelling) → Each IsFixedWithin (flat_map word_pieces words)
words_fixed [] = tt
words_fixed (w ∷ words) = (refl, (tt, words_fixed words))

bytes_fixed : (bytes : Option Spelling) → Each IsFixedWithin (bytes_pieces bytes)
bytes_fixed None = tt
bytes_fixed (Some t) = (refl, (refl, (tt, (refl, tt))))

code_fixed : (code : Code) → IsWithin (code_name code)
code_fixed NoDesc = refl
code_fixed NoParent = refl
code_fixed BadState = refl
code_fixed HasChildren = refl
code_fixed Full = refl
code_fixed NotOwner = refl
code_fixed Held = refl
code_fixed Occupied = refl
code_fixed NotFound = refl
code_fixed Overflow = refl
code_fixed Gap = refl
code_fixed TooBig = refl
code_fixed BadName = refl

answer_fixed : (answer : WrittenAnswer) → Each IsFixedWithin (answer_pieces answer)
answer_fixed (refused code) = (refl, (code_fixed code, tt))
answer_fixed (good desc words bytes) = (
  refl,
  each_both IsFixedWithin (desc_pieces desc ++ flat_map word_pieces words) (bytes_pieces bytes)
      (each_both IsFixedWithin (desc_pieces desc) (flat_map word_pieces words) (desc_fixed desc) (words_fixed words)) (bytes_fixed bytes),
)

-- the line of an entry is without LF
entry_within : (shows : List ℕ → Bool) (e : WrittenEntry) → IsWellFormed shows e → IsWithin (entry_bytes e)
entry_within shows e is =
    pieces_within 0 (entry_pieces e) is.0 (
      refl,
      (
        tt,
        (
          refl,
          (
            tt,
            (
              refl,
              (
                tt,
                (
                  refl,
                  each_both IsFixedWithin (args_pieces e.args) (fixed (codes ")") ∷ fixed (codes " = ") ∷ answer_pieces e.answer) (args_fixed e.args)
                      (refl, (refl, answer_fixed e.answer)),
                ),
              ),
            ),
          ),
        ),
      ),
    )

-- ---- the lines of a text

first_within : (b : ℕ) (parts : List (List ℕ)) → b == line_feed ≡ false → Each IsWithin parts → Each IsWithin (onto_first b parts)
first_within b [] other are = (both (not (b == line_feed)) true (ap not other) refl, tt)
first_within b (part ∷ parts) other are = (both (not (b == line_feed)) _ (ap not other) are.0, are.1)

split_within : (bytes : List ℕ) → Each IsWithin (slice_split (λ b. b == line_feed) bytes)
split_within [] = (refl, tt)
split_within (b ∷ bytes) = by (b == line_feed) refl (split_within bytes)
  where
    by : (t : Bool) → b == line_feed ≡ t → Each IsWithin (slice_split (λ b. b == line_feed) bytes)
        → Each IsWithin (cond t ([] ∷ slice_split (λ b. b == line_feed) bytes) (onto_first b (slice_split (λ b. b == line_feed) bytes)))
    by true is are = (refl, are)
    by false is are = first_within b (slice_split (λ b. b == line_feed) bytes) is are

-- a line is without LF
abbrev IsLine : Spelling → Type 0
IsLine l = IsWithin l.bytes

placed_within : (at : ℕ) (parts : List (List ℕ)) → Each IsWithin parts → Each IsLine (placed at parts)
placed_within at [] are = tt
placed_within at (part ∷ parts) are = (are.0, placed_within (at + length part + 1) parts are.1)

front_within : (lines : List Spelling) → Each IsLine lines → Each IsLine (front_lines lines)
front_within [] are = tt
front_within (l ∷ lines) are = by (begins_entry l.bytes) (front_within lines are.1)
  where
    by : (b : Bool) → Each IsLine (front_lines lines) → Each IsLine (cond b (l ∷ front_lines lines) [])
    by true later = (are.0, later)
    by false later = tt

entry_lines_within : (lines : List Spelling) → Each IsLine lines → Each IsLine (entry_lines lines)
entry_lines_within [] are = tt
entry_lines_within (l ∷ lines) are = by (begins_entry l.bytes) (entry_lines_within lines are.1)
  where
    by : (b : Bool) → Each IsLine (entry_lines lines) → Each IsLine (cond b (l ∷ front_lines lines) (entry_lines lines))
    by true later = (are.0, front_within lines are.1)
    by false later = later

lines_within : (bytes : List ℕ) → Each IsLine (entry_lines_of bytes)
lines_within bytes = entry_lines_within (lines_from 0 bytes) (placed_within 0 (slice_split (λ b. b == line_feed) bytes) (split_within bytes))

-- ---- line by line

-- two texts that end at their first LF, with what stands after it
cut : (xs ys rest others : List ℕ) → IsWithin xs → IsWithin ys → xs ++ line_feed ∷ rest ≡ ys ++ line_feed ∷ others → (xs ≡ ys) × (rest ≡ others)
cut [] [] rest others a b e = (refl, let tails : rest ≡ others = cc e in tails)
cut [] (y ∷ ys) rest others a b e =
    let head : line_feed ≡ y = cc e in
    let other = left (not (y == line_feed)) _ b in
    absurd (grind (arith, nat_tests, head, other))
cut (x ∷ xs) [] rest others a b e =
    let head : x ≡ line_feed = cc e in
    let other = left (not (x == line_feed)) _ a in
    absurd (grind (arith, nat_tests, head, other))
cut (x ∷ xs) (y ∷ ys) rest others a b e =
    let head : x ≡ y = cc e in
    let tails : xs ++ line_feed ∷ rest ≡ ys ++ line_feed ∷ others = cc e in
    let more = cut xs ys rest others (right (not (x == line_feed)) _ a) (right (not (y == line_feed)) _ b) tails in
    (ap (λ z. z ∷ xs) head ∙ ap (λ zs. y ∷ zs) more.0, more.1)

-- some bytes with an end aren't none
some_left : (xs rest : List ℕ) → xs ++ line_end ++ rest ≡ [] → ⊥
some_left [] rest e = absurd cc
some_left (x ∷ xs) rest e = absurd cc

-- the entries that lines are those of
record HasTrees (shows : List ℕ → Bool) (i : Declared) (nth : ℕ) (lines : List Spelling) (history : List Entry) : Type 0 where
  entries : List WrittenEntry
  parsed : AreEntries shows lines entries
  flawless : flaws_from i nth lines entries ≡ []
  is : history ≡ map (entry_of i) entries

small : (nth : ℕ) → nth + 1 ≤ too_many_entries → nth == too_many_entries ≡ false
small nth le = grind (arith, nat_tests, le)

trees_of : (shows : List ℕ → Bool) (i : Declared) → Tells shows i → HasNames i → (nth : ℕ) (lines : List Spelling) (history : List Entry) → Each IsLine lines → Each (MayBePrinted i) history → nth + length history ≤ too_many_entries
    → flat_map ended lines ≡ flat_map (entry_line i.facts) history → HasTrees shows i nth lines history
trees_of shows i tells names nth [] [] are may few e = record { entries = []; parsed = tt; flawless = refl; is = refl }
trees_of shows i tells names nth [] (h ∷ history) are may few e = absurd cc
trees_of shows i tells names nth (l ∷ lines) [] are may few e = absurd (some_left l.bytes (flat_map ended lines) e)
trees_of shows i tells names nth (l ∷ lines) (h ∷ history) are may few e =
    let t = tree_of i h in
    let formed = tree_well_formed i names h may.0 shows tells in
    let none = tree_flawless i names h may.0 nth (small nth (omega (arith, few))) in
    let stands = tree_stands i names h may.0 in
    let printed : entry_line i.facts h ≡ entry_bytes t ++ line_end = ap (entry_line i.facts) (sym stands) ∙ line_printed shows i tells (entry_bytes t) t (formed, refl) (flawless_parts i nth t none) in
    let same : l.bytes ++ line_feed ∷ flat_map ended lines ≡ entry_bytes t ++ line_feed ∷ flat_map (entry_line i.facts) history =
    sym (append_assoc l.bytes line_end (flat_map ended lines)) ∙ e ∙ ap (λ x. x ++ flat_map (entry_line i.facts) history) printed ∙ append_assoc (entry_bytes t) line_end (flat_map (entry_line i.facts) history) in
    let parts = cut l.bytes (entry_bytes t) (flat_map ended lines) (flat_map (entry_line i.facts) history) are.0 (entry_within shows t formed) same in
    let rest = trees_of shows i tells names (nth + 1) lines history are.1 may.1 (omega (arith, few)) parts.1 in
    record {
      entries = t ∷ rest.entries;
      parsed = ((formed, parts.0), rest.parsed);
      flawless = ap (λ f. map (in_line l) f ++ flaws_from i (nth + 1) lines rest.entries) none ∙ rest.flawless;
      is = ap (λ x. x ∷ history) (sym stands) ∙ ap (λ xs. entry_of i t ∷ xs) rest.is;
    }

-- a text that prints a history has it
pub has_history : (shows : List ℕ → Bool) (i : Declared) (bytes : List ℕ) (history : List Entry) → Tells shows i → HasNames i → PrintsHistory i bytes history → IsHistory shows i bytes history
has_history shows i bytes history tells names prints =
    let few = prints.few in
    let trees = trees_of shows i tells names 1 (entry_lines_of bytes) history (lines_within bytes) prints.entries (omega (arith, few)) prints.lines in
    (trees.entries, trees.parsed, trees.flawless, trees.is)
