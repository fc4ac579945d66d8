-- An entry without a flaw is printed as it is written.
use Rattle.std.proofs.Common.{◌≡◌, inl, inr, ℕ, ◌+◌, ◌*◌, ◌-◌, ◌^◌, ◌<◌, ◌≤◌, Bool, true, false, cond, not, List, [], ◌∷◌, ◌++◌, None, Some, length, map, refl, sym, ◌∙◌, ap, subst, append_assoc, append-nil, arith}
use Rattle.std.specs.Prelude.{◌==◌, ◌&&◌, nat_le, codes, if◌then◌else◌}
use Rattle.std.specs.Char.{is_ascii_digit}
use Rattle.std.specs.Fmt.{decimal}
use Rattle.std.specs.List.{flat_map, fold, list_all, list_any}
use Rattle.std.specs.declared.option.Option.{Option}
use Rattle.std.proofs.lemmas.Bool.Decides.{nat_tests}
use Rattle.std.proofs.lemmas.Fmt.{decimal-digits_value}
use Rattle.std.proofs.lemmas.Grind.{flat_map-append}
use Rattle.std.proofs.lemmas.List.{length-map}
use Rattle.std.proofs.lemmas.Str.Parse.{FoldsDigits, IsDigitsTest, IsNumeralModel, numerals_by_fold}
use Rattle.std.specs.Option.{is_some, option_map_or}
use Rattle.std.specs.Str.{bytes_eq}
use Rattle.sg_entries.proofs.Flawless.{IsFlawless, args_words, back_none, each_entry, entries_few, fits_bits, flawless_parts, front_none, has_fun, is_true, made_of, not_flawed}
use Rattle.sg_entries.proofs.Halves.{unmapped}
use Rattle.sg_entries.proofs.Within.{each_back, each_front}
use Rattle.sg_entries.specs.Flaws.{entry_flaws, flaws_from, text_flaws, values_fit}
use Rattle.sg_entries.specs.Inside.Flaws.{answer_flaws, arg_flaws, in_line, optional_flaws, word_flaws}
use Rattle.sg_entries.specs.Lines.{entry_lines_of}
use Rattle.sg_entries.specs.Printed.{AreTexts, IsShownReply, MayBePrinted, PrintsHistory}
use Rattle.sg_entries.specs.Reads.{AreEntries}
use Rattle.sg_entries.specs.Inside.Parsing.{IsHistory}
use Rattle.sg_entries.specs.Standing.{args_in, entry_of, id_in, number_of, value_of}
use Rattle.sg_entries.specs.Inside.Standing.{bytes_of, desc_of, fun_of, reply_of}
use Rattle.sg_entries.specs.declared.error.EntriesKind.TheVariants.{Limit}
use Rattle.sg_facts.specs.sg_base.Codes.{code_name, code_name as written_code}
use Rattle.sg_entries.specs.Entry.{IsAnswer, IsEntry, answer_pieces, arg_pieces, entry_pieces, shows_named}
use Rattle.sg_entries.specs.Inside.Forms.{args_pieces, bytes_pieces, desc_pieces, next_arg_pieces, word_pieces}
use Rattle.sg_entries.specs.Pieces.{ArePlaced, EntryPiece, IsPiece, IsPositive, fixed, name, number, piece_bytes, positive, printable}
use Rattle.sg_entries.specs.Inside.Classes.{IsNumber}
use Rattle.sg_entries.specs.sg_lex.Lexeme.{Spelling}
use Rattle.sg_entries.specs.declared.tree.WrittenAnswer.{WrittenAnswer}
use Rattle.sg_entries.specs.declared.tree.WrittenAnswer.TheVariants.{Refused as refused, Ok as good}
use Rattle.sg_entries.specs.declared.tree.WrittenArg.{WrittenArg}
use Rattle.sg_entries.specs.declared.tree.WrittenArg.TheVariants.{Number, Text as text}
use Rattle.sg_entries.specs.declared.tree.WrittenEntry.{WrittenEntry}
use Rattle.sg_facts.specs.Facts.{Facts, Fun, fun_at, shows_bytes}
use Rattle.sg_facts.specs.Interface.{Declared}
use Rattle.sg_facts.specs.Kinds.{AreWords}
use Rattle.sg_facts.specs.Words.{line_end}
use Rattle.sg_facts.specs.declared.entry.Entry.{Entry}
use Rattle.sg_facts.specs.declared.shape.Kind.{Kind}
use Rattle.sg_facts.specs.sg_base.Lists.{Each}
use Rattle.sg_facts.specs.sg_base.declared.reply.Code.{Code}
use Rattle.sg_facts.specs.sg_base.declared.reply.Code.TheVariants.{NoDesc, NoParent, BadState, HasChildren, Full, NotOwner, Held, Occupied, NotFound, Overflow, Gap, TooBig, BadName}
use Rattle.sg_facts.specs.sg_base.declared.value.Value.{Value}
use Rattle.sg_facts.specs.sg_base.declared.value.Value.TheVariants.{Word, Text}
use Rattle.sg_report.specs.Report.{entry_line, listed, reply_text, takes_id, value_text}
use Rattle.sg_report.specs.Inside.Pieces.{quoted}
use Rattle.sg_lex.specs.Numbers.{value_of_digits}
use Rattle.sg_script.specs.Numbers.{is_text}
use Rattle.sg_script.specs.Scripts.{declared_fun}

-- ---- numbers

right : (a b : Bool) → a && b ≡ true → b ≡ true
right true b e = e
right false b e = absurd cc

left : (a b : Bool) → a && b ≡ true → a ≡ true
left true b e = refl
left false b e = absurd cc

both : (a b : Bool) → a ≡ true → b ≡ true → a && b ≡ true
both a b x y = ap (λ v. v && b) x ∙ y

is_digit : (c : ℕ) → 48 ≤ c → c ≤ 57 → is_ascii_digit c ≡ true
is_digit c first last = grind (arith, nat_tests, first, last)

digits_test : IsDigitsTest (λ ds. list_all is_ascii_digit ds ≡ true)
digits_test = record {
  empty = refl;
  parts = λ c cs all. (
      let one = left (is_ascii_digit c) (list_all is_ascii_digit cs) all in
      ((grind (arith, nat_tests, one), grind (arith, nat_tests, one)), right (is_ascii_digit c) (list_all is_ascii_digit cs) all));
  more = λ c cs range all. both (is_ascii_digit c) (list_all is_ascii_digit cs) (is_digit c range.0 range.1) all;
}

-- what digits come to after a number
abbrev after : ℕ → List ℕ → ℕ
after a digits = fold (λ a d. 10 * a + (d - 48)) a digits

folds : FoldsDigits after
folds = record { empty = λ n. refl; more = λ n c cs range. ap (λ m. after m cs) (omega arith) }

pub numeral : IsNumeralModel (λ ds. list_all is_ascii_digit ds ≡ true) value_of_digits
numeral = numerals_by_fold (λ ds. list_all is_ascii_digit ds ≡ true) digits_test after folds

first_isnt_zero : (b : ℕ) → is_ascii_digit b && not (b == 48) ≡ true → b ≡ 48 → ⊥
first_isnt_zero b first zero = let no = right (is_ascii_digit b) (not (b == 48)) first in grind (arith, nat_tests, no, zero)

positive_printed : (bytes : List ℕ) → IsPositive bytes → value_of_digits bytes < 2 ^ 64 → decimal (value_of_digits bytes) ≡ bytes
positive_printed [] is small = absurd is
positive_printed (b ∷ bs) is small =
    decimal-digits_value numeral (b ∷ bs) (both (is_ascii_digit b) (list_all is_ascii_digit bs) (left (is_ascii_digit b) _ is.0) is.1) (omega arith)
    (λ zero. absurd (first_isnt_zero b is.0 zero)) small

-- a number is printed as it is written
number_printed : (n : Spelling) → IsNumber n.bytes → number_of n < 2 ^ 64 → decimal (number_of n) ≡ n.bytes
number_printed n (inl zero) small = ap (λ b. decimal (value_of_digits b)) zero ∙ decimal-digits_value numeral (48 ∷ []) refl (omega arith) (λ lead. refl) (omega arith) ∙ sym zero
number_printed n (inr is) small = positive_printed n.bytes is small

-- more digits don't make a number less
grows : (digits : List ℕ) (a : ℕ) → a ≤ after a digits
grows [] a = omega arith
grows (d ∷ digits) a = omega (arith, grows digits (10 * a + (d - 48)))

isnt_zero : (bytes : List ℕ) → IsPositive bytes → value_of_digits bytes == 0 ≡ false
isnt_zero [] is = absurd is
isnt_zero (b ∷ bs) is =
    let more = grows bs (10 * 0 + (b - 48)) in
    let digit = left (is_ascii_digit b) (not (b == 48)) is.0 in
    let other = right (is_ascii_digit b) (not (b == 48)) is.0 in
    grind (arith, nat_tests, more, digit, other)

-- ---- pieces

abbrev pub written : List EntryPiece → List ℕ
written pieces = flat_map piece_bytes pieces

-- what is spelt in a piece is what it is said to be
abbrev IsSpelt : EntryPiece → Type 0
IsSpelt (fixed bytes) = Unit {0}
IsSpelt (number s) = IsNumber s.bytes
IsSpelt (positive s) = IsPositive s.bytes
IsSpelt (name s) = Unit {0}
IsSpelt (printable s) = Unit {0}

piece_spelt : (place : ℕ) (p : EntryPiece) → IsPiece place p → IsSpelt p
piece_spelt place (fixed bytes) is = tt
piece_spelt place (number s) is = is.0
piece_spelt place (positive s) is = is.0
piece_spelt place (name s) is = tt
piece_spelt place (printable s) is = tt

pieces_spelt : (place : ℕ) (pieces : List EntryPiece) → ArePlaced place pieces → Each IsSpelt pieces
pieces_spelt place [] are = tt
pieces_spelt place (p ∷ pieces) are = (piece_spelt place p are.0, pieces_spelt (place + length (piece_bytes p)) pieces are.1)

two : {A : Type 0} (a b : List A) (c d : List A) → a ≡ b → c ≡ d → a ++ c ≡ b ++ d
two a b c d x y = ap (λ l. l ++ c) x ∙ ap (λ l. b ++ l) y

-- ---- arguments

arg_printed : (a : WrittenArg) → Each IsSpelt (arg_pieces a) → arg_flaws a ≡ [] → written (arg_pieces a) ≡ value_text (value_of a)
arg_printed (Number n) spelt none = append-nil n.bytes ∙ sym (number_printed n spelt.0 (fits_bits 64 n none))
arg_printed (text t) spelt none = refl

next_args_printed : (args : List WrittenArg) → Each IsSpelt (flat_map next_arg_pieces args) → flat_map arg_flaws args ≡ [] → written (flat_map next_arg_pieces args) ≡ flat_map (λ v. codes ", " ++ value_text v) (map value_of args)
next_args_printed [] spelt none = refl
next_args_printed (a ∷ args) spelt none =
    let own = arg_printed a (each_front IsSpelt (arg_pieces a) (flat_map next_arg_pieces args) spelt.1) (front_none (arg_flaws a) (flat_map arg_flaws args) none) in
    let later = next_args_printed args (each_back IsSpelt (arg_pieces a) (flat_map next_arg_pieces args) spelt.1) (back_none (arg_flaws a) (flat_map arg_flaws args) none) in
    ap (λ l. codes ", " ++ l) (flat_map-append piece_bytes (arg_pieces a) (flat_map next_arg_pieces args)
    ∙ two (written (arg_pieces a)) (value_text (value_of a)) (written (flat_map next_arg_pieces args)) (flat_map (λ v. codes ", " ++ value_text v) (map value_of args)) own later)

args_printed : (args : List WrittenArg) → Each IsSpelt (args_pieces args) → flat_map arg_flaws args ≡ [] → written (args_pieces args) ≡ listed (map value_of args)
args_printed [] spelt none = refl
args_printed (a ∷ args) spelt none =
    let own = arg_printed a (each_front IsSpelt (arg_pieces a) (flat_map next_arg_pieces args) spelt) (front_none (arg_flaws a) (flat_map arg_flaws args) none) in
    let later = next_args_printed args (each_back IsSpelt (arg_pieces a) (flat_map next_arg_pieces args) spelt) (back_none (arg_flaws a) (flat_map arg_flaws args) none) in
    flat_map-append piece_bytes (arg_pieces a) (flat_map next_arg_pieces args)
    ∙ two (written (arg_pieces a)) (value_text (value_of a)) (written (flat_map next_arg_pieces args)) (flat_map (λ v. codes ", " ++ value_text v) (map value_of args)) own later

-- what stands in a call's brackets, in its two parts
pub values_in : (takes : Bool) (kinds : List Kind) (values : List Value) → values_fit takes kinds values ≡ true
    → (if takes then Word (id_in takes values) ∷ args_in takes values else args_in takes values) ≡ values
values_in false kinds values fits = refl
values_in true kinds [] fits = absurd cc
values_in true kinds (Word n ∷ values) fits = refl
values_in true kinds (Text t ∷ values) fits = absurd cc

-- ---- answers

same_code : (code : Code) → written_code code ≡ code_name code
same_code NoDesc = refl
same_code NoParent = refl
same_code BadState = refl
same_code HasChildren = refl
same_code Full = refl
same_code NotOwner = refl
same_code Held = refl
same_code Occupied = refl
same_code NotFound = refl
same_code Overflow = refl
same_code Gap = refl
same_code TooBig = refl
same_code BadName = refl

desc_printed : (desc : Option Spelling) → Each IsSpelt (desc_pieces desc) → optional_flaws word_flaws desc ≡ []
    → written (desc_pieces desc) ≡ (if desc_of desc == 0 then [] else codes " #" ++ decimal (desc_of desc))
desc_printed None spelt none = refl
desc_printed (Some d) spelt none =
    let own : decimal (number_of d) ≡ d.bytes = positive_printed d.bytes spelt.1.0 (fits_bits 64 d none) in
    ap (λ l. codes " #" ++ l) (append-nil d.bytes ∙ sym own) ∙ sym (ap (λ b. cond b [] (codes " #" ++ decimal (number_of d))) (isnt_zero d.bytes spelt.1.0))

words_printed : (words : List Spelling) → Each IsSpelt (flat_map word_pieces words) → flat_map word_flaws words ≡ []
    → written (flat_map word_pieces words) ≡ flat_map (λ word. codes " " ++ decimal word) (map number_of words)
words_printed [] spelt none = refl
words_printed (w ∷ words) spelt none =
    let own = number_printed w spelt.1.0 (fits_bits 64 w (front_none (word_flaws w) (flat_map word_flaws words) none)) in
    let later = words_printed words spelt.1.1 (back_none (word_flaws w) (flat_map word_flaws words) none) in
    ap (λ l. codes " " ++ l) (two w.bytes (decimal (number_of w)) (written (flat_map word_pieces words)) (flat_map (λ word. codes " " ++ decimal word) (map number_of words)) (sym own) later)

bytes_printed : (shown : Bool) (bytes : Option Spelling) → is_some bytes ≡ shown → written (bytes_pieces bytes) ≡ (if shown then codes " " ++ quoted (bytes_of bytes) else [])
bytes_printed true (Some t) are = refl
bytes_printed true None are = absurd (cc are)
bytes_printed false (Some t) are = absurd (cc are)
bytes_printed false None are = refl

answer_printed : (f : Fun) (answer : WrittenAnswer) → Each IsSpelt (answer_pieces answer) → IsAnswer (shows_bytes f) answer → answer_flaws answer ≡ [] → written (answer_pieces answer) ≡ reply_text f (reply_of answer)
answer_printed f (refused code) spelt is none = ap (λ l. codes "refused " ++ l) (append-nil (written_code code) ∙ same_code code)
answer_printed f (good desc words bytes) spelt is none =
    let d = optional_flaws word_flaws desc in
    let w = flat_map word_flaws words in
    let b = optional_flaws text_flaws bytes in
    let front = each_front IsSpelt (desc_pieces desc ++ flat_map word_pieces words) (bytes_pieces bytes) spelt.1 in
    let descs = desc_printed desc (each_front IsSpelt (desc_pieces desc) (flat_map word_pieces words) front) (front_none d w (front_none (d ++ w) b none)) in
    let all = words_printed words (each_back IsSpelt (desc_pieces desc) (flat_map word_pieces words) front) (back_none d w (front_none (d ++ w) b none)) in
    ap (λ l. codes "ok" ++ l) (flat_map-append piece_bytes (desc_pieces desc ++ flat_map word_pieces words) (bytes_pieces bytes)
    ∙ two (written (desc_pieces desc ++ flat_map word_pieces words)) _ (written (bytes_pieces bytes)) _
    (flat_map-append piece_bytes (desc_pieces desc) (flat_map word_pieces words) ∙ two (written (desc_pieces desc)) _ (written (flat_map word_pieces words)) _ descs all)
    (bytes_printed (shows_bytes f) bytes is.1))

-- all that an answer gives is printed
answer_shown : (f : Fun) (answer : WrittenAnswer) → IsAnswer (shows_bytes f) answer → answer_flaws answer ≡ [] → IsShownReply f (reply_of answer)
answer_shown f (refused code) is none = tt
answer_shown f (good desc words bytes) is none =
    let d = optional_flaws word_flaws desc in
    let w = flat_map word_flaws words in
    let front = front_none (d ++ w) (optional_flaws text_flaws bytes) none in
    record {
      desc = desc_small desc (front_none d w front);
      words = words_small words (back_none d w front);
      few = subst (λ n. n ≤ 4) (sym (length-map words number_of)) is.0;
      hidden = hidden (shows_bytes f) bytes is.1;
      text = shown bytes (back_none (d ++ w) (optional_flaws text_flaws bytes) none);
    }
  where
    desc_small : (desc : Option Spelling) → optional_flaws word_flaws desc ≡ [] → desc_of desc < 2 ^ 64
    desc_small None none = omega arith
    desc_small (Some d) none = fits_bits 64 d none

    words_small : (words : List Spelling) → flat_map word_flaws words ≡ [] → Each (λ word. word < 2 ^ 64) (map number_of words)
    words_small [] none = tt
    words_small (w ∷ words) none = (fits_bits 64 w (front_none (word_flaws w) (flat_map word_flaws words) none), words_small words (back_none (word_flaws w) (flat_map word_flaws words) none))

    hidden : (shown : Bool) (bytes : Option Spelling) → is_some bytes ≡ shown → shown ≡ false → bytes_of bytes ≡ []
    hidden true bytes are is = absurd (cc is)
    hidden false None are is = refl
    hidden false (Some t) are is = absurd (cc are)

    shown : (bytes : Option Spelling) → optional_flaws text_flaws bytes ≡ [] → is_text (bytes_of bytes) ≡ true
    shown None none = refl
    shown (Some t) none = is_true (is_text t.bytes) (not_flawed _ Limit (t.at - 1) none)

-- ---- entries

id_small : (takes : Bool) (values : List Value) → AreWords values → id_in takes values < 2 ^ 64
id_small false values are = omega arith
id_small true [] are = omega arith
id_small true (Word n ∷ values) are = are.0
id_small true (Text t ∷ values) are = omega arith

args_texts : (args : List WrittenArg) → flat_map arg_flaws args ≡ [] → AreTexts (map value_of args)
args_texts [] none = tt
args_texts (Number n ∷ args) none = args_texts args (back_none (arg_flaws (Number n)) (flat_map arg_flaws args) none)
args_texts (text t ∷ args) none =
    (is_true (is_text t.bytes) (not_flawed _ Limit (t.at - 1) (front_none (text_flaws t) (flat_map arg_flaws args) none)), args_texts args (back_none (text_flaws t) (flat_map arg_flaws args) none))

rest_texts : (takes : Bool) (values : List Value) → AreTexts values → AreTexts (args_in takes values)
rest_texts false values are = are
rest_texts true [] are = are
rest_texts true (Word n ∷ values) are = are
rest_texts true (Text t ∷ values) are = are

-- the parts of a line, one after the other
abbrev body : List ℕ → List ℕ → List ℕ → List ℕ → List ℕ → List ℕ
body c s n l r = codes "c" ++ (c ++ (codes "." ++ (s ++ (codes " " ++ (n ++ (codes "(" ++ (l ++ (codes ")" ++ (codes " = " ++ r)))))))))

nested : (a c b s d n p l q m r z : List ℕ) → a ++ c ++ b ++ s ++ d ++ (n ++ p ++ l ++ q) ++ m ++ r ++ z ≡ (a ++ (c ++ (b ++ (s ++ (d ++ (n ++ (p ++ (l ++ (q ++ (m ++ r)))))))))) ++ z
nested a c b s d n p l q m r z = simp append_assoc refl

-- a test of names tells of each declared function whether it shows its bytes
abbrev pub Tells : (List ℕ → Bool) → Declared → Type 0
Tells shows i = (function : List ℕ) (fun : ℕ) → declared_fun i function ≡ Some fun → shows function ≡ shows_bytes (fun_at i.facts.funs fun)

-- that of an interface does
pub named_tells : (services : List Facts) (i : Declared) → Tells (shows_named services i) i
named_tells services i function fun is =
    let others = list_any (λ (s : Facts). list_any (λ (f : Fun). bytes_eq f.name function && shows_bytes f) s.funs) services in
    ap (λ (o : Option ℕ). option_map_or (λ f. shows_bytes (fun_at i.facts.funs f)) o others) is

module _ (shows : List ℕ → Bool) (i : Declared) (tells : Tells shows i) (line : List ℕ) (e : WrittenEntry) (is : IsEntry shows line e) (f : IsFlawless i e) where
  spelt : Each IsSpelt (entry_pieces e)
  spelt = pieces_spelt 0 (entry_pieces e) is.0.0

  client_small : number_of e.client < 2 ^ 64
  client_small = let known = f.client in let last = right (nat_le 1 (number_of e.client)) _ known in grind (arith, nat_tests, last)

  seq_small : number_of e.seq < 2 ^ 64
  seq_small = let small = f.seq in omega (arith, small)

  -- the line of an entry
  pub line_printed : entry_line i.facts (entry_of i e) ≡ line ++ line_end
  line_printed =
      let has = has_fun i e f.fun in
      let fun = fun_at i.facts.funs (fun_of i e) in
      let rest = spelt.1.1.1.1.1.1.1 in
      let tail = fixed (codes ")") ∷ fixed (codes " = ") ∷ answer_pieces e.answer in
      let client = number_printed e.client spelt.1.0 client_small in
      let seq = number_printed e.seq spelt.1.1.1.0 seq_small in
      let values = values_in (takes_id i.facts (fun_of i e)) fun.kinds (map value_of e.args) has.fits in
      let args = args_printed e.args (each_front IsSpelt (args_pieces e.args) tail rest) f.args in
      let reply = answer_printed fun e.answer (each_back IsSpelt (args_pieces e.args) tail rest).1.1 (subst (λ b. IsAnswer b e.answer) (tells e.name.bytes (fun_of i e) has.is) is.0.1) f.answer in
      let brackets : listed (if takes_id i.facts (fun_of i e) then Word (id_in (takes_id i.facts (fun_of i e)) (map value_of e.args)) ∷ args_in (takes_id i.facts (fun_of i e)) (map value_of e.args)
      else args_in (takes_id i.facts (fun_of i e)) (map value_of e.args)) ≡ written (args_pieces e.args) = ap listed values ∙ sym args in
      let c = decimal (number_of e.client) in
      let q = decimal (number_of e.seq) in
      let l = written (args_pieces e.args) in
      let r = written (answer_pieces e.answer) in
      let inside = listed (if takes_id i.facts (fun_of i e) then Word (id_in (takes_id i.facts (fun_of i e)) (map value_of e.args)) ∷ args_in (takes_id i.facts (fun_of i e)) (map value_of e.args)
      else args_in (takes_id i.facts (fun_of i e)) (map value_of e.args)) in
      nested (codes "c") c (codes ".") q (codes " ") fun.name (codes "(") inside (codes ")") (codes " = ") (reply_text fun (reply_of e.answer)) line_end
      ∙ ap (λ x. x ++ line_end) (
      ap (λ x. body x q fun.name inside (reply_text fun (reply_of e.answer))) client
      ∙ ap (λ x. body e.client.bytes x fun.name inside (reply_text fun (reply_of e.answer))) seq
      ∙ ap (λ x. body e.client.bytes e.seq.bytes x inside (reply_text fun (reply_of e.answer))) has.called
      ∙ ap (λ x. body e.client.bytes e.seq.bytes e.name.bytes x (reply_text fun (reply_of e.answer))) brackets
      ∙ ap (λ x. body e.client.bytes e.seq.bytes e.name.bytes l x) (sym reply)
      ∙ ap (λ x. codes "c" ++ (e.client.bytes ++ (codes "." ++ (e.seq.bytes ++ (codes " " ++ (e.name.bytes ++ (codes "(" ++ x))))))) (sym (flat_map-append piece_bytes (args_pieces e.args) tail))
      ∙ sym is.1)

  -- and it may be printed
  pub may_be_printed : MayBePrinted i (entry_of i e)
  may_be_printed =
      let has = has_fun i e f.fun in
      record {
        made = made_of i e f;
        seq = f.seq;
        desc = id_small (takes_id i.facts (fun_of i e)) (map value_of e.args) (args_words e.args f.args);
        texts = rest_texts (takes_id i.facts (fun_of i e)) (map value_of e.args) (args_texts e.args f.args);
        shown = answer_shown (fun_at i.facts.funs (fun_of i e)) e.answer (subst (λ b. IsAnswer b e.answer) (tells e.name.bytes (fun_of i e) has.is) is.0.1) f.answer;
      }

-- ---- histories

-- a line and its end
abbrev pub ended : Spelling → List ℕ
ended l = l.bytes ++ line_end

lines_printed : (shows : List ℕ → Bool) (i : Declared) → Tells shows i → (nth : ℕ) (lines : List Spelling) (entries : List WrittenEntry) → AreEntries shows lines entries → flaws_from i nth lines entries ≡ []
    → flat_map ended lines ≡ flat_map (entry_line i.facts) (map (entry_of i) entries)
lines_printed shows i tells nth [] [] are none = refl
lines_printed shows i tells nth [] (e ∷ entries) are none = absurd are
lines_printed shows i tells nth (l ∷ lines) [] are none = absurd are
lines_printed shows i tells nth (l ∷ lines) (e ∷ entries) are none =
    let own : entry_flaws i nth e ≡ [] = unmapped (in_line l) (entry_flaws i nth e) (front_none (map (in_line l) (entry_flaws i nth e)) (flaws_from i (nth + 1) lines entries) none) in
    let later = back_none (map (in_line l) (entry_flaws i nth e)) (flaws_from i (nth + 1) lines entries) none in
    two (ended l) (entry_line i.facts (entry_of i e)) (flat_map ended lines) (flat_map (entry_line i.facts) (map (entry_of i) entries))
    (sym (line_printed shows i tells l.bytes e are.0 (flawless_parts i nth e own))) (lines_printed shows i tells (nth + 1) lines entries are.1 later)

-- a text prints the history that it has
pub prints : (shows : List ℕ → Bool) (i : Declared) → Tells shows i → (bytes : List ℕ) (history : List Entry) → IsHistory shows i bytes history → PrintsHistory i bytes history
prints shows i tells bytes history is = record {
  lines = lines_printed shows i tells 1 (entry_lines_of bytes) is.0 is.1 is.2 ∙ ap (flat_map (entry_line i.facts)) (sym is.3);
  entries = subst (Each (MayBePrinted i)) (sym is.3) (each_entry shows i (MayBePrinted i) (λ line e parses f. may_be_printed shows i tells line e parses f) 1 (entry_lines_of bytes) is.0 is.1 is.2);
  few = entries_few shows i bytes history is;
}
