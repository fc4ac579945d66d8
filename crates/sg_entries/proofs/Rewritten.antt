-- An entry that may be printed, as it is written in its line.
use Rattle.std.proofs.Common.{◌≡◌, inl, inr, ℕ, zero, suc, ◌+◌, ◌-◌, ◌^◌, ◌<◌, ◌≤◌, Bool, true, false, not, List, [], ◌∷◌, ◌++◌, None, Some, length, length-append, get_or, map, refl, sym, ◌∙◌, ap, subst, arith}
use Rattle.std.specs.Prelude.{◌==◌, ◌&&◌, ◌||◌, nat_le, codes, unwrap_or}
use Rattle.std.specs.Char.{is_ascii_digit}
use Rattle.std.specs.Fmt.{decimal}
use Rattle.std.specs.List.{flat_map, list_all}
use Rattle.std.specs.declared.option.Option.{Option}
use Rattle.std.proofs.lemmas.Bool.Decides.{nat_tests}
use Rattle.std.proofs.lemmas.Fmt.{decimal_digit, decimal_nonempty, digits_decimal, digits_value-decimal, first_decimal}
use Rattle.std.specs.Option.{is_some}
use Rattle.sg_entries.proofs.Spelt.{Tells, numeral, written}
use Rattle.sg_entries.specs.Flaws.{entry_flaws, flaw_if, number_flaws, text_flaws, values_fit}
use Rattle.sg_entries.specs.Inside.Flaws.{answer_flaws, arg_flaws, client_flaws, fun_flaws, optional_flaws, too_many_entries, word_flaws}
use Rattle.sg_entries.specs.Printed.{AreTexts, HasNames, IsShownReply, MayBePrinted}
use Rattle.sg_entries.specs.Standing.{args_in, entry_of, id_in, number_of, value_of}
use Rattle.sg_entries.specs.Inside.Standing.{bytes_of, desc_of, fun_of, reply_of}
use Rattle.sg_entries.specs.declared.error.EntriesKind.{EntriesKind}
use Rattle.sg_entries.specs.declared.error.EntriesKind.TheVariants.{BadArgs, BadClient, Limit}
use Rattle.sg_entries.specs.Entry.{IsAnswer, answer_pieces, arg_pieces}
use Rattle.sg_entries.specs.Inside.Forms.{IsWellFormed, args_pieces, bytes_pieces, desc_pieces, next_arg_pieces, word_pieces}
use Rattle.sg_entries.specs.Pieces.{ArePlaced, EntryPiece, IsPositive, fixed, piece_bytes}
use Rattle.sg_entries.specs.Inside.Classes.{IsNumber, is_first_digit}
use Rattle.sg_entries.specs.sg_lex.Lexeme.{Spelling}
use Rattle.sg_entries.specs.declared.tree.WrittenAnswer.{WrittenAnswer}
use Rattle.sg_entries.specs.declared.tree.WrittenAnswer.TheVariants.{Refused as refused, Ok as good}
use Rattle.sg_entries.specs.declared.tree.WrittenArg.{WrittenArg}
use Rattle.sg_entries.specs.declared.tree.WrittenArg.TheVariants.{Number, Text as text}
use Rattle.sg_entries.specs.declared.tree.WrittenEntry.{WrittenEntry}
use Rattle.sg_facts.specs.Facts.{Fun, fun_at, shows_bytes, takes_desc, takes_parent}
use Rattle.sg_facts.specs.Interface.{Declared}
use Rattle.sg_facts.specs.Kinds.{AreWords, kinds_fit}
use Rattle.sg_facts.specs.declared.entry.Entry.{Entry}
use Rattle.sg_facts.specs.declared.shape.Kind.{Kind}
use Rattle.sg_facts.specs.sg_base.Lists.{Each}
use Rattle.sg_facts.specs.sg_base.Text.{is_text_byte}
use Rattle.sg_facts.specs.sg_base.declared.call.Call.{Call}
use Rattle.sg_facts.specs.sg_base.declared.reply.Reply.{Reply}
use Rattle.sg_facts.specs.sg_base.declared.reply.Reply.TheVariants.{Refused, Ok as ok}
use Rattle.sg_facts.specs.sg_base.declared.value.Value.{Value}
use Rattle.sg_facts.specs.sg_base.declared.value.Value.TheVariants.{Word, Text}
use Rattle.sg_report.specs.Report.{takes_id}
use Rattle.sg_script.specs.Numbers.{is_known_client, is_text}
use Rattle.sg_script.specs.Scripts.{declared_fun}

right : (a b : Bool) → a && b ≡ true → b ≡ true
right true b e = e
right false b e = absurd cc

both : (a b : Bool) → a ≡ true → b ≡ true → a && b ≡ true
both a b x y = ap (λ v. v && b) x ∙ y

-- ---- numbers

-- a number, spelt at a place
abbrev pub spelling : ℕ → ℕ → Spelling
spelling at n = record { bytes = decimal n; at = at }

first_digit : (b : ℕ) → is_ascii_digit b ≡ true → 48 < b → is_first_digit b ≡ true
first_digit b digit above = both (is_ascii_digit b) (not (b == 48)) digit (grind (arith, nat_tests, above))

left : (a b : Bool) → a && b ≡ true → a ≡ true
left true b e = refl
left false b e = absurd cc

positive_of : (ds : List ℕ) → list_all is_ascii_digit ds ≡ true → 0 < length ds → 48 < get_or ds 0 0 → IsPositive ds
positive_of [] all some first = absurd (omega (arith, some))
positive_of (d ∷ ds) all some first = (first_digit d (left (is_ascii_digit d) (list_all is_ascii_digit ds) all) first, right (is_ascii_digit d) (list_all is_ascii_digit ds) all)

pub positive_spelt : (n : ℕ) → 0 < n → n < 2 ^ 64 → IsPositive (decimal n)
positive_spelt n above small = positive_of (decimal n) (digits_decimal numeral n small) (decimal_nonempty n small) (first_decimal n above small)

pub number_spelt : (n : ℕ) → n < 2 ^ 64 → IsNumber (decimal n)
number_spelt zero small = inl (decimal_digit 0 (omega arith))
number_spelt (suc n) small = inr (positive_spelt (suc n) (omega arith) small)

pub number_back : (at n : ℕ) → n < 2 ^ 64 → number_of (spelling at n) ≡ n
number_back at n small = digits_value-decimal numeral n small

no_flaw : (b : Bool) (kind : EntriesKind) (at : ℕ) → b ≡ false → flaw_if b kind at ≡ []
no_flaw true kind at is = absurd cc
no_flaw false kind at is = refl

isnt : (b : Bool) → b ≡ true → not b ≡ false
isnt true is = refl
isnt false is = absurd cc

pub number_flawless : (bits at n : ℕ) → n < 2 ^ 64 → n < 2 ^ bits → number_flaws bits (spelling at n) ≡ []
number_flawless bits at n small fits =
    let same = number_back at n small in
    no_flaw (nat_le (2 ^ bits) (number_of (spelling at n))) Limit at (ap (nat_le (2 ^ bits)) same ∙ grind (arith, nat_tests, fits))

text_flawless : (t : Spelling) → is_text t.bytes ≡ true → text_flaws t ≡ []
text_flawless t is = no_flaw (not (is_text t.bytes)) Limit (t.at - 1) (isnt (is_text t.bytes) is)

-- ---- places

zero_more : (n : ℕ) → n + 0 ≡ n
zero_more n = omega arith

-- pieces after others
pub placed_more : (place : ℕ) (xs ys : List EntryPiece) → ArePlaced place xs → ArePlaced (place + length (written xs)) ys → ArePlaced place (xs ++ ys)
placed_more place [] ys are also = subst (λ p. ArePlaced p ys) (zero_more place) also
placed_more place (x ∷ xs) ys are also =
    let sum : length (written (x ∷ xs)) ≡ length (piece_bytes x) + length (written xs) = length-append (piece_bytes x) (written xs) in
    let same : place + length (written (x ∷ xs)) ≡ place + length (piece_bytes x) + length (written xs) = omega (arith, sum) in
    (are.0, placed_more (place + length (piece_bytes x)) xs ys are.1 (subst (λ p. ArePlaced p ys) same also))

-- ---- arguments

-- a value is one of its type
abbrev pub IsValue : Value → Type 0
IsValue (Word n) = n < 2 ^ 64
IsValue (Text bytes) = is_text bytes ≡ true

pub are_values : (values : List Value) → AreWords values → AreTexts values → Each IsValue values
are_values [] words texts = tt
are_values (Word n ∷ values) words texts = (words.0, are_values values words.1 texts)
are_values (Text bytes ∷ values) words texts = (texts.0, are_values values words texts.1)

abbrev pub arg_at : ℕ → Value → WrittenArg
arg_at at (Word n) = Number (spelling at n)
arg_at at (Text bytes) = text (record { bytes = bytes; at = at + 1 })

abbrev pub next_args_at : ℕ → List Value → List WrittenArg
next_args_at at [] = []
next_args_at at (v ∷ values) = arg_at (at + 2) v ∷ next_args_at (at + 2 + length (written (arg_pieces (arg_at (at + 2) v)))) values

abbrev pub args_at : ℕ → List Value → List WrittenArg
args_at at [] = []
args_at at (v ∷ values) = arg_at at v ∷ next_args_at (at + length (written (arg_pieces (arg_at at v)))) values

arg_placed : (at : ℕ) (v : Value) → IsValue v → ArePlaced at (arg_pieces (arg_at at v))
arg_placed at (Word n) is = ((number_spelt n is, refl), tt)
arg_placed at (Text bytes) is = (tt, ((right (nat_le (length bytes) 256) (list_all is_text_byte bytes) is, refl), (tt, tt)))

next_args_placed : (at : ℕ) (values : List Value) → Each IsValue values → ArePlaced at (flat_map next_arg_pieces (next_args_at at values))
next_args_placed at [] are = tt
next_args_placed at (v ∷ values) are =
    let a = arg_at (at + 2) v in (
      tt,
      placed_more (at + 2) (arg_pieces a) (flat_map next_arg_pieces (next_args_at (at + 2 + length (written (arg_pieces a))) values)) (arg_placed (at + 2) v are.0)
          (next_args_placed (at + 2 + length (written (arg_pieces a))) values are.1),
    )

pub args_placed : (at : ℕ) (values : List Value) → Each IsValue values → ArePlaced at (args_pieces (args_at at values))
args_placed at [] are = tt
args_placed at (v ∷ values) are =
    let a = arg_at at v in
    placed_more at (arg_pieces a) (flat_map next_arg_pieces (next_args_at (at + length (written (arg_pieces a))) values)) (arg_placed at v are.0)
    (next_args_placed (at + length (written (arg_pieces a))) values are.1)

arg_back : (at : ℕ) (v : Value) → IsValue v → value_of (arg_at at v) ≡ v
arg_back at (Word n) is = ap Word (number_back at n is)
arg_back at (Text bytes) is = refl

next_args_back : (at : ℕ) (values : List Value) → Each IsValue values → map value_of (next_args_at at values) ≡ values
next_args_back at [] are = refl
next_args_back at (v ∷ values) are =
    ap (λ x. x ∷ map value_of (next_args_at (at + 2 + length (written (arg_pieces (arg_at (at + 2) v)))) values)) (arg_back (at + 2) v are.0)
    ∙ ap (λ xs. v ∷ xs) (next_args_back (at + 2 + length (written (arg_pieces (arg_at (at + 2) v)))) values are.1)

pub args_back : (at : ℕ) (values : List Value) → Each IsValue values → map value_of (args_at at values) ≡ values
args_back at [] are = refl
args_back at (v ∷ values) are =
    ap (λ x. x ∷ map value_of (next_args_at (at + length (written (arg_pieces (arg_at at v)))) values)) (arg_back at v are.0)
    ∙ ap (λ xs. v ∷ xs) (next_args_back (at + length (written (arg_pieces (arg_at at v)))) values are.1)

nothing : {A : Type 0} (xs ys : List A) → xs ≡ [] → ys ≡ [] → xs ++ ys ≡ []
nothing xs ys x y = ap (λ l. l ++ ys) x ∙ y

arg_flawless : (at : ℕ) (v : Value) → IsValue v → arg_flaws (arg_at at v) ≡ []
arg_flawless at (Word n) is = number_flawless 64 at n is is
arg_flawless at (Text bytes) is = text_flawless (record { bytes = bytes; at = at + 1 }) is

next_args_flawless : (at : ℕ) (values : List Value) → Each IsValue values → flat_map arg_flaws (next_args_at at values) ≡ []
next_args_flawless at [] are = refl
next_args_flawless at (v ∷ values) are = nothing (arg_flaws (arg_at (at + 2) v)) _ (arg_flawless (at + 2) v are.0) (next_args_flawless (at + 2 + length (written (arg_pieces (arg_at (at + 2) v)))) values are.1)

pub args_flawless : (at : ℕ) (values : List Value) → Each IsValue values → flat_map arg_flaws (args_at at values) ≡ []
args_flawless at [] are = refl
args_flawless at (v ∷ values) are = nothing (arg_flaws (arg_at at v)) _ (arg_flawless at v are.0) (next_args_flawless (at + length (written (arg_pieces (arg_at at v)))) values are.1)

-- ---- answers

abbrev pub desc_at : ℕ → ℕ → Option Spelling
desc_at at zero = None
desc_at at (suc n) = Some (spelling (at + 2) (suc n))

abbrev pub words_at : ℕ → List ℕ → List Spelling
words_at at [] = []
words_at at (w ∷ words) = spelling (at + 1) w ∷ words_at (at + 1 + length (decimal w)) words

abbrev pub bytes_at : ℕ → Bool → List ℕ → Option Spelling
bytes_at at true bytes = Some (record { bytes = bytes; at = at + 1 + 1 })
bytes_at at false bytes = None

abbrev pub answer_at : ℕ → Fun → Reply → WrittenAnswer
answer_at at f (Refused code) = refused code
answer_at at f (ok g) =
    let desc = desc_at (at + 2) g.desc in
    let words = words_at (at + 2 + length (written (desc_pieces desc))) g.words in
    good desc words (bytes_at (at + 2 + length (written (desc_pieces desc ++ flat_map word_pieces words))) (shows_bytes f) g.bytes)

desc_placed : (at n : ℕ) → n < 2 ^ 64 → ArePlaced at (desc_pieces (desc_at at n))
desc_placed at zero small = tt
desc_placed at (suc n) small = (tt, ((positive_spelt (suc n) (omega arith) small, refl), tt))

desc_back : (at n : ℕ) → n < 2 ^ 64 → desc_of (desc_at at n) ≡ n
desc_back at zero small = refl
desc_back at (suc n) small = number_back (at + 2) (suc n) small

desc_flawless : (at n : ℕ) → n < 2 ^ 64 → optional_flaws word_flaws (desc_at at n) ≡ []
desc_flawless at zero small = refl
desc_flawless at (suc n) small = number_flawless 64 (at + 2) (suc n) small small

words_placed : (at : ℕ) (words : List ℕ) → Each (λ w. w < 2 ^ 64) words → ArePlaced at (flat_map word_pieces (words_at at words))
words_placed at [] small = tt
words_placed at (w ∷ words) small = (tt, ((number_spelt w small.0, refl), words_placed (at + 1 + length (decimal w)) words small.1))

words_back : (at : ℕ) (words : List ℕ) → Each (λ w. w < 2 ^ 64) words → map number_of (words_at at words) ≡ words
words_back at [] small = refl
words_back at (w ∷ words) small =
    ap (λ x. x ∷ map number_of (words_at (at + 1 + length (decimal w)) words)) (number_back (at + 1) w small.0) ∙ ap (λ xs. w ∷ xs) (words_back (at + 1 + length (decimal w)) words small.1)

words_flawless : (at : ℕ) (words : List ℕ) → Each (λ w. w < 2 ^ 64) words → flat_map word_flaws (words_at at words) ≡ []
words_flawless at [] small = refl
words_flawless at (w ∷ words) small = nothing (word_flaws (spelling (at + 1) w)) _ (number_flawless 64 (at + 1) w small.0 small.0) (words_flawless (at + 1 + length (decimal w)) words small.1)

words_many : (at : ℕ) (words : List ℕ) → length (words_at at words) ≡ length words
words_many at [] = refl
words_many at (w ∷ words) = ap suc (words_many (at + 1 + length (decimal w)) words)

bytes_placed : (at : ℕ) (shown : Bool) (bytes : List ℕ) → is_text bytes ≡ true → ArePlaced at (bytes_pieces (bytes_at at shown bytes))
bytes_placed at true bytes is = (tt, (tt, ((right (nat_le (length bytes) 256) (list_all is_text_byte bytes) is, refl), (tt, tt))))
bytes_placed at false bytes is = tt

bytes_back : (at : ℕ) (shown : Bool) (bytes : List ℕ) → (shown ≡ false → bytes ≡ []) → bytes_of (bytes_at at shown bytes) ≡ bytes
bytes_back at true bytes hidden = refl
bytes_back at false bytes hidden = sym (hidden refl)

bytes_flawless : (at : ℕ) (shown : Bool) (bytes : List ℕ) → is_text bytes ≡ true → optional_flaws text_flaws (bytes_at at shown bytes) ≡ []
bytes_flawless at true bytes is = text_flawless (record { bytes = bytes; at = at + 1 + 1 }) is
bytes_flawless at false bytes is = refl

bytes_shown : (at : ℕ) (shown : Bool) (bytes : List ℕ) → is_some (bytes_at at shown bytes) ≡ shown
bytes_shown at true bytes = refl
bytes_shown at false bytes = refl

pub answer_placed : (at : ℕ) (f : Fun) (r : Reply) → IsShownReply f r → ArePlaced at (answer_pieces (answer_at at f r))
answer_placed at f (Refused code) is = (tt, (tt, tt))
answer_placed at f (ok g) is =
    let desc = desc_at (at + 2) g.desc in
    let words = words_at (at + 2 + length (written (desc_pieces desc))) g.words in
    let front = desc_pieces desc ++ flat_map word_pieces words in
    let bytes = bytes_at (at + 2 + length (written front)) (shows_bytes f) g.bytes in (
      tt,
      placed_more (at + 2) front (bytes_pieces bytes)
          (placed_more (at + 2) (desc_pieces desc) (flat_map word_pieces words) (desc_placed (at + 2) g.desc is.desc) (words_placed (at + 2 + length (written (desc_pieces desc))) g.words is.words))
          (bytes_placed (at + 2 + length (written front)) (shows_bytes f) g.bytes is.text),
    )

pub answer_is : (at : ℕ) (f : Fun) (r : Reply) → IsShownReply f r → IsAnswer (shows_bytes f) (answer_at at f r)
answer_is at f (Refused code) is = tt
answer_is at f (ok g) is =
    let desc = desc_at (at + 2) g.desc in
    let words = words_at (at + 2 + length (written (desc_pieces desc))) g.words in (
      subst (λ n. n ≤ 4) (sym (words_many (at + 2 + length (written (desc_pieces desc))) g.words)) is.few,
      bytes_shown (at + 2 + length (written (desc_pieces desc ++ flat_map word_pieces words))) (shows_bytes f) g.bytes,
    )

good_is : (d e : ℕ) (w v : List ℕ) (b c : List ℕ) → d ≡ e → w ≡ v → b ≡ c → ok (record { desc = d; words = w; bytes = b }) ≡ ok (record { desc = e; words = v; bytes = c })
good_is d e w v b c x y z = ap (λ t. ok (record { desc = t; words = w; bytes = b })) x ∙ ap (λ t. ok (record { desc = e; words = t; bytes = b })) y ∙ ap (λ t. ok (record { desc = e; words = v; bytes = t })) z

pub answer_back : (at : ℕ) (f : Fun) (r : Reply) → IsShownReply f r → reply_of (answer_at at f r) ≡ r
answer_back at f (Refused code) is = refl
answer_back at f (ok g) is =
    let desc = desc_at (at + 2) g.desc in
    let words = words_at (at + 2 + length (written (desc_pieces desc))) g.words in
    good_is _ g.desc _ g.words _ g.bytes (desc_back (at + 2) g.desc is.desc) (words_back (at + 2 + length (written (desc_pieces desc))) g.words is.words)
    (bytes_back (at + 2 + length (written (desc_pieces desc ++ flat_map word_pieces words))) (shows_bytes f) g.bytes is.hidden)

pub answer_flawless : (at : ℕ) (f : Fun) (r : Reply) → IsShownReply f r → answer_flaws (answer_at at f r) ≡ []
answer_flawless at f (Refused code) is = refl
answer_flawless at f (ok g) is =
    let desc = desc_at (at + 2) g.desc in
    let words = words_at (at + 2 + length (written (desc_pieces desc))) g.words in
    nothing (optional_flaws word_flaws desc ++ flat_map word_flaws words) _
    (nothing (optional_flaws word_flaws desc) (flat_map word_flaws words) (desc_flawless (at + 2) g.desc is.desc) (words_flawless (at + 2 + length (written (desc_pieces desc))) g.words is.words))
    (bytes_flawless (at + 2 + length (written (desc_pieces desc ++ flat_map word_pieces words))) (shows_bytes f) g.bytes is.text)

-- ---- entries

-- what stands in a call's brackets
abbrev pub brackets : Bool → Call → List Value
brackets true call = Word call.desc ∷ call.args
brackets false call = call.args

abbrev pub fun_in : Declared → Entry → Fun
fun_in i e = fun_at i.facts.funs e.call.fun

-- the place of a call's arguments
abbrev pub args_place : Declared → Entry → ℕ
args_place i e = 1 + length (decimal e.call.client) + 1 + length (decimal e.call.seq) + 1 + length (fun_in i e).name + 1

abbrev pub args_in_line : Declared → Entry → List WrittenArg
args_in_line i e = args_at (args_place i e) (brackets (takes_id i.facts e.call.fun) e.call)

-- the place of the answer
abbrev pub answer_place : Declared → Entry → ℕ
answer_place i e = args_place i e + length (written (args_pieces (args_in_line i e))) + 1 + 3

-- the tree of an entry's line
abbrev pub tree_of : Declared → Entry → WrittenEntry
tree_of i e = record {
  client = spelling 1 e.call.client;
  seq = spelling (1 + length (decimal e.call.client) + 1) e.call.seq;
  name = record { bytes = (fun_in i e).name; at = 1 + length (decimal e.call.client) + 1 + length (decimal e.call.seq) + 1 };
  args = args_in_line i e;
  answer = answer_at (answer_place i e) (fun_in i e) e.reply;
}

brackets_fit : (takes : Bool) (kinds : List Kind) (call : Call) → kinds_fit kinds call.args ≡ true → values_fit takes kinds (brackets takes call) ≡ true
brackets_fit true kinds call fits = fits
brackets_fit false kinds call fits = fits

brackets_values : (takes : Bool) (call : Call) → call.desc < 2 ^ 64 → Each IsValue call.args → Each IsValue (brackets takes call)
brackets_values true call small are = (small, are)
brackets_values false call small are = are

id_back : (desc parent : Bool) (call : Call) → (desc ≡ false → parent ≡ false → call.desc ≡ 0) → id_in (desc || parent) (brackets (desc || parent) call) ≡ call.desc
id_back true parent call none = refl
id_back false true call none = refl
id_back false false call none = sym (none refl refl)

rest_back : (takes : Bool) (call : Call) → args_in takes (brackets takes call) ≡ call.args
rest_back true call = refl
rest_back false call = refl

-- an entry by its parts
abbrev entry_with : ℕ → ℕ → ℕ → ℕ → List Value → Reply → Entry
entry_with c s f x a r = record { call = record { client = c; seq = s; fun = f; desc = x; args = a }; reply = r }

same_entry : (c d s t f g x y : ℕ) (a b : List Value) (r q : Reply) → c ≡ d → s ≡ t → f ≡ g → x ≡ y → a ≡ b → r ≡ q → entry_with c s f x a r ≡ entry_with d t g y b q
same_entry c d s t f g x y a b r q cd st fg xy ab rq =
    ap (λ z. entry_with z s f x a r) cd ∙ ap (λ z. entry_with d z f x a r) st ∙ ap (λ z. entry_with d t z x a r) fg ∙ ap (λ z. entry_with d t g z a r) xy
    ∙ ap (λ z. entry_with d t g y z r) ab ∙ ap (λ z. entry_with d t g y b z) rq

module _ (i : Declared) (names : HasNames i) (e : Entry) (may : MayBePrinted i e) where
  call_small : e.call.client < 2 ^ 64
  call_small = let last = may.made.is_clients.client_last in omega (arith, last)

  seq_small : e.call.seq < 2 ^ 64
  seq_small = let small = may.seq in omega (arith, small)

  values : Each IsValue (brackets (takes_id i.facts e.call.fun) e.call)
  values = brackets_values (takes_id i.facts e.call.fun) e.call may.desc (are_values e.call.args may.made.is_clients.words may.texts)

  named : declared_fun i (fun_in i e).name ≡ Some e.call.fun
  named = (names e.call.fun may.made.declared).1

  -- it is the tree of a line
  pub tree_well_formed : (shows : List ℕ → Bool) → Tells shows i → IsWellFormed shows (tree_of i e)
  tree_well_formed shows tells =
      let args = args_in_line i e in
      let tail = fixed (codes ")") ∷ fixed (codes " = ") ∷ answer_pieces (answer_at (answer_place i e) (fun_in i e) e.reply) in
      let placed = placed_more (args_place i e) (args_pieces args) tail (args_placed (args_place i e) (brackets (takes_id i.facts e.call.fun) e.call) values)
      (tt, (tt, answer_placed (answer_place i e) (fun_in i e) e.reply may.shown)) in (
        (tt, ((number_spelt e.call.client call_small, refl), (tt, ((number_spelt e.call.seq seq_small, refl), (tt, (((names e.call.fun may.made.declared).0, refl), (tt, placed))))))),
        subst (λ b. IsAnswer b (answer_at (answer_place i e) (fun_in i e) e.reply)) (sym (tells (fun_in i e).name e.call.fun named)) (answer_is (answer_place i e) (fun_in i e) e.reply may.shown),
      )

  values_same : map value_of (args_in_line i e) ≡ brackets (takes_id i.facts e.call.fun) e.call
  values_same = args_back (args_place i e) (brackets (takes_id i.facts e.call.fun) e.call) values

  fun_flawless : fun_flaws i (tree_of i e) (declared_fun i (fun_in i e).name) ≡ []
  fun_flawless =
      ap (fun_flaws i (tree_of i e)) named
      ∙ no_flaw _ BadArgs (tree_of i e).name.at (isnt _ (ap (values_fit (takes_id i.facts e.call.fun) (fun_in i e).kinds) values_same
      ∙ brackets_fit (takes_id i.facts e.call.fun) (fun_in i e).kinds e.call may.made.is_clients.is_call.fits.args))

  client_flawless : client_flaws (spelling 1 e.call.client) ≡ []
  client_flawless =
      let first = may.made.is_clients.client_first in
      let last = may.made.is_clients.client_last in
      no_flaw _ BadClient 1 (isnt _ (ap is_known_client (number_back 1 e.call.client call_small) ∙ both (nat_le 1 e.call.client) _ (grind (arith, nat_tests, first)) (grind (arith, nat_tests, last))))

  -- without a flaw
  pub tree_flawless : (nth : ℕ) → nth == too_many_entries ≡ false → entry_flaws i nth (tree_of i e) ≡ []
  tree_flawless nth few =
      let t = tree_of i e in
      let own = client_flaws t.client in
      let seqs = number_flaws 32 t.seq in
      let funs = fun_flaws i t (declared_fun i t.name.bytes) in
      let many = flaw_if (nth == too_many_entries) Limit t.name.at in
      let inner = flat_map arg_flaws t.args in
      nothing (own ++ seqs ++ funs ++ many ++ inner) (answer_flaws t.answer)
      (nothing (own ++ seqs ++ funs ++ many) inner
      (nothing (own ++ seqs ++ funs) many
      (nothing (own ++ seqs) funs
      (nothing own seqs client_flawless (number_flawless 32 t.seq.at e.call.seq seq_small may.seq)) fun_flawless) (no_flaw _ Limit t.name.at few))
      (args_flawless (args_place i e) (brackets (takes_id i.facts e.call.fun) e.call) values)) (answer_flawless (answer_place i e) (fun_in i e) e.reply may.shown)

  -- and stands for the entry
  pub tree_stands : entry_of i (tree_of i e) ≡ e
  tree_stands =
      let t = tree_of i e in
      let fun : fun_of i t ≡ e.call.fun = ap (λ f. unwrap_or f 0) named in
      let takes = takes_id i.facts e.call.fun in
      let id : id_in (takes_id i.facts (fun_of i t)) (map value_of t.args) ≡ e.call.desc =
      ap (λ f. id_in (takes_id i.facts f) (map value_of t.args)) fun ∙ ap (id_in takes) values_same
      ∙ id_back (takes_desc (fun_in i e)) (takes_parent (fun_in i e)) e.call may.made.is_clients.is_call.fits.desc in
      let rest : args_in (takes_id i.facts (fun_of i t)) (map value_of t.args) ≡ e.call.args =
      ap (λ f. args_in (takes_id i.facts f) (map value_of t.args)) fun ∙ ap (args_in takes) values_same ∙ rest_back takes e.call in
      let reply = answer_back (answer_place i e) (fun_in i e) e.reply may.shown in
      same_entry (number_of t.client) e.call.client (number_of t.seq) e.call.seq (fun_of i t) e.call.fun _ e.call.desc _ e.call.args (reply_of t.answer) e.reply
      (number_back 1 e.call.client call_small) (number_back t.seq.at e.call.seq seq_small) fun id rest reply
