-- The words say at most one command.
use Rattle.std.proofs.Common.{◌≡◌, ◌<◌, ◌≤◌, ℕ, true, false, List, [], ◌∷◌, None, Some, get_or, inl, inr, length, map, slice_index_or, refl, sym, ◌∙◌, ap, subst, arith}
use Rattle.std.proofs.lemmas.List.{length-map}
use Rattle.std.specs.Prelude.{◌==◌, if◌then◌else◌, MatchOption, codes, string_bytes}
use Rattle.std.specs.Str.{bytes_eq}
use Rattle.std.specs.declared.option.Option.{Option}
use Rattle.std.specs.declared.string.String.{String}
use Rattle.std.specs.declared.alloc.Global.{Global}
use Rattle.sg_explore.specs.Tried.{most_paired}
use Rattle.sg_load.specs.Services.{facts_by}
use Rattle.sg_load.specs.declared.kind.ServiceKind.{ServiceKind}
use Rattle.sg_judge.specs.sg_input.sg_lex.Table.{IsNumber}
use Rattle.sg_judge.specs.sg_input.sg_lex.Numbers.{value_of_digits}
use Rattle.sg_top.specs.declared.command.Command.{Command}
use Rattle.sg_top.specs.declared.command.Command.TheVariants.{Play, Run, Check, Compile, Upgrade, Explain, Explore, Verify, Multi, Load}
use Rattle.sg_top.specs.declared.command.Shows.TheVariants.{Report, Trace, Costs, Picture, Columns}
use Rattle.sg_top.specs.Answer.{IsCommand, IsSerialCommand}
use Rattle.sg_top.specs.Inside.Words.{AreBoundOf, AreDigitsOf, IsLoadOf, IsPairOf, IsWordOf}
use Rattle.sg_top.proofs.EachKind.{called, kind_called}

-- ---- texts

-- the texts of a command, with these digits
abbrev texts_of : Command → List ℕ → List (List ℕ)
texts_of (Play Report) digits = codes "sim" ∷ []
texts_of (Run false) digits = codes "run" ∷ []
texts_of (Play Trace) digits = codes "sim" ∷ codes "trace" ∷ []
texts_of (Run true) digits = codes "run" ∷ codes "trace" ∷ []
texts_of (Play Costs) digits = codes "cost" ∷ []
texts_of (Play Picture) digits = codes "draw" ∷ []
texts_of (Play Columns) digits = codes "draw" ∷ codes "text" ∷ []
texts_of Check digits = codes "check" ∷ []
texts_of Compile digits = codes "compile" ∷ []
texts_of Upgrade digits = codes "upgrade" ∷ []
texts_of Explain digits = codes "explain" ∷ []
texts_of (Explore most) [] = codes "explore" ∷ []
texts_of (Explore most) (d ∷ digits) = codes "explore" ∷ (d ∷ digits) ∷ []
texts_of Verify digits = codes "verify" ∷ []
texts_of (Multi false) digits = codes "multi" ∷ []
texts_of (Multi true) digits = codes "multi" ∷ codes "trace" ∷ []
texts_of (Load service number) digits = codes "load" ∷ (facts_by service).name ∷ digits ∷ []

-- the digits fit the command
abbrev Digits : Command → List ℕ → Type 0
Digits (Load service number) digits = AreDigitsOf number digits
Digits (Explore most) digits = value_of_digits digits ≡ most
Digits _ digits = Unit {0}

-- a word with digits, at least one, says an exploration
says_bound : (texts : List (List ℕ)) (most : ℕ) (digits : List ℕ) → IsNumber digits → value_of_digits digits ≡ most → texts ≡ codes "explore" ∷ digits ∷ []
    → (shown : List ℕ) × Digits (Explore most) shown × (texts ≡ texts_of (Explore most) shown)
says_bound texts most [] number value is = absurd number
says_bound texts most (d ∷ digits) number value is = (d ∷ digits, value, is)

says : (words : List (String Global)) (c : Command) → IsCommand words c → (digits : List ℕ) × Digits c digits × (map string_bytes words ≡ texts_of c digits)
says words (Play Report) is = ([], tt, is)
says words (Run false) is = ([], tt, is)
says words (Play Trace) is = ([], tt, is)
says words (Run true) is = ([], tt, is)
says words (Play Costs) is = ([], tt, is)
says words (Play Picture) is = ([], tt, is)
says words (Play Columns) is = ([], tt, is)
says words Check is = ([], tt, is)
says words Compile is = ([], tt, is)
says words Upgrade is = ([], tt, is)
says words Explain is = ([], tt, is)
says words (Explore most) (inl (none, is)) = ([], sym none, is)
says words (Explore most) (inr (digits, (number, value, few), is)) = says_bound (map string_bytes words) most digits number value is
says words Verify is = ([], tt, is)
says words (Multi false) is = ([], tt, is)
says words (Multi true) is = ([], tt, is)
says words (Load service number) is = (is.0, is.1, is.2)

abbrev text_at : ℕ → List (List ℕ) → List ℕ
text_at n texts = get_or texts n []

-- the command that texts say, if they say one
abbrev command_in : List (List ℕ) → Command
command_in texts =
    if bytes_eq (text_at 0 texts) (codes "load") then Load (kind_called (text_at 1 texts)) (value_of_digits (text_at 2 texts))
    else if bytes_eq (text_at 0 texts) (codes "check") then Check
    else if bytes_eq (text_at 0 texts) (codes "compile") then Compile
    else if bytes_eq (text_at 0 texts) (codes "upgrade") then Upgrade
    else if bytes_eq (text_at 0 texts) (codes "explain") then Explain
    else if bytes_eq (text_at 0 texts) (codes "verify") then Verify
    else if bytes_eq (text_at 0 texts) (codes "multi") then Multi (length texts == 2)
    else if bytes_eq (text_at 0 texts) (codes "cost") then Play Costs
    else if bytes_eq (text_at 0 texts) (codes "draw") then Play (if length texts == 2 then Columns else Picture)
    else if bytes_eq (text_at 0 texts) (codes "explore") then Explore (value_of_digits (text_at 1 texts))
    else if bytes_eq (text_at 0 texts) (codes "run") then Run (length texts == 2)
    else Play (if length texts == 2 then Trace else Report)

it_is : (c : Command) (digits : List ℕ) → Digits c digits → command_in (texts_of c digits) ≡ c
it_is (Play Report) digits fit = refl
it_is (Play Trace) digits fit = refl
it_is (Play Costs) digits fit = refl
it_is (Run false) digits fit = refl
it_is (Run true) digits fit = refl
it_is (Play Picture) digits fit = refl
it_is (Play Columns) digits fit = refl
it_is Check digits fit = refl
it_is Compile digits fit = refl
it_is Upgrade digits fit = refl
it_is Explain digits fit = refl
it_is (Explore most) [] fit = ap Explore fit
it_is (Explore most) (d ∷ digits) fit = ap Explore fit
it_is Verify digits fit = refl
it_is (Multi false) digits fit = refl
it_is (Multi true) digits fit = refl
it_is (Load service number) digits fit = ap (λ k. Load k (value_of_digits digits)) (called service) ∙ ap (Load service) fit.1

pub one_command : (words : List (String Global)) (a b : Command) → IsCommand words a → IsCommand words b → a ≡ b
one_command words a b x y =
    let u = says words a x in
    let v = says words b y in
    sym (it_is a u.0 u.1) ∙ ap command_in (sym u.2 ∙ v.2) ∙ it_is b v.0 v.1

-- the words say at most one command that one thread does
pub one_serial : (words : List (String Global)) (a b : Command) → IsSerialCommand words a → IsSerialCommand words b → a ≡ b
one_serial words a b x y = one_command words a b x.0 y.0

-- the points that an exploration pairs are no more than may be
pub few_paired : (words : List (String Global)) (most : ℕ) → IsCommand words (Explore most) → most ≤ most_paired
few_paired words most (inl (none, is)) = omega (arith, none)
few_paired words most (inr (digits, bound, is)) = bound.2

-- ---- how many words

-- a command has from one to three
pub count_is : (words : List (String Global)) (c : Command) → IsCommand words c → (1 ≤ length words) × (length words ≤ 3)
count_is words c is = let u = says words c is in by c u.0 (sym (length-map words string_bytes) ∙ ap length u.2)
  where
    by : (c : Command) (digits : List ℕ) → length words ≡ length (texts_of c digits) → (1 ≤ length words) × (length words ≤ 3)
    by (Play Report) digits l = (omega (arith, l), omega (arith, l))
    by (Run false) digits l = (omega (arith, l), omega (arith, l))
    by (Play Trace) digits l = (omega (arith, l), omega (arith, l))
    by (Run true) digits l = (omega (arith, l), omega (arith, l))
    by (Play Costs) digits l = (omega (arith, l), omega (arith, l))
    by (Play Picture) digits l = (omega (arith, l), omega (arith, l))
    by (Play Columns) digits l = (omega (arith, l), omega (arith, l))
    by Check digits l = (omega (arith, l), omega (arith, l))
    by Compile digits l = (omega (arith, l), omega (arith, l))
    by Upgrade digits l = (omega (arith, l), omega (arith, l))
    by Explain digits l = (omega (arith, l), omega (arith, l))
    by (Explore most) [] l = (omega (arith, l), omega (arith, l))
    by (Explore most) (d ∷ digits) l = (omega (arith, l), omega (arith, l))
    by Verify digits l = (omega (arith, l), omega (arith, l))
    by (Multi false) digits l = (omega (arith, l), omega (arith, l))
    by (Multi true) digits l = (omega (arith, l), omega (arith, l))
    by (Load s n) digits l = (omega (arith, l), omega (arith, l))

-- ---- one word

word_of : (word : String Global) (command : Command) → IsCommand (word ∷ []) command → IsWordOf (string_bytes word) command
word_of word (Play Report) is = ap (text_at 0) is
word_of word (Run false) is = ap (text_at 0) is
word_of word (Play Trace) is = absurd (omega (arith, ap length is))
word_of word (Run true) is = absurd (omega (arith, ap length is))
word_of word (Play Costs) is = ap (text_at 0) is
word_of word (Play Picture) is = ap (text_at 0) is
word_of word (Play Columns) is = absurd (omega (arith, ap length is))
word_of word Check is = ap (text_at 0) is
word_of word Compile is = ap (text_at 0) is
word_of word Upgrade is = ap (text_at 0) is
word_of word Explain is = ap (text_at 0) is
word_of word (Explore most) (inl (none, is)) = (none, ap (text_at 0) is)
word_of word (Explore most) (inr (digits, bound, is)) = absurd (omega (arith, ap length is))
word_of word Verify is = ap (text_at 0) is
word_of word (Multi false) is = ap (text_at 0) is
word_of word (Multi true) is = absurd (omega (arith, ap length is))
word_of word (Load s n) is = absurd (omega (arith, ap length is.2))

of_word : (word : String Global) (command : Command) → IsWordOf (string_bytes word) command → IsCommand (word ∷ []) command
of_word word (Play Report) is = ap (λ t. t ∷ []) is
of_word word (Run false) is = ap (λ t. t ∷ []) is
of_word word (Play Trace) is = absurd is
of_word word (Run true) is = absurd is
of_word word (Play Costs) is = ap (λ t. t ∷ []) is
of_word word (Play Picture) is = ap (λ t. t ∷ []) is
of_word word (Play Columns) is = absurd is
of_word word Check is = ap (λ t. t ∷ []) is
of_word word Compile is = ap (λ t. t ∷ []) is
of_word word Upgrade is = ap (λ t. t ∷ []) is
of_word word Explain is = ap (λ t. t ∷ []) is
of_word word (Explore most) (none, is) = inl (none, ap (λ t. t ∷ []) is)
of_word word Verify is = ap (λ t. t ∷ []) is
of_word word (Multi false) is = ap (λ t. t ∷ []) is
of_word word (Multi true) is = absurd is
of_word word (Load s n) is = absurd is

-- words are one, where there is a first and no second
pub one_of : (words : List (String Global)) (word : String Global) → 1 ≤ length words → length words < 2 → word ≡ slice_index_or words 0 word → words ≡ word ∷ []
one_of [] word first second is = absurd (omega (arith, first))
one_of (w ∷ []) word first second is = ap (λ x. x ∷ []) (sym is)
one_of (w ∷ v ∷ words) word first second is = absurd (omega (arith, second))

-- what one word says, of all words
pub one_word_says : (words : List (String Global)) (word : String Global) (text : List ℕ) (o : Option Command) → words ≡ word ∷ [] → text ≡ string_bytes word
    → MatchOption o ((command : Command) → IsWordOf text command → ⊥) (IsWordOf text) → MatchOption o ((command : Command) → IsCommand words command → ⊥) (IsCommand words)
one_word_says words word text None is same none = λ command says. none command (subst (λ t. IsWordOf t command) (sym same) (word_of word command (subst (λ l. IsCommand l command) is says)))
one_word_says words word text (Some command) is same says = subst (λ l. IsCommand l command) (sym is) (of_word word command (subst (λ t. IsWordOf t command) same says))

-- ---- two words

-- words are two, where there is a second and no third
pub two_of : (words : List (String Global)) (word more : String Global) → 2 ≤ length words → length words < 3 → word ≡ slice_index_or words 0 word → more ≡ slice_index_or words 1 more
    → words ≡ word ∷ more ∷ []
two_of [] word more second third is isn't = absurd (omega (arith, second))
two_of (w ∷ []) word more second third is isn't = absurd (omega (arith, second))
two_of (w ∷ v ∷ []) word more second third is isn't = cc (is, isn't)
two_of (w ∷ v ∷ u ∷ words) word more second third is isn't = absurd (omega (arith, third))

pair_of : (word more : String Global) (command : Command) → IsCommand (word ∷ more ∷ []) command → IsPairOf (string_bytes word) (string_bytes more) command
pair_of word more (Play Report) is = absurd (omega (arith, ap length is))
pair_of word more (Run false) is = absurd (omega (arith, ap length is))
pair_of word more (Play Trace) is = (ap (text_at 0) is, ap (text_at 1) is)
pair_of word more (Run true) is = (ap (text_at 0) is, ap (text_at 1) is)
pair_of word more (Play Costs) is = absurd (omega (arith, ap length is))
pair_of word more (Play Picture) is = absurd (omega (arith, ap length is))
pair_of word more (Play Columns) is = (ap (text_at 0) is, ap (text_at 1) is)
pair_of word more Check is = absurd (omega (arith, ap length is))
pair_of word more Compile is = absurd (omega (arith, ap length is))
pair_of word more Upgrade is = absurd (omega (arith, ap length is))
pair_of word more Explain is = absurd (omega (arith, ap length is))
pair_of word more (Explore most) (inl (none, is)) = absurd (omega (arith, ap length is))
pair_of word more (Explore most) (inr (digits, bound, is)) = (ap (text_at 0) is, subst (AreBoundOf most) (sym (ap (text_at 1) is)) bound)
pair_of word more Verify is = absurd (omega (arith, ap length is))
pair_of word more (Multi false) is = absurd (omega (arith, ap length is))
pair_of word more (Multi true) is = (ap (text_at 0) is, ap (text_at 1) is)
pair_of word more (Load s n) is = absurd (omega (arith, ap length is.2))

of_pair : (word more : String Global) (command : Command) → IsPairOf (string_bytes word) (string_bytes more) command → IsCommand (word ∷ more ∷ []) command
of_pair word more (Play Report) is = absurd is
of_pair word more (Run false) is = absurd is
of_pair word more (Play Trace) is = cc (is.0, is.1)
of_pair word more (Run true) is = cc (is.0, is.1)
of_pair word more (Play Costs) is = absurd is
of_pair word more (Play Picture) is = absurd is
of_pair word more (Play Columns) is = cc (is.0, is.1)
of_pair word more Check is = absurd is
of_pair word more Compile is = absurd is
of_pair word more Upgrade is = absurd is
of_pair word more Explain is = absurd is
of_pair word more (Explore most) is = inr (string_bytes more, is.1, ap (λ t. t ∷ string_bytes more ∷ []) is.0)
of_pair word more Verify is = absurd is
of_pair word more (Multi false) is = absurd is
of_pair word more (Multi true) is = cc (is.0, is.1)
of_pair word more (Load s n) is = absurd is

-- what two words say, of all words
pub two_words_say : (words : List (String Global)) (word more : String Global) (one two : List ℕ) (o : Option Command) → words ≡ word ∷ more ∷ [] → one ≡ string_bytes word → two ≡ string_bytes more
    → MatchOption o ((command : Command) → IsPairOf one two command → ⊥) (IsPairOf one two)
    → MatchOption o ((command : Command) → IsCommand words command → ⊥) (IsCommand words)
two_words_say words word more one two None is a b none =
    λ command says. none command (subst (λ t. IsPairOf t two command) (sym a) (subst (λ t. IsPairOf (string_bytes word) t command) (sym b)
    (pair_of word more command (subst (λ l. IsCommand l command) is says))))
two_words_say words word more one two (Some command) is a b says =
    subst (λ l. IsCommand l command) (sym is) (of_pair word more command
    (subst (λ t. IsPairOf (string_bytes word) t command) b (subst (λ t. IsPairOf t two command) a says)))

-- ---- three words

-- words are three, where there is a third and no fourth
pub three_of : (words : List (String Global)) (word name digits : String Global) → 3 ≤ length words → length words < 4 → word ≡ slice_index_or words 0 word → name ≡ slice_index_or words 1 name
    → digits ≡ slice_index_or words 2 digits → words ≡ word ∷ name ∷ digits ∷ []
three_of [] word name digits third fourth a b c = absurd (omega (arith, third))
three_of (w ∷ []) word name digits third fourth a b c = absurd (omega (arith, third))
three_of (w ∷ v ∷ []) word name digits third fourth a b c = absurd (omega (arith, third))
three_of (w ∷ v ∷ u ∷ []) word name digits third fourth a b c = cc (a, b, c)
three_of (w ∷ v ∷ u ∷ t ∷ words) word name digits third fourth a b c = absurd (omega (arith, fourth))

-- where no service has the name, or the digits stand for no number, nothing is said
pub no_service : (word name digits : List ℕ) → ((kind : ServiceKind) → name ≡ (facts_by kind).name → ⊥) → (command : Command) → IsLoadOf word name digits command → ⊥
no_service word name digits none (Play shows) is = is
no_service word name digits none (Run trace) is = is
no_service word name digits none Check is = is
no_service word name digits none Compile is = is
no_service word name digits none Upgrade is = is
no_service word name digits none Explain is = is
no_service word name digits none (Explore most) is = is
no_service word name digits none Verify is = is
no_service word name digits none (Multi trace) is = is
no_service word name digits none (Load s n) is = none s is.1

load_of : (word name digits : String Global) (command : Command) → IsCommand (word ∷ name ∷ digits ∷ []) command → IsLoadOf (string_bytes word) (string_bytes name) (string_bytes digits) command
load_of word name digits (Play Report) is = absurd (omega (arith, ap length is))
load_of word name digits (Run false) is = absurd (omega (arith, ap length is))
load_of word name digits (Play Trace) is = absurd (omega (arith, ap length is))
load_of word name digits (Run true) is = absurd (omega (arith, ap length is))
load_of word name digits (Play Costs) is = absurd (omega (arith, ap length is))
load_of word name digits (Play Picture) is = absurd (omega (arith, ap length is))
load_of word name digits (Play Columns) is = absurd (omega (arith, ap length is))
load_of word name digits Check is = absurd (omega (arith, ap length is))
load_of word name digits Compile is = absurd (omega (arith, ap length is))
load_of word name digits Upgrade is = absurd (omega (arith, ap length is))
load_of word name digits Explain is = absurd (omega (arith, ap length is))
load_of word name digits (Explore most) (inl (none, is)) = absurd (omega (arith, ap length is))
load_of word name digits (Explore most) (inr (shown, bound, is)) = absurd (omega (arith, ap length is))
load_of word name digits Verify is = absurd (omega (arith, ap length is))
load_of word name digits (Multi false) is = absurd (omega (arith, ap length is))
load_of word name digits (Multi true) is = absurd (omega (arith, ap length is))
load_of word name digits (Load s n) is = (ap (text_at 0) is.2, ap (text_at 1) is.2, subst (AreDigitsOf n) (sym (ap (text_at 2) is.2)) is.1)

of_load : (word name digits : String Global) (command : Command) → IsLoadOf (string_bytes word) (string_bytes name) (string_bytes digits) command → IsCommand (word ∷ name ∷ digits ∷ []) command
of_load word name digits (Play shows) is = absurd is
of_load word name digits (Run trace) is = absurd is
of_load word name digits Check is = absurd is
of_load word name digits Compile is = absurd is
of_load word name digits Upgrade is = absurd is
of_load word name digits Explain is = absurd is
of_load word name digits (Explore most) is = absurd is
of_load word name digits Verify is = absurd is
of_load word name digits (Multi trace) is = absurd is
of_load word name digits (Load s n) is = (string_bytes digits, is.2, cc (is.0, is.1))

-- what three words say, of all words
pub three_words_say : (words : List (String Global)) (word name digits : String Global) (one two three : List ℕ) (o : Option Command) → words ≡ word ∷ name ∷ digits ∷ [] → one ≡ string_bytes word
    → two ≡ string_bytes name → three ≡ string_bytes digits
    → MatchOption o ((command : Command) → IsLoadOf one two three command → ⊥) (IsLoadOf one two three)
    → MatchOption o ((command : Command) → IsCommand words command → ⊥) (IsCommand words)
three_words_say words word name digits one two three None is a b c none =
    λ command says. none command (subst (λ t. IsLoadOf t two three command) (sym a) (subst (λ t. IsLoadOf (string_bytes word) t three command) (sym b)
    (subst (λ t. IsLoadOf (string_bytes word) (string_bytes name) t command) (sym c) (load_of word name digits command (subst (λ l. IsCommand l command) is says)))))
three_words_say words word name digits one two three (Some command) is a b c says =
    subst (λ l. IsCommand l command) (sym is) (of_load word name digits command
    (subst (λ t. IsLoadOf (string_bytes word) (string_bytes name) t command) c (subst (λ t. IsLoadOf (string_bytes word) t three command) b (subst (λ t. IsLoadOf t two three command) a says))))
