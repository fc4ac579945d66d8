-- A text of which some entry lines were read.
use Rattle.std.proofs.Common.{◌≡◌, ℕ, suc, ◌+◌, ◌≤◌, Bool, true, false, List, [], ◌∷◌, ◌++◌, length, length-append, map, Ok, Err, append_assoc, append-nil, refl, sym, ◌∙◌, ap, subst, inr, arith}
use Rattle.std.specs.Prelude.{◌==◌}
use Rattle.std.proofs.lemmas.Bool.Decides.{nat_tests}
use Rattle.std.specs.List.{flat_map}
use Rattle.sg_entries.specs.Flaws.{Flaw, entry_flaws, flaw_if, flaws_from, number_flaws}
use Rattle.sg_entries.specs.Inside.Making.{IsFirst, IsMade}
use Rattle.sg_entries.specs.Inside.Flaws.{answer_flaws, arg_flaws, client_flaws, fun_flaws, in_line, too_many_entries}
use Rattle.sg_entries.specs.Inside.Parsing.{FailsIn, HasEntries, IsHistory, IsNoEntry}
use Rattle.sg_entries.specs.Lines.{entry_lines_of}
use Rattle.sg_entries.specs.Reads.{AreEntries, IsReadOf}
use Rattle.sg_entries.specs.Standing.{entry_of}
use Rattle.sg_entries.specs.declared.error.EntriesError.{EntriesError}
use Rattle.sg_entries.specs.declared.error.EntriesError.TheVariants.{NoMemory, Fault}
use Rattle.sg_entries.specs.declared.error.EntriesKind.{EntriesKind}
use Rattle.sg_entries.specs.declared.error.EntriesKind.TheVariants.{Limit}
use Rattle.sg_entries.specs.Parses.{EntryParses}
use Rattle.sg_entries.specs.sg_lex.Lexeme.{Spelling}
use Rattle.sg_entries.specs.declared.tree.WrittenEntry.{WrittenEntry}
use Rattle.sg_facts.specs.Interface.{Declared}
use Rattle.sg_facts.specs.Limits.{most_script_calls}
use Rattle.sg_facts.specs.declared.entry.Entry.{Entry}
use Rattle.sg_script.specs.Scripts.{declared_fun}

-- ---- lists of lines and entries

pub are_more : (shows : List ℕ → Bool) (lines more : List Spelling) (entries others : List WrittenEntry) → AreEntries shows lines entries → AreEntries shows more others → AreEntries shows (lines ++ more) (entries ++ others)
are_more shows [] more [] others are also = also
are_more shows [] more (e ∷ entries) others are also = absurd are
are_more shows (l ∷ lines) more [] others are also = absurd are
are_more shows (l ∷ lines) more (e ∷ entries) others are also = (are.0, are_more shows lines more entries others are.1 also)

-- the entries of the lines after some
pub rest_of : (shows : List ℕ → Bool) (lines more : List Spelling) (entries : List WrittenEntry) → AreEntries shows (lines ++ more) entries → (others : List WrittenEntry) × AreEntries shows more others
rest_of shows [] more entries are = (entries, are)
rest_of shows (l ∷ lines) more [] are = absurd are
rest_of shows (l ∷ lines) more (e ∷ entries) are = rest_of shows lines more entries are.1

as_many : (shows : List ℕ → Bool) (lines : List Spelling) (entries : List WrittenEntry) → AreEntries shows lines entries → length lines ≡ length entries
as_many shows [] [] are = refl
as_many shows [] (e ∷ entries) are = absurd are
as_many shows (l ∷ lines) [] are = absurd are
as_many shows (l ∷ lines) (e ∷ entries) are = ap suc (as_many shows lines entries are.1)

flaws_more : (shows : List ℕ → Bool) (i : Declared) (nth : ℕ) (lines more : List Spelling) (entries others : List WrittenEntry) → AreEntries shows lines entries
    → flaws_from i nth (lines ++ more) (entries ++ others) ≡ flaws_from i nth lines entries ++ flaws_from i (nth + length lines) more others
flaws_more shows i nth [] more [] others are = ap (λ n. flaws_from i n more others) (omega arith)
flaws_more shows i nth [] more (e ∷ entries) others are = absurd are
flaws_more shows i nth (l ∷ lines) more [] others are = absurd are
flaws_more shows i nth (l ∷ lines) more (e ∷ entries) others are =
    let own = map (in_line l) (entry_flaws i nth e) in
    let later : flaws_from i (nth + 1 + length lines) more others ≡ flaws_from i (nth + suc (length lines)) more others = ap (λ n. flaws_from i n more others) (omega arith) in
    ap (λ r. own ++ r) (flaws_more shows i (nth + 1) lines more entries others are.1 ∙ ap (λ r. flaws_from i (nth + 1) lines entries ++ r) later)
    ∙ sym (append_assoc own (flaws_from i (nth + 1) lines entries) (flaws_from i (nth + suc (length lines)) more others))

map_more : {A B : Type 0} (f : A → B) (xs ys : List A) → map f (xs ++ ys) ≡ map f xs ++ map f ys
map_more f [] ys = refl
map_more f (x ∷ xs) ys = ap (λ l. f x ∷ l) (map_more f xs ys)

-- ---- what is read so far

-- some lines are left, and those before them are entries'
pub record IsUpTo (shows : List ℕ → Bool) (text : List ℕ) (left : List Spelling) : Type 0 where
  pub before : List Spelling
  pub entries : List WrittenEntry
  pub all : entry_lines_of text ≡ before ++ left
  pub parsed : AreEntries shows before entries

-- and nothing is wrong with these, and they stand for a history
pub record IsReadUpTo (shows : List ℕ → Bool) (i : Declared) (text : List ℕ) (left : List Spelling) (history : List Entry) : Type 0 where
  pub so_far : IsUpTo shows text left
  pub flawless : flaws_from i 1 so_far.before so_far.entries ≡ []
  pub is : history ≡ map (entry_of i) so_far.entries
  pub few : length history ≤ most_script_calls

abbrev pub none_yet : (shows : List ℕ → Bool) (text : List ℕ) → IsUpTo shows text (entry_lines_of text)
none_yet shows text = record { before = []; entries = []; all = refl; parsed = tt }

pub none_read : (shows : List ℕ → Bool) (i : Declared) (text : List ℕ) → IsReadUpTo shows i text (entry_lines_of text) []
none_read shows i text = record { so_far = none_yet shows text; flawless = refl; is = refl; few = omega arith }

-- one line more is an entry's
abbrev pub one_more : (shows : List ℕ → Bool) (text : List ℕ) (l : Spelling) (left : List Spelling) (e : WrittenEntry) → IsUpTo shows text (l ∷ left) → EntryParses shows l.bytes (Ok e) → IsUpTo shows text left
one_more shows text l left e u parses = record {
  before = u.before ++ l ∷ [];
  entries = u.entries ++ e ∷ [];
  all = u.all ∙ sym (append_assoc u.before (l ∷ []) left);
  parsed = are_more shows u.before (l ∷ []) u.entries (e ∷ []) u.parsed (parses, tt);
}

-- all lines are entries'
pub all_parsed : (shows : List ℕ → Bool) (text : List ℕ) → IsUpTo shows text [] → HasEntries shows text
all_parsed shows text u = (u.entries, subst (λ lines. AreEntries shows lines u.entries) (sym (u.all ∙ append-nil u.before)) u.parsed)

-- the next line is none
pub no_entry : (shows : List ℕ → Bool) (text : List ℕ) (l : Spelling) (left : List Spelling) (kind : EntriesKind) (at : ℕ) → IsUpTo shows text (l ∷ left) → FailsIn shows l kind at → IsNoEntry shows text kind at
no_entry shows text l left kind at u fails =
    (u.before, l, left, u.entries, fails.place, u.all, u.parsed, fails.fails, fails.is_syntax, fails.at_is)

-- ---- flaws

back_none : {A : Type 0} (xs ys : List A) → xs ++ ys ≡ [] → ys ≡ []
back_none [] ys e = e
back_none (x ∷ xs) ys e = absurd cc

front_none : {A : Type 0} (xs ys : List A) → xs ++ ys ≡ [] → xs ≡ []
front_none [] ys e = refl
front_none (x ∷ xs) ys e = absurd cc

not_flawed : (b : Bool) (kind : EntriesKind) (at : ℕ) → flaw_if b kind at ≡ [] → b ≡ false
not_flawed true kind at e = absurd cc
not_flawed false kind at e = refl

-- each entry line of a text is an entry's, and this is the first that is wrong with these
abbrev pub IsFlawed : (List ℕ → Bool) → Declared → List ℕ → EntriesKind → ℕ → Type 0
IsFlawed shows i text kind at =
    (entries : List WrittenEntry) × (others : List Flaw) × AreEntries shows (entry_lines_of text) entries
    × (flaws_from i 1 (entry_lines_of text) entries ≡ record { kind = kind; at = at } ∷ others)

-- an entry without a flaw isn't the first that is one too many
pub not_too_many : (i : Declared) (nth : ℕ) (e : WrittenEntry) → entry_flaws i nth e ≡ [] → nth == too_many_entries ≡ false
not_too_many i nth e none =
    let funs = client_flaws e.client ++ number_flaws 32 e.seq ++ fun_flaws i e (declared_fun i e.name.bytes) in
    let many = flaw_if (nth == too_many_entries) Limit e.name.at in
    let inner = flat_map arg_flaws e.args in
    let front : funs ++ many ≡ [] = front_none (funs ++ many) inner (front_none (funs ++ many ++ inner) (answer_flaws e.answer) none) in
    not_flawed (nth == too_many_entries) Limit e.name.at (back_none funs many front)

pub unmapped : {A B : Type 0} (f : A → B) (xs : List A) → map f xs ≡ [] → xs ≡ []
unmapped f [] e = refl
unmapped f (x ∷ xs) e = absurd cc

module _ (shows : List ℕ → Bool) (i : Declared) (text : List ℕ) (l : Spelling) (left : List Spelling) (history : List Entry) (e : WrittenEntry) (r : IsReadUpTo shows i text (l ∷ left) history) (parses : EntryParses shows l.bytes (Ok e)) where
  abbrev own : List Flaw
  own = map (in_line l) (entry_flaws i (length history + 1) e)

  number : 1 + length r.so_far.before ≡ length history + 1
  number =
      let same = as_many shows r.so_far.before r.so_far.entries r.so_far.parsed in
      let made : length history ≡ length r.so_far.entries = ap length r.is ∙ length-map (entry_of i) r.so_far.entries in
      omega (arith, same, made)
    where
      length-map : (f : WrittenEntry → Entry) (xs : List WrittenEntry) → length (map f xs) ≡ length xs
      length-map f [] = refl
      length-map f (x ∷ xs) = ap suc (length-map f xs)

  flaws_then : (rest : List WrittenEntry) (lines : List Spelling) → flaws_from i 1 (r.so_far.before ++ l ∷ lines) (r.so_far.entries ++ e ∷ rest) ≡ own ++ flaws_from i (length history + 1 + 1) lines rest
  flaws_then rest lines =
      flaws_more shows i 1 r.so_far.before (l ∷ lines) r.so_far.entries (e ∷ rest) r.so_far.parsed
      ∙ ap (λ f. f ++ flaws_from i (1 + length r.so_far.before) (l ∷ lines) (e ∷ rest)) r.flawless
      ∙ ap (λ n. flaws_from i n (l ∷ lines) (e ∷ rest)) number

  -- one entry more is read
  pub read_more : (made : Entry) → own ≡ [] → made ≡ entry_of i e → IsReadUpTo shows i text left (history ++ made ∷ [])
  read_more made none is = record {
    so_far = one_more shows text l left e r.so_far parses;
    flawless = flaws_then [] [] ∙ append-nil own ∙ none;
    is = ap (λ h. h ++ made ∷ []) r.is ∙ ap (λ m. map (entry_of i) r.so_far.entries ++ m ∷ []) is ∙ sym (map_more (entry_of i) r.so_far.entries (e ∷ []));
    few = (
        let last = not_too_many i (length history + 1) e (unmapped (in_line l) (entry_flaws i (length history + 1) e) none) in
        let longer : length (history ++ made ∷ []) ≡ length history + 1 = length-append history (made ∷ []) in
        let most = r.few in
        grind (arith, nat_tests, last, longer, most));
  }

  -- the next entry has the first flaw
  pub flawed : (kind : EntriesKind) (at : ℕ) → HasEntries shows text → IsFirst own (record { kind = kind; at = at }) → IsFlawed shows i text kind at
  flawed kind at all first =
      let later = rest_of shows (r.so_far.before ++ l ∷ []) left all.0 (subst (λ lines. AreEntries shows lines all.0) (r.so_far.all ∙ sym (append_assoc r.so_far.before (l ∷ []) left)) all.1) in (
        r.so_far.entries ++ e ∷ later.0,
        first.others ++ flaws_from i (length history + 1 + 1) left later.0,
        subst (λ lines. AreEntries shows lines (r.so_far.entries ++ e ∷ later.0)) (sym r.so_far.all)
            (are_more shows r.so_far.before (l ∷ left) r.so_far.entries (e ∷ later.0) r.so_far.parsed (parses, later.1)),
        ap (λ lines. flaws_from i 1 lines (r.so_far.entries ++ e ∷ later.0)) r.so_far.all ∙ flaws_then later.0 left
            ∙ ap (λ f. f ++ flaws_from i (length history + 1 + 1) left later.0) first.is,
      )

-- the next entry is made, and so one more is read
pub goes_on : (shows : List ℕ → Bool) (i : Declared) (text : List ℕ) (l : Spelling) (left : List Spelling) (history new : List Entry) (nth : ℕ) (e : WrittenEntry) (made : Entry) → IsReadUpTo shows i text (l ∷ left) history
    → EntryParses shows l.bytes (Ok e) → nth ≡ length history + 1 → IsMade (map (in_line l) (entry_flaws i nth e)) (entry_of i e) (Ok made) → new ≡ history ++ made ∷ [] → IsReadUpTo shows i text left new
goes_on shows i text l left history new nth e made r parses count is longer =
    let none : map (in_line l) (entry_flaws i (length history + 1) e) ≡ [] = ap (λ n. map (in_line l) (entry_flaws i n e)) (sym count) ∙ is.0 in
    subst (IsReadUpTo shows i text left) (sym longer) (read_more shows i text l left history e r parses made none is.1)

-- the next entry isn't made, and so its error is answered
pub stops : (shows : List ℕ → Bool) (i : Declared) (text : List ℕ) (l : Spelling) (left : List Spelling) (history : List Entry) (nth : ℕ) (e : WrittenEntry) (error : EntriesError) → IsReadUpTo shows i text (l ∷ left) history
    → EntryParses shows l.bytes (Ok e) → nth ≡ length history + 1 → HasEntries shows text → IsMade (map (in_line l) (entry_flaws i nth e)) (entry_of i e) (Err error) → IsReadOf shows i text (Err error)
stops shows i text l left history nth e NoMemory r parses count all is = tt
stops shows i text l left history nth e (Fault kind at) r parses count all is =
    inr (flawed shows i text l left history e r parses kind at all (subst (λ n. IsFirst (map (in_line l) (entry_flaws i n e)) (record { kind = kind; at = at })) count is))

-- all is read
pub all_read : (shows : List ℕ → Bool) (i : Declared) (text : List ℕ) (history : List Entry) → IsReadUpTo shows i text [] history → IsHistory shows i text history
all_read shows i text history r =
    let lines : entry_lines_of text ≡ r.so_far.before = r.so_far.all ∙ append-nil r.so_far.before in (
      r.so_far.entries,
      subst (λ l. AreEntries shows l r.so_far.entries) (sym lines) r.so_far.parsed,
      ap (λ l. flaws_from i 1 l r.so_far.entries) lines ∙ r.flawless,
      r.is,
    )
