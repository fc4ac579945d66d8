-- What is wrong with an entry is wrong within its line.
use Rattle.std.proofs.Common.{◌≡◌, ℕ, ◌+◌, ◌-◌, ◌≤◌, Bool, true, false, List, [], ◌∷◌, ◌++◌, None, Some, length, length-append, ap, subst, arith}
use Rattle.std.specs.Prelude.{◌==◌, codes}
use Rattle.std.specs.List.{flat_map}
use Rattle.std.specs.declared.option.Option.{Option}
use Rattle.sg_entries.specs.Flaws.{Flaw, entry_flaws, flaw_if, number_flaws, text_flaws}
use Rattle.sg_entries.specs.Inside.Making.{IsFirst}
use Rattle.sg_entries.specs.Inside.Flaws.{answer_flaws, arg_flaws, client_flaws, fun_flaws, optional_flaws, too_many_entries, word_flaws}
use Rattle.sg_entries.specs.declared.error.EntriesKind.{EntriesKind}
use Rattle.sg_entries.specs.declared.error.EntriesKind.TheVariants.{Limit}
use Rattle.sg_entries.specs.Entry.{IsEntry, answer_pieces, arg_pieces, entry_pieces}
use Rattle.sg_entries.specs.Inside.Forms.{args_pieces, desc_pieces, bytes_pieces, next_arg_pieces, word_pieces}
use Rattle.sg_entries.specs.Pieces.{ArePlaced, EntryPiece, IsPiece, fixed, name, number, piece_bytes, positive, printable}
use Rattle.sg_entries.specs.sg_lex.Lexeme.{Spelling}
use Rattle.sg_entries.specs.declared.tree.WrittenAnswer.{WrittenAnswer}
use Rattle.sg_entries.specs.declared.tree.WrittenAnswer.TheVariants.{Refused, Ok}
use Rattle.sg_entries.specs.declared.tree.WrittenArg.{WrittenArg}
use Rattle.sg_entries.specs.declared.tree.WrittenArg.TheVariants.{Number, Text}
use Rattle.sg_entries.specs.declared.tree.WrittenEntry.{WrittenEntry}
use Rattle.sg_facts.specs.Interface.{Declared}
use Rattle.sg_facts.specs.sg_base.Lists.{Each}
use Rattle.sg_script.specs.Scripts.{declared_fun}

-- ---- a fact of each element of a list

pub each_front : {A : Type 0} (P : A → Type 0) (xs ys : List A) → Each P (xs ++ ys) → Each P xs
each_front P [] ys h = tt
each_front P (x ∷ xs) ys h = (h.0, each_front P xs ys h.1)

pub each_back : {A : Type 0} (P : A → Type 0) (xs ys : List A) → Each P (xs ++ ys) → Each P ys
each_back P [] ys h = h
each_back P (x ∷ xs) ys h = each_back P xs ys h.1

pub each_both : {A : Type 0} (P : A → Type 0) (xs ys : List A) → Each P xs → Each P ys → Each P (xs ++ ys)
each_both P [] ys h g = g
each_both P (x ∷ xs) ys h g = (h.0, each_both P xs ys h.1 g)

-- ---- pieces

-- what is spelt in a piece begins at this place at most
abbrev Ends : ℕ → EntryPiece → Type 0
Ends n (fixed bytes) = Unit {0}
Ends n (number s) = s.at ≤ n
Ends n (positive s) = s.at ≤ n
Ends n (name s) = s.at ≤ n
Ends n (printable s) = s.at ≤ n

piece_ends : (n place : ℕ) (p : EntryPiece) → IsPiece place p → place ≤ n → Ends n p
piece_ends n place (fixed bytes) is le = tt
piece_ends n place (number s) is le = let at = is.1 in omega (arith, at, le)
piece_ends n place (positive s) is le = let at = is.1 in omega (arith, at, le)
piece_ends n place (name s) is le = let at = is.1 in omega (arith, at, le)
piece_ends n place (printable s) is le = let at = is.1 in omega (arith, at, le)

pieces_end : (n place : ℕ) (pieces : List EntryPiece) → ArePlaced place pieces → place + length (flat_map piece_bytes pieces) ≤ n → Each (Ends n) pieces
pieces_end n place [] are le = tt
pieces_end n place (p ∷ pieces) are le =
    let sum = length-append (piece_bytes p) (flat_map piece_bytes pieces) in
    (piece_ends n place p are.0 (omega (arith, le)), pieces_end n (place + length (piece_bytes p)) pieces are.1 (omega (arith, sum, le)))

-- ---- flaws

module _ (n : ℕ) where
  abbrev Inside : Flaw → Type 0
  Inside f = f.at ≤ n

  flaw_inside : (b : Bool) (kind : EntriesKind) (at : ℕ) → at ≤ n → Each Inside (flaw_if b kind at)
  flaw_inside true kind at le = (le, tt)
  flaw_inside false kind at le = tt

  word_inside : (s : Spelling) → s.at ≤ n → Each Inside (word_flaws s)
  word_inside s le = flaw_inside _ Limit s.at le

  text_inside : (t : Spelling) → t.at ≤ n → Each Inside (text_flaws t)
  text_inside t le = flaw_inside _ Limit (t.at - 1) (omega (arith, le))

  arg_inside : (a : WrittenArg) → Each (Ends n) (arg_pieces a) → Each Inside (arg_flaws a)
  arg_inside (Number s) h = word_inside s h.0
  arg_inside (Text t) h = text_inside t h.1.0

  next_args_inside : (args : List WrittenArg) → Each (Ends n) (flat_map next_arg_pieces args) → Each Inside (flat_map arg_flaws args)
  next_args_inside [] h = tt
  next_args_inside (a ∷ args) h =
      each_both Inside (arg_flaws a) (flat_map arg_flaws args) (arg_inside a (each_front (Ends n) (arg_pieces a) (flat_map next_arg_pieces args) h.1))
      (next_args_inside args (each_back (Ends n) (arg_pieces a) (flat_map next_arg_pieces args) h.1))

  args_inside : (args : List WrittenArg) → Each (Ends n) (args_pieces args) → Each Inside (flat_map arg_flaws args)
  args_inside [] h = tt
  args_inside (a ∷ args) h =
      each_both Inside (arg_flaws a) (flat_map arg_flaws args) (arg_inside a (each_front (Ends n) (arg_pieces a) (flat_map next_arg_pieces args) h))
      (next_args_inside args (each_back (Ends n) (arg_pieces a) (flat_map next_arg_pieces args) h))

  words_inside : (words : List Spelling) → Each (Ends n) (flat_map word_pieces words) → Each Inside (flat_map word_flaws words)
  words_inside [] h = tt
  words_inside (w ∷ words) h = each_both Inside (word_flaws w) (flat_map word_flaws words) (word_inside w h.1.0) (words_inside words h.1.1)

  desc_inside : (desc : Option Spelling) → Each (Ends n) (desc_pieces desc) → Each Inside (optional_flaws word_flaws desc)
  desc_inside None h = tt
  desc_inside (Some d) h = word_inside d h.1.0

  bytes_inside : (bytes : Option Spelling) → Each (Ends n) (bytes_pieces bytes) → Each Inside (optional_flaws text_flaws bytes)
  bytes_inside None h = tt
  bytes_inside (Some t) h = text_inside t h.1.1.0

  answer_inside : (answer : WrittenAnswer) → Each (Ends n) (answer_pieces answer) → Each Inside (answer_flaws answer)
  answer_inside (Refused code) h = tt
  answer_inside (Ok desc words bytes) h =
      let front = each_front (Ends n) (desc_pieces desc ++ flat_map word_pieces words) (bytes_pieces bytes) h.1 in
      let b = each_back (Ends n) (desc_pieces desc ++ flat_map word_pieces words) (bytes_pieces bytes) h.1 in
      let d = each_front (Ends n) (desc_pieces desc) (flat_map word_pieces words) front in
      let w = each_back (Ends n) (desc_pieces desc) (flat_map word_pieces words) front in
      each_both Inside (optional_flaws word_flaws desc ++ flat_map word_flaws words) (optional_flaws text_flaws bytes)
      (each_both Inside (optional_flaws word_flaws desc) (flat_map word_flaws words) (desc_inside desc d) (words_inside words w)) (bytes_inside bytes b)

  fun_inside : (i : Declared) (e : WrittenEntry) (fun : Option ℕ) → e.name.at ≤ n → Each Inside (fun_flaws i e fun)
  fun_inside i e None le = (le, tt)
  fun_inside i e (Some fun) le = flaw_inside _ _ e.name.at le

-- a flaw of an entry stands within its line
pub flaws_within : (shows : List ℕ → Bool) (i : Declared) (nth : ℕ) (line : List ℕ) (e : WrittenEntry) → IsEntry shows line e → Each (λ f. f.at ≤ length line) (entry_flaws i nth e)
flaws_within shows i nth line e is =
    let n = length line in
    let all : length line ≡ length (flat_map piece_bytes (entry_pieces e)) = ap length is.1 in
    let h = pieces_end n 0 (entry_pieces e) is.0.0 (omega (arith, all)) in
    let client = h.1.0 in
    let seq = h.1.1.1.0 in
    let name = h.1.1.1.1.1.0 in
    let rest = h.1.1.1.1.1.1.1 in
    let args = each_front (Ends n) (args_pieces e.args) (fixed (codes ")") ∷ fixed (codes " = ") ∷ answer_pieces e.answer) rest in
    let answer = each_back (Ends n) (args_pieces e.args) (fixed (codes ")") ∷ fixed (codes " = ") ∷ answer_pieces e.answer) rest in
    let own = client_flaws e.client in
    let seqs = number_flaws 32 e.seq in
    let funs = fun_flaws i e (declared_fun i e.name.bytes) in
    let many = flaw_if (nth == too_many_entries) Limit e.name.at in
    let inner = flat_map arg_flaws e.args in
    let last = answer_flaws e.answer in
    each_both (Inside n) (own ++ seqs ++ funs ++ many ++ inner) last
    (each_both (Inside n) (own ++ seqs ++ funs ++ many) inner
    (each_both (Inside n) (own ++ seqs ++ funs) many
    (each_both (Inside n) (own ++ seqs) funs
    (each_both (Inside n) own seqs (flaw_inside n _ _ e.client.at client) (flaw_inside n _ _ e.seq.at seq))
    (fun_inside n i e (declared_fun i e.name.bytes) name)) (flaw_inside n _ _ e.name.at name)) (args_inside n e.args args)) (answer_inside n e.answer answer.1.1)

-- so does the first
pub first_within : (shows : List ℕ → Bool) (i : Declared) (nth : ℕ) (line : List ℕ) (e : WrittenEntry) (f : Flaw) → IsEntry shows line e → IsFirst (entry_flaws i nth e) f → f.at ≤ length line
first_within shows i nth line e f is first = (subst (Each (λ f. f.at ≤ length line)) first.is (flaws_within shows i nth line e is)).0
