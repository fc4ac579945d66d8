-- The automaton reads just the lines of entries, so what it reads is what may be answered.
use Rattle.std.proofs.Common.{◌≡◌, ◌≤◌, inl, inr, ℕ, zero, suc, ◌+◌, ◌==◌, Bool, true, false, List, [], ◌∷◌, ◌++◌, length, refl, sym, ap, subst, ◌∙◌, append_assoc, arith, eqb-true}
use Rattle.std.specs.Prelude.{None, Some, codes}
use Rattle.std.specs.declared.option.Option.{Option}
use Rattle.std.specs.List.{flat_map}
use Rattle.std.proofs.lemmas.List.{append-nil}
use Rattle.std.specs.Option.{is_some}
use Rattle.sg_lex.specs.Inside.Marks.{open_bracket_byte, close_bracket_byte}
use Rattle.sg_entries.specs.declared.tree.WrittenArg.{WrittenArg}
use Rattle.sg_entries.specs.declared.tree.WrittenAnswer.{WrittenAnswer}
use Rattle.sg_entries.specs.declared.tree.WrittenAnswer.TheVariants.{Refused as refused, Ok as gave}
use Rattle.sg_entries.specs.declared.tree.WrittenEntry.{WrittenEntry}
use Rattle.sg_lex.specs.Lexeme.{Spelling}
use Rattle.sg_facts.specs.sg_base.Codes.{code_name}
use Rattle.sg_entries.specs.Pieces.{EntryPiece, fixed, number as number_piece, positive as positive_piece, name as name_piece}
use Rattle.sg_entries.specs.Entry.{text_pieces, arg_pieces, answer_pieces, entry_pieces, IsAnswer, IsEntry}
use Rattle.sg_entries.specs.Inside.Forms.{quote_byte, next_arg_pieces, args_pieces, desc_pieces, word_pieces, bytes_pieces}
use Rattle.sg_entries.specs.Inside.States.{EntryState, done, orelse, listed, coded, byte, bytes, positive, number, name, text_rest, argument, bracketed, words, words_and_bytes, given, answered, call_answer, call_rest, client_rest, entry_start}
use Rattle.sg_entries.proofs.Front.{Goes, flat, goes_none, none_goes, join, cut, over, one_goes, goes_one, fixed_cut, fixed_join, fixed_none, none_fixed}
use Rattle.sg_entries.proofs.Lang.{Lang, Listed}
use Rattle.sg_entries.proofs.Parts.{Into, byte_to, byte_from, bytes_to, bytes_from, positive_to, positive_from, number_to, number_from, name_to, name_from, text_to, text_from, quoted_to, quoted_from, argument_to, argument_from}

-- the end of a line
abbrev pub AtEnd : ℕ → List ℕ → Type 0
AtEnd at bs = bs ≡ []

-- ---- arguments

-- the pieces of further arguments and the bracket
abbrev listed_pieces : List WrittenArg → List EntryPiece
listed_pieces more = flat_map next_arg_pieces more ++ fixed (close_bracket_byte ∷ []) ∷ []

listed_to : (more args : List WrittenArg) (R : List WrittenArg → ℕ → List ℕ → Type 0) (at : ℕ) (bs : List ℕ) → Listed more R args at bs
    → Goes (listed_pieces more) (R (args ++ more)) at bs
listed_to [] args R at bs h = subst (λ v. Goes (fixed (close_bracket_byte ∷ []) ∷ []) (R v) at bs) (sym (append-nil args)) h
listed_to (a ∷ more) args R at bs h =
    let g : Goes (next_arg_pieces a) (Goes (listed_pieces more) (R (args ++ a ∷ more))) at bs =
    over (next_arg_pieces a) (Listed more R (args ++ a ∷ [])) (Goes (listed_pieces more) (R (args ++ a ∷ more))) at bs
    (λ x xs l. subst (λ v. Goes (listed_pieces more) (R v) x xs) (append_assoc args (a ∷ []) more) (listed_to more (args ++ a ∷ []) R x xs l)) h in
    subst (λ v. Goes v (R (args ++ a ∷ more)) at bs) (sym (append_assoc (next_arg_pieces a) (flat_map next_arg_pieces more) (fixed (close_bracket_byte ∷ []) ∷ [])))
    (join (next_arg_pieces a) (listed_pieces more) (R (args ++ a ∷ more)) at bs g)

listed_from : (more args : List WrittenArg) (R : List WrittenArg → ℕ → List ℕ → Type 0) (at : ℕ) (bs : List ℕ) → Goes (listed_pieces more) (R (args ++ more)) at bs
    → Listed more R args at bs
listed_from [] args R at bs h = subst (λ v. Goes (fixed (close_bracket_byte ∷ []) ∷ []) (R v) at bs) (append-nil args) h
listed_from (a ∷ more) args R at bs h =
    over (next_arg_pieces a) (Goes (listed_pieces more) (R (args ++ a ∷ more))) (Listed more R (args ++ a ∷ [])) at bs
    (λ x xs g. listed_from more (args ++ a ∷ []) R x xs (subst (λ v. Goes (listed_pieces more) (R v) x xs) (sym (append_assoc args (a ∷ []) more)) g))
    (cut (next_arg_pieces a) (listed_pieces more) (R (args ++ a ∷ more)) at bs
    (subst (λ v. Goes v (R (args ++ a ∷ more)) at bs) (append_assoc (next_arg_pieces a) (flat_map next_arg_pieces more) (fixed (close_bracket_byte ∷ []) ∷ [])) h))

-- the pieces of arguments and the bracket
abbrev bracketed_pieces : List WrittenArg → List EntryPiece
bracketed_pieces args = args_pieces args ++ fixed (close_bracket_byte ∷ []) ∷ []

bracketed_to : (k : List WrittenArg → EntryState) (v : WrittenEntry) (at : ℕ) (bs : List ℕ) → Lang (bracketed k) v at bs
    → (args : List WrittenArg) × Goes (bracketed_pieces args) (Lang (k args) v) at bs
bracketed_to k v at [] h = absurd h
bracketed_to k v at (c ∷ cs) (inl h) =
    ([], byte_to close_bracket_byte (k []) v at (c ∷ cs) h)
bracketed_to k v at (c ∷ cs) (inr h) =
    let a = argument_to (λ a. listed (a ∷ []) k) v at (c ∷ cs) h in
    let more = a.1.holds.0 in
    let R : ℕ → List ℕ → Type 0 = Lang (k (a.0 ∷ more)) v in
    let g : Goes (arg_pieces a.0) (Goes (listed_pieces more) R) at (c ∷ cs) =
    record { placed = a.1.placed; rest = a.1.rest; all = a.1.all; holds = listed_to more (a.0 ∷ []) (λ all. Lang (k all) v) _ a.1.rest a.1.holds.1 } in (
      a.0 ∷ more,
      subst (λ x. Goes x R at (c ∷ cs)) (sym (append_assoc (arg_pieces a.0) (flat_map next_arg_pieces more) (fixed (close_bracket_byte ∷ []) ∷ [])))
          (join (arg_pieces a.0) (listed_pieces more) R at (c ∷ cs) g),
    )

-- what the last of a choice reads
or_else : (s : EntryState) (p : ℕ → Bool) (g : ℕ → ℕ → EntryState) (v : WrittenEntry) (at : ℕ) (bs : List ℕ) → Lang s v at bs → Lang (orelse p g s) v at bs
or_else s p g v at [] h = h
or_else s p g v at (b ∷ bs) h = inr h

-- what the first of a choice reads
or_first : (b : ℕ) (g : ℕ → ℕ → EntryState) (s : EntryState) (v : WrittenEntry) (at : ℕ) (rest : List ℕ) → Lang (g at b) v (at + 1) rest → (b == b) ≡ true
    → Lang (orelse (λ c. c == b) g s) v at (b ∷ rest)
or_first b g s v at rest h e = inl (e, h)

bracketed_from : (k : List WrittenArg → EntryState) (v : WrittenEntry) (args : List WrittenArg) (R : ℕ → List ℕ → Type 0) (at : ℕ) (bs : List ℕ)
    → Goes (bracketed_pieces args) R at bs → Into R (k args) v → Lang (bracketed k) v at bs
bracketed_from k v [] R at bs g f =
    let c = fixed_cut close_bracket_byte [] R at bs g in
    subst (Lang (bracketed k) v at) (sym c.1)
    (inl (refl, f (at + 1) c.0 (fixed_none R (at + 1) c.0 c.2)))
bracketed_from k v (a ∷ more) R at bs g f =
    let h = cut (arg_pieces a) (listed_pieces more) R at bs
    (subst (λ x. Goes x R at bs) (append_assoc (arg_pieces a) (flat_map next_arg_pieces more) (fixed (close_bracket_byte ∷ []) ∷ [])) g) in
    or_else (argument (λ a. listed (a ∷ []) k)) (λ c. c == close_bracket_byte) (λ place c. k []) v at bs
    (argument_from (λ a. listed (a ∷ []) k) v a (Goes (listed_pieces more) R) at bs h
    (λ x xs l. (more, listed_from more (a ∷ []) (λ all. Lang (k all) v) x xs (over (listed_pieces more) R (Lang (k (a ∷ more)) v) x xs f l))))

-- ---- what follows pieces

-- another holds of what follows
onto : (ps : List EntryPiece) (P Q : ℕ → List ℕ → Type 0) (at : ℕ) (bs : List ℕ) (g : Goes ps P at bs) → Q (at + length (flat ps)) g.rest → Goes ps Q at bs
onto ps P Q at bs g h = record { placed = g.placed; rest = g.rest; all = g.all; holds = h }

-- and then further pieces
and_then : (ps qs : List EntryPiece) (P R : ℕ → List ℕ → Type 0) (at : ℕ) (bs : List ℕ) (g : Goes ps P at bs) → Goes qs R (at + length (flat ps)) g.rest
    → Goes (ps ++ qs) R at bs
and_then ps qs P R at bs g h = join ps qs R at bs (onto ps P (Goes qs R) at bs g h)

-- ---- words

-- the pieces of words
abbrev words_pieces : List Spelling → List EntryPiece
words_pieces read = flat_map word_pieces read

-- a space, and a word that follows it
spaced_word : (c : ℕ) (w : Spelling) (ps : List EntryPiece) (P R : ℕ → List ℕ → Type 0) (at : ℕ) (cs : List ℕ) → (c == 0x20) ≡ true
    → (g : Goes (number_piece w ∷ []) P (at + 1) cs) → Goes ps R ((at + 1) + length (flat (number_piece w ∷ []))) g.rest → Goes (word_pieces w ++ ps) R at (c ∷ cs)
spaced_word c w ps P R at cs t g h =
    subst (λ x. Goes (word_pieces w ++ ps) R at (x ∷ cs)) (sym (eqb-true c 0x20 t))
    (join (fixed (0x20 ∷ []) ∷ []) (number_piece w ∷ ps) R at (0x20 ∷ cs)
    (fixed_join 0x20 [] (Goes (number_piece w ∷ ps) R) at cs (none_fixed (Goes (number_piece w ∷ ps) R) (at + 1) cs
    (and_then (number_piece w ∷ []) ps P R (at + 1) cs g h))))

-- the words that were read, after others
record Words (n : ℕ) (desc : Option Spelling) (read : List Spelling) (k : WrittenAnswer → WrittenEntry) (v : WrittenEntry) (at : ℕ) (bs : List ℕ) : Type 0 where
  more : List Spelling
  few : length more ≤ n
  goes : Goes (words_pieces more) (Lang (done (k (gave desc (read ++ more) None))) v) at bs

no_words : (n : ℕ) (desc : Option Spelling) (read : List Spelling) (k : WrittenAnswer → WrittenEntry) (v : WrittenEntry) (at : ℕ) (bs : List ℕ)
    → Lang (done (k (gave desc read None))) v at bs → Words n desc read k v at bs
no_words n desc read k v at bs l =
    record {
      more = [];
      few = omega arith;
      goes = goes_none (Lang (done (k (gave desc (read ++ []) None))) v) at bs (subst (λ x. Lang (done (k (gave desc x None))) v at bs) (sym (append-nil read)) l);
    }

words_to : (n : ℕ) (desc : Option Spelling) (read : List Spelling) (k : WrittenAnswer → WrittenEntry) (v : WrittenEntry) (at : ℕ) (bs : List ℕ)
    → Lang (words n desc read k) v at bs → Words n desc read k v at bs
unfolding words
words_to zero desc read k v at bs l = no_words zero desc read k v at bs l
words_to (suc n) desc read k v at [] l = no_words (suc n) desc read k v at [] l
words_to (suc n) desc read k v at (c ∷ cs) (inr l) = no_words (suc n) desc read k v at (c ∷ cs) l
words_to (suc n) desc read k v at (c ∷ cs) (inl l) =
    let w = number_to (λ w. words n desc (read ++ w ∷ []) k) v (at + 1) cs l.1 in
    let place = (at + 1) + length (flat (number_piece w.0 ∷ [])) in
    let r = words_to n desc (read ++ w.0 ∷ []) k v place w.1.rest w.1.holds in
    let R : ℕ → List ℕ → Type 0 = Lang (done (k (gave desc (read ++ w.0 ∷ r.more) None))) v in
    let g : Goes (words_pieces r.more) R place w.1.rest =
    subst (λ x. Goes (words_pieces r.more) (Lang (done (k (gave desc x None))) v) place w.1.rest) (append_assoc read (w.0 ∷ []) r.more) r.goes in
    record {
      more = w.0 ∷ r.more;
      few = (let e = r.few in omega arith);
      goes = spaced_word c w.0 (words_pieces r.more) (Lang (words n desc (read ++ w.0 ∷ []) k) v) R at cs l.0 w.1 g;
    }

-- a space and the word that follows it, of words that are there
word_cut : (w : Spelling) (ps : List EntryPiece) (R : ℕ → List ℕ → Type 0) (at : ℕ) (bs : List ℕ) → Goes (word_pieces w ++ ps) R at bs
    → (cs : List ℕ) × (bs ≡ 0x20 ∷ cs) × Goes (number_piece w ∷ []) (Goes ps R) (at + 1) cs
word_cut w ps R at bs g =
    let c = fixed_cut 0x20 [] (Goes (number_piece w ∷ ps) R) at bs (cut (fixed (0x20 ∷ []) ∷ []) (number_piece w ∷ ps) R at bs g) in
    (c.0, c.1, cut (number_piece w ∷ []) ps R (at + 1) c.0 (fixed_none (Goes (number_piece w ∷ ps) R) (at + 1) c.0 c.2))

words_from : (n : ℕ) (more : List Spelling) (desc : Option Spelling) (read : List Spelling) (k : WrittenAnswer → WrittenEntry) (v : WrittenEntry)
    (R : ℕ → List ℕ → Type 0) (at : ℕ) (bs : List ℕ) → length more ≤ n → Goes (words_pieces more) R at bs → Into R (done (k (gave desc (read ++ more) None))) v
    → Lang (words n desc read k) v at bs
unfolding words
words_from zero [] desc read k v R at bs few g f =
    subst (λ x. Lang (done (k (gave desc x None))) v at bs) (append-nil read) (f at bs (none_goes R at bs g))
words_from zero (w ∷ more) desc read k v R at bs few g f = absurd (omega arith)
words_from (suc n) [] desc read k v R at bs few g f =
    or_else (done (k (gave desc read None))) (λ c. c == 0x20) (λ place c. number (λ w. words n desc (read ++ w ∷ []) k)) v at bs
    (subst (λ x. Lang (done (k (gave desc x None))) v at bs) (append-nil read) (f at bs (none_goes R at bs g)))
words_from (suc n) (w ∷ more) desc read k v R at bs few g f =
    let c = word_cut w (words_pieces more) R at bs g in
    let less : length more ≤ n = (let e : suc (length more) ≤ suc n = few in omega arith) in
    subst (Lang (words (suc n) desc read k) v at) (sym c.1)
    (inl (
      refl,
      number_from (λ w. words n desc (read ++ w ∷ []) k) v w (Goes (words_pieces more) R) (at + 1) c.0 c.2
          (λ x xs h. words_from n more desc (read ++ w ∷ []) k v R x xs less h
          (subst (λ y. Into R (done (k (gave desc y None))) v) (sym (append_assoc read (w ∷ []) more)) f)),
    ))

-- ---- words and bytes

abbrev shown_pieces : List Spelling → Spelling → List EntryPiece
shown_pieces more t = words_pieces more ++ bytes_pieces (Some t)

record Shown (n : ℕ) (desc : Option Spelling) (read : List Spelling) (k : WrittenAnswer → WrittenEntry) (v : WrittenEntry) (at : ℕ) (bs : List ℕ) : Type 0 where
  more : List Spelling
  bytes : Spelling
  few : length more ≤ n
  goes : Goes (shown_pieces more bytes) (Lang (done (k (gave desc (read ++ more) (Some bytes)))) v) at bs

-- a space and a text
spaced_text : (n : ℕ) (desc : Option Spelling) (read : List Spelling) (k : WrittenAnswer → WrittenEntry) (v : WrittenEntry) (at c : ℕ) (cs : List ℕ)
    → (c == 0x20) ≡ true → (t : Spelling) × Goes (text_pieces t) (Lang (done (k (gave desc read (Some t)))) v) (at + 1) cs → Shown n desc read k v at (c ∷ cs)
spaced_text n desc read k v at c cs e t =
    let R : ℕ → List ℕ → Type 0 = Lang (done (k (gave desc (read ++ []) (Some t.0)))) v in
    let g : Goes (text_pieces t.0) R (at + 1) cs =
    subst (λ x. Goes (text_pieces t.0) (Lang (done (k (gave desc x (Some t.0)))) v) (at + 1) cs) (sym (append-nil read)) t.1 in
    record {
      more = [];
      bytes = t.0;
      few = omega arith;
      goes = subst (λ x. Goes (bytes_pieces (Some t.0)) R at (x ∷ cs)) (sym (eqb-true c 0x20 e))
          (join (fixed (0x20 ∷ []) ∷ []) (text_pieces t.0) R at (0x20 ∷ cs)
          (fixed_join 0x20 [] (Goes (text_pieces t.0) R) at cs (none_fixed (Goes (text_pieces t.0) R) (at + 1) cs g)));
    }

shown_to : (n : ℕ) (desc : Option Spelling) (read : List Spelling) (k : WrittenAnswer → WrittenEntry) (v : WrittenEntry) (at : ℕ) (bs : List ℕ)
    → Lang (byte 0x20 (words_and_bytes n desc read k)) v at bs → Shown n desc read k v at bs
unfolding words_and_bytes
shown_to n desc read k v at [] l = absurd l
shown_to zero desc read k v at (c ∷ cs) l =
    spaced_text zero desc read k v at c cs l.0 (text_to (λ t. done (k (gave desc read (Some t)))) v (at + 1) cs l.1)
shown_to (suc n) desc read k v at (c ∷ []) l = absurd l.1
shown_to (suc n) desc read k v at (c ∷ d ∷ ds) (e, inl l) =
    spaced_text (suc n) desc read k v at c (d ∷ ds) e (quoted_to (λ t. done (k (gave desc read (Some t)))) v (at + 1) d ds l.0 l.1)
shown_to (suc n) desc read k v at (c ∷ d ∷ ds) (e, inr l) =
    let go : Spelling → EntryState = λ w. byte 0x20 (words_and_bytes n desc (read ++ w ∷ []) k) in
    let w = number_to go v (at + 1) (d ∷ ds) l in
    let place = (at + 1) + length (flat (number_piece w.0 ∷ [])) in
    let r = shown_to n desc (read ++ w.0 ∷ []) k v place w.1.rest w.1.holds in
    let R : ℕ → List ℕ → Type 0 = Lang (done (k (gave desc (read ++ w.0 ∷ r.more) (Some r.bytes)))) v in
    let g : Goes (shown_pieces r.more r.bytes) R place w.1.rest =
    subst (λ x. Goes (shown_pieces r.more r.bytes) (Lang (done (k (gave desc x (Some r.bytes)))) v) place w.1.rest) (append_assoc read (w.0 ∷ []) r.more) r.goes in
    record {
      more = w.0 ∷ r.more;
      bytes = r.bytes;
      few = (let e = r.few in omega arith);
      goes = spaced_word c w.0 (shown_pieces r.more r.bytes) (Lang (go w.0) v) R at (d ∷ ds) e w.1 g;
    }

shown_from : (n : ℕ) (more : List Spelling) (t : Spelling) (desc : Option Spelling) (read : List Spelling) (k : WrittenAnswer → WrittenEntry) (v : WrittenEntry)
    (R : ℕ → List ℕ → Type 0) (at : ℕ) (bs : List ℕ) → length more ≤ n → Goes (shown_pieces more t) R at bs → Into R (done (k (gave desc (read ++ more) (Some t)))) v
    → Lang (byte 0x20 (words_and_bytes n desc read k)) v at bs
unfolding words_and_bytes
shown_from n [] t desc read k v R at bs few g f =
    byte_from 0x20 (words_and_bytes n desc read k) v (Goes (text_pieces t) R) at bs (cut (fixed (0x20 ∷ []) ∷ []) (text_pieces t) R at bs g)
    (by n)
  where
    f' : Into R (done (k (gave desc read (Some t)))) v
    f' = subst (λ y. Into R (done (k (gave desc y (Some t)))) v) (append-nil read) f

    by : (n : ℕ) → Into (Goes (text_pieces t) R) (words_and_bytes n desc read k) v
    by zero = λ x xs h. text_from (λ t. done (k (gave desc read (Some t)))) v t R x xs h f'
    by (suc n) = λ x xs h.
        let q = quoted_from (λ t. done (k (gave desc read (Some t)))) v t R x xs h f' in
        subst (Lang (words_and_bytes (suc n) desc read k) v x) (sym q.1) (inl (refl, q.2))
shown_from zero (w ∷ more) t desc read k v R at bs few g f = absurd (omega arith)
shown_from (suc n) (w ∷ more) t desc read k v R at bs few g f =
    let go : Spelling → EntryState = λ w. byte 0x20 (words_and_bytes n desc (read ++ w ∷ []) k) in
    let c = word_cut w (shown_pieces more t) R at bs g in
    let less : length more ≤ n = (let e : suc (length more) ≤ suc n = few in omega arith) in
    subst (Lang (byte 0x20 (words_and_bytes (suc n) desc read k)) v at) (sym c.1) (
      refl,
      or_else (number go) (λ c. c == quote_byte) (λ place c. text_rest (place + 1) (λ t. done (k (gave desc read (Some t))))) v (at + 1) c.0
          (number_from go v w (Goes (shown_pieces more t) R) (at + 1) c.0 c.2
          (λ x xs h. shown_from n more t desc (read ++ w ∷ []) k v R x xs less h
          (subst (λ y. Into R (done (k (gave desc y (Some t)))) v) (sym (append_assoc read (w ∷ []) more)) f))),
    )

-- ---- what an Ok gave

abbrev given_pieces : Option Spelling → List Spelling → Option Spelling → List EntryPiece
given_pieces desc words bytes = desc_pieces desc ++ words_pieces words ++ bytes_pieces bytes

record Given (shown : Bool) (k : WrittenAnswer → WrittenEntry) (v : WrittenEntry) (at : ℕ) (bs : List ℕ) : Type 0 where
  desc : Option Spelling
  words : List Spelling
  bytes : Option Spelling
  few : length words ≤ 4
  showing : is_some bytes ≡ shown
  goes : Goes (given_pieces desc words bytes) (Lang (done (k (gave desc words bytes))) v) at bs

-- a space, `#` and a number
abbrev some_desc : Spelling → List EntryPiece
some_desc d = fixed (0x20 ∷ 0x23 ∷ []) ∷ positive_piece d ∷ []

desc_join : (c b : ℕ) (d : Spelling) (ps : List EntryPiece) (P R : ℕ → List ℕ → Type 0) (at : ℕ) (cs : List ℕ) → (c == 0x20) ≡ true → (b == 0x23) ≡ true
    → (g : Goes (positive_piece d ∷ []) P ((at + 1) + 1) cs) → Goes ps R (((at + 1) + 1) + length (flat (positive_piece d ∷ []))) g.rest → Goes (some_desc d ++ ps) R at (c ∷ b ∷ cs)
desc_join c b d ps P R at cs t e g h =
    let Q : ℕ → List ℕ → Type 0 = Goes (positive_piece d ∷ ps) R in
    subst (λ x. Goes (some_desc d ++ ps) R at (x ∷ b ∷ cs)) (sym (eqb-true c 0x20 t))
    (subst (λ x. Goes (some_desc d ++ ps) R at (0x20 ∷ x ∷ cs)) (sym (eqb-true b 0x23 e))
    (join (fixed (0x20 ∷ 0x23 ∷ []) ∷ []) (positive_piece d ∷ ps) R at (0x20 ∷ 0x23 ∷ cs)
    (fixed_join 0x20 (0x23 ∷ []) Q at (0x23 ∷ cs) (fixed_join 0x23 [] Q (at + 1) cs (none_fixed Q ((at + 1) + 1) cs
    (and_then (positive_piece d ∷ []) ps P R ((at + 1) + 1) cs g h))))))

desc_cut : (d : Spelling) (ps : List EntryPiece) (R : ℕ → List ℕ → Type 0) (at : ℕ) (bs : List ℕ) → Goes (some_desc d ++ ps) R at bs
    → (cs : List ℕ) × (bs ≡ 0x20 ∷ 0x23 ∷ cs) × Goes (positive_piece d ∷ []) (Goes ps R) ((at + 1) + 1) cs
desc_cut d ps R at bs g =
    let Q : ℕ → List ℕ → Type 0 = Goes (positive_piece d ∷ ps) R in
    let c = fixed_cut 0x20 (0x23 ∷ []) Q at bs (cut (fixed (0x20 ∷ 0x23 ∷ []) ∷ []) (positive_piece d ∷ ps) R at bs g) in
    let b = fixed_cut 0x23 [] Q (at + 1) c.0 c.2 in
    (b.0, c.1 ∙ ap (λ x. 0x20 ∷ x) b.1, cut (positive_piece d ∷ []) ps R ((at + 1) + 1) b.0 (fixed_none Q ((at + 1) + 1) b.0 b.2))

shown_given : (desc : Option Spelling) (k : WrittenAnswer → WrittenEntry) (v : WrittenEntry) (at : ℕ) (bs : List ℕ) → desc ≡ None → Shown 4 None [] k v at bs → Given true k v at bs
shown_given desc k v at bs e r = record { desc = None; words = r.more; bytes = Some r.bytes; few = r.few; showing = refl; goes = r.goes }

words_given : (k : WrittenAnswer → WrittenEntry) (v : WrittenEntry) (at : ℕ) (bs : List ℕ) → Words 4 None [] k v at bs → Given false k v at bs
words_given k v at bs r =
    record {
      desc = None;
      words = r.more;
      bytes = None;
      few = r.few;
      showing = refl;
      goes = subst (λ x. Goes x (Lang (done (k (gave None r.more None))) v) at bs) (sym (append-nil (words_pieces r.more))) r.goes;
    }

given_to : (shown : Bool) (k : WrittenAnswer → WrittenEntry) (v : WrittenEntry) (at : ℕ) (bs : List ℕ) → Lang (given shown k) v at bs → Given shown k v at bs
unfolding given words words_and_bytes
given_to true k v at [] l = absurd l
given_to true k v at (c ∷ []) l = shown_given None k v at (c ∷ []) refl (shown_to 4 None [] k v at (c ∷ []) l)
given_to true k v at (c ∷ b ∷ cs) (t, inr l) = shown_given None k v at (c ∷ b ∷ cs) refl (shown_to 4 None [] k v at (c ∷ b ∷ cs) (t, l))
given_to true k v at (c ∷ b ∷ cs) (t, inl l) =
    let go : Spelling → EntryState = λ d. byte 0x20 (words_and_bytes 4 (Some d) [] k) in
    let d = positive_to go v ((at + 1) + 1) cs l.1 in
    let place = ((at + 1) + 1) + length (flat (positive_piece d.0 ∷ [])) in
    let r = shown_to 4 (Some d.0) [] k v place d.1.rest d.1.holds in
    record {
      desc = Some d.0;
      words = r.more;
      bytes = Some r.bytes;
      few = r.few;
      showing = refl;
      goes = desc_join c b d.0 (shown_pieces r.more r.bytes) (Lang (go d.0) v) (Lang (done (k (gave (Some d.0) r.more (Some r.bytes)))) v) at cs t l.0 d.1 r.goes;
    }
given_to false k v at [] l = words_given k v at [] (words_to 4 None [] k v at [] l)
given_to false k v at (c ∷ cs) (inr l) = words_given k v at (c ∷ cs) (words_to 4 None [] k v at (c ∷ cs) (inr l))
given_to false k v at (c ∷ []) (inl l) = absurd l.1
given_to false k v at (c ∷ b ∷ cs) (inl (t, inr l)) = words_given k v at (c ∷ b ∷ cs) (words_to 4 None [] k v at (c ∷ b ∷ cs) (inl (t, l)))
given_to false k v at (c ∷ b ∷ cs) (inl (t, inl l)) =
    let go : Spelling → EntryState = λ d. words 4 (Some d) [] k in
    let d = positive_to go v ((at + 1) + 1) cs l.1 in
    let place = ((at + 1) + 1) + length (flat (positive_piece d.0 ∷ [])) in
    let r = words_to 4 (Some d.0) [] k v place d.1.rest d.1.holds in
    let R : ℕ → List ℕ → Type 0 = Lang (done (k (gave (Some d.0) r.more None))) v in
    record {
      desc = Some d.0;
      words = r.more;
      bytes = None;
      few = r.few;
      showing = refl;
      goes = desc_join c b d.0 (words_pieces r.more ++ []) (Lang (go d.0) v) R at cs t l.0 d.1
          (subst (λ x. Goes x R place d.1.rest) (sym (append-nil (words_pieces r.more))) r.goes);
    }

-- what may come after a byte may come after it with a choice more
byte_more : (b c : ℕ) (g : ℕ → ℕ → EntryState) (s : EntryState) (v : WrittenEntry) (at : ℕ) (bs : List ℕ) → Lang (byte b s) v at bs
    → Lang (byte b (orelse (λ x. x == c) g s)) v at bs
byte_more b c g s v at [] l = absurd l
byte_more b c g s v at (x ∷ xs) l = (l.0, or_else s (λ x. x == c) g v (at + 1) xs l.1)

given_words : (k : WrittenAnswer → WrittenEntry) (v : WrittenEntry) (at : ℕ) (bs : List ℕ) → Lang (words 4 None [] k) v at bs → Lang (given false k) v at bs
unfolding given words
given_words k v at [] l = l
given_words k v at (c ∷ cs) (inr l) = inr l
given_words k v at (c ∷ cs) (inl l) =
    inl (l.0, or_else (number (λ w. words 3 None (w ∷ []) k)) (λ x. x == 0x23) (λ place c. positive (λ d. words 4 (Some d) [] k)) v (at + 1) cs l.1)

given_from : (shown : Bool) (desc : Option Spelling) (read : List Spelling) (bytes : Option Spelling) (k : WrittenAnswer → WrittenEntry) (v : WrittenEntry)
    (R : ℕ → List ℕ → Type 0) (at : ℕ) (bs : List ℕ) → length read ≤ 4 → is_some bytes ≡ shown → Goes (given_pieces desc read bytes) R at bs
    → Into R (done (k (gave desc read bytes))) v → Lang (given shown k) v at bs
unfolding given
given_from true desc read None k v R at bs few h g f = absurd (cc h)
given_from false desc read (Some t) k v R at bs few h g f = absurd (cc h)
given_from true None read (Some t) k v R at bs few h g f =
    byte_more 0x20 0x23 (λ place c. positive (λ d. byte 0x20 (words_and_bytes 4 (Some d) [] k))) (words_and_bytes 4 None [] k) v at bs
    (shown_from 4 read t None [] k v R at bs few g f)
given_from true (Some d) read (Some t) k v R at bs few h g f =
    let go : Spelling → EntryState = λ d. byte 0x20 (words_and_bytes 4 (Some d) [] k) in
    let c = desc_cut d (shown_pieces read t) R at bs g in
    subst (Lang (given true k) v at) (sym c.1)
    (refl, inl (refl, positive_from go v d (Goes (shown_pieces read t) R) ((at + 1) + 1) c.0 c.2 (λ x xs h. shown_from 4 read t (Some d) [] k v R x xs few h f)))
given_from false None read None k v R at bs few h g f =
    given_words k v at bs (words_from 4 read None [] k v R at bs few (subst (λ x. Goes x R at bs) (append-nil (words_pieces read)) g) f)
given_from false (Some d) read None k v R at bs few h g f =
    let go : Spelling → EntryState = λ d. words 4 (Some d) [] k in
    let c = desc_cut d (words_pieces read ++ []) R at bs g in
    subst (Lang (given false k) v at) (sym c.1)
    (inl (
      refl,
      inl (
        refl,
        positive_from go v d (Goes (words_pieces read ++ []) R) ((at + 1) + 1) c.0 c.2
            (λ x xs h. words_from 4 read (Some d) [] k v R x xs few (subst (λ y. Goes y R x xs) (append-nil (words_pieces read)) h) f),
      ),
    ))

-- ---- answers

record Answered (shown : Bool) (k : WrittenAnswer → WrittenEntry) (v : WrittenEntry) (at : ℕ) (bs : List ℕ) : Type 0 where
  answer : WrittenAnswer
  is : IsAnswer shown answer
  goes : Goes (answer_pieces answer) (Lang (done (k answer)) v) at bs

refused_to : (shown : Bool) (k : WrittenAnswer → WrittenEntry) (v : WrittenEntry) (at : ℕ) (bs : List ℕ)
    → Lang (bytes (codes "refused ") (coded [] (λ code. k (refused code)))) v at bs → Answered shown k v at bs
refused_to shown k v at bs l =
    let s = coded [] (λ code. k (refused code)) in
    let g = bytes_to (codes "refused ") s v at bs l in
    let code = g.holds.0 in
    let R : ℕ → List ℕ → Type 0 = Lang (done (k (refused code))) v in
    let place = at + length (flat (fixed (codes "refused ") ∷ [])) in
    let c : Goes (fixed (code_name code) ∷ []) R place g.rest =
    subst (Goes (fixed (code_name code) ∷ []) R place) (append-nil (code_name code) ∙ sym g.holds.1)
    (one_goes (fixed (code_name code)) R place [] tt (refl, g.holds.2)) in
    record { answer = refused code; is = tt; goes = and_then (fixed (codes "refused ") ∷ []) (fixed (code_name code) ∷ []) (Lang s v) R at bs g c }

answered_to : (shown : Bool) (k : WrittenAnswer → WrittenEntry) (v : WrittenEntry) (at : ℕ) (bs : List ℕ) → Lang (answered shown k) v at bs → Answered shown k v at bs
answered_to shown k v at [] l = absurd l
answered_to shown k v at (c ∷ cs) (inr l) = refused_to shown k v at (c ∷ cs) l
answered_to shown k v at (c ∷ cs) (inl l) =
    let g : Goes (fixed (0x6F ∷ 0x6B ∷ []) ∷ []) (Lang (given shown k) v) at (c ∷ cs) =
    subst (λ x. Goes (fixed (0x6F ∷ 0x6B ∷ []) ∷ []) (Lang (given shown k) v) at (x ∷ cs)) (sym (eqb-true c 0x6F l.0))
    (fixed_join 0x6F (0x6B ∷ []) (Lang (given shown k) v) at cs (byte_to 0x6B (given shown k) v (at + 1) cs l.1)) in
    let place = at + length (flat (fixed (0x6F ∷ 0x6B ∷ []) ∷ [])) in
    let r = given_to shown k v place g.rest g.holds in
    let a : WrittenAnswer = gave r.desc r.words r.bytes in
    record {
      answer = a;
      is = (r.few, r.showing);
      goes = and_then (fixed (0x6F ∷ 0x6B ∷ []) ∷ []) (given_pieces r.desc r.words r.bytes) (Lang (given shown k) v) (Lang (done (k a)) v) at (c ∷ cs) g r.goes;
    }

answered_from : (shown : Bool) (a : WrittenAnswer) (k : WrittenAnswer → WrittenEntry) (v : WrittenEntry) (R : ℕ → List ℕ → Type 0) (at : ℕ) (bs : List ℕ)
    → IsAnswer shown a → Goes (answer_pieces a) R at bs → Into R (done (k a)) v → Lang (answered shown k) v at bs
answered_from shown (refused code) k v R at bs is g f =
    let s = coded [] (λ code. k (refused code)) in
    or_else (bytes (codes "refused ") s) (λ c. c == 0x6F) (λ place c. byte 0x6B (given shown k)) v at bs
    (bytes_from (codes "refused ") s v (Goes (fixed (code_name code) ∷ []) R) at bs (cut (fixed (codes "refused ") ∷ []) (fixed (code_name code) ∷ []) R at bs g)
    (λ x xs h.
    let o = goes_one (fixed (code_name code)) R x xs h in
    let e = f (x + length (code_name code)) o.0 o.3 in
    (code, o.1 ∙ ap (λ y. code_name code ++ y) e.0 ∙ append-nil (code_name code), e.1)))
answered_from shown (gave desc read shows) k v R at bs is g f =
    let Q : ℕ → List ℕ → Type 0 = Goes (given_pieces desc read shows) R in
    let c = fixed_cut 0x6F (0x6B ∷ []) Q at bs (cut (fixed (0x6F ∷ 0x6B ∷ []) ∷ []) (given_pieces desc read shows) R at bs g) in
    subst (Lang (answered shown k) v at) (sym c.1)
    (inl (
      refl,
      byte_from 0x6B (given shown k) v Q (at + 1) c.0 c.2
          (λ x xs h. given_from shown desc read shows k v R x xs is.0 is.1 h f),
    ))

-- ---- entries

-- the pieces after the name
abbrev call_pieces : List WrittenArg → WrittenAnswer → List EntryPiece
call_pieces args answer = fixed (codes "(") ∷ (args_pieces args ++ fixed (codes ")") ∷ fixed (codes " = ") ∷ answer_pieces answer)

record Called (shows : List ℕ → Bool) (client seq function : Spelling) (v : WrittenEntry) (at : ℕ) (bs : List ℕ) : Type 0 where
  args : List WrittenArg
  answer : WrittenAnswer
  is : IsAnswer (shows function.bytes) answer
  goes : Goes (call_pieces args answer) (Lang (done (record { client = client; seq = seq; name = function; args = args; answer = answer })) v) at bs

brackets : (args : List WrittenArg) (ps : List EntryPiece) → bracketed_pieces args ++ ps ≡ args_pieces args ++ fixed (codes ")") ∷ ps
brackets args ps = append_assoc (args_pieces args) (fixed (close_bracket_byte ∷ []) ∷ []) ps

-- arguments, the bracket, and further pieces
bracket_goes : (args : List WrittenArg) (ps : List EntryPiece) (R : ℕ → List ℕ → Type 0) (at : ℕ) (bs : List ℕ) → Goes (bracketed_pieces args ++ ps) R at bs
    → Goes (args_pieces args ++ fixed (codes ")") ∷ ps) R at bs
bracket_goes args ps R at bs g = subst (λ x. Goes x R at bs) (brackets args ps) g

call_to : (shows : List ℕ → Bool) (client seq function : Spelling) (v : WrittenEntry) (at : ℕ) (bs : List ℕ) → Lang (call_rest shows client seq function) v at bs → Called shows client seq function v at bs
call_to shows client seq function v at bs l =
    let go = call_answer shows client seq function in
    let o = byte_to open_bracket_byte (bracketed go) v at bs l in
    let place1 = at + length (flat (fixed (open_bracket_byte ∷ []) ∷ [])) in
    let b = bracketed_to go v place1 o.rest o.holds in
    let args = b.0 in
    let place2 = place1 + length (flat (bracketed_pieces args)) in
    let k : WrittenAnswer → WrittenEntry = λ answer. record { client = client; seq = seq; name = function; args = args; answer = answer } in
    let e = bytes_to (codes " = ") (answered (shows function.bytes) k) v place2 b.1.rest b.1.holds in
    let place3 = place2 + length (flat (fixed (codes " = ") ∷ [])) in
    let a = answered_to (shows function.bytes) k v place3 e.rest e.holds in
    let R : ℕ → List ℕ → Type 0 = Lang (done (k a.answer)) v in
    let ge = and_then (fixed (codes " = ") ∷ []) (answer_pieces a.answer) (Lang (answered (shows function.bytes) k) v) R place2 b.1.rest e a.goes in
    let gb = and_then (bracketed_pieces args) (fixed (codes " = ") ∷ answer_pieces a.answer) (Lang (go args) v) R place1 o.rest b.1 ge in
    let gs = bracket_goes args (fixed (codes " = ") ∷ answer_pieces a.answer) R place1 o.rest gb in
    record {
      args = args;
      answer = a.answer;
      is = a.is;
      goes = and_then (fixed (open_bracket_byte ∷ []) ∷ []) (args_pieces args ++ fixed (codes ")") ∷ fixed (codes " = ") ∷ answer_pieces a.answer)
          (Lang (bracketed go) v) R at bs o gs;
    }

call_from : (shows : List ℕ → Bool) (client seq function : Spelling) (args : List WrittenArg) (answer : WrittenAnswer) (v : WrittenEntry) (R : ℕ → List ℕ → Type 0) (at : ℕ) (bs : List ℕ)
    → IsAnswer (shows function.bytes) answer → Goes (call_pieces args answer) R at bs
    → Into R (done (record { client = client; seq = seq; name = function; args = args; answer = answer })) v → Lang (call_rest shows client seq function) v at bs
call_from shows client seq function args answer v R at bs is g f =
    let go = call_answer shows client seq function in
    let k : WrittenAnswer → WrittenEntry = λ answer. record { client = client; seq = seq; name = function; args = args; answer = answer } in
    let tail = fixed (codes " = ") ∷ answer_pieces answer in
    byte_from open_bracket_byte (bracketed go) v (Goes (args_pieces args ++ fixed (codes ")") ∷ tail) R) at bs
    (cut (fixed (open_bracket_byte ∷ []) ∷ []) (args_pieces args ++ fixed (codes ")") ∷ tail) R at bs g)
    (λ x xs h. bracketed_from go v args (Goes tail R) x xs
    (cut (bracketed_pieces args) tail R x xs (subst (λ y. Goes y R x xs) (sym (brackets args tail)) h))
    (λ y ys i. bytes_from (codes " = ") (answered (shows function.bytes) k) v (Goes (answer_pieces answer) R) y ys
    (cut (fixed (codes " = ") ∷ []) (answer_pieces answer) R y ys i)
    (λ z zs j. answered_from (shows function.bytes) answer k v R z zs is j f)))

-- the line is that of an entry which is this one
record Written (shows : List ℕ → Bool) (v : WrittenEntry) (line : List ℕ) : Type 0 where
  tree : WrittenEntry
  is : IsAnswer (shows tree.name.bytes) tree.answer
  goes : Goes (entry_pieces tree) (Lang (done tree) v) 0 line

written : (shows : List ℕ → Bool) (v : WrittenEntry) (line : List ℕ) → Lang (entry_start shows) v 0 line → Written shows v line
written shows v line l =
    let c = byte_to 0x63 (number (client_rest shows)) v 0 line l in
    let place1 = 0 + length (flat (fixed (0x63 ∷ []) ∷ [])) in
    let n = number_to (client_rest shows) v place1 c.rest c.holds in
    let place2 = place1 + length (flat (number_piece n.0 ∷ [])) in
    let seq_state : EntryState = number (λ seq. byte 0x20 (name (call_rest shows n.0 seq))) in
    let d = byte_to 0x2E seq_state v place2 n.1.rest n.1.holds in
    let place3 = place2 + length (flat (fixed (0x2E ∷ []) ∷ [])) in
    let s = number_to (λ seq. byte 0x20 (name (call_rest shows n.0 seq))) v place3 d.rest d.holds in
    let place4 = place3 + length (flat (number_piece s.0 ∷ [])) in
    let p = byte_to 0x20 (name (call_rest shows n.0 s.0)) v place4 s.1.rest s.1.holds in
    let place5 = place4 + length (flat (fixed (0x20 ∷ []) ∷ [])) in
    let f = name_to (call_rest shows n.0 s.0) v place5 p.rest p.holds in
    let place6 = place5 + length (flat (name_piece f.0 ∷ [])) in
    let r = call_to shows n.0 s.0 f.0 v place6 f.1.rest f.1.holds in
    let tree : WrittenEntry = record { client = n.0; seq = s.0; name = f.0; args = r.args; answer = r.answer } in
    let R : ℕ → List ℕ → Type 0 = Lang (done tree) v in
    let p6 = call_pieces r.args r.answer in
    let p5 = name_piece f.0 ∷ p6 in
    let p4 = fixed (codes " ") ∷ p5 in
    let p3 = number_piece s.0 ∷ p4 in
    let p2 = fixed (codes ".") ∷ p3 in
    let p1 = number_piece n.0 ∷ p2 in
    let g6 = and_then (name_piece f.0 ∷ []) p6 (Lang (call_rest shows n.0 s.0 f.0) v) R place5 p.rest f.1 r.goes in
    let g5 = and_then (fixed (0x20 ∷ []) ∷ []) p5 (Lang (name (call_rest shows n.0 s.0)) v) R place4 s.1.rest p g6 in
    let g4 = and_then (number_piece s.0 ∷ []) p4 (Lang (byte 0x20 (name (call_rest shows n.0 s.0))) v) R place3 d.rest s.1 g5 in
    let g3 = and_then (fixed (0x2E ∷ []) ∷ []) p3 (Lang seq_state v) R place2 n.1.rest d g4 in
    let g2 = and_then (number_piece n.0 ∷ []) p2 (Lang (client_rest shows n.0) v) R place1 c.rest n.1 g3 in
    record { tree = tree; is = r.is; goes = and_then (fixed (0x63 ∷ []) ∷ []) p1 (Lang (number (client_rest shows)) v) R 0 line c g2 }

pub entry_of : (shows : List ℕ → Bool) (v : WrittenEntry) (line : List ℕ) → Lang (entry_start shows) v 0 line → IsEntry shows line v
entry_of shows v line l =
    let w = written shows v line l in
    subst (IsEntry shows line) w.goes.holds.1
    ((w.goes.placed, w.is), w.goes.all ∙ ap (λ x. flat (entry_pieces w.tree) ++ x) w.goes.holds.0 ∙ append-nil (flat (entry_pieces w.tree)))

pub line_of : (shows : List ℕ → Bool) (v : WrittenEntry) (line : List ℕ) → IsEntry shows line v → Lang (entry_start shows) v 0 line
line_of shows v line h =
    let R : ℕ → List ℕ → Type 0 = AtEnd in
    let g : Goes (entry_pieces v) R 0 line =
    record { placed = h.0.0; rest = []; all = h.1 ∙ sym (append-nil (flat (entry_pieces v))); holds = refl } in
    let p6 = call_pieces v.args v.answer in
    let p5 = name_piece v.name ∷ p6 in
    let p4 = fixed (codes " ") ∷ p5 in
    let p3 = number_piece v.seq ∷ p4 in
    let p2 = fixed (codes ".") ∷ p3 in
    let p1 = number_piece v.client ∷ p2 in
    byte_from 0x63 (number (client_rest shows)) v (Goes p1 R) 0 line (cut (fixed (codes "c") ∷ []) p1 R 0 line g)
    (λ a as1 g1. number_from (client_rest shows) v v.client (Goes p2 R) a as1 (cut (number_piece v.client ∷ []) p2 R a as1 g1)
    (λ b bs2 g2. byte_from 0x2E (number (λ seq. byte 0x20 (name (call_rest shows v.client seq)))) v (Goes p3 R) b bs2 (cut (fixed (codes ".") ∷ []) p3 R b bs2 g2)
    (λ c cs3 g3. number_from (λ seq. byte 0x20 (name (call_rest shows v.client seq))) v v.seq (Goes p4 R) c cs3 (cut (number_piece v.seq ∷ []) p4 R c cs3 g3)
    (λ d ds4 g4. byte_from 0x20 (name (call_rest shows v.client v.seq)) v (Goes p5 R) d ds4 (cut (fixed (codes " ") ∷ []) p5 R d ds4 g4)
    (λ e es5 g5. name_from (call_rest shows v.client v.seq) v v.name (Goes p6 R) e es5 (cut (name_piece v.name ∷ []) p6 R e es5 g5)
    (λ f fs6 g6. call_from shows v.client v.seq v.name v.args v.answer v R f fs6 h.0.1 g6 (λ x xs end. (end, refl))))))))
