-- What is read from a state, by the bytes that come next.
use Rattle.std.proofs.Common.{◌≡◌, ◌≢◌, ◌<◌, ◌≤◌, ℕ, zero, suc, ◌+◌, ◌-◌, ◌==◌, if◌then◌else◌, Bool, true, false, List, [], ◌∷◌, ◌++◌, length, take, drop, get_or, take_all, refl, sym, ap, subst, ◌∙◌, append_assoc, arith, eq-eqb, inl, inr}
use Rattle.std.specs.Prelude.{None, Some, Ok, Err, codes, MatchBool}
use Rattle.std.specs.declared.option.Option.{Option}
use Rattle.std.specs.declared.result.Result.{Result}
use Rattle.std.specs.Char.{is_ascii_digit}
use Rattle.std.specs.List.{prefix_len}
use Rattle.std.specs.Option.{option_map}
use Rattle.std.proofs.lemmas.List.{append-nil, take_more, at_drop_more, drop_all}
use Rattle.std.proofs.lemmas.Bool.{cases_Bool}
use Rattle.sg_facts.specs.sg_base.declared.reply.Code.{Code}
use Rattle.sg_facts.specs.sg_base.Text.{is_text_byte}
use Rattle.sg_lex.specs.Bytes.{begins_word, is_in_word}
use Rattle.sg_lex.specs.Inside.Marks.{close_bracket_byte, comma_byte}
use Rattle.sg_entries.specs.declared.syntax.EntrySyntax.{EntrySyntax}
use Rattle.sg_entries.specs.declared.syntax.EntrySyntax.TheVariants.{Syntax}
use Rattle.sg_entries.specs.declared.tree.WrittenArg.{WrittenArg}
use Rattle.sg_entries.specs.declared.tree.WrittenArg.TheVariants.{Number as number_arg, Text as text_arg}
use Rattle.sg_entries.specs.declared.tree.WrittenAnswer.{WrittenAnswer}
use Rattle.sg_entries.specs.declared.tree.WrittenAnswer.TheVariants.{Refused as refused, Ok as gave}
use Rattle.sg_entries.specs.declared.tree.WrittenEntry.{WrittenEntry}
use Rattle.sg_lex.specs.Lexeme.{Spelling}
use Rattle.sg_entries.specs.Inside.Classes.{is_first_digit}
use Rattle.sg_entries.specs.Inside.Forms.{quote_byte}
use Rattle.sg_entries.specs.Inside.Ahead.{Came, Off, front_of, after_of, positive_len, number_len, name_len}
use Rattle.sg_entries.specs.Inside.CodeWords.{code_of, begins_code}
use Rattle.sg_entries.specs.Inside.States.{EntryState, done, first, orelse, run, listed, coded, byte, bytes, positive, number, name, text_rest, text, argument, bracketed, comma_rest, words, words_and_bytes, spaced_rest, shown_rest, given, answered, step, entry_at}
use Rattle.sg_entries.specs.Inside.Reads.{Ahead, ended, read_from, read, LeadsOn, Ends}
use Rattle.sg_entries.proofs.Basics.{if_then, if_else}
use Rattle.sg_entries.proofs.ReadingEntries.{read_step, read_stuck, read_end}

-- ---- one byte

came : (s next : EntryState) (b : ℕ) (old new : Ahead) → Came b old new → step s old.at b ≡ Some next → read s old ≡ read next new
came s next b old new c e =
    ap (read_from s old.at) c.all ∙ read_step s next old.at b new.rest e ∙ ap (λ x. read_from next x new.rest) (sym c.at)

-- a byte that doesn't come
missing : (s : EntryState) (byte : ℕ) (old : Ahead) → ((b : ℕ) → (b == byte) ≡ false → step s old.at b ≡ None) → entry_at s ≡ None → Off byte old.rest
    → read s old ≡ Err (Syntax old.at)
missing s byte old h e o = by old.rest o
  where
    by : (bs : List ℕ) → Off byte bs → read_from s old.at bs ≡ Err (Syntax old.at)
    by [] o = read_end s old.at ∙ ap (ended old.at) e
    by (b ∷ bs) o = read_stuck s old.at b bs (h b o)

-- two states that go on alike
alike : (s other : EntryState) (byte : ℕ) (old : Ahead) → ((b : ℕ) → (b == byte) ≡ false → step s old.at b ≡ step other old.at b) → entry_at s ≡ entry_at other → Off byte old.rest
    → read s old ≡ read other old
alike s other byte old h e o = by old.rest o
  where
    go : (b : ℕ) (bs : List ℕ) (o : Option EntryState) → step s old.at b ≡ o → step other old.at b ≡ o → read_from s old.at (b ∷ bs) ≡ read_from other old.at (b ∷ bs)
    go b bs None x y = read_stuck s old.at b bs x ∙ sym (read_stuck other old.at b bs y)
    go b bs (Some next) x y = read_step s next old.at b bs x ∙ sym (read_step other next old.at b bs y)

    by : (bs : List ℕ) → Off byte bs → read_from s old.at bs ≡ read_from other old.at bs
    by [] o = read_end s old.at ∙ ap (ended old.at) e ∙ sym (read_end other old.at)
    by (b ∷ bs) o = go b bs (step other old.at b) (h b o) refl

pub byte_came : (b : ℕ) (s : EntryState) (old new : Ahead) → Came b old new → read (byte b s) old ≡ read s new
unfolding step
byte_came b s old new c = came (byte b s) s b old new c (if_then (b == b) (Some s) None (eq-eqb b b refl))

pub byte_missing : (b : ℕ) (s : EntryState) (old : Ahead) → Off b old.rest → read (byte b s) old ≡ Err (Syntax old.at)
unfolding step entry_at
byte_missing b s old o = missing (byte b s) b old (λ c h. if_else (c == b) (Some s) None h) refl o

pub first_came : (b : ℕ) (g : ℕ → ℕ → EntryState) (s : EntryState) (old new : Ahead) → Came b old new
    → read (orelse (λ c. c == b) g s) old ≡ read (g old.at b) new
unfolding step
first_came b g s old new c = came (orelse (λ c. c == b) g s) (g old.at b) b old new c (if_then (b == b) (Some (g old.at b)) (step s old.at b) (eq-eqb b b refl))

pub first_missing : (b : ℕ) (g : ℕ → ℕ → EntryState) (s : EntryState) (old : Ahead) → Off b old.rest → read (orelse (λ c. c == b) g s) old ≡ read s old
unfolding step entry_at
first_missing b g s old o = alike (orelse (λ c. c == b) g s) s b old (λ c h. if_else (c == b) (Some (g old.at c)) (step s old.at c) h) refl o

-- ---- bytes of a class

-- all bytes of the class
ran : (p : ℕ → Bool) (from : ℕ) (bs ds : List ℕ) (at : ℕ) (k : Spelling → EntryState)
    → read_from (run p from ds k) at bs ≡ read_from (k (record { bytes = ds ++ take (prefix_len p bs) bs; at = from })) (at + prefix_len p bs) (drop (prefix_len p bs) bs)
unfolding step entry_at
ran p from [] ds at k =
    let s : Spelling = record { bytes = ds ++ []; at = from } in
    let e : at ≡ at + 0 = omega arith in
    read_end (run p from ds k) at ∙ ap (λ x. ended at (entry_at (k (record { bytes = x; at = from })))) (sym (append-nil ds))
    ∙ sym (read_end (k s) at) ∙ ap (λ x. read_from (k s) x []) e
ran p from (b ∷ bs) ds at k =
    elim (cases_Bool (p b)) as (λ x. read_from (run p from ds k) at (b ∷ bs)
    ≡ read_from (k (record { bytes = ds ++ take (prefix_len p (b ∷ bs)) (b ∷ bs); at = from })) (at + prefix_len p (b ∷ bs)) (drop (prefix_len p (b ∷ bs)) (b ∷ bs))) [
      | inl t ↦
          let n = prefix_len p bs in
          let e : prefix_len p (b ∷ bs) ≡ suc n = rw t (let g : 1 + n ≡ suc n = omega arith in g) in
          let f : (at + 1) + n ≡ at + suc n = omega arith in
          read_step (run p from ds k) (run p from (ds ++ b ∷ []) k) at b bs (if_then (p b) _ _ t)
          ∙ ran p from bs (ds ++ b ∷ []) (at + 1) k
          ∙ ap (λ x. read_from (k (record { bytes = x; at = from })) ((at + 1) + n) (drop n bs)) (append_assoc ds (b ∷ []) (take n bs))
          ∙ ap (λ x. read_from (k (record { bytes = ds ++ b ∷ take n bs; at = from })) x (drop n bs)) f
          ∙ ap (λ m. read_from (k (record { bytes = ds ++ take m (b ∷ bs); at = from })) (at + m) (drop m (b ∷ bs))) (sym e)
      | inr t ↦
          let e : prefix_len p (b ∷ bs) ≡ 0 = rw t refl in
          let g : at ≡ at + 0 = omega arith in
          let s : Spelling = record { bytes = ds; at = from } in
          same (run p from ds k) (k s) at b bs (if_else (p b) _ _ t)
          ∙ ap (λ x. read_from (k (record { bytes = x; at = from })) at (b ∷ bs)) (sym (append-nil ds))
          ∙ ap (λ x. read_from (k (record { bytes = ds ++ []; at = from })) x (b ∷ bs)) g
          ∙ ap (λ m. read_from (k (record { bytes = ds ++ take m (b ∷ bs); at = from })) (at + m) (drop m (b ∷ bs))) (sym e)
    ]
  where
    same : (s other : EntryState) (at b : ℕ) (bs : List ℕ) → step s at b ≡ step other at b → read_from s at (b ∷ bs) ≡ read_from other at (b ∷ bs)
    same s other at b bs e = by (step other at b) e refl
      where
        by : (o : Option EntryState) → step s at b ≡ o → step other at b ≡ o → read_from s at (b ∷ bs) ≡ read_from other at (b ∷ bs)
        by None x y = read_stuck s at b bs x ∙ sym (read_stuck other at b bs y)
        by (Some next) x y = read_step s next at b bs x ∙ sym (read_step other next at b bs y)

-- a byte, and then all of a class
first_ran : (p : ℕ → Bool) (b : ℕ) (bs : List ℕ) (at : ℕ) (k : Spelling → EntryState) (n : ℕ) → 1 + prefix_len p bs ≡ n
    → read_from (run p at (b ∷ []) k) (at + 1) bs ≡ read_from (k (record { bytes = take n (b ∷ bs); at = at })) (at + n) (drop n (b ∷ bs))
first_ran p b bs at k n e =
    let m = prefix_len p bs in
    let f : (at + 1) + m ≡ at + suc m = omega arith in
    let g : suc m ≡ n = omega (arith, e) in
    ran p at bs (b ∷ []) (at + 1) k
    ∙ ap (λ x. read_from (k (record { bytes = b ∷ take m bs; at = at })) x (drop m bs)) f
    ∙ ap (λ x. read_from (k (record { bytes = take x (b ∷ bs); at = at })) (at + x) (drop x (b ∷ bs))) g

-- ---- numbers and names

-- a byte of a class and further ones, where one comes, and where none does
class_came : (p q : ℕ → Bool) (k : Spelling → EntryState) (at b : ℕ) (bs : List ℕ) → p b ≡ true
    → read_from (first p (λ place c. run q place (c ∷ []) k)) at (b ∷ bs)
    ≡ read_from (k (record { bytes = take (1 + prefix_len q bs) (b ∷ bs); at = at })) (at + (1 + prefix_len q bs)) (drop (1 + prefix_len q bs) (b ∷ bs))
unfolding step
class_came p q k at b bs t =
    read_step (first p (λ place c. run q place (c ∷ []) k)) (run q at (b ∷ []) k) at b bs (if_then (p b) _ None t)
    ∙ first_ran q b bs at k (1 + prefix_len q bs) refl

class_missing : (p : ℕ → Bool) (g : ℕ → ℕ → EntryState) (at b : ℕ) (bs : List ℕ) → p b ≡ false → read_from (first p g) at (b ∷ bs) ≡ Err (Syntax at)
unfolding step
class_missing p g at b bs t = read_stuck (first p g) at b bs (if_else (p b) (Some (g at b)) None t)

none_missing : (p : ℕ → Bool) (g : ℕ → ℕ → EntryState) (at : ℕ) → read_from (first p g) at [] ≡ Err (Syntax at)
unfolding entry_at
none_missing p g at = read_end (first p g) at

-- what is read where so many bytes at the front are of a class
abbrev Read : (EntryState) → (Spelling → EntryState) → ℕ → List ℕ → ℕ → Type 0
Read s k at bs zero = read_from s at bs ≡ Err (Syntax at)
Read s k at bs (suc n) = read_from s at bs ≡ read_from (k (record { bytes = take (suc n) bs; at = at })) (at + suc n) (drop (suc n) bs)

class_reads : (p q : ℕ → Bool) (k : Spelling → EntryState) (at b : ℕ) (bs : List ℕ)
    → Read (first p (λ place c. run q place (c ∷ []) k)) k at (b ∷ bs) (if p b then 1 + prefix_len q bs else 0)
class_reads p q k at b bs =
    let s = first p (λ place c. run q place (c ∷ []) k) in
    elim (cases_Bool (p b)) as (λ x. Read s k at (b ∷ bs) (if p b then 1 + prefix_len q bs else 0)) [
      | inl t ↦
          let n = prefix_len q bs in
          let g : 1 + n ≡ suc n = omega arith in
          let h : Read s k at (b ∷ bs) (suc n) =
          class_came p q k at b bs t
          ∙ ap (λ m. read_from (k (record { bytes = take m (b ∷ bs); at = at })) (at + m) (drop m (b ∷ bs))) g in
          subst (Read s k at (b ∷ bs)) (sym g ∙ sym (if_then (p b) (1 + n) 0 t)) h
      | inr t ↦ subst (Read s k at (b ∷ bs)) (sym (if_else (p b) (1 + prefix_len q bs) 0 t)) (class_missing p (λ place c. run q place (c ∷ []) k) at b bs t)
    ]

positive_reads : (k : Spelling → EntryState) (at : ℕ) (bs : List ℕ) → Read (positive k) k at bs (positive_len bs)
positive_reads k at [] = none_missing is_first_digit (λ place c. run is_ascii_digit place (c ∷ []) k) at
positive_reads k at (b ∷ bs) = class_reads is_first_digit is_ascii_digit k at b bs

name_reads : (k : Spelling → EntryState) (at : ℕ) (bs : List ℕ) → Read (name k) k at bs (name_len bs)
name_reads k at [] = none_missing begins_word (λ place c. run is_in_word place (c ∷ []) k) at
name_reads k at (b ∷ bs) = class_reads begins_word is_in_word k at b bs

number_reads : (k : Spelling → EntryState) (at : ℕ) (bs : List ℕ) → Read (number k) k at bs (number_len bs)
unfolding step entry_at
number_reads k at [] = read_end (number k) at
number_reads k at (b ∷ bs) =
    elim (cases_Bool (b == 0x30)) as (λ x. Read (number k) k at (b ∷ bs) (if b == 0x30 then 1 else positive_len (b ∷ bs))) [
      | inl t ↦
          subst (Read (number k) k at (b ∷ bs)) (sym (if_then (b == 0x30) 1 (positive_len (b ∷ bs)) t))
          (read_step (number k) (k (record { bytes = b ∷ []; at = at })) at b bs (if_then (b == 0x30) _ _ t))
      | inr t ↦
          subst (Read (number k) k at (b ∷ bs)) (sym (if_else (b == 0x30) 1 (positive_len (b ∷ bs)) t))
          (along (positive_len (b ∷ bs)) (first_missing 0x30 (λ place c. k (record { bytes = c ∷ []; at = place })) (positive k) (record { at = at; rest = b ∷ bs }) t)
          (positive_reads k at (b ∷ bs)))
    ]
  where
    along : (n : ℕ) → read_from (number k) at (b ∷ bs) ≡ read_from (positive k) at (b ∷ bs) → Read (positive k) k at (b ∷ bs) n → Read (number k) k at (b ∷ bs) n
    along zero e h = e ∙ h
    along (suc n) e h = e ∙ h

came_of : (s : EntryState) (k : Spelling → EntryState) (n m : ℕ) (old : Ahead) → n ≡ m → n ≢ 0 → Read s k old.at old.rest m → read s old ≡ read (k (front_of n old)) (after_of n old)
came_of s k zero m old e p h = absurd (p refl)
came_of s k (suc n) m old e p h = subst (Read s k old.at old.rest) (sym e) h

missing_of : (s : EntryState) (k : Spelling → EntryState) (n m : ℕ) (old : Ahead) → n ≡ m → n ≡ 0 → Read s k old.at old.rest m → read s old ≡ Err (Syntax old.at)
missing_of s k n m old e p h = subst (Read s k old.at old.rest) (sym e ∙ p) h

pub positive_came : (k : Spelling → EntryState) (n : ℕ) (old : Ahead) → n ≡ positive_len old.rest → n ≢ 0 → read (positive k) old ≡ read (k (front_of n old)) (after_of n old)
positive_came k n old e p = came_of (positive k) k n (positive_len old.rest) old e p (positive_reads k old.at old.rest)

pub positive_missing : (k : Spelling → EntryState) (n : ℕ) (old : Ahead) → n ≡ positive_len old.rest → n ≡ 0 → read (positive k) old ≡ Err (Syntax old.at)
positive_missing k n old e p = missing_of (positive k) k n (positive_len old.rest) old e p (positive_reads k old.at old.rest)

pub number_came : (k : Spelling → EntryState) (n : ℕ) (old : Ahead) → n ≡ number_len old.rest → n ≢ 0 → read (number k) old ≡ read (k (front_of n old)) (after_of n old)
number_came k n old e p = came_of (number k) k n (number_len old.rest) old e p (number_reads k old.at old.rest)

pub number_missing : (k : Spelling → EntryState) (n : ℕ) (old : Ahead) → n ≡ number_len old.rest → n ≡ 0 → read (number k) old ≡ Err (Syntax old.at)
number_missing k n old e p = missing_of (number k) k n (number_len old.rest) old e p (number_reads k old.at old.rest)

pub name_came : (k : Spelling → EntryState) (n : ℕ) (old : Ahead) → n ≡ name_len old.rest → n ≢ 0 → read (name k) old ≡ read (k (front_of n old)) (after_of n old)
name_came k n old e p = came_of (name k) k n (name_len old.rest) old e p (name_reads k old.at old.rest)

pub name_missing : (k : Spelling → EntryState) (n : ℕ) (old : Ahead) → n ≡ name_len old.rest → n ≡ 0 → read (name k) old ≡ Err (Syntax old.at)
name_missing k n old e p = missing_of (name k) k n (name_len old.rest) old e p (name_reads k old.at old.rest)

-- ---- texts

-- the bytes between quotes
pub text_came : (k : Spelling → EntryState) (n : ℕ) (old : Ahead) → n ≡ prefix_len is_text_byte old.rest
    → read (text_rest old.at k) old ≡ read (byte quote_byte (k (front_of n old))) (after_of n old)
text_came k n old e =
    ran is_text_byte old.at old.rest [] old.at (λ t. byte quote_byte (k t))
    ∙ ap (λ m. read_from (byte quote_byte (k (record { bytes = take m old.rest; at = old.at }))) (old.at + m) (drop m old.rest)) (sym e)

pub quote_came : (k : WrittenArg → EntryState) (old new : Ahead) → Came quote_byte old new → read (argument k) old ≡ read (text_rest new.at (λ t. k (text_arg t))) new
quote_came k old new c =
    first_came quote_byte (λ place c. text_rest (place + 1) (λ t. k (text_arg t))) (number (λ n. k (number_arg n))) old new c
    ∙ ap (λ x. read (text_rest x (λ t. k (text_arg t))) new) (sym c.at)

pub quote_missing : (k : WrittenArg → EntryState) (old : Ahead) → Off quote_byte old.rest → read (argument k) old ≡ read (number (λ n. k (number_arg n))) old
quote_missing k old o = first_missing quote_byte (λ place c. text_rest (place + 1) (λ t. k (text_arg t))) (number (λ n. k (number_arg n))) old o

-- ---- arguments

pub no_argument : (k : List WrittenArg → EntryState) (old new : Ahead) → Came close_bracket_byte old new → read (bracketed k) old ≡ read (k []) new
no_argument k old new c = first_came close_bracket_byte (λ place c. k []) (argument (λ a. listed (a ∷ []) k)) old new c

pub some_argument : (k : List WrittenArg → EntryState) (old : Ahead) → Off close_bracket_byte old.rest → read (bracketed k) old ≡ read (argument (λ a. listed (a ∷ []) k)) old
some_argument k old o = first_missing close_bracket_byte (λ place c. k []) (argument (λ a. listed (a ∷ []) k)) old o

pub comma_came : (args : List WrittenArg) (k : List WrittenArg → EntryState) (old new : Ahead) → Came comma_byte old new → read (listed args k) old ≡ read (comma_rest args k) new
unfolding step
comma_came args k old new c = came (listed args k) (comma_rest args k) comma_byte old new c refl

pub comma_missing : (args : List WrittenArg) (k : List WrittenArg → EntryState) (old : Ahead) → Off comma_byte old.rest → read (listed args k) old ≡ read (byte close_bracket_byte (k args)) old
unfolding step entry_at
comma_missing args k old o =
    alike (listed args k) (byte close_bracket_byte (k args)) comma_byte old (λ b h. if_else (b == comma_byte) (Some (comma_rest args k)) _ h) refl o

-- ---- the end

pub end_came : (e : WrittenEntry) (old : Ahead) → old.rest ≡ [] → read (done e) old ≡ Ok e
unfolding entry_at
end_came e old h = ap (read_from (done e) old.at) h ∙ read_end (done e) old.at

pub end_missing : (e : WrittenEntry) (old : Ahead) → old.rest ≢ [] → read (done e) old ≡ Err (Syntax old.at)
unfolding step
end_missing e old n = by old.rest n
  where
    by : (bs : List ℕ) → bs ≢ [] → read_from (done e) old.at bs ≡ Err (Syntax old.at)
    by [] n = absurd (n refl)
    by (b ∷ bs) n = read_stuck (done e) old.at b bs refl

-- ---- words

-- no word may come any more
pub no_word : (n : ℕ) (desc : Option Spelling) (read_so_far : List Spelling) (k : WrittenAnswer → WrittenEntry) (old : Ahead) → n ≡ 0
    → read (words n desc read_so_far k) old ≡ read (done (k (gave desc read_so_far None))) old
unfolding words
no_word zero desc ws k old e = refl
no_word (suc n) desc ws k old e = absurd (omega (arith, e))

pub word_came : (n : ℕ) (desc : Option Spelling) (read_so_far : List Spelling) (k : WrittenAnswer → WrittenEntry) (old new : Ahead) → n ≢ 0 → Came 0x20 old new
    → read (words n desc read_so_far k) old ≡ read (number (λ w. words (n - 1) desc (read_so_far ++ w ∷ []) k)) new
unfolding words
word_came zero desc ws k old new n c = absurd (n refl)
word_came (suc m) desc ws k old new n c =
    let e : m ≡ suc m - 1 = omega arith in
    first_came 0x20 (λ place c. number (λ w. words m desc (ws ++ w ∷ []) k)) (done (k (gave desc ws None))) old new c
    ∙ ap (λ x. read (number (λ w. words x desc (ws ++ w ∷ []) k)) new) e

pub word_missing : (n : ℕ) (desc : Option Spelling) (read_so_far : List Spelling) (k : WrittenAnswer → WrittenEntry) (old : Ahead) → Off 0x20 old.rest
    → read (words n desc read_so_far k) old ≡ read (done (k (gave desc read_so_far None))) old
unfolding words
word_missing zero desc ws k old o = refl
word_missing (suc m) desc ws k old o = first_missing 0x20 (λ place c. number (λ w. words m desc (ws ++ w ∷ []) k)) (done (k (gave desc ws None))) old o

-- ---- words and bytes

-- what a text at the end is read to
abbrev pub last_text : Option Spelling → List Spelling → (WrittenAnswer → WrittenEntry) → Spelling → EntryState
last_text desc ws k t = done (k (gave desc ws (Some t)))

pub text_began : (k : Spelling → EntryState) (old new : Ahead) → Came quote_byte old new → read (text k) old ≡ read (text_rest new.at k) new
unfolding step
text_began k old new c =
    came (text k) (text_rest (old.at + 1) k) quote_byte old new c refl ∙ ap (λ x. read (text_rest x k) new) (sym c.at)

pub text_missing : (k : Spelling → EntryState) (old : Ahead) → Off quote_byte old.rest → read (text k) old ≡ Err (Syntax old.at)
unfolding step entry_at
text_missing k old o = missing (text k) quote_byte old (λ c h. if_else (c == quote_byte) (Some (text_rest (old.at + 1) k)) None h) refl o

pub no_text : (n : ℕ) (desc : Option Spelling) (ws : List Spelling) (k : WrittenAnswer → WrittenEntry) (old : Ahead) → n ≡ 0 → Off quote_byte old.rest
    → read (words_and_bytes n desc ws k) old ≡ Err (Syntax old.at)
unfolding words_and_bytes
no_text zero desc ws k old e o = text_missing (last_text desc ws k) old o
no_text (suc n) desc ws k old e o = absurd (omega (arith, e))

pub bytes_came : (n : ℕ) (desc : Option Spelling) (ws : List Spelling) (k : WrittenAnswer → WrittenEntry) (old new : Ahead) → Came quote_byte old new
    → read (words_and_bytes n desc ws k) old ≡ read (text_rest new.at (last_text desc ws k)) new
unfolding words_and_bytes
bytes_came zero desc ws k old new c = text_began (last_text desc ws k) old new c
bytes_came (suc n) desc ws k old new c =
    first_came quote_byte (λ place c. text_rest (place + 1) (last_text desc ws k)) (number (λ w. byte 0x20 (words_and_bytes n desc (ws ++ w ∷ []) k))) old new c
    ∙ ap (λ x. read (text_rest x (last_text desc ws k)) new) (sym c.at)

pub shown_word : (n : ℕ) (desc : Option Spelling) (ws : List Spelling) (k : WrittenAnswer → WrittenEntry) (old : Ahead) → n ≢ 0 → Off quote_byte old.rest
    → read (words_and_bytes n desc ws k) old ≡ read (number (λ w. byte 0x20 (words_and_bytes (n - 1) desc (ws ++ w ∷ []) k))) old
unfolding words_and_bytes
shown_word zero desc ws k old n o = absurd (n refl)
shown_word (suc m) desc ws k old n o =
    let e : m ≡ suc m - 1 = omega arith in
    first_missing quote_byte (λ place c. text_rest (place + 1) (last_text desc ws k)) (number (λ w. byte 0x20 (words_and_bytes m desc (ws ++ w ∷ []) k))) old o
    ∙ ap (λ x. read (number (λ w. byte 0x20 (words_and_bytes x desc (ws ++ w ∷ []) k))) old) e

-- ---- what an Ok gave

pub nothing_given : (k : WrittenAnswer → WrittenEntry) (old : Ahead) → Off 0x20 old.rest → read (given false k) old ≡ read (done (k (gave None [] None))) old
unfolding given
nothing_given k old o = first_missing 0x20 (λ place c. spaced_rest k) (done (k (gave None [] None))) old o

pub something_given : (k : WrittenAnswer → WrittenEntry) (old new : Ahead) → Came 0x20 old new → read (given false k) old ≡ read (spaced_rest k) new
unfolding given
something_given k old new c = first_came 0x20 (λ place c. spaced_rest k) (done (k (gave None [] None))) old new c

pub hash_came : (k : WrittenAnswer → WrittenEntry) (old new : Ahead) → Came 0x23 old new → read (spaced_rest k) old ≡ read (positive (λ d. words 4 (Some d) [] k)) new
hash_came k old new c =
    first_came 0x23 (λ place c. positive (λ d. words 4 (Some d) [] k)) (number (λ w. words 3 None (w ∷ []) k)) old new c

pub hash_missing : (k : WrittenAnswer → WrittenEntry) (old : Ahead) → Off 0x23 old.rest → read (spaced_rest k) old ≡ read (number (λ w. words 3 None (w ∷ []) k)) old
hash_missing k old o =
    first_missing 0x23 (λ place c. positive (λ d. words 4 (Some d) [] k)) (number (λ w. words 3 None (w ∷ []) k)) old o

pub bytes_given : (k : WrittenAnswer → WrittenEntry) (old : Ahead) → read (given true k) old ≡ read (byte 0x20 (shown_rest k)) old
unfolding given
bytes_given k old = refl

pub shown_hash_came : (k : WrittenAnswer → WrittenEntry) (old new : Ahead) → Came 0x23 old new
    → read (shown_rest k) old ≡ read (positive (λ d. byte 0x20 (words_and_bytes 4 (Some d) [] k))) new
shown_hash_came k old new c =
    first_came 0x23 (λ place c. positive (λ d. byte 0x20 (words_and_bytes 4 (Some d) [] k))) (words_and_bytes 4 None [] k) old new c

pub shown_hash_missing : (k : WrittenAnswer → WrittenEntry) (old : Ahead) → Off 0x23 old.rest → read (shown_rest k) old ≡ read (words_and_bytes 4 None [] k) old
shown_hash_missing k old o =
    first_missing 0x23 (λ place c. positive (λ d. byte 0x20 (words_and_bytes 4 (Some d) [] k))) (words_and_bytes 4 None [] k) old o

-- ---- answers

-- after `refused `
abbrev pub code_state : (WrittenAnswer → WrittenEntry) → EntryState
code_state k = coded [] (λ code. k (refused code))

pub ok_came : (shown : Bool) (k : WrittenAnswer → WrittenEntry) (old new : Ahead) → Came 0x6F old new → read (answered shown k) old ≡ read (byte 0x6B (given shown k)) new
ok_came shown k old new c = first_came 0x6F (λ place c. byte 0x6B (given shown k)) (bytes (codes "refused ") (code_state k)) old new c

pub ok_missing : (shown : Bool) (k : WrittenAnswer → WrittenEntry) (old new : Ahead) → (new ≡ old) × Off 0x6F old.rest
    → read (answered shown k) old ≡ read (bytes (codes "refused ") (code_state k)) new
ok_missing shown k old new o =
    first_missing 0x6F (λ place c. byte 0x6B (given shown k)) (bytes (codes "refused ") (code_state k)) old o.1
    ∙ ap (read (bytes (codes "refused ") (code_state k))) (sym o.0)

-- ---- codes

-- the bytes so far begin a code with the next
pub code_goes : (n : ℕ) (bs : List ℕ) (at : ℕ) (k : Code → WrittenEntry) → begins_code (take (n + 1) bs) ≡ true → n < length bs
    → read_from (coded (take n bs) k) (at + n) (drop n bs) ≡ read_from (coded (take (n + 1) bs) k) (at + (n + 1)) (drop (n + 1) bs)
unfolding step
code_goes n bs at k t short =
    let b = get_or bs n 0 in
    let e : take (n + 1) bs ≡ take n bs ++ b ∷ [] = take_more bs n 0 short in
    let f : (at + n) + 1 ≡ at + (n + 1) = omega arith in
    let g : step (coded (take n bs) k) (at + n) b ≡ Some (coded (take n bs ++ b ∷ []) k) = if_then (begins_code (take n bs ++ b ∷ [])) _ None (ap begins_code (sym e) ∙ t) in
    at_drop_more (read_from (coded (take n bs) k) (at + n)) bs n 0 short
    ∙ read_step (coded (take n bs) k) (coded (take n bs ++ b ∷ []) k) (at + n) b (drop (n + 1) bs) g
    ∙ ap (λ x. read_from (coded x k) ((at + n) + 1) (drop (n + 1) bs)) (sym e)
    ∙ ap (λ x. read_from (coded (take (n + 1) bs) k) x (drop (n + 1) bs)) f

-- with the next they don't
pub code_stops : (n : ℕ) (bs : List ℕ) (at : ℕ) (k : Code → WrittenEntry) → begins_code (take (n + 1) bs) ≡ false → n < length bs
    → read_from (coded (take n bs) k) (at + n) (drop n bs) ≡ Err (Syntax (at + n))
unfolding step
code_stops n bs at k t short =
    let b = get_or bs n 0 in
    let e : take (n + 1) bs ≡ take n bs ++ b ∷ [] = take_more bs n 0 short in
    at_drop_more (read_from (coded (take n bs) k) (at + n)) bs n 0 short
    ∙ read_stuck (coded (take n bs) k) (at + n) b (drop (n + 1) bs) (if_else (begins_code (take n bs ++ b ∷ [])) _ None (ap begins_code (sym e) ∙ t))

-- the line ends
code_at_end : (n : ℕ) (bs : List ℕ) (at : ℕ) (k : Code → WrittenEntry) → n ≡ length bs
    → read_from (coded (take n bs) k) (at + n) (drop n bs) ≡ ended (at + n) (option_map k (code_of bs))
unfolding entry_at
code_at_end n bs at k e =
    let long : length bs ≤ n = omega (arith, e) in
    ap (read_from (coded (take n bs) k) (at + n)) (drop_all n bs long)
    ∙ read_end (coded (take n bs) k) (at + n)
    ∙ ap (λ x. ended (at + n) (option_map k (code_of x))) (take_all n bs long)

pub code_ends : (n : ℕ) (bs : List ℕ) (at : ℕ) (k : Code → WrittenEntry) (code : Code) → n ≡ length bs → code_of bs ≡ Some code
    → read_from (coded (take n bs) k) (at + n) (drop n bs) ≡ Ok (k code)
code_ends n bs at k code e f = code_at_end n bs at k e ∙ ap (λ x. ended (at + n) (option_map k x)) f

pub no_code_ends : (n : ℕ) (bs : List ℕ) (at : ℕ) (k : Code → WrittenEntry) → n ≡ length bs → code_of bs ≡ None
    → read_from (coded (take n bs) k) (at + n) (drop n bs) ≡ Err (Syntax (at + n))
no_code_ends n bs at k e f = code_at_end n bs at k e ∙ ap (λ x. ended (at + n) (option_map k x)) f

-- no byte of a code was read
pub code_begins : (bs : List ℕ) (at : ℕ) (k : Code → WrittenEntry) → read_from (coded [] k) at bs ≡ read_from (coded (take 0 bs) k) (at + 0) (drop 0 bs)
code_begins bs at k = let e : at ≡ at + 0 = omega arith in ap (λ x. read_from (coded [] k) x bs) e

-- ---- along

-- the last part of a parser, before which this was to be read
pub ends_along : {X : Type 0} (before mid : Result WrittenEntry EntrySyntax) (r : Result X EntrySyntax) (go : X → WrittenEntry) → before ≡ mid → Ends mid r go → Ends before r go
ends_along before mid (Ok value) go e h = e ∙ h
ends_along before mid (Err error) go e h = λ n. e ∙ h n

-- a further word came, or none did
pub on_word : (before : Result WrittenEntry EntrySyntax) (o : Option Spelling) (w : Spelling) (go : Spelling → EntryState) (end : EntryState) (new : Ahead)
    → LeadsOn before (Ok o) go end new → o ≡ Some w → before ≡ read (go w) new
on_word before None w go end new h e = absurd (let f = e in cc)
on_word before (Some v) w go end new h e = h ∙ ap (λ x. read (go x) new) (let f : v ≡ w = cc in f)

pub on_none : (before : Result WrittenEntry EntrySyntax) (o : Option Spelling) (go : Spelling → EntryState) (end : EntryState) (new : Ahead)
    → LeadsOn before (Ok o) go end new → ((w : Spelling) → o ≡ Some w → ⊥) → before ≡ read end new
on_none before None go end new h n = h
on_none before (Some v) go end new h n = absurd (n v refl)

-- a byte that was not taken
pub on_false : (X : Type 0) (old new : Ahead) (byte : ℕ) (taken : Bool) → MatchBool taken X ((new ≡ old) × Off byte old.rest) → taken ≡ false → (new ≡ old) × Off byte old.rest
on_false X old new byte true m e = absurd (let f : true ≡ false = e in cc)
on_false X old new byte false m e = m
