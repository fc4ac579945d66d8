-- The lines that a state reads which wants a part of an entry: they begin with the part's pieces.
use Rattle.std.proofs.Common.{◌≡◌, ℕ, zero, suc, ◌+◌, inl, inr, ◌==◌, Bool, true, List, [], ◌∷◌, ◌++◌, length, refl, sym, ap, subst, append_assoc, arith, eqb-true, eq-eqb}
use Rattle.std.specs.Char.{is_ascii_digit}
use Rattle.std.specs.List.{list_all}
use Rattle.std.proofs.lemmas.List.{append-nil}
use Rattle.std.proofs.lemmas.Bool.{and_parts, and_from}
use Rattle.sg_facts.specs.sg_base.Text.{is_text_byte}
use Rattle.sg_lex.specs.Bytes.{is_in_word}
use Rattle.sg_entries.specs.declared.tree.WrittenArg.{WrittenArg}
use Rattle.sg_entries.specs.declared.tree.WrittenArg.TheVariants.{Number as number_arg, Text as text_arg}
use Rattle.sg_entries.specs.declared.tree.WrittenEntry.{WrittenEntry}
use Rattle.sg_lex.specs.Lexeme.{Spelling}
use Rattle.sg_entries.specs.Pieces.{EntryPiece, fixed, number as number_piece, positive as positive_piece, name as name_piece, printable, IsPositive}
use Rattle.sg_entries.specs.Inside.Classes.{IsNumber, IsName}
use Rattle.sg_entries.specs.Entry.{text_pieces, arg_pieces}
use Rattle.sg_entries.specs.Inside.Forms.{quote_byte}
use Rattle.sg_entries.specs.Inside.States.{EntryState, orelse, byte, bytes, positive, number, name, text_rest, text, argument}
use Rattle.sg_entries.proofs.Front.{Goes, join, cut, one_goes, goes_one, fixed_cut, fixed_join, fixed_none, none_fixed}
use Rattle.sg_entries.proofs.Lang.{Lang, Ran}

-- what holds at a state holds in its lines
abbrev pub Into : (ℕ → List ℕ → Type 0) → EntryState → WrittenEntry → Type 0
Into R s v = (at : ℕ) (bs : List ℕ) → R at bs → Lang s v at bs

-- ---- fixed bytes

pub byte_to : (b : ℕ) (s : EntryState) (v : WrittenEntry) (at : ℕ) (bs : List ℕ) → Lang (byte b s) v at bs → Goes (fixed (b ∷ []) ∷ []) (Lang s v) at bs
byte_to b s v at [] h = absurd h
byte_to b s v at (c ∷ cs) h =
    subst (λ x. Goes (fixed (b ∷ []) ∷ []) (Lang s v) at (x ∷ cs)) (sym (eqb-true c b h.0))
    (fixed_join b [] (Lang s v) at cs (none_fixed (Lang s v) (at + 1) cs h.1))

pub byte_from : (b : ℕ) (s : EntryState) (v : WrittenEntry) (R : ℕ → List ℕ → Type 0) (at : ℕ) (bs : List ℕ) → Goes (fixed (b ∷ []) ∷ []) R at bs → Into R s v
    → Lang (byte b s) v at bs
byte_from b s v R at bs g f =
    let c = fixed_cut b [] R at bs g in
    subst (Lang (byte b s) v at) (sym c.1) (eq-eqb b b refl, f (at + 1) c.0 (fixed_none R (at + 1) c.0 c.2))

pub bytes_to : (ds : List ℕ) (s : EntryState) (v : WrittenEntry) (at : ℕ) (bs : List ℕ) → Lang (bytes ds s) v at bs → Goes (fixed ds ∷ []) (Lang s v) at bs
bytes_to [] s v at bs h = none_fixed (Lang s v) at bs h
bytes_to (d ∷ ds) s v at [] h = absurd h
bytes_to (d ∷ ds) s v at (c ∷ cs) h =
    subst (λ x. Goes (fixed (d ∷ ds) ∷ []) (Lang s v) at (x ∷ cs)) (sym (eqb-true c d h.0))
    (fixed_join d ds (Lang s v) at cs (bytes_to ds s v (at + 1) cs h.1))

pub bytes_from : (ds : List ℕ) (s : EntryState) (v : WrittenEntry) (R : ℕ → List ℕ → Type 0) (at : ℕ) (bs : List ℕ) → Goes (fixed ds ∷ []) R at bs → Into R s v
    → Lang (bytes ds s) v at bs
bytes_from [] s v R at bs g f = f at bs (fixed_none R at bs g)
bytes_from (d ∷ ds) s v R at bs g f =
    let c = fixed_cut d ds R at bs g in
    subst (Lang (bytes (d ∷ ds) s) v at) (sym c.1) (eq-eqb d d refl, bytes_from ds s v R (at + 1) c.0 c.2 f)

-- ---- bytes of a class

pub ran_to : (p : ℕ → Bool) (n : ℕ) (R : List ℕ → ℕ → List ℕ → Type 0) (read : List ℕ) (at : ℕ) (bs : List ℕ) → Ran p n R read at bs
    → (more : List ℕ) × (rest : List ℕ) × (bs ≡ more ++ rest) × (list_all p more ≡ true) × R (read ++ more) (at + length more) rest
ran_to p zero R read at bs h =
    let e : at ≡ at + 0 = omega arith in
    ([], bs, refl, refl, subst (λ v. R (read ++ []) v bs) e (subst (λ v. R v at bs) (sym (append-nil read)) h))
ran_to p (suc n) R read at [] h = absurd h
ran_to p (suc n) R read at (b ∷ bs) h =
    let g = ran_to p n R (read ++ b ∷ []) (at + 1) bs h.1 in
    let e : (at + 1) + length g.0 ≡ at + length (b ∷ g.0) = omega arith in (
      b ∷ g.0,
      g.1,
      ap (λ v. b ∷ v) g.2,
      and_from (p b) (list_all p g.0) h.0 g.3,
      subst (λ v. R v (at + length (b ∷ g.0)) g.1) (append_assoc read (b ∷ []) g.0) (subst (λ v. R ((read ++ b ∷ []) ++ g.0) v g.1) e g.4),
    )

pub ran_from : (p : ℕ → Bool) (more rest : List ℕ) (R : List ℕ → ℕ → List ℕ → Type 0) (read : List ℕ) (at : ℕ) → list_all p more ≡ true
    → R (read ++ more) (at + length more) rest → Ran p (length more) R read at (more ++ rest)
ran_from p [] rest R read at a h =
    let e : at ≡ at + 0 = omega arith in
    subst (λ v. R v at rest) (append-nil read) (subst (λ v. R (read ++ []) v rest) (sym e) h)
ran_from p (b ∷ more) rest R read at a h =
    let e : (at + 1) + length more ≡ at + length (b ∷ more) = omega arith in
    let parts = and_parts (p b) (list_all p more) a in (
      parts.0,
      ran_from p more rest R (read ++ b ∷ []) (at + 1) parts.1
          (subst (λ v. R v ((at + 1) + length more) rest) (sym (append_assoc read (b ∷ []) more)) (subst (λ v. R (read ++ b ∷ more) v rest) (sym e) h)),
    )

-- ---- numbers and names

pub positive_to : (k : Spelling → EntryState) (v : WrittenEntry) (at : ℕ) (bs : List ℕ) → Lang (positive k) v at bs
    → (n : Spelling) × Goes (positive_piece n ∷ []) (Lang (k n) v) at bs
positive_to k v at [] h = absurd h
positive_to k v at (c ∷ cs) h =
    let g = ran_to is_ascii_digit h.1.0 (λ ds. Lang (k (record { bytes = ds; at = at })) v) (c ∷ []) (at + 1) cs h.1.1 in
    let n : Spelling = record { bytes = c ∷ g.0; at = at } in
    let e : (at + 1) + length g.0 ≡ at + length (c ∷ g.0) = omega arith in (
      n,
      subst (λ x. Goes (positive_piece n ∷ []) (Lang (k n) v) at (c ∷ x)) (sym g.2)
          (one_goes (positive_piece n) (Lang (k n) v) at g.1 ((h.0, g.3), refl) (subst (λ x. Lang (k n) v x g.1) e g.4)),
    )

positive_of : (k : Spelling → EntryState) (v : WrittenEntry) (at : ℕ) (ds rest : List ℕ) → IsPositive ds
    → Lang (k (record { bytes = ds; at = at })) v (at + length ds) rest → Lang (positive k) v at (ds ++ rest)
positive_of k v at [] rest is l = absurd is
positive_of k v at (c ∷ more) rest is l =
    let e : (at + 1) + length more ≡ at + length (c ∷ more) = omega arith in (
      is.0,
      (
        length more,
        ran_from is_ascii_digit more rest (λ ds. Lang (k (record { bytes = ds; at = at })) v) (c ∷ []) (at + 1) is.1
            (subst (λ x. Lang (k (record { bytes = c ∷ more; at = at })) v x rest) (sym e) l),
      ),
    )

number_of : (k : Spelling → EntryState) (v : WrittenEntry) (at : ℕ) (ds rest : List ℕ) → IsNumber ds
    → Lang (k (record { bytes = ds; at = at })) v (at + length ds) rest → Lang (number k) v at (ds ++ rest)
number_of k v at [] rest (inl e) l = absurd (let f = e in cc)
number_of k v at [] rest (inr is) l = absurd is
number_of k v at (c ∷ more) rest (inl e) l =
    subst (λ x. Lang (k (record { bytes = x; at = at })) v (at + length x) rest → Lang (number k) v at (x ++ rest)) (sym e) (λ h. inl (refl, h)) l
number_of k v at (c ∷ more) rest (inr is) l = inr (positive_of k v at (c ∷ more) rest is l)

-- a state of what is spelt at its place
at_place : (k : Spelling → EntryState) (v : WrittenEntry) (s : Spelling) (at x : ℕ) (rest : List ℕ) → s.at ≡ at → Lang (k s) v x rest
    → Lang (k (record { bytes = s.bytes; at = at })) v x rest
at_place k v s at x rest e h = subst (λ p. Lang (k (record { bytes = s.bytes; at = p })) v x rest) e h

pub positive_from : (k : Spelling → EntryState) (v : WrittenEntry) (n : Spelling) (R : ℕ → List ℕ → Type 0) (at : ℕ) (bs : List ℕ)
    → Goes (positive_piece n ∷ []) R at bs → Into R (k n) v → Lang (positive k) v at bs
positive_from k v n R at bs g f =
    let o = goes_one (positive_piece n) R at bs g in
    subst (Lang (positive k) v at) (sym o.1) (positive_of k v at n.bytes o.0 o.2.0 (at_place k v n at (at + length n.bytes) o.0 o.2.1 (f (at + length n.bytes) o.0 o.3)))

pub number_to : (k : Spelling → EntryState) (v : WrittenEntry) (at : ℕ) (bs : List ℕ) → Lang (number k) v at bs
    → (n : Spelling) × Goes (number_piece n ∷ []) (Lang (k n) v) at bs
number_to k v at [] h = absurd h
number_to k v at (c ∷ cs) (inl h) =
    let n : Spelling = record { bytes = c ∷ []; at = at } in
    (n, one_goes (number_piece n) (Lang (k n) v) at cs (inl (ap (λ x. x ∷ []) (eqb-true c 0x30 h.0)), refl) h.1)
number_to k v at (c ∷ cs) (inr h) =
    let g = positive_to k v at (c ∷ cs) h in
    (g.0, record { placed = ((inr g.1.placed.0.0, g.1.placed.0.1), tt); rest = g.1.rest; all = g.1.all; holds = g.1.holds })

pub number_from : (k : Spelling → EntryState) (v : WrittenEntry) (n : Spelling) (R : ℕ → List ℕ → Type 0) (at : ℕ) (bs : List ℕ)
    → Goes (number_piece n ∷ []) R at bs → Into R (k n) v → Lang (number k) v at bs
number_from k v n R at bs g f =
    let o = goes_one (number_piece n) R at bs g in
    subst (Lang (number k) v at) (sym o.1) (number_of k v at n.bytes o.0 o.2.0 (at_place k v n at (at + length n.bytes) o.0 o.2.1 (f (at + length n.bytes) o.0 o.3)))

pub name_to : (k : Spelling → EntryState) (v : WrittenEntry) (at : ℕ) (bs : List ℕ) → Lang (name k) v at bs
    → (n : Spelling) × Goes (name_piece n ∷ []) (Lang (k n) v) at bs
name_to k v at [] h = absurd h
name_to k v at (c ∷ cs) h =
    let g = ran_to is_in_word h.1.0 (λ ds. Lang (k (record { bytes = ds; at = at })) v) (c ∷ []) (at + 1) cs h.1.1 in
    let n : Spelling = record { bytes = c ∷ g.0; at = at } in
    let e : (at + 1) + length g.0 ≡ at + length (c ∷ g.0) = omega arith in (
      n,
      subst (λ x. Goes (name_piece n ∷ []) (Lang (k n) v) at (c ∷ x)) (sym g.2)
          (one_goes (name_piece n) (Lang (k n) v) at g.1 ((h.0, g.3), refl) (subst (λ x. Lang (k n) v x g.1) e g.4)),
    )

name_of : (k : Spelling → EntryState) (v : WrittenEntry) (at : ℕ) (ds rest : List ℕ) → IsName ds
    → Lang (k (record { bytes = ds; at = at })) v (at + length ds) rest → Lang (name k) v at (ds ++ rest)
name_of k v at [] rest is l = absurd is
name_of k v at (c ∷ more) rest is l =
    let e : (at + 1) + length more ≡ at + length (c ∷ more) = omega arith in (
      is.0,
      (
        length more,
        ran_from is_in_word more rest (λ ds. Lang (k (record { bytes = ds; at = at })) v) (c ∷ []) (at + 1) is.1
            (subst (λ x. Lang (k (record { bytes = c ∷ more; at = at })) v x rest) (sym e) l),
      ),
    )

pub name_from : (k : Spelling → EntryState) (v : WrittenEntry) (n : Spelling) (R : ℕ → List ℕ → Type 0) (at : ℕ) (bs : List ℕ)
    → Goes (name_piece n ∷ []) R at bs → Into R (k n) v → Lang (name k) v at bs
name_from k v n R at bs g f =
    let o = goes_one (name_piece n) R at bs g in
    subst (Lang (name k) v at) (sym o.1) (name_of k v at n.bytes o.0 o.2.0 (at_place k v n at (at + length n.bytes) o.0 o.2.1 (f (at + length n.bytes) o.0 o.3)))

-- ---- texts

-- after the first quote
abbrev pub closed_pieces : Spelling → List EntryPiece
closed_pieces t = printable t ∷ fixed (quote_byte ∷ []) ∷ []

pub closed_to : (k : Spelling → EntryState) (v : WrittenEntry) (at : ℕ) (bs : List ℕ) → Lang (text_rest at k) v at bs
    → (t : Spelling) × Goes (closed_pieces t) (Lang (k t) v) at bs
closed_to k v at bs h =
    let g = ran_to is_text_byte h.0 (λ ds. Lang (byte quote_byte (k (record { bytes = ds; at = at }))) v) [] at bs h.1 in
    let t : Spelling = record { bytes = g.0; at = at } in (
      t,
      join (printable t ∷ []) (fixed (quote_byte ∷ []) ∷ []) (Lang (k t) v) at bs
          (subst (Goes (printable t ∷ []) (Goes (fixed (quote_byte ∷ []) ∷ []) (Lang (k t) v)) at) (sym g.2)
          (one_goes (printable t) (Goes (fixed (quote_byte ∷ []) ∷ []) (Lang (k t) v)) at g.1 (g.3, refl)
          (byte_to quote_byte (k t) v (at + length g.0) g.1 g.4))),
    )

pub closed_from : (k : Spelling → EntryState) (v : WrittenEntry) (t : Spelling) (R : ℕ → List ℕ → Type 0) (at : ℕ) (bs : List ℕ)
    → Goes (closed_pieces t) R at bs → Into R (k t) v → Lang (text_rest at k) v at bs
closed_from k v t R at bs g f =
    let o = goes_one (printable t) (Goes (fixed (quote_byte ∷ []) ∷ []) R) at bs (cut (printable t ∷ []) (fixed (quote_byte ∷ []) ∷ []) R at bs g) in
    let l = byte_from quote_byte (k t) v R (at + length t.bytes) o.0 o.3 f in
    subst (Lang (text_rest at k) v at) (sym o.1) (
      length t.bytes,
      ran_from is_text_byte t.bytes o.0 (λ ds. Lang (byte quote_byte (k (record { bytes = ds; at = at }))) v) [] at o.2.0
          (at_place (λ s. byte quote_byte (k s)) v t at (at + length t.bytes) o.0 o.2.1 l),
    )

-- a byte that is the first quote
pub quoted_to : (k : Spelling → EntryState) (v : WrittenEntry) (at c : ℕ) (cs : List ℕ) → (c == quote_byte) ≡ true → Lang (text_rest (at + 1) k) v (at + 1) cs
    → (t : Spelling) × Goes (text_pieces t) (Lang (k t) v) at (c ∷ cs)
quoted_to k v at c cs e h =
    let g = closed_to k v (at + 1) cs h in
    let R : ℕ → List ℕ → Type 0 = Lang (k g.0) v in (
      g.0,
      subst (λ x. Goes (text_pieces g.0) R at (x ∷ cs)) (sym (eqb-true c quote_byte e))
          (join (fixed (quote_byte ∷ []) ∷ []) (closed_pieces g.0) R at (quote_byte ∷ cs)
          (fixed_join quote_byte [] (Goes (closed_pieces g.0) R) at cs (none_fixed (Goes (closed_pieces g.0) R) (at + 1) cs g.1))),
    )

pub text_to : (k : Spelling → EntryState) (v : WrittenEntry) (at : ℕ) (bs : List ℕ) → Lang (text k) v at bs
    → (t : Spelling) × Goes (text_pieces t) (Lang (k t) v) at bs
text_to k v at [] h = absurd h
text_to k v at (c ∷ cs) h = quoted_to k v at c cs h.0 h.1

-- the first quote, and what comes after it
pub quoted_from : (k : Spelling → EntryState) (v : WrittenEntry) (t : Spelling) (R : ℕ → List ℕ → Type 0) (at : ℕ) (bs : List ℕ)
    → Goes (text_pieces t) R at bs → Into R (k t) v → (cs : List ℕ) × (bs ≡ quote_byte ∷ cs) × Lang (text_rest (at + 1) k) v (at + 1) cs
quoted_from k v t R at bs g f =
    let c = fixed_cut quote_byte [] (Goes (closed_pieces t) R) at bs (cut (fixed (quote_byte ∷ []) ∷ []) (closed_pieces t) R at bs g) in
    (c.0, c.1, closed_from k v t R (at + 1) c.0 (fixed_none (Goes (closed_pieces t) R) (at + 1) c.0 c.2) f)

pub text_from : (k : Spelling → EntryState) (v : WrittenEntry) (t : Spelling) (R : ℕ → List ℕ → Type 0) (at : ℕ) (bs : List ℕ)
    → Goes (text_pieces t) R at bs → Into R (k t) v → Lang (text k) v at bs
text_from k v t R at bs g f =
    let q = quoted_from k v t R at bs g f in
    subst (Lang (text k) v at) (sym q.1) (refl, q.2)

-- ---- arguments

pub argument_to : (k : WrittenArg → EntryState) (v : WrittenEntry) (at : ℕ) (bs : List ℕ) → Lang (argument k) v at bs
    → (a : WrittenArg) × Goes (arg_pieces a) (Lang (k a) v) at bs
argument_to k v at [] h = absurd h
argument_to k v at (c ∷ cs) (inl h) =
    let g = quoted_to (λ t. k (text_arg t)) v at c cs h.0 h.1 in
    (text_arg g.0, g.1)
argument_to k v at (c ∷ cs) (inr h) =
    let g = number_to (λ n. k (number_arg n)) v at (c ∷ cs) h in
    (number_arg g.0, g.1)

-- a number is no byte less
some_byte : (s : EntryState) (p : ℕ → Bool) (g : ℕ → ℕ → EntryState) (v : WrittenEntry) (at : ℕ) (bs : List ℕ) → Lang s v at bs → Lang (orelse p g s) v at bs
some_byte s p g v at [] h = h
some_byte s p g v at (b ∷ bs) h = inr h

pub argument_from : (k : WrittenArg → EntryState) (v : WrittenEntry) (a : WrittenArg) (R : ℕ → List ℕ → Type 0) (at : ℕ) (bs : List ℕ)
    → Goes (arg_pieces a) R at bs → Into R (k a) v → Lang (argument k) v at bs
argument_from k v (number_arg n) R at bs g f =
    some_byte (number (λ n. k (number_arg n))) (λ c. c == quote_byte) (λ place c. text_rest (place + 1) (λ t. k (text_arg t))) v at bs (number_from (λ n. k (number_arg n)) v n R at bs g f)
argument_from k v (text_arg t) R at bs g f =
    let q = quoted_from (λ t. k (text_arg t)) v t R at bs g f in
    subst (Lang (argument k) v at) (sym q.1) (inl (refl, q.2))
