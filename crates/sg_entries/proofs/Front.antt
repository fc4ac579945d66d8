-- Bytes that begin with pieces.
use Rattle.std.proofs.Common.{◌≡◌, ℕ, ◌+◌, List, [], ◌∷◌, ◌++◌, length, refl, sym, ap, subst, ◌∙◌, append_assoc, length-append, arith}
use Rattle.std.specs.List.{flat_map}
use Rattle.std.proofs.lemmas.List.{append-nil}
use Rattle.std.proofs.lemmas.List.Concat.{flat_map-append}
use Rattle.sg_entries.specs.Pieces.{EntryPiece, fixed, piece_bytes, IsPiece, ArePlaced}

abbrev pub flat : List EntryPiece → List ℕ
flat pieces = flat_map piece_bytes pieces

-- the bytes from this place on begin with the pieces, and this holds of what comes after them
pub record Goes (pieces : List EntryPiece) (R : ℕ → List ℕ → Type 0) (at : ℕ) (bs : List ℕ) : Type 0 where
  pub placed : ArePlaced at pieces
  pub rest : List ℕ
  pub all : bs ≡ flat pieces ++ rest
  pub holds : R (at + length (flat pieces)) rest

place_zero : (at : ℕ) → at ≡ at + 0
place_zero at = omega arith

-- ---- places

pub placed_join : (ps qs : List EntryPiece) (at : ℕ) → ArePlaced at ps → ArePlaced (at + length (flat ps)) qs → ArePlaced at (ps ++ qs)
placed_join [] qs at h g = subst (λ v. ArePlaced v qs) (sym (place_zero at)) g
placed_join (p ∷ ps) qs at h g =
    let e : at + length (piece_bytes p ++ flat ps) ≡ (at + length (piece_bytes p)) + length (flat ps) = rw length-append (omega arith) in
    (h.0, placed_join ps qs (at + length (piece_bytes p)) h.1 (subst (λ v. ArePlaced v qs) e g))

pub placed_cut : (ps qs : List EntryPiece) (at : ℕ) → ArePlaced at (ps ++ qs) → ArePlaced at ps × ArePlaced (at + length (flat ps)) qs
placed_cut [] qs at h = (tt, subst (λ v. ArePlaced v qs) (place_zero at) h)
placed_cut (p ∷ ps) qs at h =
    let e : at + length (piece_bytes p ++ flat ps) ≡ (at + length (piece_bytes p)) + length (flat ps) = rw length-append (omega arith) in
    let g = placed_cut ps qs (at + length (piece_bytes p)) h.1 in
    ((h.0, g.0), subst (λ v. ArePlaced v qs) (sym e) g.1)

-- ---- one after the other

pub goes_none : (R : ℕ → List ℕ → Type 0) (at : ℕ) (bs : List ℕ) → R at bs → Goes [] R at bs
goes_none R at bs h = record { placed = tt; rest = bs; all = refl; holds = subst (λ v. R v bs) (place_zero at) h }

pub none_goes : (R : ℕ → List ℕ → Type 0) (at : ℕ) (bs : List ℕ) → Goes [] R at bs → R at bs
none_goes R at bs g = subst (R at) (sym g.all) (subst (λ v. R v g.rest) (sym (place_zero at)) g.holds)

pub join : (ps qs : List EntryPiece) (R : ℕ → List ℕ → Type 0) (at : ℕ) (bs : List ℕ) → Goes ps (Goes qs R) at bs → Goes (ps ++ qs) R at bs
join ps qs R at bs g =
    let h = g.holds in
    let e : (at + length (flat ps)) + length (flat qs) ≡ at + length (flat (ps ++ qs)) = rw (flat_map-append, length-append) (omega arith) in
    record {
      placed = placed_join ps qs at g.placed h.placed;
      rest = h.rest;
      all = g.all ∙ ap (λ v. flat ps ++ v) h.all ∙ sym (append_assoc (flat ps) (flat qs) h.rest) ∙ ap (λ v. v ++ h.rest) (sym (flat_map-append piece_bytes ps qs));
      holds = subst (λ v. R v h.rest) e h.holds;
    }

pub cut : (ps qs : List EntryPiece) (R : ℕ → List ℕ → Type 0) (at : ℕ) (bs : List ℕ) → Goes (ps ++ qs) R at bs → Goes ps (Goes qs R) at bs
cut ps qs R at bs g =
    let p = placed_cut ps qs at g.placed in
    let e : (at + length (flat ps)) + length (flat qs) ≡ at + length (flat (ps ++ qs)) = rw (flat_map-append, length-append) (omega arith) in
    record {
      placed = p.0;
      rest = flat qs ++ g.rest;
      all = g.all ∙ ap (λ v. v ++ g.rest) (flat_map-append piece_bytes ps qs) ∙ append_assoc (flat ps) (flat qs) g.rest;
      holds = record { placed = p.1; rest = g.rest; all = refl; holds = subst (λ v. R v g.rest) (sym e) g.holds };
    }

pub over : (ps : List EntryPiece) (R Q : ℕ → List ℕ → Type 0) (at : ℕ) (bs : List ℕ) → ((at : ℕ) (bs : List ℕ) → R at bs → Q at bs) → Goes ps R at bs → Goes ps Q at bs
over ps R Q at bs f g = record { placed = g.placed; rest = g.rest; all = g.all; holds = f (at + length (flat ps)) g.rest g.holds }

-- one piece alone
pub one_goes : (p : EntryPiece) (R : ℕ → List ℕ → Type 0) (at : ℕ) (rest : List ℕ) → IsPiece at p → R (at + length (piece_bytes p)) rest
    → Goes (p ∷ []) R at (piece_bytes p ++ rest)
one_goes p R at rest is h =
    record {
      placed = (is, tt);
      rest = rest;
      all = ap (λ v. v ++ rest) (sym (append-nil (piece_bytes p)));
      holds = subst (λ v. R (at + length v) rest) (sym (append-nil (piece_bytes p))) h;
    }

pub goes_one : (p : EntryPiece) (R : ℕ → List ℕ → Type 0) (at : ℕ) (bs : List ℕ) → Goes (p ∷ []) R at bs
    → (rest : List ℕ) × (bs ≡ piece_bytes p ++ rest) × IsPiece at p × R (at + length (piece_bytes p)) rest
goes_one p R at bs g =
    (g.rest, g.all ∙ ap (λ v. v ++ g.rest) (append-nil (piece_bytes p)), g.placed.0, subst (λ v. R (at + length v) g.rest) (append-nil (piece_bytes p)) g.holds)

-- ---- fixed bytes

-- the first of fixed bytes, and then the others
pub fixed_cut : (b : ℕ) (ds : List ℕ) (R : ℕ → List ℕ → Type 0) (at : ℕ) (bs : List ℕ) → Goes (fixed (b ∷ ds) ∷ []) R at bs
    → (rest : List ℕ) × (bs ≡ b ∷ rest) × Goes (fixed ds ∷ []) R (at + 1) rest
fixed_cut b ds R at bs g =
    let e : at + length ((b ∷ ds) ++ []) ≡ (at + 1) + length (ds ++ []) = omega arith in
    ((ds ++ []) ++ g.rest, g.all, record { placed = (tt, tt); rest = g.rest; all = refl; holds = subst (λ v. R v g.rest) e g.holds })

pub fixed_join : (b : ℕ) (ds : List ℕ) (R : ℕ → List ℕ → Type 0) (at : ℕ) (rest : List ℕ) → Goes (fixed ds ∷ []) R (at + 1) rest
    → Goes (fixed (b ∷ ds) ∷ []) R at (b ∷ rest)
fixed_join b ds R at rest g =
    let e : at + length ((b ∷ ds) ++ []) ≡ (at + 1) + length (ds ++ []) = omega arith in
    record { placed = (tt, tt); rest = g.rest; all = ap (λ v. b ∷ v) g.all; holds = subst (λ v. R v g.rest) (sym e) g.holds }

-- no fixed bytes
pub fixed_none : (R : ℕ → List ℕ → Type 0) (at : ℕ) (bs : List ℕ) → Goes (fixed [] ∷ []) R at bs → R at bs
fixed_none R at bs g = subst (R at) (sym g.all) (subst (λ v. R v g.rest) (sym (place_zero at)) g.holds)

pub none_fixed : (R : ℕ → List ℕ → Type 0) (at : ℕ) (bs : List ℕ) → R at bs → Goes (fixed [] ∷ []) R at bs
none_fixed R at bs h = record { placed = (tt, tt); rest = bs; all = refl; holds = subst (λ v. R v bs) (place_zero at) h }
