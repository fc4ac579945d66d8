-- Parts of a buffer that grows, or that is written.
use Rattle.std.proofs.Common.{◌≡◌, ℕ, zero, suc, ◌+◌, ◌-◌, ◌≤◌, List, [], ◌∷◌, ◌++◌, length, take, drop, refl, sym, ◌∙◌, ap, arith}
use Rattle.std.specs.Prelude.{max}
use Rattle.std.proofs.lemmas.List.{append_assoc, drop-append-le, drop-drop, drop-take, drop_at, length-append, length-drop, length-take-le, take-append-drop, take-append-le, take-take, take_at}
use Rattle.sg_facts.specs.Object.{over}
use Rattle.sg_store.specs.Spans.{buffer_part}

-- ---- a buffer that grows

-- a part that stands in the front of a buffer
pub part_front : (old more : List ℕ) (from len : ℕ) → from + len ≤ length old → buffer_part (old ++ more) from len ≡ buffer_part old from len
part_front old more from len within =
    ap (take len) (drop-append-le from old more (omega arith))
    ∙ take-append-le len (drop from old) more (omega (arith, length-drop from old))

-- the first bytes after the front
pub part_more : (old copy more : List ℕ) (len : ℕ) → length copy ≡ len → buffer_part ((old ++ copy) ++ more) (length old) len ≡ copy
part_more old copy more len is =
    ap (λ l. buffer_part l (length old) len) (append_assoc old copy more) ∙ ap (take len) (drop_at old (copy ++ more) (length old) refl) ∙ take_at copy more len is

-- ---- a buffer that is written

length_front : (old bytes : List ℕ) (at : ℕ) → at ≤ length old → length (take at old ++ bytes) ≡ at + length bytes
length_front old bytes at within = omega (arith, length-append (take at old) bytes, length-take-le at old within)

pub length_over : (old bytes : List ℕ) (at : ℕ) → at + length bytes ≤ length old → length (over old at bytes) ≡ length old
length_over old bytes at within =
    let front = length_front old bytes at (omega arith) in
    omega (arith, length-append (take at old ++ bytes) (drop (at + length bytes) old), front, length-drop (at + length bytes) old)

-- a part before what is written
pub part_before : (old bytes : List ℕ) (at from len : ℕ) → from + len ≤ at → at ≤ length old → buffer_part (over old at bytes) from len ≡ buffer_part old from len
part_before old bytes at from len before within =
    let short : from + len ≤ length (take at old) = omega (arith, length-take-le at old within) in
    ap (λ l. buffer_part l from len) (append_assoc (take at old) bytes (drop (at + length bytes) old))
    ∙ part_front (take at old) (bytes ++ drop (at + length bytes) old) from len short
    ∙ sym (part_front (take at old) (drop at old) from len short) ∙ ap (λ l. buffer_part l from len) (take-append-drop at old)

-- a part after what is written
pub part_after : (old bytes : List ℕ) (at from len : ℕ) → at + length bytes ≤ from → at ≤ length old → buffer_part (over old at bytes) from len ≡ buffer_part old from len
part_after old bytes at from len behind within =
    let m = from - (at + length bytes) in
    let is : at + length bytes + m ≡ from = omega arith in
    ap (take len) (
    ap (λ k. drop k (over old at bytes)) (sym is) ∙ sym (drop-drop m (at + length bytes) (over old at bytes))
    ∙ ap (drop m) (drop_at (take at old ++ bytes) (drop (at + length bytes) old) (at + length bytes) (length_front old bytes at within))
    ∙ drop-drop m (at + length bytes) old ∙ ap (λ k. drop k old) is
    )

-- what is written after a place is written into what follows the place
drop_over : (old bytes : List ℕ) (from at : ℕ) → from + at ≤ length old → drop from (over old (from + at) bytes) ≡ over (drop from old) at bytes
drop_over old bytes from at within =
    let rest = drop (from + at + length bytes) old in
    let first : from ≤ length (take (from + at) old) = omega (arith, length-take-le (from + at) old within) in
    let both : from ≤ length (take (from + at) old ++ bytes) = omega (arith, length-append (take (from + at) old) bytes, first) in
    let regroup : from + at + length bytes ≡ from + (at + length bytes) = omega arith in
    drop-append-le from (take (from + at) old ++ bytes) rest both
    ∙ ap (λ l. l ++ rest) (drop-append-le from (take (from + at) old) bytes first ∙ ap (λ l. l ++ bytes) (drop-take from at old))
    ∙ ap (λ l. take at (drop from old) ++ bytes ++ l) (ap (λ k. drop k old) regroup ∙ sym (drop-drop (at + length bytes) from old))

take_none : (n : ℕ) → take {A = ℕ} n [] ≡ []
take_none zero = refl
take_none (suc n) = refl

take_past : (xs ys : List ℕ) (n m : ℕ) → n ≡ length xs + m → take n (xs ++ ys) ≡ xs ++ take m ys
take_past [] ys n m is = ap (λ k. take k ys) (omega (arith, is))
take_past (x ∷ xs) ys zero m is = absurd (omega (arith, is))
take_past (x ∷ xs) ys (suc n) m is = ap (λ l. x ∷ l) (take_past xs ys n m (omega (arith, is)))

drop_taken : (n len : ℕ) (xs : List ℕ) → drop n (take len xs) ≡ take (len - n) (drop n xs)
drop_taken zero len xs = ap (λ k. take k xs) (let is : len ≡ len - 0 = omega arith in is)
drop_taken (suc n) zero xs = ap (λ k. take k (drop (suc n) xs)) (let is : 0 ≡ 0 - suc n = omega arith in is)
drop_taken (suc n) (suc len) [] = sym (take_none (suc len - suc n))
drop_taken (suc n) (suc len) (x ∷ xs) = drop_taken n len xs ∙ ap (λ k. take k (drop n xs)) (let is : len - n ≡ suc len - suc n = omega arith in is)

-- so many first bytes of what is written, where these are the old ones and what is written
take_over : (old bytes : List ℕ) (len at new : ℕ) → at ≤ len → len ≤ length old → new ≡ max len (at + length bytes) → take new (over old at bytes) ≡ over (take len old) at bytes
take_over old bytes len at new begins within is =
    let m = len - (at + length bytes) in
    let front = length_front old bytes at (omega arith) in
    take_past (take at old ++ bytes) (drop (at + length bytes) old) new m (omega (arith, front, is))
    ∙ ap (λ l. l ++ bytes ++ take m (drop (at + length bytes) old)) (sym (take-take at len old begins))
    ∙ ap (λ l. take at (take len old) ++ bytes ++ l) (sym (drop_taken (at + length bytes) len old))

-- the part of a file after a patch of it
pub part_written : (old bytes : List ℕ) (from len at new : ℕ) → at ≤ len → from + len ≤ length old → new ≡ max len (at + length bytes)
    → buffer_part (over old (from + at) bytes) from new ≡ over (buffer_part old from len) at bytes
part_written old bytes from len at new begins within is =
    ap (take new) (drop_over old bytes from at (omega arith)) ∙ take_over (drop from old) bytes len at new begins (omega (arith, length-drop from old)) is
