-- That the list of a walk's functions gives the array back that holds it.
use Rattle.std.specs.Prelude.{◌≡◌, ℕ, ◌-◌, ◌≤◌, List, ◌++◌, length, take, drop, replicate}
use Rattle.std.proofs.Common.{sym, ◌∙◌, ap, arith}
use Rattle.sg_facts.specs.declared.walk.Walk.TheInside.{Inside}
use Rattle.std.proofs.lemmas.List.{length-take-le, take-append-drop}

-- an array and a length for a list of functions
abbrev pub back : List ℕ → Inside
back funs = record { funs = funs ++ replicate (8 - length funs) 0; len = length funs }

same_inside : (a : Inside) {funs : List ℕ} {len : ℕ} → funs ≡ a.funs → len ≡ a.len → (let b : Inside = record { funs = funs; len = len } in b) ≡ a
same_inside a e n = rw (e, n)

-- the list of the first functions, and as many zeros as there is room for, is the array
pub refilled : (funs : List ℕ) (len : ℕ) → len ≤ 8 → length funs ≡ 8 → drop len funs ≡ replicate (8 - len) 0
    → take len funs ++ replicate (8 - length (take len funs)) 0 ≡ funs
refilled funs len short all rest =
    let n : length (take len funs) ≡ len = length-take-le len funs (omega arith) in
    ap (λ k. take len funs ++ replicate (8 - k) 0) n ∙ ap (λ xs. take len funs ++ xs) (sym rest) ∙ take-append-drop len funs

-- the list of the first `len` functions of an array of 8 has the length `len`
pub length-refilled : (funs : List ℕ) (len : ℕ) → len ≤ 8 → length funs ≡ 8 → length (take len funs) ≡ len
length-refilled funs len short all = length-take-le len funs (omega arith)

-- the list of the first functions gives back its array, in which zeros stand after them
pub given_back : (a : Inside) → a.len ≤ 8 → length a.funs ≡ 8 → drop a.len a.funs ≡ replicate (8 - a.len) 0 → back (take a.len a.funs) ≡ a
given_back a short all rest = same_inside a (refilled a.funs a.len short all rest) (length-refilled a.funs a.len short all)
