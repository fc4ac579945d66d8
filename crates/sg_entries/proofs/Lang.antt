-- What lines a state reads, and that a step goes on to just them.
use Rattle.std.proofs.Common.{◌≡◌, ℕ, zero, suc, ◌+◌, ◌⊎◌, Bool, true, List, [], ◌∷◌, ◌++◌}
use Rattle.std.specs.Prelude.{None}
use Rattle.sg_facts.specs.sg_base.declared.reply.Code.{Code}
use Rattle.sg_lex.specs.Inside.Marks.{close_bracket_byte}
use Rattle.sg_entries.specs.declared.tree.WrittenArg.{WrittenArg}
use Rattle.sg_entries.specs.declared.tree.WrittenEntry.{WrittenEntry}
use Rattle.sg_lex.specs.Lexeme.{Spelling}
use Rattle.sg_facts.specs.sg_base.Codes.{code_name}
use Rattle.sg_entries.specs.Pieces.{fixed}
use Rattle.sg_entries.specs.Inside.Forms.{next_arg_pieces}
use Rattle.sg_entries.specs.Inside.States.{EntryState, done, first, orelse, run, listed, coded, step}
use Rattle.sg_entries.proofs.Front.{Goes}

-- so many bytes of the class, and then this of them all
abbrev pub Ran : (ℕ → Bool) → ℕ → (List ℕ → ℕ → List ℕ → Type 0) → List ℕ → ℕ → List ℕ → Type 0
Ran p zero R read at bs = R read at bs
Ran p (suc n) R read at [] = ⊥
Ran p (suc n) R read at (b ∷ bs) = (p b ≡ true) × Ran p n R (read ++ b ∷ []) (at + 1) bs

-- these further arguments, `)`, and then this of them all
abbrev pub Listed : List WrittenArg → (List WrittenArg → ℕ → List ℕ → Type 0) → List WrittenArg → ℕ → List ℕ → Type 0
Listed [] R args at bs = Goes (fixed (close_bracket_byte ∷ []) ∷ []) (R args) at bs
Listed (a ∷ more) R args at bs = Goes (next_arg_pieces a) (Listed more R (args ++ a ∷ [])) at bs

-- from a state on, at a place, the bytes are a line of this entry
abbrev pub Lang : EntryState → WrittenEntry → ℕ → List ℕ → Type 0
Lang (done e) v at bs = (bs ≡ []) × (e ≡ v)
Lang (first p g) v at [] = ⊥
Lang (first p g) v at (b ∷ bs) = (p b ≡ true) × Lang (g at b) v (at + 1) bs
Lang (orelse p g s) v at [] = Lang s v at []
Lang (orelse p g s) v at (b ∷ bs) = ((p b ≡ true) × Lang (g at b) v (at + 1) bs) ⊎ Lang s v at (b ∷ bs)
Lang (run p from read k) v at bs = (n : ℕ) × Ran p n (λ ds. Lang (k (record { bytes = ds; at = from })) v) read at bs
Lang (listed args k) v at bs = (more : List WrittenArg) × Listed more (λ all. Lang (k all) v) args at bs
Lang (coded read k) v at bs = (code : Code) × (read ++ bs ≡ code_name code) × (k code ≡ v)

-- the state has no step by a byte of the class
abbrev pub Blind : (ℕ → Bool) → EntryState → Type 0
Blind p s = (at b : ℕ) → p b ≡ true → step s at b ≡ None

-- a state from which a line can be ended, and whose choices exclude one another
abbrev pub Fits : EntryState → Type 0
Fits (done e) = Unit {0}
Fits (first p g) = ((b : ℕ) × (p b ≡ true)) × ((at b : ℕ) → p b ≡ true → Fits (g at b))
Fits (orelse p g s) = ((at b : ℕ) → p b ≡ true → Fits (g at b)) × Fits s × Blind p s
Fits (run p from read k) = (s : Spelling) → Fits (k s) × Blind p (k s)
Fits (listed args k) = (all : List WrittenArg) → Fits (k all)
Fits (coded read k) = (code : Code) × (more : List ℕ) × (read ++ more ≡ code_name code)
