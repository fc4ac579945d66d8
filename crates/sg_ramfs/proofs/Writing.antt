-- A patch in a file, and in the files.
use Rattle.std.proofs.Common.{◌≡◌, ℕ, zero, suc, ◌≤◌, cond, List, [], ◌∷◌, ◌++◌, None, Some, append-nil, drop, refl, sym, ◌∙◌, ap, inl, inr, arith}
use Rattle.sg_facts.specs.declared.outcome.Outcome.{Outcome}
use Rattle.sg_facts.specs.declared.outcome.Outcome.TheVariants.{Replied, Blocks, Stopped, NoMemory}
use Rattle.sg_facts.specs.declared.outcome.Patch.{Patch}
use Rattle.sg_facts.specs.Invoke.{Points}
use Rattle.sg_facts.specs.Object.{file_at, over, set_file}
use Rattle.sg_slots.specs.Slots.{Held}
use Rattle.sg_facts.proofs.Replaying.Files.{told}
use Rattle.sg_ramfs.specs.declared.open_file.OpenFile.{OpenFile}
use Rattle.sg_ramfs.specs.Inside.RamfsDecision.{Overwrites, Puts}
use Rattle.sg_ramfs.specs.RamfsFiles.{place_at}
use Rattle.sg_ramfs.proofs.Indexing.{behind, first_place}

nothing_left : (n : ℕ) → drop {A = ℕ} n [] ≡ []
nothing_left zero = refl
nothing_left (suc n) = refl

-- bytes at the start of a file without bytes
pub over_none : (from : ℕ) (bytes : List ℕ) → from ≤ 0 → bytes ≡ over [] from bytes
over_none zero bytes begins = sym (ap (λ l. bytes ++ l) (nothing_left _) ∙ append-nil bytes)
over_none (suc from) bytes begins = absurd (omega (arith, begins))

-- a file that is set to its own bytes stays
set_same : (files : List (List ℕ × List ℕ)) (path : List ℕ) (at : ℕ) → place_at files path ≡ Some at → set_file files path (file_at files path) ≡ files
set_same [] path at is = absurd (cc is)
set_same (f ∷ files) path at is = elim (told f.0 path) [
  | inl same ↦
      ap (λ b. cond b ((path, cond b f.1 (file_at files path)) ∷ files) (f ∷ set_file files path (cond b f.1 (file_at files path)))) same.0
      ∙ ap (λ p. (p, f.1) ∷ files) (sym same.1)
  | inr apart ↦
      let rest = behind (place_at files path) at (sym (first_place files f path apart.0) ∙ is) in
      ap (λ b. cond b ((path, cond b f.1 (file_at files path)) ∷ files) (f ∷ set_file files path (cond b f.1 (file_at files path)))) apart.0
      ∙ ap (λ l. f ∷ l) (set_same files path rest.0 rest.1)
]

-- a patch that was written over the bytes of its file is in the files
pub puts_over : (old : Held OpenFile) (files files' : List (List ℕ × List ℕ)) (id at : ℕ) (f : OpenFile) (p : Patch) (points : Points) (outcome : Outcome) (new : Held OpenFile) (bytes bytes' : List ℕ) (later : Points)
    → place_at files p.key ≡ Some at → bytes ≡ file_at files p.key → files' ≡ set_file files p.key bytes' → Overwrites old bytes id f p points outcome new bytes' later → Puts old files id f p points outcome new files' later
puts_over old files files' id at f p points (Replied reply (Some q)) new bytes bytes' later there was is done =
    (done.0, done.1, is ∙ ap (set_file files p.key) (done.2 ∙ ap (λ b. over b p.from p.bytes) was))
puts_over old files files' id at f p points (Replied reply None) new bytes bytes' later there was is done = absurd done
puts_over old files files' id at f p points Blocks new bytes bytes' later there was is done = absurd done
puts_over old files files' id at f p points Stopped new bytes bytes' later there was is done = done.0
puts_over old files files' id at f p points NoMemory new bytes bytes' later there was is done =
    (done.0, is ∙ ap (set_file files p.key) (done.1 ∙ was) ∙ set_same files p.key at there)
