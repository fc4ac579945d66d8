-- What setting a file does to the file of each path.
use Rattle.std.proofs.Common.{◌≡◌, ℕ, true, false, cond, List, [], ◌∷◌, refl, sym, ◌∙◌, ap, inl, inr, ◌⊎◌}
use Rattle.std.specs.Prelude.{◌≢◌}
use Rattle.std.specs.Str.{bytes_eq}
use Rattle.sg_facts.proofs.Replaying.Files.{told}
use Rattle.sg_facts.specs.Object.{file_at, set_file}

pub set_own : (files : List (List ℕ × List ℕ)) (path bytes : List ℕ) → file_at (set_file files path bytes) path ≡ bytes
set_own [] path bytes = elim (told path path) [
  | inl same ↦ ap (λ b. cond b bytes []) same.0
  | inr apart ↦ absurd (apart.1 refl)
]
set_own (f ∷ files) path bytes = at (set_own files path bytes) (told f.0 path) (told path path)
  where
    at : file_at (set_file files path bytes) path ≡ bytes → ((bytes_eq f.0 path ≡ true) × (f.0 ≡ path)) ⊎ ((bytes_eq f.0 path ≡ false) × (f.0 ≢ path))
        → ((bytes_eq path path ≡ true) × (path ≡ path)) ⊎ ((bytes_eq path path ≡ false) × (path ≢ path)) → file_at (set_file (f ∷ files) path bytes) path ≡ bytes
    at rest x (inr not_so) = absurd (not_so.1 refl)
    at rest (inl same) (inl own) =
        ap (λ b. file_at (cond b ((path, bytes) ∷ files) (f ∷ set_file files path bytes)) path) same.0 ∙ ap (λ b. cond b bytes (file_at files path)) own.0
    at rest (inr apart) (inl own) =
        ap (λ b. file_at (cond b ((path, bytes) ∷ files) (f ∷ set_file files path bytes)) path) apart.0 ∙ ap (λ b. cond b f.1 (file_at (set_file files path bytes) path)) apart.0 ∙ rest

pub set_other : (files : List (List ℕ × List ℕ)) (path bytes other : List ℕ) → path ≢ other → file_at (set_file files path bytes) other ≡ file_at files other
set_other [] path bytes other apart = elim (told path other) [
  | inl same ↦ absurd (apart same.1)
  | inr is ↦ ap (λ b. cond b bytes []) is.0
]
set_other (f ∷ files) path bytes other apart = at (set_other files path bytes other apart) (told f.0 path) (told path other)
  where
    at : file_at (set_file files path bytes) other ≡ file_at files other → ((bytes_eq f.0 path ≡ true) × (f.0 ≡ path)) ⊎ ((bytes_eq f.0 path ≡ false) × (f.0 ≢ path))
        → ((bytes_eq path other ≡ true) × (path ≡ other)) ⊎ ((bytes_eq path other ≡ false) × (path ≢ other)) → file_at (set_file (f ∷ files) path bytes) other ≡ file_at (f ∷ files) other
    at rest x (inl same) = absurd (apart same.1)
    at rest (inl same) (inr is) =
        ap (λ b. file_at (cond b ((path, bytes) ∷ files) (f ∷ set_file files path bytes)) other) same.0
        ∙ ap (λ b. cond b bytes (file_at files other)) is.0
        ∙ sym (ap (λ b. cond b f.1 (file_at files other)) (ap (λ p. bytes_eq p other) same.1 ∙ is.0))
    at rest (inr not_it) (inr is) =
        ap (λ b. file_at (cond b ((path, bytes) ∷ files) (f ∷ set_file files path bytes)) other) not_it.0
        ∙ ap (λ x. cond (bytes_eq f.0 other) f.1 x) rest
