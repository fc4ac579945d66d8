-- An input is divided in one way.
use Rattle.std.proofs.Common.{◌≡◌, inl, inr, ℕ, List, ◌++◌, sym, ap, ◌∙◌, length, take, drop, get_or, arith}
use Rattle.std.specs.Prelude.{codes}
use Rattle.std.proofs.Math.Seq.{take-append_seam}
use Rattle.sg_input.specs.Divider.{Divides, IsCut}
use Rattle.sg_input.specs.Inside.Dividing.{IsDivider}
use Rattle.sg_input.proofs.Cuts.{after_lines}

-- the same bytes are one line of `%%` alone with one rest
same_after : (l c l' c' : List ℕ) → IsDivider l c → IsDivider l' c' → l ++ c ≡ l' ++ c' → c ≡ c'
same_after l c l' c' (inl e) (inl f) h = ap (drop 3) (sym (ap (λ v. v ++ c) e) ∙ h ∙ ap (λ v. v ++ c') f)
same_after l c l' c' (inl e) (inr (inl f)) h =
    absurd (let g : 10 ≡ 13 = ap (λ v. get_or v 2 0) (sym (ap (λ v. v ++ c) e) ∙ h ∙ ap (λ v. v ++ c') f) in omega (arith, g))
same_after l c l' c' (inl e) (inr (inr (f, n))) h =
    absurd (let g = ap length (sym (ap (λ v. v ++ c) e) ∙ h ∙ ap (λ v. v ++ c') f ∙ ap (λ v. codes "%%" ++ v) n) in omega (arith, g))
same_after l c l' c' (inr (inl e)) (inl f) h =
    absurd (let g : 13 ≡ 10 = ap (λ v. get_or v 2 0) (sym (ap (λ v. v ++ c) e) ∙ h ∙ ap (λ v. v ++ c') f) in omega (arith, g))
same_after l c l' c' (inr (inl e)) (inr (inl f)) h = ap (drop 4) (sym (ap (λ v. v ++ c) e) ∙ h ∙ ap (λ v. v ++ c') f)
same_after l c l' c' (inr (inl e)) (inr (inr (f, n))) h =
    absurd (let g = ap length (sym (ap (λ v. v ++ c) e) ∙ h ∙ ap (λ v. v ++ c') f ∙ ap (λ v. codes "%%" ++ v) n) in omega (arith, g))
same_after l c l' c' (inr (inr (e, m))) (inl f) h =
    absurd (let g = ap length (sym (ap (λ v. v ++ c) e ∙ ap (λ v. codes "%%" ++ v) m) ∙ h ∙ ap (λ v. v ++ c') f) in omega (arith, g))
same_after l c l' c' (inr (inr (e, m))) (inr (inl f)) h =
    absurd (let g = ap length (sym (ap (λ v. v ++ c) e ∙ ap (λ v. codes "%%" ++ v) m) ∙ h ∙ ap (λ v. v ++ c') f) in omega (arith, g))
same_after l c l' c' (inr (inr (e, m))) (inr (inr (f, n))) h = m ∙ sym n

-- what stands before such a line is the input's front of that length
front_of : (input b c : List ℕ) (d : Divides input b c) → take (length b) input ≡ b
front_of input b c d = ap (take (length b)) d.whole ∙ take-append_seam b (d.line ++ c)

same_length : (input b c b' c' : List ℕ) → IsCut input b c → IsCut input b' c' → length b ≡ length b'
same_length input b c b' c' k k' = omega (arith, k.first b' c' k'.divides, k'.first b c k.divides)

pub one_cut : (input b c b' c' : List ℕ) → IsCut input b c → IsCut input b' c' → (b ≡ b') × (c ≡ c')
one_cut input b c b' c' k k' =
    let n = same_length input b c b' c' k k' in (
      sym (front_of input b c k.divides) ∙ ap (λ v. take v input) n ∙ front_of input b' c' k'.divides,
      same_after k.divides.line c k'.divides.line c' k.divides.divider k'.divides.divider
          (sym (after_lines input b c k.divides) ∙ ap (λ v. drop v input) n ∙ after_lines input b' c' k'.divides),
    )
