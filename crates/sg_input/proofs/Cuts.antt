-- Where lines begin, and where one of `%%` alone can't stand.
use Rattle.std.proofs.Common.{◌≡◌, ◌≢◌, ◌⊎◌, inl, inr, ℕ, suc, ◌+◌, ◌-◌, ◌<◌, ◌≤◌, List, [], ◌∷◌, ◌++◌, sym, ap, subst, ◌∙◌, length, take, drop, get_or, arith, append_assoc}
use Rattle.std.proofs.Math.Nat.{eq-or-lt_of_le}
use Rattle.std.proofs.Math.Seq.{drop-append_seam, get_or-append_seam, take-suc}
use Rattle.std.proofs.lemmas.List.{take-append-drop, length-append, get_or-drop, length-drop}
use Rattle.sg_input.specs.Divider.{Divides, IsCut}
use Rattle.sg_input.specs.Inside.Dividing.{AreLines, IsDivider}

-- no line of `%%` alone stands at a place
abbrev NoneAt : List ℕ → ℕ → Type 0
NoneAt input at = (line behind : List ℕ) → IsDivider line behind → drop at input ≢ line ++ behind

-- what stands after the bytes before such a line
pub after_lines : (input b c : List ℕ) (d : Divides input b c) → drop (length b) input ≡ d.line ++ c
after_lines input b c d = ap (drop (length b)) d.whole ∙ drop-append_seam b (d.line ++ c)

-- such a line at or after a place at which none stands has an LF before it, at or after that place
pub record EndsAt (input : List ℕ) (at : ℕ) (b : List ℕ) : Type 0 where
  pub j : ℕ
  pub long : length b ≡ at + j + 1
  pub within : at + j < length input
  pub is : get_or input (at + j) 0 ≡ 10

ended : (input : List ℕ) (at : ℕ) (b c : List ℕ) (d : Divides input b c) (front : List ℕ) → b ≡ front ++ 10 ∷ [] → at < length b → EndsAt input at b
ended input at b c d front e lt =
    let n = ap length e ∙ length-append front (10 ∷ []) in
    let w = d.whole ∙ ap (λ v. v ++ (d.line ++ c)) e ∙ append_assoc front (10 ∷ []) (d.line ++ c) in
    let s : at + (length front - at) ≡ length front = omega (arith, n, lt) in
    record {
      j = length front - at;
      long = omega (arith, n, lt);
      within = omega (arith, s, ap length w ∙ length-append front (10 ∷ (d.line ++ c)));
      is = ap (λ v. get_or input v 0) s ∙ ap (λ v. get_or v (length front) 0) w ∙ get_or-append_seam front 10 (d.line ++ c) 0;
    }

pub ends_at : (input : List ℕ) (at : ℕ) (b c : List ℕ) → Divides input b c → at ≤ length b → NoneAt input at → EndsAt input at b
ends_at input at b c d le none = by (eq-or-lt_of_le le) d.lines
  where
    by : (at ≡ length b) ⊎ (at < length b) → AreLines b → EndsAt input at b
    by (inl e) lines = absurd (none d.line c d.divider (ap (λ v. drop v input) e ∙ after_lines input b c d))
    by (inr lt) (inl e) = absurd (let f = ap length e in omega (arith, f, lt))
    by (inr lt) (inr (front, e)) = ended input at b c d front e lt

-- the first such line stands at this place
pub cut_at : (input : List ℕ) (at : ℕ) (before rest line behind : List ℕ) → at ≤ length input → AreLines (take at input)
    → ((b c : List ℕ) → Divides input b c → at ≤ length b) → before ≡ take at input → rest ≡ drop at input → length before ≡ at
    → IsDivider line behind → rest ≡ line ++ behind → IsCut input before behind
cut_at input at before rest line behind le lines first f r n d e =
    record {
      divides = record {
        line = line;
        divider = d;
        lines = subst AreLines (sym f) lines;
        whole = sym (take-append-drop at input) ∙ ap (λ v. v ++ drop at input) (sym f) ∙ ap (λ v. before ++ v) (sym r ∙ e);
      };
      first = λ b c other. subst (λ v. v ≤ length b) (sym n) (first b c other);
    }

-- no such line stands anywhere, where none stands at a place and no LF after it
pub no_cut : (input : List ℕ) (at : ℕ) (rest : List ℕ) → ((b c : List ℕ) → Divides input b c → at ≤ length b) → rest ≡ drop at input
    → ((line behind : List ℕ) → IsDivider line behind → rest ≢ line ++ behind) → ((k : ℕ) → k < length rest → get_or rest k 0 ≢ 10)
    → (b c : List ℕ) → Divides input b c → ⊥
no_cut input at rest first r none no_lf b c d =
    let e = ends_at input at b c d (first b c d) (λ line behind i h. none line behind i (r ∙ h)) in
    no_lf e.j
    (omega (arith, ap length r ∙ length-drop at input, e.within))
    (ap (λ v. get_or v e.j 0) r ∙ get_or-drop at input e.j 0 ∙ e.is)

-- the next line begins after the next LF, and no such line stands before it
pub next_line : (input : List ℕ) (at : ℕ) (rest : List ℕ) (j : ℕ) → at ≤ length input → ((b c : List ℕ) → Divides input b c → at ≤ length b) → rest ≡ drop at input
    → ((line behind : List ℕ) → IsDivider line behind → rest ≢ line ++ behind) → j < length rest → get_or rest j 0 ≡ 10
    → ((k : ℕ) → k < j → get_or rest k 0 ≢ 10)
    → (at + (j + 1) ≤ length input) × AreLines (take (at + (j + 1)) input) × ((b c : List ℕ) → Divides input b c → at + (j + 1) ≤ length b)
next_line input at rest j le first r none lt lf before =
    let n = ap length r ∙ length-drop at input in
    let here : get_or input (at + j) 0 ≡ 10 = sym (get_or-drop at input j 0) ∙ ap (λ v. get_or v j 0) (sym r) ∙ lf in
    let within : at + j < length input = omega (arith, n, lt, le) in
    let s : at + (j + 1) ≡ suc (at + j) = omega arith in (
      omega (arith, within),
      inr (take (at + j) input, ap (λ v. take v input) s ∙ take-suc input (at + j) 0 within ∙ ap (λ v. take (at + j) input ++ v ∷ []) here),
      λ b c d.
          let e = ends_at input at b c d (first b c d) (λ line behind i h. none line behind i (r ∙ h)) in
          later b e (first_lf b e),
    )
  where
    -- the LF before it isn't before the next one
    first_lf : (b : List ℕ) (e : EndsAt input at b) → e.j < j → ⊥
    first_lf b e k = before e.j k (ap (λ v. get_or v e.j 0) r ∙ get_or-drop at input e.j 0 ∙ e.is)

    later : (b : List ℕ) (e : EndsAt input at b) → (e.j < j → ⊥) → at + (j + 1) ≤ length b
    later b e not_first = omega (arith, e.long, not_first)
