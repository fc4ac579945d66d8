-- Lines that divide.
use Rattle.std.proofs.Common.{◌≡◌, ◌≢◌, inl, inr, ℕ, List, [], ◌++◌, refl, sym, ap, ◌∙◌, Bor}
use Rattle.std.specs.Prelude.{codes, MatchOption, None, Some}
use Rattle.std.specs.declared.option.Option.{Option}
use Rattle.sg_input.specs.Inside.Dividing.{IsDivider}

-- no line of `%%` alone stands in front, where none of the three does
pub no_divider : (rest line behind : List ℕ)
    → ((r : List ℕ) → rest ≢ codes "%%\n" ++ r) → ((r : List ℕ) → rest ≢ codes "%%\r\n" ++ r) → rest ≢ codes "%%"
    → IsDivider line behind → rest ≢ line ++ behind
no_divider rest line behind a b c (inl e) h = a behind (h ∙ ap (λ l. l ++ behind) e)
no_divider rest line behind a b c (inr (inl e)) h = b behind (h ∙ ap (λ l. l ++ behind) e)
no_divider rest line behind a b c (inr (inr (e, n))) h = c (h ∙ ap (λ l. l ++ behind) e ∙ ap (λ l. codes "%%" ++ l) n)

-- the last of the three, or none
pub last_line : (rest : List ℕ) (found : Option (Bor (List ℕ)))
    → ((r : List ℕ) → rest ≢ codes "%%\n" ++ r) → ((r : List ℕ) → rest ≢ codes "%%\r\n" ++ r)
    → MatchOption found (rest ≢ codes "%%") (λ behind. (rest ≡ codes "%%") × (behind.now ≡ []))
    → MatchOption found ((line behind : List ℕ) → IsDivider line behind → rest ≢ line ++ behind)
    (λ behind. (line : List ℕ) × IsDivider line behind.now × (rest ≡ line ++ behind.now))
last_line rest None a b m = λ line behind d. no_divider rest line behind a b m d
last_line rest (Some behind) a b m = (codes "%%", inr (inr (refl, m.1)), m.0 ∙ ap (λ l. codes "%%" ++ l) (sym m.1))
