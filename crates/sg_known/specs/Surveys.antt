-- What is found of a description before it is checked.
use Rattle.std.specs.Prelude.{ℕ, ◌≡◌, suc, ◌==◌, Bool, List, [], ◌∷◌}
use Rattle.std.specs.List.{list_all}
use Rattle.sg_described.specs.sg_facts.declared.shape.Effect.{Effect}
use Rattle.sg_described.specs.sg_facts.Allowed.{implies}
use Rattle.sg_described.specs.sg_facts.Facts.{Facts, Field}
use Rattle.sg_described.specs.Described.{Described, described_of}
use Rattle.sg_described.specs.Known.{greatest, leaves_client}
use Rattle.sg_described.specs.NeverZero.{never_zero}
use Rattle.sg_known.specs.declared.survey.Survey.{Survey}

-- whether effects leave a client or none in a field
abbrev pub leaves_only_client : ℕ → List (ℕ × Effect) → Bool
leaves_only_client x effects = list_all (λ e. implies (e.0 == x) (leaves_client e.1)) effects

-- the states in which fields are never 0, numbered from a number on
abbrev pub never_zero_from : Facts → ℕ → List Field → List (List ℕ)
never_zero_from facts x [] = []
never_zero_from facts x (f ∷ fields) = never_zero facts x ∷ never_zero_from facts (suc x) fields

-- the description that was surveyed
abbrev pub subject_of : Survey → Described
subject_of s = described_of s.description.now

-- what was found is of it
pub record IsSurvey (s : Survey) : Type 0 where
  pub most : s.greatest.items ≡ greatest (subject_of s)
  pub states : s.never_zero ≡ never_zero_from (subject_of s).facts 0 (subject_of s).facts.fields
