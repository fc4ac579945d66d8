-- What is found of replayed calls.
use Rattle.std.specs.Prelude.{ℕ, ◌≡◌, suc, not, nat_le, List, [], ◌∷◌, None, Some}
use Rattle.std.specs.Bool.{then_some}
use Rattle.std.specs.declared.option.Option.{Option}
use Rattle.sg_known.specs.sg_facts.declared.shape.Effect.{Effect}
use Rattle.sg_known.specs.sg_facts.Walks.{FieldMark, Spot}
use Rattle.sg_known.specs.sg_walk.declared.spot.FieldState.{FieldState}
use Rattle.sg_known.specs.sg_described.declared.bounds.Bounds.{Bounds}
use Rattle.sg_known.specs.sg_described.Described.{Described, Rule}
use Rattle.sg_known.specs.sg_described.Known.{Known, between, greatest, may_stop}
use Rattle.sg_known.specs.sg_described.Meaning.{most_at}
use Rattle.sg_known.specs.sg_described.NeverZero.{is_never_zero}
use Rattle.sg_known.specs.sg_described.Walking.{bounds_at, caller_fits, field_known, left_most}
use Rattle.sg_known.specs.Seen.{fields_in, up_to}
use Rattle.sg_safe.specs.declared.reason.FailingCall.{FailingCall}
use Rattle.sg_safe.specs.declared.reason.KnownField.{KnownField}
use Rattle.sg_safe.specs.declared.reason.Obstacle.{Obstacle}
use Rattle.sg_safe.specs.declared.reason.Obstacle.TheVariants.{ByRule, NoClient, PastMost}
use Rattle.sg_safe.specs.declared.reason.Unsafe.{Unsafe}
use Rattle.sg_safe.specs.declared.reason.Unsafe.TheVariants.{CountsFar, Recounts, Overtaken, Fails}
use Rattle.sg_safe.specs.Reasons.{LeadsTo, first_from, first_in}

-- what is known of fields in a state by their marks, numbered from a number on
abbrev pub fields_from : Described → ℕ → ℕ → List FieldMark → List Bounds
fields_from d state x [] = []
fields_from d state x (m ∷ marks) = bounds_at m (is_never_zero d.facts state x) (most_at (greatest d) x) ∷ fields_from d state (suc x) marks

-- the same with the marks of the code, by what is listed of fields and their greatest numbers
abbrev pub spots_from : List Bounds → List ℕ → ℕ → List FieldState → List KnownField
spots_from fields most x [] = []
spots_from fields most x (m ∷ marks) = record { mark = m; bounds = fields_in fields x; own = up_to most x } ∷ spots_from fields most (suc x) marks

-- what is known of the row at a spot, of whichever call
pub record IsRowAt (d : Described) (s : Spot) (k : Known) : Type 0 where
  pub state : k.state ≡ between s.state s.state
  pub fields : k.fields ≡ field_known d s

-- the first field that effects set to the caller and that may hold no client
abbrev pub clients_at : Described → ℕ → List (ℕ × Effect) → Option Obstacle
clients_at d state es = first_in (λ e. then_some (not (caller_fits d state e)) (NoClient e.0)) es

-- the first rule that may refuse or put off, numbered from a number on
abbrev pub stops_at : Known → ℕ → List Rule → Option Obstacle
stops_at k n rules = first_from (λ m r. then_some (may_stop k r) (ByRule m)) n rules

-- the first field that effects may take past its greatest number
abbrev pub past_at : Described → Known → ℕ → List (ℕ × Effect) → Option Obstacle
past_at d k word es = first_in (λ e. then_some (not (nat_le (left_most e.1 (k.fields e.0).most (most_at (greatest d) e.0) word) (most_at d.most e.0))) (PastMost e.0)) es

-- what is found is this call, with a walk that leads to where it may fail; None where there is no such call
abbrev pub IsLater : Described → Option FailingCall → Option Unsafe → Type 0
IsLater d call None = call ≡ None
IsLater d call (Some (Fails walk other)) = (call ≡ Some other) × LeadsTo d walk other
IsLater d call (Some (CountsFar x)) = ⊥
IsLater d call (Some (Recounts fun x)) = ⊥
IsLater d call (Some (Overtaken waiter n by)) = ⊥
