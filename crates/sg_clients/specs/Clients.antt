-- Which numbers are those of clients, and how a test of ids answers.
use Rattle.std.specs.Prelude.{ℕ, ◌≡◌, ◌≤◌, Bool}

-- a number is that of one of so many clients, from 1
abbrev pub IsClient : ℕ → ℕ → Type 0
IsClient clients client = (1 ≤ client) × (client ≤ clients)

-- a test of ids answers by a function
abbrev pub AnswersBy : (ℕ → Bool → Type 0) → (ℕ → Bool) → Type 0
AnswersBy answers test = (id : ℕ) (passes : Bool) → answers id passes → passes ≡ test id
