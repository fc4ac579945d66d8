-- A described service as plain data.
use Rattle.std.specs.Prelude.{ℕ, zero, suc, List, [], map, slice_get, unwrap_or}
use Rattle.sg_facts.specs.Facts.{Facts, facts_of}
use Rattle.sg_described.specs.declared.description.Test.{Test}
use Rattle.sg_described.specs.declared.description.Verdict.{Verdict}
use Rattle.sg_described.specs.declared.description.RuleShape.{RuleShape}
use Rattle.sg_described.specs.declared.description.AnswerShape.{AnswerShape}
use Rattle.sg_described.specs.declared.description.Description.{Description}

-- a rule: its tests, which all have to hold, and its verdict
pub record Rule : Type 0 where
  pub tests : List Test
  pub verdict : Verdict

-- a described service: its facts, the greatest number of each field, and the rules of each function
pub record Described : Type 0 where
  pub facts : Facts
  pub most : List ℕ
  pub answers : List (List Rule)

abbrev pub rule_of : RuleShape → Rule
rule_of r = record { tests = r.tests.now; verdict = r.verdict }

abbrev pub rules_of : AnswerShape → List Rule
rules_of a = map rule_of a.rules.now

-- a description as plain data
abbrev pub described_of : Description → Described
described_of d = record { facts = facts_of d.shape; most = d.most.now; answers = map rules_of d.answers.now }

-- of the rules of functions those of the function of a number, from 1
abbrev pub rules_among : List (List Rule) → ℕ → List Rule
rules_among answers zero = []
rules_among answers (suc n) = unwrap_or (slice_get answers n) []

-- the rules of the function of a number
abbrev pub rules_at : Described → ℕ → List Rule
rules_at d fun = rules_among d.answers fun
