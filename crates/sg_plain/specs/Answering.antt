-- A service as plays speak of it.
use Rattle.std.specs.Prelude.{ℕ, Bool, ◌&&◌, ◌||◌, not}
use Rattle.std.specs.List.{list_all}
use Rattle.sg_facts.specs.Facts.{Facts}
use Rattle.sg_facts.specs.Legal.{Table}

-- a service: its shape, what it answers, and how many parts an Ok of each of its functions has, before each of which it may stop
pub record Answering : Type 0 where
  pub facts : Facts
  pub ask : Table
  pub parts : ℕ → ℕ

-- in a private service no query waits. It is on no descriptor, so that a reply of another client that is on none would wake it, also
-- one that was held and whose item stands before the wait
abbrev pub no_query_waits : Facts → Bool
no_query_waits facts = facts.global || list_all (λ f. not (f.query && f.block)) facts.funs
