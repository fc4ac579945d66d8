-- How much of a recovery is left: the calls of walks that may still be replayed, and the rows that aren't begun.
use Rattle.std.specs.Prelude.{ℕ, ◌+◌, ◌-◌, ◌*◌, ◌≤◌, List, [], ◌∷◌}
use Rattle.sg_facts.specs.declared.row.Row.{Row}
use Rattle.sg_facts.specs.Counted.{most_counted}
use Rattle.sg_facts.specs.Facts.{Facts}
use Rattle.sg_facts.specs.Laws.{slow}
use Rattle.sg_facts.specs.Object.{Object}
use Rattle.sg_recovery_laws.specs.Midway.Progress.{Told, fresh, begun, complete}

-- the calls of a walk that are left, at most
abbrev pub left_of : Told → ℕ
left_of fresh = 8
left_of (begun n) = 8 - n
left_of complete = 0

-- 1 for a row for which nothing was done in this boot, else 0
abbrev pub unbegun : Told → ℕ
unbegun fresh = 1
unbegun (begun n) = 0
unbegun complete = 0

-- a sum over rows by what is told
abbrev pub sum_told : (Told → ℕ) → (ℕ → Told) → List Row → ℕ
sum_told f told [] = 0
sum_told f told (r ∷ rows) = f (told r.id) + sum_told f told rows

-- the numbers of a running service: its ids and those of rows that aren't begun are no more than the ids given, and its counted words come
-- no higher than the calls that are left allow
pub record AreNumbers (facts : Facts) (told : ℕ → Told) (entries : ℕ) (o v : Object) : Type 0 where
  pub given : v.given + sum_told unbegun told o.rows ≤ o.given
  pub counted : most_counted facts v.rows + sum_told left_of told o.rows ≤ slow + entries + 128 + 8 * o.given
