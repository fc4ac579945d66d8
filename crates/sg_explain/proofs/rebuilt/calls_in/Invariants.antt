use Rattle.std.proofs.Common.{◌≡◌, ◌*◌, ◌^◌, ◌≤◌, length, take}
use Rattle.std.specs.Prelude.{sum_by}
use Rattle.sg_explain.proofs.rebuilt.calls_in.Given as goal

-- the calls of the clients so far
abbrev pub invariant-clients : goal.invariant-clients
invariant-clients l = (l.calls ≡ sum_by (λ c. length c.1) (take l.client-index l.clients)) × (l.calls ≤ l.client-index * 2 ^ 64)
