-- The first entries are the same.
use Rattle.std.proofs.Common.{◌≡◌, take}
use Rattle.sg_hist.proofs.history.History.is_same.Given as goal

abbrev pub invariant-entries : goal.invariant-entries
invariant-entries l = take l.at l.self.items ≡ take l.at l.other.items
