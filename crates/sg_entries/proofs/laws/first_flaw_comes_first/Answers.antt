-- The first flaw of a text comes before all others.
use Rattle.sg_entries.proofs.Ordered.{first_before}
use Rattle.sg_entries.proofs.laws.first_flaw_comes_first.Goals as goal

pub returns : goal.returns
returns c = λ shows i text entries f are first. first_before shows i text entries f are first
