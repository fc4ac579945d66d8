-- What the parts that are left add to the flaws so far.
use Rattle.std.proofs.Common.{◌≡◌, ◌≤◌, ◌*◌, [], None, drop, take}
use Rattle.sg_script.specs.Inside.Firsts.{first_after}
use Rattle.sg_script.specs.Inside.Fronts.{IsFront}
use Rattle.sg_script.specs.Flaws.{flaws_after}
use Rattle.sg_script.proofs.judging.first_in.Given as goal

abbrev pub invariant-each : goal.invariant-each
invariant-each l = record {
  front : IsFront l.members l.front (take l.part-index l.parts);
  most : l.front.calls ≤ l.part-index * 18446744073709551615;
  left : first_after l.first (flaws_after l.members l.setup (take l.part-index l.parts) (drop l.part-index l.parts)) ≡ first_after None (flaws_after l.members l.setup [] l.parts);
}
