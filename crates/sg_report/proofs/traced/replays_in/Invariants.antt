-- The first boots are counted.
use Rattle.std.proofs.Common.{◌≡◌, map, take}
use Rattle.sg_facts.specs.Inside.Rows.{boot_of}
use Rattle.sg_hist.specs.Reading.{items_of}
use Rattle.sg_report.specs.Inside.Pieces.{replays_of}
use Rattle.sg_report.proofs.traced.replays_in.Given as goal

abbrev pub invariant-boots : goal.invariant-boots
invariant-boots l = l.count ≡ replays_of (items_of (map boot_of (take l.boot-index l.boots)))
