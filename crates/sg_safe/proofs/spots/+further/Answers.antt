-- One call more.
use Rattle.std.proofs.Common.{◌≡◌, ◌+◌, ◌-◌, map, rules}
use Rattle.std.specs.Prelude.{All}
use Rattle.sg_known.specs.sg_described.Described.{described_of}
use Rattle.sg_known.specs.sg_described.Walking.{spots_within}
use Rattle.sg_safe.specs.Inside.Routes.{IsDone, IsReached, place_in}
use Rattle.sg_safe.proofs.Routing.{all_done, spots_more}
use Rattle.sg_safe.proofs.spots.+further.Goals as goal

pub further-requires : goal.further-requires
further-requires t c =
    let d = described_of c.args.description.now in
    let spots : map (place_in d) c.add_latest.new.found.list ≡ spots_within d (c.args.calls + 1 - 1) =
    spots_more d c.args.calls (map (place_in d) c.args.found.list) (map (place_in d) c.add_latest.new.found.list) c.requires.some c.requires.spots c.in_ok-add_latest.ensures.spots in
    let done : IsDone d c.len-count.result (map (place_in d) c.add_latest.new.found.list) =
    all_done d c.args.found.list c.add_latest.new.found.list c.len-count.result c.len-count.ensures c.in_ok-add_latest.ensures.spots in
    let reached : All (IsReached d (c.args.calls + 1)) c.add_latest.new.found.list = c.in_ok-add_latest.ensures.reached c.args.calls c.requires.reached in
    search (rules, spots, done, reached)
