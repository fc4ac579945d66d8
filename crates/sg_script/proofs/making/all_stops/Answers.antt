-- One member more.
use Rattle.std.specs.Prelude.{filter}
use Rattle.sg_script.specs.Scripts.{is_stop_of, stops_of}
use Rattle.sg_script.proofs.Stops.{one_more_made}
use Rattle.sg_script.proofs.making.all_stops.Goals as goal

pub each-preserved : goal.each-preserved
each-preserved c = record {
  made = one_more_made (λ m. stops_of (filter (is_stop_of c.args.members.now m) c.args.parts.now)) c.each.made.items _ c.each.member _ c.each.invariant.made c.in_ok-stops_for.ensures c.in_ok-push.ensures.items;
}
