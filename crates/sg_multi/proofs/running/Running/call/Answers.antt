-- It is that of the client's seat there.
use Rattle.std.proofs.Common.{◌∙◌, ◌-◌, ap, sym}
use Rattle.sg_multi.specs.sg_sim.sg_clients.WorldView.{Seat}
use Rattle.sg_multi.proofs.Turning.{seat_is}
use Rattle.sg_multi.proofs.running.Running.call.Goals as goal

pub call-requires : goal.call-requires
call-requires g c = record { client = c.requires.client c.member_of.result.now c.member_of.ensures }

pub returns : goal.returns
returns g c = c.call.ensures ∙ ap (λ (s : Seat). s.call) (sym (seat_is c.args.self.now.members (c.args.member - 1) c.member_of.result.now c.args.client c.member_of.ensures))
