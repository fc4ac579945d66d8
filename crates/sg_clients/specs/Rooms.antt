-- The memory that is taken ahead for a client's call, and for the reply that it gets.
use Rattle.std.specs.Prelude.{◌≡◌, ◌≤◌, true, [], Some, vec_capacity}
use Rattle.std.specs.declared.option.Option.{Option}
use Rattle.sg_facts.specs.sg_base.declared.call.Call.{Call}
use Rattle.sg_facts.specs.sg_base.declared.reply.Reply.{Reply}
use Rattle.sg_facts.specs.sg_base.Reply.{FitsReplyRoom}
use Rattle.sg_facts.specs.sg_base.Spare.{HasReplyRoom}
use Rattle.sg_clients.specs.declared.seat.SeatRoom.{SeatRoom}
use Rattle.sg_clients.specs.declared.seat.SeatSpare.{SeatSpare}
use Rattle.sg_facts.specs.Limits.{last_client}
use Rattle.sg_clients.specs.WorldView.{is_offered}
use Rattle.sg_clients.specs.declared.phase.Phase.{Phase}

-- room for the reply of a call's entry, for the reply that is handed over, and for as many phases as there may be clients
pub record HasSeatRoom (spare : SeatSpare) : Type 0 where
  pub entry : HasReplyRoom spare.entry
  pub answer : HasReplyRoom spare.answer
  pub phases : last_client ≤ spare.phases

-- what a withdrawal takes of a call: a copy of it, and room for as many phases as there may be clients
pub record FitsSeatRoom (call : Call) (room : SeatRoom) : Type 0 where
  pub same : room.call ≡ call
  pub empty : room.phases.items ≡ []
  pub phases : last_client ≤ vec_capacity room.phases

-- memory was taken for a call: there is a copy of it, and room for what answers or withdraws it
pub record IsTaken (call : Call) (copy : Option Call) (spare : SeatSpare) : Type 0 where
  pub copied : copy ≡ Some call
  pub room : HasSeatRoom spare

-- memory was taken for a call that isn't answered, and a reply is no longer than there is room for
pub record KeepsRoom (phase : Phase) (call : Call) (reply : Reply) (copy : Option Call) (spare : SeatSpare) : Type 0 where
  pub taken : is_offered phase ≡ true → IsTaken call copy spare
  pub fits : FitsReplyRoom reply
