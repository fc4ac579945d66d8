-- As many rooms as were counted, and no more than are wanted or were there.
use Rattle.std.proofs.Common.{◌≡◌, ◌≤◌, length, max}
use Rattle.sg_track.proofs.room.add_text_rooms.Given as goal

abbrev pub invariant-rooms : goal.invariant-rooms
invariant-rooms l = record {
  counted : length l.rooms.items ≡ l.counter;
  most : l.counter ≤ max 8 (length l.initial.rooms.items);
}
