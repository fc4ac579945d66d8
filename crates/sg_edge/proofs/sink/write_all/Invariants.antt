-- What is written so far is the front of the bytes.
use Rattle.std.proofs.Common.{length, ◌-◌, ◌≡◌, ◌≤◌, take}
use Rattle.std.specs.Io.KnownBytes.{Appends}
use Rattle.sg_edge.proofs.sink.write_all.Given as goal

abbrev pub invariant-pieces : goal.invariant-pieces
invariant-pieces g l = record {
  within : l.written ≤ length l.bytes;
  front : Appends (g.S.Sink.written l.initial.sink) (g.S.Sink.written l.sink) (take l.written l.bytes);
  steady : g.S.Sink.faults l.sink ≡ g.S.Sink.faults l.initial.sink;
}

abbrev pub decreases-pieces : goal.decreases-pieces
decreases-pieces g l = length l.bytes - l.written
