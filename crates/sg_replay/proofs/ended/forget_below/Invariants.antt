-- The names of the rows so far are gone where these end.
use Rattle.std.proofs.Common.{◌≤◌}
use Rattle.sg_replay.proofs.Committed.{AreGone}
use Rattle.sg_replay.proofs.ended.forget_below.Given as goal

abbrev pub invariant-places : goal.invariant-places
invariant-places l = record {
  names : AreGone l.rows.rows l.gone l.initial.names.known l.place l.names.known;
  spare : l.initial.names.spare ≤ l.names.spare;
}
