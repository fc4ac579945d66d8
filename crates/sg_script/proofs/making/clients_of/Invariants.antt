-- What the parts that are left add to the clients so far.
use Rattle.std.proofs.Common.{◌≡◌, true, drop}
use Rattle.std.specs.List.{fold, list_all}
use Rattle.sg_script.specs.Inside.Parts.{with_client}
use Rattle.sg_script.specs.Scripts.{clients_of}
use Rattle.sg_script.specs.Inside.Held.{is_held}
use Rattle.sg_script.proofs.making.clients_of.Given as goal

abbrev pub invariant-each : goal.invariant-each
invariant-each g l = record {
  left : fold (λ clients p. with_client (g.M.MakesCalls.call_of l.maker) p clients) l.made.items (drop l.part-index l.parts) ≡ clients_of (g.M.MakesCalls.call_of l.maker) l.parts;
  held : list_all is_held (drop l.part-index l.parts) ≡ true;
}
