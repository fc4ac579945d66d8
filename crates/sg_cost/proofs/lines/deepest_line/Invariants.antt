-- What the first rows cost with their ancestors is kept.
use Rattle.std.proofs.Common.{◌≡◌, map, take}
use Rattle.sg_cost.specs.Costs.{greatest}
use Rattle.sg_cost.specs.Inside.Lines.{AreLineCosts, line_cost}
use Rattle.sg_cost.proofs.lines.deepest_line.Given as goal

abbrev pub invariant-ids : goal.invariant-ids
invariant-ids l = record {
  kept : AreLineCosts l.tables.walks l.rows.rows (map (λ r. r.id) (take l.id-index l.rows.rows)) l.kept.entries;
  most : l.most ≡ greatest (map (λ r. line_cost l.tables.walks l.rows.rows r.id) (take l.id-index l.rows.rows));
}
