-- Where all rows are whole, those that are wanted are.
use Rattle.std.proofs.Common.{filter, map, ap, sym, ◌∙◌}
use Rattle.sg_facts.specs.Needs.{is_wanted}
use Rattle.sg_name.specs.Names.{named_at}
use Rattle.sg_replay.specs.Missing.{first_hole, is_whole}
use Rattle.sg_replay.proofs.AllWhole.{find_fewer}
use Rattle.sg_replay.proofs.engine.Engine.hole_for.Goals as goal

pub returns-in_default-clause-hole : goal.returns-in_default-clause-hole
returns-in_default-clause-hole g c = λ o same.
    let e = c.args.self.now in
    sym (ap (λ rows. first_hole e.names.known (map (λ r. r.id) (filter (is_wanted e.tables.iface rows c.args.call.now) rows))) same
    ∙ find_fewer (λ id. is_whole (named_at e.names.known id)) (is_wanted e.tables.iface e.tracked.rows c.args.call.now) e.tracked.rows (sym c.first_hole.ensures.hole ∙ c.in_default.is))
