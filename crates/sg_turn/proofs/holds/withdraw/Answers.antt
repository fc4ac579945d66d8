use Rattle.std.proofs.Common.{◌≡◌, ◌++◌, [], ◌∷◌, length, ap, ◌∙◌}
use Rattle.sg_turn.specs.declared.log.LogMarkKind.TheVariants.{Withdraw}
use Rattle.sg_turn.specs.Logs.{AllBy}
use Rattle.sg_turn.specs.Told.{asking, mark_by, entries_in, standing_in}
use Rattle.sg_turn.proofs.holds.withdraw.Goals as goal

pub give-requires-clause-log : goal.give-requires-clause-log
give-requires-clause-log g c =
    let seat = c.args.seat.now in
    let call = c.requires.asks.0 in
    let log = ap (λ f. f.log) c.requires.value in
    let stood : standing_in c.args.client (g.H.Kept.log c.args.held.value) ≡ asking call = ap (standing_in c.args.client) log ∙ ap (λ n. standing_in n seat.face.log) c.requires.client ∙ c.requires.asks.1 in
    let more = mark_by c.args.client (Withdraw call (g.H.Host.phases c.args.held.value) (length (entries_in (g.H.Kept.log c.args.held.value)))) ∷ [] in
    let by : AllBy seat.number more = (c.requires.client, tt) in record {
      more = more;
      log = c.withdraw.ensures.log call stood ∙ ap (λ l. l ++ more) log;
      own = by;
    }
