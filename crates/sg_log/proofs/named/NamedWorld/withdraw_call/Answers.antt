-- A withdrawal adds its mark.
use Rattle.std.proofs.Common.{◌≤◌, sym, ap, ◌∙◌, subst}
use Rattle.sg_log.specs.Log.{log_of}
use Rattle.sg_log.proofs.Worlds.{withdraws}
use Rattle.sg_log.proofs.named.NamedWorld.withdraw_call.Goals as goal

pub returns-clause-withdraws : goal.returns-clause-withdraws
returns-clause-withdraws g c = λ call stood.
    let n = c.args.self.now in
    let last = subst (λ k. c.args.client ≤ k) (sym (n.seats ∙ n.count)) c.requires.last in
    ap (λ y. log_of y.view) c.withdraw.ensures ∙ withdraws n.world.view c.args.client c.requires.first last c.marks-told.ensures.told c.requires.may call stood
