-- One client more was given what its entries gave.
use Rattle.std.proofs.Common.{[], ◌∷◌, List, ℕ, length, take, ap, sym, ◌∙◌, subst, arith, length-append}
use Rattle.sg_facts.specs.sg_base.Room.{Roomy}
use Rattle.sg_play.specs.sg_hist.Clients.{calls_of}
use Rattle.sg_play.specs.sg_plain.Playing.Callers.{handed}
use Rattle.sg_play.specs.sg_plain.Playing.Given.{GaveIds, given_in}
use Rattle.sg_play.specs.sg_clients.WorldView.{seat_of}
use Rattle.sg_sim.proofs.Lists.{length_lists}
use Rattle.sg_sim.proofs.Rebuilding.{lists_push}
use Rattle.sg_sim.specs.Inside.Givens.{lists_of}
use Rattle.sg_sim.proofs.given.Given.told_by.Goals as goal

pub clients-preserved : goal.clients-preserved
clients-preserved g c =
    let w = c.args.world.now.view in
    let old = c.clients.lists.items in
    let new = c.in_ok-handed_ids.field-0 in
    let pushed = c.in_ok-push.ensures.items in
    let was = c.clients.invariant in
    let count = was.clients in
    record {
      clients = omega (arith, count, ap (λ (l : List (Roomy ℕ)). length l) pushed, length-append old (new ∷ []));
      each = λ client first last.
          subst (λ (l : List (Roomy ℕ)). GaveIds (take (handed (seat_of w client)) (calls_of w.history client)) (given_in (lists_of l) client)) (sym pushed)
          (lists_push (λ n ids. GaveIds (take (handed (seat_of w n)) (calls_of w.history n)) ids) old new c.clients.before (length_lists old ∙ count) was.each c.in_ok-handed_ids.ensures client first last);
    }
