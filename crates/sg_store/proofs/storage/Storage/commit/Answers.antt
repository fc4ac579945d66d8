-- The receipt stands in the client's place.
use Rattle.std.proofs.Common.{◌≤◌, cond, Some, sym, ◌∙◌, ap, subst}
use Rattle.std.specs.Prelude.{◌==◌}
use Rattle.sg_store.specs.Stored.{receipt_at, receipt_in}
use Rattle.sg_store.proofs.Received.{receipt_put}
use Rattle.sg_store.proofs.storage.Storage.commit.Goals as goal

pub returns-clause-receipts : goal.returns-clause-receipts
returns-clause-receipts c = λ client.
    ap (λ l. receipt_in l client) c.put_receipt.ensures
    ∙ receipt_put c.self.inside.receipts.items c.args.call.now.client (record { seq = c.args.call.now.seq; reply = c.args.reply }) client c.requires.first (subst (λ s. c.args.call.now.client ≤ s.clients) (sym c.self.view_is) c.requires.last)
    ∙ ap (λ s. cond (client == c.args.call.now.client) (Some (record { seq = c.args.call.now.seq; reply = c.args.reply })) (receipt_at s client)) c.self.view_is
