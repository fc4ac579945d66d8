-- A reply in brief is an outcome in brief.
use Rattle.std.proofs.lemmas.Option.{IfSome_then}
use Rattle.sg_facts.proofs.BriefItems.{reply_in_brief}
use Rattle.sg_facts.proofs.items.given_reply.Goals as goal

pub returns : goal.returns
returns c = IfSome_then c.gave_of.result c.gave_of.ensures.gave (λ gave is. reply_in_brief gave c.args.reply.now is)
