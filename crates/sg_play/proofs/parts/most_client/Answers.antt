-- The greatest number is the last.
use Rattle.sg_play.proofs.Finding.{last_is_most}
use Rattle.sg_play.proofs.parts.most_client.Goals as goal

pub returns-in-len1-up : goal.returns-in-len1-up
returns-in-len1-up g c = last_is_most c.args.clients.now c.index-clients-clients.result c.in-len1-up.len_at_least
