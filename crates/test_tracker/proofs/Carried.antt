-- What may be tracked, under equal facts, calls and replies.
use Rattle.std.proofs.Common.{◌≡◌, sym, subst}
use Rattle.test_tables.specs.sg_facts.sg_base.declared.call.Call.{Call}
use Rattle.test_tables.specs.sg_facts.sg_base.declared.reply.Reply.{Reply}
use Rattle.test_tables.specs.sg_facts.Facts.{Facts}
use Rattle.sg_track.specs.Tracked.{MayTrack, Tracked}

pub carried : {facts other : Facts} {call other_call : Call} {reply other_reply : Reply} (t : Tracked) → facts ≡ other → call ≡ other_call → reply ≡ other_reply → MayTrack other t other_call other_reply
    → MayTrack facts t call reply
carried {facts} {other} {call} {other_call} {reply} {other_reply} t one two three may =
    subst (λ f. MayTrack f t call reply) (sym one) (subst (λ c. MayTrack other t c reply) (sym two) (subst (λ r. MayTrack other t other_call r) (sym three) may))
