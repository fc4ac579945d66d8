-- What the service's outcome makes of the engine.
use Rattle.sg_replay.proofs.Serving.{kept_nothing, kept_reply, kept_stop, kept_wait, reply_may_be_told, told_nothing, told_reply, told_stop, told_wait}
use Rattle.sg_replay.proofs.AllWhole.{still_whole}
use Rattle.sg_replay.specs.Serving.{is_named_by, real_in}
use Rattle.sg_replay.proofs.engine.Engine.serve.Goals as goal

pub tell-reply-requires : goal.tell-reply-requires
tell-reply-requires g c =
    reply_may_be_told c.self.view_is c.args.call.now c.in-Ok.ensures c.self.invariant.is c.requires c.in-Replied.ensures.outcome c.makes-is_new.ensures

pub invariant_of-self : goal.invariant_of-self
invariant_of-self g c = record {
  is = kept_reply c.self.view_is c.args.call.now c.in-Ok.ensures c.self.invariant.is c.requires c.in-Replied.ensures.outcome c.makes-is_new.ensures
      c.tell-reply.new.names c.next_id-next.ensures c.tell-reply.ensures.names;
  few = c.self.invariant.few;
  whole = λ id less live. still_whole _ _ (is_named_by c.makes-is_new.result c.next_id-next.result c.in-Replied.reply id) (real_in c.in-Replied.reply) (c.tell-reply.ensures.names id) (c.self.invariant.whole id less live);
}

pub returns-in-Replied-clause-outcome : goal.returns-in-Replied-clause-outcome
returns-in-Replied-clause-outcome g c =
    told_reply c.self.view_is c.args.call.now c.in-Ok.ensures c.self.invariant.is c.requires c.in-Replied.ensures.outcome c.makes-is_new.ensures
    c.tell-reply.new.names c.next_id-next.ensures c.tell-reply.ensures.names c.tell-reply.result c.tell-reply.ensures.tells

pub invariant_of-self-in-Blocks : goal.invariant_of-self-in-Blocks
invariant_of-self-in-Blocks g c = record { is = kept_wait c.self.view_is c.args.call.now c.in-Ok.ensures c.self.invariant.is c.requires c.in-Blocks.ensures.outcome; few = c.self.invariant.few; whole = c.self.invariant.whole }

pub returns-in-Blocks-clause-outcome : goal.returns-in-Blocks-clause-outcome
returns-in-Blocks-clause-outcome g c = told_wait c.self.view_is c.args.call.now c.in-Ok.ensures c.in-Blocks.ensures.outcome

pub invariant_of-self-in-Stopped : goal.invariant_of-self-in-Stopped
invariant_of-self-in-Stopped g c = record { is = kept_stop c.self.view_is c.args.call.now c.in-Ok.ensures c.self.invariant.is c.requires c.in-Stopped.ensures.outcome; few = c.self.invariant.few; whole = c.self.invariant.whole }

pub returns-in-Stopped-clause-outcome : goal.returns-in-Stopped-clause-outcome
returns-in-Stopped-clause-outcome g c = told_stop c.self.view_is c.args.call.now c.in-Ok.ensures c.in-Stopped.ensures.outcome

pub invariant_of-self-in-NoMemory : goal.invariant_of-self-in-NoMemory
invariant_of-self-in-NoMemory g c = record { is = kept_nothing c.self.view_is c.args.call.now c.in-Ok.ensures c.self.invariant.is c.requires c.in-NoMemory.ensures.outcome; few = c.self.invariant.few; whole = c.self.invariant.whole }

pub returns-in-NoMemory-clause-outcome : goal.returns-in-NoMemory-clause-outcome
returns-in-NoMemory-clause-outcome g c = told_nothing c.self.view_is c.args.call.now c.in-Ok.ensures c.in-NoMemory.ensures.outcome
