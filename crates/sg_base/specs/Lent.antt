-- What a lent call, reply or record stands for.
pub use Rattle.sg_base.specs.Args.{args_in}
use Rattle.sg_base.specs.declared.call.Call.{Call}
use Rattle.sg_base.specs.declared.reply.Good.{Good}
use Rattle.sg_base.specs.declared.reply.Reply.{Reply}
use Rattle.sg_base.specs.declared.reply.Reply.TheVariants.{Ok, Refused}
use Rattle.sg_base.specs.declared.lent.Lent.{Lent}
use Rattle.sg_base.specs.declared.lent.Lent.TheVariants.{Brief as BriefLent, Whole as WholeLent}
use Rattle.sg_base.specs.declared.lent.LentCall.{LentCall}
use Rattle.sg_base.specs.declared.lent.LentGood.{LentGood}
use Rattle.sg_base.specs.declared.lent.LentReply.{LentReply}
use Rattle.sg_base.specs.declared.lent.LentReply.TheVariants.{Ok as OkLent, Refused as RefusedLent}
use Rattle.sg_base.specs.Records.{Record, InBrief, Whole}

-- the call
abbrev pub call_in : LentCall → Call
call_in call = record { client = call.client; seq = call.seq; fun = call.fun; desc = call.desc; args = args_in call.args }

-- what a call that was done gives
abbrev pub good_in : LentGood → Good
good_in good = record { desc = good.desc; words = good.words.now; bytes = good.bytes.now }

-- the reply
abbrev pub reply_in : LentReply → Reply
reply_in (OkLent good) = Ok (good_in good)
reply_in (RefusedLent code) = Refused code

-- the record
abbrev pub record_in : {W : Type 0} → Lent W → Record W
record_in (BriefLent lent) = InBrief lent.brief lent.args.now lent.words.now
record_in (WholeLent whole) = Whole whole.now
