-- What a lent entry stands for, and which entries can be added by loan.
use Rattle.sg_facts.specs.declared.entry.Entry.{Entry}
use Rattle.sg_facts.specs.sg_base.declared.call.Call.{Call}
use Rattle.sg_facts.specs.sg_base.declared.reply.Reply.{Reply}
use Rattle.sg_facts.specs.sg_base.Lent.{call_in, reply_in}
use Rattle.sg_facts.specs.sg_base.Records.{FitsBrief, IsBriefCall}
use Rattle.sg_hist.specs.declared.lent.LentEntry.{LentEntry}

-- the entry
abbrev pub entry_in : LentEntry → Entry
entry_in entry = record { call = call_in entry.call; reply = reply_in entry.reply }

-- a call and its reply can be kept in brief, as an entry
abbrev pub IsBriefly : Call → Reply → Type 0
IsBriefly call reply = IsBriefCall call × FitsBrief reply
