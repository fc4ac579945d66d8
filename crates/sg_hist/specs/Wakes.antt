-- Which items of a run are of calls that had to wait, and which wake who waits.
use Rattle.std.specs.Prelude.{ℕ, ◌==◌, Bool, true, false, ◌&&◌, ◌||◌, not, List}
use Rattle.std.specs.List.{list_any}
use Rattle.sg_facts.specs.sg_base.declared.call.Call.{Call}
use Rattle.sg_facts.specs.sg_base.declared.reply.Reply.{Reply}
use Rattle.sg_facts.specs.sg_base.declared.reply.Reply.TheVariants.{Ok, Refused}
use Rattle.sg_facts.specs.declared.entry.Entry.{Entry}
use Rattle.sg_facts.specs.declared.outcome.Outcome.{Outcome}
use Rattle.sg_facts.specs.declared.outcome.Outcome.TheVariants.{Blocks}
use Rattle.sg_facts.specs.declared.row.Row.{Row}
use Rattle.sg_facts.specs.Facts.{Facts, fun_at}
use Rattle.sg_facts.specs.Track.{ends_with}
use Rattle.sg_hist.specs.Reading.{Position, items_after, is_by_guard, is_item_of, object_before}

-- whether an answered call wakes who waits on a descriptor: an Ok of a wake-up on it, or of a call that ends it
abbrev pub wakes : Facts → List Row → Call → Reply → ℕ → Bool
wakes facts rows call (Refused code) id = false
wakes facts rows call (Ok good) id =
    ((fun_at facts.funs call.fun).wakeup && (call.desc == id)) || ((fun_at facts.funs call.fun).terminal && ends_with facts rows call.desc id)

-- whether a call had to wait
abbrev pub has_blocked : Outcome → Bool
has_blocked outcome = elim outcome [ Blocks ↦ true | _ ↦ false ]

-- whether a place's item is that of an entry which wakes who waits on a descriptor
abbrev pub wakes_at : Facts → List Entry → ℕ → Position → Bool
wakes_at facts history id p =
    list_any (λ e. not (is_by_guard e.reply) && is_item_of e p.item && not (list_any (is_item_of e) (items_after p))
    && wakes facts (object_before facts history p).rows e.call e.reply id) history
