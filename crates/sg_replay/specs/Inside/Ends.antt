-- Which rows an answered call ends, and their names.
use Rattle.std.specs.Prelude.{ℕ, ◌≡◌, ◌<◌, ◌==◌, Bool, true, false, ◌&&◌, ◌||◌, not, List}
use Rattle.sg_facts.specs.sg_base.declared.call.Call.{Call}
use Rattle.sg_facts.specs.sg_base.declared.reply.Reply.{Reply}
use Rattle.sg_facts.specs.sg_base.declared.reply.Reply.TheVariants.{Ok, Refused}
use Rattle.sg_facts.specs.declared.row.Row.{Row}
use Rattle.sg_facts.specs.Facts.{Facts, Fun, fun_at}
use Rattle.sg_facts.specs.Track.{is_ancestor, is_live}
use Rattle.sg_name.specs.Names.{named_at}
use Rattle.sg_name.specs.declared.named.Named.{Named}
use Rattle.sg_name.specs.declared.named.Named.TheVariants.{Unnamed}
use Rattle.sg_name.specs.declared.named.Standing.{Standing}
use Rattle.sg_needs.specs.sg_track.Kept.{ends_below}

-- whether a function ends rows: a terminal one that is neither a query nor a creation
abbrev pub ends : Fun → Bool
ends f = f.terminal && not f.query && not f.creation

-- whether an answered call ends rows: an Ok of such a function
abbrev pub ends_rows : Facts → Call → Reply → Bool
ends_rows facts call (Ok good) = ends (fun_at facts.funs call.fun)
ends_rows facts call (Refused code) = false

-- whether an id is live and ends with another: it is that one, or under subtree below it
abbrev pub is_ended : Bool → List Row → ℕ → ℕ → Bool
is_ended subtree rows gone id = is_live rows id && ((id == gone) || (subtree && is_ancestor rows gone id))

-- whether something stands for an id
abbrev pub is_named : Named → Bool
is_named Unnamed = false
is_named _ = true

-- of the ids between two, those that end with the lower one have no name
abbrev pub AreUnnamed : List Row → List (ℕ × Standing) → ℕ → ℕ → Type 0
AreUnnamed rows known gone id = (x : ℕ) → gone < x → x < id → ends_below rows gone x ≡ true → named_at known x ≡ Unnamed
