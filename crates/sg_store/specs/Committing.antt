-- When an answered call may be committed.
use Rattle.std.specs.Prelude.{ℕ, ◌≡◌, ◌+◌, ◌≤◌, true, false, IfSome}
use Rattle.std.specs.declared.option.Option.{Option}
use Rattle.sg_facts.specs.sg_base.declared.call.Call.{Call}
use Rattle.sg_facts.specs.sg_base.declared.reply.Reply.{Reply}
use Rattle.sg_facts.specs.sg_base.declared.reply.Reply.TheVariants.{Ok, Refused}
use Rattle.sg_facts.specs.declared.outcome.Patch.{Patch}
use Rattle.sg_facts.specs.Facts.{Facts, fun_at}
use Rattle.sg_store.specs.Spans.{FitsPatch}
use Rattle.sg_store.specs.Stored.{Stored, files_in, tracked_in}
use Rattle.sg_track.specs.Tracked.{MayTrack, Tracked}

-- an Ok of a creation names the next id
abbrev pub NamesNext : Facts → ℕ → Call → Reply → Type 0
NamesNext facts given call (Ok good) = (fun_at facts.funs call.fun).creation ≡ true → good.desc ≡ given + 1
NamesNext facts given call (Refused code) = Unit {0}

-- rows and ids may follow an answered call: a global service tracks its rows, a private one gives ids alone
pub record MayFollow (facts : Facts) (t : Tracked) (call : Call) (reply : Reply) : Type 0 where
  pub tracks : facts.global ≡ true → MayTrack facts t call reply
  pub names : facts.global ≡ false → NamesNext facts t.given call reply

-- an answered call of one of the clients may be committed, with the patch that it wrote where it wrote one
pub record MayCommit (facts : Facts) (old : Stored) (call : Call) (reply : Reply) (patch : Option Patch) : Type 0 where
  pub first : 1 ≤ call.client
  pub last : call.client ≤ old.clients
  pub follows : MayFollow facts (tracked_in old) call reply
  pub fits : IfSome patch (FitsPatch (files_in old))
