-- What a step of a client does to a world: one relation by what it answers.
use Rattle.std.specs.Prelude.{ℕ, ◌≡◌, ◌≢◌, ◌⊎◌, ◌+◌, true, false, List, [], ◌∷◌, ◌++◌, None, Some, IsSome, min}
use Rattle.sg_facts.specs.sg_base.Counts.{last_count}
use Rattle.sg_facts.specs.sg_base.Stops.{asked_after}
use Rattle.sg_facts.specs.sg_base.declared.call.Call.{Call}
use Rattle.sg_facts.specs.sg_base.declared.reply.Code.{Code}
use Rattle.sg_facts.specs.sg_base.declared.reply.Reply.{Reply}
use Rattle.sg_facts.specs.sg_base.declared.reply.Reply.TheVariants.{Refused}
use Rattle.sg_facts.specs.declared.entry.Entry.{Entry}
use Rattle.sg_facts.specs.declared.outcome.Outcome.TheVariants.{Blocks, Stopped}
use Rattle.sg_facts.specs.declared.trace.Item.{Item}
use Rattle.sg_facts.specs.declared.trace.Tag.TheVariants.{Client, Load, Walk}
use Rattle.sg_facts.specs.Facts.{is_visible}
use Rattle.sg_facts.specs.Guard.{guard}
use Rattle.sg_facts.specs.Legal.{answer}
use Rattle.sg_facts.specs.Object.{Object, object_of}
use Rattle.sg_replay.specs.sg_hist.Clients.{calls_of}
use Rattle.sg_replay.specs.sg_hist.Reading.{last_items}
use Rattle.sg_replay.specs.sg_hist.Inside.Reads.{after_item}
use Rattle.sg_replay.specs.sg_hist.Recovered.{is_replied}
use Rattle.sg_replay.specs.sg_hist.Inside.Parts.{IsPointOf, answer_to, is_stopped}
use Rattle.sg_replay.specs.sg_hist.Growing.{IsNextItem, place_after}
use Rattle.sg_replay.specs.declared.todo.Todo.TheVariants.{Load as ToLoad, Walk as ToWalk}
use Rattle.sg_clients.specs.WorldView.{Seat, WorldView, answered_to, boot_number, committed, given_to, happened, in_phase, item_noted, rebooted, reply_handed_over, seat_of, service_is, struck_at, unanswered, with_points, with_seat}
use Rattle.sg_clients.specs.declared.phase.Phase.TheVariants.{Asked, Blocked, Held, Idle, Left, Receipted}
use Rattle.sg_world.specs.declared.did.Did.{Did}
use Rattle.sg_world.specs.declared.did.Did.TheVariants.{Answered, Blocked as Waits, Booted, Loaded, Lost, Replayed, Served, Skipped, Struck}
use Rattle.sg_world.specs.Due.{due}
use Rattle.sg_world_laws.specs.Seats.{last_of}
use Rattle.sg_world_laws.specs.Setting.{Setting, stubs_of}

module _ (z : Setting) (w : WorldView) (c : ℕ) where
  abbrev pub seat_now : Seat
  seat_now = seat_of w c

  abbrev pub object_now : Object
  object_now = object_of z.iface.facts w.history

  -- the entry of the client's call with a reply
  abbrev pub entry_with : Reply → Entry
  entry_with reply = record { call = seat_now.call; reply = reply }

  -- ---- what stands before a line

  -- the guard lets the client's call pass
  pub record PassesGuard : Type 0 where
    pub phase : seat_now.phase ≡ Asked
    pub passes : guard z.iface object_now seat_now.call ≡ None

  -- the guard lets the client's call pass, and the service is up
  pub record UsesService (service : Object) : Type 0 where
    pub let_in : PassesGuard
    pub running : w.running ≡ Some service

  -- the client's call may use the service, and no replay or load is due before it
  pub record ReachesService (service : Object) : Type 0 where
    pub uses : UsesService service
    pub nothing_due : due z w seat_now.call ≡ None

  -- the client's call reaches the service and is asked: an item is of the call
  pub record AsksService : Type 0 where
    pub service : Object
    pub reaches : ReachesService service
    pub item : Item
    pub tag : item.tag ≡ Client c seat_now.call.seq
    pub shown : item.shown ≡ seat_now.call

  -- an item is what may be noted next, where the history and the calls that aren't answered come to these; and its number of points is
  -- that of its call
  pub record IsNotedBy (item : Item) (history : List Entry) (left : List Call) : Type 0 where
    pub next : IsNextItem (stubs_of z) history left (place_after [] w.run.boots item)
    pub points : IsPointOf true z.parts w.run.points (answer_to z.iface.facts z.ask (last_items w.run.boots) item) item.tag item.shown.fun item.outcome item.points

  -- ---- the lines

  -- the client has no call under way, or waits: nothing changes
  pub record Skips (later : WorldView) : Type 0 where
    pub phase : (seat_now.phase ≡ Idle) ⊎ (seat_now.phase ≡ Blocked) ⊎ (seat_now.phase ≡ Left)
    pub now : later ≡ w

  -- the reply that it has a receipt for is handed over
  pub record HandsOver (reply : Reply) (later : WorldView) : Type 0 where
    pub phase : seat_now.phase ≡ Receipted
    pub its : reply ≡ seat_now.reply
    pub now : later ≡ reply_handed_over w c

  -- the reply that it holds was given in the running boot: its call is committed, and the reply handed over
  pub record Returns (reply : Reply) (later : WorldView) : Type 0 where
    pub phase : seat_now.phase ≡ Held
    pub up : IsSome w.running
    pub boot : seat_now.boot ≡ boot_number w
    pub its : reply ≡ seat_now.reply
    pub now : later ≡ answered_to (committed z.iface.facts w (entry_with reply)) (entry_with reply)

  -- the service failed since it gave the held reply: the call is asked again
  pub record Loses (later : WorldView) : Type 0 where
    pub phase : seat_now.phase ≡ Held
    pub gone : (w.running ≡ None) ⊎ (seat_now.boot ≢ boot_number w)
    pub now : later ≡ in_phase w c Asked

  -- the guard refuses the call, which is committed
  pub record Refuses (reply : Reply) (later : WorldView) : Type 0 where
    pub phase : seat_now.phase ≡ Asked
    pub code : Code
    pub guarded : guard z.iface object_now seat_now.call ≡ Some code
    pub its : reply ≡ Refused code
    pub now : later ≡ answered_to (committed z.iface.facts w (entry_with reply)) (entry_with reply)

  -- a service that failed is booted afresh
  pub record Boots (later : WorldView) : Type 0 where
    pub let_in : PassesGuard
    pub failed : w.running ≡ None
    pub now : later ≡ rebooted w

  -- the service stops as it is about to be used
  pub record StopsIdle (later : WorldView) : Type 0 where
    pub service : Object
    pub uses : UsesService service
    pub now : later ≡ struck_at w (asked_after w.run.points 1)

  -- the next call of a walk is replayed
  pub record Replays (later : WorldView) : Type 0 where
    pub service : Object
    pub uses : UsesService service
    pub id : ℕ
    pub k : ℕ
    pub is_due : due z w seat_now.call ≡ Some (ToWalk id k)
    pub item : Item
    pub tag : item.tag ≡ Walk id k c
    pub outcome : is_stopped item.outcome ≡ false
    pub noted : IsNotedBy item w.history (unanswered w)
    pub now : later ≡ service_is (item_noted w item) (after_item z.iface.facts service item)

  -- the service stops within it
  pub record StopsReplay (later : WorldView) : Type 0 where
    pub service : Object
    pub uses : UsesService service
    pub id : ℕ
    pub k : ℕ
    pub is_due : due z w seat_now.call ≡ Some (ToWalk id k)
    pub item : Item
    pub tag : item.tag ≡ Walk id k c
    pub outcome : item.outcome ≡ Stopped
    pub noted : IsNotedBy item w.history (unanswered w)
    pub now : later ≡ struck_at (item_noted w item) item.points

  -- the needed file is loaded
  pub record Loads (later : WorldView) : Type 0 where
    pub service : Object
    pub uses : UsesService service
    pub is_due : due z w seat_now.call ≡ Some ToLoad
    pub item : Item
    pub key : List ℕ
    pub tag : item.tag ≡ Load key c
    pub outcome : is_stopped item.outcome ≡ false
    pub noted : IsNotedBy item w.history (unanswered w)
    pub now : later ≡ service_is (item_noted w item) (after_item z.iface.facts service item)

  -- the call has to wait
  pub record WaitsNow (later : WorldView) : Type 0 where
    pub asks : AsksService
    pub none : answer z.iface z.ask object_now seat_now.call ≡ None
    pub outcome : asks.item.outcome ≡ Blocks
    pub noted : IsNotedBy asks.item w.history (unanswered w)
    pub now : later ≡ in_phase (item_noted w asks.item) c Blocked

  -- the service stops within the call
  pub record StopsCall (later : WorldView) : Type 0 where
    pub asks : AsksService
    pub outcome : asks.item.outcome ≡ Stopped
    pub noted : IsNotedBy asks.item w.history (unanswered w)
    pub now : later ≡ struck_at (item_noted w asks.item) asks.item.points

  -- a visible call is answered and committed, and its client has its receipt
  pub record Commits (later : WorldView) : Type 0 where
    pub asks : AsksService
    pub visible : is_visible z.iface.facts seat_now.call.fun ≡ true
    pub reply : Reply
    pub answers : answer z.iface z.ask object_now seat_now.call ≡ Some reply
    pub outcome : is_replied asks.item.outcome ≡ true
    pub noted : IsNotedBy asks.item (w.history ++ entry_with reply ∷ []) (unanswered later)
    pub now : later ≡ given_to (committed z.iface.facts (service_is (item_noted w asks.item) (after_item z.iface.facts asks.service asks.item)) (entry_with reply)) (entry_with reply)

  -- after the commit the service goes on, or stops
  pub record GoesOnAfter (later : WorldView) : Type 0 where
    pub between : WorldView
    pub commits : Commits between
    pub now : later ≡ with_points between (asked_after between.run.points 1)

  pub record StopsAfter (later : WorldView) : Type 0 where
    pub between : WorldView
    pub commits : Commits between
    pub now : later ≡ struck_at between (asked_after between.run.points 1)

  -- a call that isn't visible is answered, and its client holds the reply
  pub record Holds (later : WorldView) : Type 0 where
    pub asks : AsksService
    pub hidden : is_visible z.iface.facts seat_now.call.fun ≡ false
    pub reply : Reply
    pub answers : answer z.iface z.ask object_now seat_now.call ≡ Some reply
    pub outcome : is_replied asks.item.outcome ≡ true
    pub noted : IsNotedBy asks.item w.history (unanswered later)
    pub now : later ≡ with_seat (service_is (item_noted w asks.item) (after_item z.iface.facts asks.service asks.item)) c (record seat_now { phase = Held; boot = boot_number w; reply = reply })

  -- what a step does, by what it answers
  abbrev pub Steps : Did → WorldView → Type 0
  Steps Skipped later = Skips later
  Steps (Answered reply) later = HandsOver reply later ⊎ Returns reply later ⊎ Refuses reply later
  Steps Lost later = Loses later
  Steps Booted later = Boots later
  Steps Struck later = StopsIdle later ⊎ StopsReplay later ⊎ StopsCall later ⊎ StopsAfter later
  Steps Replayed later = Replays later
  Steps Loaded later = Loads later
  Steps Waits later = WaitsNow later
  Steps Served later = GoesOnAfter later ⊎ Holds later

  -- a step was made, and counted as an event
  pub record HasStepped (did : Did) (now : WorldView) : Type 0 where
    pub later : WorldView
    pub steps : Steps did later
    pub counted : now ≡ happened later

  -- it got no memory: its call was let in, and nothing changed but the number of events, that of refused steps and that of points, of
  -- which one more was asked where the step was about to use the service
  pub record LackedMemory (now : WorldView) : Type 0 where
    pub let_in : PassesGuard
    pub points : ℕ
    pub asked : (points ≡ w.run.points) ⊎ (points ≡ asked_after w.run.points 1)
    pub counted : now ≡ happened (record (with_points w points) { refused = min (w.refused + 1) last_count })

-- a reply that is handed over is that of its client's last entry
abbrev pub AnswersLast : WorldView → ℕ → Did → Type 0
AnswersLast w client (Answered reply) = (call : Call) × (last_of (calls_of w.history client) ≡ Some (record { call = call; reply = reply }))
AnswersLast w client _ = Unit {0}
