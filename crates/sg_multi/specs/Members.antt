-- What contracts see of the worlds of several services.
use Rattle.std.specs.Prelude.{ℕ, ◌≡◌, List, Some, replicate, slice_get, slice_set}
use Rattle.sg_facts.specs.Object.{Object}
use Rattle.sg_facts.specs.Tables.{Compiled}
use Rattle.sg_interpret.specs.declared.describes.Describes.{Ghosts}
use Rattle.sg_interpret.specs.sg_described.Described.{Described}
use Rattle.sg_interpret.specs.sg_described.DescribedSound.{IsDescribedSound}
use Rattle.sg_interpret.specs.sg_described.Safe.{made_safe}
use Rattle.sg_load.specs.Services.sg_event.EventSound.{IsEventSound}
use Rattle.sg_load.specs.Services.sg_lock.LockSound.{IsLockSound}
use Rattle.sg_load.specs.Services.sg_mm.MmSound.{IsMmSound}
use Rattle.sg_load.specs.Services.sg_ramfs.RamfsSound.{IsRamfsSound}
use Rattle.sg_load.specs.Services.sg_sched.SchedSound.{IsSchedSound}
use Rattle.sg_load.specs.Services.sg_timer.TimerSound.{IsTimerSound}
use Rattle.sg_load.specs.declared.kind.ServiceKind.TheVariants.{Locks as locks, Events as events, Pages as pages, Files as files, Threads as threads, Timers as timers}
use Rattle.sg_multi.specs.Serving.{Serving, answering_of, built_in, described}
use Rattle.sg_multi.specs.declared.member.AnyWorld.TheVariants.{Locks, Events, Pages, Files, Threads, Timers, First, Second, Third, Fourth, Fifth, Sixth}
use Rattle.sg_multi.specs.declared.member.AnyWorld.{AnyWorld}
use Rattle.sg_sim.specs.sg_clients.WorldView.{WorldView, new_world, no_seat}
use Rattle.sg_sim.specs.sg_world.Worlded.{Worlded, setting_of}
use Rattle.sg_sim.specs.sg_world_laws.Setting.{Setting}

-- ---- one member

-- a member's service, and its world as plain data
pub record Membered : Type 0 where
  pub service : Serving
  pub world : Worlded

-- what is kept true of a service's object
abbrev pub sound_by : Serving → Object → Type 0
sound_by (built_in locks) = IsLockSound
sound_by (built_in events) = IsEventSound
sound_by (built_in pages) = IsMmSound
sound_by (built_in files) = IsRamfsSound
sound_by (built_in threads) = IsSchedSound
sound_by (built_in timers) = IsTimerSound
sound_by (described d) = IsDescribedSound d

-- what doesn't change in the world of a service with these tables
abbrev pub setting_by : Serving → Compiled → Setting
setting_by service tables = setting_of (answering_of service).ask (sound_by service) (answering_of service).parts tables

-- what doesn't change in its world
abbrev pub setting_in : Membered → Setting
setting_in m = setting_by m.service m.world.tables

-- what was done in its world
abbrev pub view_in : Membered → WorldView
view_in m = m.world.view

-- ---- the world of a member

-- that of a service of one's own, by the description that was picked for its place
abbrev pub placed : Described → Worlded → Membered
placed d world = record { service = described (made_safe d); world = world }

-- a member as contracts see it: its service, and its world as plain data
abbrev pub membered : {N : Type 0} {g : Ghosts N} → AnyWorld N g → Membered
membered (Locks w) = record { service = built_in locks; world = w }
membered (Events w) = record { service = built_in events; world = w }
membered (Pages w) = record { service = built_in pages; world = w }
membered (Files w) = record { service = built_in files; world = w }
membered (Threads w) = record { service = built_in threads; world = w }
membered (Timers w) = record { service = built_in timers; world = w }
membered {g = g} (First w) = placed (g.descriptions 0) w.world
membered {g = g} (Second w) = placed (g.descriptions 1) w.world
membered {g = g} (Third w) = placed (g.descriptions 2) w.world
membered {g = g} (Fourth w) = placed (g.descriptions 3) w.world
membered {g = g} (Fifth w) = placed (g.descriptions 4) w.world
membered {g = g} (Sixth w) = placed (g.descriptions 5) w.world

-- ---- a member among others

-- a member is of a service, with these tables and this plan of its stops, and nothing was done in its world
pub record IsNewMember (service : Serving) (tables : Compiled) (plan : List ℕ) (clients : ℕ) (m : Membered) : Type 0 where
  pub service_is : m.service ≡ service
  pub tables_are : m.world.tables ≡ tables
  pub plan_is : m.world.plan ≡ plan
  pub nothing_done : view_in m ≡ new_world (replicate clients no_seat)

-- the world of the member at a place, from 0, comes from one view to another; its service, its tables and its plan stay, and so do all
-- other members
pub record ChangesAt (members : List Membered) (place : ℕ) (old : Membered) (now : WorldView) (later : List Membered) : Type 0 where
  pub new : Membered
  pub are : later ≡ slice_set members place new
  pub there : slice_get members place ≡ Some old
  pub view_is : view_in new ≡ now
  pub service : new.service ≡ old.service
  pub tables : new.world.tables ≡ old.world.tables
  pub plan : new.world.plan ≡ old.world.plan
