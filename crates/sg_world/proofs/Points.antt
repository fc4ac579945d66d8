-- A world keeps what it keeps where only the number of its points changes, and where its service stops at a point.
use Rattle.std.proofs.Common.{IsSome, List, None, Option, Some, [], ap, append_assoc, flat_map, refl, subst, sym, ℕ, ◌++◌, ◌∙◌, ◌∷◌, ◌≡◌, ◌≢◌}
use Rattle.sg_replay.specs.sg_boot.Cells.{IsRunning}
use Rattle.sg_replay.specs.sg_boot.Invoking.{with_stop}
use Rattle.sg_world.specs.Engines.Engines.{as_shown}
use Rattle.sg_world.specs.Engines.Stubs.{stub_of}
use Rattle.sg_facts.specs.Facts.{Facts}
use Rattle.sg_facts.specs.Object.{Object}
use Rattle.sg_facts.specs.Trace.{Boot}
use Rattle.sg_facts.specs.declared.entry.Entry.{Entry}
use Rattle.sg_facts.specs.declared.trace.Item.{Item}
use Rattle.sg_replay.specs.sg_hist.Inside.Parts.{stop_in}
use Rattle.sg_replay.specs.sg_hist.Growing.{booted, last_stop, noted, struck}
use Rattle.sg_replay.specs.Engined.{Engined}
use Rattle.sg_clients.specs.WorldView.{WorldView, with_points}
use Rattle.sg_replay.specs.sg_store.Stored.{bytes_of}
use Rattle.sg_world.specs.Worlded.{IsWorld, Rooms, StoresObject}
use Rattle.sg_world_laws.proofs.Points.{with_points_keeps}
use Rattle.sg_world_laws.proofs.Struck.{stopped_between}
use Rattle.sg_world_laws.specs.Keeping.{KeepsPromise}
use Rattle.sg_world_laws.specs.Setting.{Setting}

-- ---- the points at which the service stopped

abbrev stops_of : List Boot → List ℕ
stops_of boots = flat_map (λ b. stop_in b.stop) boots

-- a boot that goes on is stopped at one point more
pub stops_struck : (boots : List Boot) (stop : ℕ) → boots ≢ [] → last_stop boots ≡ None → flat_map (λ b. stop_in b.stop) (struck boots stop) ≡ flat_map (λ b. stop_in b.stop) boots ++ stop ∷ []
stops_struck [] stop begun going = absurd (begun refl)
stops_struck (b ∷ []) stop begun going = ap (λ s. (stop_in s ++ []) ++ stop ∷ []) (sym going)
stops_struck (b ∷ c ∷ boots) stop begun going =
    ap (λ l. stop_in b.stop ++ l) (stops_struck (c ∷ boots) stop (λ none. cc none) going) ∙ sym (append_assoc (stop_in b.stop) (stops_of (c ∷ boots)) (stop ∷ []))

-- an item that is noted stops nothing
pub stops_noted : (boots : List Boot) (item : Item) → flat_map (λ b. stop_in b.stop) (noted boots item) ≡ flat_map (λ b. stop_in b.stop) boots
stops_noted [] item = refl
stops_noted (b ∷ []) item = refl
stops_noted (b ∷ c ∷ boots) item = ap (λ l. stop_in b.stop ++ l) (stops_noted (c ∷ boots) item)

-- nor does a boot more
pub stops_booted : (boots : List Boot) → flat_map (λ b. stop_in b.stop) (booted boots) ≡ flat_map (λ b. stop_in b.stop) boots
stops_booted [] = refl
stops_booted (b ∷ boots) = ap (λ l. stop_in b.stop ++ l) (stops_booted boots)

-- ---- a service that is up

pub some_is : (running : Option Object) → IsSome running → (v : Object) × (running ≡ Some v)
some_is None up = absurd (cc up)
some_is (Some v) up = (v, refl)

-- ---- engines that store the same

pub stores_same : (facts : Facts) (e new : Engined) (history : List Entry) → new.tracked ≡ e.tracked → new.stored ≡ e.stored → StoresObject facts e history → StoresObject facts new history
stores_same facts e new history tracked stored stores = record {
  rows = ap (λ t. t.rows) tracked ∙ stores.rows;
  given = ap (λ t. t.given) tracked ∙ stores.given;
  files = λ path. ap (λ s. bytes_of s path) stored ∙ stores.files path;
}

module _ (z : Setting) (e : Engined) (w : WorldView) (rooms : Rooms) (is : IsWorld z e w rooms) where
  -- the world as an engine shows it, which stores the same
  pub shown_on : (new : Engined) → new.tracked ≡ e.tracked → new.stored ≡ e.stored → KeepsPromise z (as_shown w new) (stub_of new) → IsWorld z new (as_shown w new) rooms
  shown_on new tracked stored keeps = record {
    set = is.set;
    keeps = keeps;
    tracked = stores_same z.iface.facts e new w.history tracked stored is.tracked;
    rooms_are = is.rooms_are;
    marked = record { entries = is.marked.entries; withdrawals = is.marked.withdrawals; phases = is.marked.phases };
  }

  -- the service stopped at a point
  pub stopped_on : (new : Engined) (stop : ℕ) → new.cell.run ≡ with_stop w.run stop → new.cell.running ≡ None → new.tracked ≡ e.tracked → new.stored ≡ e.stored → IsWorld z new (as_shown w new) rooms
  stopped_on new stop run running tracked stored = shown_on new tracked stored
      (subst (λ r. KeepsPromise z (record w { run = r; running = new.cell.running }) (stub_of new)) (sym run)
      (subst (λ r. KeepsPromise z (record w { run = with_stop w.run stop; running = r }) (stub_of new)) (sym running)
      (stopped_between z w (stub_of e) (stub_of new) is.keeps stop stop)))

  -- its points are counted
  pub counted_on : (n : ℕ) → IsWorld z (record e { cell = record e.cell { run = record e.cell.run { points = n } } }) (with_points w n) rooms
  counted_on n = record {
    set = is.set;
    keeps = with_points_keeps z w (stub_of e) n is.keeps;
    tracked = record { rows = is.tracked.rows; given = is.tracked.given; files = is.tracked.files };
    rooms_are = is.rooms_are;
    marked = record { entries = is.marked.entries; withdrawals = is.marked.withdrawals; phases = is.marked.phases };
  }

  -- a service that is up wasn't stopped in this boot
  pub not_stopped : (v : Object) → w.running ≡ Some v → last_stop w.run.boots ≡ None
  not_stopped v up = (subst (IsRunning z.iface.facts w.run.boots) up is.keeps.cell.runs).unstopped

  pub not_stopped_up : IsSome w.running → last_stop w.run.boots ≡ None
  not_stopped_up up = let its = some_is w.running up in not_stopped its.0 its.1
