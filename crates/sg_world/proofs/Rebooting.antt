-- A world keeps what it keeps where its service, which failed, is booted afresh.
use Rattle.std.proofs.Common.{List, None, Some, [], ap, map, subst, sym, false, true, ℕ, ◌∙◌, ◌≡◌}
use Rattle.sg_world.specs.Engines.Stubs.{stub_of, told_of}
use Rattle.sg_facts.specs.Alike.{named}
use Rattle.sg_facts.specs.Object.{empty_object}
use Rattle.sg_facts.specs.Trace.{Boot, Run}
use Rattle.sg_world_laws.specs.sg_recovery_laws.Midway.Progress.{fresh}
use Rattle.sg_replay.specs.sg_name.Names.{named_at}
use Rattle.sg_replay.specs.sg_hist.Growing.{booted}
use Rattle.sg_replay.specs.Engined.{Engined}
use Rattle.sg_replay.specs.Present.{is_present}
use Rattle.sg_replay.specs.Serving.{pairs_of}
use Rattle.sg_clients.specs.WorldView.{Seat, WorldView, woken_seat}
use Rattle.sg_world.proofs.Moving.{rooms_woken, told_woken}
use Rattle.sg_world.proofs.Points.{stores_same}
use Rattle.sg_world.proofs.Upright.{Upright, keeps_upright}
use Rattle.sg_world.specs.Worlded.{IsWorld, Rooms}
use Rattle.sg_world_laws.proofs.Alike.{keeps_alike}
use Rattle.sg_world_laws.proofs.Booted.{booted_again}
use Rattle.sg_world_laws.specs.Keeping.{KeepsPromise, Stub, TellSame}
use Rattle.sg_world_laws.specs.Setting.{Setting}

-- what an engine shows after a boot
pub record ShowsBoot (e new : Engined) : Type 0 where
  pub running : new.cell.running ≡ Some empty_object
  pub run : new.cell.run ≡ record e.cell.run { boots = booted e.cell.run.boots }
  pub names : new.names.known ≡ []
  pub present : (key : List ℕ) → is_present new.present key ≡ false
  pub stored : new.stored ≡ e.stored
  pub tracked : new.tracked ≡ e.tracked

abbrev nothing_told : Stub
nothing_told = record { names = []; told = λ id. fresh; present = λ path. false }

module _ (z : Setting) (e : Engined) (w : WorldView) (rooms : Rooms) (is : IsWorld z e w rooms) (run : e.cell.run ≡ w.run) (failed : w.running ≡ None) where
  abbrev woken : List Seat
  woken = map (woken_seat (λ call. true)) w.seats

  abbrev later : List Boot → WorldView
  later boots = record w { run = record { boots = booted boots; points = w.run.points }; running = Some empty_object; seats = map (woken_seat (λ call. true)) w.seats }

  keeps_booted : KeepsPromise z (later w.run.boots) nothing_told
  keeps_booted =
      let up : Upright w None = keeps_upright z w (stub_of e) is.keeps None failed in
      subst (λ l. KeepsPromise z (later l) nothing_told) (sym up.boots) (booted_again z is.set w up.first up.others (stub_of e) (subst (λ x. KeepsPromise z x (stub_of e)) up.is is.keeps))

  module _ (new : Engined) (shows : ShowsBoot e new) where
    tells : TellSame nothing_told (stub_of new)
    tells = record {
      names = λ id. ap (λ known. named (pairs_of known) id) shows.names;
      told = λ id. ap (λ known. told_of (named_at known id)) shows.names;
      present = shows.present;
    }

    pub booted_on : (seats : List Seat) → seats ≡ map (woken_seat (λ call. true)) w.seats → IsWorld z new (record w { run = new.cell.run; running = new.cell.running; seats = seats }) rooms
    booted_on seats are =
        subst (λ l. IsWorld z new (record w { run = new.cell.run; running = new.cell.running; seats = l }) rooms) (sym are)
        (subst (λ r. IsWorld z new (record w { run = r; running = new.cell.running; seats = map (woken_seat (λ call. true)) w.seats }) rooms) (sym (shows.run ∙ ap (λ (r : Run). record r { boots = booted r.boots }) run))
        (subst (λ r. IsWorld z new (record w { run = record { boots = booted w.run.boots; points = w.run.points }; running = r; seats = map (woken_seat (λ call. true)) w.seats }) rooms) (sym shows.running)
        (record {
          set = is.set;
          keeps = keeps_alike z (later w.run.boots) nothing_told (stub_of new) tells keeps_booted;
          tracked = stores_same z.iface.facts e new w.history shows.tracked shows.stored is.tracked;
          rooms_are = rooms_woken (λ call. true) w.seats rooms is.rooms_are;
          marked = record { entries = is.marked.entries; withdrawals = is.marked.withdrawals; phases = told_woken w.marks 1 (λ call. true) w.seats is.marked.phases };
        })))
