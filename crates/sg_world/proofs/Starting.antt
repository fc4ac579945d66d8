-- A world in which nothing was done.

-- the service keeps its laws, and the walks are those of its interface
use Rattle.std.proofs.Common.{List, Some, [], ap, arith, false, flat_map, length, refl, replicate, subst, suc, sym, zero, ℕ, ◌∙◌, ◌≡◌, ◌≤◌, true}
use Rattle.sg_world.specs.Engines.Stubs.{stub_of, told_of}
use Rattle.sg_facts.specs.Facts.{Facts}
use Rattle.sg_facts.specs.Legal.{Table}
use Rattle.sg_facts.specs.Limits.{last_client}
use Rattle.sg_facts.specs.Object.{Object, empty_object}
use Rattle.sg_facts.specs.Tables.{AreTables, Compiled}
use Rattle.sg_facts.specs.declared.entry.Entry.{Entry}
use Rattle.sg_replay.specs.sg_hist.Recovered.{struck_in, ArePointsOf}
use Rattle.sg_replay.specs.sg_name.Names.{named_at}
use Rattle.sg_world_laws.specs.sg_recovery_laws.Objects.Serving.{IsService}
use Rattle.sg_world_laws.proofs.sg_recovery_laws.Points.{points_begin}
use Rattle.sg_replay.specs.sg_hist.Growing.{booted, struck}
use Rattle.sg_replay.specs.Engined.{Engined}
use Rattle.sg_replay.specs.Present.{is_present}
use Rattle.sg_replay.specs.Serving.{pairs_of}
use Rattle.sg_clients.specs.WorldView.{WorldView, new_world, no_seat, offered_by, Seat}
use Rattle.sg_clients.specs.declared.mark.Mark.{Mark}
use Rattle.sg_clients.specs.declared.withdrawn.Withdrawn.{Withdrawn}
use Rattle.sg_replay.specs.sg_store.Stored.{bytes_of}
use Rattle.sg_world.proofs.Marking.{new_told}
use Rattle.sg_world.specs.Worlded.{CountsAll, CountsPoints, IsWorld, Rooms, marks_left, setting_of, view_of}
use Rattle.sg_world_laws.proofs.Begun.{AreNew, new_keeps}
use Rattle.sg_world_laws.specs.Keeping.{KeepsPromise}
use Rattle.sg_world_laws.specs.Setting.{IsSetting, Setting}

pub is_setting : (facts : Facts) (ask : Table) (sound : Object → Type 0) (parts : ℕ → ℕ) (tables : Compiled) → IsService facts ask sound → tables.iface.facts ≡ facts → AreTables tables.iface tables.walks
    → IsSetting (setting_of ask sound parts tables)
is_setting facts ask sound parts tables law same are = record { law = subst (λ f. IsService f ask sound) (sym same) law; fits = are.fits; tables = are }

all_new : (n : ℕ) → AreNew (replicate n no_seat)
all_new zero = tt
all_new (suc n) = (refl, all_new n)

pub as_many : (n : ℕ) → length (replicate n no_seat) ≡ n
as_many zero = refl
as_many (suc n) = ap suc (as_many n)

no_offers : (n : ℕ) → length (flat_map offered_by (replicate n no_seat)) ≡ 0
no_offers zero = refl
no_offers (suc n) = no_offers n

marks_new : (n : ℕ) → marks_left (replicate n no_seat) ≡ n
marks_new zero = refl
marks_new (suc n) = let rest = marks_new n in omega (arith, rest)

-- what contracts of an engine say of a new one
pub record IsNewEngine (e : Engined) : Type 0 where
  pub running : e.cell.running ≡ Some empty_object
  pub run : e.cell.run ≡ record { boots = booted []; points = 0 }
  pub files : (path : List ℕ) → bytes_of e.stored path ≡ []
  pub rows : e.tracked.rows ≡ []
  pub given : e.tracked.given ≡ 0
  pub names : e.names.known ≡ []
  pub present : (path : List ℕ) → is_present e.present path ≡ false

module _ (z : Setting) (set : IsSetting z) (e : Engined) (new : IsNewEngine e) (n : ℕ) (few : n ≤ last_client) (rooms : Rooms) (marked : n ≤ rooms.marks) where
  view_is : view_of e [] (replicate n no_seat) [] [] 0 0 ≡ new_world (replicate n no_seat)
  view_is =
      ap (λ r. record { history = []; run = r; running = e.cell.running; seats = replicate n no_seat; withdrawn = []; marks = []; events = 0; refused = 0 }) new.run
      ∙ ap (λ r. record { history = []; run = record { boots = booted []; points = 0 }; running = r; seats = replicate n no_seat; withdrawn = []; marks = []; events = 0; refused = 0 }) new.running

  keeps : KeepsPromise z (view_of e [] (replicate n no_seat) [] [] 0 0) (stub_of e)
  keeps =
      subst (λ w. KeepsPromise z w (stub_of e)) (sym view_is)
      (subst (λ known. KeepsPromise z (new_world (replicate n no_seat)) (record { names = pairs_of known; told = λ id. told_of (named_at known id); present = λ path. is_present e.present path })) (sym new.names)
      (new_keeps z set (replicate n no_seat) (λ path. is_present e.present path) (all_new n) (subst (λ m. m ≤ last_client) (sym (as_many n)) few) new.present))

  pub new_is_world : IsWorld z e (view_of e [] (replicate n no_seat) [] [] 0 0) rooms
  new_is_world = record {
    set = set;
    keeps = keeps;
    tracked = record { rows = new.rows; given = new.given; files = new.files };
    rooms_are = record {
      entries = (let none = no_offers n in omega (arith, none));
      withdrawals = (let none = no_offers n in omega (arith, none));
      marks = (let all = marks_new n in omega (arith, all, marked));
    };
    marked = record { entries = refl; withdrawals = refl; phases = new_told 1 n };
  }

  -- however its empty lists came about
  pub new_is_world_of : (history : List Entry) (seats : List Seat) (withdrawn : List Withdrawn) (marks : List Mark) → history ≡ [] → seats ≡ replicate n no_seat → withdrawn ≡ [] → marks ≡ []
      → IsWorld z e (view_of e history seats withdrawn marks 0 0) rooms
  new_is_world_of history seats withdrawn marks no_history clients no_withdrawn no_marks =
      subst (λ h. IsWorld z e (view_of e h seats withdrawn marks 0 0) rooms) (sym no_history)
      (subst (λ s. IsWorld z e (view_of e [] s withdrawn marks 0 0) rooms) (sym clients)
      (subst (λ w. IsWorld z e (view_of e [] (replicate n no_seat) w marks 0 0) rooms) (sym no_withdrawn)
      (subst (λ m. IsWorld z e (view_of e [] (replicate n no_seat) [] m 0 0) rooms) (sym no_marks) new_is_world)))

-- no point was asked
pub new_points : (test : ℕ → List ℕ → List ℕ → Type 0) (w : WorldView) (asked : ℕ) (struck plan : List ℕ) → w.run ≡ record { boots = booted []; points = 0 } → asked ≡ 0 → struck ≡ [] → test 0 [] plan → CountsPoints test w asked struck plan
new_points test w asked struck plan run none unstruck starts = record {
  asked_so = ap (λ r. r.points) run ∙ sym none;
  struck_so = ap struck_in run ∙ sym unstruck;
  tested = subst (λ a. test a struck plan) (sym none) (subst (λ s. test 0 s plan) (sym unstruck) starts);
}

-- and its points are counted
pub new_counted : (z : Setting) (e : Engined) (history : List Entry) (seats : List Seat) (withdrawn : List Withdrawn) (marks : List Mark) → e.cell.run ≡ record { boots = booted []; points = 0 } → CountsAll z (view_of e history seats withdrawn marks 0 0)
new_counted z e history seats withdrawn marks run = subst (λ r. ArePointsOf true z.iface.facts z.ask z.parts 0 r.boots r.points) (sym run) (points_begin true z.iface.facts z.ask z.parts)
