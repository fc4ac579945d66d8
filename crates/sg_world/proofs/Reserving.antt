-- A world keeps what it keeps where its engine took memory.
use Rattle.std.proofs.Common.{List, ap, ℕ, ◌∙◌, ◌≡◌}
use Rattle.sg_world.specs.Engines.Stubs.{stub_of, told_of}
use Rattle.sg_facts.specs.Alike.{named}
use Rattle.sg_replay.specs.sg_name.Names.{named_at}
use Rattle.sg_replay.specs.Engined.{Engined}
use Rattle.sg_replay.specs.Present.{is_present}
use Rattle.sg_replay.specs.Serving.{pairs_of}
use Rattle.sg_clients.specs.WorldView.{WorldView}
use Rattle.sg_replay.specs.sg_store.Stored.{bytes_of}
use Rattle.sg_world.specs.Worlded.{IsWorld, Rooms}
use Rattle.sg_world_laws.proofs.Alike.{keeps_alike}
use Rattle.sg_world_laws.specs.Keeping.{TellSame}
use Rattle.sg_world_laws.specs.Setting.{Setting}

-- an engine shows what another shows, but for its rooms
pub record ShowsSame (e new : Engined) : Type 0 where
  pub running : new.cell.running ≡ e.cell.running
  pub run : new.cell.run ≡ e.cell.run
  pub rows : new.tracked.rows ≡ e.tracked.rows
  pub given : new.tracked.given ≡ e.tracked.given
  pub names : new.names.known ≡ e.names.known
  pub files : (key : List ℕ) → bytes_of new.stored key ≡ bytes_of e.stored key
  pub present : (key : List ℕ) → is_present new.present key ≡ is_present e.present key

pub reserved : (z : Setting) (e new : Engined) (w : WorldView) (rooms : Rooms) → ShowsSame e new → IsWorld z e w rooms → IsWorld z new w rooms
reserved z e new w rooms same is = record {
  set = is.set;
  keeps = keeps_alike z w (stub_of e) (stub_of new) tells is.keeps;
  tracked = record {
    rows = same.rows ∙ is.tracked.rows;
    given = same.given ∙ is.tracked.given;
    files = λ path. same.files path ∙ is.tracked.files path;
  };
  rooms_are = is.rooms_are;
  marked = is.marked;
}
  where
    tells : TellSame (stub_of e) (stub_of new)
    tells = record {
      names = λ id. ap (λ known. named (pairs_of known) id) same.names;
      told = λ id. ap (λ known. told_of (named_at known id)) same.names;
      present = same.present;
    }
