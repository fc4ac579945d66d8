-- A world with its boots and its service spelt out.
use Rattle.std.proofs.Common.{List, Option, [], ap, refl, ◌∙◌, ◌∷◌, ◌≡◌, ◌≢◌}
use Rattle.sg_facts.specs.Object.{Object}
use Rattle.sg_facts.specs.Trace.{Boot}
use Rattle.sg_clients.specs.WorldView.{WorldView}
use Rattle.sg_world_laws.specs.Keeping.{KeepsPromise, Stub, standing}
use Rattle.sg_world_laws.specs.Setting.{Setting}

-- the first boot and the others, and the world with these and its service
pub record Upright (w : WorldView) (running : Option Object) : Type 0 where
  pub first : Boot
  pub others : List Boot
  pub boots : w.run.boots ≡ first ∷ others
  pub is : w ≡ standing w first others running

pub upright : (w : WorldView) (running : Option Object) → w.run.boots ≢ [] → w.running ≡ running → Upright w running
upright w running begun is = at w.run.boots refl
  where
    at : (boots : List Boot) → w.run.boots ≡ boots → Upright w running
    at [] none = absurd (begun none)
    at (b ∷ boots) its = record {
      first = b;
      others = boots;
      boots = its;
      is = ap (λ l. record w { run = record { boots = l; points = w.run.points } }) its ∙ ap (λ r. record w { run = record { boots = b ∷ boots; points = w.run.points }; running = r }) is;
    }

-- so for what the world keeps
pub keeps_upright : (z : Setting) (w : WorldView) (stub : Stub) (k : KeepsPromise z w stub) (running : Option Object) → w.running ≡ running → Upright w running
keeps_upright z w stub k running is = upright w running k.cell.begun is
