-- A turn that was taken, and one that wasn't.
use Rattle.std.proofs.Common.{◌≡◌, ◌⊎◌, ℕ, List, sym, subst, inl, inr, OnErr, Ok, Err}
use Rattle.std.specs.declared.option.Option.{Option}
use Rattle.std.specs.declared.result.Result.{Result}
use Rattle.sg_play.specs.Recovering.{RecoversSoFar}
use Rattle.sg_play.specs.Turning.{StepsInTurn, with_offer}
use Rattle.sg_play.specs.sg_plain.Playing.Given.{with_handed}
use Rattle.sg_play.specs.sg_plain.Playing.Plays.{IsPlaying}
use Rattle.sg_play.specs.sg_script.declared.script.Script.{Script}
use Rattle.sg_play.specs.sg_clients.WorldView.{WorldView, happened}
use Rattle.sg_sim.specs.Inside.Taken.{MissesTurn, TakesTurn, after_offer}
use Rattle.sg_play.specs.sg_world.Steps.{LackedMemory}
use Rattle.sg_play.specs.sg_world_laws.Setting.{Setting}

pub on_err : {A E : Type 0} (P : Type 0) (r : Result A E) → P → OnErr r P
on_err P (Ok a) holds = tt
on_err P (Err e) holds = holds

module _ (z : Setting) (script : Script) (w : WorldView) (given : List (List ℕ)) (client : ℕ) where
  pub taken : (x now : WorldView) (handed : Option ℕ) (later : List (List ℕ)) → x ≡ with_offer z.iface.facts script w client → IsPlaying z.iface script x.history x.seats given → RecoversSoFar z x
      → StepsInTurn z script x client handed now → later ≡ with_handed given client handed → IsPlaying z.iface script now.history now.seats (with_handed given client handed) → RecoversSoFar z now
      → TakesTurn z script w given client handed now later
  taken x now handed later offer playing told steps gives is told_now = record {
    offered = subst (λ (v : WorldView). IsPlaying z.iface script v.history v.seats given) offer playing;
    told_before = subst (RecoversSoFar z) offer told;
    steps = subst (λ v. StepsInTurn z script v client handed now) offer steps;
    gives = gives;
    playing = subst (IsPlaying z.iface script now.history now.seats) (sym gives) is;
    told = told_now;
  }

  pub missed_offer : (now : WorldView) (later : List (List ℕ)) → later ≡ given → IsPlaying z.iface script now.history now.seats given → (now ≡ w) ⊎ (now ≡ happened w) → MissesTurn z script w given client now later
  missed_offer now later same playing at = record { same = same; playing = playing; missed = by at }
    where
      by : (now ≡ w) ⊎ (now ≡ happened w) → (now ≡ w) ⊎ (now ≡ happened w) ⊎ (IsPlaying z.iface script (after_offer z script w given client).history (after_offer z script w given client).seats given × LackedMemory z (after_offer z script w given client) client now)
      by (inl is) = inl is
      by (inr is) = inr (inl is)

  pub missed_step : (x now : WorldView) (later : List (List ℕ)) → x ≡ with_offer z.iface.facts script w client → IsPlaying z.iface script x.history x.seats given → later ≡ given
      → IsPlaying z.iface script now.history now.seats given → LackedMemory z x client now → MissesTurn z script w given client now later
  missed_step x now later offer playing same is wants = record {
    same = same;
    playing = is;
    missed = inr (inr (subst (λ (v : WorldView). IsPlaying z.iface script v.history v.seats given) offer playing, subst (λ v. LackedMemory z v client now) offer wants));
  }
