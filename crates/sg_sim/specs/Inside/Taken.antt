-- What a turn of a client does to a world, and to what its clients' calls were given.
use Rattle.std.specs.Prelude.{ℕ, ◌≡◌, ◌⊎◌, List}
use Rattle.std.specs.declared.option.Option.{Option}
use Rattle.sg_play.specs.Recovering.{RecoversSoFar}
use Rattle.sg_play.specs.Turning.{StepsInTurn, with_offer}
use Rattle.sg_play.specs.sg_plain.Playing.Given.{with_handed}
use Rattle.sg_play.specs.sg_plain.Playing.Plays.{IsPlaying}
use Rattle.sg_play.specs.sg_script.declared.script.Script.{Script}
use Rattle.sg_play.specs.sg_clients.WorldView.{WorldView, happened}
use Rattle.sg_play.specs.sg_world.Steps.{LackedMemory}
use Rattle.sg_play.specs.sg_world_laws.Setting.{Setting}

module _ (z : Setting) (script : Script) (w : WorldView) (given : List (List ℕ)) (client : ℕ) where
  -- the world after the client's offer
  abbrev pub after_offer : WorldView
  after_offer = with_offer z.iface.facts script w client

  -- the client took its turn, which may have handed a reply over
  pub record TakesTurn (handed : Option ℕ) (now : WorldView) (later : List (List ℕ)) : Type 0 where
    pub offered : IsPlaying z.iface script after_offer.history after_offer.seats given
    pub told_before : RecoversSoFar z after_offer
    pub steps : StepsInTurn z script after_offer client handed now
    pub gives : later ≡ with_handed given client handed
    pub playing : IsPlaying z.iface script now.history now.seats later
    pub told : RecoversSoFar z now

  -- it didn't, for want of memory
  pub record MissesTurn (now : WorldView) (later : List (List ℕ)) : Type 0 where
    pub same : later ≡ given
    pub playing : IsPlaying z.iface script now.history now.seats given
    pub missed : (now ≡ w) ⊎ (now ≡ happened w) ⊎ (IsPlaying z.iface script after_offer.history after_offer.seats given × LackedMemory z after_offer client now)
