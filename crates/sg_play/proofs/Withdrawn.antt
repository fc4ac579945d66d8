-- A step withdraws no call.
use Rattle.std.proofs.Common.{◌≡◌, ℕ, ap, ◌∙◌, inl, inr}
use Rattle.sg_plain.specs.sg_clients.WorldView.{WorldView}
use Rattle.sg_world.specs.declared.did.Did.{Did}
use Rattle.sg_world.specs.declared.did.Did.TheVariants.{Answered, Blocked as Waits, Booted, Loaded, Lost, Replayed, Served, Skipped, Struck}
use Rattle.sg_world.specs.Steps.{Commits, HasStepped, Steps, LackedMemory}
use Rattle.sg_world.specs.sg_world_laws.Setting.{Setting}

module _ (z : Setting) (w : WorldView) (c : ℕ) where
  commits : (between : WorldView) → Commits z w c between → between.withdrawn ≡ w.withdrawn
  commits between l = ap (λ x. x.withdrawn) l.now

  stepped : (did : Did) (later : WorldView) → Steps z w c did later → later.withdrawn ≡ w.withdrawn
  stepped Skipped later l = ap (λ x. x.withdrawn) l.now
  stepped (Answered reply) later (inl l) = ap (λ x. x.withdrawn) l.now
  stepped (Answered reply) later (inr (inl l)) = ap (λ x. x.withdrawn) l.now
  stepped (Answered reply) later (inr (inr l)) = ap (λ x. x.withdrawn) l.now
  stepped Lost later l = ap (λ x. x.withdrawn) l.now
  stepped Booted later l = ap (λ x. x.withdrawn) l.now
  stepped Struck later (inl l) = ap (λ x. x.withdrawn) l.now
  stepped Struck later (inr (inl l)) = ap (λ x. x.withdrawn) l.now
  stepped Struck later (inr (inr (inl l))) = ap (λ x. x.withdrawn) l.now
  stepped Struck later (inr (inr (inr l))) = ap (λ x. x.withdrawn) l.now ∙ commits l.between l.commits
  stepped Replayed later l = ap (λ x. x.withdrawn) l.now
  stepped Loaded later l = ap (λ x. x.withdrawn) l.now
  stepped Waits later l = ap (λ x. x.withdrawn) l.now
  stepped Served later (inl l) = ap (λ x. x.withdrawn) l.now ∙ commits l.between l.commits
  stepped Served later (inr l) = ap (λ x. x.withdrawn) l.now

  pub withdrawn_stepped : (did : Did) (now : WorldView) → HasStepped z w c did now → now.withdrawn ≡ w.withdrawn
  withdrawn_stepped did now steps = ap (λ x. x.withdrawn) steps.counted ∙ stepped did steps.later steps.steps

  pub withdrawn_wanted : (now : WorldView) → LackedMemory z w c now → now.withdrawn ≡ w.withdrawn
  withdrawn_wanted now wants = ap (λ x. x.withdrawn) wants.counted
