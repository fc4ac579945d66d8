-- One thing is said of a text that describes a service of its own.
use Rattle.std.proofs.Common.{◌≡◌, ◌⊎◌, inl, inr, ℕ, None, Some, sym, ◌∙◌, ap}
use Rattle.sg_describe.specs.sg_facts.Interface.{Declared}
use Rattle.sg_check.specs.sg_check_statements.Faults.{interface_of}
use Rattle.sg_check.specs.sg_check_statements.declared.fault.CheckKind.{CheckKind}
use Rattle.sg_check.specs.sg_check_statements.declared.fault.CheckKind.TheVariants.{NoCreation, NoWalk, Unreached}
use Rattle.sg_check.specs.sg_check_statements.sg_parse.declared.tree.Tree.{Tree}
use Rattle.sg_check.proofs.Unique.{same_fault}
use Rattle.sg_describe.specs.sg_shape.ShapeOfText.{shape_of_text}
use Rattle.sg_describe.specs.sg_described.Safe.{IsSafe}
use Rattle.sg_describe.specs.DescribedText.{described_of_text}
use Rattle.sg_describe.proofs.Clear.{not_both as not_both_answers, one_first as one_answers}
use Rattle.sg_describe.proofs.sg_shape.Clear.{not_both as not_both_shapes, one_first as one_shape}
use Rattle.sg_describe.proofs.sg_shape.Fitting.{own_fault}
use Rattle.sg_safe.specs.Reasons.{unsafe_in}
use Rattle.sg_safe.specs.declared.reason.Unsafe.{Unsafe}
use Rattle.sg_own.specs.declared.fault.OwnKind.{OwnKind}
use Rattle.sg_own.specs.declared.fault.OwnKind.TheVariants.{Shape, Answers, Safety, Walks}
use Rattle.sg_own.specs.Faults.{IsOwnAccepted, IsOwnFault, external_place, itself}
use Rattle.sg_own.specs.SafePlaces.{kind_of, reason_place}
use Rattle.sg_own.proofs.NoReason.{no_reason}

module _ (tree : Tree) where
  -- a safe description has no reason
  unreasoned : {A : Type 0} (reason : Unsafe) → unsafe_in (described_of_text tree) ≡ Some reason → IsSafe (described_of_text tree) → A
  unreasoned reason told safe = let wrong : Some reason ≡ None = sym told ∙ no_reason (described_of_text tree) safe in absurd (cc wrong)

  inside_not : {A : Type 0} (at : ℕ) → external_place tree ≡ Some at → external_place tree ≡ None → A
  inside_not at told none = let wrong : Some at ≡ None = sym told ∙ none in absurd (cc wrong)

  -- an accepted text has no fault
  pub not_both : (i : Declared) (kind : OwnKind) (at : ℕ) → IsOwnAccepted tree i → IsOwnFault tree kind at → ⊥
  not_both i (Shape kind) at is fault = not_both_shapes tree kind at is.described.shape fault
  not_both i (Answers kind) at is fault = not_both_answers tree kind at is.described.answers fault.1
  not_both i (Safety kind) at is (described, reason, told, of, place) = unreasoned reason told is.safe
  not_both i (Walks kind) at is (described, safe, inl fault) = is.accepted.none kind at fault.here
  not_both i (Walks kind) at is (described, safe, inr (accepted, external, no_walk)) = inside_not at external is.inside

  one_safety : (one other : Unsafe) → unsafe_in (described_of_text tree) ≡ Some one → unsafe_in (described_of_text tree) ≡ Some other → one ≡ other
  one_safety one other told told' = let same : Some one ≡ Some other = sym told ∙ told' in cc same

  -- one thing is first wrong
  pub one_fault : (one other : OwnKind) (here there : ℕ) → IsOwnFault tree one here → IsOwnFault tree other there → (one ≡ other) × (here ≡ there)
  one_fault (Shape one) (Shape other) here there a b = let same = one_shape tree one other here there a b in (ap Shape same.0, same.1)
  one_fault (Shape one) (Answers other) here there a b = absurd (not_both_shapes tree one here b.0 a)
  one_fault (Shape one) (Safety other) here there a b = absurd (not_both_shapes tree one here b.0.shape a)
  one_fault (Shape one) (Walks other) here there a b = absurd (not_both_shapes tree one here b.0.shape a)
  one_fault (Answers one) (Shape other) here there a b = absurd (not_both_shapes tree other there a.0 b)
  one_fault (Answers one) (Answers other) here there a b = let same = one_answers tree one other here there a.1 b.1 in (ap Answers same.0, same.1)
  one_fault (Answers one) (Safety other) here there a b = absurd (not_both_answers tree one here b.0.answers a.1)
  one_fault (Answers one) (Walks other) here there a b = absurd (not_both_answers tree one here b.0.answers a.1)
  one_fault (Safety one) (Shape other) here there a b = absurd (not_both_shapes tree other there a.0.shape b)
  one_fault (Safety one) (Answers other) here there a b = absurd (not_both_answers tree other there a.0.answers b.1)
  one_fault (Safety one) (Safety other) here there (d, reason, told, kind, at) (d', reason', told', kind', at') =
      let same = one_safety reason reason' told told' in (
        ap Safety (kind ∙ ap kind_of same ∙ sym kind'),
        at ∙ ap (reason_place (shape_of_text tree) tree.statements) same ∙ sym at',
      )
  one_fault (Safety one) (Walks other) here there (d, reason, told, of, place) b = unreasoned reason told b.1
  one_fault (Walks one) (Shape other) here there a b = absurd (not_both_shapes tree other there a.0.shape b)
  one_fault (Walks one) (Answers other) here there a b = absurd (not_both_answers tree other there a.0.answers b.1)
  one_fault (Walks one) (Safety other) here there a (d, reason, told, of, place) = unreasoned reason told a.1
  one_fault (Walks one) (Walks other) here there (d, safe, inl a) (d', safe', inl b) =
      let same = same_fault (itself tree) tree one other here there a b in (ap Walks same.0, same.1)
  one_fault (Walks one) (Walks other) here there (d, safe, inl a) (d', safe', inr ((i, accepted), external, kind)) = absurd (accepted.none one here a.here)
  one_fault (Walks one) (Walks other) here there (d, safe, inr ((i, accepted), external, kind)) (d', safe', inl b) = absurd (accepted.none other there b.here)
  one_fault (Walks one) (Walks other) here there (d, safe, inr (accepted, external, kind)) (d', safe', inr (accepted', external', kind')) =
      let same : Some here ≡ Some there = sym external ∙ external' in
      (ap Walks (kind ∙ sym kind'), cc same)

  -- an accepted text declares one interface
  pub one_interface : (i j : Declared) → IsOwnAccepted tree i → IsOwnAccepted tree j → i ≡ j
  one_interface i j a b =
      let found : Some a.accepted.facts ≡ Some b.accepted.facts = sym a.accepted.service ∙ b.accepted.service in
      let same : a.accepted.facts ≡ b.accepted.facts = cc found in
      a.accepted.declared ∙ ap (λ f. interface_of f tree) same ∙ sym b.accepted.declared

  -- the kinds that speak of what descriptors come to
  pub kinds : (kind : CheckKind) (at : ℕ) → IsOwnFault tree (Walks kind) at → (kind ≡ NoCreation) ⊎ ((kind ≡ Unreached) ⊎ (kind ≡ NoWalk))
  kinds kind at (described, safe, inl fault) = own_fault tree described.shape kind at fault.here
  kinds kind at (described, safe, inr (accepted, external, no_walk)) = inr (inr no_walk)
