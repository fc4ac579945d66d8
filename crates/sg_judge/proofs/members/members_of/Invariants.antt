-- The texts so far are accepted as the members so far.
use Rattle.std.proofs.Common.{map, take}
use Rattle.sg_explain.specs.sg_facts.Facts.{facts_of}
use Rattle.sg_judge.specs.Inside.Examined.{AreAnyMembers}
use Rattle.sg_judge.proofs.members.members_of.Given as goal

abbrev pub invariant-texts : goal.invariant-texts
invariant-texts l = AreAnyMembers (map facts_of l.shapes) (take l.text-index (map (λ t. t.now) l.texts)) l.members
