-- The printed text reads back as the upgraded tree but for places, and that is accepted where the tree is.
use Rattle.std.proofs.Common.{◌≡◌, inl, inr, ◌==◌, List, [], None, Some, sym, ◌∙◌, ap, subst}
use Rattle.std.specs.Prelude.{if◌then◌else◌}
use Rattle.sg_stub.proofs.sg_check_statements.Anywhere.Accepting.{accepted_there}
use Rattle.sg_facts.specs.Facts.{Facts}
use Rattle.sg_facts.specs.Interface.{Declared}
use Rattle.sg_print.proofs.Law.{upgrades_back}
use Rattle.sg_print.specs.PrintsBack.{PrintsBack}
use Rattle.sg_print.specs.sg_parse.declared.tree.Tree.{Tree}
use Rattle.sg_print.specs.sg_parse.Grammar.Inside.Forms.{IsHead}
use Rattle.sg_print.specs.sg_parse.Grammar.Upgraded.{upgraded}
use Rattle.sg_stub.specs.sg_check_statements.Faults.{IsAccepted}
use Rattle.sg_input.specs.Verdicts.{services_for}
use Rattle.sg_input.proofs.laws.upgrades_are_accepted.Goals as goal

none_own : (tree : Tree) (i : Declared) → IsAccepted [] tree i → ⊥
none_own tree i is = let wrong : None ≡ Some is.facts = is.service in cc wrong

-- a tree that is accepted so is of version 1 or 2
later : (services : List Facts) (tree : Tree) (i : Declared) → IsHead tree.facts → IsAccepted (services_for services tree) tree i
    → ((upgraded tree).facts.version ≡ 2) × IsAccepted services tree i
later services tree i (inl first) is = (
  ap (λ n. if n == 1 then 2 else n) first.0,
  subst (λ n. IsAccepted (if n == 3 then [] else services) tree i) first.0 is,
)
later services tree i (inr (inl second)) is = (
  ap (λ n. if n == 1 then 2 else n) second,
  subst (λ n. IsAccepted (if n == 3 then [] else services) tree i) second is,
)
later services tree i (inr (inr third)) is = absurd (none_own tree i (subst (λ n. IsAccepted (if n == 3 then [] else services) tree i) third is))

-- what is printed is accepted
upgrade : (services : List Facts) (tree : Tree) (i : Declared) (back : PrintsBack (upgraded tree)) → (upgraded tree).facts.version ≡ 2 → IsAccepted services tree i
    → IsAccepted (services_for services back.again) back.again (record i { version = 2 })
upgrade services tree i back two is =
    let there = accepted_there services tree back.again back.same i is in
    let again : back.again.facts.version ≡ 2 = ap (λ (t : Tree). t.facts.version) back.same ∙ two in
    subst (λ n. IsAccepted (if n == 3 then [] else services) back.again (record i { version = 2 })) (sym again)
    (subst (λ n. IsAccepted services back.again (record i { version = n })) two there)

pub returns : goal.returns
returns c = λ services text tree i parses accepted free.
    let back = upgrades_back text tree parses free in
    let two = later services tree i parses.2.well_formed.0 accepted in
    (back.again, back.parses, upgrade services tree i back two.0 two.1)
