-- The service of an interface that is accepted: it is built in, or the interface's text describes it.
use Rattle.std.proofs.Common.{◌≡◌, inl, inr, ℕ, Bool, true, false, List, None, Some, cond, sym, ◌∙◌, ap, subst}
use Rattle.std.specs.Str.{bytes_eq}
use Rattle.sg_multi.specs.sg_facts.Allowed.{is_allowed}
use Rattle.sg_multi.specs.sg_facts.Facts.{Facts}
use Rattle.sg_multi.specs.sg_facts.Interface.{Declared}
use Rattle.sg_judge.specs.sg_input.sg_parse.declared.tree.Tree.{Tree}
use Rattle.sg_multi.specs.sg_interpret.sg_described.Described.{Described}
use Rattle.sg_multi.specs.sg_interpret.sg_described.Safe.{IsSafe}
use Rattle.sg_multi.specs.sg_interpret.sg_described.declared.description.Description.{Description}
use Rattle.sg_judge.specs.AnyInputs.{IsAcceptedAs}
use Rattle.sg_judge.specs.sg_own.Faults.{IsOwnAccepted}
use Rattle.sg_judge.specs.sg_own.sg_describe.DescribedText.{described_of_text}
use Rattle.sg_judge.specs.sg_own.sg_shape.ShapeOfText.{shape_of_text}
use Rattle.sg_load.specs.Services.{facts_by}
use Rattle.sg_load.specs.declared.kind.ServiceKind.{ServiceKind}
use Rattle.sg_multi.specs.Serving.{IsOfServed, described_answering}
use Rattle.sg_top.specs.Answer.{services}
use Rattle.sg_top.specs.Inside.Plays.{IsServedAs}
use Rattle.sg_multi.specs.declared.served.Served.{Served}
use Rattle.sg_multi.specs.declared.served.Served.TheVariants.{BuiltIn, Own}
use Rattle.sg_top.proofs.EachKind.{allowed_kind, is_served, its_facts}

-- ---- a service of the text's own

-- what is found among one is that one
alone : (s found : Facts) (b : Bool) → cond b (Some s) None ≡ Some found → s ≡ found
alone s found true is = cc is
alone s found false is = absurd (cc is)

-- the interface has the facts that its text describes
own_facts : (tree : Tree) (i : Declared) → IsOwnAccepted tree i → i.facts ≡ (described_of_text tree).facts
own_facts tree i own =
    ap (λ (d : Declared). d.facts) own.accepted.declared
    ∙ sym (alone (shape_of_text tree) own.accepted.facts (bytes_eq (shape_of_text tree).name tree.facts.service.bytes) own.accepted.service)

pub served_own : (text : List ℕ) (i : Declared) (d : Description) → IsAcceptedAs services text i (Some d) → IsServedAs text i (Own d)
served_own text i d (tree, own, accepted, describes) = record {
  of = record {
    fit = subst IsSafe (sym describes) accepted.safe;
    its = own_facts tree i accepted ∙ ap (λ (x : Described). x.facts) (sym describes);
  };
  answers = inr (tree, own, ap described_answering describes);
}

-- ---- one that is built in

pub served_built_in : (text : List ℕ) (i : Declared) (kind : ServiceKind) → IsAcceptedAs services text i None → facts_by kind ≡ i.facts → IsServedAs text i (BuiltIn kind)
served_built_in text i kind (none, is) its = record { of = record { fit = tt; its = sym its ∙ its_facts kind }; answers = inl (none, is_served kind) }

-- ---- any

-- its shape is allowed
pub allowed_served : (i : Declared) (served : Served) → IsOfServed i served → is_allowed i.facts ≡ true
allowed_served i (BuiltIn kind) of = allowed_kind i.facts kind (its_facts kind ∙ sym of.its)
allowed_served i (Own d) of = subst (λ (f : Facts). is_allowed f ≡ true) (sym of.its) of.fit.plain.allowed
