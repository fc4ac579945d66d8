-- One more member of an input for several services.
use Rattle.std.proofs.Common.{◌≡◌, ℕ, ◌+◌, ◌<◌, List, [], ◌∷◌, ◌++◌, length, take, refl, sym, ap, subst}
use Rattle.std.specs.Prelude.{slice_index_or}
use Rattle.std.proofs.lemmas.List.{take_more}
use Rattle.sg_explain.specs.sg_facts.Facts.{Facts}
use Rattle.sg_explain.specs.sg_input.MultiInputs.{AreMembers}
use Rattle.sg_explain.specs.sg_input.declared.read.Read.TheVariants.{Ready}
use Rattle.sg_explain.proofs.sg_input.Gathering.{one_more_member, zip_more}
use Rattle.sg_judge.specs.AnyInputs.{IsAcceptedAs, any_judging, interfaces_of}
use Rattle.sg_judge.specs.Inside.Examined.{AreAnyMembers, IsMemberOf}
use Rattle.sg_judge.specs.declared.interface.AnyInterface.{AnyInterface}
use Rattle.sg_judge.proofs.AnyInputs.{accepts_as}

interfaces_more : (members : List AnyInterface) (any : AnyInterface) → interfaces_of (members ++ any ∷ []) ≡ interfaces_of members ++ any.accepted ∷ []
interfaces_more [] any = refl
interfaces_more (m ∷ members) any = ap (λ l. m.accepted ∷ l) (interfaces_more members any)

module _ (services : List Facts) where
  one_more : (texts : List (List ℕ)) (members : List AnyInterface) (text : List ℕ) (any : AnyInterface) → AreAnyMembers services texts members → IsMemberOf services members text (Ready any)
      → AreAnyMembers services (texts ++ text ∷ []) (members ++ any ∷ [])
  one_more texts members text any are is = record {
    are = subst (AreMembers (any_judging services) (texts ++ text ∷ [])) (sym (interfaces_more members any))
        (one_more_member (any_judging services) texts (interfaces_of members) text any.accepted are.are (accepts_as services text any.accepted any.own is.0) is.1);
    served = zip_more (λ t m. IsAcceptedAs services t m.accepted m.own) texts members text any are.served is.0;
  }

  -- those of the first of some texts, and one more
  pub members_more : (texts : List (List ℕ)) (k : ℕ) (members new : List AnyInterface) (any : AnyInterface) → k < length texts → AreAnyMembers services (take k texts) members
      → IsMemberOf services members (slice_index_or texts k []) (Ready any) → new ≡ members ++ any ∷ [] → AreAnyMembers services (take (k + 1) texts) new
  members_more texts k members new any within are is pushed =
      subst (λ l. AreAnyMembers services l new) (sym (take_more texts k [] within))
      (subst (AreAnyMembers services (take k texts ++ slice_index_or texts k [] ∷ [])) (sym pushed) (one_more (take k texts) members (slice_index_or texts k []) any are is))
