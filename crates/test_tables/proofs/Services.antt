-- The service of an accepted text, where there is one alone.
use Rattle.std.proofs.Common.{◌≡◌, ℕ, Bool, true, false, cond, List, [], ◌∷◌, None, Some, sym, ◌∙◌, ap}
use Rattle.std.specs.Str.{bytes_eq}
use Rattle.sg_facts.specs.Facts.{Facts}
use Rattle.sg_facts.specs.Interface.{Declared}
use Rattle.sg_stub.specs.sg_parse.declared.tree.Tree.{Tree}
use Rattle.sg_stub.specs.sg_check_statements.Faults.{IsAccepted}
use Rattle.sg_stub.specs.sg_check_statements.Says.{service_of}

only : (service : Facts) (name : List ℕ) (facts : Facts) → service_of (service ∷ []) name ≡ Some facts → facts ≡ service
only service name facts is = by (bytes_eq service.name name) is
  where
    by : (b : Bool) → cond b (Some service) None ≡ Some facts → facts ≡ service
    by true is = let same : service ≡ facts = cc is in sym same
    by false is = absurd (cc is)

pub one_service : (service : Facts) (tree : Tree) (i : Declared) → IsAccepted (service ∷ []) tree i → i.facts ≡ service
one_service service tree i is = ap (λ d. d.facts) is.declared ∙ only service tree.facts.service.bytes is.facts is.service
