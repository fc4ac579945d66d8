-- A text is of one of the services that there are, and not of its own.
use Rattle.std.proofs.Common.{◌≡◌, ℕ, Bool, true, false, List, [], None, Some}
use Rattle.std.specs.Prelude.{if◌then◌else◌}
use Rattle.sg_facts.specs.Facts.{Facts}
use Rattle.sg_print.specs.sg_parse.declared.tree.Tree.{Tree}
use Rattle.sg_stub.specs.sg_check_statements.Says.{service_of}
use Rattle.sg_input.specs.Verdicts.{is_own, services_for}

-- a service that is looked for among those is one of them
pub among : (services : List Facts) (tree : Tree) (name : List ℕ) (s : Facts) → service_of (services_for services tree) name ≡ Some s → service_of services name ≡ Some s
among services tree name s found = by (is_own tree) found
  where
    by : (own : Bool) → service_of (if own then [] else services) name ≡ Some s → service_of services name ≡ Some s
    by true none = let wrong : None ≡ Some s = none in absurd (cc wrong)
    by false is = is
