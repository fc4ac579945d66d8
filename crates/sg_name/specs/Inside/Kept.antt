-- What is kept of names.
use Rattle.std.specs.Prelude.{◌≡◌, length}
use Rattle.sg_name.specs.declared.names.Names.TheInside.{Inside}
use Rattle.sg_name.specs.Inside.Both.{GoesBack}

-- both directions agree, and are as long
pub record DirectionsAgree (n : Inside) : Type 0 where
  pub back : GoesBack n.standings.entries n.ids.entries
  pub same : length n.ids.entries ≡ length n.standings.entries
