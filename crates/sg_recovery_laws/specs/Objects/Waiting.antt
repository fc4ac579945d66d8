-- Replies that are held: answered at the object of the history, and not yet in it.
use Rattle.std.specs.Prelude.{ℕ, ◌≡◌, ◌≢◌, false, List, [], ◌∷◌}
use Rattle.sg_facts.specs.sg_base.Lists.{Each}
use Rattle.sg_facts.specs.declared.entry.Entry.{Entry}
use Rattle.sg_facts.specs.Facts.{Facts, is_visible}
use Rattle.sg_facts.specs.Legal.{Table}
use Rattle.sg_facts.specs.Object.{Object}
use Rattle.sg_recovery_laws.specs.Objects.Serving.{IsAnsweredAt}

-- no entry is of a client
abbrev pub NoneBy : ℕ → List Entry → Type 0
NoneBy client es = Each (λ e. e.call.client ≢ client) es

-- a reply is held at an object
pub record IsWaiting (facts : Facts) (ask : Table) (o : Object) (e : Entry) : Type 0 where
  pub hidden : is_visible facts e.call.fun ≡ false
  pub answered : IsAnsweredAt facts ask o e.call e.reply

-- replies of different clients are held
abbrev pub AreWaiting : Facts → Table → Object → List Entry → Type 0
AreWaiting facts ask o [] = Unit {0}
AreWaiting facts ask o (e ∷ es) = IsWaiting facts ask o e × NoneBy e.call.client es × AreWaiting facts ask o es
