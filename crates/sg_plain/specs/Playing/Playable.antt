-- Which scripts are played.
use Rattle.std.specs.Prelude.{ℕ, ◌≡◌, ◌<◌, ◌≤◌, true, not, nat_le, List, [], ◌∷◌, length}
use Rattle.std.specs.List.{list_all}
use Rattle.sg_facts.specs.Facts.{fun_at}
use Rattle.sg_facts.specs.Interface.{Declared}
use Rattle.sg_facts.specs.Limits.{last_client, most_script_calls}
use Rattle.sg_plain.specs.Calls.{script_calls}
use Rattle.sg_script.specs.declared.script.Script.{Script}
use Rattle.sg_plain.specs.Script.{calls_fit}

-- clients stand in ascending numbers above one, up to the greatest that there may be
abbrev pub AreClients : {C : Type 0} → ℕ → List (ℕ × List C) → Type 0
AreClients above [] = Unit {0}
AreClients above (c ∷ clients) = (above < c.0) × (c.0 ≤ last_client) × AreClients c.0 clients

-- each client's calls fit the interface, numbered from 1, and are no more than a script may have; the clients ascend; no call of
-- the setup is of a function that may wait; and the turns of the schedule are those of clients, numbered from 1
pub record IsPlayable (i : Declared) (script : Script) : Type 0 where
  pub fit : (client : ℕ) → calls_fit i 1 (script_calls script client) ≡ true
  pub few : (client : ℕ) → length (script_calls script client) ≤ most_script_calls
  pub clients : AreClients 0 script.clients
  pub setup : list_all (λ c. not (fun_at i.facts.funs c.fun).block) script.setup ≡ true
  pub turns : list_all (λ client. nat_le 1 client) script.schedule ≡ true
