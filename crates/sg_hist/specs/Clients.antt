-- The calls of clients: which may be made, and what of a history is one client's.
use Rattle.std.specs.Prelude.{ℕ, ◌≡◌, ◌+◌, ◌==◌, ◌≤◌, true, List, [], ◌∷◌, ◌++◌, filter, length}
use Rattle.sg_facts.specs.sg_base.declared.call.Call.{Call}
use Rattle.sg_facts.specs.declared.entry.Entry.{Entry}
use Rattle.sg_facts.specs.Facts.{Facts}
use Rattle.sg_facts.specs.Interface.{Declared, declares}
use Rattle.sg_facts.specs.Kinds.{AreWords, IsCall}
use Rattle.sg_facts.specs.Limits.{last_client}

-- a call of a function of the service, with the arguments that it takes, by a client that there is
pub record IsClientsCall (facts : Facts) (call : Call) : Type 0 where
  pub is_call : IsCall facts call
  pub words : AreWords call.args
  pub client_first : 1 ≤ call.client
  pub client_last : call.client ≤ last_client

-- a call that a client may make: of a declared function, with the arguments that it takes
pub record MayBeMade (i : Declared) (call : Call) : Type 0 where
  pub is_clients : IsClientsCall i.facts call
  pub declared : declares i call.fun ≡ true

-- the entries of a client, in their order
abbrev pub calls_of : List Entry → ℕ → List Entry
calls_of history client = filter (λ e. e.call.client == client) history

-- the calls of each client are numbered one after the other, after earlier entries
abbrev pub AreNumbered : List Entry → List Entry → Type 0
AreNumbered before [] = Unit {0}
AreNumbered before (e ∷ history) = (e.call.seq ≡ length (calls_of before e.call.client) + 1) × AreNumbered (before ++ e ∷ []) history
