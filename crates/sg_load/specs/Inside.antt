-- What the contracts of private functions cite.
use Rattle.std.specs.Prelude.{ℕ, ◌+◌, ◌-◌, ◌/◌, ◌^◌, List, [], replicate}
use Rattle.sg_load.specs.declared.kind.ServiceKind.{ServiceKind}
use Rattle.sg_load.specs.Generated.{groups_from}
use Rattle.sg_load.specs.Services.{call, group_size, setup_count}
use Rattle.sg_plain.specs.sg_script.Flaws.{calls_before}
use Rattle.sg_plain.specs.sg_script.declared.script.ScriptCall.{ScriptCall}

-- ---- sizes

-- the clients, numbered from 1
abbrev pub client_count : ℕ
client_count = 8

-- the calls of each client; those of the setup count as calls of client 1
abbrev pub calls_each : ℕ
calls_each = 2500

-- how many stops there are
abbrev pub stop_count : ℕ
stop_count = 32

-- the greatest distance from one stop to the next, in points
abbrev pub most_distance : ℕ
most_distance = 1500

-- the greatest number of calls of a setup of any service
abbrev pub most_setup : ℕ
most_setup = 16

-- the greatest number of calls of a group of any service
abbrev pub most_group : ℕ
most_group = 5

-- ---- draws

-- the number of a draw: the upper 32 bits of the state after it
abbrev pub upper : ℕ → ℕ
upper x = x / 2 ^ 32

-- ---- calls

-- the calls of the setup
abbrev pub setup_of : ServiceKind → List ScriptCall
setup_of service = replicate (setup_count service) (call 1 [])

-- how many groups a client makes of the calls that are left to it: client 1 has those of the setup before
abbrev pub groups_of : ServiceKind → ℕ → ℕ
groups_of service client = (calls_each - calls_before (setup_count service) client) / group_size service

-- the calls of a client but for the setup
abbrev pub calls_of_client : ServiceKind → ℕ → ℕ → List ScriptCall
calls_of_client service client x = groups_from service client x (1 + calls_before (setup_count service) client) 1 (groups_of service client)
