-- The script that is generated for a service from a number.
use Rattle.std.specs.Prelude.{ℕ, zero, suc, ◌+◌, ◌-◌, ◌/◌, ◌^◌, List, [], ◌∷◌, ◌++◌, replicate}
use Rattle.sg_load.specs.declared.kind.ServiceKind.{ServiceKind}
use Rattle.sg_load.specs.Drawn.{after_draws, drawn, stops_from}
use Rattle.sg_load.specs.Services.{call, group_of, group_size, setup_count}
use Rattle.sg_plain.specs.sg_script.Flaws.{calls_before}
use Rattle.sg_plain.specs.sg_script.declared.script.Script.{Script}
use Rattle.sg_plain.specs.sg_script.declared.script.ScriptCall.{ScriptCall}

-- so many groups of a client, a draw for each, from the group on that begins with the client's call of a number
unfoldable pub groups_from : ServiceKind → ℕ → ℕ → ℕ → ℕ → ℕ → List ScriptCall
groups_from service client x first group zero = []
groups_from service client x first group (suc count) =
    group_of service client first group (drawn x / 2 ^ 32)
    ++ groups_from service client (drawn x) (first + group_size service) (group + 1) count

-- so many clients, from one on, with their calls but for the setup: each makes groups of the calls that are left to it of 2,500, among
-- which client 1 counts those of the setup; the draws of one go on where those of the one before it ended
unfoldable pub clients_from : ServiceKind → ℕ → ℕ → ℕ → List (ℕ × List ScriptCall)
clients_from service client x zero = []
clients_from service client x (suc count) =
    let before = calls_before (setup_count service) client in
    let groups = (2500 - before) / group_size service in
    (client, groups_from service client x (1 + before) 1 groups) ∷ clients_from service (client + 1) (after_draws x groups) count

-- the script of 8 clients with 32 stops: the stops are drawn first, from the number, and then the clients' calls; nothing is scheduled
abbrev pub generated : ServiceKind → ℕ → Script
generated service number = record {
  setup = replicate (setup_count service) (call 1 []);
  clients = clients_from service 1 (after_draws number 32) 8;
  schedule = [];
  stops = stops_from number 0 32;
}
