-- Where in a text it stands why its service can't be recovered.
use Rattle.std.specs.Prelude.{ℕ, ◌-◌, List, slice_get, unwrap_or}
use Rattle.std.specs.Option.{option_map_or}
use Rattle.sg_describe.specs.sg_facts.Facts.{Facts, fun_at}
use Rattle.sg_check.specs.sg_check_statements.sg_parse.declared.tree.Statement.{Statement}
use Rattle.sg_check.specs.sg_check_statements.sg_parse.sg_rules.declared.tree.Rule.{Rule}
use Rattle.sg_check.specs.sg_check_statements.sg_parse.sg_rules.declared.tree.Rule.TheVariants.{Refuse, Wait, Give, GiveRow, GiveFirst}
use Rattle.sg_safe.specs.declared.reason.Unsafe.{Unsafe}
use Rattle.sg_safe.specs.declared.reason.Unsafe.TheVariants.{CountsFar as FarReason, Recounts as RecountsReason, Overtaken as OvertakenReason, Fails}
use Rattle.sg_safe.specs.declared.reason.FailingCall.{FailingCall}
use Rattle.sg_safe.specs.declared.reason.Obstacle.{Obstacle}
use Rattle.sg_safe.specs.declared.reason.Obstacle.TheVariants.{NoClient as NoClientThere, ByRule, PastMost}
use Rattle.sg_describe.specs.Said.{most_said, proto_place, rules_said}
use Rattle.sg_own.specs.declared.fault.SafetyKind.{SafetyKind}
use Rattle.sg_own.specs.declared.fault.SafetyKind.TheVariants.{CountsFar, Recounts, Overtaken, NoClient, Refusable, Overflows}

-- the kind of what may make a replayed call fail
abbrev pub obstacle_kind : Obstacle → SafetyKind
obstacle_kind (NoClientThere field) = NoClient
obstacle_kind (ByRule rule) = Refusable
obstacle_kind (PastMost field) = Overflows

-- the kind of a reason
abbrev pub kind_of : Unsafe → SafetyKind
kind_of (FarReason field) = CountsFar
kind_of (RecountsReason fun field) = Recounts
kind_of (OvertakenReason waiter rule by) = Overtaken
kind_of (Fails walk call) = obstacle_kind call.obstacle

-- the place of a rule: of its first word
abbrev pub rule_place : Rule → ℕ
rule_place (Refuse at code when) = at
rule_place (Wait at when) = at
rule_place (Give at term when) = at
rule_place (GiveRow at picks code) = at
rule_place (GiveFirst at terms picks code) = at

-- the name of the function of a number
abbrev pub name_at : Facts → ℕ → List ℕ
name_at facts fun = (fun_at facts.funs fun).name

-- the place of the prototype of a function; 0 where it has none
abbrev pub fun_place : Facts → List Statement → ℕ → ℕ
fun_place facts statements fun = unwrap_or (proto_place (name_at facts fun) statements) 0

-- the place of a rule of a function, both numbered from 1; 0 where there is none
abbrev pub rule_at : Facts → List Statement → ℕ → ℕ → ℕ
rule_at facts statements fun rule = option_map_or rule_place (slice_get (rules_said (name_at facts fun) statements) (rule - 1)) 0

-- the place of what is said of the greatest number of a field, which is numbered from 0; 0 where nothing is
abbrev pub most_place : Facts → List Statement → ℕ → ℕ
most_place facts statements x =
    option_map_or (λ field. option_map_or (λ n. n.at) (most_said field.name statements) 0) (slice_get facts.fields x) 0

-- where it stands what may make a replayed call fail: the rule, else the function's prototype
abbrev pub call_place : Facts → List Statement → FailingCall → ℕ
call_place facts statements call = elim call.obstacle [ ByRule rule ↦ rule_at facts statements call.fun rule | _ ↦ fun_place facts statements call.fun ]

-- where it stands why a service can't be recovered: a number that is too great where it is said, a rule where it stands, else the function's
-- prototype
abbrev pub reason_place : Facts → List Statement → Unsafe → ℕ
reason_place facts statements (FarReason field) = most_place facts statements field
reason_place facts statements (RecountsReason fun field) = fun_place facts statements fun
reason_place facts statements (OvertakenReason waiter rule by) = rule_at facts statements waiter rule
reason_place facts statements (Fails walk call) = call_place facts statements call
