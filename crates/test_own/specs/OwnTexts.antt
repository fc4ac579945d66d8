-- The trees of texts that describe locks and events as services of their own, each name at place 0, and what it is that they answer as the
-- built-in services do.
use Rattle.std.specs.Prelude.{ℕ, ◌≡◌, ◌≤◌, List, [], ◌∷◌, ◌++◌, None, Some, codes, length}
use Rattle.sg_describe.specs.sg_described.Described.{Described}
use Rattle.sg_describe.specs.sg_described.DescribedSound.{IsDescribedSound}
use Rattle.sg_describe.specs.sg_described.Meaning.{described_parts, described_table}
use Rattle.sg_shape.specs.sg_check_statements.sg_parse.declared.tree.Statement.{Statement}
use Rattle.sg_shape.specs.sg_check_statements.sg_parse.declared.tree.Statement.TheVariants.{Answer}
use Rattle.sg_shape.specs.sg_check_statements.sg_parse.declared.tree.Tree.{Tree}
use Rattle.sg_shape.specs.sg_check_statements.sg_parse.sg_rules.declared.tree.Operand.{Operand}
use Rattle.sg_shape.specs.sg_check_statements.sg_parse.sg_rules.declared.tree.Operand.TheVariants.{Number, Caller, Argument, Named}
use Rattle.sg_shape.specs.sg_check_statements.sg_parse.sg_rules.declared.tree.Operator.TheVariants.{Least}
use Rattle.sg_shape.specs.sg_check_statements.sg_parse.sg_rules.declared.tree.Relation.{Relation}
use Rattle.sg_shape.specs.sg_check_statements.sg_parse.sg_rules.declared.tree.Relation.TheVariants.{Is, IsNot, Above}
use Rattle.sg_shape.specs.sg_check_statements.sg_parse.sg_rules.declared.tree.Rule.{Rule}
use Rattle.sg_shape.specs.sg_check_statements.sg_parse.sg_rules.declared.tree.Rule.TheVariants.{Refuse, Wait, Give}
use Rattle.sg_shape.specs.sg_check_statements.sg_parse.sg_rules.declared.tree.Term.{Term}
use Rattle.sg_shape.specs.sg_check_statements.sg_parse.sg_rules.declared.tree.Tests.{Tests}
use Rattle.sg_load.specs.Services.{answering}
use Rattle.sg_load.specs.declared.kind.ServiceKind.{ServiceKind}
use Rattle.sg_describe.specs.sg_facts.Laws.{Passes}
use Rattle.sg_describe.specs.sg_facts.Object.{Object}
use Rattle.sg_describe.specs.sg_facts.sg_base.declared.call.Call.{Call}
use Rattle.test_own.specs.Standard.{event_tree, lock_tree, named}

-- ---- rules

-- a field of a name, as an operand
abbrev field : List ℕ → Operand
field name = Named (named name)

-- an operand alone
abbrev only : Operand → Term
only a = record { first = a; more = None }

-- where the first of two operands stands in a relation to the second
abbrev only_if : Operand → Relation → Operand → Tests
only_if a relation b = record { tests = record { left = only a; relation = relation; right = only b } ∷ []; rows = None }

-- the rules of a function
abbrev answer : List ℕ → List Rule → Statement
answer fun rules = Answer (named fun) rules

-- a text of version 3 with these statements more
abbrev own : Tree → List Statement → Tree
own tree more = record tree { facts = record tree.facts { version = 3 }; statements = tree.statements ++ more }

-- ---- locks and events

abbrev zero_word : Operand
zero_word = Number (named (codes "0"))

abbrev pub own_lock_tree : Tree
own_lock_tree = own lock_tree (
    answer (codes "lock_take") (Refuse 0 (named (codes "Held")) (only_if (field (codes "owner")) Is (Caller 0)) ∷ Wait 0 (only_if (field (codes "owner")) Above zero_word) ∷ [])
    ∷ answer (codes "lock_release") (Refuse 0 (named (codes "NotOwner")) (only_if (field (codes "owner")) IsNot (Caller 0)) ∷ [])
    ∷ answer (codes "lock_free") (Refuse 0 (named (codes "Held")) (only_if (field (codes "owner")) Above zero_word) ∷ [])
    ∷ []
    )

abbrev pub own_event_tree : Tree
own_event_tree = own event_tree (
    answer (codes "evt_wait") (Wait 0 (only_if (field (codes "count")) Is zero_word) ∷ [])
    ∷ answer (codes "evt_take") (Give 0 (record { first = Argument (named (codes "2")); more = Some (Least, field (codes "count")) }) (record { tests = []; rows = None }) ∷ [])
    ∷ []
    )

-- ---- what they have in common with the built-in services

-- a described service has the facts of a built-in one, answers what that does at each object that it can come to, where the guard lets the call
-- pass, and has as many parts
pub record AnswersAs (d : Described) (kind : ServiceKind) : Type 0 where
  pub facts : d.facts ≡ (answering kind).facts
  pub ask : (o : Object) (call : Call) → IsDescribedSound d o → Passes d.facts o call → described_table d o call ≡ (answering kind).ask o call
  pub parts : (fun : ℕ) → 1 ≤ fun → fun ≤ length d.facts.funs → described_parts d fun ≡ (answering kind).parts fun
