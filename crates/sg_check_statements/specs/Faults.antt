-- Which interface a text declares, and what is first wrong with it.
use Rattle.std.specs.Prelude.{ℕ, ◌≡◌, ◌<◌, true, ◌&&◌, not, List, ◌∷◌, ◌++◌, None, Some, codes, filter, map, []}
use Rattle.std.specs.Bool.{then_some}
use Rattle.std.specs.List.{list_any, position_or_len}
use Rattle.sg_facts.specs.Facts.{Facts, fun_at}
use Rattle.sg_facts.specs.Fields.{number_of as number_of_bits}
use Rattle.sg_facts.specs.Fits.{Fits, IsReached, needs_reach}
use Rattle.sg_facts.specs.Interface.{Declared}
use Rattle.sg_parse.specs.declared.tree.Statement.{Statement}
use Rattle.sg_parse.specs.declared.tree.Tree.{Tree}
use Rattle.sg_check_statements.specs.declared.fault.CheckKind.{CheckKind}
use Rattle.sg_check_statements.specs.declared.fault.CheckKind.TheVariants.{UnknownService, DuplicateName, UnknownFunction, BadParams, WrongFact, WrongFlag, WrongEffect, ForeignTransition, ForeignRecover, NoCreation, Unreached, NoWalk}
use Rattle.sg_check_statements.specs.Says.{has_proto, says_of, service_of}
use Rattle.sg_check_statements.specs.Flaws.{duplicate, flaw_of, wrong_fact, IsProtoWhere, HasNoWalk}
use Rattle.sg_check_statements.specs.contracts.fault.CheckKindPartialEq.TheImpl.{eq-value as same_kind}

-- the interface that a text declares of a service: the functions that have a prototype, the version of its language, whether
-- it is eager, and those of the service's transitions and recover steps that a statement names
abbrev pub interface_of : Facts → Tree → Declared
interface_of facts tree = record {
  facts = facts;
  declared = number_of_bits (map (λ f. has_proto tree.statements f.name) facts.funs);
  version = tree.facts.version;
  eager = tree.facts.eager;
  moves = filter (λ p. says_of tree.statements (codes "sm_transition") (fun_at facts.funs p.0).name (fun_at facts.funs p.1).name) facts.moves;
  steps = filter (λ p. says_of tree.statements (codes "sm_recover") (fun_at facts.funs p.0).name (fun_at facts.funs p.1).name) facts.steps;
}

-- the first statement that has a flaw, judged with those before it, has it at this place
pub record IsFirstStatement (Flaw : List Statement → Statement → ℕ → Type 0) (statements : List Statement) (at : ℕ) : Type 0 where
  pub before : List Statement
  pub one : Statement
  pub after : List Statement
  pub split : statements ≡ before ++ one ∷ after
  pub flaw : Flaw before one at
  pub none : (b : List Statement) (s : Statement) (a : List Statement) (place : ℕ) → before ≡ b ++ s ∷ a → Flaw b s place → ⊥

-- what is wrong of a kind with a text of this service, and its first place
abbrev pub FirstIn : Facts → Tree → CheckKind → ℕ → Type 0
FirstIn facts tree WrongFact at = wrong_fact facts tree.facts ≡ Some at
FirstIn facts tree NoCreation at = then_some (not (list_any (λ f. f.creation && has_proto tree.statements f.name) facts.funs)) 0 ≡ Some at
FirstIn facts tree Unreached at =
    let i : Declared = interface_of facts tree in
    IsFirstStatement (λ before s p. IsProtoWhere facts (λ n. (needs_reach i n ≡ true) × (IsReached i n → ⊥)) s p) tree.statements at
FirstIn facts tree NoWalk at = IsFirstStatement (λ before s p. IsProtoWhere facts (HasNoWalk (interface_of facts tree)) s p) tree.statements at
FirstIn facts tree kind at = IsFirstStatement (λ before s p. flaw_of facts tree.statements kind s ≡ Some p) tree.statements at

-- what is wrong of a kind, and its first place in the text
abbrev pub FirstOf : List Facts → Tree → CheckKind → ℕ → Type 0
FirstOf services tree UnknownService at = (service_of services tree.facts.service.bytes ≡ None) × (tree.facts.service.at ≡ at)
FirstOf services tree DuplicateName at = IsFirstStatement (λ before s p. duplicate before s ≡ Some p) tree.statements at
FirstOf services tree kind at = (facts : Facts) × (service_of services tree.facts.service.bytes ≡ Some facts) × FirstIn facts tree kind at

-- the kinds in the order in which they are looked for, each with its name
abbrev pub check_kinds : List (CheckKind × List ℕ)
check_kinds =
    (UnknownService, codes "UnknownService") ∷ (DuplicateName, codes "DuplicateName") ∷ (UnknownFunction, codes "UnknownFunction")
    ∷ (BadParams, codes "BadParams") ∷ (WrongFact, codes "WrongFact") ∷ (WrongFlag, codes "WrongFlag") ∷ (WrongEffect, codes "WrongEffect")
    ∷ (ForeignTransition, codes "ForeignTransition") ∷ (ForeignRecover, codes "ForeignRecover") ∷ (NoCreation, codes "NoCreation")
    ∷ (Unreached, codes "Unreached") ∷ (NoWalk, codes "NoWalk") ∷ []

-- the place of a kind in that order
abbrev pub kind_rank : CheckKind → ℕ
kind_rank kind = position_or_len (λ p. same_kind.it p.0 kind) check_kinds

-- what is first wrong with a text: of the kinds that are wrong the earliest, at its first place
pub record IsFault (services : List Facts) (tree : Tree) (kind : CheckKind) (at : ℕ) : Type 0 where
  pub here : FirstOf services tree kind at
  pub earliest : (other : CheckKind) (place : ℕ) → kind_rank other < kind_rank kind → FirstOf services tree other place → ⊥

-- a text is accepted: nothing is wrong with it, this is the interface that it declares, and that can be recovered
pub record IsAccepted (services : List Facts) (tree : Tree) (i : Declared) : Type 0 where
  pub none : (kind : CheckKind) (place : ℕ) → FirstOf services tree kind place → ⊥
  pub facts : Facts
  pub service : service_of services tree.facts.service.bytes ≡ Some facts
  pub declared : i ≡ interface_of facts tree
  pub fits : Fits i
