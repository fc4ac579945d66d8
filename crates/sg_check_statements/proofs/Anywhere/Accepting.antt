-- A text that is equal but for places to an accepted one once it is upgraded is accepted.
use Rattle.std.proofs.Common.{◌≡◌, ℕ, Bool, List, map, refl, sym, ◌∙◌, ap, subst}
use Rattle.std.specs.Prelude.{codes, filter}
use Rattle.std.specs.Option.{is_some}
use Rattle.sg_facts.specs.Facts.{Facts, fun_at}
use Rattle.sg_facts.specs.Fields.{number_of}
use Rattle.sg_facts.specs.Interface.{Declared}
use Rattle.sg_parse.specs.declared.tree.Tree.{Tree}
use Rattle.sg_parse.specs.Grammar.Plain.{plain, plain_statement}
use Rattle.sg_parse.specs.Grammar.Upgraded.{upgraded}
use Rattle.sg_check_statements.specs.declared.fault.CheckKind.{CheckKind}
use Rattle.sg_check_statements.specs.declared.fault.CheckKind.TheVariants.{UnknownService, DuplicateName, UnknownFunction, BadParams, WrongFact, WrongFlag, WrongEffect, ForeignTransition, ForeignRecover, NoCreation, Unreached, NoWalk}
use Rattle.sg_check_statements.specs.Faults.{FirstOf, IsAccepted, interface_of}
use Rattle.sg_check_statements.specs.Inside.Pieces.{IsOf, IsUnreached, bad_params, no_creation, unknown, wrong_effect, wrong_flag}
use Rattle.sg_check_statements.specs.Flaws.{HasNoWalk, duplicate, foreign, wrong_fact}
use Rattle.sg_check_statements.specs.Says.{has_proto, says_of, service_of}
use Rattle.sg_check_statements.proofs.Anywhere.Flawed.{bad_params_same, duplicate_same, foreign_same, no_creation_same, unknown_same, wrong_effect_same, wrong_fact_same, wrong_flag_same}
use Rattle.sg_check_statements.proofs.Anywhere.Said.{proto_same, says_of_same}
use Rattle.sg_check_statements.proofs.Anywhere.Splits.{first_flaw_there, first_where_there, some_at}
use Rattle.sg_check_statements.proofs.Anywhere.Versions.{fits_on, of_version, stuck_on, unreached_on}

-- the interface that a text declares, with each name at place 0
interface_same : (facts : Facts) (tree : Tree) → interface_of facts (plain tree) ≡ interface_of facts tree
interface_same facts tree =
    let of : (List ℕ → Bool) → (List ℕ → List ℕ → List ℕ → Bool) → Declared = λ has say. record {
      facts = facts;
      declared = number_of (map (λ f. has f.name) facts.funs);
      version = tree.facts.version;
      eager = tree.facts.eager;
      moves = filter (λ p. say (codes "sm_transition") (fun_at facts.funs p.0).name (fun_at facts.funs p.1).name) facts.moves;
      steps = filter (λ p. say (codes "sm_recover") (fun_at facts.funs p.0).name (fun_at facts.funs p.1).name) facts.steps;
    } in
    ap (λ has. of has (says_of (map plain_statement tree.statements))) (proto_same tree.statements)
    ∙ ap (λ say. of (has_proto tree.statements) say) (says_of_same tree.statements)

module _ (services : List Facts) (one other : Tree) (same : plain other ≡ plain (upgraded one)) where
  listed : map plain_statement other.statements ≡ map plain_statement one.statements
  listed = ap (λ t. t.statements) same

  named : other.facts.service.bytes ≡ one.facts.service.bytes
  named = ap (λ t. t.facts.service.bytes) same

  of_one : (facts : Facts) → IsOf services other facts → IsOf services one facts
  of_one facts is = ap (service_of services) (sym named) ∙ is

  -- the version of the one once it is upgraded
  abbrev later : ℕ
  later = (upgraded one).facts.version

  -- the interfaces are one but for the version
  declared_there : (facts : Facts) → interface_of facts other ≡ of_version later (interface_of facts one)
  declared_there facts = sym (interface_same facts other) ∙ ap (interface_of facts) same ∙ interface_same facts (upgraded one)

  -- where something is wrong with the one, it is with the other, at some place
  fault_there : (kind : CheckKind) (at : ℕ) → FirstOf services other kind at → (place : ℕ) × FirstOf services one kind place
  fault_there UnknownService at (none, is) = (one.facts.service.at, (ap (service_of services) (sym named) ∙ none, refl))
  fault_there DuplicateName at first =
      first_flaw_there (λ all before s. duplicate before s) (λ all before s. duplicate_same before s) other.statements one.statements at listed first
  fault_there UnknownFunction at (facts, is, first) =
      let r = first_flaw_there (λ all before s. unknown facts all s) (λ all before s. unknown_same facts all s) other.statements one.statements at listed first in
      (r.0, (facts, of_one facts is, r.1))
  fault_there BadParams at (facts, is, first) =
      let r = first_flaw_there (λ all before s. bad_params facts s) (λ all before s. bad_params_same facts s) other.statements one.statements at listed first in
      (r.0, (facts, of_one facts is, r.1))
  fault_there WrongFact at (facts, is, first) =
      let r = some_at (wrong_fact facts one.facts)
      (sym (wrong_fact_same facts (upgraded one).facts) ∙ ap (λ t. is_some (wrong_fact facts t.facts)) (sym same) ∙ wrong_fact_same facts other.facts ∙ ap is_some first) in
      (r.0, (facts, of_one facts is, r.1))
  fault_there WrongFlag at (facts, is, first) =
      let r = first_flaw_there (λ all before s. wrong_flag facts all s) (λ all before s. wrong_flag_same facts all s) other.statements one.statements at listed first in
      (r.0, (facts, of_one facts is, r.1))
  fault_there WrongEffect at (facts, is, first) =
      let r = first_flaw_there (λ all before s. wrong_effect facts all s) (λ all before s. wrong_effect_same facts all s) other.statements one.statements at listed first in
      (r.0, (facts, of_one facts is, r.1))
  fault_there ForeignTransition at (facts, is, first) =
      let r = first_flaw_there (λ all before s. foreign (codes "sm_transition") facts.moves facts s) (λ all before s. foreign_same (codes "sm_transition") facts.moves facts s) other.statements one.statements at listed first in
      (r.0, (facts, of_one facts is, r.1))
  fault_there ForeignRecover at (facts, is, first) =
      let r = first_flaw_there (λ all before s. foreign (codes "sm_recover") facts.steps facts s) (λ all before s. foreign_same (codes "sm_recover") facts.steps facts s) other.statements one.statements at listed first in
      (r.0, (facts, of_one facts is, r.1))
  fault_there NoCreation at (facts, is, first) =
      (at, (facts, of_one facts is, sym (no_creation_same facts one.statements) ∙ ap (λ l. no_creation facts l) (sym listed) ∙ no_creation_same facts other.statements ∙ first))
  fault_there Unreached at (facts, is, first) =
      let i : Declared = interface_of facts one in
      let r = first_where_there facts (IsUnreached (interface_of facts other)) (IsUnreached i)
      (λ n un. unreached_on i later i.version n (subst (λ j. IsUnreached j n) (declared_there facts) un))
      (λ n un. subst (λ j. IsUnreached j n) (sym (declared_there facts)) (unreached_on i i.version later n un)) other.statements one.statements at listed first in
      (r.0, (facts, of_one facts is, r.1))
  fault_there NoWalk at (facts, is, first) =
      let i : Declared = interface_of facts one in
      let r = first_where_there facts (HasNoWalk (interface_of facts other)) (HasNoWalk i)
      (λ n un. stuck_on i later i.version n (subst (λ j. HasNoWalk j n) (declared_there facts) un))
      (λ n un. subst (λ j. HasNoWalk j n) (sym (declared_there facts)) (stuck_on i i.version later n un)) other.statements one.statements at listed first in
      (r.0, (facts, of_one facts is, r.1))

  pub accepted_there : (i : Declared) → IsAccepted services one i → IsAccepted services other (of_version (upgraded one).facts.version i)
  accepted_there i a = record {
    none = λ kind place flaw. let r = fault_there kind place flaw in a.none kind r.0 r.1;
    facts = a.facts;
    service = ap (service_of services) named ∙ a.service;
    declared = ap (of_version later) a.declared ∙ sym (declared_there a.facts);
    fits = fits_on i i.version later a.fits;
  }
