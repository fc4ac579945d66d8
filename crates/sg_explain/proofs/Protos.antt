-- The prototype at a place, and what is stuck in its state.
use Rattle.std.proofs.Common.{◌≡◌, ℕ, ◌+◌, ◌<◌, ◌≤◌, Bool, List, [], ◌∷◌, None, Some, length, take, get_or, refl, sym, ◌∙◌, ap, subst, inl, inr, arith}
use Rattle.std.specs.Prelude.{◌==◌, if◌then◌else◌, MatchOption, unwrap_or}
use Rattle.std.specs.declared.option.Option.{Option}
use Rattle.std.specs.List.{Contains}
use Rattle.std.proofs.lemmas.Bool.Decides.{eqb_tells}
use Rattle.std.proofs.lemmas.List.{take_all}
use Rattle.std.proofs.lemmas.List.Elements.{Contains-append_right}
use Rattle.sg_input.specs.sg_facts.Facts.{Facts}
use Rattle.sg_input.specs.sg_facts.Interface.{Declared}
use Rattle.sg_input.proofs.sg_walk.ReachedStates.Marks.{at_place}
use Rattle.sg_input.specs.sg_check_statements.Faults.{FirstOf, IsFirstStatement, interface_of}
use Rattle.sg_input.specs.sg_check_statements.Flaws.{HasNoWalk, IsProtoWhere}
use Rattle.sg_input.specs.sg_check_statements.Says.{fun_number, service_of}
use Rattle.sg_input.specs.sg_check_statements.declared.fault.CheckKind.TheVariants.{NoWalk}
use Rattle.sg_input.specs.sg_parse.declared.tree.Statement.{Statement}
use Rattle.sg_input.specs.sg_parse.declared.tree.Statement.TheVariants.{Proto}
use Rattle.sg_input.specs.sg_parse.declared.tree.Tree.{Tree}
use Rattle.sg_input.specs.sg_walk.declared.place.Triple.{Triple}
use Rattle.sg_explain.specs.Stuck.{IsFirstStuck, IsStuckLine}
use Rattle.sg_explain.specs.Inside.Pieces.{stuck_line}
use Rattle.sg_explain.specs.Inside.Search.{IsFoundAt, IsFoundIn, proto_at}
use Rattle.sg_explain.proofs.Searching.{either_one}

-- a prototype at its place
found_here : (i : Declared) (state n place at : ℕ) (found : Option Triple) → place ≡ at → n ≡ state → IsFoundAt i state found
    → MatchOption found ((place ≡ at) × HasNoWalk i n → ⊥) (λ t. (place ≡ at) × IsFirstStuck i n t)
found_here i state n place at None here same none = λ lacks. none (subst (HasNoWalk i) same lacks.1)
found_here i state n place at (Some t) here same is = (here, subst (λ m. IsFirstStuck i m t) (sym same) is)

some_number : (place at n state : ℕ) → (if place == at then Some n else None) ≡ Some state → (place ≡ at) × (n ≡ state)
some_number place at n state is = elim (eqb_tells place at) [
  | inl here ↦ let some : Some n ≡ Some state = sym (ap (λ (b : Bool). if b then Some n else None) here.0) ∙ is in (here.1, cc some)
  | inr there ↦ let none : None ≡ Some state = sym (ap (λ (b : Bool). if b then Some n else None) there.0) ∙ is in absurd (cc none)
]

no_number : (place at n : ℕ) → (if place == at then Some n else None) ≡ None → place ≡ at → ⊥
no_number place at n isn't same = elim (eqb_tells place at) [
  | inl here ↦ let some : Some n ≡ None = sym (ap (λ (b : Bool). if b then Some n else None) here.0) ∙ isn't in cc some
  | inr there ↦ there.1 same
]

pub found_in : (i : Declared) (s : Statement) (at state : ℕ) (found : Option Triple) → proto_at i.facts s at ≡ Some state → IsFoundAt i state found → IsFoundIn i s at found
found_in i (Proto ret name params) at state found is found_at =
    let both = some_number name.at at (unwrap_or (fun_number i.facts.funs name.bytes) 0) state is in
    found_here i state (unwrap_or (fun_number i.facts.funs name.bytes) 0) name.at at found both.0 both.1 found_at
found_in i _ at state found is found_at = absurd (cc is)

pub none_in : (i : Declared) (s : Statement) (at : ℕ) → proto_at i.facts s at ≡ None → IsFoundIn i s at None
none_in i (Proto ret name params) at isn't = λ lacks. no_number name.at at (unwrap_or (fun_number i.facts.funs name.bytes) 0) isn't lacks.0
none_in i _ at isn't = λ lacks. lacks

pub not_found : (i : Declared) (s : Statement) (at : ℕ) (found : Option Triple) → found ≡ None → IsFoundIn i s at found → IsProtoWhere i.facts (HasNoWalk i) s at → ⊥
not_found i s at None none is = is
not_found i s at (Some t) none is = absurd (cc none)

pub is_found : (i : Declared) (s : Statement) (at : ℕ) (found : Option Triple) (t : Triple) → found ≡ Some t → IsFoundIn i s at found → IsProtoWhere i.facts (λ n. IsFirstStuck i n t) s at
is_found i s at None t some is = absurd (cc some)
is_found i s at (Some other) t some is = let same : other ≡ t = cc some in subst (λ u. IsProtoWhere i.facts (λ n. IsFirstStuck i n u) s at) same is

-- ---- statement after statement

-- no statement of these is a prototype at a place, of a function whose state has no walk
abbrev pub NoneIn : Declared → ℕ → List Statement → Type 0
NoneIn i at statements = (s : Statement) → Contains statements s → IsProtoWhere i.facts (HasNoWalk i) s at → ⊥

pub none_at_all : (i : Declared) (at : ℕ) → NoneIn i at []
none_at_all i at s (k, within, is) lacks = absurd (omega (arith, within))

pub none_more : (i : Declared) (at : ℕ) (statements : List Statement) (k : ℕ) (d : Statement) → k < length statements → NoneIn i at (take k statements)
    → (IsProtoWhere i.facts (HasNoWalk i) (get_or statements k d) at → ⊥) → NoneIn i at (take (k + 1) statements)
none_more i at statements k d within none free s has lacks = elim (either_one statements k d within s has) [
  | inl before ↦ none s before lacks
  | inr same ↦ free (subst (λ x. IsProtoWhere i.facts (HasNoWalk i) x at) same lacks)
]

pub found_one : (i : Declared) (at : ℕ) (statements : List Statement) (k : ℕ) (s : Statement) (t : Triple) → k < length statements → s ≡ get_or statements k s
    → IsProtoWhere i.facts (λ n. IsFirstStuck i n t) s at
    → (proto : Statement) × Contains statements proto × IsProtoWhere i.facts (λ n. IsFirstStuck i n t) proto at
found_one i at statements k s t within is first =
    (s, subst (Contains statements) (sym is) (at_place statements k s within), first)

pub not_all : (i : Declared) (at : ℕ) (statements : List Statement) (n : ℕ) → length statements ≤ n → NoneIn i at (take n statements)
    → (proto : Statement) × Contains statements proto × IsProtoWhere i.facts (HasNoWalk i) proto at → ⊥
not_all i at statements n enough none (proto, has, lacks) = none proto (subst (λ l. Contains l proto) (sym (take_all n statements enough)) has) lacks

-- ---- the text's fault

-- the first statement that has a flaw is such a prototype
flawed_proto : (facts : Facts) (tree : Tree) (at : ℕ) → IsFirstStatement (λ before s p. IsProtoWhere facts (HasNoWalk (interface_of facts tree)) s p) tree.statements at
    → (proto : Statement) × Contains tree.statements proto × IsProtoWhere facts (HasNoWalk (interface_of facts tree)) proto at
flawed_proto facts tree at it = (
  it.one,
  subst (λ l. Contains l it.one) (sym it.split) (Contains-append_right it.before (it.one ∷ it.after) it.one (0, omega arith, refl)),
  it.flaw,
)

-- the prototype that a fault is told of
faulty_proto : (services : List Facts) (tree : Tree) (at : ℕ) (facts : Facts) → service_of services tree.facts.service.bytes ≡ Some facts → FirstOf services tree NoWalk at
    → (proto : Statement) × Contains tree.statements proto × IsProtoWhere facts (HasNoWalk (interface_of facts tree)) proto at
faulty_proto services tree at facts service (other, its, first) =
    let both : Some other ≡ Some facts = sym its ∙ service in
    let same : other ≡ facts = cc both in
    flawed_proto facts tree at (subst (λ f. IsFirstStatement (λ before s p. IsProtoWhere f (HasNoWalk (interface_of f tree)) s p) tree.statements at) same first)

-- the service of a text that has such a fault
pub has_service : (services : List Facts) (tree : Tree) (at : ℕ) → FirstOf services tree NoWalk at → service_of services tree.facts.service.bytes ≡ None → ⊥
has_service services tree at (facts, its, first) none = let both : Some facts ≡ None = sym its ∙ none in cc both

-- under another name of the interface and of the statements
pub proto_for : (services : List Facts) (tree : Tree) (at : ℕ) (facts : Facts) (i : Declared) (statements : List Statement) → service_of services tree.facts.service.bytes ≡ Some facts
    → i ≡ interface_of facts tree → statements ≡ tree.statements → FirstOf services tree NoWalk at
    → (proto : Statement) × Contains statements proto × IsProtoWhere i.facts (HasNoWalk i) proto at
proto_for services tree at facts i statements service is lent first =
    let it = faulty_proto services tree at facts service first in (
      it.0,
      subst (λ l. Contains l it.0) (sym lent) it.1,
      subst (λ j. IsProtoWhere j.facts (HasNoWalk j) it.0 at) (sym is) it.2,
    )

-- what was found is what is told
pub stuck_told : (services : List Facts) (tree : Tree) (at : ℕ) (facts : Facts) (i : Declared) (statements : List Statement) (t : Triple) → service_of services tree.facts.service.bytes ≡ Some facts
    → i ≡ interface_of facts tree → statements ≡ tree.statements
    → (proto : Statement) × Contains statements proto × IsProtoWhere i.facts (λ n. IsFirstStuck i n t) proto at → IsStuckLine services tree at (stuck_line facts t)
stuck_told services tree at facts i statements t service is lent (proto, there, its) = record {
  facts = facts;
  service = service;
  proto = proto;
  there = subst (λ l. Contains l proto) lent there;
  t = t;
  its = subst (λ j. IsProtoWhere j.facts (λ n. IsFirstStuck j n t) proto at) is its;
  is = refl;
}
