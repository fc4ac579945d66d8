-- The last kinds, one after the other.
use Rattle.std.proofs.Common.{◌≡◌, ℕ, ◌+◌, ◌<◌, ◌≤◌, Bool, true, false, List, [], ◌∷◌, None, Some, Ok, Err, length, map, refl, sym, ◌∙◌, ap, subst, inl, inr, arith}
use Rattle.std.specs.Prelude.{◌↔◌, if◌then◌else◌, nat_le, MatchOption, OnOk}
use Rattle.std.specs.declared.option.Option.{Option}
use Rattle.std.specs.declared.result.Result.{Result}
use Rattle.std.specs.List.{Contains, list_all}
use Rattle.std.specs.Result.{MatchResult}
use Rattle.std.specs.Str.{bytes_eq}
use Rattle.std.proofs.lemmas.Bool.{and_parts}
use Rattle.std.proofs.lemmas.Bool.Decides.{nat_tests}
use Rattle.std.proofs.lemmas.List.{length-map}
use Rattle.sg_check_statements.specs.sg_facts.declared.shape.Shape.{Shape}
use Rattle.sg_check_statements.specs.sg_facts.Facts.{Facts, facts_of, fun_of_shape}
use Rattle.sg_check_statements.specs.sg_facts.Interface.{Declared}
use Rattle.sg_check_statements.specs.sg_facts.Fits.{Fits}
use Rattle.sg_check_statements.specs.sg_parse.declared.tree.Statement.{Statement}
use Rattle.sg_check_statements.specs.sg_parse.declared.tree.Tree.{Tree}
use Rattle.sg_walk.specs.declared.place.Triple.{Triple}
use Rattle.sg_walk.specs.ReachedStates.Triples.{IsReachedTriple}
use Rattle.sg_walk.proofs.ReachedStates.Reaching.{made_declared}
use Rattle.sg_check_statements.specs.declared.fault.CheckError.{CheckError}
use Rattle.sg_check_statements.specs.declared.fault.CheckError.TheVariants.{NoMemory, Fault}
use Rattle.sg_check_statements.specs.declared.fault.CheckKind.{CheckKind}
use Rattle.sg_check_statements.specs.declared.fault.CheckKind.TheVariants.{UnknownService, DuplicateName, UnknownFunction, BadParams, WrongFact, WrongFlag, WrongEffect, ForeignTransition, ForeignRecover, NoCreation, Unreached, NoWalk}
use Rattle.sg_check_statements.specs.Faults.{FirstOf, IsAccepted, IsFault, IsFirstStatement, interface_of, kind_rank}
use Rattle.sg_check_statements.specs.Inside.Pieces.{NoStatement, IsUnreached}
use Rattle.sg_check_statements.proofs.Clear.{clear_more, each_statement}
use Rattle.sg_check_statements.specs.Flaws.{HasNoWalk, IsProtoWhere}
use Rattle.sg_check_statements.specs.Says.{service_of}
use Rattle.sg_check_statements.specs.Stages.{IsFirstFault}
use Rattle.sg_check.specs.declared.candidate.Candidate.{Candidate}
use Rattle.sg_check.specs.Inside.Answers.{IsThisFault}
use Rattle.sg_check.specs.Inside.Candidates.{HasReach, HasWalks, IsCandidate}
use Rattle.sg_check.specs.Inside.Numbers.{has_number, marked}
use Rattle.sg_check.specs.Inside.Reached.{AreTriples, AreUnreached}
use Rattle.sg_check.specs.Inside.Stuck.{AreStuck}
use Rattle.sg_check_statements.specs.Shapes.{IsSmall, all_differ, are_funs, are_shapes, is_shape, leaves_fun}
use Rattle.sg_check.proofs.Bits.{declared_one}
use Rattle.sg_check.proofs.Fitting.{all_six, fits}
use Rattle.sg_check.proofs.Marked.{first_where}
use Rattle.sg_check.proofs.Seeking.{stuck_same}
use Rattle.sg_check.proofs.Unique.{same_fault}

-- ---- shapes

by_name : (b : Bool) (s facts : Facts) (rest : Option Facts) → (if b then Some s else rest) ≡ Some facts → is_shape s ≡ true → (rest ≡ Some facts → is_shape facts ≡ true) → is_shape facts ≡ true
by_name true s facts rest is own later = let same : s ≡ facts = cc is in ap is_shape (sym same) ∙ own
by_name false s facts rest is own later = later is

-- a service that is found is one of the shapes
pub shape_of : (services : List Facts) (name : List ℕ) (facts : Facts) → are_shapes services ≡ true → service_of services name ≡ Some facts → is_shape facts ≡ true
shape_of [] name facts all is = absurd (cc is)
shape_of (s ∷ services) name facts all is =
    let parts = and_parts (is_shape s) (are_shapes services) all in
    by_name (bytes_eq s.name name) s facts (service_of services name) is parts.0 (shape_of services name facts parts.1)

module _ (facts : Facts) (shape : is_shape facts ≡ true) where
  limits : (nat_le (length facts.funs) 32 ≡ true) × (nat_le (length facts.fields) 8 ≡ true)
  limits =
      let six = all_six (nat_le (length facts.funs) 32) (nat_le (length facts.fields) 8) (all_differ (map (λ f. f.name) facts.funs)) (list_all (are_funs (length facts.funs)) facts.moves)
      (list_all (are_funs (length facts.funs)) facts.steps) (list_all (λ f. leaves_fun (length facts.funs) f.leaves) facts.funs) shape in
      (six.0, six.1)

  pub few_funs : length facts.funs ≤ 32
  few_funs = let l = limits.0 in grind (arith, nat_tests, l)

  pub few_fields : length facts.fields ≤ 8
  few_fields = let l = limits.1 in grind (arith, nat_tests, l)

  -- what descriptors can come to was made by a function that is declared
  pub made_small : (tree : Tree) (t : Triple) → IsReachedTriple (interface_of facts tree) t → t.made ≤ 32
  made_small tree t (set, number, reached) =
      let it = declared_one facts tree t.made (made_declared (interface_of facts tree) t.made t.state set reached) in
      let few = few_funs in
      omega (arith, it.1, it.2, few)

  -- so all that descriptors can come to is listed
  pub all_triples : (tree : Tree) (i : Declared) (triples : List Triple) → i ≡ interface_of facts tree → ((t : Triple) → Contains triples t → IsReachedTriple i t)
      → ((t : Triple) → t.made ≤ 32 → IsReachedTriple i t → Contains triples t) → AreTriples i triples
  all_triples tree i triples is only all = record {
    only = only;
    all = λ t reached. all t (made_small tree t (subst (λ j. IsReachedTriple j t) is reached)) reached;
  }

pub shape_funs : (s : Shape) → is_shape (facts_of s) ≡ true → length s.funs.now ≤ 32
shape_funs s is = let few = few_funs (facts_of s) is in omega (arith, few, length-map s.funs.now fun_of_shape)

-- ---- faults

-- where something is first wrong, the answer tells it
pub told_fault : {A : Type 0} (services : List Facts) (tree : Tree) (r : Result A CheckError) (Good : A → Type 0) → MatchResult r Good (IsFirstFault services tree)
    → ((a : A) → Good a → (kind : CheckKind) (at : ℕ) → IsFault services tree kind at → ⊥)
    → (kind : CheckKind) (at : ℕ) → IsFault services tree kind at → MatchResult r (λ a. ⊥) (IsThisFault kind at)
told_fault services tree (Ok a) Good good none kind at is = none a good kind at is
told_fault services tree (Err NoMemory) Good told none kind at is = inr refl
told_fault services tree (Err (Fault f)) Good told none kind at is =
    let same = same_fault services tree f.kind kind f.at at told is in
    inl (ap (λ k. Fault (record { kind = k; at = f.at })) same.0 ∙ ap (λ n. Fault (record { kind = kind; at = n })) same.1)

-- ---- one kind after the other

-- what is known is known where there is a value
pub on_ok : {X E : Type 0} (P : Type 0) (r : Result X E) → P → OnOk r P
on_ok P (Ok x) known = known
on_ok P (Err e) known = tt

module _ (services : List Facts) (tree : Tree) where
  -- what a stage answers
  pub stage : {X : Type 0} (c : Candidate) (kind : CheckKind) (flaw : Option ℕ) → IsCandidate services tree c (kind_rank kind)
      → MatchOption flaw ((at : ℕ) → FirstOf services tree kind at → ⊥) (FirstOf services tree kind) → (r : Result X CheckError)
      → MatchResult r (λ x. flaw ≡ None) (λ error. (at : ℕ) × (flaw ≡ Some at) × (error ≡ Fault (record { kind = kind; at = at })))
      → MatchResult r (λ x. IsCandidate services tree c (kind_rank kind + 1)) (IsFirstFault services tree)
  stage c kind flaw good told (Ok x) none = record {
    clear = clear_more services tree (facts_of c.shape) kind good.clear (subst (λ o. MatchOption o ((at : ℕ) → FirstOf services tree kind at → ⊥) (FirstOf services tree kind)) none told);
    shape = good.shape;
    declared = good.declared;
    triples = good.triples;
  }
  stage c kind flaw good told (Err error) (at, some, is) =
      subst (IsFirstFault services tree) (sym is)
      record {
        here = subst (λ o. MatchOption o ((at : ℕ) → FirstOf services tree kind at → ⊥) (FirstOf services tree kind)) some told;
        earliest = good.clear.none;
      }

  -- the first prototype in a set is the first flaw of a kind
  module _ (c : Candidate) (numbers : List ℕ) (flaw : Option ℕ) (own : List Statement) (lent : own ≡ tree.statements)
      (found : MatchOption flaw (NoStatement (λ before s p. marked (facts_of c.shape) numbers s ≡ Some p) own) (IsFirstStatement (λ before s p. marked (facts_of c.shape) numbers s ≡ Some p) own)) where
    of_tree : MatchOption flaw (NoStatement (λ before s p. marked (facts_of c.shape) numbers s ≡ Some p) tree.statements) (IsFirstStatement (λ before s p. marked (facts_of c.shape) numbers s ≡ Some p) tree.statements)
    of_tree = subst (λ l. MatchOption flaw (NoStatement (λ before s p. marked (facts_of c.shape) numbers s ≡ Some p) l) (IsFirstStatement (λ before s p. marked (facts_of c.shape) numbers s ≡ Some p) l)) lent found

    pub unreached_told : IsCandidate services tree c 10 → AreUnreached c.iface numbers → MatchOption flaw ((at : ℕ) → FirstOf services tree Unreached at → ⊥) (FirstOf services tree Unreached)
    unreached_told good are =
        let few = few_funs (facts_of c.shape) good.shape in
        each_statement services tree (λ all f before s p. IsProtoWhere f (IsUnreached (interface_of f tree)) s p) (facts_of c.shape) flaw good.clear.service tree.statements refl
        (first_where (facts_of c.shape) numbers (IsUnreached (interface_of (facts_of c.shape) tree))
        (λ n within. subst (λ i. (has_number numbers n ≡ true) ↔ IsUnreached i n) good.declared (are.are n (omega (arith, within, few)))) flaw tree.statements of_tree)

    pub stuck_told : IsCandidate services tree c 11 → AreStuck c.iface numbers → MatchOption flaw ((at : ℕ) → FirstOf services tree NoWalk at → ⊥) (FirstOf services tree NoWalk)
    stuck_told good are =
        each_statement services tree (λ all f before s p. IsProtoWhere f (HasNoWalk (interface_of f tree)) s p) (facts_of c.shape) flaw good.clear.service tree.statements refl
        (first_where (facts_of c.shape) numbers (HasNoWalk (interface_of (facts_of c.shape) tree))
        (λ n within. subst (λ i. (has_number numbers n ≡ true) ↔ HasNoWalk i n) good.declared (stuck_same c.iface numbers are n)) flaw tree.statements of_tree)

  -- an interface in which nothing is wrong fits
  pub candidate_fits : (c : Candidate) → IsCandidate services tree c 12 → HasReach c.iface → HasWalks c.iface → Fits c.iface
  candidate_fits c good reach walks =
      subst Fits (sym good.declared) (fits services tree (facts_of c.shape) good.shape good.clear (subst HasReach good.declared reach) (subst HasWalks good.declared walks))

  pub candidate_small : (c : Candidate) (kinds : ℕ) → IsCandidate services tree c kinds → IsSmall c.iface
  candidate_small c kinds good = subst IsSmall (sym good.declared) record {
    funs = few_funs (facts_of c.shape) good.shape;
    fields = few_fields (facts_of c.shape) good.shape;
  }

  every_rank : (kind : CheckKind) → kind_rank kind < 12
  every_rank UnknownService = omega arith
  every_rank DuplicateName = omega arith
  every_rank UnknownFunction = omega arith
  every_rank BadParams = omega arith
  every_rank WrongFact = omega arith
  every_rank WrongFlag = omega arith
  every_rank WrongEffect = omega arith
  every_rank ForeignTransition = omega arith
  every_rank ForeignRecover = omega arith
  every_rank NoCreation = omega arith
  every_rank Unreached = omega arith
  every_rank NoWalk = omega arith

  pub candidate_accepted : (c : Candidate) → IsCandidate services tree c 12 → Fits c.iface → IsAccepted services tree c.iface
  candidate_accepted c good fits = record {
    none = λ kind place flaw. good.clear.none kind place (every_rank kind) flaw;
    facts = facts_of c.shape;
    service = good.clear.service;
    declared = good.declared;
    fits = fits;
  }
