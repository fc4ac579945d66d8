-- A text with which nothing is wrong by itself is what its shape says.
use Rattle.std.proofs.Common.{◌≡◌, ◌⊎◌, ℕ, zero, suc, ◌+◌, ◌==◌, Bool, true, false, cond, ◌&&◌, ◌||◌, not, List, [], ◌∷◌, ◌++◌, map, drop, length, None, Some, codes, refl, sym, ◌∙◌, ap, subst, inl, inr, arith}
use Rattle.std.specs.Prelude.{count_by, if◌then◌else◌, nat_le, slice_get, unwrap_or}
use Rattle.std.specs.declared.option.Option.{Option}
use Rattle.std.specs.Bool.{then_some}
use Rattle.std.specs.Cmp.Lexicographic.{pointwise}
use Rattle.std.specs.List.{filter_map, list_all, list_any}
use Rattle.std.specs.Option.{is_none, option_map_or, option_or}
use Rattle.std.specs.Str.{bytes_eq}
use Rattle.std.proofs.lemmas.Bool.{and_from, and_parts, eq-eqb, leb-true, not-false, or_right}
use Rattle.std.proofs.lemmas.List.Elements.{filter_map-append}
use Rattle.sg_check_statements.specs.sg_facts.declared.shape.Kind.{Kind}
use Rattle.sg_check_statements.specs.sg_facts.declared.shape.Kind.TheVariants.{Desc, Parent, Word, Text}
use Rattle.sg_check_statements.specs.sg_facts.declared.shape.Leaves.TheVariants.{Own, Same, Of}
use Rattle.sg_check_statements.specs.sg_facts.Facts.{Facts, fun_at, no_fun}
use Rattle.sg_check_statements.specs.sg_facts.Interface.{has_pair}
use Rattle.sg_check_statements.specs.sg_facts.Words.{field_name}
use Rattle.sg_check_statements.specs.Effects.{declared_effects, has_effect, same_effects}
use Rattle.sg_check_statements.specs.Faults.{FirstOf, IsFirstStatement}
use Rattle.sg_check_statements.specs.Flaws.{duplicate, fit_leaves, flaw_of, foreign, fun_of_name, is_declared, leaves_another, leaves_some, wrong_fact}
use Rattle.sg_check_statements.specs.Inside.Pieces.{fit_flags, is_two}
use Rattle.sg_check_statements.specs.NameSet.{has_name}
use Rattle.sg_check_statements.specs.Params.{fit_params, has_word, is_caller, is_of_kind}
use Rattle.sg_check_statements.specs.Says.{agree, fun_number, has_proto, names_two, says, says_of, service_of}
use Rattle.sg_check_statements.specs.Shapes.{all_differ}
use Rattle.sg_check_statements.specs.declared.fault.CheckKind.{CheckKind}
use Rattle.sg_check_statements.specs.declared.fault.CheckKind.TheVariants.{UnknownService, DuplicateName, UnknownFunction, BadParams, WrongFact, WrongFlag, WrongEffect, ForeignTransition, ForeignRecover, NoCreation, Unreached, NoWalk}
use Rattle.sg_check_statements.specs.sg_parse.declared.tree.Param.{Param}
use Rattle.sg_check_statements.specs.sg_parse.declared.tree.Ret.{Ret}
use Rattle.sg_check_statements.specs.sg_parse.declared.tree.Statement.{Statement}
use Rattle.sg_check_statements.specs.sg_parse.declared.tree.Statement.TheVariants.{One, Two, Proto}
use Rattle.sg_check_statements.specs.sg_parse.declared.tree.Tree.{Tree}
use Rattle.sg_check_statements.specs.sg_parse.sg_lex.Lexeme.{Spelling}
use Rattle.sg_shape.specs.declared.fault.ShapeFaultKind.TheVariants.{WrongFact as wrong_head}
use Rattle.sg_shape.specs.Faults.{HasNoShapeFlaw, place_of}
use Rattle.sg_shape.specs.Fields.{fields_of_text, first_uses, uses_of}
use Rattle.sg_shape.specs.Flaws.{are_params, contradicts, has_its_type, is_id_param, unknown_name}
use Rattle.sg_shape.specs.Prototypes.{Prototype, function_number, names_of, number_from, proto_in, protos_of}
use Rattle.sg_shape.specs.ShapeOfText.{function_of, in_order, kind_of, leaves_of, pair_in, shape_of_text, state_in, state_of}
use Rattle.sg_shape.proofs.Declared.{effects_named}
use Rattle.sg_shape.proofs.OnFields.{by_names, from_effects, named_again, to_effects}
use Rattle.sg_shape.proofs.Flawless.{agreed, all_known, good_params, names_differ, of_name, one_each, own_funs, own_name, own_number}
use Rattle.sg_shape.proofs.Names.{differs, own_bytes, placed, proto_names, rest_differ, same_number}
use Rattle.sg_shape.proofs.Listing.{listed}
use Rattle.sg_shape.proofs.Places.{all_pass, at_split, each_passes, gathered_some, neither, some_passes}
use Rattle.sg_shape.proofs.Shapes.{known_state, number_is, said_at}
use Rattle.sg_shape.proofs.Naming.{field_names, first_named, use_names}

-- ---- a prototype among statements

-- a prototype stands among the prototypes where its statement stands among the statements
pub proto_at : (before after : List Statement) (ret : Ret) (name : Spelling) (params : List Param)
    → slice_get (protos_of (before ++ Proto ret name params ∷ after)) (length (protos_of before)) ≡ Some (record { ret = ret; name = name; params = params })
proto_at before after ret name params =
    ap (λ l. slice_get l (length (protos_of before))) (filter_map-append proto_in before (Proto ret name params ∷ after))
    ∙ at_split (protos_of before) (record { ret = ret; name = name; params = params }) (protos_of after)

-- ---- parameters

-- whether a parameter that is a descriptor, a parent or a text is of a kind
abbrev fits_kind : Bool → Bool → Bool → Kind → Bool
fits_kind d q s Desc = d && s
fits_kind d q s Parent = q && s
fits_kind d q s Word = not d && not q && s
fits_kind d q s Text = not d && not q && not s

is_kind : (p : Param) (kind : Kind) → is_of_kind p kind ≡ fits_kind (has_word p.form (codes "desc")) (has_word p.form (codes "parent_desc")) (p.ty.stars == 0) kind
is_kind p Desc = refl
is_kind p Parent = refl
is_kind p Word = refl
is_kind p Text = refl

own_kind : (p : Param) → has_its_type p ≡ true → is_of_kind p (kind_of p) ≡ true
own_kind p typed =
    is_kind p (kind_of p)
    ∙ by (has_word p.form (codes "desc")) (has_word p.form (codes "parent_desc")) (has_word p.form (codes "desc_data_add")) (p.ty.stars == 0) typed
  where
    by : (d q a s : Bool) → (not ((d || q) || a) || s) ≡ true → fits_kind d q s (if d then Desc else (if q then Parent else (if s then Word else Text))) ≡ true
    by true q a s is = is
    by false true a s is = is
    by false false a true is = refl
    by false false a false is = refl

own_kinds : (params : List Param) → list_all has_its_type params ≡ true → pointwise is_of_kind params (map kind_of params) ≡ true
own_kinds [] all = refl
own_kinds (p ∷ params) all =
    let parts = and_parts (has_its_type p) (list_all has_its_type params) all in
    and_from (is_of_kind p (kind_of p)) (pointwise is_of_kind params (map kind_of params)) (own_kind p parts.0) (own_kinds params parts.1)

own_params : (statements : List Statement) (p : Prototype) (params : List Param) → p.params ≡ params → not (are_params params) ≡ false → fit_params (function_of statements p) params ≡ true
own_params statements p [] is good = absurd (cc good)
own_params statements p (caller ∷ later) is good =
    let parts = and_parts (is_caller caller && list_all has_its_type later) (nat_le (count_by is_id_param later) 1) (not-false (are_params (caller ∷ later)) good) in
    let both = and_parts (is_caller caller) (list_all has_its_type later) parts.0 in
    and_from (is_caller caller) (pointwise is_of_kind later (function_of statements p).kinds) both.0
    (ap (λ l. pointwise is_of_kind later (map kind_of (drop 1 l))) is ∙ own_kinds later both.1)

-- ---- states

-- what statements say of the state that a function leaves
said_some : (f : List ℕ) (statements : List Statement) → state_of f statements ≡ None → list_any (leaves_some f) statements ≡ false
said_some f [] none = refl
said_some f (s ∷ statements) none =
    let parts = nothing (state_in f s) (state_of f statements) none in
    ap (λ b. b || list_any (leaves_some f) statements) (not_this s parts.0) ∙ said_some f statements parts.1
  where
    nothing : (a b : Option (List ℕ)) → option_or a b ≡ None → (a ≡ None) × (b ≡ None)
    nothing None b is = (refl, is)
    nothing (Some g) b is = absurd (cc is)

    not_this : (t : Statement) → state_in f t ≡ None → leaves_some f t ≡ false
    not_this (Two word first second) is = by (bytes_eq word.bytes (codes "sm_state")) (bytes_eq first.bytes f) is
      where
        by : (a b : Bool) → (if a then (if b then Some second.bytes else None) else None) ≡ None → (a && b) ≡ false
        by false b none = refl
        by true false none = refl
        by true true none = absurd (cc none)
    not_this _ is = refl

said_state : (f g : List ℕ) (statements : List Statement) → state_of f statements ≡ Some g → says_of statements (codes "sm_state") f g ≡ true
said_state f g statements is =
    let said = said_at f statements g is in
    some_passes (is_two (codes "sm_state") f g) statements said.0 said.1 said.2 (this said.1 said.3)
  where
    this : (t : Statement) → state_in f t ≡ Some g → is_two (codes "sm_state") f g t ≡ true
    this (Two word first second) told = by (bytes_eq word.bytes (codes "sm_state")) (bytes_eq first.bytes f) told
      where
        by : (a b : Bool) → (if a then (if b then Some second.bytes else None) else None) ≡ Some g → (a && b && bytes_eq second.bytes g) ≡ true
        by false b some = absurd (cc some)
        by true false some = absurd (cc some)
        by true true some = let same : second.bytes ≡ g = cc some in ap (λ m. bytes_eq m g) same ∙ own_bytes g
    this _ told = absurd (cc told)

-- the name of a prototype isn't that of one before it
not_before : (ps : List Prototype) (p : Prototype) (qs : List Prototype) → all_differ (names_of (ps ++ p ∷ qs)) ≡ true → has_name (names_of ps) p.name.bytes ≡ false
not_before [] p qs differ = refl
not_before (r ∷ ps) p qs differ =
    ap (λ b. b || has_name (names_of ps) p.name.bytes) (differs r (ps ++ p ∷ qs) (length ps) p differ (at_split ps p qs))
    ∙ not_before ps p qs (rest_differ r (ps ++ p ∷ qs) differ)

module _ (tree : Tree) (sound : HasNoShapeFlaw tree) where
  -- the function of a name's number has the name
  name_again : (g : List ℕ) → has_name (names_of (protos_of tree.statements)) g ≡ true → (fun_at (shape_of_text tree).funs (function_number tree.statements g)).name ≡ g
  name_again g among =
      let at = placed 1 (names_of (protos_of tree.statements)) g among in
      let next : 1 + at.0 ≡ suc at.0 = omega arith in
      ap (λ n. (fun_at (shape_of_text tree).funs n).name) (at.1 ∙ next)
      ∙ ap (λ funs. (unwrap_or (slice_get funs at.0) no_fun).name) (own_funs tree sound)
      ∙ named (protos_of tree.statements) at.0 at.2
    where
      named : (ps : List Prototype) (k : ℕ) → slice_get (names_of ps) k ≡ Some g → (unwrap_or (slice_get (map (function_of tree.statements) ps) k) no_fun).name ≡ g
      named [] k at = absurd (cc at)
      named (p ∷ ps) zero at = cc at
      named (p ∷ ps) (suc k) at = named ps k at

  own_leaves : (f : List ℕ) → contradicts tree.statements f ≡ false → fit_leaves (shape_of_text tree) tree.statements f (leaves_of tree.statements f) ≡ true
  own_leaves f one = by (says tree.statements (codes "sm_keep") f) (state_of f tree.statements) refl refl one
    where
      by : (b : Bool) (o : Option (List ℕ)) → says tree.statements (codes "sm_keep") f ≡ b → state_of f tree.statements ≡ o
          → option_map_or (λ g. b || list_any (leaves_another f g) tree.statements) o false ≡ false
          → fit_leaves (shape_of_text tree) tree.statements f (if b then Same else option_map_or (λ g. Of (function_number tree.statements g)) o Own) ≡ true
      by true (Some g) keeps told flaw = absurd (cc flaw)
      by true None keeps told flaw =
          and_from (says tree.statements (codes "sm_keep") f) (not (list_any (leaves_some f) tree.statements)) keeps (ap not (said_some f tree.statements told))
      by false None keeps told flaw =
          and_from (not (says tree.statements (codes "sm_keep") f)) (not (list_any (leaves_some f) tree.statements)) (ap not keeps) (ap not (said_some f tree.statements told))
      by false (Some g) keeps told flaw =
          let same = name_again g (known_state tree sound f g told) in
          subst (λ m. (not (says tree.statements (codes "sm_keep") f) && says_of tree.statements (codes "sm_state") f m && not (list_any (leaves_another f m) tree.statements)) ≡ true) (sym same)
          (and_from (not (says tree.statements (codes "sm_keep") f) && says_of tree.statements (codes "sm_state") f g) (not (list_any (leaves_another f g) tree.statements))
          (and_from (not (says tree.statements (codes "sm_keep") f)) (says_of tree.statements (codes "sm_state") f g) (ap not keeps) (said_state f g tree.statements told))
          (ap not flaw))

  -- ---- flags, and the whole of a prototype

  module _ (k : ℕ) (p : Prototype) (at : slice_get (protos_of tree.statements) k ≡ Some p) where
    fit_own : fit_params (fun_of_name (shape_of_text tree) p.name.bytes) p.params ≡ true
    fit_own = ap (λ f. fit_params f p.params) (of_name tree sound k p at) ∙ own_params tree.statements p p.params refl (good_params tree sound k p at)

    declared_own : is_declared (shape_of_text tree) tree.statements p.name.bytes ≡ true
    unfolding is_declared
    declared_own =
        and_from (fit_flags tree.statements p.name.bytes (fun_of_name (shape_of_text tree) p.name.bytes)) (fit_leaves (shape_of_text tree) tree.statements p.name.bytes (fun_of_name (shape_of_text tree) p.name.bytes).leaves)
        (ap (fit_flags tree.statements p.name.bytes) (of_name tree sound k p at)
        ∙ flags (says tree.statements (codes "sm_creation") p.name.bytes) (says tree.statements (codes "sm_terminal") p.name.bytes) (says tree.statements (codes "sm_block") p.name.bytes)
        (says tree.statements (codes "sm_wakeup") p.name.bytes) (says tree.statements (codes "sm_query") p.name.bytes) (says tree.statements (codes "sm_needs_all") p.name.bytes) (says tree.statements (codes "resc_data") p.name.bytes))
        (ap (λ f. fit_leaves (shape_of_text tree) tree.statements p.name.bytes f.leaves) (of_name tree sound k p at) ∙ own_leaves p.name.bytes (agreed tree sound k p at))
      where
        both : (b : Bool) → agree b b ≡ true
        both true = refl
        both false = refl

        flags : (a b c d e g h : Bool) → (agree a a && agree b b && agree c c && agree d d && agree e e && agree g g && agree h h) ≡ true
        flags a b c d e g h =
            and_from (agree a a && agree b b && agree c c && agree d d && agree e e && agree g g) (agree h h)
            (and_from (agree a a && agree b b && agree c c && agree d d && agree e e) (agree g g)
            (and_from (agree a a && agree b b && agree c c && agree d d) (agree e e)
            (and_from (agree a a && agree b b && agree c c) (agree d d)
            (and_from (agree a a && agree b b) (agree c c) (and_from (agree a a) (agree b b) (both a) (both b)) (both c)) (both d)) (both e)) (both g)) (both h)

    own_effects : same_effects (declared_effects tree.statements p.name.bytes p.ret p.params) (map (λ e. (field_name (shape_of_text tree).fields e.0, e.1)) (fun_of_name (shape_of_text tree) p.name.bytes).effects) ≡ true
    unfolding shape_of_text
    own_effects =
        let ss = tree.statements in
        let fields = fields_of_text ss in
        let all = declared_effects ss p.name.bytes p.ret p.params in
        let again : map (λ e. (field_name (shape_of_text tree).fields e.0, e.1)) (fun_of_name (shape_of_text tree) p.name.bytes).effects ≡ by_names fields all =
        ap (λ f. map (λ e. (field_name (shape_of_text tree).fields e.0, e.1)) f.effects) (of_name tree sound k p at) ∙ named_again fields 0 fields all refl in
        ap (same_effects all) again
        ∙ and_from (list_all (has_effect (by_names fields all)) all) (list_all (has_effect all) (by_names fields all))
        (all_pass (has_effect (by_names fields all)) all (λ j e there. to_effects fields all j e (one_each tree sound k p at) there
        (ap (λ names. has_name names e.0) (field_names (first_uses (uses_of ss))) ∙ first_named (uses_of ss) e.0
        (each_passes (λ d. has_name (use_names (uses_of ss)) d.0) all j e (effects_named ss k p at) there))))
        (from_effects fields all)

  -- ---- pairs

  -- a function that has a prototype has its number
  known_number : (name : List ℕ) → has_name (names_of (protos_of tree.statements)) name ≡ true → fun_number (shape_of_text tree).funs name ≡ Some (function_number tree.statements name)
  known_number name among =
      ap (λ funs. fun_number funs name) (own_funs tree sound)
      ∙ same_number (function_of tree.statements) (own_name tree.statements) 1 (protos_of tree.statements) name
      ∙ ap (λ b. if b then Some (number_from 1 (names_of (protos_of tree.statements)) name) else None) among

  known_pair : (w : List ℕ) (word first second : Spelling) → bytes_eq word.bytes w ≡ true → names_two word.bytes ≡ true → unknown_name tree.statements (Two word first second) ≡ None
      → (has_name (names_of (protos_of tree.statements)) first.bytes ≡ true) × (has_name (names_of (protos_of tree.statements)) second.bytes ≡ true)
  known_pair w word first second told two known =
      let parts = neither (then_some (not (has_proto tree.statements first.bytes)) first.at) (then_some (names_two word.bytes && not (has_proto tree.statements second.bytes)) second.at) known in (
        sym (proto_names tree.statements first.bytes) ∙ has_it (has_proto tree.statements first.bytes) first.at parts.0,
        sym (proto_names tree.statements second.bytes) ∙ has_it (has_proto tree.statements second.bytes) second.at
            (ap (λ b. then_some (b && not (has_proto tree.statements second.bytes)) second.at) (sym two) ∙ parts.1),
      )
    where
      has_it : (b : Bool) (place : ℕ) → then_some (not b) place ≡ None → b ≡ true
      has_it true place is = refl
      has_it false place is = absurd (cc is)

  -- a pair that a statement names is one of those of the shape
  pair_listed : (w : List ℕ) (k : ℕ) (word first second : Spelling) → slice_get tree.statements k ≡ Some (Two word first second) → bytes_eq word.bytes w ≡ true → names_two word.bytes ≡ true
      → has_pair (in_order (filter_map (pair_in w tree.statements) tree.statements) (length (protos_of tree.statements))) (function_number tree.statements first.bytes) (function_number tree.statements second.bytes) ≡ true
  pair_listed w k word first second at told two =
      let known = known_pair w word first second told two (all_known tree sound k (Two word first second) at) in
      let one = and_parts (nat_le 1 (function_number tree.statements first.bytes)) (nat_le (function_number tree.statements first.bytes) (length (protos_of tree.statements))) (number_is tree sound first.bytes known.0) in
      let other = and_parts (nat_le 1 (function_number tree.statements second.bytes)) (nat_le (function_number tree.statements second.bytes) (length (protos_of tree.statements))) (number_is tree sound second.bytes known.1) in
      listed (filter_map (pair_in w tree.statements) tree.statements) (length (protos_of tree.statements)) (function_number tree.statements first.bytes) (function_number tree.statements second.bytes)
      (leb-true 1 (function_number tree.statements first.bytes) one.0) (leb-true (function_number tree.statements first.bytes) (length (protos_of tree.statements)) one.1)
      (leb-true 1 (function_number tree.statements second.bytes) other.0) (leb-true (function_number tree.statements second.bytes) (length (protos_of tree.statements)) other.1)
      (gathered_some (λ (p : ℕ × ℕ). (p.0 == function_number tree.statements first.bytes) && (p.1 == function_number tree.statements second.bytes)) (pair_in w tree.statements) tree.statements k (Two word first second)
      (function_number tree.statements first.bytes, function_number tree.statements second.bytes) at
      (ap (λ b. if b then Some (function_number tree.statements first.bytes, function_number tree.statements second.bytes) else None) told)
      (and_from (function_number tree.statements first.bytes == function_number tree.statements first.bytes) (function_number tree.statements second.bytes == function_number tree.statements second.bytes)
      (eq-eqb (function_number tree.statements first.bytes) (function_number tree.statements first.bytes) refl) (eq-eqb (function_number tree.statements second.bytes) (function_number tree.statements second.bytes) refl)))

  not_foreign : (w : List ℕ) (pairs : List (ℕ × ℕ)) (s : Statement) (place : ℕ)
      → ((word first second : Spelling) → s ≡ Two word first second → bytes_eq word.bytes w ≡ true
      → (has_pair pairs (function_number tree.statements first.bytes) (function_number tree.statements second.bytes) ≡ true)
      × (has_name (names_of (protos_of tree.statements)) first.bytes ≡ true) × (has_name (names_of (protos_of tree.statements)) second.bytes ≡ true))
      → foreign w pairs (shape_of_text tree) s ≡ Some place → ⊥
  not_foreign w pairs (Two word first second) place each is = by (bytes_eq word.bytes w) refl is
    where
      by : (b : Bool) → bytes_eq word.bytes w ≡ b
          → then_some (b && not (option_map_or (λ f. option_map_or (λ g. has_pair pairs f g) (fun_number (shape_of_text tree).funs second.bytes) false) (fun_number (shape_of_text tree).funs first.bytes) false)) first.at ≡ Some place → ⊥
      by false told flaw = cc flaw
      by true told flaw =
          let own = each word first second refl told in
          let good : option_map_or (λ f. option_map_or (λ g. has_pair pairs f g) (fun_number (shape_of_text tree).funs second.bytes) false) (fun_number (shape_of_text tree).funs first.bytes) false ≡ true =
          ap (λ o. option_map_or (λ f. option_map_or (λ g. has_pair pairs f g) (fun_number (shape_of_text tree).funs second.bytes) false) o false) (known_number first.bytes own.1)
          ∙ ap (λ o. option_map_or (λ g. has_pair pairs (function_number tree.statements first.bytes) g) o false) (known_number second.bytes own.2) ∙ own.0 in
          let none : None ≡ Some place = ap (λ b. then_some (not b) first.at) (sym good) ∙ flaw in
          cc none
  not_foreign w pairs _ place each is = cc is

  -- ---- kind by kind

  -- a statement stands where it splits the text
  stands : (before after : List Statement) (s : Statement) → tree.statements ≡ before ++ s ∷ after → slice_get tree.statements (length before) ≡ Some s
  stands before after s split = ap (λ l. slice_get l (length before)) split ∙ at_split before s after

  stands_proto : (before after : List Statement) (ret : Ret) (name : Spelling) (params : List Param) → tree.statements ≡ before ++ Proto ret name params ∷ after
      → slice_get (protos_of tree.statements) (length (protos_of before)) ≡ Some (record { ret = ret; name = name; params = params })
  stands_proto before after ret name params split = ap (λ l. slice_get (protos_of l) (length (protos_of before))) split ∙ proto_at before after ret name params

  none_unknown : (before after : List Statement) (s : Statement) (place : ℕ) → tree.statements ≡ before ++ s ∷ after → flaw_of (shape_of_text tree) tree.statements UnknownFunction s ≡ Some place → ⊥
  none_unknown before after (One word fun) place split flaw =
      let none : None ≡ Some place = sym (all_known tree sound (length before) (One word fun) (stands before after (One word fun) split)) ∙ flaw in cc none
  none_unknown before after (Two word first second) place split flaw =
      let none : None ≡ Some place = sym (all_known tree sound (length before) (Two word first second) (stands before after (Two word first second) split)) ∙ flaw in cc none
  none_unknown before after (Proto ret name params) place split flaw =
      let own = own_number tree sound (length (protos_of before)) (record { ret = ret; name = name; params = params }) (stands_proto before after ret name params split) in
      let none : None ≡ Some place = ap (λ o. then_some (is_none o) name.at) (sym own) ∙ flaw in
      cc none
  none_unknown before after _ place split flaw = cc flaw

  none_bad : (before after : List Statement) (s : Statement) (place : ℕ) → tree.statements ≡ before ++ s ∷ after → flaw_of (shape_of_text tree) tree.statements BadParams s ≡ Some place → ⊥
  none_bad before after (Proto ret name params) place split flaw =
      let own = fit_own (length (protos_of before)) (record { ret = ret; name = name; params = params }) (stands_proto before after ret name params split) in
      let none : None ≡ Some place = ap (λ b. then_some (not b) name.at) (sym own) ∙ flaw in
      cc none
  none_bad before after _ place split flaw = cc flaw

  none_flagged : (before after : List Statement) (s : Statement) (place : ℕ) → tree.statements ≡ before ++ s ∷ after → flaw_of (shape_of_text tree) tree.statements WrongFlag s ≡ Some place → ⊥
  none_flagged before after (Proto ret name params) place split flaw =
      let own = declared_own (length (protos_of before)) (record { ret = ret; name = name; params = params }) (stands_proto before after ret name params split) in
      let none : None ≡ Some place = ap (λ b. then_some (not b) name.at) (sym own) ∙ flaw in
      cc none
  none_flagged before after _ place split flaw = cc flaw

  none_changed : (before after : List Statement) (s : Statement) (place : ℕ) → tree.statements ≡ before ++ s ∷ after → flaw_of (shape_of_text tree) tree.statements WrongEffect s ≡ Some place → ⊥
  none_changed before after (Proto ret name params) place split flaw =
      let own = own_effects (length (protos_of before)) (record { ret = ret; name = name; params = params }) (stands_proto before after ret name params split) in
      let none : None ≡ Some place = ap (λ b. then_some (not b) name.at) (sym own) ∙ flaw in
      cc none
  none_changed before after _ place split flaw = cc flaw

  none_foreign : (w : List ℕ) (two : (word : List ℕ) → bytes_eq word w ≡ true → names_two word ≡ true) (before after : List Statement) (s : Statement) (place : ℕ) → tree.statements ≡ before ++ s ∷ after
      → foreign w (in_order (filter_map (pair_in w tree.statements) tree.statements) (length (protos_of tree.statements))) (shape_of_text tree) s ≡ Some place → ⊥
  none_foreign w two before after s place split flaw =
      not_foreign w (in_order (filter_map (pair_in w tree.statements) tree.statements) (length (protos_of tree.statements))) s place
      (λ word first second is told.
      let at = stands before after s split ∙ ap Some is in
      let known = known_pair w word first second told (two word.bytes told) (all_known tree sound (length before) (Two word first second) at) in
      (pair_listed w (length before) word first second at told (two word.bytes told), known.0, known.1))
      flaw

  none_twice : (before after : List Statement) (s : Statement) (place : ℕ) → tree.statements ≡ before ++ s ∷ after → duplicate before s ≡ Some place → ⊥
  none_twice before after (Proto ret name params) place split flaw =
      let p : Prototype = record { ret = ret; name = name; params = params } in
      let differ : all_differ (names_of (protos_of before ++ p ∷ protos_of after)) ≡ true =
      ap (λ l. all_differ (names_of l)) (sym (ap protos_of split ∙ filter_map-append proto_in before (Proto ret name params ∷ after))) ∙ names_differ tree sound in
      let none : None ≡ Some place =
      ap (λ b. then_some b name.at) (sym (proto_names before name.bytes ∙ not_before (protos_of before) p (protos_of after) differ)) ∙ flaw in
      cc none
  none_twice before after _ place split flaw = cc flaw

  -- ---- the service

  the_service : service_of (shape_of_text tree ∷ []) tree.facts.service.bytes ≡ Some (shape_of_text tree)
  unfolding shape_of_text
  the_service = ap (λ b. cond b (Some (shape_of_text tree)) None) (own_bytes tree.facts.service.bytes)

  own_service : (facts : Facts) → service_of (shape_of_text tree ∷ []) tree.facts.service.bytes ≡ Some facts → shape_of_text tree ≡ facts
  own_service facts is = let same : Some (shape_of_text tree) ≡ Some facts = sym the_service ∙ is in cc same

  -- a kind that is looked for in each statement
  in_none : (Flaw : Facts → Statement → Option ℕ) (at : ℕ) → ((before after : List Statement) (s : Statement) (place : ℕ) → tree.statements ≡ before ++ s ∷ after → Flaw (shape_of_text tree) s ≡ Some place → ⊥)
      → ((facts : Facts) × (service_of (shape_of_text tree ∷ []) tree.facts.service.bytes ≡ Some facts) × IsFirstStatement (λ before s p. Flaw facts s ≡ Some p) tree.statements at) → ⊥
  in_none Flaw at none (facts, is, first) =
      none first.before first.after first.one at first.split (ap (λ f. Flaw f first.one) (own_service facts is) ∙ first.flaw)

  none_wrong : (at : ℕ) → ((facts : Facts) × (service_of (shape_of_text tree ∷ []) tree.facts.service.bytes ≡ Some facts) × (wrong_fact facts tree.facts ≡ Some at)) → ⊥
  unfolding place_of
  none_wrong at (facts, is, wrong) =
      let none : None ≡ Some at = sym (sound wrong_head) ∙ ap (λ f. wrong_fact f tree.facts) (own_service facts is) ∙ wrong in cc none

  two_transition : (word : List ℕ) → bytes_eq word (codes "sm_transition") ≡ true → names_two word ≡ true
  two_transition word is = by (bytes_eq word (codes "sm_state")) (bytes_eq word (codes "sm_transition")) (bytes_eq word (codes "sm_recover")) is
    where
      by : (a b c : Bool) → b ≡ true → (a || b || c) ≡ true
      by true b c is = refl
      by false true c is = refl
      by false false c is = absurd (cc is)

  two_recover : (word : List ℕ) → bytes_eq word (codes "sm_recover") ≡ true → names_two word ≡ true
  two_recover word is = or_right (bytes_eq word (codes "sm_state") || bytes_eq word (codes "sm_transition")) (bytes_eq word (codes "sm_recover")) is

  -- what can be wrong with the text, checked against its own shape
  pub own_fault : (kind : CheckKind) (at : ℕ) → FirstOf (shape_of_text tree ∷ []) tree kind at → (kind ≡ NoCreation) ⊎ ((kind ≡ Unreached) ⊎ (kind ≡ NoWalk))
  unfolding shape_of_text
  own_fault UnknownService at fault = let wrong : None ≡ Some (shape_of_text tree) = sym fault.0 ∙ the_service in absurd (cc wrong)
  own_fault DuplicateName at first = absurd (none_twice first.before first.after first.one at first.split first.flaw)
  own_fault UnknownFunction at fault = absurd (in_none (λ f s. flaw_of f tree.statements UnknownFunction s) at none_unknown fault)
  own_fault BadParams at fault = absurd (in_none (λ f s. flaw_of f tree.statements BadParams s) at none_bad fault)
  own_fault WrongFact at fault = absurd (none_wrong at fault)
  own_fault WrongFlag at fault = absurd (in_none (λ f s. flaw_of f tree.statements WrongFlag s) at none_flagged fault)
  own_fault WrongEffect at fault = absurd (in_none (λ f s. flaw_of f tree.statements WrongEffect s) at none_changed fault)
  own_fault ForeignTransition at fault = absurd (in_none (λ f s. flaw_of f tree.statements ForeignTransition s) at (none_foreign (codes "sm_transition") two_transition) fault)
  own_fault ForeignRecover at fault = absurd (in_none (λ f s. flaw_of f tree.statements ForeignRecover s) at (none_foreign (codes "sm_recover") two_recover) fault)
  own_fault NoCreation at fault = inl refl
  own_fault Unreached at fault = inr (inl refl)
  own_fault NoWalk at fault = inr (inr refl)
