-- What is known of a call that the guard lets pass.
use Rattle.std.proofs.Common.{◌≡◌, ℕ, zero, suc, ◌≤◌, Bool, true, false, cond, not, List, [], ◌∷◌, None, Some, length, refl, sym, ◌∙◌, ap, inl, inr, ◌⊎◌, arith}
use Rattle.std.specs.Prelude.{◌==◌, ◌||◌, ◌&&◌, count_by, nat_le, if◌then◌else◌}
use Rattle.std.specs.List.{list_all}
use Rattle.std.specs.declared.option.Option.{Option}
use Rattle.std.proofs.lemmas.Bool.Decides.{nat_tests}
use Rattle.sg_facts.specs.sg_base.declared.call.Call.{Call}
use Rattle.sg_facts.specs.sg_base.declared.reply.Code.{Code}
use Rattle.sg_facts.specs.sg_base.declared.reply.Code.TheVariants.{NoDesc, NoParent, BadState, HasChildren, Full}
use Rattle.sg_facts.specs.declared.row.Row.{Row}
use Rattle.sg_facts.specs.declared.shape.Parents.{Parents}
use Rattle.sg_facts.specs.declared.shape.Parents.TheVariants.{Never, Same, Cross}
use Rattle.sg_facts.specs.Allowed.{count_args, each_replays_well, has_no_parents, is_replayed, leaves_known, replays_well, steps_make_none, takes_among, acts_on_one, implies, is_allowed, is_cross, is_never, is_text_field, keeps_private, keeps_to, leaves_own, replays_all, sets_once}
use Rattle.sg_facts.specs.Facts.{Facts, Fun, fun_at, takes_desc, takes_parent, writes}
use Rattle.sg_facts.specs.Guard.{guard}
use Rattle.sg_facts.specs.Inside.Guards.{in_state, is_own, is_there, may_be_parent, may_use, refusal}
use Rattle.sg_facts.specs.Limits.{most_live}
use Rattle.sg_facts.specs.Interface.{Declared}
use Rattle.sg_facts.specs.Object.{Object}
use Rattle.sg_facts.specs.Inside.Rows.{has_child}
use Rattle.sg_facts.specs.Track.{row_at}
use Rattle.sg_facts.specs.Walks.{sets_caller}
use Rattle.sg_recovery_laws.proofs.Objects.Apart.{IsOwnRow}

cond_none : (b : Bool) (x : Code) (rest : Option Code) → cond b (Some x) rest ≡ None → (b ≡ false) × (rest ≡ None)
cond_none true x rest is = absurd (cc is)
cond_none false x rest is = (refl, is)

both : (a b : Bool) → (a && b) ≡ false → a ≡ true → b ≡ false
both true b is a_is = is
both false b is a_is = absurd (cc a_is)

not_not : (b : Bool) → not b ≡ false → b ≡ true
not_not true is = refl
not_not false is = absurd (cc is)

-- the causes of a refusal that don't apply
pub record IsLetPass (i : Declared) (o : Object) (call : Call) : Type 0 where
  pub parent : takes_parent (fun_at i.facts.funs call.fun) ≡ true → may_be_parent i.facts.parents (row_at o.rows call.desc) call.desc call.client ≡ true
  pub room : (fun_at i.facts.funs call.fun).creation ≡ true → nat_le most_live (length o.rows) ≡ false
  pub desc : takes_desc (fun_at i.facts.funs call.fun) ≡ true → may_use i.facts (row_at o.rows call.desc) call.client ≡ true
  pub state : takes_desc (fun_at i.facts.funs call.fun) ≡ true → in_state i (row_at o.rows call.desc) call.fun ≡ true
  pub children : (fun_at i.facts.funs call.fun).terminal ≡ true → i.facts.subtree ≡ false → has_child o.rows call.desc ≡ false

pub let_pass : (i : Declared) (o : Object) (call : Call) → (fun_at i.facts.funs call.fun).query ≡ false → guard i o call ≡ None → IsLetPass i o call
let_pass i o call row passes =
    let f : Fun = fun_at i.facts.funs call.fun in
    let is : refusal i f o call ≡ None = sym (ap (λ b. cond b None (refusal i f o call)) row) ∙ passes in
    let one = cond_none (takes_parent f && not (may_be_parent i.facts.parents (row_at o.rows call.desc) call.desc call.client)) NoParent
    (if f.creation && nat_le most_live (length o.rows) then Some Full
    else if takes_desc f && not (may_use i.facts (row_at o.rows call.desc) call.client) then Some NoDesc
    else if takes_desc f && not (in_state i (row_at o.rows call.desc) call.fun) then Some BadState
    else if f.terminal && not i.facts.subtree && has_child o.rows call.desc then Some HasChildren
    else None) is in
    let two = cond_none (f.creation && nat_le most_live (length o.rows)) Full
    (if takes_desc f && not (may_use i.facts (row_at o.rows call.desc) call.client) then Some NoDesc
    else if takes_desc f && not (in_state i (row_at o.rows call.desc) call.fun) then Some BadState
    else if f.terminal && not i.facts.subtree && has_child o.rows call.desc then Some HasChildren
    else None) one.1 in
    let three = cond_none (takes_desc f && not (may_use i.facts (row_at o.rows call.desc) call.client)) NoDesc
    (if takes_desc f && not (in_state i (row_at o.rows call.desc) call.fun) then Some BadState
    else if f.terminal && not i.facts.subtree && has_child o.rows call.desc then Some HasChildren
    else None) two.1 in
    let four = cond_none (takes_desc f && not (in_state i (row_at o.rows call.desc) call.fun)) BadState
    (if f.terminal && not i.facts.subtree && has_child o.rows call.desc then Some HasChildren else None) three.1 in
    let five = cond_none (f.terminal && not i.facts.subtree && has_child o.rows call.desc) HasChildren None four.1 in
    record {
      parent = λ takes. not_not (may_be_parent i.facts.parents (row_at o.rows call.desc) call.desc call.client) (both (takes_parent f) (not (may_be_parent i.facts.parents (row_at o.rows call.desc) call.desc call.client)) one.0 takes);
      room = λ makes. both f.creation (nat_le most_live (length o.rows)) two.0 makes;
      desc = λ takes. not_not (may_use i.facts (row_at o.rows call.desc) call.client) (both (takes_desc f) (not (may_use i.facts (row_at o.rows call.desc) call.client)) three.0 takes);
      state = λ takes. not_not (in_state i (row_at o.rows call.desc) call.fun) (both (takes_desc f) (not (in_state i (row_at o.rows call.desc) call.fun)) four.0 takes);
      children = λ ends alone. last f.terminal i.facts.subtree (has_child o.rows call.desc) five.0 ends alone;
    }
  where
    last : (t s h : Bool) → (t && not s && h) ≡ false → t ≡ true → s ≡ false → h ≡ false
    last true false h is ends alone = is
    last true true h is ends alone = absurd (cc alone)
    last false s h is ends alone = absurd (cc ends)

-- ---- what a function of the shape keeps to

pub both_true : (a b : Bool) → (a && b) ≡ true → (a ≡ true) × (b ≡ true)
both_true true true is = (refl, refl)
both_true true false is = absurd (cc is)
both_true false b is = absurd (cc is)

pub each_fun : (test : Fun → Bool) (funs : List Fun) (n : ℕ) → list_all test funs ≡ true → 1 ≤ n → n ≤ length funs → test (fun_at funs n) ≡ true
each_fun test funs zero all low high = absurd (omega (arith, low))
each_fun test [] (suc n) all low high = absurd (omega (arith, high))
each_fun test (f ∷ funs) (suc zero) all low high = (both_true (test f) (list_all test funs) all).0
each_fun test (f ∷ funs) (suc (suc n)) all low high = each_fun test funs (suc n) (both_true (test f) (list_all test funs) all).1 (omega arith) (omega (arith, high))

-- a function acts on its own row, or makes one
pub record ActsOnOne (facts : Facts) (f : Fun) : Type 0 where
  pub makes : f.creation ≡ true → (f.query ≡ false) × (f.terminal ≡ false) × (takes_desc f ≡ false)
  pub on : f.creation ≡ false → f.query ≡ false → (takes_desc f ≡ true) × (takes_parent f ≡ false)
  pub never : is_never facts.parents ≡ true → takes_parent f ≡ false

acts_one : (facts : Facts) (f : Fun) → acts_on_one facts f ≡ true → ActsOnOne facts f
acts_one facts f is = at f.creation f.query f.terminal (takes_desc f) (takes_parent f) (is_never facts.parents) refl refl refl refl refl refl is
  where
    at : (c q t d p n : Bool) → f.creation ≡ c → f.query ≡ q → f.terminal ≡ t → takes_desc f ≡ d → takes_parent f ≡ p → is_never facts.parents ≡ n
        → (implies c (not q && not t && not d) && (c || q || (d && not p)) && implies n (not p)) ≡ true → ActsOnOne facts f
    at c q t d p n c_is q_is t_is d_is p_is n_is is =
        let one = both_true (implies c (not q && not t && not d) && (c || q || (d && not p))) (implies n (not p)) is in
        let two = both_true (implies c (not q && not t && not d)) (c || q || (d && not p)) one.0 in
        record {
          makes = λ makes. made c q t d two.0 (sym c_is ∙ makes) q_is t_is d_is;
          on = λ no_make no_ask. on_one c q d p two.1 (sym c_is ∙ no_make) (sym q_is ∙ no_ask) d_is p_is;
          never = λ never. none n p one.1 (sym n_is ∙ never) p_is;
        }
      where
        made : (c q t d : Bool) → implies c (not q && not t && not d) ≡ true → c ≡ true → f.query ≡ q → f.terminal ≡ t → takes_desc f ≡ d → (f.query ≡ false) × (f.terminal ≡ false) × (takes_desc f ≡ false)
        made true false false false is c_is q_is t_is d_is = (q_is, t_is, d_is)
        made true true t d is c_is q_is t_is d_is = absurd (cc is)
        made true false true d is c_is q_is t_is d_is = absurd (cc is)
        made true false false true is c_is q_is t_is d_is = absurd (cc is)
        made false q t d is c_is q_is t_is d_is = absurd (cc c_is)

        on_one : (c q d p : Bool) → (c || q || (d && not p)) ≡ true → c ≡ false → q ≡ false → takes_desc f ≡ d → takes_parent f ≡ p → (takes_desc f ≡ true) × (takes_parent f ≡ false)
        on_one false false true false is c_is q_is d_is p_is = (d_is, p_is)
        on_one false false true true is c_is q_is d_is p_is = absurd (cc is)
        on_one false false false p is c_is q_is d_is p_is = absurd (cc is)
        on_one false true d p is c_is q_is d_is p_is = absurd (cc q_is)
        on_one true q d p is c_is q_is d_is p_is = absurd (cc c_is)

        none : (n p : Bool) → implies n (not p) ≡ true → n ≡ true → takes_parent f ≡ p → takes_parent f ≡ false
        none true false is n_is p_is = p_is
        none true true is n_is p_is = absurd (cc is)
        none false p is n_is p_is = absurd (cc n_is)

-- ---- a private service

is_own_row : (rows : List Row) (id client : ℕ) (found : Option Row) → row_at rows id ≡ found → is_own found client ≡ true → IsOwnRow rows client id
is_own_row rows id client None there own = absurd (cc own)
is_own_row rows id client (Some r) there own = record { row = r; of = there; own = grind (arith, nat_tests, own) }

-- the descriptor is one of the caller's
pub own_desc : (i : Declared) (o : Object) (call : Call) → i.facts.global ≡ false → IsLetPass i o call → takes_desc (fun_at i.facts.funs call.fun) ≡ true → IsOwnRow o.rows call.client call.desc
own_desc i o call alone pass takes =
    is_own_row o.rows call.desc call.client (row_at o.rows call.desc) refl
    (sym (ap (λ b. cond b (is_there (row_at o.rows call.desc)) (is_own (row_at o.rows call.desc) call.client)) alone) ∙ pass.desc takes)

-- of what a shape keeps to, the first four
pub first_four : (facts : Facts) → is_allowed facts ≡ true → (nat_le (length facts.fields) 8 && keeps_private facts && list_all (keeps_to facts) facts.funs && replays_all facts (length facts.funs)) ≡ true
first_four facts allowed =
    let four = nat_le (length facts.fields) 8 && keeps_private facts && list_all (keeps_to facts) facts.funs && replays_all facts (length facts.funs) in
    let five = four && list_all (acts_on_one facts) facts.funs in
    let six = five && each_replays_well facts (length facts.funs) in
    let is_five = (both_true five (each_replays_well facts (length facts.funs)) (both_true six (steps_make_none facts) allowed).0).0 in
    (both_true four (list_all (acts_on_one facts) facts.funs) is_five).0

-- no function that is replayed writes a file
abbrev pub writes_none : Facts → ℕ → Bool
writes_none facts zero = true
writes_none facts (suc n) = implies (is_replayed facts (suc n)) (not (writes (fun_at facts.funs (suc n)))) && writes_none facts n

abbrev pub acts_well : Facts → Bool
acts_well facts = list_all (acts_on_one facts) facts.funs && writes_none facts (length facts.funs)

-- a shape that is allowed keeps to both
pub well_allowed : (facts : Facts) → is_allowed facts ≡ true → acts_well facts ≡ true
well_allowed facts allowed =
    let four = nat_le (length facts.fields) 8 && keeps_private facts && list_all (keeps_to facts) facts.funs && replays_all facts (length facts.funs) in
    let five = four && list_all (acts_on_one facts) facts.funs in
    let six = five && each_replays_well facts (length facts.funs) in
    let two = both_true five (each_replays_well facts (length facts.funs)) (both_true six (steps_make_none facts) allowed).0 in
    both (list_all (acts_on_one facts) facts.funs) (writes_none facts (length facts.funs)) (both_true four (list_all (acts_on_one facts) facts.funs) two.0).1 (none_writes (length facts.funs) two.1)
  where
    both : (a b : Bool) → a ≡ true → b ≡ true → (a && b) ≡ true
    both true b is also = also
    both false b is also = absurd (cc is)

    weaker : (r w a b c : Bool) → implies r (w && a && b && c) ≡ true → implies r w ≡ true
    weaker false w a b c is = refl
    weaker true true a b c is = refl
    weaker true false a b c is = absurd (cc is)

    none_writes : (n : ℕ) → each_replays_well facts n ≡ true → writes_none facts n ≡ true
    none_writes zero all = refl
    none_writes (suc n) all =
        let f = fun_at facts.funs (suc n) in
        let parts = both_true (implies (is_replayed facts (suc n)) (replays_well facts f)) (each_replays_well facts n) all in
        both (implies (is_replayed facts (suc n)) (not (writes f))) (writes_none facts n)
        (weaker (is_replayed facts (suc n)) (not (writes f)) (list_all (λ e. takes_among (count_args f.kinds) e.1) f.effects) (nat_le (count_by (λ e. sets_caller e.1) f.effects) 1)
        (has_no_parents facts || list_all (λ e. leaves_known e.1) f.effects) parts.0) (none_writes n parts.1)

-- so does each of its functions
pub acts : (facts : Facts) (n : ℕ) → is_allowed facts ≡ true → 1 ≤ n → n ≤ length facts.funs → ActsOnOne facts (fun_at facts.funs n)
acts facts n allowed low high =
    let well = well_allowed facts allowed in
    acts_one facts (fun_at facts.funs n) (each_fun (acts_on_one facts) facts.funs n (both_true (list_all (acts_on_one facts) facts.funs) (writes_none facts (length facts.funs)) well).0 low high)

pub private_parents : (facts : Facts) → is_allowed facts ≡ true → facts.global ≡ false → is_cross facts.parents ≡ false
private_parents facts allowed alone =
    let few = nat_le (length facts.fields) 8 in
    let all = list_all (keeps_to facts) facts.funs in
    let front = (both_true (few && keeps_private facts && all) (replays_all facts (length facts.funs)) (first_four facts allowed)).0 in
    let two = (both_true (few && keeps_private facts) all front).0 in
    let keeps : keeps_private facts ≡ true = (both_true few (keeps_private facts) two).1 in
    let has : (not (is_cross facts.parents) && list_all (λ f. not f.all) facts.funs) ≡ true = sym (ap (λ g. implies (not g) (not (is_cross facts.parents) && list_all (λ f. not f.all) facts.funs)) alone) ∙ keeps in
    turn (is_cross facts.parents) (both_true (not (is_cross facts.parents)) (list_all (λ f. not f.all) facts.funs) has).0
  where
    turn : (b : Bool) → not b ≡ true → b ≡ false
    turn true is = absurd (cc is)
    turn false is = refl

-- the parent is none, or one of the caller's
pub own_parent : (i : Declared) (o : Object) (call : Call) → is_allowed i.facts ≡ true → i.facts.global ≡ false → ActsOnOne i.facts (fun_at i.facts.funs call.fun) → IsLetPass i o call
    → takes_parent (fun_at i.facts.funs call.fun) ≡ true → (call.desc ≡ 0) ⊎ IsOwnRow o.rows call.client call.desc
own_parent i o call allowed alone acts pass takes = at i.facts.parents refl (private_parents i.facts allowed alone) acts.never (pass.parent takes)
  where
    either : (b c : Bool) → (b || c) ≡ true → (b ≡ true) ⊎ (c ≡ true)
    either true c is = inl refl
    either false c is = inr is

    at : (p : Parents) → i.facts.parents ≡ p → is_cross p ≡ false → (is_never p ≡ true → takes_parent (fun_at i.facts.funs call.fun) ≡ false)
        → may_be_parent p (row_at o.rows call.desc) call.desc call.client ≡ true → (call.desc ≡ 0) ⊎ IsOwnRow o.rows call.client call.desc
    at Never is cross never may = absurd (let none = never refl in cc (takes, none))
    at Same is cross never may = elim (either (call.desc == 0) (is_own (row_at o.rows call.desc) call.client) may) [
      | inl root ↦ inl (grind (arith, nat_tests, root))
      | inr own ↦ inr (is_own_row o.rows call.desc call.client (row_at o.rows call.desc) refl own)
    ]
    at Cross is cross never may = absurd (cc cross)

-- ---- what every shape keeps to

pub record KeepsTo (facts : Facts) (f : Fun) : Type 0 where
  pub query : f.query ≡ true → (takes_desc f ≡ false) × (takes_parent f ≡ false)
  pub file : f.uses_file ≡ true → takes_desc f ≡ true
  pub plain : f.creation ≡ false → list_all (λ e. not (is_text_field facts.fields e.0)) f.effects ≡ true
  pub once : sets_once f.effects ≡ true

implied : (a b : Bool) → implies a b ≡ true → a ≡ true → b ≡ true
implied true b is a_is = is
implied false b is a_is = absurd (cc a_is)

other_one : (a b : Bool) → a ≡ false → (a || b) ≡ true → b ≡ true
other_one true b none is = absurd (cc none)
other_one false b none is = is

unless : (b : Bool) → not b ≡ true → b ≡ false
unless true is = absurd (cc is)
unless false is = refl

pub keeps : (facts : Facts) (n : ℕ) → is_allowed facts ≡ true → 1 ≤ n → n ≤ length facts.funs → KeepsTo facts (fun_at facts.funs n)
keeps facts n allowed low high =
    let few = nat_le (length facts.fields) 8 in
    let all = list_all (keeps_to facts) facts.funs in
    let front = (both_true (few && keeps_private facts && all) (replays_all facts (length facts.funs)) (first_four facts allowed)).0 in
    let each : all ≡ true = (both_true (few && keeps_private facts) all front).1 in
    told (fun_at facts.funs n) (each_fun (keeps_to facts) facts.funs n each low high)
  where
    told : (f : Fun) → keeps_to facts f ≡ true → KeepsTo facts f
    told f is =
        let one = implies f.query (not (takes_desc f) && not (takes_parent f)) in
        let two = implies f.uses_file (facts.resc_data && takes_desc f) in
        let text = f.creation || list_all (λ e. not (is_text_field facts.fields e.0)) f.effects in
        let block = implies f.block (not f.creation && not f.terminal) in
        let five = (both_true (one && two && text && sets_once f.effects && block) (leaves_own facts.funs f.leaves) is).0 in
        let four = (both_true (one && two && text && sets_once f.effects) block five).0 in
        let three = (both_true (one && two && text) (sets_once f.effects) four).0 in
        let pair = (both_true (one && two) text three).0 in
        let parts = both_true one two pair in
        record {
          query = λ asks. let b = both_true (not (takes_desc f)) (not (takes_parent f)) (implied f.query (not (takes_desc f) && not (takes_parent f)) parts.0 asks) in (unless (takes_desc f) b.0, unless (takes_parent f) b.1);
          file = λ uses. (both_true facts.resc_data (takes_desc f) (implied f.uses_file (facts.resc_data && takes_desc f) parts.1 uses)).1;
          plain = λ makes_none. other_one f.creation (list_all (λ e. not (is_text_field facts.fields e.0)) f.effects) makes_none (both_true (one && two) text three).1;
          once = (both_true (one && two && text) (sets_once f.effects) four).1;
        }

-- no function of a private service looks at all rows
pub looks_at_own : (facts : Facts) (n : ℕ) → is_allowed facts ≡ true → facts.global ≡ false → 1 ≤ n → n ≤ length facts.funs → (fun_at facts.funs n).all ≡ false
looks_at_own facts n allowed alone low high =
    let few = nat_le (length facts.fields) 8 in
    let all = list_all (keeps_to facts) facts.funs in
    let front = (both_true (few && keeps_private facts && all) (replays_all facts (length facts.funs)) (first_four facts allowed)).0 in
    let two = (both_true (few && keeps_private facts) all front).0 in
    let keeps_it : keeps_private facts ≡ true = (both_true few (keeps_private facts) two).1 in
    let has : (not (is_cross facts.parents) && list_all (λ f. not f.all) facts.funs) ≡ true = sym (ap (λ g. implies (not g) (not (is_cross facts.parents) && list_all (λ f. not f.all) facts.funs)) alone) ∙ keeps_it in
    unless (fun_at facts.funs n).all (each_fun (λ f. not f.all) facts.funs n (both_true (not (is_cross facts.parents)) (list_all (λ f. not f.all) facts.funs) has).1 low high)
