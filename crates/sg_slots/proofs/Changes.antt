-- What a decision changes, and the orders before and after it.
use Rattle.std.proofs.Common.{◌≡◌, ℕ, ◌+◌, ◌≤◌, Bool, true, false, cond, ◌||◌, not, nat_eq, List, [], ◌∷◌, ◌++◌, None, Some, IsSome, refl, sym, ◌∙◌, ap, subst, arith}
use Rattle.std.specs.Prelude.{◌==◌, ◌&&◌}
use Rattle.std.specs.declared.option.Option.{Option}
use Rattle.std.specs.declared.result.Result.{Result}
use Rattle.std.specs.declared.result.Result.TheVariants.{Ok, Err}
use Rattle.std.specs.Result.{is_err, OnOk, OnErr}
use Rattle.std.specs.BTreeSet.{BTreeSet}
use Rattle.std.proofs.lemmas.Bool.Decides.{nat_tests}
use Rattle.sg_facts.specs.sg_base.declared.reply.Reply.{Reply}
use Rattle.sg_facts.specs.declared.outcome.Patch.{Patch}
use Rattle.sg_facts.specs.declared.outcome.Outcome.TheVariants.{Replied}
use Rattle.sg_facts.specs.Invoke.{Points}
use Rattle.sg_slots.specs.declared.decision.Decision.{Decision}
use Rattle.sg_slots.specs.declared.decision.Decision.TheVariants.{Make, Enlist, Set, Remove}
use Rattle.sg_slots.specs.Slots.{Held, AreIds, entry_at, set_entry, without}
use Rattle.sg_slots.specs.Carry.{Carries, held_after}
use Rattle.sg_slots.proofs.Ids.{absent, ids_more, ids_set, ids_without}
use Rattle.sg_slots.specs.declared.key.Key.{Key}
use Rattle.sg_slots.specs.declared.standing.Standing.{Standing}
use Rattle.sg_slots.specs.declared.index.Indexes.{Indexes as Both}
use Rattle.sg_slots.specs.Inside.QueueKeys.{has}
use Rattle.sg_slots.specs.Inside.QueueIndex.{Indexes, IsIndexed, stands, in_all, Grows, MayGrow, Shrinks, IsChange}

-- ---- entries after a change

turned : (m n : ℕ) → nat_eq m n ≡ (n == m)
turned m n = grind (arith, nat_tests)

equal : (m n : ℕ) → nat_eq m n ≡ true → m ≡ n
equal m n is = grind (arith, nat_tests)

module _ {E : Type 0} where
  -- an entry comes last under a new id
  entry_more : (es : List (ℕ × E)) (id n : ℕ) (e : E) → entry_at es id ≡ None → entry_at (es ++ (id, e) ∷ []) n ≡ cond (id == n) (Some e) (entry_at es n)
  entry_more [] id n e new = ap (λ b. cond b (Some e) None) (turned n id)
  entry_more (x ∷ es) id n e new = at (nat_eq n x.0) (nat_eq id x.0) (equal n x.0) refl new (entry_more es id n e)
    where
      at : (a b : Bool) → (a ≡ true → n ≡ x.0) → nat_eq id x.0 ≡ b → cond b (Some x.1) (entry_at es id) ≡ None
          → (entry_at es id ≡ None → entry_at (es ++ (id, e) ∷ []) n ≡ cond (id == n) (Some e) (entry_at es n))
          → cond a (Some x.1) (entry_at (es ++ (id, e) ∷ []) n) ≡ cond (id == n) (Some e) (cond a (Some x.1) (entry_at es n))
      at a true same is new rest = absurd (cc new)
      at true false same is new rest =
          let here : n ≡ x.0 = same refl in
          let apart : (id == n) ≡ false = grind (arith, nat_tests) in
          sym (ap (λ b. cond b (Some e) (Some x.1)) apart)
      at false false same is new rest = rest new

  -- an entry that is there is set
  entry_set : (es : List (ℕ × E)) (id n : ℕ) (e : E) → IsSome (entry_at es id) → entry_at (set_entry es id e) n ≡ cond (id == n) (Some e) (entry_at es n)
  entry_set [] id n e there = absurd (cc there)
  entry_set (x ∷ es) id n e there = at (nat_eq n x.0) (nat_eq id x.0) refl refl there (entry_set es id n e)
    where
      at : (a b : Bool) → nat_eq n x.0 ≡ a → nat_eq id x.0 ≡ b → IsSome (cond b (Some x.1) (entry_at es id))
          → (IsSome (entry_at es id) → entry_at (set_entry es id e) n ≡ cond (id == n) (Some e) (entry_at es n))
          → entry_at (cond b ((x.0, e) ∷ es) (x ∷ set_entry es id e)) n ≡ cond (id == n) (Some e) (cond a (Some x.1) (entry_at es n))
      at true true is is' there rest =
          let same : (id == n) ≡ true = grind (arith, nat_tests) in
          ap (λ b. cond b (Some e) (entry_at es n)) is ∙ sym (ap (λ b. cond b (Some e) (Some x.1)) same)
      at false true is is' there rest =
          let apart : (id == n) ≡ false = grind (arith, nat_tests) in
          ap (λ b. cond b (Some e) (entry_at es n)) is ∙ sym (ap (λ b. cond b (Some e) (entry_at es n)) apart)
      at true false is is' there rest =
          let apart : (id == n) ≡ false = grind (arith, nat_tests) in
          ap (λ b. cond b (Some x.1) (entry_at (set_entry es id e) n)) is ∙ sym (ap (λ b. cond b (Some e) (Some x.1)) apart)
      at false false is is' there rest = ap (λ b. cond b (Some x.1) (entry_at (set_entry es id e) n)) is ∙ rest there

  -- no id up to the lower end is there
  absent_below : (id low high : ℕ) (es : List (ℕ × E)) → id ≤ low → AreIds low high es → entry_at es id ≡ None
  absent_below id low high [] below ids = refl
  absent_below id low high (x ∷ es) below ids =
      let apart : nat_eq id x.0 ≡ false = grind (arith, nat_tests, ids.0) in
      ap (λ b. cond b (Some x.1) (entry_at es id)) apart ∙ absent_below id x.0 high es (omega (arith, ids.0)) ids.2

  -- an entry goes
  entry_without : (low high : ℕ) (es : List (ℕ × E)) (id n : ℕ) → AreIds low high es → entry_at (without es id) n ≡ cond (id == n) None (entry_at es n)
  entry_without low high [] id n ids = at (id == n)
    where
      at : (b : Bool) → entry_at {E = E} [] n ≡ cond b None None
      at true = refl
      at false = refl
  entry_without low high (x ∷ es) id n ids = at (nat_eq n x.0) (nat_eq id x.0) refl refl (entry_without x.0 high es id n ids.2)
    where
      at : (a b : Bool) → nat_eq n x.0 ≡ a → nat_eq id x.0 ≡ b → entry_at (without es id) n ≡ cond (id == n) None (entry_at es n)
          → entry_at (cond b es (x ∷ without es id)) n ≡ cond (id == n) None (cond a (Some x.1) (entry_at es n))
      at true true is is' rest =
          let same : (id == n) ≡ true = grind (arith, nat_tests) in
          let one : n ≡ x.0 = equal n x.0 is in
          subst (λ m. entry_at es m ≡ None) (sym one) (absent_below x.0 x.0 high es (omega arith) ids.2) ∙ sym (ap (λ b. cond b None (Some x.1)) same)
      at false true is is' rest =
          let apart : (id == n) ≡ false = grind (arith, nat_tests) in
          sym (ap (λ b. cond b None (entry_at es n)) apart)
      at true false is is' rest =
          let apart : (id == n) ≡ false = grind (arith, nat_tests) in
          ap (λ b. cond b (Some x.1) (entry_at (without es id) n)) is ∙ sym (ap (λ b. cond b None (Some x.1)) apart)
      at false false is is' rest = ap (λ b. cond b (Some x.1) (entry_at (without es id) n)) is ∙ rest

-- ---- decisions

module _ {E : Type 0} (held : Held E) (of : ℕ) (ids : AreIds 0 held.given held.entries) where
  pub make_changes : (t : E) (word : Option ℕ) → IsChange held of (Make t word) (held.given + 1) None (Some t)
  make_changes t word =
      let new = absent 0 held.given (held.given + 1) held.entries ids (omega arith) in
      record { was = new; becomes = λ n. entry_more held.entries (held.given + 1) n t new; stays = ids_more 0 held.given (held.given + 1) held.entries t ids (omega arith) (omega arith) }

  pub enlist_changes : (t : E) (word : Option ℕ) → IsChange held of (Enlist t word) (held.given + 1) None (Some t)
  enlist_changes t word =
      let new = absent 0 held.given (held.given + 1) held.entries ids (omega arith) in
      record { was = new; becomes = λ n. entry_more held.entries (held.given + 1) n t new; stays = ids_more 0 held.given (held.given + 1) held.entries t ids (omega arith) (omega arith) }

  pub set_changes : (t : E) (word : Option ℕ) (before : Option E) → entry_at held.entries of ≡ before → IsSome (entry_at held.entries of) → IsChange held of (Set t word) of before (Some t)
  set_changes t word before was there = record { was = was; becomes = λ n. entry_set held.entries of n t there; stays = ids_set 0 held.given of held.entries t ids there }

  pub remove_changes : (before : Option E) → entry_at held.entries of ≡ before → IsChange held of Remove of before None
  remove_changes before was = record { was = was; becomes = λ n. entry_without 0 held.given held.entries of n ids; stays = ids_without 0 held.given of held.entries ids }

-- a reply leaves what the decision makes of it
pub after_reply : {E : Type 0} (old : Held E) (id : ℕ) (d : Decision E) (points : Points) (reply : Reply) (patch : Option Patch) (new : Held E) (later : Points) → Carries old id d points (Replied reply patch) new later
    → new ≡ held_after old id d
after_reply old id d points reply None new later carried = carried.changed
after_reply old id d points reply (Some patch) new later carried = absurd carried

-- what is said of a result that is an Err, and of one that is an Ok
pub on_err : {A B : Type 0} (r : Result A B) (P : Type 0) → is_err r ≡ true → OnErr r P → P
on_err (Ok a) P is holds = absurd (cc is)
on_err (Err e) P is holds = holds

pub on_ok : {A B : Type 0} (r : Result A B) (P : Type 0) → is_err r ≡ false → OnOk r P → P
on_ok (Ok a) P is holds = holds
on_ok (Err e) P is holds = absurd (cc is)

-- ---- one index

module _ {E : Type 0} (test : Option E → Key → Bool) (id : ℕ) (before after : Option E) where
  -- keys that came and keys that went, at one key
  gone_at : (same was is had : Bool) → had ≡ (cond same was had) → ((had || (same && is)) && not (same && (was && not is))) ≡ cond same is had
  gone_at true true true had eq = ap (λ b. (b || true) && true) eq
  gone_at true true false had eq = ap (λ b. (b || false) && false) eq
  gone_at true false true had eq = ap (λ b. (b || true) && true) eq
  gone_at true false false had eq = ap (λ b. (b || false) && true) eq
  gone_at false was is true eq = refl
  gone_at false was is false eq = refl

  undone_at : (grown same was is had : Bool) → had ≡ cond same was had → ((had || (grown && (same && is))) && not (same && (is && not was))) ≡ had
  undone_at grown false was is true eq = at grown
    where
      at : (g : Bool) → ((true || (g && false)) && true) ≡ true
      at true = refl
      at false = refl
  undone_at grown false was is false eq = at grown
    where
      at : (g : Bool) → ((false || (g && false)) && true) ≡ false
      at true = refl
      at false = refl
  undone_at grown true true is true eq = at is
    where
      at : (i : Bool) → ((true || (grown && i)) && not (i && false)) ≡ true
      at true = refl
      at false = refl
  undone_at grown true false is true eq = absurd (cc eq)
  undone_at grown true true is false eq = absurd (cc eq)
  undone_at grown true false true false eq = at grown
    where
      at : (g : Bool) → ((false || (g && true)) && false) ≡ false
      at true = refl
      at false = refl
  undone_at grown true false false false eq = at grown
    where
      at : (g : Bool) → ((false || (g && false)) && true) ≡ false
      at true = refl
      at false = refl

  -- what a set has at a key is what the entry of an id was, where it is the key's
  was_at : (es : List (ℕ × E)) (keys : BTreeSet Key) (k : Key) → Indexes test es keys → entry_at es id ≡ before → has keys k ≡ cond (id == k.id) (test before k) (has keys k)
  was_at es keys k indexed was = at (id == k.id) (λ is. grind (arith, nat_tests))
    where
      at : (b : Bool) → (b ≡ true → id ≡ k.id) → has keys k ≡ cond b (test before k) (has keys k)
      at true same = indexed k ∙ ap (λ o. test o k) (sym (ap (entry_at es) (same refl)) ∙ was)
      at false same = refl

  -- keys are added before a change, and taken out after it
  settled : (es es' : List (ℕ × E)) (s s' s'' : BTreeSet Key) → Indexes test es s → entry_at es id ≡ before → ((n : ℕ) → entry_at es' n ≡ cond (id == n) after (entry_at es n))
      → Grows test id after s s' true → Shrinks test id before after s' s'' → Indexes test es' s''
  settled es es' s s' s'' indexed was becomes grows shrinks k =
      shrinks k ∙ ap (λ b. b && not ((id == k.id) && (test before k && not (test after k)))) (grows k)
      ∙ gone_at (id == k.id) (test before k) (test after k) (has s k) (was_at es s k indexed was)
      ∙ at (id == k.id) ∙ sym (ap (λ o. test o k) (becomes k.id))
    where
      at : (b : Bool) → cond b (test after k) (has s k) ≡ test (cond b after (entry_at es k.id)) k
      at true = refl
      at false = indexed k

  -- keys are added, and taken out again
  undone : (es : List (ℕ × E)) (s s' s'' : BTreeSet Key) → Indexes test es s → entry_at es id ≡ before → MayGrow test id after s s' → Shrinks test id after before s' s'' → Indexes test es s''
  undone es s s' s'' indexed was grows shrinks k =
      shrinks k ∙ ap (λ b. b && not ((id == k.id) && (test after k && not (test before k)))) (grows.1 k)
      ∙ undone_at grows.0 (id == k.id) (test before k) (test after k) (has s k) (was_at es s k indexed was) ∙ indexed k

-- ---- both orders

module _ {E : Type 0} (first : E → Option Standing) (second : E → Standing) where
  -- the orders follow a change of one entry
  pub both_settled : (held held' : Held E) (id : ℕ) (before after : Option E) (i i' i'' : Both) → IsIndexed first second held i.firsts i.seconds → AreIds 0 held'.given held'.entries
      → entry_at held.entries id ≡ before → ((n : ℕ) → entry_at held'.entries n ≡ cond (id == n) after (entry_at held.entries n))
      → Grows (stands first) id after i.firsts i'.firsts true → Grows (stands (in_all second)) id after i.seconds i'.seconds true
      → Shrinks (stands first) id before after i'.firsts i''.firsts → Shrinks (stands (in_all second)) id before after i'.seconds i''.seconds → IsIndexed first second held' i''.firsts i''.seconds
  both_settled held held' id before after i i' i'' indexed ids was becomes firsts seconds less_firsts less_seconds = record {
    ids = ids;
    in_first = settled (stands first) id before after held.entries held'.entries i.firsts i'.firsts i''.firsts indexed.in_first was becomes firsts less_firsts;
    in_second = settled (stands (in_all second)) id before after held.entries held'.entries i.seconds i'.seconds i''.seconds indexed.in_second was becomes seconds less_seconds;
  }

  -- the orders are as before where nothing was changed
  pub both_undone : (held : Held E) (id : ℕ) (before after : Option E) (i i' i'' : Both) → IsIndexed first second held i.firsts i.seconds → entry_at held.entries id ≡ before
      → MayGrow (stands first) id after i.firsts i'.firsts → MayGrow (stands (in_all second)) id after i.seconds i'.seconds
      → Shrinks (stands first) id after before i'.firsts i''.firsts → Shrinks (stands (in_all second)) id after before i'.seconds i''.seconds → IsIndexed first second held i''.firsts i''.seconds
  both_undone held id before after i i' i'' indexed was firsts seconds less_firsts less_seconds = record {
    ids = indexed.ids;
    in_first = undone (stands first) id before after held.entries i.firsts i'.firsts i''.firsts indexed.in_first was firsts less_firsts;
    in_second = undone (stands (in_all second)) id before after held.entries i.seconds i'.seconds i''.seconds indexed.in_second was seconds less_seconds;
  }
