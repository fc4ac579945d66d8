-- What the orders tell of the entries.
use Rattle.std.proofs.Common.{◌≡◌, ℕ, ◌<◌, ◌≤◌, Bool, true, false, cond, nat_eq, List, [], ◌∷◌, None, Some, IsSome, length, refl, sym, ◌∙◌, ap, subst, inl, inr, arith}
use Rattle.std.specs.Prelude.{◌==◌, ◌&&◌, ◌||◌, nat_lt}
use Rattle.std.specs.List.{list_any}
use Rattle.std.specs.declared.option.Option.{Option}
use Rattle.std.specs.Ordering.{is_gt, is_lt, nat_cmp, ordering_then}
use Rattle.std.specs.declared.cmp.Ordering.{Ordering}
use Rattle.std.specs.declared.cmp.Ordering.TheVariants.{Less, Equal, Greater}
use Rattle.std.specs.Cmp.{nat_cmp_is}
use Rattle.std.specs.BTreeMap.{is_at}
use Rattle.std.specs.BTreeSet.{BTreeSet, IsLowerBound, IsUpperBound}
use Rattle.std.proofs.lemmas.Bool.Decides.{nat_tests}
use Rattle.sg_slots.specs.Slots.{AreIds, entry_at}
use Rattle.sg_slots.proofs.Ids.{above_front}
use Rattle.sg_slots.specs.declared.key.Key.{Key}
use Rattle.sg_slots.specs.declared.standing.Standing.{Standing}
use Rattle.sg_slots.specs.Orders.{by, stands_before, GoesFirst, HasGreatest}
use Rattle.sg_slots.specs.Inside.QueueKeys.{key_cmp, has, IsFound}
use Rattle.sg_slots.specs.Inside.QueueIndex.{Indexes, is_standing, stands, in_all}
use Rattle.sg_slots.proofs.Firsts.{by_same, by_more, sides}

-- ---- the order of keys

-- one number of two keys, and what is left
not_after : (a b : ℕ) (o : Ordering) (further : Bool) → is_gt (ordering_then (nat_cmp a b) o) ≡ false → (is_gt o ≡ false → further ≡ false) → by b a further ≡ false
not_after a b o further is then = elim (sides a b) [
  | inl less ↦ by_more b a further less
  | inr (inl same) ↦
      let even : nat_cmp a b ≡ Equal = sym (nat_cmp_is a b Equal same) in
      by_same b a further (sym same) ∙ then (sym (ap (λ x. is_gt (ordering_then x o)) even) ∙ is)
  | inr (inr more) ↦
      let above : nat_cmp a b ≡ Greater = sym (nat_cmp_is a b Greater more) in
      let clash : true ≡ false = sym (ap (λ x. is_gt (ordering_then x o)) above) ∙ is in
      absurd (cc clash)
]

last_number : (a b : ℕ) → is_gt (nat_cmp a b) ≡ false → nat_lt b a ≡ false
last_number a b is = elim (sides a b) [
  | inl less ↦ grind (arith, nat_tests)
  | inr (inl same) ↦ grind (arith, nat_tests)
  | inr (inr more) ↦
      let above : nat_cmp a b ≡ Greater = sym (nat_cmp_is a b Greater more) in
      let clash : true ≡ false = sym (ap is_gt above) ∙ is in
      absurd (cc clash)
]

-- the key of an id that stands somewhere
abbrev pub key_at : ℕ → Standing → Key
key_at id s = record { first = s.first; second = s.second; id = id }

-- what hasn't a less key doesn't go before
goes_after : (m n : ℕ) (s t : Standing) → is_gt (key_cmp (key_at m s) (key_at n t)) ≡ false → stands_before t n s m ≡ false
goes_after m n s t is =
    not_after s.first t.first _ _ is (λ is. not_after s.second t.second _ _ is (λ is. last_number m n is))

-- what hasn't a greater key has no greater first number
no_greater : (k q : Key) → is_lt (key_cmp k q) ≡ false → q.first ≤ k.first
no_greater k q is = elim (sides k.first q.first) [
  | inl less ↦
      let below : nat_cmp k.first q.first ≡ Less = sym (nat_cmp_is k.first q.first Less less) in
      let clash : true ≡ false = sym (ap (λ x. is_lt (ordering_then x (ordering_then (nat_cmp k.second q.second) (nat_cmp k.id q.id)))) below) ∙ is in
      absurd (cc clash)
  | inr (inl same) ↦ omega arith
  | inr (inr more) ↦ omega arith
]

-- ---- keys and their entries

same_number : (n : ℕ) → (n == n) ≡ true
same_number n = grind (arith, nat_tests)

equal : (m n : ℕ) → (m == n) ≡ true → n ≡ m
equal m n is = grind (arith, nat_tests)

-- no key is in an empty set
none_in : (keys : BTreeSet Key) (k : Key) → keys.keys ≡ [] → has keys k ≡ true → ⊥
none_in keys k empty is =
    let clash : true ≡ false = sym is ∙ ap (λ ks. list_any (is_at (key_cmp k)) ks) empty in
    cc clash

module _ {E : Type 0} (order : E → Option Standing) (es : List (ℕ × E)) (keys : BTreeSet Key) (indexed : Indexes (stands order) es keys) where
  -- an entry of a key
  record Stands (k : Key) : Type 0 where
    entry : E
    there : entry_at es k.id ≡ Some entry
    standing : Standing
    is : order entry ≡ Some standing
    key : k ≡ key_at k.id standing

  -- a key is that of an entry that stands in the order
  entry_of : (k : Key) → has keys k ≡ true → Stands k
  entry_of k is = at (entry_at es k.id) refl (sym (indexed k) ∙ is)
    where
      at : (o : Option E) → entry_at es k.id ≡ o → stands order o k ≡ true → Stands k
      at None there test = absurd (cc test)
      at (Some e) there test = where_it (order e) refl test
        where
          where_it : (o : Option Standing) → order e ≡ o → is_standing o k ≡ true → Stands k
          where_it None at_none test = absurd (cc test)
          where_it (Some s) at_some test = tell (s.first == k.first) (s.second == k.second) refl refl test
            where
              tell : (a b : Bool) → (s.first == k.first) ≡ a → (s.second == k.second) ≡ b → (a && b) ≡ true → Stands k
              tell true true a b all =
                  let one = equal s.first k.first a in
                  let two = equal s.second k.second b in
                  record {
                    entry = e;
                    there = there;
                    standing = s;
                    is = at_some;
                    key = ap (λ n. record { first = n; second = k.second; id = k.id }) one ∙ ap (λ n. record { first = s.first; second = n; id = k.id }) two;
                  }
              tell false z a b all = absurd (cc all)
              tell true false a b all = absurd (cc all)

  -- an entry that stands in the order has its key there
  key_in : (id : ℕ) (e : E) (s : Standing) → entry_at es id ≡ Some e → order e ≡ Some s → has keys (key_at id s) ≡ true
  key_in id e s there is =
      indexed (key_at id s) ∙ ap (λ o. stands order o (key_at id s)) there ∙ ap (λ o. is_standing o (key_at id s)) is
      ∙ ap (λ b. b && (s.second == s.second)) (same_number s.first) ∙ same_number s.second

  -- the least key is that of the entry that goes first
  pub first_told : (k : Key) → has keys k ≡ true → IsLowerBound key_cmp keys k → GoesFirst order es k.id
  first_told k is least =
      let mine = entry_of k is in
      record {
        entry = mine.entry;
        there = mine.there;
        standing = mine.standing;
        stands = mine.is;
        first = λ n e s there stands. goes_after k.id n mine.standing s (subst (λ x. is_gt (key_cmp x (key_at n s)) ≡ false) mine.key (least (key_at n s) (key_in n e s there stands)));
      }

  -- where there is no key no entry stands in the order
  pub none_told : keys.keys ≡ [] → (n : ℕ) (e : E) → entry_at es n ≡ Some e → order e ≡ None
  none_told empty n e there = at (order e) refl
    where
      at : (o : Option Standing) → order e ≡ o → o ≡ None
      at None is = refl
      at (Some s) is = absurd (none_in keys (key_at n s) empty (key_in n e s there is))

module _ {E : Type 0} (order : E → Standing) (es : List (ℕ × E)) (keys : BTreeSet Key) (indexed : Indexes (stands (in_all order)) es keys) where
  -- the greatest key has the greatest first number
  pub greatest_told : (k : Key) → has keys k ≡ true → IsUpperBound key_cmp keys k → HasGreatest order es k.first
  greatest_told k is greatest =
      let mine = entry_of (in_all order) es keys indexed k is in
      let some : Some (order mine.entry) ≡ Some mine.standing = mine.is in
      let standing : order mine.entry ≡ mine.standing = cc some in
      record {
        id = k.id;
        entry = mine.entry;
        there = mine.there;
        is = ap (λ s. s.first) standing ∙ sym (ap (λ x. x.first) mine.key);
        greatest = λ n e there. no_greater k (key_at n (order e)) (greatest (key_at n (order e)) (key_in (in_all order) es keys indexed n e (order e) there refl));
      }

  -- where there is no key there is no entry
  pub nothing_told : keys.keys ≡ [] → (n : ℕ) (e : E) → entry_at es n ≡ Some e → ⊥
  nothing_told empty n e there = none_in keys (key_at n (order e)) empty (key_in (in_all order) es keys indexed n e (order e) there refl)

  -- whether an entry has a first number
  abbrev pub has_number : ℕ → (ℕ × E) → Bool
  has_number number e = (order e.1).first == number

  -- an entry with the number is among them
  among : (number id : ℕ) (e : E) (xs : List (ℕ × E)) → entry_at xs id ≡ Some e → has_number number (id, e) ≡ true → list_any (has_number number) xs ≡ true
  among number id e [] there is = absurd (cc there)
  among number id e (x ∷ xs) there is = at (nat_eq id x.0) there (among number id e xs)
    where
      or_true : (a b : Bool) → b ≡ true → (a || b) ≡ true
      or_true true b is = refl
      or_true false b is = is

      at : (b : Bool) → cond b (Some x.1) (entry_at xs id) ≡ Some e → (entry_at xs id ≡ Some e → has_number number (id, e) ≡ true → list_any (has_number number) xs ≡ true)
          → (((order x.1).first == number) || list_any (has_number number) xs) ≡ true
      at true there rest =
          let one : x.1 ≡ e = cc there in
          ap (λ y. ((order y).first == number) || list_any (has_number number) xs) one ∙ ap (λ b. b || list_any (has_number number) xs) is
      at false there rest = or_true (has_number number x) (list_any (has_number number) xs) (rest there is)

  -- an entry with a number
  record With (number : ℕ) (xs : List (ℕ × E)) : Type 0 where
    id : ℕ
    entry : E
    there : entry_at xs id ≡ Some entry
    is : has_number number (id, entry) ≡ true

  -- where one of them has the number it is found
  from_any : (low high number : ℕ) (xs : List (ℕ × E)) → AreIds low high xs → list_any (has_number number) xs ≡ true → With number xs
  from_any low high number [] ids is = absurd (cc is)
  from_any low high number (x ∷ xs) ids is = at (has_number number x) refl is (from_any x.0 high number xs ids.2)
    where
      at : (b : Bool) → has_number number x ≡ b → (b || list_any (has_number number) xs) ≡ true → (list_any (has_number number) xs ≡ true → With number xs) → With number (x ∷ xs)
      at true mine is rest =
          let self : nat_eq x.0 x.0 ≡ true = grind (arith, nat_tests) in
          record { id = x.0; entry = x.1; there = ap (λ b. cond b (Some x.1) (entry_at xs x.0)) self; is = mine }
      at false mine is rest =
          let found = rest is in
          let above = above_front x.0 high found.id xs ids.2 (subst IsSome (sym found.there) refl) in
          let apart : nat_eq found.id x.0 ≡ false = grind (arith, nat_tests, above) in
          record { id = found.id; entry = found.entry; there = ap (λ b. cond b (Some x.1) (entry_at xs found.id)) apart ∙ found.there; is = found.is }

  -- whether a number is among them, by whether a key has it
  pub has_told : (low high number : ℕ) (b : Bool) → AreIds low high es → (b ≡ true → IsFound keys number)
      → (b ≡ false → (second id : ℕ) → has keys (record { first = number; second = second; id = id }) ≡ false) → b ≡ list_any (has_number number) es
  has_told low high number true ids found none =
      let f = found refl in
      let mine = entry_of (in_all order) es keys indexed (record { first = number; second = f.second; id = f.id }) f.found in
      let some : Some (order mine.entry) ≡ Some mine.standing = mine.is in
      let standing : order mine.entry ≡ mine.standing = cc some in
      let first : number ≡ (order mine.entry).first = ap (λ x. x.first) mine.key ∙ sym (ap (λ s. s.first) standing) in
      let test : ((order mine.entry).first == number) ≡ true = grind (arith, nat_tests, first) in
      sym (among number f.id mine.entry es mine.there test)
  has_told low high number false ids found none = at (list_any (has_number number) es) refl
    where
      at : (b : Bool) → list_any (has_number number) es ≡ b → false ≡ b
      at false is = refl
      at true is =
          let f = from_any low high number es ids is in
          let first : (order f.entry).first ≡ number = sym (equal (order f.entry).first number f.is) in
          let there = key_in (in_all order) es keys indexed f.id f.entry (order f.entry) f.there refl in
          let key : has keys (record { first = number; second = (order f.entry).second; id = f.id }) ≡ true =
          subst (λ n. has keys (record { first = n; second = (order f.entry).second; id = f.id }) ≡ true) first there in
          let clash : true ≡ false = sym key ∙ none refl (order f.entry).second f.id in
          absurd (cc clash)

-- a list of keys that isn't longer than none is empty
pub no_keys : (keys : List Key) → (0 < length keys → false ≡ true) → keys ≡ []
no_keys [] none = refl
no_keys (k ∷ keys) none = let clash : false ≡ true = none (omega arith) in absurd (cc clash)
