-- An entry that stands before no item yet may be put before held replies: the run recovers with it there as it does with it after them.
use Rattle.std.proofs.Common.{◌≡◌, ℕ, Bool, true, false, cond, not, List, [], ◌∷◌, ◌++◌, None, Some, map, filter, ◌≤◌, ◌<◌, refl, sym, ◌∙◌, ap, subst, inl, inr, ◌⊎◌, append_assoc, append-nil, arith}
use Rattle.std.specs.Prelude.{◌==◌, ◌≢◌, ◌||◌, ◌&&◌, find}
use Rattle.std.specs.List.{Contains, list_all, list_any}
use Rattle.std.specs.declared.option.Option.{Option}
use Rattle.std.proofs.lemmas.Bool.Decides.{eqb_tells, nat_tests}
use Rattle.std.proofs.lemmas.List.Elements.{Contains-append_left, Contains-append_right, Contains-append_cases, filter-append}
use Rattle.std.proofs.lemmas.List.Folds.{list_any-append}
use Rattle.std.proofs.lemmas.List.{map-append}
use Rattle.sg_facts.specs.sg_base.Lists.{Each, When}
use Rattle.sg_facts.specs.sg_base.declared.call.Call.{Call}
use Rattle.sg_facts.specs.declared.entry.Entry.{Entry}
use Rattle.sg_facts.specs.declared.outcome.Outcome.{Outcome}
use Rattle.sg_facts.specs.declared.tables.WalkLine.{WalkLine}
use Rattle.sg_facts.specs.declared.trace.Item.{Item}
use Rattle.sg_facts.specs.declared.trace.Tag.{Tag}
use Rattle.sg_facts.specs.declared.trace.Tag.TheVariants.{Walk, Load, Client}
use Rattle.sg_facts.specs.Facts.{Facts, fun_at, is_visible}
use Rattle.sg_facts.specs.Object.{object_of}
use Rattle.sg_facts.specs.Trace.{Run}
use Rattle.sg_hist.specs.Clients.{calls_of}
use Rattle.sg_hist.specs.Reading.{Position, items_after, desc_in, id_given, is_by_guard, is_made, is_item_of, is_ok, item_of, names_at, pair_of, places_in, places_of, stands_before}
use Rattle.sg_hist.specs.Inside.Reads.{entries_before, is_rebuilt_at, made_by, names_in}
use Rattle.sg_hist.specs.Recovered.{AreInOrder, IsUnderWay, Stubs, is_answered_later, is_entered, is_visible_reply}
use Rattle.sg_hist.specs.Inside.Parts.{ComeBefore, HasItem, IsCommitted, IsDemanded, IsItsCall, IsTrackedAt, IsWalked, calls_made}
use Rattle.sg_hist.specs.Growing.{IsLastCall, IsRecovering}
use Rattle.sg_recovery_laws.proofs.Lists.{each_append, each_both, each_map, each_split}
use Rattle.sg_recovery_laws.proofs.Onward.{its_kept}
use Rattle.sg_recovery_laws.proofs.Same.{IsSame, any_same, demanded_same, rebuilt_again, tracked_same, walked_same}
use Rattle.sg_recovery_laws.proofs.Served.{has_same}
use Rattle.sg_recovery_laws.proofs.UnderWay.{AreBelow, AreFrom, below_of, from_of, of_below, of_from}
use Rattle.sg_recovery_laws.proofs.Stays.{any_push, earlier_place, when_not, when_own}
use Rattle.sg_recovery_laws.specs.Objects.Waiting.{NoneBy}

module _ (h es : List Entry) (e : Entry) (none : NoneBy e.call.client es) where
  abbrev before : List Entry
  before = h ++ (es ++ e ∷ [])

  abbrev now : List Entry
  now = h ++ e ∷ es

  -- ---- lists of which one element is moved

  find_front : (test : Entry → Bool) (xs : List Entry) → Each (λ x. test x ≡ true → test e ≡ false) xs → find test (xs ++ e ∷ []) ≡ find test (e ∷ xs)
  find_front test [] apart = refl
  find_front test (x ∷ xs) apart = at (test x) refl (test e) refl (find_front test xs apart.1)
    where
      at : (b : Bool) → test x ≡ b → (c : Bool) → test e ≡ c → find test (xs ++ e ∷ []) ≡ cond (test e) (Some e) (find test xs)
          → cond b (Some x) (find test (xs ++ e ∷ [])) ≡ cond c (Some e) (cond b (Some x) (find test xs))
      at true is true also rest = absurd (let isn't = apart.0 is in cc (also, isn't))
      at true is false also rest = refl
      at false is c also rest = rest ∙ ap (λ b. cond b (Some e) (find test xs)) also

  find_after : (test : Entry → Bool) (xs ys zs : List Entry) → find test ys ≡ find test zs → find test (xs ++ ys) ≡ find test (xs ++ zs)
  find_after test [] ys zs same = same
  find_after test (x ∷ xs) ys zs same = ap (λ v. cond (test x) (Some x) v) (find_after test xs ys zs same)

  numbered_apart : (client seq : ℕ) (xs : List Entry) → NoneBy e.call.client xs
      → Each (λ x. ((x.call.client == client) && (x.call.seq == seq)) ≡ true → ((e.call.client == client) && (e.call.seq == seq)) ≡ false) xs
  numbered_apart client seq [] none = tt
  numbered_apart client seq (x ∷ xs) none = (λ is. at (e.call.client == client) refl (both (x.call.client == client) (x.call.seq == seq) is), numbered_apart client seq xs none.1)
    where
      both : (a b : Bool) → (a && b) ≡ true → a ≡ true
      both true b is = refl
      both false b is = absurd (cc is)

      at : (b : Bool) → (e.call.client == client) ≡ b → (x.call.client == client) ≡ true → (b && (e.call.seq == seq)) ≡ false
      at true is also = absurd (none.0 (let one : x.call.client ≡ e.call.client = grind (arith, nat_tests, is, also) in one))
      at false is also = refl

  pub id_moved : (client seq : ℕ) → id_given (h ++ e ∷ es) client seq ≡ id_given (h ++ (es ++ e ∷ [])) client seq
  id_moved client seq = ap desc_in (sym (find_after (λ x. (x.call.client == client) && (x.call.seq == seq)) h (es ++ e ∷ []) (e ∷ es)
      (find_front (λ x. (x.call.client == client) && (x.call.seq == seq)) es (numbered_apart client seq es none))))

  -- ---- names and what was made

  name_moved : (facts : Facts) (fun : ℕ) (tag : Tag) (outcome : Outcome) → names_in facts (h ++ e ∷ es) fun tag outcome ≡ names_in facts (h ++ (es ++ e ∷ [])) fun tag outcome
  name_moved facts fun (Walk id k client) outcome = refl
  name_moved facts fun (Load key client) outcome = refl
  name_moved facts fun (Client client seq) outcome = ap (λ id. cond (fun_at facts.funs fun).creation (pair_of id outcome) []) (id_moved client seq)

  pub names_moved : (facts : Facts) (items : List Item) → names_at facts (h ++ e ∷ es) items ≡ names_at facts (h ++ (es ++ e ∷ [])) items
  names_moved facts [] = refl
  names_moved facts (x ∷ items) =
      ap (λ v. v ++ names_at facts (h ++ e ∷ es) items) (name_moved facts x.shown.fun x.tag x.outcome) ∙ ap (λ v. names_in facts (h ++ (es ++ e ∷ [])) x.shown.fun x.tag x.outcome ++ v) (names_moved facts items)

  made_moved_one : (facts : Facts) (id fun : ℕ) (tag : Tag) → made_by facts (h ++ e ∷ es) id fun tag ≡ made_by facts (h ++ (es ++ e ∷ [])) id fun tag
  made_moved_one facts id fun (Walk i k client) = refl
  made_moved_one facts id fun (Load key client) = refl
  made_moved_one facts id fun (Client client seq) = ap (λ n. (fun_at facts.funs fun).creation && (n == id)) (id_moved client seq)

  made_moved : (facts : Facts) (id : ℕ) (items : List Item) → list_any (is_made facts (h ++ e ∷ es) id) items ≡ list_any (is_made facts (h ++ (es ++ e ∷ [])) id) items
  made_moved facts id items = any_same (is_made facts (h ++ e ∷ es) id) (is_made facts (h ++ (es ++ e ∷ [])) id) items (λ x. ap (λ b. is_ok x.outcome && b) (made_moved_one facts id x.shown.fun x.tag))

  -- ---- places before which the entry doesn't stand

  pub entries_moved : (p : Position) → stands_before p e ≡ false → entries_before (h ++ e ∷ es) p ≡ entries_before (h ++ (es ++ e ∷ [])) p
  entries_moved p isn't =
      filter-append (stands_before p) h (e ∷ es)
      ∙ ap (λ b. filter (stands_before p) h ++ cond b (e ∷ filter (stands_before p) es) (filter (stands_before p) es)) isn't
      ∙ ap (λ l. filter (stands_before p) h ++ l) (sym (append-nil (filter (stands_before p) es)))
      ∙ ap (λ b. filter (stands_before p) h ++ (filter (stands_before p) es ++ cond b (e ∷ []) [])) (sym isn't)
      ∙ ap (λ l. filter (stands_before p) h ++ l) (sym (filter-append (stands_before p) es (e ∷ [])))
      ∙ sym (filter-append (stands_before p) h (es ++ e ∷ []))

  rebuilt_moved : (facts : Facts) (walks : List WalkLine) (id : ℕ) (older done items newer : List Item)
      → not (is_by_guard e.reply) && list_any (is_item_of e) (older ++ (done ++ items)) && not (list_any (is_item_of e) newer) ≡ false
      → list_any (is_rebuilt_at facts walks (h ++ e ∷ es) id) (places_in older done items newer) ≡ list_any (is_rebuilt_at facts walks (h ++ (es ++ e ∷ [])) id) (places_in older done items newer)
  rebuilt_moved facts walks id older done [] newer is = refl
  rebuilt_moved facts walks id older done (x ∷ items) newer is =
      let p : Position = record { older = older; front = done; item = x; rest = items; newer = newer } in
      let one : is_rebuilt_at facts walks (h ++ e ∷ es) id p ≡ is_rebuilt_at facts walks (h ++ (es ++ e ∷ [])) id p
      = rebuilt_again facts walks (h ++ (es ++ e ∷ [])) (h ++ e ∷ es) id p items newer (ap (object_of facts) (entries_moved p (earlier_place e older done x items newer is))) in
      let rest : list_any (is_rebuilt_at facts walks (h ++ e ∷ es) id) (places_in older (done ++ x ∷ []) items newer) ≡ list_any (is_rebuilt_at facts walks (h ++ (es ++ e ∷ [])) id) (places_in older (done ++ x ∷ []) items newer)
      = rebuilt_moved facts walks id older (done ++ x ∷ []) items newer
      (ap (λ v. not (is_by_guard e.reply) && list_any (is_item_of e) (older ++ v) && not (list_any (is_item_of e) newer)) (append_assoc done (x ∷ []) items) ∙ is) in
      ap (λ b. b || list_any (is_rebuilt_at facts walks (h ++ e ∷ es) id) (places_in older (done ++ x ∷ []) items newer)) one
      ∙ ap (λ b. is_rebuilt_at facts walks (h ++ (es ++ e ∷ [])) id p || b) rest

  -- ---- calls

  calls_none : (client : ℕ) (xs : List Entry) → NoneBy client xs → calls_of xs client ≡ []
  calls_none client [] none = refl
  calls_none client (x ∷ xs) none =
      ap (λ b. cond b (x ∷ calls_of xs client) (calls_of xs client)) (apart x.call.client client none.0) ∙ calls_none client xs none.1
    where
      apart : (a b : ℕ) → a ≢ b → (a == b) ≡ false
      apart a b isn't = elim (eqb_tells a b) [ inl same ↦ absurd (isn't same.1) | inr is ↦ is.0 ]

  pub calls_moved : (client : ℕ) → calls_of (h ++ e ∷ es) client ≡ calls_of (h ++ (es ++ e ∷ [])) client
  calls_moved client =
      filter-append (λ x. x.call.client == client) h (e ∷ es) ∙ ap (λ l. calls_of h client ++ l) (at (eqb_tells e.call.client client)) ∙ sym (filter-append (λ x. x.call.client == client) h (es ++ e ∷ []))
    where
      at : ((e.call.client == client) ≡ true) × (e.call.client ≡ client) ⊎ ((e.call.client == client) ≡ false) × (e.call.client ≡ client → ⊥) → calls_of (e ∷ es) client ≡ calls_of (es ++ e ∷ []) client
      at (inl same) =
          let no : calls_of es client ≡ [] = calls_none client es (subst (λ c. NoneBy c es) same.1 none) in
          ap (λ b. cond b (e ∷ calls_of es client) (calls_of es client)) same.0 ∙ ap (λ l. e ∷ l) no
          ∙ sym (filter-append (λ x. x.call.client == client) es (e ∷ []) ∙ ap (λ l. l ++ calls_of (e ∷ []) client) no ∙ ap (λ b. cond b (e ∷ []) []) same.0)
      at (inr apart) =
          ap (λ b. cond b (e ∷ calls_of es client) (calls_of es client)) apart.0
          ∙ sym (filter-append (λ x. x.call.client == client) es (e ∷ []) ∙ ap (λ b. calls_of es client ++ cond b (e ∷ []) []) apart.0 ∙ append-nil (calls_of es client))

  contains_moved : (u : List Call) (call : Call) → Contains (calls_made (h ++ (es ++ e ∷ [])) u) call → Contains (calls_made (h ++ e ∷ es) u) call
  contains_moved u call has = elim (Contains-append_cases (map (λ x. x.call) (h ++ (es ++ e ∷ []))) u call has) [
    | inl mine ↦ Contains-append_left (map (λ x. x.call) (h ++ e ∷ es)) u call
        (subst (λ l. Contains l call) (sym (map-append (λ x. x.call) h (e ∷ es)))
        (in_h (subst (λ l. Contains l call) (map-append (λ x. x.call) h (es ++ e ∷ [])) mine)))
    | inr other ↦ Contains-append_right (map (λ x. x.call) (h ++ e ∷ es)) u call other
  ]
    where
      in_es : Contains (map (λ x. x.call) es ++ map (λ x. x.call) (e ∷ [])) call → Contains (map (λ x. x.call) (e ∷ []) ++ map (λ x. x.call) es) call
      in_es has = elim (Contains-append_cases (map (λ x. x.call) es) (map (λ x. x.call) (e ∷ [])) call has) [
        | inl one ↦ Contains-append_right (map (λ x. x.call) (e ∷ [])) (map (λ x. x.call) es) call one
        | inr one ↦ Contains-append_left (map (λ x. x.call) (e ∷ [])) (map (λ x. x.call) es) call one
      ]

      in_h : Contains (map (λ x. x.call) h ++ map (λ x. x.call) (es ++ e ∷ [])) call → Contains (map (λ x. x.call) h ++ map (λ x. x.call) (e ∷ es)) call
      in_h has = elim (Contains-append_cases (map (λ x. x.call) h) (map (λ x. x.call) (es ++ e ∷ [])) call has) [
        | inl one ↦ Contains-append_left (map (λ x. x.call) h) (map (λ x. x.call) (e ∷ es)) call one
        | inr one ↦ Contains-append_right (map (λ x. x.call) h) (map (λ x. x.call) (e ∷ es)) call (in_es (subst (λ l. Contains l call) (map-append (λ x. x.call) es (e ∷ [])) one))
      ]

  module _ (facts : Facts) (u : List Call) (p : Position) (isn't : stands_before p e ≡ false) (hidden : Each (λ x. is_visible facts x.call.fun ≡ false) es)
      (last : Each (λ x. IsLastCall (h ++ e ∷ es) u x.call) es) where
    abbrev seen : Entry → Bool
    seen x = is_visible facts x.call.fun && stands_before p x

    none_seen : (ys : List Entry) → Each (λ x. is_visible facts x.call.fun ≡ false) ys → list_any seen ys ≡ false
    none_seen [] none = refl
    none_seen (y ∷ ys) none = ap (λ v. (v && stands_before p y) || list_any seen ys) none.0 ∙ none_seen ys none.1

    seen_front : (xs : List Entry) → list_any seen (xs ++ (es ++ e ∷ [])) ≡ list_any seen (xs ++ e ∷ es)
    seen_front [] =
        any_push facts (stands_before p) es e isn't ∙ none_seen es hidden
        ∙ sym (ap (λ b. (is_visible facts e.call.fun && b) || list_any seen es) isn't ∙ at (is_visible facts e.call.fun) ∙ none_seen es hidden)
      where
        at : (v : Bool) → (v && false) || list_any seen es ≡ list_any seen es
        at true = refl
        at false = refl
    seen_front (x ∷ xs) = ap (λ b. seen x || b) (seen_front xs)

    below_front : (client seq : ℕ) (xs : List Entry) → AreBelow facts (stands_before p) client seq (xs ++ (es ++ e ∷ [])) → AreBelow facts (stands_before p) client seq (xs ++ e ∷ es)
    below_front client seq [] are = (
      subst (λ b. When ((e.call.client == client) && (b || list_any seen es)) (e.call.seq < seq)) (sym isn't)
          (subst (λ b. When ((e.call.client == client) && b) (e.call.seq < seq)) (sym (none_seen es hidden)) (when_not (e.call.client == client) _)),
      rest es are,
    )
      where
        rest : (ys : List Entry) → AreBelow facts (stands_before p) client seq (ys ++ e ∷ []) → AreBelow facts (stands_before p) client seq ys
        rest [] are = tt
        rest (y ∷ ys) are = (subst (λ b. When ((y.call.client == client) && (stands_before p y || b)) (y.call.seq < seq)) (any_push facts (stands_before p) ys e isn't) are.0, rest ys are.1)
    below_front client seq (x ∷ xs) are =
        (subst (λ b. When ((x.call.client == client) && (stands_before p x || b)) (x.call.seq < seq)) (seen_front xs) are.0, below_front client seq xs are.1)

    from_all : (client seq : ℕ) (late : Bool) (ys : List Entry) → Each (λ x. (x.call.client == client) ≡ true → seq ≤ x.call.seq) ys → AreFrom (stands_before p) client seq late ys
    from_all client seq late [] all = tt
    from_all client seq late (y ∷ ys) all = (when_own (y.call.client == client) (late || is_answered_later (stands_before p) y) _ all.0, from_all client seq (late || is_answered_later (stands_before p) y) ys all.1)

    less_late : (own a b c : Bool) (A : Type 0) → When (own && ((a || b) || c)) A → When (own && (a || c)) A
    less_late false a b c A is = tt
    less_late true true b c A is = is
    less_late true false true true A is = is
    less_late true false true false A is = tt
    less_late true false false c A is = is

    own_late : (client seq : ℕ) (late : Bool) (ys : List Entry) → AreFrom (stands_before p) client seq late (ys ++ e ∷ []) → When ((e.call.client == client) && (late || is_answered_later (stands_before p) e)) (seq ≤ e.call.seq)
    own_late client seq late [] are = are.0
    own_late client seq late (y ∷ ys) are =
        less_late (e.call.client == client) late (is_answered_later (stands_before p) y) (is_answered_later (stands_before p) e) (seq ≤ e.call.seq) (own_late client seq (late || is_answered_later (stands_before p) y) ys are.1)

    from_front : (client seq : ℕ) (late : Bool) (xs : List Entry) → Each (λ x. (x.call.client == client) ≡ true → seq ≤ x.call.seq) es
        → AreFrom (stands_before p) client seq late (xs ++ (es ++ e ∷ [])) → AreFrom (stands_before p) client seq late (xs ++ e ∷ es)
    from_front client seq late [] all are = (own_late client seq late es are, from_all client seq (late || is_answered_later (stands_before p) e) es all)
    from_front client seq late (x ∷ xs) all are = (are.0, from_front client seq (late || is_answered_later (stands_before p) x) xs all are.1)

    under_moved : (client : ℕ) (call : Call) → IsUnderWay facts (h ++ (es ++ e ∷ [])) u (stands_before p) client call → IsUnderWay facts (h ++ e ∷ es) u (stands_before p) client call
    under_moved client call w = record {
      its = record { its = w.its.its; made = contains_moved u call w.its.made };
      above = of_below facts (stands_before p) client call.seq (h ++ e ∷ es) (below_front client call.seq h (below_of facts (stands_before p) client call.seq (h ++ (es ++ e ∷ [])) w.above));
      first = of_from (stands_before p) client call.seq false (h ++ e ∷ es) (from_front client call.seq false h
          (each_map (λ x. IsLastCall (h ++ e ∷ es) u x.call) (λ x. (x.call.client == client) ≡ true → call.seq ≤ x.call.seq) es
          (λ x last own. last call (contains_moved u call w.its.made) (same_client call.client x.call.client client w.its.its own)) last) (from_of (stands_before p) client call.seq false (h ++ (es ++ e ∷ [])) w.first));
    }
      where
        same_client : (a b c : ℕ) → a ≡ c → b == c ≡ true → a ≡ b
        same_client a b c is own = grind (arith, nat_tests, is, own)

  same_moved : (facts : Facts) (walks : List WalkLine) (u : List Call) (p : Position) → Each (λ x. is_visible facts x.call.fun ≡ false) es
      → Each (λ x. IsLastCall (h ++ e ∷ es) u x.call) es → stands_before p e ≡ false → IsSame facts walks (h ++ (es ++ e ∷ [])) u (h ++ e ∷ es) u p p.rest p.newer
  same_moved facts walks u p hidden last isn't = record {
    object = ap (object_of facts) (entries_moved p isn't);
    names = names_moved facts p.front;
    made = λ id. made_moved facts id p.front;
    whole = λ id. ap (λ b. b || list_any (is_rebuilt_at facts walks (h ++ e ∷ es) id) (places_in p.older [] p.front (p.item ∷ items_after p))) (made_moved facts id p.front)
        ∙ ap (λ b. list_any (is_made facts (h ++ (es ++ e ∷ [])) id) p.front || b) (rebuilt_moved facts walks id p.older [] p.front (p.item ∷ items_after p) isn't);
    under_way = under_moved facts u p isn't hidden last;
  }

  -- ---- the order of visible calls

  order_front : (facts : Facts) (run : Run) (before : List Entry) (xs ys : List Entry) → AreInOrder facts run before (xs ++ ys) → AreInOrder facts run before xs × AreInOrder facts run (before ++ xs) ys
  order_front facts run earlier [] ys order = (tt, subst (λ l. AreInOrder facts run l ys) (sym (append-nil earlier)) order)
  order_front facts run earlier (x ∷ xs) ys order =
      let rest = order_front facts run (earlier ++ x ∷ []) xs ys order.1 in
      ((order.0, rest.0), subst (λ l. AreInOrder facts run l ys) (append_assoc earlier (x ∷ []) xs) rest.1)

  order_join : (facts : Facts) (run : Run) (before : List Entry) (xs ys : List Entry) → AreInOrder facts run before xs → AreInOrder facts run (before ++ xs) ys → AreInOrder facts run before (xs ++ ys)
  order_join facts run earlier [] ys one two = subst (λ l. AreInOrder facts run l ys) (append-nil earlier) two
  order_join facts run earlier (x ∷ xs) ys one two =
      (one.0, order_join facts run (earlier ++ x ∷ []) xs ys one.1 (subst (λ l. AreInOrder facts run l ys) (sym (append_assoc earlier (x ∷ []) xs)) two))

  order_hidden : (facts : Facts) (run : Run) (before : List Entry) (xs : List Entry) → Each (λ x. is_visible facts x.call.fun ≡ false) xs → AreInOrder facts run before xs
  order_hidden facts run earlier [] all = tt
  order_hidden facts run earlier (x ∷ xs) all =
      (subst (λ b. When (b && not (is_by_guard x.reply)) (ComeBefore earlier (item_of run x))) (sym all.0) tt, order_hidden facts run (earlier ++ x ∷ []) xs all.1)

  come_front : (xs ys : List Entry) (p : Option Position) → ComeBefore (xs ++ ys) p → ComeBefore xs p
  come_front xs ys None come = come
  come_front xs ys (Some p) come = front xs come
    where
      front : (xs : List Entry) → list_all (λ x. is_by_guard x.reply || stands_before p x) (xs ++ ys) ≡ true → list_all (λ x. is_by_guard x.reply || stands_before p x) xs ≡ true
      front [] all = refl
      front (x ∷ xs) all = at (is_by_guard x.reply || stands_before p x) all (front xs)
        where
          at : (b : Bool) → (b && list_all (λ x. is_by_guard x.reply || stands_before p x) (xs ++ ys)) ≡ true
              → (list_all (λ x. is_by_guard x.reply || stands_before p x) (xs ++ ys) ≡ true → list_all (λ x. is_by_guard x.reply || stands_before p x) xs ≡ true)
              → (b && list_all (λ x. is_by_guard x.reply || stands_before p x) xs) ≡ true
          at true all rest = rest all
          at false all rest = absurd (cc all)

  order_moved : (facts : Facts) (run : Run) → Each (λ x. is_visible facts x.call.fun ≡ false) es → AreInOrder facts run [] (h ++ (es ++ e ∷ [])) → AreInOrder facts run [] (h ++ e ∷ es)
  order_moved facts run hidden order =
      let parts = order_front facts run [] h (es ++ e ∷ []) order in
      let last = order_front facts run h es (e ∷ []) parts.1 in
      order_join facts run [] h (e ∷ es) parts.0
      (at (is_visible facts e.call.fun && not (is_by_guard e.reply)) last.1.0, order_hidden facts run (h ++ e ∷ []) es hidden)
    where
      at : (b : Bool) → When b (ComeBefore (h ++ es) (item_of run e)) → When b (ComeBefore h (item_of run e))
      at true come = come_front h es (item_of run e) come
      at false come = tt

  -- ---- all of it

  pub reordered : (s : Stubs) (run : Run) (u : List Call) → Each (λ p. stands_before p e ≡ false) (places_of run) → Each (λ x. is_visible s.interface.facts x.call.fun ≡ false) es
      → Each (λ x. IsLastCall (h ++ e ∷ es) u x.call) es → IsRecovering s (h ++ (es ++ e ∷ [])) run u → IsRecovering s (h ++ e ∷ es) run u
  reordered s run u isn't hidden last r =
      let ps : List Position = places_of run in
      let H : List Entry = h ++ (es ++ e ∷ []) in
      let H' : List Entry = h ++ e ∷ es in
      let has : (x : Entry) → HasItem s.interface.facts H run x → HasItem s.interface.facts H' run x = has_same s.interface.facts H H' run (all_named ps) in
      let parts = each_split (HasItem s.interface.facts H run) h (es ++ e ∷ []) r.served.items in
      let rest = each_split (HasItem s.interface.facts H run) es (e ∷ []) parts.1 in
      record {
        reboots = r.reboots;
        served = record {
          calls = each_map (λ p. IsItsCall H u p.item.shown p.item.tag) (λ p. IsItsCall H' u p.item.shown p.item.tag) ps
              (λ p its. its_kept H u H' u p.item.shown (contains_moved u) p.item.tag its) r.served.calls;
          items = each_append (HasItem s.interface.facts H' run) h (e ∷ es) (each_map (HasItem s.interface.facts H run) (HasItem s.interface.facts H' run) h has parts.0)
              (has e rest.1.0, each_map (HasItem s.interface.facts H run) (HasItem s.interface.facts H' run) es has rest.0);
          committed = each_map (IsCommitted s.interface.facts H) (IsCommitted s.interface.facts H') ps (λ p c. committed p (is_visible_reply s.interface.facts p.item) c) r.served.committed;
          order = order_moved s.interface.facts run hidden r.served.order;
        };
        walks = each_map (λ p. (stands_before p e ≡ false) × IsWalked s.interface.facts s.walks H p p.item.tag) (λ p. IsWalked s.interface.facts s.walks H' p p.item.tag) ps
            (λ p w. walked_same s.interface.facts s.walks H u H' u p p.rest p.newer (same_moved s.interface.facts s.walks u p hidden last w.0) w.1) (each_both (λ p. stands_before p e ≡ false) (λ p. IsWalked s.interface.facts s.walks H p p.item.tag) ps isn't r.walks);
        on_demand = each_map (λ p. (stands_before p e ≡ false) × IsDemanded s.interface s.walks H u p p.item.tag) (λ p. IsDemanded s.interface s.walks H' u p p.item.tag) ps
            (λ p w. demanded_same s.interface s.walks H u H' u p p.rest p.newer (same_moved s.interface.facts s.walks u p hidden last w.0) w.1)
            (each_both (λ p. stands_before p e ≡ false) (λ p. IsDemanded s.interface s.walks H u p p.item.tag) ps isn't r.on_demand);
        tracked_state = each_map (λ p. (stands_before p e ≡ false) × IsTrackedAt s.interface s.walks H p p.item.tag) (λ p. IsTrackedAt s.interface s.walks H' p p.item.tag) ps
            (λ p w. tracked_same s.interface s.walks H u H' u p p.rest p.newer (same_moved s.interface.facts s.walks u p hidden last w.0) w.1)
            (each_both (λ p. stands_before p e ≡ false) (λ p. IsTrackedAt s.interface s.walks H p p.item.tag) ps isn't r.tracked_state);
      }
    where
      all_named : (ps : List Position) → Each (λ p. names_at s.interface.facts (h ++ e ∷ es) (p.front ++ p.item ∷ []) ≡ names_at s.interface.facts (h ++ (es ++ e ∷ [])) (p.front ++ p.item ∷ [])) ps
      all_named [] = tt
      all_named (p ∷ ps) = (names_moved s.interface.facts (p.front ++ p.item ∷ []), all_named ps)

      swap_or : (a b c : Bool) → (a || (b || (c || false))) ≡ (a || (c || b))
      swap_or true b c = refl
      swap_or false true true = refl
      swap_or false true false = refl
      swap_or false false true = refl
      swap_or false false false = refl

      committed : (p : Position) (b : Bool) → When b (is_entered (h ++ (es ++ e ∷ [])) p ≡ true) → When b (is_entered (h ++ e ∷ es) p ≡ true)
      committed p false is = tt
      committed p true is =
          let test : Entry → Bool = λ x. not (is_by_guard x.reply) && is_item_of x p.item && not (list_any (is_item_of x) (items_after p)) in
          list_any-append test h (e ∷ es) ∙ sym (list_any-append test h (es ++ e ∷ []) ∙ ap (λ b. list_any test h || b) (list_any-append test es (e ∷ [])) ∙ swap_or (list_any test h) (list_any test es) (test e)) ∙ is

-- in the form that the laws of a run give
pub moved_front : (s : Stubs) (h es : List Entry) (e : Entry) (run : Run) (u : List Call) → NoneBy e.call.client es → Each (λ p. stands_before p e ≡ false) (places_of run) → Each (λ x. is_visible s.interface.facts x.call.fun ≡ false) es
    → Each (λ x. IsLastCall (h ++ e ∷ es) u x.call) es → IsRecovering s ((h ++ es) ++ e ∷ []) run u → IsRecovering s (h ++ e ∷ es) run u
moved_front s h es e run u none isn't hidden last r =
    reordered h es e none s run u isn't hidden last (subst (λ l. IsRecovering s l run u) (append_assoc h es (e ∷ [])) r)
