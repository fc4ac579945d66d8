-- What is said of an item in its place stays where more stands after it, as long as the same was committed before it.
use Rattle.std.proofs.Common.{◌≡◌, ◌≢◌, ℕ, Bool, true, ◌==◌, not, ◌&&◌, ◌||◌, List, [], ◌∷◌, Option, None, Some, cond, refl, sym, ◌∙◌, ap, subst}
use Rattle.std.specs.List.{list_all, list_any}
use Rattle.std.specs.Prelude.{filter, find}
use Rattle.sg_facts.specs.sg_base.Lists.{Each}
use Rattle.sg_facts.specs.sg_base.declared.call.Call.{Call}
use Rattle.sg_facts.specs.declared.entry.Entry.{Entry}
use Rattle.sg_facts.specs.declared.row.Row.{Row}
use Rattle.sg_facts.specs.declared.tables.WalkLine.{WalkLine}
use Rattle.sg_facts.specs.declared.trace.Item.{Item}
use Rattle.sg_facts.specs.declared.trace.Tag.{Tag}
use Rattle.sg_facts.specs.declared.trace.Tag.TheVariants.{Walk, Load, Client}
use Rattle.sg_facts.specs.Alike.{SameFile, named}
use Rattle.sg_facts.specs.Facts.{Facts}
use Rattle.sg_facts.specs.Guard.{guard}
use Rattle.sg_facts.specs.Interface.{Declared}
use Rattle.sg_facts.specs.Needs.{is_needed, needs, wanted}
use Rattle.sg_facts.specs.Object.{Object, file_at, object_of}
use Rattle.sg_facts.specs.Track.{row_at}
use Rattle.sg_hist.specs.Growing.{AreGrown, IsGrown}
use Rattle.sg_hist.specs.Reading.{Position, is_made, is_ok, is_whole_at, names_at, object_before, stands_before, value_at, walk_in}
use Rattle.sg_hist.specs.Inside.Reads.{entries_before, ends_walk, has_length, is_rebuilt_at}
use Rattle.sg_hist.specs.Recovered.{IsAdmitted, IsTracked, IsUnderWay, item_of_load}
use Rattle.sg_hist.specs.Inside.Parts.{IsAlikeTo, IsCallOfRow, IsDemanded, IsTrackedAt, IsWalked}

-- ---- lists

pub all_same : {A : Type 0} (f g : A → Bool) (xs : List A) → ((x : A) → f x ≡ g x) → list_all f xs ≡ list_all g xs
all_same f g [] same = refl
all_same f g (x ∷ xs) same = ap (λ b. b && list_all f xs) (same x) ∙ ap (λ b. g x && b) (all_same f g xs same)

pub any_same : {A : Type 0} (f g : A → Bool) (xs : List A) → ((x : A) → f x ≡ g x) → list_any f xs ≡ list_any g xs
any_same f g [] same = refl
any_same f g (x ∷ xs) same = ap (λ b. b || list_any f xs) (same x) ∙ ap (λ b. g x || b) (any_same f g xs same)

find_same : (f g : ℕ → Bool) (xs : List ℕ) → ((x : ℕ) → f x ≡ g x) → find f xs ≡ find g xs
find_same f g [] same = refl
find_same f g (x ∷ xs) same = ap (λ b. cond b (Some x) (find f xs)) (same x) ∙ ap (λ v. cond (g x) (Some x) v) (find_same f g xs same)

-- ---- places

-- a place with other items after it
abbrev pub again : Position → List Item → List Item → Position
again p r n = record { older = p.older; front = p.front; item = p.item; rest = r; newer = n }

-- a place that has grown is such a one
pub again_is : (item : Item) (p q : Position) → IsGrown item p q → again p q.rest q.newer ≡ q
again_is item p q g =
    ap (λ v. place v p.front p.item) (sym g.older) ∙ ap (λ v. place q.older v p.item) (sym g.front) ∙ ap (λ v. place q.older q.front v) (sym g.own)
  where
    place : List Item → List Item → Item → Position
    place older front i = record { older = older; front = front; item = i; rest = q.rest; newer = q.newer }

-- what an item rests on is the same in two histories, with other items after it
pub record IsSame (facts : Facts) (walks : List WalkLine) (h : List Entry) (u : List Call) (h' : List Entry) (u' : List Call) (p : Position) (r n : List Item) : Type 0 where
  pub object : object_before facts h' (again p r n) ≡ object_before facts h p
  pub names : names_at facts h' p.front ≡ names_at facts h p.front
  pub made : (id : ℕ) → list_any (is_made facts h' id) p.front ≡ list_any (is_made facts h id) p.front
  pub whole : (id : ℕ) → is_whole_at facts walks h' (again p r n) id ≡ is_whole_at facts walks h p id
  pub under_way : (client : ℕ) (call : Call) → IsUnderWay facts h u (stands_before p) client call → IsUnderWay facts h' u' (stands_before (again p r n)) client call

pub walked_same : (facts : Facts) (walks : List WalkLine) (h : List Entry) (u : List Call) (h' : List Entry) (u' : List Call) (p : Position) (r n : List Item)
    → IsSame facts walks h u h' u' p r n → IsWalked facts walks h p p.item.tag → IsWalked facts walks h' (again p r n) p.item.tag
walked_same facts walks h u h' u' p r n same w = by p.item.tag w
  where
    of_row : (id k : ℕ) (row : Option Row) → IsCallOfRow facts walks h p id k row → IsCallOfRow facts walks h' (again p r n) id k row
    of_row id k None w = w
    of_row id k (Some x) w = record {
      unmade = same.made id ∙ w.unmade;
      next = w.next;
      parent = ap (λ b. (x.parent == 0) || b) (same.whole x.parent) ∙ w.parent;
      call = w.call;
      real = w.real ∙ ap (λ ns. named ns p.item.shown.desc) (sym same.names);
      outcome = w.outcome;
    }

    by : (tag : Tag) → IsWalked facts walks h p tag → IsWalked facts walks h' (again p r n) tag
    by (Walk id k client) w =
        subst (λ o. IsCallOfRow facts walks h' (again p r n) id k (row_at o.rows id)) (sym same.object) (of_row id k (row_at (object_before facts h p).rows id) w)
    by (Load key client) w = tt
    by (Client client seq) w = tt

pub demanded_same : (i : Declared) (walks : List WalkLine) (h : List Entry) (u : List Call) (h' : List Entry) (u' : List Call) (p : Position) (r n : List Item)
    → IsSame i.facts walks h u h' u' p r n → IsDemanded i walks h u p p.item.tag → IsDemanded i walks h' u' (again p r n) p.item.tag
demanded_same i walks h u h' u' p r n same d = by p.item.tag d
  where
    admitted : (client : ℕ) (call : Call) → IsAdmitted i h u (stands_before p) client call → IsAdmitted i h' u' (stands_before (again p r n)) client call
    admitted client call a = record {
      under_way = same.under_way client call a.under_way;
      guarded = ap (λ o. guard i o call) same.object ∙ a.guarded;
    }

    by : (tag : Tag) → IsDemanded i walks h u p tag → IsDemanded i walks h' u' (again p r n) tag
    by (Walk id k client) d = record {
      call = d.call;
      admitted = admitted client d.call d.admitted;
      least = subst (λ o. find (λ x. not (is_whole_at i.facts walks h' (again p r n) x)) (wanted i o d.call).ids ≡ Some id) (sym same.object)
          (find_same (λ x. not (is_whole_at i.facts walks h' (again p r n) x)) (λ x. not (is_whole_at i.facts walks h p x)) (wanted i (object_before i.facts h p) d.call).ids
          (λ x. ap not (same.whole x)) ∙ d.least);
    }
    by (Load key client) d = record {
      call = d.call;
      admitted = admitted client d.call d.admitted;
      rows = subst (λ o. list_all (is_whole_at i.facts walks h' (again p r n)) (wanted i o d.call).ids ≡ true) (sym same.object)
          (all_same (is_whole_at i.facts walks h' (again p r n)) (is_whole_at i.facts walks h p) (wanted i (object_before i.facts h p) d.call).ids same.whole ∙ d.rows);
      file = subst (λ o. (needs i.facts o d.call).file ≡ Some key) (sym same.object) d.file;
      absent = d.absent;
      some = subst (λ (o : Object). file_at o.files key ≢ []) (sym same.object) d.some;
      load = subst (λ (o : Object). p.item ≡ item_of_load client p.item.points key (file_at o.files key)) (sym same.object) d.load;
    }
    by (Client client seq) d = admitted client p.item.shown d

pub tracked_same : (i : Declared) (walks : List WalkLine) (h : List Entry) (u : List Call) (h' : List Entry) (u' : List Call) (p : Position) (r n : List Item)
    → IsSame i.facts walks h u h' u' p r n → IsTrackedAt i walks h p p.item.tag → IsTrackedAt i walks h' (again p r n) p.item.tag
tracked_same i walks h u h' u' p r n same t = by p.item.tag t
  where
    state : IsTracked i walks h p → IsTracked i walks h' (again p r n)
    state t = record {
      whole = subst (λ o. list_all (is_whole_at i.facts walks h' (again p r n)) (wanted i o p.item.shown).ids ≡ true) (sym same.object)
          (all_same (is_whole_at i.facts walks h' (again p r n)) (is_whole_at i.facts walks h p) (wanted i (object_before i.facts h p) p.item.shown).ids same.whole ∙ t.whole);
      rows = subst (λ o. Each (λ x. IsAlikeTo (names_at i.facts h' p.front) x (row_at (value_at i.facts p.front).rows (named (names_at i.facts h' p.front) x.id)))
          (filter (is_needed i.facts o.rows p.item.shown) o.rows)) (sym same.object)
          (subst (λ ns. Each (λ x. IsAlikeTo ns x (row_at (value_at i.facts p.front).rows (named ns x.id)))
          (filter (is_needed i.facts (object_before i.facts h p).rows p.item.shown) (object_before i.facts h p).rows)) (sym same.names) t.rows);
      real = t.real ∙ ap (λ ns. named ns p.item.shown.desc) (sym same.names);
      file = subst (λ o. SameFile o (value_at i.facts p.front) p.item.shown.desc p.item.real (needs i.facts o p.item.shown).file) (sym same.object) t.file;
    }

    by : (tag : Tag) → IsTrackedAt i walks h p tag → IsTrackedAt i walks h' (again p r n) tag
    by (Client client seq) t = state t
    by (Walk id k client) t = tt
    by (Load key client) t = tt

-- ---- what is whole

pub rebuilt_again : (facts : Facts) (walks : List WalkLine) (h h' : List Entry) (id : ℕ) (p : Position) (r n : List Item)
    → object_before facts h' (again p r n) ≡ object_before facts h p → is_rebuilt_at facts walks h' id (again p r n) ≡ is_rebuilt_at facts walks h id p
rebuilt_again facts walks h h' id p r n same = ap (λ b. is_ok p.item.outcome && b) (by p.item.tag)
  where
    by : (tag : Tag) → ends_walk facts walks h' id (again p r n) tag ≡ ends_walk facts walks h id p tag
    by (Walk i k client) = ap (λ o. (i == id) && has_length k (walk_in walks (row_at o.rows id))) same
    by (Load key client) = refl
    by (Client client seq) = refl

-- what was rebuilt at places that have grown was so before
pub any_rebuilt : (facts : Facts) (walks : List WalkLine) (h h' : List Entry) (id : ℕ) (item : Item) (ps qs : List Position)
    → ((p q : Position) → IsGrown item p q → entries_before h' q ≡ entries_before h p) → AreGrown item ps qs
    → list_any (is_rebuilt_at facts walks h' id) qs ≡ list_any (is_rebuilt_at facts walks h id) ps
any_rebuilt facts walks h h' id item [] [] same grown = refl
any_rebuilt facts walks h h' id item [] (q ∷ qs) same grown = absurd grown
any_rebuilt facts walks h h' id item (p ∷ ps) [] same grown = absurd grown
any_rebuilt facts walks h h' id item (p ∷ ps) (q ∷ qs) same grown =
    let is = again_is item p q grown.0 in
    let object : object_before facts h' (again p q.rest q.newer) ≡ object_before facts h p
    = ap (object_before facts h') is ∙ ap (object_of facts) (same p q grown.0) in
    let one : is_rebuilt_at facts walks h' id q ≡ is_rebuilt_at facts walks h id p
    = ap (is_rebuilt_at facts walks h' id) (sym is) ∙ rebuilt_again facts walks h h' id p q.rest q.newer object in
    ap (λ b. b || list_any (is_rebuilt_at facts walks h' id) qs) one
    ∙ ap (λ b. is_rebuilt_at facts walks h id p || b) (any_rebuilt facts walks h h' id item ps qs same grown.1)
