-- What the trace tells after the item of a creation that is committed with it, also before held replies: the new id has its name, and
-- is whole.
use Rattle.std.proofs.Common.{◌≡◌, ℕ, Bool, true, false, cond, List, [], ◌∷◌, ◌++◌, None, Some, length, filter, refl, sym, ◌∙◌, ap, subst, inl, inr, ◌⊎◌, append-nil}
use Rattle.std.specs.Prelude.{◌==◌, ◌||◌, ◌&&◌, ◌≢◌, if◌then◌else◌, find}
use Rattle.std.specs.List.{list_any}
use Rattle.std.proofs.lemmas.Bool.Decides.{eqb_tells}
use Rattle.std.proofs.lemmas.List.Folds.{list_any-append}
use Rattle.std.proofs.lemmas.List.Elements.{filter-append}
use Rattle.sg_facts.specs.sg_base.Lists.{Each}
use Rattle.sg_facts.specs.sg_base.declared.reply.Good.{Good}
use Rattle.sg_facts.specs.sg_base.declared.reply.Reply.TheVariants.{Ok}
use Rattle.sg_facts.specs.declared.entry.Entry.{Entry}
use Rattle.sg_facts.specs.declared.outcome.Outcome.TheVariants.{Replied}
use Rattle.sg_facts.specs.declared.row.Row.{Row}
use Rattle.sg_facts.specs.declared.tables.WalkLine.{WalkLine}
use Rattle.sg_facts.specs.declared.trace.Item.{Item}
use Rattle.sg_facts.specs.declared.trace.Tag.TheVariants.{Client}
use Rattle.sg_facts.specs.Alike.{named}
use Rattle.sg_facts.specs.Facts.{Facts, fun_at}
use Rattle.sg_facts.specs.Track.{is_live}
use Rattle.sg_hist.specs.Reading.{Position, desc_in, id_given, is_made, is_item_of, is_ok, names_at, pair_of, places_in, stands_before}
use Rattle.sg_hist.specs.Inside.Reads.{ends_walk, entries_before, is_rebuilt_at, made_by, names_in}
use Rattle.sg_hist.specs.Inside.Parts.{is_patch_at, is_walk_of}
use Rattle.sg_hist.specs.Growing.{IsGrown, IsOfNoEntry, IsSameId}
use Rattle.sg_recovery_laws.proofs.Given.{is_numbered, made_same, names_same}
use Rattle.sg_hist.proofs.Growing.{entries_before-more, in_boot, names_at-more, stands_before-own}
use Rattle.sg_recovery_laws.proofs.Same.{any_rebuilt}
use Rattle.sg_recovery_laws.specs.Midway.Progress.{Told, complete, TellsCalls, IsNone, is_complete}
use Rattle.sg_recovery_laws.specs.LastItem.Told.{IsRead, whole_after}
use Rattle.sg_recovery_laws.specs.LastItem.LastPlace.{last_place}
use Rattle.sg_facts.proofs.Replaying.Found.{other_test, same_test}
use Rattle.sg_recovery_laws.proofs.LastItem.Reading.{named_push}

module _ (facts : Facts) (walks : List WalkLine) (h later : List Entry) (older front : List Item) (item : Item) (same_entries : (p q : Position) → IsGrown item p q → entries_before later q ≡ entries_before h p) (ids : Each (IsSameId facts h later) front)
    (names : List (ℕ × ℕ)) (told : ℕ → Told) (present : List ℕ → Bool) (rows rows' : List Row) (read : IsRead facts walks h older front names told present rows)
    (c seq : ℕ) (good other : Good) (tag : item.tag ≡ Client c seq) (outcome : item.outcome ≡ Replied (Ok other) None) (makes : (fun_at facts.funs item.shown.fun).creation ≡ true)
    (new_id : id_given later c seq ≡ good.desc) (unnamed : list_any (λ n. n.0 == good.desc) (names_at facts h front) ≡ false)
    (grown : (id : ℕ) → is_live rows' id ≡ true → (id ≡ good.desc) ⊎ ((id ≢ good.desc) × (is_live rows id ≡ true))) (some : good.desc ≢ 0) where
  item_names : names_in facts later item.shown.fun item.tag item.outcome ≡ (good.desc, other.desc) ∷ []
  item_names =
      ap (λ t. names_in facts later item.shown.fun t item.outcome) tag ∙ ap (λ b. cond b (pair_of (id_given later c seq) item.outcome) []) makes
      ∙ ap (λ n. pair_of n item.outcome) new_id ∙ ap (pair_of good.desc) outcome

  item_made : (x : ℕ) → is_made facts later x item ≡ (good.desc == x)
  item_made x =
      ap (λ o. is_ok o && made_by facts later x item.shown.fun item.tag) outcome ∙ ap (made_by facts later x item.shown.fun) tag
      ∙ ap (λ b. b && (id_given later c seq == x)) makes ∙ ap (λ n. n == x) new_id

  not_built : (x : ℕ) → is_rebuilt_at facts walks later x (last_place older front item) ≡ false
  not_built x = ap (λ t. is_ok item.outcome && ends_walk facts walks later x (last_place older front item) t) tag ∙ at (is_ok item.outcome)
    where
      at : (b : Bool) → (b && false) ≡ false
      at true = refl
      at false = refl

  whole_is : (x : ℕ) → whole_after facts walks later older (front ++ item ∷ []) x ≡ (whole_after facts walks h older front x || (good.desc == x))
  whole_is x =
      let more = in_boot older [] front item in
      ap (λ b. b || list_any (is_rebuilt_at facts walks later x) (places_in older [] (front ++ item ∷ []) []))
      (list_any-append (is_made facts later x) front (item ∷ []) ∙ ap (λ b. b || (is_made facts later x item || false)) (made_same facts h later x front ids)
      ∙ ap (λ b. list_any (is_made facts h x) front || (b || false)) (item_made x))
      ∙ ap (λ b. (list_any (is_made facts h x) front || ((good.desc == x) || false)) || b)
      (ap (list_any (is_rebuilt_at facts walks later x)) more.are ∙ list_any-append (is_rebuilt_at facts walks later x) more.grown (last_place older front item ∷ [])
      ∙ ap (λ b. b || (is_rebuilt_at facts walks later x (last_place older front item) || false))
      (any_rebuilt facts walks h later x item (places_in older [] front []) more.grown same_entries more.each)
      ∙ ap (λ b. list_any (is_rebuilt_at facts walks h x) (places_in older [] front []) || (b || false)) (not_built x))
      ∙ turn (list_any (is_made facts h x) front) (good.desc == x) (list_any (is_rebuilt_at facts walks h x) (places_in older [] front []))
    where
      turn : (a n b : Bool) → ((a || (n || false)) || (b || (false || false))) ≡ ((a || b) || n)
      turn true n b = refl
      turn false true true = refl
      turn false true false = refl
      turn false false true = refl
      turn false false false = refl

  no_walk : (x : ℕ) → is_walk_of x item.tag ≡ false
  no_walk x = ap (is_walk_of x) tag

  pub read_made : IsRead facts walks later older (front ++ item ∷ []) ((good.desc, other.desc) ∷ names) (λ x. if x == good.desc then complete else told x) present rows'
  read_made = record {
    names_are = λ x known.
        ap (λ l. named l x) (names_at-more facts later front item ∙ ap (λ l. l ++ names_in facts later item.shown.fun item.tag item.outcome) (names_same facts h later front ids)
        ∙ ap (λ l. names_at facts h front ++ l) item_names)
        ∙ named_push (names_at facts h front) good.desc other.desc x unnamed ∙ old x (eqb_tells good.desc x) known;
    whole = λ x live. whole_is x ∙ whole_at x (grown x live);
    calls = λ x live. calls_at x (grown x live);
    files = λ path. list_any-append (λ y. is_patch_at path y.outcome) front (item ∷ []) ∙ ap (λ o. list_any (λ y. is_patch_at path y.outcome) front || (is_patch_at path o || false)) outcome
        ∙ nothing (list_any (λ y. is_patch_at path y.outcome) front) ∙ read.files path;
  }
    where
      nothing : (b : Bool) → (b || (false || false)) ≡ b
      nothing true = refl
      nothing false = refl

      or_true : (b : Bool) → (b || true) ≡ true
      or_true true = refl
      or_true false = refl

      or_false : (b : Bool) → (b || false) ≡ b
      or_false true = refl
      or_false false = refl

      old : (x : ℕ) → ((good.desc == x) ≡ true) × (good.desc ≡ x) ⊎ ((good.desc == x) ≡ false) × (good.desc ≡ x → ⊥) → IsNone rows' x
          → cond (good.desc == x) other.desc (named (names_at facts h front) x) ≡ cond (good.desc == x) other.desc (named names x)
      old x (inl same) known = ap (λ b. cond b other.desc (named (names_at facts h front) x)) same.0 ∙ sym (ap (λ b. cond b other.desc (named names x)) same.0)
      old x (inr apart) known = ap (λ v. cond (good.desc == x) other.desc v) (read.names_are x (was known))
        where
          was : IsNone rows' x → IsNone rows x
          was (inl zero_it) = inl zero_it
          was (inr live) = elim (grown x live) [
            | inl is ↦ absurd (apart.1 (sym is))
            | inr there ↦ inr there.1
          ]

      whole_at : (x : ℕ) → (x ≡ good.desc) ⊎ ((x ≢ good.desc) × (is_live rows x ≡ true)) → (whole_after facts walks h older front x || (good.desc == x)) ≡ is_complete (if x == good.desc then complete else told x)
      whole_at x (inl same) =
          ap (λ b. whole_after facts walks h older front x || b) (same_test good.desc x (sym same)) ∙ or_true (whole_after facts walks h older front x)
          ∙ sym (ap (λ b. is_complete (cond b complete (told x))) (same_test x good.desc same))
      whole_at x (inr there) =
          ap (λ b. whole_after facts walks h older front x || b) (other_test good.desc x (λ is. there.0 (sym is))) ∙ or_false (whole_after facts walks h older front x) ∙ read.whole x there.1
          ∙ sym (ap (λ b. is_complete (cond b complete (told x))) (other_test x good.desc there.0))

      same_count : (x : ℕ) → filter (λ y. is_walk_of x y.tag) (front ++ item ∷ []) ≡ filter (λ y. is_walk_of x y.tag) front
      same_count x = filter-append (λ y. is_walk_of x y.tag) front (item ∷ []) ∙ ap (λ b. filter (λ y. is_walk_of x y.tag) front ++ cond b (item ∷ []) []) (no_walk x) ∙ append-nil (filter (λ y. is_walk_of x y.tag) front)

      calls_at : (x : ℕ) → (x ≡ good.desc) ⊎ ((x ≢ good.desc) × (is_live rows x ≡ true)) → TellsCalls (if x == good.desc then complete else told x) (length (filter (λ y. is_walk_of x y.tag) (front ++ item ∷ [])))
      calls_at x (inl same) = subst (λ t. TellsCalls t (length (filter (λ y. is_walk_of x y.tag) (front ++ item ∷ [])))) (sym (ap (λ b. cond b complete (told x)) (same_test x good.desc same))) tt
      calls_at x (inr there) = subst (λ t. TellsCalls t (length (filter (λ y. is_walk_of x y.tag) (front ++ item ∷ [])))) (sym (ap (λ b. cond b complete (told x)) (other_test x good.desc there.0)))
          (subst (λ l. TellsCalls (told x) (length l)) (sym (same_count x)) (read.calls x there.1))

-- an entry that is put before held replies with its item leaves what stood before each earlier item
pub entries_put : (h es : List Entry) (e : Entry) (item : Item) (p q : Position) → IsOfNoEntry item (h ++ es) → is_item_of e item ≡ true → IsGrown item p q → entries_before (h ++ e ∷ es) q ≡ entries_before (h ++ es) p
entries_put h es e item p q none own g =
    filter-append (stands_before q) h (e ∷ es)
    ∙ ap (λ b. filter (stands_before q) h ++ cond b (e ∷ filter (stands_before q) es) (filter (stands_before q) es)) (stands_before-own item p q e g own)
    ∙ sym (filter-append (stands_before q) h es)
    ∙ entries_before-more item p q (h ++ es) g none

-- and the ids that were given, where each of them belongs to an entry of the history
pub ids_put : (facts : Facts) (h es : List Entry) (e : Entry) (front : List Item) → ((client seq : ℕ) → list_any (is_numbered client seq) h ≡ true → id_given (h ++ e ∷ es) client seq ≡ id_given (h ++ es) client seq)
ids_put facts h es e front client seq any = ap desc_in (in_front h any)
  where
    in_front : (xs : List Entry) → list_any (is_numbered client seq) xs ≡ true → find (is_numbered client seq) (xs ++ e ∷ es) ≡ find (is_numbered client seq) (xs ++ es)
    in_front [] any = absurd (cc any)
    in_front (x ∷ xs) any = at (is_numbered client seq x) any (in_front xs)
      where
        at : (b : Bool) → (b || list_any (is_numbered client seq) xs) ≡ true → (list_any (is_numbered client seq) xs ≡ true → find (is_numbered client seq) (xs ++ e ∷ es) ≡ find (is_numbered client seq) (xs ++ es))
            → cond b (Some x) (find (is_numbered client seq) (xs ++ e ∷ es)) ≡ cond b (Some x) (find (is_numbered client seq) (xs ++ es))
        at true any rest = refl
        at false any rest = ap (λ v. v) (rest any)

-- the same for an item that gives no name and makes nothing whole, as that of a call that makes no descriptor, also where its entry is put among
-- those that are held
module _ (facts : Facts) (walks : List WalkLine) (h later : List Entry) (older front : List Item) (item : Item) (same_entries : (p q : Position) → IsGrown item p q → entries_before later q ≡ entries_before h p) (ids : Each (IsSameId facts h later) front)
    (names : List (ℕ × ℕ)) (told : ℕ → Told) (present : List ℕ → Bool) (rows : List Row) (read : IsRead facts walks h older front names told present rows)
    (unmade : (id : ℕ) → is_made facts later id item ≡ false) (no_walk : (id : ℕ) → is_walk_of id item.tag ≡ false) (unbuilt : (id : ℕ) → is_rebuilt_at facts walks later id (last_place older front item) ≡ false)
    (no_name : names_in facts later item.shown.fun item.tag item.outcome ≡ []) where
  whole_same : (x : ℕ) → whole_after facts walks later older (front ++ item ∷ []) x ≡ whole_after facts walks h older front x
  whole_same x =
      let more = in_boot older [] front item in
      ap (λ b. b || list_any (is_rebuilt_at facts walks later x) (places_in older [] (front ++ item ∷ []) []))
      (list_any-append (is_made facts later x) front (item ∷ []) ∙ ap (λ b. b || (is_made facts later x item || false)) (made_same facts h later x front ids)
      ∙ ap (λ b. list_any (is_made facts h x) front || (b || false)) (unmade x))
      ∙ ap (λ b. (list_any (is_made facts h x) front || (false || false)) || b)
      (ap (list_any (is_rebuilt_at facts walks later x)) more.are ∙ list_any-append (is_rebuilt_at facts walks later x) more.grown (last_place older front item ∷ [])
      ∙ ap (λ b. b || (is_rebuilt_at facts walks later x (last_place older front item) || false)) (any_rebuilt facts walks h later x item (places_in older [] front []) more.grown same_entries more.each)
      ∙ ap (λ b. list_any (is_rebuilt_at facts walks h x) (places_in older [] front []) || (b || false)) (unbuilt x))
      ∙ turn (list_any (is_made facts h x) front) (list_any (is_rebuilt_at facts walks h x) (places_in older [] front []))
    where
      turn : (a b : Bool) → ((a || (false || false)) || (b || (false || false))) ≡ (a || b)
      turn true b = refl
      turn false true = refl
      turn false false = refl

  pub read_put : IsRead facts walks later older (front ++ item ∷ []) names told (λ path. present path || is_patch_at path item.outcome) rows
  read_put = record {
    names_are = λ x known.
        ap (λ l. named l x) (names_at-more facts later front item ∙ ap (λ l. l ++ names_in facts later item.shown.fun item.tag item.outcome) (names_same facts h later front ids)
        ∙ ap (λ l. names_at facts h front ++ l) no_name ∙ append-nil (names_at facts h front)) ∙ read.names_are x known;
    whole = λ x live. whole_same x ∙ read.whole x live;
    calls = λ x live. subst (λ l. TellsCalls (told x) (length l)) (sym (filter-append (λ y. is_walk_of x y.tag) front (item ∷ [])
        ∙ ap (λ b. filter (λ y. is_walk_of x y.tag) front ++ cond b (item ∷ []) []) (no_walk x) ∙ append-nil (filter (λ y. is_walk_of x y.tag) front))) (read.calls x live);
    files = λ path. list_any-append (λ y. is_patch_at path y.outcome) front (item ∷ []) ∙ ap (λ b. b || (is_patch_at path item.outcome || false)) (read.files path) ∙ nothing (present path) (is_patch_at path item.outcome);
  }
    where
      nothing : (a b : Bool) → (a || (b || false)) ≡ (a || b)
      nothing true b = refl
      nothing false true = refl
      nothing false false = refl
