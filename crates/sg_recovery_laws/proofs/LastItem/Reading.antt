-- How what the trace tells grows: by an item that gives nothing, and by a call of a walk.
use Rattle.std.proofs.Common.{◌≡◌, ℕ, suc, ◌+◌, Bool, true, false, cond, List, [], ◌∷◌, ◌++◌, None, Some, length, length-append, filter, refl, sym, ◌∙◌, ap, subst, inl, inr, ◌⊎◌, append-nil, arith}
use Rattle.std.specs.Prelude.{◌==◌, ◌||◌, ◌&&◌}
use Rattle.std.specs.List.{list_any}
use Rattle.std.proofs.lemmas.Bool.Decides.{eqb_tells, nat_tests}
use Rattle.std.proofs.lemmas.List.Folds.{list_any-append}
use Rattle.std.proofs.lemmas.List.Elements.{filter-append}
use Rattle.sg_facts.specs.sg_base.declared.reply.Good.{Good}
use Rattle.sg_facts.specs.sg_base.declared.reply.Reply.TheVariants.{Ok, Refused}
use Rattle.sg_facts.specs.declared.entry.Entry.{Entry}
use Rattle.sg_facts.specs.declared.outcome.Outcome.{Outcome}
use Rattle.sg_facts.specs.declared.outcome.Outcome.TheVariants.{Replied, Blocks, Stopped, NoMemory}
use Rattle.sg_facts.specs.declared.row.Row.{Row}
use Rattle.sg_facts.specs.declared.tables.WalkLine.{WalkLine}
use Rattle.sg_facts.specs.declared.trace.Item.{Item}
use Rattle.sg_facts.specs.declared.trace.Tag.{Tag}
use Rattle.sg_facts.specs.declared.trace.Tag.TheVariants.{Walk, Load, Client}
use Rattle.sg_facts.specs.Alike.{named}
use Rattle.sg_facts.specs.Facts.{Facts, fun_at}
use Rattle.sg_facts.specs.Laws.{names_after}
use Rattle.sg_facts.specs.Track.{is_live, row_at}
use Rattle.sg_hist.specs.Reading.{id_given, is_made, is_ok, names_at, object_before, pair_of, places_in, walk_in}
use Rattle.sg_hist.specs.Inside.Reads.{ends_walk, has_length, is_rebuilt_at, made_by, names_in}
use Rattle.sg_hist.specs.Inside.Parts.{is_patch_at, is_walk_of}
use Rattle.sg_hist.specs.Growing.{IsOfNoEntry}
use Rattle.sg_hist.proofs.Growing.{entries_before-more, in_boot, names_at-more}
use Rattle.sg_recovery_laws.proofs.Same.{any_rebuilt}
use Rattle.sg_recovery_laws.specs.Midway.Progress.{Told, fresh, begun, complete, TellsCalls, IsNone, is_complete}
use Rattle.sg_recovery_laws.specs.Midway.Stepping.{so_far, told_after}
use Rattle.sg_recovery_laws.specs.LastItem.Told.{IsRead, whole_after}
use Rattle.sg_recovery_laws.specs.LastItem.LastPlace.{last_place}
use Rattle.sg_facts.proofs.Replaying.Found.{other_test, same_test}

-- ---- names with a pair more after them

pub named_push : (l : List (ℕ × ℕ)) (id real x : ℕ) → list_any (λ n. n.0 == id) l ≡ false → named (l ++ (id, real) ∷ []) x ≡ named ((id, real) ∷ l) x
named_push [] id real x none = refl
named_push (n ∷ l) id real x none = at (n.0 == id) refl none (named_push l id real x)
  where
    swap : (b c : Bool) → (b ≡ true → c ≡ false) → cond b n.1 (cond c real (named l x)) ≡ cond c real (cond b n.1 (named l x))
    swap true true apart = absurd (let wrong = apart refl in cc wrong)
    swap true false apart = refl
    swap false c apart = refl

    at : (b : Bool) → (n.0 == id) ≡ b → (b || list_any (λ m. m.0 == id) l) ≡ false → (list_any (λ m. m.0 == id) l ≡ false → named (l ++ (id, real) ∷ []) x ≡ named ((id, real) ∷ l) x)
        → cond (n.0 == x) n.1 (named (l ++ (id, real) ∷ []) x) ≡ cond (id == x) real (cond (n.0 == x) n.1 (named l x))
    at true is none rest = absurd (cc none)
    at false is none rest =
        ap (λ v. cond (n.0 == x) n.1 v) (rest none)
        ∙ swap (n.0 == x) (id == x) (λ same. other_test id x (λ also. absurd (let one : n.0 ≡ x = grind (arith, nat_tests, same) in let test = same_test n.0 id (one ∙ sym also) in cc (is, test))))

-- an id that no item made, and whose walk didn't begin, has no name
pub unnamed : (facts : Facts) (history : List Entry) (id : ℕ) (front : List Item) → list_any (is_made facts history id) front ≡ false → length (filter (λ x. is_walk_of id x.tag) front) ≡ 0
    → list_any (λ n. n.0 == id) (names_at facts history front) ≡ false
unnamed facts history id [] made walked = refl
unnamed facts history id (x ∷ front) made walked =
    list_any-append (λ n. n.0 == id) (names_in facts history x.shown.fun x.tag x.outcome) (names_at facts history front)
    ∙ ap (λ b. b || list_any (λ n. n.0 == id) (names_at facts history front)) (own x.tag x.outcome (first (is_made facts history id x) made) (no_walk (is_walk_of id x.tag) walked))
    ∙ unnamed facts history id front (rest (is_made facts history id x) made) (no_more (is_walk_of id x.tag) walked)
  where
    first : (b : Bool) → (b || list_any (is_made facts history id) front) ≡ false → b ≡ false
    first true is = absurd (cc is)
    first false is = refl

    rest : (b : Bool) → (b || list_any (is_made facts history id) front) ≡ false → list_any (is_made facts history id) front ≡ false
    rest true is = absurd (cc is)
    rest false is = is

    no_walk : (b : Bool) → length (cond b (x ∷ filter (λ y. is_walk_of id y.tag) front) (filter (λ y. is_walk_of id y.tag) front)) ≡ 0 → b ≡ false
    no_walk true is = absurd (omega (arith, is))
    no_walk false is = refl

    no_more : (b : Bool) → length (cond b (x ∷ filter (λ y. is_walk_of id y.tag) front) (filter (λ y. is_walk_of id y.tag) front)) ≡ 0 → length (filter (λ y. is_walk_of id y.tag) front) ≡ 0
    no_more true is = absurd (omega (arith, is))
    no_more false is = is

    pair_apart : (i : ℕ) (outcome : Outcome) → (is_ok outcome ≡ true → (i == id) ≡ false) → list_any (λ n. n.0 == id) (pair_of i outcome) ≡ false
    pair_apart i (Replied (Ok good) patch) so = ap (λ b. b || false) (so refl)
    pair_apart i (Replied (Refused code) patch) so = refl
    pair_apart i Blocks so = refl
    pair_apart i Stopped so = refl
    pair_apart i NoMemory so = refl

    own : (tag : Tag) (outcome : Outcome) → (is_ok outcome && made_by facts history id x.shown.fun tag) ≡ false → is_walk_of id tag ≡ false → list_any (λ n. n.0 == id) (names_in facts history x.shown.fun tag outcome) ≡ false
    own (Walk i k client) outcome made walk = at (k == 1)
      where
        at : (b : Bool) → list_any (λ n. n.0 == id) (cond b (pair_of i outcome) []) ≡ false
        at true = pair_apart i outcome (λ is. walk)
        at false = refl
    own (Load key client) outcome made walk = refl
    own (Client client seq) outcome made walk = at (fun_at facts.funs x.shown.fun).creation made
      where
        at : (b : Bool) → (is_ok outcome && (b && (id_given history client seq == id))) ≡ false → list_any (λ n. n.0 == id) (cond b (pair_of (id_given history client seq) outcome) []) ≡ false
        at true made = pair_apart (id_given history client seq) outcome (λ is. both (is_ok outcome) (id_given history client seq == id) made is)
          where
            both : (a b : Bool) → (a && b) ≡ false → a ≡ true → b ≡ false
            both true b is a_is = is
            both false b is a_is = absurd (cc a_is)
        at false made = refl

module _ (facts : Facts) (walks : List WalkLine) (history : List Entry) (older front : List Item) (item : Item) (none : IsOfNoEntry item history) where
  -- what is whole with an item more
  pub whole_noted : (id : ℕ) → whole_after facts walks history older (front ++ item ∷ []) id
      ≡ ((list_any (is_made facts history id) front || (is_made facts history id item || false))
      || (list_any (is_rebuilt_at facts walks history id) (places_in older [] front []) || (is_rebuilt_at facts walks history id (last_place older front item) || false)))
  whole_noted id =
      let more = in_boot older [] front item in
      ap (λ b. b || list_any (is_rebuilt_at facts walks history id) (places_in older [] (front ++ item ∷ []) [])) (list_any-append (is_made facts history id) front (item ∷ []))
      ∙ ap (λ b. (list_any (is_made facts history id) front || (is_made facts history id item || false)) || b)
      (ap (list_any (is_rebuilt_at facts walks history id)) more.are ∙ list_any-append (is_rebuilt_at facts walks history id) more.grown (last_place older front item ∷ [])
      ∙ ap (λ b. b || (is_rebuilt_at facts walks history id (last_place older front item) || false))
      (any_rebuilt facts walks history history id item (places_in older [] front []) more.grown (λ p q g. entries_before-more item p q history g none) more.each))

  module _ (names : List (ℕ × ℕ)) (told : ℕ → Told) (present : List ℕ → Bool) (rows : List Row) (read : IsRead facts walks history older front names told present rows) where
    -- an item that gives no name, makes nothing whole, and is no call of a walk; its patch is present then
    pub read_plain : ((id : ℕ) → is_made facts history id item ≡ false) → ((id : ℕ) → is_walk_of id item.tag ≡ false) → ((id : ℕ) → is_rebuilt_at facts walks history id (last_place older front item) ≡ false)
        → names_in facts history item.shown.fun item.tag item.outcome ≡ []
        → IsRead facts walks history older (front ++ item ∷ []) names told (λ path. present path || is_patch_at path item.outcome) rows
    read_plain unmade no_walk unbuilt no_name = record {
      names_are = λ id live. ap (λ l. named l id) (names_at-more facts history front item ∙ ap (λ l. names_at facts history front ++ l) no_name ∙ append-nil (names_at facts history front)) ∙ read.names_are id live;
      whole = λ id live.
          whole_noted id
          ∙ ap (λ b. (list_any (is_made facts history id) front || (b || false)) || (list_any (is_rebuilt_at facts walks history id) (places_in older [] front []) || (is_rebuilt_at facts walks history id (last_place older front item) || false))) (unmade id)
          ∙ ap (λ b. (list_any (is_made facts history id) front || (false || false)) || (list_any (is_rebuilt_at facts walks history id) (places_in older [] front []) || (b || false))) (unbuilt id)
          ∙ same (list_any (is_made facts history id) front) (list_any (is_rebuilt_at facts walks history id) (places_in older [] front [])) ∙ read.whole id live;
      calls = λ id live. subst (TellsCalls (told id)) (sym (ap length (filter-append (λ x. is_walk_of id x.tag) front (item ∷ [])
          ∙ ap (λ b. filter (λ x. is_walk_of id x.tag) front ++ cond b (item ∷ []) []) (no_walk id) ∙ append-nil (filter (λ x. is_walk_of id x.tag) front)))) (read.calls id live);
      files = λ path. list_any-append (λ x. is_patch_at path x.outcome) front (item ∷ []) ∙ ap (λ b. b || (is_patch_at path item.outcome || false)) (read.files path) ∙ nothing (present path) (is_patch_at path item.outcome);
    }
      where
        same : (a b : Bool) → ((a || (false || false)) || (b || (false || false))) ≡ (a || b)
        same true b = refl
        same false true = refl
        same false false = refl

        nothing : (a b : Bool) → (a || (b || false)) ≡ (a || b)
        nothing true b = refl
        nothing false true = refl
        nothing false false = refl

    -- a call of a walk
    pub read_walk : (id client : ℕ) (r : Row) (done rest : List ℕ) (fun : ℕ) (good : Good) → item.tag ≡ Walk id (length done + 1) client → item.outcome ≡ Replied (Ok good) None
        → row_at (object_before facts history (last_place older front item)).rows id ≡ Some r → walk_in walks (Some r) ≡ Some (done ++ fun ∷ rest) → r.id ≡ id
        → is_complete (told id) ≡ false → TellsCalls (told id) (length done) → (told id ≡ fresh → done ≡ []) → is_live rows id ≡ true
        → IsRead facts walks history older (front ++ item ∷ []) (names_after names r done good) (told_after told id done rest) present rows
    read_walk id client r done rest fun good tag outcome there walk its part counted none_done live_id = record {
      names_are = names_now;
      whole = whole_now;
      calls = λ x live. calls_now x live;
      files = λ path. list_any-append (λ x. is_patch_at path x.outcome) front (item ∷ []) ∙ ap (λ o. list_any (λ x. is_patch_at path x.outcome) front || (is_patch_at path o || false)) outcome
          ∙ drop (list_any (λ x. is_patch_at path x.outcome) front) ∙ read.files path;
    }
      where
        drop : (b : Bool) → (b || (false || false)) ≡ b
        drop true = refl
        drop false = refl

        front_unmade : list_any (is_made facts history id) front ≡ false
        front_unmade = left (list_any (is_made facts history id) front) (list_any (is_rebuilt_at facts walks history id) (places_in older [] front [])) (read.whole id live_id ∙ part)
          where
            left : (a b : Bool) → (a || b) ≡ false → a ≡ false
            left true b is = absurd (cc is)
            left false b is = refl

        count : length (filter (λ x. is_walk_of id x.tag) front) ≡ length done
        count = at (told id) (read.calls id live_id) counted part
          where
            at : (t : Told) → TellsCalls t (length (filter (λ x. is_walk_of id x.tag) front)) → TellsCalls t (length done) → is_complete t ≡ false → length (filter (λ x. is_walk_of id x.tag) front) ≡ length done
            at fresh n d part = n ∙ sym d
            at (begun m) n d part = n ∙ sym d
            at complete n d part = absurd (cc part)

        given : names_in facts history item.shown.fun item.tag item.outcome ≡ cond (length done + 1 == 1) ((id, good.desc) ∷ []) []
        given = ap (λ t. names_in facts history item.shown.fun t item.outcome) tag ∙ ap (λ o. cond (length done + 1 == 1) (pair_of id o) []) outcome

        names_now : (x : ℕ) → IsNone rows x → named (names_at facts history (front ++ item ∷ [])) x ≡ named (names_after names r done good) x
        names_now x known =
            ap (λ l. named l x) (names_at-more facts history front item ∙ ap (λ l. names_at facts history front ++ l) given) ∙ at done count
          where
            at : (ds : List ℕ) → length (filter (λ y. is_walk_of id y.tag) front) ≡ length ds → named (names_at facts history front ++ cond (length ds + 1 == 1) ((id, good.desc) ∷ []) []) x ≡ named (names_after names r ds good) x
            at [] n =
                named_push (names_at facts history front) id good.desc x (unnamed facts history id front front_unmade n)
                ∙ ap (λ v. cond (id == x) good.desc v) (read.names_are x known) ∙ ap (λ i. cond (i == x) good.desc (named names x)) (sym its)
            at (d ∷ ds) n =
                ap (λ b. named (names_at facts history front ++ cond b ((id, good.desc) ∷ []) []) x) (other_test (length (d ∷ ds) + 1) 1 (λ is. absurd (omega (arith, is))))
                ∙ ap (λ l. named l x) (append-nil (names_at facts history front)) ∙ read.names_are x known

        unmade_item : (x : ℕ) → is_made facts history x item ≡ false
        unmade_item x = ap (λ t. is_ok item.outcome && made_by facts history x item.shown.fun t) tag ∙ no (is_ok item.outcome)
          where
            no : (b : Bool) → (b && false) ≡ false
            no true = refl
            no false = refl

        built : (x : ℕ) → is_rebuilt_at facts walks history x (last_place older front item)
            ≡ ((id == x) && has_length (length done + 1) (walk_in walks (row_at (object_before facts history (last_place older front item)).rows x)))
        built x = ap (λ o. is_ok o && ends_walk facts walks history x (last_place older front item) item.tag) outcome ∙ ap (ends_walk facts walks history x (last_place older front item)) tag

        ends_own : is_rebuilt_at facts walks history id (last_place older front item) ≡ is_complete (so_far rest (suc (length done)))
        ends_own =
            built id ∙ ap (λ b. b && has_length (length done + 1) (walk_in walks (row_at (object_before facts history (last_place older front item)).rows id))) (same_test id id refl)
            ∙ ap (λ row. has_length (length done + 1) (walk_in walks row)) there ∙ ap (has_length (length done + 1)) walk ∙ at rest
          where
            at : (rs : List ℕ) → (length (done ++ fun ∷ rs) == length done + 1) ≡ is_complete (so_far rs (suc (length done)))
            at [] = let n : length (done ++ fun ∷ []) ≡ length done + 1 = length-append done (fun ∷ []) in same_test (length (done ++ fun ∷ [])) (length done + 1) n
            at (x ∷ rs) = let n : length (done ++ fun ∷ x ∷ rs) ≡ length done + suc (suc (length rs)) = length-append done (fun ∷ x ∷ rs) in
                other_test (length (done ++ fun ∷ x ∷ rs)) (length done + 1) (λ is. absurd (omega (arith, is, n)))

        ends_other : (x : ℕ) → (x ≡ id → ⊥) → is_rebuilt_at facts walks history x (last_place older front item) ≡ false
        ends_other x apart = built x ∙ ap (λ b. b && has_length (length done + 1) (walk_in walks (row_at (object_before facts history (last_place older front item)).rows x))) (other_test id x (λ is. apart (sym is)))

        collapse : (a b c : Bool) → ((a || (false || false)) || (b || (c || false))) ≡ ((a || b) || c)
        collapse true b c = refl
        collapse false true c = refl
        collapse false false true = refl
        collapse false false false = refl

        whole_now : (x : ℕ) → is_live rows x ≡ true → whole_after facts walks history older (front ++ item ∷ []) x ≡ is_complete (told_after told id done rest x)
        whole_now x live =
            whole_noted x
            ∙ ap (λ b. (list_any (is_made facts history x) front || (b || false)) || (list_any (is_rebuilt_at facts walks history x) (places_in older [] front []) || (is_rebuilt_at facts walks history x (last_place older front item) || false))) (unmade_item x)
            ∙ collapse (list_any (is_made facts history x) front) (list_any (is_rebuilt_at facts walks history x) (places_in older [] front [])) (is_rebuilt_at facts walks history x (last_place older front item))
            ∙ ap (λ b. b || is_rebuilt_at facts walks history x (last_place older front item)) (read.whole x live)
            ∙ at (eqb_tells x id)
          where
            none_more : (b : Bool) → (b || false) ≡ b
            none_more true = refl
            none_more false = refl

            at : ((x == id) ≡ true) × (x ≡ id) ⊎ ((x == id) ≡ false) × (x ≡ id → ⊥) → (is_complete (told x) || is_rebuilt_at facts walks history x (last_place older front item)) ≡ is_complete (told_after told id done rest x)
            at (inl same) =
                ap (λ i. is_complete (told i) || is_rebuilt_at facts walks history i (last_place older front item)) same.1
                ∙ ap (λ b. b || is_rebuilt_at facts walks history id (last_place older front item)) part ∙ ends_own
                ∙ sym (ap (λ b. is_complete (cond b (so_far rest (suc (length done))) (told x))) same.0)
            at (inr apart) =
                ap (λ b. is_complete (told x) || b) (ends_other x apart.1) ∙ none_more (is_complete (told x))
                ∙ sym (ap (λ b. is_complete (cond b (so_far rest (suc (length done))) (told x))) apart.0)

        walk_is : (x : ℕ) → is_walk_of x item.tag ≡ (id == x)
        walk_is x = ap (is_walk_of x) tag

        calls_now : (x : ℕ) → is_live rows x ≡ true → TellsCalls (told_after told id done rest x) (length (filter (λ y. is_walk_of x y.tag) (front ++ item ∷ [])))
        calls_now x live = at (eqb_tells x id)
          where
            length_is : (b : Bool) → is_walk_of x item.tag ≡ b → length (filter (λ y. is_walk_of x y.tag) (front ++ item ∷ [])) ≡ length (filter (λ y. is_walk_of x y.tag) front) + (cond b 1 0)
            length_is b is = ap length (filter-append (λ y. is_walk_of x y.tag) front (item ∷ []) ∙ ap (λ c. filter (λ y. is_walk_of x y.tag) front ++ cond c (item ∷ []) []) is)
                ∙ length-append (filter (λ y. is_walk_of x y.tag) front) (cond b (item ∷ []) []) ∙ ap (λ n. length (filter (λ y. is_walk_of x y.tag) front) + n) (one b)
              where
                one : (b : Bool) → length (cond {A = List Item} b (item ∷ []) []) ≡ cond b 1 0
                one true = refl
                one false = refl

            at : ((x == id) ≡ true) × (x ≡ id) ⊎ ((x == id) ≡ false) × (x ≡ id → ⊥) → TellsCalls (told_after told id done rest x) (length (filter (λ y. is_walk_of x y.tag) (front ++ item ∷ [])))
            at (inl same) =
                let n : length (filter (λ y. is_walk_of x y.tag) (front ++ item ∷ [])) ≡ suc (length done)
                = length_is true (walk_is x ∙ same_test id x (sym same.1)) ∙ ap (λ i. length (filter (λ y. is_walk_of i y.tag) front) + 1) same.1 ∙ ap (λ m. m + 1) count ∙ (let e : length done + 1 ≡ suc (length done) = omega arith in e) in
                subst (λ t. TellsCalls t (length (filter (λ y. is_walk_of x y.tag) (front ++ item ∷ [])))) (sym (ap (λ b. cond b (so_far rest (suc (length done))) (told x)) same.0)) (by rest n)
              where
                by : (rs : List ℕ) → length (filter (λ y. is_walk_of x y.tag) (front ++ item ∷ [])) ≡ suc (length done) → TellsCalls (so_far rs (suc (length done))) (length (filter (λ y. is_walk_of x y.tag) (front ++ item ∷ [])))
                by [] n = tt
                by (y ∷ rs) n = n
            at (inr apart) =
                let n : length (filter (λ y. is_walk_of x y.tag) (front ++ item ∷ [])) ≡ length (filter (λ y. is_walk_of x y.tag) front)
                = length_is false (walk_is x ∙ other_test id x (λ is. apart.1 (sym is))) ∙ (let e : length (filter (λ y. is_walk_of x y.tag) front) + 0 ≡ length (filter (λ y. is_walk_of x y.tag) front) = omega arith in e) in
                subst (λ t. TellsCalls t (length (filter (λ y. is_walk_of x y.tag) (front ++ item ∷ [])))) (sym (ap (λ b. cond b (so_far rest (suc (length done))) (told x)) apart.0))
                (subst (TellsCalls (told x)) (sym n) (read.calls x live))
