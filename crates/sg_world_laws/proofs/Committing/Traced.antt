-- What the trace tells after the item of a served call, with and without its entry, whichever held replies are committed first.
use Rattle.std.proofs.Common.{◌≡◌, ℕ, ◌+◌, ◌<◌, Bool, true, false, cond, List, [], ◌∷◌, ◌++◌, None, Some, length, refl, sym, ◌∙◌, ap, subst, inl, inr, ◌⊎◌, arith}
use Rattle.std.specs.Prelude.{◌==◌, ◌||◌, ◌&&◌, ◌≢◌, if◌then◌else◌}
use Rattle.std.specs.List.{list_any}
use Rattle.std.specs.declared.option.Option.{Option}
use Rattle.std.proofs.lemmas.List.Folds.{list_any-append}
use Rattle.sg_facts.specs.sg_base.Lists.{Each}
use Rattle.sg_facts.specs.sg_base.declared.call.Call.{Call}
use Rattle.sg_facts.specs.sg_base.declared.reply.Good.{Good}
use Rattle.sg_facts.specs.sg_base.declared.reply.Reply.{Reply}
use Rattle.sg_facts.specs.sg_base.declared.reply.Reply.TheVariants.{Ok, Refused}
use Rattle.sg_world_laws.specs.Committing.Serving.{IsServedCall}
use Rattle.sg_world_laws.proofs.Alike.{read_alike}
use Rattle.sg_world_laws.proofs.Committing.Later.{apart_ok, apart_refused, names_by, patch_it, told_by}
use Rattle.sg_world_laws.proofs.Committing.Recovering.{given_pushed, own}
use Rattle.sg_facts.specs.declared.entry.Entry.{Entry}
use Rattle.sg_facts.specs.declared.outcome.Outcome.TheVariants.{Replied}
use Rattle.sg_facts.specs.declared.outcome.Patch.{Patch}
use Rattle.sg_facts.specs.declared.row.Row.{Row}
use Rattle.sg_facts.specs.declared.trace.Item.{Item}
use Rattle.sg_facts.specs.Alike.{SameReply, named}
use Rattle.sg_facts.specs.Facts.{Facts, fun_at, takes_desc}
use Rattle.sg_facts.specs.Object.{Object, after, object_of, patch_of}
use Rattle.sg_facts.specs.Inside.Rows.{given_after}
use Rattle.sg_facts.specs.Sound.{IsRow, IsSound}
use Rattle.sg_facts.specs.Trace.{Boot}
use Rattle.sg_facts.specs.Track.{is_live, new_row, row_at}
use Rattle.sg_facts.proofs.RowLists.{live_of_row, row_of_live}
use Rattle.sg_recovery_laws.specs.Midway.Progress.{Told, complete}
use Rattle.sg_recovery_laws.specs.Midway.Stepping.{present_with, told_with}
use Rattle.sg_recovery_laws.specs.sg_hist.Reading.{Position, id_given, is_ok, last_items, names_at, older_items, pair_of}
use Rattle.sg_recovery_laws.specs.sg_hist.Inside.Reads.{desc_of, ends_walk, entries_before, made_by, names_in}
use Rattle.sg_recovery_laws.specs.sg_hist.Inside.Parts.{is_patch_at, is_walk_of}
use Rattle.sg_recovery_laws.proofs.Objects.Apart.{makes_row}
use Rattle.sg_recovery_laws.proofs.Objects.Guarded.{acts, keeps}
use Rattle.sg_recovery_laws.proofs.Objects.Serve.{names_served}
use Rattle.sg_recovery_laws.proofs.Objects.Steady.{fewer_after}
use Rattle.sg_recovery_laws.specs.sg_hist.Growing.{IsGrown}
use Rattle.sg_recovery_laws.proofs.Given.{IsGiven, names_same}
use Rattle.sg_recovery_laws.proofs.sg_hist.Growing.{names_at-more}
use Rattle.sg_recovery_laws.proofs.Lists.{each_split}
use Rattle.sg_clients.specs.WorldView.{WorldView, held_in}
use Rattle.sg_recovery_laws.specs.LastItem.LastPlace.{last_place}
use Rattle.sg_recovery_laws.specs.LastItem.Told.{IsRead}
use Rattle.sg_recovery_laws.proofs.LastItem.Making.{entries_put, read_made, read_put}
use Rattle.sg_facts.proofs.Replaying.Found.{from_more, other_test, within}
use Rattle.sg_world_laws.specs.Keeping.{AreDrawn, KeepsPromise, Stands, Stub, standing}
use Rattle.sg_world_laws.specs.Setting.{IsSetting, Setting}
use Rattle.sg_world_laws.proofs.Asked.{none_of}
use Rattle.sg_world_laws.proofs.Given.{given_any, given_now}
use Rattle.sg_world_laws.proofs.Orders.{good_now}

module _ (z : Setting) (set : IsSetting z) (w : WorldView) (b : Boot) (boots : List Boot) (v : Object) (stub : Stub) (k : KeepsPromise z (standing w b boots (Some v)) stub)
    (call : Call) (item : Item) (reply other : Reply) (patch : Option Patch) (s : IsServedCall z (standing w b boots (Some v)) stub v call item reply other patch) where
  abbrev up : Stands z (standing w b boots (Some v)) stub v
  up = k.stands

  abbrev facts : Facts
  facts = z.iface.facts

  abbrev o : Object
  o = object_of z.iface.facts w.history

  abbrev h : List Entry
  h = w.history

  abbrev ws : List Entry
  ws = held_in (length (b ∷ boots)) w.seats

  abbrev e : Entry
  e = record { call = call; reply = reply }

  abbrev older : List Item
  older = older_items [] (b ∷ boots)

  abbrev front : List Item
  front = last_items (b ∷ boots)

  abbrev creates : Bool
  creates = (fun_at z.iface.facts.funs call.fun).creation

  given_h : Each (IsGiven z.iface.facts w.history) (last_items (b ∷ boots))
  given_h = given_now z w b boots (Some v) stub k

  -- the names so far are the same, whatever stands after the history
  pub names_any : (xs ys : List Entry) → names_at z.iface.facts (w.history ++ ys) (last_items (b ∷ boots)) ≡ names_at z.iface.facts (w.history ++ xs) (last_items (b ∷ boots))
  names_any xs ys = names_same facts (h ++ xs) (h ++ ys) front (given_any facts h xs ys front given_h)

  -- what the item itself names
  pub item_names : (later : List Entry) → names_in z.iface.facts later item.shown.fun item.tag item.outcome ≡ cond creates (pair_of (id_given later call.client call.seq) (Replied other patch)) []
  item_names later =
      ap (λ t. names_in facts later item.shown.fun t item.outcome) s.replied.asked.tag
      ∙ ap (λ (c : Call). cond (fun_at facts.funs c.fun).creation (pair_of (id_given later call.client call.seq) item.outcome) []) s.replied.asked.shown
      ∙ ap (λ x. cond creates (pair_of (id_given later call.client call.seq) x) []) s.replied.outcome

  and_false : (q : Bool) → (q && false) ≡ false
  and_false true = refl
  and_false false = refl

  -- ---- an item that gives no name

  pub read_plain : (xs ys : List Entry) → AreDrawn (held_in (length (b ∷ boots)) w.seats) xs → ((p q : Position) → IsGrown item p q → entries_before (w.history ++ ys) q ≡ entries_before (w.history ++ xs) p)
      → (is_ok (Replied other patch) && (fun_at z.iface.facts.funs call.fun).creation) ≡ false
      → IsRead z.iface.facts z.walks (w.history ++ ys) (older_items [] (b ∷ boots)) (last_items (b ∷ boots) ++ item ∷ []) stub.names stub.told (λ path. stub.present path || is_patch_at path item.outcome) (object_of z.iface.facts w.history).rows
  read_plain xs ys drawn same_entries makes_none =
      read_put facts z.walks (h ++ xs) (h ++ ys) older front item same_entries (given_any facts h xs ys front given_h) stub.names stub.told stub.present o.rows (up.read xs drawn)
      (λ id. ap (λ x. is_ok x && made_by facts (h ++ ys) id item.shown.fun item.tag) s.replied.outcome
      ∙ ap (λ t. is_ok (Replied other patch) && made_by facts (h ++ ys) id item.shown.fun t) s.replied.asked.tag
      ∙ ap (λ (c : Call). is_ok (Replied other patch) && ((fun_at facts.funs c.fun).creation && (id_given (h ++ ys) call.client call.seq == id))) s.replied.asked.shown
      ∙ three (is_ok (Replied other patch)) creates (id_given (h ++ ys) call.client call.seq == id) makes_none)
      (λ id. ap (is_walk_of id) s.replied.asked.tag)
      (λ id. ap (λ t. is_ok item.outcome && ends_walk facts z.walks (h ++ ys) id (last_place older front item) t) s.replied.asked.tag ∙ and_false (is_ok item.outcome))
      (item_names (h ++ ys) ∙ no_pair other creates makes_none)
    where
      three : (a c x : Bool) → (a && c) ≡ false → (a && (c && x)) ≡ false
      three true true x none = absurd (cc none)
      three true false x none = refl
      three false c x none = refl

      no_pair : (p : Reply) (c : Bool) → (is_ok (Replied p patch) && c) ≡ false → cond c (pair_of (id_given (h ++ ys) call.client call.seq) (Replied p patch)) [] ≡ []
      no_pair p false none = refl
      no_pair (Ok g) true none = absurd (cc none)
      no_pair (Refused code) true none = refl

  -- ---- the item with its entry before the held replies

  module _ (es : List Entry) (drawn : AreDrawn (held_in (length (b ∷ boots)) w.seats) es) where
    its_id : id_given (w.history ++ e ∷ es) call.client call.seq ≡ desc_of reply
    its_id = given_pushed h e (each_split (λ x. x.call.client ≡ call.client → x.call.seq < call.seq) h ws s.let_in.above).0 es

    same_before : (p q : Position) → IsGrown item p q → entries_before (w.history ++ e ∷ es) q ≡ entries_before (w.history ++ es) p
    same_before p q g = entries_put h es e item p q (none_of z set w b boots v stub k call s.let_in s.all item s.replied.asked es drawn) (own z set w b boots v stub k call item reply other patch s) g

    present_is : (r p : Reply) → item.outcome ≡ Replied p patch → patch ≡ patch_of facts o call r → (path : List ℕ)
        → present_with (patch_of facts o call r) stub.present path ≡ (stub.present path || is_patch_at path item.outcome)
    present_is r p is patch_is path = ap (λ q. present_with q stub.present path) (sym patch_is) ∙ by patch ∙ ap (λ x. stub.present path || is_patch_at path x) (sym is)
      where
        or_false : (q : Bool) → q ≡ (q || false)
        or_false true = refl
        or_false false = refl

        by : (q : Option Patch) → present_with q stub.present path ≡ (stub.present path || is_patch_at path (Replied p q))
        by (Some x) = refl
        by None = or_false (stub.present path)

    plain : (r p : Reply) → item.outcome ≡ Replied p patch → (names1 : List (ℕ × ℕ)) (told1 : ℕ → Told) → (is_ok (Replied other patch) && creates) ≡ false
        → patch ≡ patch_of facts o call r → ((id : ℕ) → is_live (after facts o call r).rows id ≡ true → is_live o.rows id ≡ true)
        → ((id : ℕ) → named names1 id ≡ named stub.names id) → ((id : ℕ) → told1 id ≡ stub.told id)
        → IsRead facts z.walks (w.history ++ e ∷ es) older (last_items (b ∷ boots) ++ item ∷ []) names1 told1 (present_with (patch_of facts o call r) stub.present) (after facts o call r).rows
    plain r p is names1 told1 makes_none patch_is fewer same_n same_t =
        read_alike facts z.walks (h ++ e ∷ es) older (front ++ item ∷ []) stub.names names1 stub.told told1 (λ path. stub.present path || is_patch_at path item.outcome) (present_with (patch_of facts o call r) stub.present)
        o.rows (after facts o call r).rows fewer (same_n 0) (λ id live. same_n id) (λ id live. same_t id) (present_is r p is patch_is)
        (read_plain es (e ∷ es) drawn same_before makes_none)

    made_here : (g real_g : Good) → item.outcome ≡ Replied (Ok real_g) patch → z.ask o call ≡ Some (Ok g) → id_given (w.history ++ e ∷ es) call.client call.seq ≡ g.desc
        → patch ≡ patch_of facts o call (Ok g) → creates ≡ true
        → IsRead facts z.walks (w.history ++ e ∷ es) older (last_items (b ∷ boots) ++ item ∷ []) (names_served facts stub.names call g real_g) (told_with facts call g stub.told)
        (present_with (patch_of facts o call (Ok g)) stub.present) (after facts o call (Ok g)).rows
    made_here g real_g is asked given patch_is makes =
        let acting = acts facts call.fun set.law.shape.shape s.let_in.passes.is_call.first s.let_in.passes.is_call.last in
        let kept = keeps facts call.fun set.law.shape.shape s.let_in.passes.is_call.first s.let_in.passes.is_call.last in
        let quiet : patch_of facts o call (Ok g) ≡ None = no_patch (fun_at facts.funs call.fun).uses_file refl kept.file (acting.makes makes).2 in
        let next : g.desc ≡ o.given + 1 = set.law.keeps.next o call g asked makes in
        let sound = set.law.keeps.general o (good_now z set w b boots (Some v) stub k).is_sound in
        read_alike facts z.walks (h ++ e ∷ es) older (front ++ item ∷ []) ((g.desc, real_g.desc) ∷ stub.names) (names_served facts stub.names call g real_g)
        (λ x. if x == g.desc then complete else stub.told x) (told_with facts call g stub.told) stub.present (present_with (patch_of facts o call (Ok g)) stub.present)
        (after facts o call (Ok g)).rows (after facts o call (Ok g)).rows (λ id live. live)
        (ap (λ q. named (cond q ((g.desc, real_g.desc) ∷ stub.names) stub.names) 0) makes) (λ id live. ap (λ q. named (cond q ((g.desc, real_g.desc) ∷ stub.names) stub.names) id) makes)
        (λ id live. ap (λ q. cond (q && (id == g.desc)) complete (stub.told id)) makes) (λ path. ap (λ q. present_with q stub.present path) quiet)
        (read_made facts z.walks (h ++ es) (h ++ e ∷ es) older front item same_before (given_any facts h es (e ∷ es) front given_h) stub.names stub.told stub.present o.rows
        (after facts o call (Ok g)).rows (up.read es drawn) call.client call.seq g real_g s.replied.asked.tag (is ∙ ap (λ q. Replied (Ok real_g) q) (patch_is ∙ quiet))
        (ap (λ (c : Call). (fun_at facts.funs c.fun).creation) s.replied.asked.shown ∙ makes) given (up.unnamed es drawn g.desc (omega (arith, next)))
        (λ id live. grown_is id next sound (ap (λ rs. is_live rs id) (sym (makes_row facts call g o.rows (acting.makes makes).0 makes)) ∙ live)) (λ zero_it. omega (arith, next, zero_it)))
      where
        no_patch : (q : Bool) → (fun_at facts.funs call.fun).uses_file ≡ q → ((fun_at facts.funs call.fun).uses_file ≡ true → takes_desc (fun_at facts.funs call.fun) ≡ true)
            → takes_desc (fun_at facts.funs call.fun) ≡ false → patch_of facts o call (Ok g) ≡ None
        no_patch true uses takes none = absurd (let t = takes uses in cc (t, none))
        no_patch false uses takes none = rw (uses) refl

        grown_is : (id : ℕ) → g.desc ≡ o.given + 1 → IsSound facts o → is_live (o.rows ++ new_row facts call g ∷ []) id ≡ true → (id ≡ g.desc) ⊎ ((id ≢ g.desc) × (is_live o.rows id ≡ true))
        grown_is id next sound live = at (is_live o.rows id) refl
          where
            by_row : is_live o.rows id ≡ false → (r : Row) × (row_at (o.rows ++ new_row facts call g ∷ []) id ≡ Some r) × (r.id ≡ id) → id ≡ g.desc
            by_row is r = elim (from_more (IsRow facts o.rows) 0 o.given o.rows (new_row facts call g) r.0 id r.1) [
              | inl old ↦ absurd (let l = live_of_row o.rows id r.0 old in cc (l, is))
              | inr new ↦ sym new.1
            ]

            at : (q : Bool) → is_live o.rows id ≡ q → (id ≡ g.desc) ⊎ ((id ≢ g.desc) × (is_live o.rows id ≡ true))
            at true is =
                let r = row_of_live o.rows id is in
                let low = within (IsRow facts o.rows) 0 o.given id o.rows r.0 sound.rows r.1 in
                let n : r.0.id ≡ id = r.2 in
                inr ((λ one. omega (arith, low, n, next, one)), is)
            at false is = inl (by_row is (row_of_live (o.rows ++ new_row facts call g ∷ []) id live))

    read_by : (r p : Reply) → item.outcome ≡ Replied p patch → (is_ok (Replied p patch) && creates) ≡ (is_ok (Replied other patch) && creates) → z.ask o call ≡ Some r → SameReply stub.names creates (Some r) (Some p)
        → id_given (w.history ++ e ∷ es) call.client call.seq ≡ desc_of r → patch ≡ patch_of facts o call r
        → IsRead facts z.walks (w.history ++ e ∷ es) older (last_items (b ∷ boots) ++ item ∷ []) (names_by facts stub.names call r p) (told_by facts call r stub.told)
        (present_with (patch_of facts o call r) stub.present) (after facts o call r).rows
    read_by (Refused code) (Refused c) is one asked same given patch_is = plain (Refused code) (Refused c) is stub.names stub.told (sym one) patch_is (λ id live. live) (λ id. refl) (λ id. refl)
    read_by (Refused code) (Ok g) is one asked same given patch_is = absurd (apart_refused stub.names creates code g same)
    read_by (Ok g) (Refused c) is one asked same given patch_is = absurd (apart_ok stub.names creates g c same)
    read_by (Ok g) (Ok real_g) is one asked same given patch_is = split creates refl
      where
        split : (q : Bool) → creates ≡ q
            → IsRead facts z.walks (w.history ++ e ∷ es) older (last_items (b ∷ boots) ++ item ∷ []) (names_by facts stub.names call (Ok g) (Ok real_g)) (told_by facts call (Ok g) stub.told)
            (present_with (patch_of facts o call (Ok g)) stub.present) (after facts o call (Ok g)).rows
        split true makes = made_here g real_g is asked given patch_is makes
        split false makes = plain (Ok g) (Ok real_g) is (names_served facts stub.names call g real_g) (told_with facts call g stub.told) (sym one ∙ makes) patch_is
            (λ id live. let f = row_of_live (after facts o call (Ok g)).rows id live in fewer_after facts o.rows call g makes id f.0 f.1)
            (λ id. ap (λ q. named (cond q ((g.desc, real_g.desc) ∷ stub.names) stub.names) id) makes) (λ id. ap (λ q. cond (q && (id == g.desc)) complete (stub.told id)) makes)

    -- what is read
    pub read_with : IsRead z.iface.facts z.walks (w.history ++ (record { call = call; reply = reply }) ∷ es) (older_items [] (b ∷ boots)) (last_items (b ∷ boots) ++ item ∷ []) (names_by z.iface.facts stub.names call reply other)
        (told_by z.iface.facts call reply stub.told) (present_with (patch_of z.iface.facts (object_of z.iface.facts w.history) call reply) stub.present)
        (after z.iface.facts (object_of z.iface.facts w.history) call reply).rows
    read_with = read_by reply other s.replied.outcome refl s.replied.answered s.replied.same its_id (patch_it z set w b boots v stub k call item reply other patch s)

    -- and that no id is named that wasn't given
    pub unnamed_with : (id : ℕ) → given_after z.iface.facts (object_of z.iface.facts w.history).given call reply < id
        → list_any (λ (n : ℕ × ℕ). n.0 == id) (names_at z.iface.facts (w.history ++ (record { call = call; reply = reply }) ∷ es) (last_items (b ∷ boots) ++ item ∷ [])) ≡ false
    unnamed_with id above =
        ap (λ l. list_any (λ (n : ℕ × ℕ). n.0 == id) l) (names_at-more facts (h ++ e ∷ es) front item)
        ∙ list_any-append (λ (n : ℕ × ℕ). n.0 == id) (names_at facts (h ++ e ∷ es) front) (names_in facts (h ++ e ∷ es) item.shown.fun item.tag item.outcome)
        ∙ ap (λ q. q || list_any (λ (n : ℕ × ℕ). n.0 == id) (names_in facts (h ++ e ∷ es) item.shown.fun item.tag item.outcome))
        (ap (λ l. list_any (λ (n : ℕ × ℕ). n.0 == id) l) (names_any es (e ∷ es)) ∙ up.unnamed es drawn id (less_given reply above))
        ∙ ap (λ l. list_any (λ (n : ℕ × ℕ). n.0 == id) l) (item_names (h ++ e ∷ es) ∙ ap (λ n. cond creates (pair_of n (Replied other patch)) []) its_id)
        ∙ by creates refl reply other above s.replied.answered s.replied.same
      where
        less_if : (q : Bool) → cond q (o.given + 1) o.given < id → o.given < id
        less_if true lt = omega (arith, lt)
        less_if false lt = lt

        less_given : (r : Reply) → given_after facts o.given call r < id → o.given < id
        less_given (Ok g) lt = less_if creates lt
        less_given (Refused code) lt = lt

        by : (q : Bool) → creates ≡ q → (r p : Reply) → given_after facts o.given call r < id → z.ask o call ≡ Some r → SameReply stub.names creates (Some r) (Some p)
            → list_any (λ (n : ℕ × ℕ). n.0 == id) (cond q (pair_of (desc_of r) (Replied p patch)) []) ≡ false
        by false makes r p lt is same = refl
        by true makes (Ok g) (Ok real_g) lt is same =
            let n = set.law.keeps.next o call g is makes in
            let a : o.given + 1 < id = subst (λ q. cond q (o.given + 1) o.given < id) makes lt in
            ap (λ t. t || false) (other_test g.desc id (λ one. omega (arith, n, a, one)))
        by true makes (Ok g) (Refused code) lt is same = refl
        by true makes (Refused code) (Refused c) lt is same = refl
        by true makes (Refused code) (Ok g) lt is same = absurd (apart_refused stub.names creates code g same)
