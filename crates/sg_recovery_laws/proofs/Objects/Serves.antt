-- What a service holds in the middle of a recovery, with replies of others held, serves a call whose needs are whole.
use Rattle.std.proofs.Common.{◌≡◌, ℕ, Bool, true, false, cond, List, [], ◌∷◌, ◌++◌, None, Some, length, map, refl, sym, ◌∙◌, ap, subst, inl, inr, ◌⊎◌, arith}
use Rattle.std.specs.Prelude.{◌==◌, ◌||◌, reverse}
use Rattle.std.specs.List.{flat_map}
use Rattle.std.specs.declared.option.Option.{Option}
use Rattle.std.proofs.lemmas.Bool.Decides.{nat_tests}
use Rattle.std.proofs.lemmas.Grind.{reverse_onto}
use Rattle.std.proofs.lemmas.List.Folds.{flat_map-map}
use Rattle.std.proofs.lemmas.List.{map-append}
use Rattle.sg_facts.specs.sg_base.Lists.{Each}
use Rattle.sg_facts.specs.sg_base.declared.call.Call.{Call}
use Rattle.sg_facts.specs.sg_base.declared.reply.Reply.{Reply}
use Rattle.sg_facts.specs.sg_base.declared.reply.Reply.TheVariants.{Ok, Refused}
use Rattle.sg_facts.specs.declared.entry.Entry.{Entry}
use Rattle.sg_facts.specs.declared.row.Row.{Row}
use Rattle.sg_facts.specs.Alike.{EachStands, HasAlike, SameFile, Serves, named}
use Rattle.sg_facts.specs.Facts.{Facts, fun_at, takes_desc, takes_parent}
use Rattle.sg_facts.specs.Inside.Guards.{is_own, is_there}
use Rattle.sg_facts.specs.Held.{EachHeld, HoldsPart}
use Rattle.sg_facts.specs.Interface.{Declared}
use Rattle.sg_facts.specs.Laws.{Passes, whole}
use Rattle.sg_facts.specs.Legal.{Table}
use Rattle.sg_facts.specs.Needs.{is_needed}
use Rattle.sg_facts.specs.Object.{Object, after, file_at, first_text, path_of}
use Rattle.sg_facts.specs.Inside.Rows.{object_from, step_to}
use Rattle.sg_facts.specs.Sound.{IsSound}
use Rattle.sg_facts.specs.Track.{ancestors, is_ancestor, is_live, row_at}
use Rattle.sg_facts.proofs.RowLists.{id_of_row, live_of_row, row_of_live}
use Rattle.sg_recovery_laws.proofs.Lists.{each_push}
use Rattle.sg_recovery_laws.specs.Objects.Serving.{HasTime, IsLegalObject, IsService}
use Rattle.sg_recovery_laws.specs.Objects.Waiting.{AreWaiting, NoneBy}
use Rattle.sg_facts.proofs.Replaying.Above.{IsWholeIn, name_of_held, up}
use Rattle.sg_recovery_laws.proofs.Objects.Answered.{needed_none, needed_own, path_own}
use Rattle.sg_recovery_laws.proofs.Objects.Apart.{IsOwnRow}
use Rattle.sg_recovery_laws.proofs.Objects.Guarded.{acts, keeps, let_pass, looks_at_own, own_desc, own_parent}
use Rattle.sg_recovery_laws.proofs.Objects.Steady.{after_good, ascends, fewer_after}
use Rattle.sg_recovery_laws.proofs.Objects.Waiting.{after_same, good_later, hidden_is, less_time, time_after, waiting_after}

-- ---- the path of a row that a service holds

reverse_map : (f : ℕ → ℕ) (ids : List ℕ) → reverse (map f ids) ≡ map f (reverse ids)
reverse_map f [] = refl
reverse_map f (a ∷ ids) =
    reverse_onto (map f ids) (f a) [] ∙ ap (λ l. l ++ f a ∷ []) (reverse_map f ids)
    ∙ sym (ap (map f) (reverse_onto ids a []) ∙ map-append f (reverse ids) (a ∷ []))

flat_map_alike : (f g : ℕ → List ℕ) (ids : List ℕ) → Each (λ a. f a ≡ g a) ids → flat_map f ids ≡ flat_map g ids
flat_map_alike f g [] each = refl
flat_map_alike f g (a ∷ ids) each = ap (λ x. x ++ flat_map f ids) each.0 ∙ ap (λ x. g a ++ x) (flat_map_alike f g ids each.1)

each_reversed : (P : ℕ → Type 0) (ids : List ℕ) → Each P ids → Each P (reverse ids)
each_reversed P [] each = tt
each_reversed P (a ∷ ids) each = subst (Each P) (sym (reverse_onto ids a [])) (each_push P (reverse ids) a (each_reversed P ids each.1) each.0)

pub path_held : (i : Declared) (names : List (ℕ × ℕ)) (o held : Object) (r : Row) → HoldsPart i names o held → IsSound i.facts o → row_at o.rows r.id ≡ Some r → HasAlike names held r
    → path_of held.rows (named names r.id) ≡ path_of o.rows r.id
path_held i names o held r holds sound there has =
    let above = up i names o held holds sound (named names r.id) r.id r has.row there has.there (omega arith) (omega arith) in
    let step : ℕ → List ℕ = λ a. step_to (row_at held.rows a) in
    let ids : List ℕ = r.id ∷ ancestors o.rows r.id in
    ap (λ l. flat_map step (reverse (named names r.id ∷ l))) above.same
    ∙ ap (flat_map step) (reverse_map (named names) ids)
    ∙ flat_map-map step (named names) (reverse ids)
    ∙ flat_map_alike (λ a. step (named names a)) (λ a. step_to (row_at o.rows a)) (reverse ids)
    (each_reversed (λ a. step_to (row_at held.rows (named names a)) ≡ step_to (row_at o.rows a)) ids
    (one r.id (record { row = r; of = there; whole = has }), all (ancestors o.rows r.id) above.each))
  where
    one : (a : ℕ) → IsWholeIn names o held a → step_to (row_at held.rows (named names a)) ≡ step_to (row_at o.rows a)
    one a w =
        let its : w.row.id ≡ a = id_of_row o.rows a w.row w.of in
        ap step_to (ap (λ n. row_at held.rows (named names n)) (sym its) ∙ w.whole.there)
        ∙ ap (λ fs. 47 ∷ first_text fs) w.whole.alike.fields
        ∙ ap step_to (sym w.of)

    all : (ids : List ℕ) → Each (IsWholeIn names o held) ids → Each (λ a. step_to (row_at held.rows (named names a)) ≡ step_to (row_at o.rows a)) ids
    all [] each = tt
    all (a ∷ ids) each = (one a each.0, all ids each.1)

module _ (facts : Facts) (ask : Table) (sound : Object → Type 0) (law : IsService facts ask sound) where
  -- held replies leave no row under a new id
  pub fewer_later : (o : Object) (es : List Entry) → IsLegalObject facts sound o → HasTime facts (length es) o → AreWaiting facts ask o es → (id : ℕ) (w : Row) → row_at (object_from facts o es).rows id ≡ Some w
      → is_live o.rows id ≡ true
  fewer_later o [] good time all id w there = live_of_row o.rows id w there
  fewer_later o (p ∷ es) good time all id w there =
      let hidden = hidden_is facts p.call.fun all.0.hidden in
      let later = time_after facts ask sound law (length es) o p.call p.reply good all.0.answered time in
      let live = fewer_later (after facts o p.call p.reply) es (after_good facts ask sound law o p.call p.reply good all.0.answered) later
      (waiting_after facts ask sound law o p.call p.reply es good all.0.answered (less_time facts ask sound law (length es) 0 (after facts o p.call p.reply) (omega arith) later) all.1 all.2) id w there in
      at p.reply live hidden.makes
    where
      at : (reply : Reply) → is_live (after facts o p.call reply).rows id ≡ true → (fun_at facts.funs p.call.fun).creation ≡ false → is_live o.rows id ≡ true
      at (Refused code) live makes = live
      at (Ok g) live makes =
          let found = row_of_live (after facts o p.call (Ok g)).rows id live in
          fewer_after facts o.rows p.call g makes id found.0 found.1

  -- a call of a private service is on no row, or on one of its client's
  pub on_none_or_own : (o : Object) (call : Call) → facts.global ≡ false → Passes facts o call → (call.desc ≡ 0) ⊎ IsOwnRow o.rows call.client call.desc
  on_none_or_own o call alone passes = by_query (fun_at facts.funs call.fun).query refl
    where
      by_takes : (p d : Bool) → (fun_at facts.funs call.fun).query ≡ false → takes_parent (fun_at facts.funs call.fun) ≡ p → takes_desc (fun_at facts.funs call.fun) ≡ d → (call.desc ≡ 0) ⊎ IsOwnRow o.rows call.client call.desc
      by_takes true d row takes_p takes_d = own_parent (whole facts) o call law.shape.shape alone (acts facts call.fun law.shape.shape passes.is_call.first passes.is_call.last) (let_pass (whole facts) o call row passes.guarded) takes_p
      by_takes false true row takes_p takes_d = inr (own_desc (whole facts) o call alone (let_pass (whole facts) o call row passes.guarded) takes_d)
      by_takes false false row takes_p takes_d = inl (passes.is_call.fits.desc takes_d takes_p)

      by_query : (b : Bool) → (fun_at facts.funs call.fun).query ≡ b → (call.desc ≡ 0) ⊎ IsOwnRow o.rows call.client call.desc
      by_query true query = let k = (keeps facts call.fun law.shape.shape passes.is_call.first passes.is_call.last).query query in inl (passes.is_call.fits.desc k.0 k.1)
      by_query false row = by_takes (takes_parent (fun_at facts.funs call.fun)) (takes_desc (fun_at facts.funs call.fun)) row refl refl

  -- what a call needs is the same after the held replies of others
  pub needed_after : (o : Object) (es : List Entry) (call : Call) (r : Row) → IsLegalObject facts sound o → HasTime facts (length es) o → AreWaiting facts ask o es → NoneBy call.client es → Passes facts o call
      → row_at o.rows r.id ≡ Some r → is_needed facts o.rows call r ≡ true → row_at (object_from facts o es).rows r.id ≡ Some r
  needed_after o [] call r good time all none passes there need = there
  needed_after o (p ∷ es) call r good time all none passes there need =
      let hidden = hidden_is facts p.call.fun all.0.hidden in
      let same = (after_same facts ask sound law o (p ∷ es) call.client good time all none).0 in
      let looks = looks_at_own facts call.fun law.shape.shape hidden.alone passes.is_call.first passes.is_call.last in
      elim (on_none_or_own o call hidden.alone passes) [
        | inl root ↦ absurd (let isn't = needed_none facts o.rows o.given call r looks (ascends facts o (law.keeps.general o good.is_sound)) root there in cc (need, isn't))
        | inr on ↦ same.there r.id r there (needed_own facts o.rows call r looks (good.own hidden.alone) on there need)
      ]

  -- the row of the descriptor, where the function takes one
  pub desc_row : (o : Object) (call : Call) → Passes facts o call → takes_desc (fun_at facts.funs call.fun) ≡ true → (fun_at facts.funs call.fun).query ≡ false → (r : Row) × (row_at o.rows call.desc ≡ Some r)
  desc_row o call passes takes row = at facts.global (row_at o.rows call.desc) refl ((let_pass (whole facts) o call row passes.guarded).desc takes)
    where
      at : (g : Bool) (found : Option Row) → row_at o.rows call.desc ≡ found → cond g (is_there found) (is_own found call.client) ≡ true → (r : Row) × (row_at o.rows call.desc ≡ Some r)
      at g (Some r) is may = (r, is)
      at true None is may = absurd (cc may)
      at false None is may = absurd (cc may)

  -- the path of the descriptor is the same after the held replies of others
  pub path_after : (o : Object) (es : List Entry) (call : Call) → IsLegalObject facts sound o → HasTime facts (length es) o → AreWaiting facts ask o es → NoneBy call.client es → Passes facts o call
      → takes_desc (fun_at facts.funs call.fun) ≡ true → (fun_at facts.funs call.fun).query ≡ false → path_of (object_from facts o es).rows call.desc ≡ path_of o.rows call.desc
  path_after o [] call good time all none passes takes row = refl
  path_after o (p ∷ es) call good time all none passes takes row =
      let hidden = hidden_is facts p.call.fun all.0.hidden in
      let same = (after_same facts ask sound law o (p ∷ es) call.client good time all none).0 in
      path_own call.client o.rows (object_from facts o (p ∷ es)).rows call.desc (good.own hidden.alone) same
      (own_desc (whole facts) o call hidden.alone (let_pass (whole facts) o call row passes.guarded) takes)

  pub its_own : (facts : Facts) (rows : List Row) (call : Call) (r : Row) → r.id ≡ call.desc → is_needed facts rows call r ≡ true
  its_own facts rows call r same =
      let is : (r.id == call.desc) ≡ true = grind (arith, nat_tests, same) in
      ap (λ b. (fun_at facts.funs call.fun).all || b || is_ancestor rows r.id call.desc) is
      ∙ at (fun_at facts.funs call.fun).all
    where
      at : (a : Bool) → (a || true || is_ancestor rows r.id call.desc) ≡ true
      at true = refl
      at false = refl

  -- so it serves the call
  pub serves_now : (i : Declared) (names : List (ℕ × ℕ)) (o held : Object) (es : List Entry) (call : Call) → i.facts ≡ facts → IsLegalObject facts sound o → HasTime facts (length es) o → AreWaiting facts ask o es
      → NoneBy call.client es → HoldsPart i names (object_from facts o es) held → Passes facts o call
      → ((r : Row) → row_at o.rows r.id ≡ Some r → is_needed facts o.rows call r ≡ true → HasAlike names held r)
      → ((fun_at facts.funs call.fun).uses_file ≡ true → file_at held.files (path_of o.rows call.desc) ≡ file_at o.files (path_of o.rows call.desc))
      → Serves facts names o held call
  serves_now i names o held es call its good time all none holds passes needed same_file = record {
    names_are = holds.names_are;
    held_sound = subst (λ f. IsSound f held) its holds.held_sound;
    each = stands held.rows holds.each;
    needed = needed;
    file = file (fun_at facts.funs call.fun).uses_file refl;
  }
    where
      stands : (ws : List Row) → EachHeld i names (object_from facts o es) held ws → EachStands names o.rows ws
      stands [] each = tt
      stands (w ∷ ws) each =
          (record { of = each.0.row.id; live = fewer_later o es good time all each.0.row.id each.0.row each.0.live; id = name_of_held i names each.0.row w each.0.held_for }, stands ws each.1)

      file : (b : Bool) → (fun_at facts.funs call.fun).uses_file ≡ b → SameFile o held call.desc (named names call.desc) (cond b (Some (path_of o.rows call.desc)) None)
      file false is = tt
      file true is =
          let k = keeps facts call.fun law.shape.shape passes.is_call.first passes.is_call.last in
          let takes = k.file is in
          let row : (fun_at facts.funs call.fun).query ≡ false = not_so (fun_at facts.funs call.fun).query (λ q. let no_desc = (k.query q).0 in cc (takes, no_desc)) in
          let d = desc_row o call passes takes row in
          let id : d.0.id ≡ call.desc = id_of_row o.rows call.desc d.0 d.1 in
          let there : row_at o.rows d.0.id ≡ Some d.0 = ap (row_at o.rows) id ∙ d.1 in
          let need : is_needed facts o.rows call d.0 ≡ true = its_own facts o.rows call d.0 id in
          let behind : row_at (object_from facts o es).rows d.0.id ≡ Some d.0 = needed_after o es call d.0 good time all none passes there need in
          let path : path_of held.rows (named names d.0.id) ≡ path_of (object_from facts o es).rows d.0.id
          = path_held i names (object_from facts o es) held d.0 holds (subst (λ f. IsSound f (object_from facts o es)) (sym its) (law.keeps.general (object_from facts o es) (good_later facts ask sound law o es good time all).is_sound))
          behind (needed d.0 there need) in
          (ap (λ n. path_of held.rows (named names n)) (sym id) ∙ path ∙ ap (path_of (object_from facts o es).rows) id ∙ path_after o es call good time all none passes takes row, same_file is)
        where
          not_so : (b : Bool) → (b ≡ true → ⊥) → b ≡ false
          not_so true isn't = absurd (isn't refl)
          not_so false isn't = refl
