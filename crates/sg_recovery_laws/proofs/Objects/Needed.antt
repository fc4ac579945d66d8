-- What a call needs is the same after the held replies of others.
use Rattle.std.proofs.Common.{◌≡◌, ℕ, Bool, true, false, cond, List, [], ◌∷◌, None, Some, length, map, filter, refl, sym, ◌∙◌, ap, subst, inl, inr}
use Rattle.std.specs.Prelude.{◌==◌, ◌||◌, if◌then◌else◌}
use Rattle.std.specs.List.{list_any}
use Rattle.std.specs.declared.option.Option.{Option}
use Rattle.sg_facts.specs.sg_base.declared.call.Call.{Call}
use Rattle.sg_facts.specs.declared.entry.Entry.{Entry}
use Rattle.sg_facts.specs.declared.row.Row.{Row}
use Rattle.sg_facts.specs.Facts.{Facts, fun_at}
use Rattle.sg_facts.specs.Laws.{Passes}
use Rattle.sg_facts.specs.Legal.{Table}
use Rattle.sg_facts.specs.Needs.{Needs, is_needed, needs}
use Rattle.sg_facts.specs.Object.{Object, path_of}
use Rattle.sg_facts.specs.Inside.Rows.{object_from}
use Rattle.sg_facts.specs.Track.{ancestors, is_ancestor, nearest, row_at}
use Rattle.sg_facts.proofs.RowLists.{id_of_row, left, row_at-left}
use Rattle.sg_recovery_laws.specs.Objects.Apart.{SameFor}
use Rattle.sg_recovery_laws.specs.Objects.Serving.{HasTime, IsLegalObject, IsService}
use Rattle.sg_recovery_laws.specs.Objects.Waiting.{AreWaiting, NoneBy}
use Rattle.sg_recovery_laws.proofs.Objects.Answered.{needed_none, needed_own}
use Rattle.sg_recovery_laws.proofs.Objects.Apart.{IsOwnRow, nearest_same, rows_same}
use Rattle.sg_facts.proofs.Replaying.Found.{from_left}
use Rattle.sg_recovery_laws.proofs.Objects.Guarded.{keeps, looks_at_own}
use Rattle.sg_recovery_laws.proofs.Objects.Serves.{needed_after, on_none_or_own, path_after}
use Rattle.sg_recovery_laws.proofs.Objects.Steady.{ascends}
use Rattle.sg_recovery_laws.proofs.Objects.Waiting.{after_same, good_later, hidden_is}

module _ (facts : Facts) (ask : Table) (sound : Object → Type 0) (law : IsService facts ask sound) (o : Object) (es : List Entry) (call : Call) (ok : IsLegalObject facts sound o) (time : HasTime facts (length es) o)
    (waiting : AreWaiting facts ask o es) (none_by : NoneBy call.client es) (passes : Passes facts o call) where
  abbrev behind : Object
  behind = object_from facts o es

  -- the same stands above the descriptor
  above_same : ancestors (object_from facts o es).rows call.desc ≡ ancestors o.rows call.desc
  above_same = by es refl waiting
    where
      by : (l : List Entry) → l ≡ es → AreWaiting facts ask o l → ancestors (object_from facts o l).rows call.desc ≡ ancestors o.rows call.desc
      by [] is all = refl
      by (p ∷ l) is all =
          let hidden = hidden_is facts p.call.fun all.0.hidden in
          let same = (after_same facts ask sound law o es call.client ok time waiting none_by).0 in
          ap (λ x. ancestors (object_from facts o x).rows call.desc) is
          ∙ elim (on_none_or_own facts ask sound law o call hidden.alone passes) [
            | inl root ↦ ap (λ d. nearest (object_from facts o es).rows d d) root ∙ sym (ap (λ d. nearest o.rows d d) root)
            | inr on ↦ nearest_same o.rows (object_from facts o es).rows call.desc call.desc on.row (ok.own hidden.alone) (subst (λ c. SameFor c o.rows (object_from facts o es).rows) (sym on.own) same) on.of
          ]

  pub needed_same : (r : Row) → is_needed facts (object_from facts o es).rows call r ≡ is_needed facts o.rows call r
  needed_same r = ap (λ ids. (fun_at facts.funs call.fun).all || (r.id == call.desc) || list_any (λ a. a == r.id) ids) above_same

  -- what is needed after them is there before them
  pub needed_back : (r : Row) → row_at (object_from facts o es).rows r.id ≡ Some r → is_needed facts (object_from facts o es).rows call r ≡ true → row_at o.rows r.id ≡ Some r
  needed_back r there need = by es refl waiting
    where
      by : (l : List Entry) → l ≡ es → AreWaiting facts ask o l → row_at o.rows r.id ≡ Some r
      by [] is all = ap (λ x. row_at (object_from facts o x).rows r.id) is ∙ there
      by (p ∷ l) is all =
          let hidden = hidden_is facts p.call.fun all.0.hidden in
          let same = (after_same facts ask sound law o es call.client ok time waiting none_by).0 in
          let looks = looks_at_own facts call.fun law.shape.shape hidden.alone passes.is_call.first passes.is_call.last in
          let good = good_later facts ask sound law o es ok time waiting in
          elim (on_none_or_own facts ask sound law o call hidden.alone passes) [
            | inl root ↦ absurd (
                let isn't = needed_none facts (object_from facts o es).rows (object_from facts o es).given call r looks (ascends facts (object_from facts o es) (law.keeps.general (object_from facts o es) good.is_sound)) root there in
                cc (need, isn't))
            | inr on ↦
                let on_too : IsOwnRow (object_from facts o es).rows call.client call.desc = record { row = on.row; of = same.there call.desc on.row on.of on.own; own = on.own } in
                same.back r.id r there (needed_own facts (object_from facts o es).rows call r looks (good.own hidden.alone) on_too there need)
          ]

  -- so the same ids are needed
  found_same : (id : ℕ) → row_at (filter (is_needed facts (object_from facts o es).rows call) (object_from facts o es).rows) id ≡ row_at (filter (is_needed facts o.rows call) o.rows) id
  found_same id = at (row_at (filter (is_needed facts o.rows call) o.rows) id) refl (row_at (filter (is_needed facts (object_from facts o es).rows call) (object_from facts o es).rows) id) refl
    where
      test : List Row → ℕ → Bool
      test rows x = (fun_at facts.funs call.fun).all || (x == call.desc) || is_ancestor rows x call.desc

      forth : (r : Row) → row_at (filter (is_needed facts o.rows call) o.rows) id ≡ Some r → row_at (filter (is_needed facts (object_from facts o es).rows call) (object_from facts o es).rows) id ≡ Some r
      forth r there =
          let was = from_left (λ x. (fun_at facts.funs call.fun).all || (x == call.desc) || is_ancestor o.rows x call.desc) o.rows id r there in
          let its : r.id ≡ id = id_of_row o.rows id r was.there in
          let there_r : row_at o.rows r.id ≡ Some r = ap (row_at o.rows) its ∙ was.there in
          let need : is_needed facts o.rows call r ≡ true = ap (λ x. (fun_at facts.funs call.fun).all || (x == call.desc) || is_ancestor o.rows x call.desc) its ∙ was.stays in
          let after_r : row_at (object_from facts o es).rows r.id ≡ Some r = needed_after facts ask sound law o es call r ok time waiting none_by passes there_r need in
          let stays_it : ((fun_at facts.funs call.fun).all || (id == call.desc) || is_ancestor (object_from facts o es).rows id call.desc) ≡ true
          = ap (λ ids. (fun_at facts.funs call.fun).all || (id == call.desc) || list_any (λ a. a == id) ids) above_same ∙ was.stays in
          row_at-left (λ x. (fun_at facts.funs call.fun).all || (x == call.desc) || is_ancestor (object_from facts o es).rows x call.desc) (object_from facts o es).rows id stays_it
          ∙ ap (row_at (object_from facts o es).rows) (sym its) ∙ after_r

      back : (r : Row) → row_at (filter (is_needed facts (object_from facts o es).rows call) (object_from facts o es).rows) id ≡ Some r → row_at (filter (is_needed facts o.rows call) o.rows) id ≡ Some r
      back r there =
          let was = from_left (λ x. (fun_at facts.funs call.fun).all || (x == call.desc) || is_ancestor (object_from facts o es).rows x call.desc) (object_from facts o es).rows id r there in
          let its : r.id ≡ id = id_of_row (object_from facts o es).rows id r was.there in
          let need : is_needed facts (object_from facts o es).rows call r ≡ true
          = ap (λ x. (fun_at facts.funs call.fun).all || (x == call.desc) || is_ancestor (object_from facts o es).rows x call.desc) its ∙ was.stays in
          let there_o : row_at o.rows r.id ≡ Some r = needed_back r (ap (row_at (object_from facts o es).rows) its ∙ was.there) need in
          let stays_it : ((fun_at facts.funs call.fun).all || (id == call.desc) || is_ancestor o.rows id call.desc) ≡ true
          = ap (λ ids. (fun_at facts.funs call.fun).all || (id == call.desc) || list_any (λ a. a == id) ids) (sym above_same) ∙ was.stays in
          row_at-left (λ x. (fun_at facts.funs call.fun).all || (x == call.desc) || is_ancestor o.rows x call.desc) o.rows id stays_it ∙ ap (row_at o.rows) (sym its) ∙ there_o

      at : (x : Option Row) → row_at (filter (is_needed facts o.rows call) o.rows) id ≡ x → (y : Option Row) → row_at (filter (is_needed facts (object_from facts o es).rows call) (object_from facts o es).rows) id ≡ y
          → row_at (filter (is_needed facts (object_from facts o es).rows call) (object_from facts o es).rows) id ≡ row_at (filter (is_needed facts o.rows call) o.rows) id
      at (Some r) is y also = forth r is ∙ sym is
      at None is None also = also ∙ sym is
      at None is (Some r) also = absurd (let has = back r also in cc (is, has))

  pub needed_rows : filter (is_needed facts (object_from facts o es).rows call) (object_from facts o es).rows ≡ filter (is_needed facts o.rows call) o.rows
  needed_rows =
      let good = good_later facts ask sound law o es ok time waiting in
      rows_same 0 o.given 0 (object_from facts o es).given (filter (is_needed facts o.rows call) o.rows) (filter (is_needed facts (object_from facts o es).rows call) (object_from facts o es).rows)
      (left (λ r. Unit {0}) (is_needed facts o.rows call) 0 o.given o.rows (ascends facts o (law.keeps.general o ok.is_sound)))
      (left (λ r. Unit {0}) (is_needed facts (object_from facts o es).rows call) 0 (object_from facts o es).given (object_from facts o es).rows (ascends facts (object_from facts o es) (law.keeps.general (object_from facts o es) good.is_sound)))
      found_same

  -- and the same file
  file_same : (if (fun_at facts.funs call.fun).uses_file then Some (path_of (object_from facts o es).rows call.desc) else None) ≡ (if (fun_at facts.funs call.fun).uses_file then Some (path_of o.rows call.desc) else None)
  file_same = at (fun_at facts.funs call.fun).uses_file refl
    where
      not_so : (b : Bool) → (b ≡ true → ⊥) → b ≡ false
      not_so true isn't = absurd (isn't refl)
      not_so false isn't = refl

      at : (b : Bool) → (fun_at facts.funs call.fun).uses_file ≡ b → cond b (Some (path_of (object_from facts o es).rows call.desc)) None ≡ cond b (Some (path_of o.rows call.desc)) None
      at false is = refl
      at true is =
          let k = keeps facts call.fun law.shape.shape passes.is_call.first passes.is_call.last in
          let takes = k.file is in
          ap (λ p. Some p) (path_after facts ask sound law o es call ok time waiting none_by passes takes (not_so (fun_at facts.funs call.fun).query (λ q. let none = (k.query q).0 in cc (takes, none))))

  pub needs_same : needs facts (object_from facts o es) call ≡ needs facts o call
  needs_same =
      let of : List ℕ → Option (List ℕ) → Needs = λ ids file. record { ids = ids; file = file } in
      ap (λ rows. of (map (λ r. r.id) rows) (if (fun_at facts.funs call.fun).uses_file then Some (path_of (object_from facts o es).rows call.desc) else None)) needed_rows
      ∙ ap (of (map (λ r. r.id) (filter (is_needed facts o.rows call) o.rows))) file_same
