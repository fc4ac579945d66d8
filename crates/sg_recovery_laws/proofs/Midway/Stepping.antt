-- A replayed call brings its row one step on, and leaves the others as far as they are.
use Rattle.std.proofs.Common.{◌≡◌, ℕ, suc, ◌+◌, ◌^◌, ◌<◌, Bool, true, false, cond, List, [], ◌∷◌, ◌++◌, None, Some, length, length-append, take, refl, sym, ◌∙◌, ap, subst, inl, inr, arith}
use Rattle.std.specs.Prelude.{◌≢◌}
use Rattle.std.specs.List.{list_all}
use Rattle.std.proofs.lemmas.Bool.Decides.{eqb_tells}
use Rattle.sg_facts.specs.sg_base.declared.call.Call.{Call}
use Rattle.sg_facts.specs.sg_base.declared.reply.Good.{Good}
use Rattle.sg_facts.specs.sg_base.declared.reply.Reply.TheVariants.{Ok}
use Rattle.sg_facts.specs.Allowed.{acts_on_one}
use Rattle.sg_facts.specs.declared.row.Row.{Row}
use Rattle.sg_facts.specs.declared.tables.WalkLine.{WalkLine}
use Rattle.sg_facts.specs.Alike.{named}
use Rattle.sg_facts.specs.Counted.{CountedBelow}
use Rattle.sg_facts.specs.Facts.{fun_at, writes}
use Rattle.sg_facts.specs.Fits.{Fits}
use Rattle.sg_facts.specs.Held.{AreReachable, HoldsPart, IsAt, ParentIsWhole, set_of}
use Rattle.sg_facts.specs.Interface.{Declared}
use Rattle.sg_facts.specs.Laws.{GoesOn, names_after, next_call}
use Rattle.sg_facts.specs.Legal.{Table}
use Rattle.sg_facts.specs.Object.{Object, after, file_at, first_text, patch_of, path_of, place_of}
use Rattle.sg_facts.specs.Inside.Rows.{patch_at, patched}
use Rattle.sg_facts.specs.Sound.{IsSound}
use Rattle.sg_facts.specs.Track.{new_row, row_at}
use Rattle.sg_facts.specs.Walks.{IsWalkOf}
use Rattle.sg_facts.proofs.RowLists.{id_of_row, row_at-more}
use Rattle.sg_hist.specs.Reading.{walk_in}
use Rattle.sg_recovery_laws.proofs.Objects.Guarded.{well_allowed, writes_none, both_true}
use Rattle.sg_recovery_laws.specs.Midway.Progress.{HasFile, IsSoFar, IsInRecovery, Told}
use Rattle.sg_recovery_laws.specs.Objects.Serving.{IsLegalObject, IsService}
use Rattle.sg_recovery_laws.specs.Midway.Stepping.{IsStepped, so_far, told_after}
use Rattle.sg_facts.proofs.Replaying.Above.{low_id, low_real}
use Rattle.sg_recovery_laws.proofs.Objects.Apart.{makes_row}
use Rattle.sg_recovery_laws.proofs.Midway.Rest.{kept_beside, parent_named, so_far_more, so_far_same}
use Rattle.sg_recovery_laws.proofs.Midway.Walking.{MayReplay, at_end, declared_within, may_replay, replayed_is, writes_no}

take_first : (done rest : List ℕ) (f : ℕ) → take (suc (length done)) (done ++ f ∷ rest) ≡ done ++ f ∷ []
take_first [] rest f = refl
take_first (d ∷ done) rest f = ap (λ l. d ∷ l) (take_first done rest f)

module _ (i : Declared) (ask : Table) (sound : Object → Type 0) (walks : List WalkLine) (names : List (ℕ × ℕ)) (told : ℕ → Told) (present : List ℕ → Bool) (o held : Object) (law : IsService i.facts ask sound)
    (fits : Fits i) (ok : IsLegalObject i.facts sound o) (reach : AreReachable i o.rows) (under : IsInRecovery i walks names told present o held) (counted : CountedBelow (2 ^ 63) i.facts held.rows) (few : held.given < 2 ^ 63)
    (r : Row) (done rest : List ℕ) (fun : ℕ) (there : row_at o.rows r.id ≡ Some r) (walk : walk_in walks (Some r) ≡ Some (done ++ fun ∷ rest))
    (its_walk : IsWalkOf i (done ++ fun ∷ rest) r.made r.state (set_of r)) (at : IsAt i names held r done) (parent : ParentIsWhole names o held r) where
  abbrev call : Call
  call = next_call i.facts names r done fun

  abbrev general : IsSound i.facts o
  general = law.keeps.general o ok.is_sound

  pub goes : GoesOn i ask names o held r done fun
  goes = law.goes.goes_on i names o held r done rest fun refl fits ok.is_sound reach under.holds counted few there its_walk at parent

  may : MayReplay i done fun
  may = may_replay i done rest fun r.made r.state (set_of r) its_walk

  -- the row that is rebuilt
  own_row : (good : Good) → HoldsPart i (names_after names r done good) o (after i.facts held call (Ok good)) → IsAt i (names_after names r done good) (after i.facts held call (Ok good)) r (done ++ fun ∷ [])
      → (rs : List ℕ) → rs ≡ rest → IsSoFar i walks (names_after names r done good) (after i.facts held call (Ok good)) r (so_far rs (suc (length done)))
  own_row good holds further [] is =
      at_end i (names_after names r done good) (after i.facts held call (Ok good)) r (done ++ fun ∷ [])
      (subst (λ l. IsWalkOf i (done ++ fun ∷ l) r.made r.state (set_of r)) (sym is) its_walk)
      (let n : length (done ++ fun ∷ []) ≡ length done + 1 = length-append done (fun ∷ []) in omega (arith, n)) further
  own_row good holds further (x ∷ rs) is = record {
    walk = done ++ fun ∷ x ∷ rs;
    its = walk ∙ ap (λ l. Some (done ++ fun ∷ l)) (sym is);
    first = omega arith;
    left = let n : length (done ++ fun ∷ x ∷ rs) ≡ length done + suc (suc (length rs)) = length-append done (fun ∷ x ∷ rs) in omega (arith, n);
    at = subst (IsAt i (names_after names r done good) (after i.facts held call (Ok good)) r) (sym (take_first done (x ∷ rs) fun)) further;
  }

  -- any other row
  other_row : (good : Good) (r2 : Row) → row_at o.rows r2.id ≡ Some r2 → r2.id ≢ r.id → IsSoFar i walks (names_after names r done good) (after i.facts held call (Ok good)) r2 (told r2.id)
  unfolding may
  other_row good r2 there2 apart = by done refl at may
    where
      by : (ds : List ℕ) → ds ≡ done → IsAt i names held r ds → MayReplay i ds fun
          → IsSoFar i walks (names_after names r ds good) (after i.facts held (next_call i.facts names r ds fun) (Ok good)) r2 (told r2.id)
      by [] is at may =
          so_far_more i walks names held (after i.facts held (next_call i.facts names r [] fun) (Ok good)) r.id good.desc r2 (told r2.id) apart
          (λ w found. parent_named i names o held r2 w r.id under.holds (law.keeps.general o ok.is_sound) there2 found at
          (let low = low_id i names o held under.holds (law.keeps.general o ok.is_sound) r.id r there in omega (arith, low)))
          (λ w found. ap (λ ws. row_at ws (named names r2.id)) (makes_row i.facts (next_call i.facts names r [] fun) good held.rows may.no_query (may.first refl))
          ∙ row_at-more held.rows (new_row i.facts (next_call i.facts names r [] fun) good) w (named names r2.id) found)
          (under.rows r2 there2)
      by (d ∷ ds) is at may =
          so_far_same i walks names held (after i.facts held (next_call i.facts names r (d ∷ ds) fun) (Ok good)) r2 (told r2.id)
          (λ w found. kept_beside i.facts held.rows (next_call i.facts names r (d ∷ ds) fun) good (named names r2.id) w found
          (λ same. elim (under.holds.names_are.apart r2.id r.id same) [
            | inl none ↦
                let low = low_real i names o held under.holds (law.keeps.general o ok.is_sound) (named names r2.id) w found in
                let its = id_of_row held.rows (named names r2.id) w found in
                absurd (omega (arith, low, its, none))
            | inr one ↦ apart one
          ])
          (λ ends. let no = may.no_end in absurd (cc (ends, no))))
          (under.rows r2 there2)

  -- no file is written
  no_file : (good : Good) (path : List ℕ) → HasFile (present path) path o (after i.facts held call (Ok good))
  unfolding may
  no_file good path =
      let within = declared_within i fun fits may.declared in
      let none : writes (fun_at i.facts.funs fun) ≡ false = writes_no i.facts fun (length i.facts.funs) (both_true (list_all (acts_on_one i.facts) i.facts.funs) (writes_none i.facts (length i.facts.funs)) (well_allowed i.facts law.shape.shape)).1 within.0 within.1 (replayed_is i done fun fits may) in
      let patch : patch_of i.facts held call (Ok good) ≡ None
      = ap (λ b. cond b (patch_at (path_of held.rows call.desc) (place_of (fun_at i.facts.funs fun) (row_at held.rows call.desc)) (first_text call.args)) None) none in
      same (present path) (ap (patched held.files) patch) (under.files path)
    where
      same : (b : Bool) → (after i.facts held call (Ok good)).files ≡ held.files → HasFile b path o held → HasFile b path o (after i.facts held call (Ok good))
      same true is has = ap (λ fs. file_at fs path) is ∙ has
      same false is has = ap (λ fs. file_at fs path) is ∙ has

  pub stepped : IsStepped i ask walks names told present o held r done rest fun
  unfolding goes
  stepped = record {
    may_ask = goes.may_ask;
    good = goes.good;
    answered = goes.answered;
    under_way = record {
      holds = goes.holds;
      rows = rows goes.good goes.holds goes.further;
      files = no_file goes.good;
    };
  }
    where
      rows : (good : Good) → HoldsPart i (names_after names r done good) o (after i.facts held call (Ok good)) → IsAt i (names_after names r done good) (after i.facts held call (Ok good)) r (done ++ fun ∷ [])
          → (r2 : Row) → row_at o.rows r2.id ≡ Some r2 → IsSoFar i walks (names_after names r done good) (after i.facts held call (Ok good)) r2 (told_after told r.id done rest r2.id)
      rows good holds further r2 there2 = elim (eqb_tells r2.id r.id) [
        | inl same ↦
            let one : Some r ≡ Some r2 = sym there ∙ ap (row_at o.rows) (sym same.1) ∙ there2 in
            let rows_are : r ≡ r2 = cc one in
            subst (IsSoFar i walks (names_after names r done good) (after i.facts held call (Ok good)) r2) (sym (ap (λ b. cond b (so_far rest (suc (length done))) (told r2.id)) same.0))
            (subst (λ x. IsSoFar i walks (names_after names r done good) (after i.facts held call (Ok good)) x (so_far rest (suc (length done)))) rows_are (own_row good holds further rest refl))
        | inr apart ↦
            subst (IsSoFar i walks (names_after names r done good) (after i.facts held call (Ok good)) r2) (sym (ap (λ b. cond b (so_far rest (suc (length done))) (told r2.id)) apart.0))
            (other_row good r2 there2 apart.1)
      ]
