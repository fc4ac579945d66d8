-- What stubs tell after an answered call, by what they told before.
use Rattle.std.proofs.Common.{◌≡◌, ℕ, Bool, true, false, cond, not, List, [], ◌∷◌, Some, refl, sym, ◌∙◌, ap, inl, inr, ◌⊎◌}
use Rattle.std.specs.Prelude.{◌==◌, ◌||◌, ◌&&◌}
use Rattle.std.proofs.lemmas.Bool.Decides.{eqb_tells}
use Rattle.std.proofs.lemmas.List.Folds.{list_any-append}
use Rattle.sg_facts.specs.sg_base.declared.call.Call.{Call}
use Rattle.sg_facts.specs.sg_base.declared.reply.Reply.{Reply}
use Rattle.sg_facts.specs.sg_base.declared.reply.Reply.TheVariants.{Ok, Refused}
use Rattle.sg_world_laws.specs.Committing.Telling.{TellsAfter, has_ended, makes_id}
use Rattle.sg_world_laws.proofs.Committing.Later.{apart_ok, names_by, told_by}
use Rattle.sg_facts.proofs.RowLists.{row_of_live}
use Rattle.sg_facts.specs.Alike.{SameReply, named}
use Rattle.sg_facts.specs.Facts.{Facts, fun_at}
use Rattle.sg_facts.specs.Object.{Object, after}
use Rattle.sg_facts.specs.Track.{is_live, new_row, rows_after}
use Rattle.sg_recovery_laws.specs.Midway.Progress.{Told, complete, fresh}
use Rattle.sg_recovery_laws.specs.sg_hist.Inside.Reads.{desc_of}
use Rattle.sg_recovery_laws.proofs.Objects.Apart.{makes_row}
use Rattle.sg_recovery_laws.proofs.Objects.Guarded.{ActsOnOne}
use Rattle.sg_recovery_laws.proofs.Objects.Steady.{fewer_after}
use Rattle.sg_facts.proofs.Replaying.Found.{other_test, same_test}
use Rattle.sg_world_laws.specs.Keeping.{Stub}

turned : (m n : ℕ) → (m == n) ≡ (n == m)
turned m n = elim (eqb_tells m n) [
  | inl same ↦ same.0 ∙ sym (same_test n m (sym same.1))
  | inr apart ↦ apart.0 ∙ sym (other_test n m (λ is. apart.1 (sym is)))
]

-- the service ids of a reply, one by one
names_made : (facts : Facts) (names : List (ℕ × ℕ)) (call : Call) (r p : Reply) → SameReply names (fun_at facts.funs call.fun).creation (Some r) (Some p) → (id : ℕ)
    → cond (makes_id facts call r id) (desc_of p) (named names id) ≡ named (names_by facts names call r p) id
names_made facts names call (Refused code) p same id = refl
names_made facts names call (Ok g) (Refused code) same id = absurd (apart_ok names (fun_at facts.funs call.fun).creation g code same)
names_made facts names call (Ok g) (Ok h) same id = at (fun_at facts.funs call.fun).creation
  where
    at : (c : Bool) → cond (c && (id == g.desc)) h.desc (named names id) ≡ named (cond c ((g.desc, h.desc) ∷ names) names) id
    at false = refl
    at true = ap (λ t. cond t h.desc (named names id)) (turned id g.desc)

told_made : (facts : Facts) (told : ℕ → Told) (call : Call) (r : Reply) (id : ℕ) → cond (makes_id facts call r id) complete (told id) ≡ told_by facts call r told id
told_made facts told call (Refused code) id = refl
told_made facts told call (Ok g) id = refl

module _ (facts : Facts) (o : Object) (call : Call) (reply other : Reply) (stub later : Stub) (tells : TellsAfter facts o call reply other stub later) (same : SameReply stub.names (fun_at facts.funs call.fun).creation (Some reply) (Some other)) where
  not_ended : (id : ℕ) → is_live (after facts o call reply).rows id ≡ true → has_ended o.rows (after facts o call reply).rows id ≡ false
  not_ended id live = ap (λ t. is_live o.rows id && not t) live ∙ at (is_live o.rows id)
    where
      at : (t : Bool) → (t && false) ≡ false
      at true = refl
      at false = refl

  named_left : (id : ℕ) → has_ended o.rows (after facts o call reply).rows id ≡ false → named later.names id ≡ cond (makes_id facts call reply id) (desc_of other) (named stub.names id)
  named_left id is = tells.names id ∙ ap (λ t. cond t 0 (cond (makes_id facts call reply id) (desc_of other) (named stub.names id))) is

  -- of what is live after it
  pub named_live_on : (id : ℕ) → is_live (after facts o call reply).rows id ≡ true → named later.names id ≡ named (names_by facts stub.names call reply other) id
  named_live_on id live = named_left id (not_ended id live) ∙ names_made facts stub.names call reply other same id

  pub told_live_on : (id : ℕ) → is_live (after facts o call reply).rows id ≡ true → later.told id ≡ told_by facts call reply stub.told id
  told_live_on id live = tells.told id ∙ ap (λ t. cond t fresh (cond (makes_id facts call reply id) complete (stub.told id))) (not_ended id live) ∙ told_made facts stub.told call reply id

  -- of all ids
  pub named_or_gone : (id : ℕ) → (named later.names id ≡ named (names_by facts stub.names call reply other) id) ⊎ (named later.names id ≡ 0)
  named_or_gone id = at (has_ended o.rows (after facts o call reply).rows id) refl
    where
      at : (t : Bool) → has_ended o.rows (after facts o call reply).rows id ≡ t → (named later.names id ≡ named (names_by facts stub.names call reply other) id) ⊎ (named later.names id ≡ 0)
      at true is = inr (tells.names id ∙ ap (λ t. cond t 0 (cond (makes_id facts call reply id) (desc_of other) (named stub.names id))) is)
      at false is = inl (named_left id is ∙ names_made facts stub.names call reply other same id)

  -- what is made is live
  made_live : ActsOnOne facts (fun_at facts.funs call.fun) → (r : Reply) (id : ℕ) → makes_id facts call r id ≡ true → is_live (after facts o call r).rows id ≡ true
  made_live acts (Refused code) id is = absurd (cc is)
  made_live acts (Ok g) id is = at (fun_at facts.funs call.fun).creation refl is
    where
      or_true : (a : Bool) → (a || (true || false)) ≡ true
      or_true true = refl
      or_true false = refl

      at : (c : Bool) → (fun_at facts.funs call.fun).creation ≡ c → (c && (id == g.desc)) ≡ true → is_live (rows_after facts o.rows call g) id ≡ true
      at false makes is = absurd (cc is)
      at true makes is =
          ap (λ rs. is_live rs id) (makes_row facts call g o.rows (acts.makes makes).0 makes) ∙ list_any-append (λ r. r.id == id) o.rows (new_row facts call g ∷ [])
          ∙ ap (λ t. is_live o.rows id || (t || false)) (turned g.desc id ∙ is) ∙ or_true (is_live o.rows id)

  -- an id has a name only where it is live
  pub named_is_live : ActsOnOne facts (fun_at facts.funs call.fun) → ((id : ℕ) → (named stub.names id ≡ 0) ⊎ (is_live o.rows id ≡ true)) → (id : ℕ)
      → (named later.names id ≡ 0) ⊎ (is_live (after facts o call reply).rows id ≡ true)
  named_is_live acts live id = at (has_ended o.rows (after facts o call reply).rows id) refl
    where
      still : is_live o.rows id ≡ true → (is_live o.rows id && not (is_live (after facts o call reply).rows id)) ≡ false → (t : Bool) → is_live (after facts o call reply).rows id ≡ t → t ≡ true
      still was is true now = refl
      still was is false now = absurd (let gone : (true && not false) ≡ false = sym (ap (λ a. a && not false) was ∙ refl) ∙ ap (λ t. is_live o.rows id && not t) (sym now) ∙ is in cc gone)

      made : (m : Bool) → makes_id facts call reply id ≡ m → has_ended o.rows (after facts o call reply).rows id ≡ false → (named later.names id ≡ 0) ⊎ (is_live (after facts o call reply).rows id ≡ true)
      made true makes is = inr (made_live acts reply id makes)
      made false makes is = elim (live id) [
        | inl none ↦ inl (named_left id is ∙ ap (λ t. cond t (desc_of other) (named stub.names id)) makes ∙ none)
        | inr was ↦ inr (still was is (is_live (after facts o call reply).rows id) refl)
      ]

      at : (t : Bool) → has_ended o.rows (after facts o call reply).rows id ≡ t → (named later.names id ≡ 0) ⊎ (is_live (after facts o call reply).rows id ≡ true)
      at true is = inl (tells.names id ∙ ap (λ t. cond t 0 (cond (makes_id facts call reply id) (desc_of other) (named stub.names id))) is)
      at false is = made (makes_id facts call reply id) refl is

  -- what is live after it was live before, or was made by it
  was_live : ActsOnOne facts (fun_at facts.funs call.fun) → (r : Reply) (id : ℕ) → is_live (after facts o call r).rows id ≡ true → makes_id facts call r id ≡ false → is_live o.rows id ≡ true
  was_live acts (Refused code) id live made = live
  was_live acts (Ok g) id live made = at (fun_at facts.funs call.fun).creation refl made
    where
      either : (a b : Bool) → (a || (b || false)) ≡ true → b ≡ false → a ≡ true
      either true b is none = refl
      either false true is none = absurd (cc none)
      either false false is none = absurd (cc is)

      at : (c : Bool) → (fun_at facts.funs call.fun).creation ≡ c → (c && (id == g.desc)) ≡ false → is_live o.rows id ≡ true
      at false makes made = let found = row_of_live (rows_after facts o.rows call g) id live in fewer_after facts o.rows call g makes id found.0 found.1
      at true makes made =
          either (is_live o.rows id) (g.desc == id)
          (sym (ap (λ rs. is_live rs id) (makes_row facts call g o.rows (acts.makes makes).0 makes) ∙ list_any-append (λ r. r.id == id) o.rows (new_row facts call g ∷ [])) ∙ live)
          (turned g.desc id ∙ made)

  -- where all that was live is told whole, all that is live after it is
  pub told_whole : ActsOnOne facts (fun_at facts.funs call.fun) → ((id : ℕ) → is_live o.rows id ≡ true → stub.told id ≡ complete) → (id : ℕ) → is_live (after facts o call reply).rows id ≡ true → later.told id ≡ complete
  told_whole acts whole id live =
      tells.told id ∙ ap (λ t. cond t fresh (cond (makes_id facts call reply id) complete (stub.told id))) (not_ended id live) ∙ at (makes_id facts call reply id) refl
    where
      at : (m : Bool) → makes_id facts call reply id ≡ m → cond m complete (stub.told id) ≡ complete
      at true made = refl
      at false made = whole id (was_live acts reply id live made)
