-- The memory mapping service answers alike under other ids.
use Rattle.std.proofs.Common.{◌≡◌, ℕ, zero, suc, ◌+◌, Bool, true, false, cond, List, [], None, Some, refl, sym, ◌∙◌, ap, subst, inl, inr}
use Rattle.std.specs.Prelude.{find}
use Rattle.std.specs.declared.option.Option.{Option}
use Rattle.std.specs.List.{list_any}
use Rattle.std.specs.Option.{is_some, option_map}
use Rattle.std.proofs.lemmas.Bool.Decides.{eqb_tells}
use Rattle.sg_facts.specs.sg_base.declared.value.Value.{Value}
use Rattle.sg_facts.specs.sg_base.declared.call.Call.{Call}
use Rattle.sg_facts.specs.sg_base.declared.reply.Code.TheVariants.{Occupied}
use Rattle.sg_facts.specs.sg_base.declared.reply.Reply.TheVariants.{Ok, Refused}
use Rattle.sg_facts.specs.declared.row.Row.{Row}
use Rattle.sg_facts.specs.Facts.{fun_at}
use Rattle.sg_facts.specs.Track.{row_at}
use Rattle.sg_facts.specs.Object.{Object}
use Rattle.sg_facts.specs.Sound.{IsRow}
use Rattle.sg_facts.specs.Alike.{named, IsAlike, SameReply, Serves}
use Rattle.sg_facts.specs.Laws.{AnswersAlike}
use Rattle.sg_facts.proofs.Replaying.Served.{row_held, row_live}
use Rattle.sg_mm.specs.MmFacts.{mm_facts}
use Rattle.sg_mm.specs.Inside.MmPlaces.{first_at, first_passes, none_passes_it, page_is_first, place_of_test, some_first, two_apart}
use Rattle.sg_mm.specs.MmSound.{IsMmSound}
use Rattle.sg_mm.specs.MmTable.{is_at, mm_table, number_at, mm_answer}
use Rattle.sg_mm.specs.Inside.MmAnswer.{find_answer, page_at}

-- a new page, or a refusal, under either service's next id
same_page : (names : List (ℕ × ℕ)) (given given' : ℕ) (b c : Bool) → c ≡ b
    → SameReply names true (cond b (Some (Refused Occupied)) (Some (Ok (record { desc = given + 1; words = []; bytes = [] })))) (cond c (Some (Refused Occupied)) (Some (Ok (record { desc = given' + 1; words = []; bytes = [] }))))
same_page names given given' true true is = refl
same_page names given given' false false is = (refl, refl)
same_page names given given' true false is = absurd (cc is)
same_page names given given' false true is = absurd (cc is)

-- an alike page is in the same place
same_test : (names : List (ℕ × ℕ)) (space addr : ℕ) (r v : Row) → IsAlike names r v → is_at space addr v ≡ is_at space addr r
same_test names space addr r v alike = ap (λ fields. is_at space addr (record r { fields = fields })) alike.fields

-- a page that is found is among all
among : (test : Row → Bool) (rows : List Row) (id : ℕ) (r : Row) → row_at rows id ≡ Some r → find test rows ≡ None → test r ≡ false
among test rows id r there none = none_passes_it test rows id r there (some_first test rows ∙ ap is_some none)

module _ (names : List (ℕ × ℕ)) (o held : Object) (call : Call) (sound : IsMmSound o) (serves : Serves mm_facts names o held call) (all : (fun_at mm_facts.funs call.fun).all ≡ true) (space addr : ℕ) where
  -- the first pages in a place are alike
  abbrev SameFirst : Option Row → Option Row → Type 0
  SameFirst None None = Unit {0}
  SameFirst (Some r) (Some v) = named names r.id ≡ v.id
  SameFirst None (Some v) = ⊥
  SameFirst (Some r) None = ⊥

  same_first : SameFirst (first_at o.rows space addr) (first_at held.rows space addr)
  same_first = at (first_at o.rows space addr) (first_at held.rows space addr) refl refl
    where
      mine : (r : Row) → first_at o.rows space addr ≡ Some r → (row_at o.rows r.id ≡ Some r) × (is_at space addr r ≡ true)
      mine r is = let f = first_passes (IsRow mm_facts o.rows) (is_at space addr) 0 o.given o.rows r sound.general.rows is in (f.1, f.2)

      its : (v : Row) → first_at held.rows space addr ≡ Some v → (row_at held.rows v.id ≡ Some v) × (is_at space addr v ≡ true)
      its v is = let f = first_passes (IsRow mm_facts held.rows) (is_at space addr) 0 held.given held.rows v serves.held_sound.rows is in (f.1, f.2)

      -- two rows of the object in this place have one id
      one_id : (r q : Row) → row_at o.rows r.id ≡ Some r → row_at o.rows q.id ≡ Some q → is_at space addr r ≡ true → is_at space addr q ≡ true → q.id ≡ r.id
      one_id r q live live' is is' = elim (eqb_tells q.id r.id) [
        | inl same ↦ same.1
        | inr apart ↦
            let p = place_of_test space addr r is in
            let p' = place_of_test space addr q is' in
            absurd (two_apart o.rows q r sound.apart live' live apart.1 (p'.0 ∙ sym p.0) (p'.1 ∙ sym p.1))
      ]

      at : (m n : Option Row) → first_at o.rows space addr ≡ m → first_at held.rows space addr ≡ n → SameFirst m n
      at None None is is' = tt
      at None (Some v) is is' =
          let found = its v is' in
          let r = row_live mm_facts names o held call serves all v found.0 in
          let none = among (is_at space addr) o.rows r.0.id r.0 r.1.live is in
          let some = sym (same_test names space addr r.0 v r.1.alike) ∙ found.1 in
          cc (none, some)
      at (Some r) None is is' =
          let found = mine r is in
          let v = row_held mm_facts names o held call serves all r found.0 in
          let none = among (is_at space addr) held.rows v.0.id v.0 v.1.held_there is' in
          let some = same_test names space addr r v.0 v.1.alike ∙ found.1 in
          cc (none, some)
      at (Some r) (Some v) is is' =
          let found = mine r is in
          let found' = its v is' in
          let q = row_live mm_facts names o held call serves all v found'.0 in
          let same = one_id r q.0 found.0 q.1.live found.1 (sym (same_test names space addr q.0 v q.1.alike) ∙ found'.1) in
          ap (named names) (sym same) ∙ q.1.alike.id

  -- an address of a space is taken in one service where it is taken in the other
  same_taken : list_any (is_at space addr) held.rows ≡ list_any (is_at space addr) o.rows
  same_taken =
      some_first (is_at space addr) held.rows ∙ at (first_at o.rows space addr) (first_at held.rows space addr) same_first ∙ sym (some_first (is_at space addr) o.rows)
    where
      at : (m n : Option Row) → SameFirst m n → is_some n ≡ is_some m
      at None None same = refl
      at (Some r) (Some v) same = refl
      at None (Some v) same = absurd same
      at (Some r) None same = absurd same

  -- the page that is found at an address of a space in one service is that of the other
  same_found : SameReply names false (find_answer (page_at o.rows space addr)) (find_answer (page_at held.rows space addr))
  same_found =
      let mine = page_is_first (IsRow mm_facts o.rows) 0 o.given o.rows space addr sound.general.rows in
      let its = page_is_first (IsRow mm_facts held.rows) 0 held.given held.rows space addr serves.held_sound.rows in
      subst (λ m. SameReply names false (find_answer m) (find_answer (page_at held.rows space addr))) (sym mine)
      (subst (λ n. SameReply names false (find_answer (option_map (λ r. r.id) (first_at o.rows space addr))) (find_answer n)) (sym its) (at (first_at o.rows space addr) (first_at held.rows space addr) same_first))
    where
      at : (m n : Option Row) → SameFirst m n → SameReply names false (find_answer (option_map (λ r. r.id) m)) (find_answer (option_map (λ r. r.id) n))
      at None None same = refl
      at (Some r) (Some v) same = (refl, refl, sym same)
      at None (Some v) same = absurd same
      at (Some r) None same = absurd same

module _ (names : List (ℕ × ℕ)) (o held : Object) (client seq desc : ℕ) (args : List Value) (sound : IsMmSound o) where
  abbrev call_of : ℕ → Call
  call_of fun = record { client = client; seq = seq; fun = fun; desc = desc; args = args }

  alike_at : (fun : ℕ) → Serves mm_facts names o held (call_of fun)
      → SameReply names (fun_at mm_facts.funs fun).creation (mm_answer fun o (call_of fun)) (mm_answer fun held (record (call_of fun) { desc = named names desc }))
  alike_at zero serves = refl
  alike_at (suc zero) serves = same_page names o.given held.given _ _ (same_taken names o held (call_of 1) sound serves refl client (number_at (call_of 1) 0))
  alike_at (suc (suc zero)) serves = same_page names o.given held.given _ _ (same_taken names o held (call_of 2) sound serves refl (number_at (call_of 2) 0) (number_at (call_of 2) 1))
  alike_at (suc (suc (suc zero))) serves = (refl, refl, sym serves.names_are.none)
  alike_at (suc (suc (suc (suc zero)))) serves = same_found names o held (call_of 4) sound serves refl (number_at (call_of 4) 0) (number_at (call_of 4) 1)
  alike_at (suc (suc (suc (suc (suc n))))) serves = refl

-- the memory mapping service gives a call the same answer, but for ids, from whatever it holds that serves the call
pub mm_answers_alike : AnswersAlike mm_facts mm_table IsMmSound
mm_answers_alike = record {
  alike = λ names o held call sound passes serves. alike_at names o held call.client call.seq call.desc call.args sound call.fun serves;
}
