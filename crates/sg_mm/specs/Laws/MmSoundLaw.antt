-- The memory mapping service answers, and what it holds stays sound.
use Rattle.std.proofs.Common.{◌≡◌, ℕ, zero, suc, ◌+◌, Bool, true, false, cond, not, List, [], ◌∷◌, ◌++◌, None, Some, refl, sym, ◌∙◌, ap, subst, arith}
use Rattle.std.specs.Prelude.{◌==◌, ◌&&◌, ◌||◌, nat_le, nat_lt, length}
use Rattle.std.specs.declared.option.Option.{Option}
use Rattle.std.specs.List.{list_any}
use Rattle.std.proofs.lemmas.Bool.Decides.{nat_tests}
use Rattle.sg_facts.specs.sg_base.declared.value.Value.{Value}
use Rattle.sg_facts.specs.sg_base.declared.value.Value.TheVariants.{Word, Text}
use Rattle.sg_facts.specs.sg_base.declared.call.Call.{Call}
use Rattle.sg_facts.specs.sg_base.declared.reply.Code.TheVariants.{Full, NoDesc, NoParent, Occupied}
use Rattle.sg_facts.specs.sg_base.declared.reply.Good.{Good}
use Rattle.sg_facts.specs.sg_base.declared.reply.Reply.TheVariants.{Ok, Refused}
use Rattle.sg_facts.specs.declared.row.Row.{Row}
use Rattle.sg_facts.specs.Facts.{fun_at}
use Rattle.sg_facts.specs.Inside.Guards.{is_there}
use Rattle.sg_facts.specs.Kinds.{AreWords, kinds_fit}
use Rattle.sg_facts.specs.Limits.{most_live}
use Rattle.sg_facts.specs.Track.{arg_at, ends_with, is_live, new_row, row_at}
use Rattle.sg_facts.specs.Object.{Object, after}
use Rattle.sg_facts.specs.Sound.{AreFields, IsRow}
use Rattle.sg_facts.specs.Laws.{AnswersAndKeeps, Passes}
use Rattle.sg_facts.proofs.RowLists.{id_of_row, is_live-more, left, live_of_row}
use Rattle.sg_slots.proofs.RowLaws.{sound_more}
use Rattle.sg_slots.proofs.SoundRows.{none_applies}
use Rattle.sg_facts.proofs.Replaying.Found.{above, within}
use Rattle.sg_facts.proofs.Replaying.Subtrees.{sound_without}
use Rattle.sg_mm.specs.MmFacts.{mm_facts}
use Rattle.sg_mm.specs.Inside.MmPlaces.{own_left, own_more}
use Rattle.sg_mm.specs.MmSound.{IsMmSound, IsOfClient}
use Rattle.sg_mm.specs.MmTable.{is_at, mm_table, number_at, page_answer, mm_answer}

-- an Ok of a new page: its place was free, and its id is the next one
new_page : (rows : List Row) (given space addr : ℕ) (good : Good) → page_answer rows given space addr ≡ Some (Ok good)
    → (list_any (is_at space addr) rows ≡ false) × (record { desc = given + 1; words = []; bytes = [] } ≡ good)
new_page rows given space addr good is = at (list_any (is_at space addr) rows) refl is
  where
    at : (b : Bool) → list_any (is_at space addr) rows ≡ b → cond b (Some (Refused Occupied)) (Some (Ok (record { desc = given + 1; words = []; bytes = [] }))) ≡ Some (Ok good)
        → (list_any (is_at space addr) rows ≡ false) × (record { desc = given + 1; words = []; bytes = [] } ≡ good)
    at true taken is = absurd (cc is)
    at false free is = (free, cc is)

-- the arguments are numbers
one_word : (args : List Value) (v : Value) → kinds_fit (fun_at mm_facts.funs 1).kinds args ≡ true → AreWords args → v ≡ Word 0 → (call : Call) → call.args ≡ args
    → AreFields mm_facts.fields (Word 0 ∷ arg_at call 0 ∷ [])
one_word [] v fit are none call is = absurd (cc fit)
one_word (Text bytes ∷ args) v fit are none call is = absurd (cc fit)
one_word (Word n ∷ args) v fit are none call is = subst (λ values. AreFields mm_facts.fields (Word 0 ∷ arg_at (record call { args = values }) 0 ∷ [])) (sym is) ((refl, omega arith), ((refl, are.0), tt))

two_words : (args : List Value) → kinds_fit (fun_at mm_facts.funs 2).kinds args ≡ true → AreWords args → (call : Call) → call.args ≡ args
    → AreFields mm_facts.fields (arg_at call 0 ∷ arg_at call 1 ∷ [])
two_words [] fit are call is = absurd (cc fit)
two_words (Text bytes ∷ args) fit are call is = absurd (cc fit)
two_words (Word m ∷ []) fit are call is = absurd (cc fit)
two_words (Word m ∷ Text bytes ∷ args) fit are call is = absurd (cc fit)
two_words (Word m ∷ Word n ∷ args) fit are call is = subst (λ values. AreFields mm_facts.fields (arg_at (record call { args = values }) 0 ∷ arg_at (record call { args = values }) 1 ∷ [])) (sym is) ((refl, are.0), ((refl, are.1.0), tt))

-- a row that is needed is there
there : (found : Option Row) → not (is_there found) ≡ false → (r : Row) × (found ≡ Some r)
there None is = absurd (cc is)
there (Some r) is = (r, refl)

module _ (o : Object) (client seq desc : ℕ) (args : List Value) where
  abbrev call_of : ℕ → Call
  call_of fun = record { client = client; seq = seq; fun = fun; desc = desc; args = args }

  abbrev next_page : Good
  next_page = record { desc = o.given + 1; words = []; bytes = [] }

  -- a page of the caller's space
  gets : IsMmSound o → Passes mm_facts o (call_of 1) → list_any (is_at client (number_at (call_of 1) 0)) o.rows ≡ false → IsMmSound (after mm_facts o (call_of 1) (Ok next_page))
  gets sound passes free =
      let new = new_row mm_facts (call_of 1) next_page in
      let fields = one_word args (Word 0) passes.is_call.fits.args passes.words refl (call_of 1) refl in
      let row : IsRow mm_facts (o.rows ++ new ∷ []) new = record {
        creator_first = passes.within.client_first;
        creator_last = passes.within.client_last;
        parent = refl;
        its_parent = refl;
        fields = ((refl, omega (arith, passes.within.client_last)), fields.1);
      } in
      let client_is : (nat_le 1 client && nat_le client 64) ≡ true = grind (arith, nat_tests, passes.within.client_first, passes.within.client_last) in
      let kept = sound_more mm_facts IsOfClient o new (sound.general, sound.of_clients) refl row client_is in
      record { general = kept.0; of_clients = kept.1; apart = own_more o.rows new free sound.apart }

  -- the page that another is made from is there
  parent_of : Passes mm_facts o (call_of 2) → (r : Row) × (row_at o.rows desc ≡ Some r)
  parent_of passes = there (row_at o.rows desc) (none_applies (not (is_there (row_at o.rows desc))) (nat_le most_live (length o.rows)) false NoParent Full NoDesc passes.guarded).0

  -- a page below another
  aliases : IsMmSound o → Passes mm_facts o (call_of 2) → list_any (is_at (number_at (call_of 2) 0) (number_at (call_of 2) 1)) o.rows ≡ false → IsMmSound (after mm_facts o (call_of 2) (Ok next_page))
  aliases sound passes free =
      let new = new_row mm_facts (call_of 2) next_page in
      let found = parent_of passes in
      let id = id_of_row o.rows desc found.0 found.1 in
      let low = above (IsRow mm_facts o.rows) 0 o.given desc o.rows found.0 sound.general.rows found.1 in
      let high = within (IsRow mm_facts o.rows) 0 o.given desc o.rows found.0 sound.general.rows found.1 in
      let some : (desc == 0) ≡ false = grind (arith, nat_tests, id, low) in
      let lower : nat_lt desc (o.given + 1) ≡ true = grind (arith, nat_tests, id, high) in
      let live = is_live-more o.rows new desc (live_of_row o.rows desc found.0 found.1) in
      let row : IsRow mm_facts (o.rows ++ new ∷ []) new = record {
        creator_first = passes.within.client_first;
        creator_last = passes.within.client_last;
        parent = ap (λ b. b || (nat_lt desc (o.given + 1) && is_live (o.rows ++ new ∷ []) desc)) some ∙ ap (λ b. b && is_live (o.rows ++ new ∷ []) desc) lower ∙ live;
        its_parent = ap not some;
        fields = two_words args passes.is_call.fits.args passes.words (call_of 2) refl;
      } in
      let kept = sound_more mm_facts IsOfClient o new (sound.general, sound.of_clients) refl row refl in
      record { general = kept.0; of_clients = kept.1; apart = own_more o.rows new free sound.apart }

  keeps_at : (fun : ℕ) (good : Good) → IsMmSound o → Passes mm_facts o (call_of fun) → mm_answer fun o (call_of fun) ≡ Some (Ok good) → IsMmSound (after mm_facts o (call_of fun) (Ok good))
  keeps_at zero good sound passes is = absurd (cc is)
  keeps_at (suc zero) good sound passes is =
      let page = new_page o.rows o.given client (number_at (call_of 1) 0) good is in
      subst (λ g. IsMmSound (after mm_facts o (call_of 1) (Ok g))) page.1 (gets sound passes page.0)
  keeps_at (suc (suc zero)) good sound passes is =
      let page = new_page o.rows o.given (number_at (call_of 2) 0) (number_at (call_of 2) 1) good is in
      subst (λ g. IsMmSound (after mm_facts o (call_of 2) (Ok g))) page.1 (aliases sound passes page.0)
  keeps_at (suc (suc (suc zero))) good sound passes is = record {
    general = sound_without mm_facts o desc refl sound.general;
    of_clients = left IsOfClient (λ r. not (ends_with mm_facts o.rows desc r.id)) 0 o.given o.rows sound.of_clients;
    apart = own_left (λ r. not (ends_with mm_facts o.rows desc r.id)) o.rows sound.apart;
  }
  keeps_at (suc (suc (suc (suc zero)))) good sound passes is = sound
  keeps_at (suc (suc (suc (suc (suc n))))) good sound passes is = absurd (cc is)

-- a page that is made has the next id
next_at : (fun : ℕ) (o : Object) (call : Call) (good : Good) → mm_answer fun o call ≡ Some (Ok good) → (fun_at mm_facts.funs fun).creation ≡ true → good.desc ≡ o.given + 1
next_at zero o call good is makes = absurd (cc makes)
next_at (suc zero) o call good is makes = let page = new_page o.rows o.given call.client (number_at call 0) good is in sym (ap (λ g. g.desc) page.1)
next_at (suc (suc zero)) o call good is makes = let page = new_page o.rows o.given (number_at call 0) (number_at call 1) good is in sym (ap (λ g. g.desc) page.1)
next_at (suc (suc (suc zero))) o call good is makes = absurd (cc makes)
next_at (suc (suc (suc (suc zero)))) o call good is makes = absurd (cc makes)
next_at (suc (suc (suc (suc (suc n))))) o call good is makes = absurd (cc makes)

-- the empty object of the memory mapping service is sound, an Ok keeps an object sound, and a new page has the next id
pub mm_answers_and_keeps : AnswersAndKeeps mm_facts mm_table IsMmSound
mm_answers_and_keeps = record {
  empty = record { general = record { rows = tt; files = tt }; of_clients = tt; apart = tt };
  general = λ o sound. sound.general;
  keeps = λ o call good sound passes is. keeps_at o call.client call.seq call.desc call.args call.fun good sound passes is;
  next = λ o call good is makes. next_at call.fun o call good is makes;
}
