-- What is read after a record more: the records that were there, and the one more.
use Rattle.std.proofs.Common.{◌≡◌, ℕ, zero, suc, ◌+◌, ◌<◌, ◌≤◌, ◌==◌, Bool, true, false, cond, List, [], ◌∷◌, ◌++◌, Some, length, take, drop, refl, sym, ◌∙◌, ap, subst, arith, append_assoc, length-append, length-drop}
use Rattle.std.proofs.Math.Nat.{mod-eq_of_lt}
use Rattle.std.proofs.lemmas.Bool.Decides.{nat_tests}
use Rattle.std.proofs.lemmas.List.{append-nil, drop-append-le, drop_at, map-append, take-append-le, take_at}
use Rattle.std.specs.Prelude.{slice_get, slice_index}
use Rattle.std.specs.declared.option.Option.{Option}
use Rattle.sg_base.specs.declared.brief.Brief.{Brief}
use Rattle.sg_base.specs.declared.brief.Gave.{Gave}
use Rattle.sg_base.specs.declared.brief.Gave.TheVariants.{Good, Refused, Blocks, Stopped, NoMemory}
use Rattle.sg_base.specs.declared.brief.Why.{Why}
use Rattle.sg_base.specs.declared.brief.Why.TheVariants.{Own, Walk}
use Rattle.sg_base.specs.declared.head.Form.{Form}
use Rattle.sg_base.specs.declared.head.Form.TheVariants.{Whole as IsWhole, Own as IsOwn, Walk as IsWalk}
use Rattle.sg_base.specs.declared.head.GaveForm.TheVariants.{Good as IsGood, Named as IsNamed}
use Rattle.sg_base.specs.declared.head.Head.{Head}
use Rattle.sg_base.specs.Inside.Heads.{AreThere, IsThere, TurnFits, args_in, brief_with, desc_words, extra_count, extra_in, extra_of, form_of, gave_form_of, gave_in, head_of, part, record_at, record_of, records_of, walk_count, walk_words, whole_or, why_in, words_in}
use Rattle.sg_base.specs.Records.{Record, InBrief, Whole}

-- ---- lists that grow

-- what is read within a list is the same after it grew
part_more : (xs more : List ℕ) (from count : ℕ) → from + count ≤ length xs → part (xs ++ more) from count ≡ part xs from count
part_more xs more from count fits =
    let room : count ≤ length (drop from xs) = omega (arith, length-drop from xs) in
    ap (take count) (drop-append-le from xs more (omega arith)) ∙ take-append-le count (drop from xs) more room

-- what stands in the middle
part_at : (p a q : List ℕ) (from count : ℕ) → length p ≡ from → length a ≡ count → part (p ++ a ++ q) from count ≡ a
part_at p a q from count before many =
    ap (λ l. take count (drop from l)) (append_assoc p a q) ∙ ap (take count) (drop_at p (a ++ q) from before) ∙ take_at a q count many

get_more : {W : Type 0} → (whole more : List W) (p : ℕ) → p < length whole → slice_get (whole ++ more) p ≡ slice_get whole p
get_more [] more p less = absurd (omega arith)
get_more (w ∷ whole) more zero less = refl
get_more (w ∷ whole) more (suc p) less = get_more whole more p (omega arith)

is_found : {W : Type 0} → (whole : List W) (p : ℕ) → p < length whole → (w : W) × (slice_get whole p ≡ Some w)
is_found [] p less = absurd (omega arith)
is_found (w ∷ whole) zero less = (w, refl)
is_found (w ∷ whole) (suc p) less = is_found whole p (omega arith)

get_last : {W : Type 0} → (whole : List W) (w : W) → slice_get (whole ++ w ∷ []) (length whole) ≡ Some w
get_last [] w = refl
get_last (v ∷ whole) w = get_last whole w

-- a record in brief
abbrev in_words : (W : Type 0) → Brief → List ℕ → List ℕ → Record W
in_words W brief args own = InBrief brief args own

-- what is read in brief, by its parts
read_back : {W : Type 0} → (h : Head) (brief : Brief) (extra extra' args args' own own' : List ℕ) → extra ≡ extra' → brief_with h extra' ≡ brief → args ≡ args' → own ≡ own'
    → in_words W (brief_with h extra) args own ≡ in_words W brief args' own'
read_back {W} h brief extra extra' args args' own own' e b a o =
    ap (λ x. in_words W (brief_with h x) args own) e ∙ ap (λ x. in_words W x args own) b ∙ ap (λ x. in_words W brief x own) a ∙ ap (λ x. in_words W brief args' x) o

-- ---- the records that were there

module _ {W : Type 0} (words words' : List ℕ) (whole whole' : List W)
    (same : (from count : ℕ) → from + count ≤ length words → part words' from count ≡ part words from count)
    (found : (p : ℕ) → p < length whole → slice_get whole' p ≡ slice_get whole p) where
  in_brief : (h : Head) → h.place + h.args + h.words + extra_count h.form h.gave ≤ length words
      → in_words W (brief_with h (extra_in words' h)) (args_in words' h) (words_in words' h) ≡ in_words W (brief_with h (extra_in words h)) (args_in words h) (words_in words h)
  in_brief h fits =
      let args : args_in words' h ≡ args_in words h = same h.place h.args (omega arith) in
      let own : words_in words' h ≡ words_in words h = same (h.place + h.args) h.words (omega arith) in
      let extra : extra_in words' h ≡ extra_in words h = same (h.place + h.args + h.words) (extra_count h.form h.gave) fits in
      read_back {W = W} h (brief_with h (extra_in words h)) (extra_in words' h) (extra_in words h) (args_in words' h) (args_in words h) (words_in words' h) (words_in words h) extra refl args own

  same_record : (h : Head) → IsThere (length words) (length whole) h h.form → record_at words' whole' h ≡ record_at words whole h
  same_record h there = by h.form refl there
    where
      by : (form : Form) → h.form ≡ form → IsThere (length words) (length whole) h form
          → record_of form (slice_get whole' h.place) (InBrief (brief_with h (extra_in words' h)) (args_in words' h) (words_in words' h))
          ≡ record_of form (slice_get whole h.place) (InBrief (brief_with h (extra_in words h)) (args_in words h) (words_in words h))
      by IsWhole is less =
          let f = is_found whole h.place less in
          ap (λ o. whole_or o (InBrief (brief_with h (extra_in words' h)) (args_in words' h) (words_in words' h))) (found h.place less ∙ f.1)
          ∙ sym (ap (λ o. whole_or o (InBrief (brief_with h (extra_in words h)) (args_in words h) (words_in words h))) f.1)
      by IsOwn is fits = in_brief h (subst (λ f. h.place + h.args + h.words + extra_count f h.gave ≤ length words) (sym is) fits)
      by (IsWalk k) is fits = in_brief h (subst (λ f. h.place + h.args + h.words + extra_count f h.gave ≤ length words) (sym is) fits)

  same_records : (heads : List Head) → AreThere (length words) (length whole) heads → records_of words' whole' heads ≡ records_of words whole heads
  same_records [] there = refl
  same_records (h ∷ heads) there =
      ap (λ r. r ∷ records_of words' whole' heads) (same_record h there.0) ∙ ap (λ rs. record_at words whole h ∷ rs) (same_records heads there.1)

-- ---- what is there stays there

is_still_there : (words words' whole whole' : ℕ) → words ≤ words' → whole ≤ whole' → (h : Head) (form : Form) → IsThere words whole h form → IsThere words' whole' h form
is_still_there words words' whole whole' w o h IsWhole there = omega arith
is_still_there words words' whole whole' w o h IsOwn there = omega arith
is_still_there words words' whole whole' w o h (IsWalk k) there = omega arith

still_there : (words words' whole whole' : ℕ) → words ≤ words' → whole ≤ whole' → (heads : List Head) → AreThere words whole heads → AreThere words' whole' heads
still_there words words' whole whole' w o [] there = tt
still_there words words' whole whole' w o (h ∷ heads) there =
    (is_still_there words words' whole whole' w o h h.form there.0, still_there words words' whole whole' w o heads there.1)

there_push : (words whole : ℕ) (heads : List Head) (h : Head) → AreThere words whole heads → IsThere words whole h h.form → AreThere words whole (heads ++ h ∷ [])
there_push words whole [] h there own = (own, tt)
there_push words whole (g ∷ heads) h there own = (there.0, there_push words whole heads h there.1 own)

-- ---- a record more that is kept whole

module _ {W : Type 0} (words : List ℕ) (whole whole' : List W) (heads heads' : List Head) (h : Head) (w : W)
    (longer : whole' ≡ whole ++ w ∷ []) (grown : heads' ≡ heads ++ h ∷ []) (form : h.form ≡ IsWhole) (place : h.place ≡ length whole)
    (there : AreThere (length words) (length whole) heads) where
  pub whole_read : records_of words whole' heads' ≡ records_of words whole heads ++ Whole w ∷ []
  whole_read =
      let last : record_at words (whole ++ w ∷ []) h ≡ Whole w
      = ap (λ f. record_of f (slice_get (whole ++ w ∷ []) h.place) (InBrief (brief_with h (extra_in words h)) (args_in words h) (words_in words h))) form
      ∙ ap (λ p. whole_or (slice_get (whole ++ w ∷ []) p) (InBrief (brief_with h (extra_in words h)) (args_in words h) (words_in words h))) place
      ∙ ap (λ o. whole_or o (InBrief (brief_with h (extra_in words h)) (args_in words h) (words_in words h))) (get_last whole w) in
      let front : records_of words (whole ++ w ∷ []) heads ≡ records_of words whole heads
      = same_records words words whole (whole ++ w ∷ []) (λ from count fits. refl) (λ p less. get_more whole (w ∷ []) p less) heads there in
      ap (λ o. records_of words o heads') longer ∙ ap (records_of words (whole ++ w ∷ [])) grown
      ∙ map-append (record_at words (whole ++ w ∷ [])) heads (h ∷ [])
      ∙ ap (λ rs. rs ++ record_at words (whole ++ w ∷ []) h ∷ []) front ∙ ap (λ r. records_of words whole heads ++ r ∷ []) last

  pub whole_there : AreThere (length words) (length whole') heads'
  whole_there =
      let many : length (whole ++ w ∷ []) ≡ length whole + 1 = length-append whole (w ∷ []) in
      let own : IsThere (length words) (length (whole ++ w ∷ [])) h h.form
      = subst (λ f. IsThere (length words) (length (whole ++ w ∷ [])) h f) (sym form) (omega (arith, place, many)) in
      let all = still_there (length words) (length words) (length whole) (length (whole ++ w ∷ [])) (omega arith) (omega (arith, many)) heads there in
      subst (λ o. AreThere (length words) (length o) heads') (sym longer)
      (subst (AreThere (length words) (length (whole ++ w ∷ []))) (sym grown) (there_push (length words) (length (whole ++ w ∷ [])) heads h all own))

-- ---- a record more in brief

why_back : (why : Why) (descs : List ℕ) → TurnFits why → why_in (form_of why) (walk_words why ++ descs) ≡ why
why_back Own descs fits = refl
why_back (Walk id k turn) descs fits = ap (λ t. Walk id k t) (mod-eq_of_lt fits)

good_back : (desc : ℕ) (none : Bool) → (desc == 0) ≡ none → gave_in (cond none IsGood IsNamed) (slice_index (cond none [] (desc ∷ [])) 0) ≡ Good desc
good_back desc true is = let zeros : 0 ≡ desc = grind (arith, nat_tests) in ap Good zeros
good_back desc false is = refl

desc_back : (gave : Gave) → gave_in (gave_form_of gave) (slice_index (desc_words gave) 0) ≡ gave
desc_back (Good desc) = good_back desc (desc == 0) refl
desc_back (Refused code) = refl
desc_back Blocks = refl
desc_back Stopped = refl
desc_back NoMemory = refl

gave_back : (why : Why) (gave : Gave) → gave_in (gave_form_of gave) (slice_index (walk_words why ++ desc_words gave) (walk_count (form_of why))) ≡ gave
gave_back Own gave = desc_back gave
gave_back (Walk id k turn) gave = desc_back gave

good_many : (walk desc : ℕ) (none : Bool) (form : Form) → walk_count form ≡ walk → extra_count form (cond none IsGood IsNamed) ≡ walk + length (cond none [] (desc ∷ []))
good_many walk desc true form is = omega (arith, is)
good_many walk desc false form is = omega (arith, is)

walk_many : (why : Why) → walk_count (form_of why) ≡ length (walk_words why)
walk_many Own = refl
walk_many (Walk id k turn) = refl

descs_many : (form : Form) (gave : Gave) → extra_count form (gave_form_of gave) ≡ walk_count form + length (desc_words gave)
descs_many form (Good desc) = good_many (walk_count form) desc (desc == 0) form refl
descs_many form (Refused code) = omega arith
descs_many form Blocks = omega arith
descs_many form Stopped = omega arith
descs_many form NoMemory = omega arith

extra_many : (brief : Brief) → extra_count (form_of brief.why) (gave_form_of brief.gave) ≡ length (extra_of brief)
extra_many brief =
    let descs = descs_many (form_of brief.why) brief.gave in
    let walk = walk_many brief.why in
    let both : length (extra_of brief) ≡ length (walk_words brief.why) + length (desc_words brief.gave) = length-append (walk_words brief.why) (desc_words brief.gave) in
    descs ∙ ap (λ n. n + length (desc_words brief.gave)) walk ∙ sym both

walk_few : (why : Why) → length (walk_words why) ≤ 2
walk_few Own = omega arith
walk_few (Walk id k turn) = omega arith

good_few : (desc : ℕ) (none : Bool) → length (cond none [] (desc ∷ [])) ≤ 1
good_few desc true = omega arith
good_few desc false = omega arith

desc_few : (gave : Gave) → length (desc_words gave) ≤ 1
desc_few (Good desc) = good_few desc (desc == 0)
desc_few (Refused code) = omega arith
desc_few Blocks = omega arith
desc_few Stopped = omega arith
desc_few NoMemory = omega arith

-- at most three words are added after those of arguments and reply
pub extra_few : (brief : Brief) → length (extra_of brief) ≤ 3
extra_few brief =
    let both : length (extra_of brief) ≡ length (walk_words brief.why) + length (desc_words brief.gave) = length-append (walk_words brief.why) (desc_words brief.gave) in
    omega (arith, both, walk_few brief.why, desc_few brief.gave)

passes : {W : Type 0} → (why : Why) (found : Option W) (other : Record W) → record_of (form_of why) found other ≡ other
passes Own found other = refl
passes (Walk id k turn) found other = refl

is_in_brief : (why : Why) (words whole : ℕ) (h : Head) → h.place + h.args + h.words + extra_count (form_of why) h.gave ≤ words → IsThere words whole h (form_of why)
is_in_brief Own words whole h fits = fits
is_in_brief (Walk id k turn) words whole h fits = fits

back : (brief : Brief) (place args words : ℕ) → TurnFits brief.why → brief_with (head_of brief place args words) (extra_of brief) ≡ brief
back brief place args words turn =
    ap (λ why. record brief { why = why; gave = gave_in (gave_form_of brief.gave) (slice_index (extra_of brief) (walk_count (form_of brief.why))) }) (why_back brief.why (desc_words brief.gave) turn)
    ∙ ap (λ gave. record brief { gave = gave }) (gave_back brief.why brief.gave)

module _ {W : Type 0} (words words' : List ℕ) (whole : List W) (heads heads' : List Head) (h : Head) (brief : Brief) (args own : List ℕ)
    (longer : words' ≡ words ++ args ++ own ++ extra_of brief) (grown : heads' ≡ heads ++ h ∷ [])
    (head : h ≡ head_of brief (length words) (length args) (length own)) (turn : TurnFits brief.why)
    (there : AreThere (length words) (length whole) heads) where
  reads : record_at (words ++ args ++ own ++ extra_of brief) whole (head_of brief (length words) (length args) (length own)) ≡ InBrief brief args own
  reads =
      let all : List ℕ = words ++ args ++ own ++ extra_of brief in
      let mine : Head = head_of brief (length words) (length args) (length own) in
      let count : ℕ = extra_count (form_of brief.why) (gave_form_of brief.gave) in
      let front : length (words ++ args) ≡ length words + length args = length-append words args in
      let more : length (words ++ args ++ own) ≡ length words + length args + length own
      = length-append (words ++ args) own ∙ ap (λ n. n + length own) front in
      let args_read : part (words ++ args ++ own ++ extra_of brief) (length words) (length args) ≡ args
      = ap (λ xs. part xs (length words) (length args)) (append_assoc (words ++ args) own (extra_of brief)) ∙ part_at words args (own ++ extra_of brief) (length words) (length args) refl refl in
      let own_read : part (words ++ args ++ own ++ extra_of brief) (length words + length args) (length own) ≡ own
      = part_at (words ++ args) own (extra_of brief) (length words + length args) (length own) front refl in
      let extra_read : part (words ++ args ++ own ++ extra_of brief) (length words + length args + length own) (extra_count (form_of brief.why) (gave_form_of brief.gave)) ≡ extra_of brief
      = ap (λ xs. part xs (length words + length args + length own) (extra_count (form_of brief.why) (gave_form_of brief.gave))) (sym (append-nil (words ++ args ++ own ++ extra_of brief)))
      ∙ part_at (words ++ args ++ own) (extra_of brief) [] (length words + length args + length own) (extra_count (form_of brief.why) (gave_form_of brief.gave)) more (sym (extra_many brief)) in
      let other : Record W
      = in_words W (brief_with mine (part all (length words + length args + length own) count)) (part all (length words) (length args)) (part all (length words + length args) (length own)) in
      passes brief.why (slice_get whole (length words)) other
      ∙ read_back {W = W} mine brief (part all (length words + length args + length own) count) (extra_of brief) (part all (length words) (length args)) args
      (part all (length words + length args) (length own)) own extra_read (back brief (length words) (length args) (length own) turn) args_read own_read

  own_there : IsThere (length (words ++ args ++ own ++ extra_of brief)) (length whole) (head_of brief (length words) (length args) (length own)) (form_of brief.why)
  own_there =
      let one = length-append (words ++ args ++ own) (extra_of brief) in
      let two = length-append (words ++ args) own in
      let three = length-append words args in
      let extra = extra_many brief in
      is_in_brief brief.why (length (words ++ args ++ own ++ extra_of brief)) (length whole) (head_of brief (length words) (length args) (length own)) (omega (arith, one, two, three, extra))

  pub brief_read : records_of words' whole heads' ≡ records_of words whole heads ++ InBrief brief args own ∷ []
  brief_read =
      let same = same_records words (words ++ (args ++ own ++ extra_of brief)) whole whole (λ from count fits. part_more words (args ++ own ++ extra_of brief) from count fits) (λ p less. refl) heads there in
      let all : words ++ (args ++ own ++ extra_of brief) ≡ words ++ args ++ own ++ extra_of brief
      = sym (ap (λ l. l ++ extra_of brief) (append_assoc words args own) ∙ append_assoc words (args ++ own) (extra_of brief)) in
      let front : records_of (words ++ args ++ own ++ extra_of brief) whole heads ≡ records_of words whole heads
      = ap (λ l. records_of l whole heads) (sym all) ∙ same in
      let last : record_at (words ++ args ++ own ++ extra_of brief) whole h ≡ InBrief brief args own
      = ap (record_at (words ++ args ++ own ++ extra_of brief) whole) head ∙ reads in
      ap (λ l. records_of l whole heads') longer ∙ ap (records_of (words ++ args ++ own ++ extra_of brief) whole) grown
      ∙ map-append (record_at (words ++ args ++ own ++ extra_of brief) whole) heads (h ∷ [])
      ∙ ap (λ rs. rs ++ record_at (words ++ args ++ own ++ extra_of brief) whole h ∷ []) front ∙ ap (λ r. records_of words whole heads ++ r ∷ []) last

  pub brief_there : AreThere (length words') (length whole) heads'
  brief_there =
      let one = length-append (words ++ args ++ own) (extra_of brief) in
      let two = length-append (words ++ args) own in
      let three = length-append words args in
      let n : ℕ = length (words ++ args ++ own ++ extra_of brief) in
      let all = still_there (length words) n (length whole) (length whole) (omega (arith, one, two, three)) (omega arith) heads there in
      let mine : IsThere n (length whole) h h.form = subst (λ g. IsThere n (length whole) g g.form) (sym head) own_there in
      subst (λ l. AreThere (length l) (length whole) heads') (sym longer)
      (subst (AreThere n (length whole)) (sym grown) (there_push n (length whole) heads h all mine))
