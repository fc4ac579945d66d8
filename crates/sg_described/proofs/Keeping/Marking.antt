-- What is known at a spot is so, and what an effect of a replayed call leaves there.
use Rattle.std.proofs.Common.{◌≡◌, ℕ, zero, suc, ◌+◌, ◌<◌, ◌≤◌, Bool, true, false, cond, not, List, [], ◌∷◌, length, map, filter, None, Some, refl, sym, ◌∙◌, ap, subst, arith}
use Rattle.std.specs.Prelude.{◌-◌, ◌==◌, ◌&&◌, ◌||◌, nat_le, slice_get, unwrap_or, if◌then◌else◌}
use Rattle.std.specs.List.{enumerate_from, list_all, list_any}
use Rattle.std.specs.Cmp.Lexicographic.{pointwise}
use Rattle.std.specs.declared.option.Option.{Option}
use Rattle.std.proofs.lemmas.Bool.Decides.{nat_tests}
use Rattle.sg_facts.specs.sg_base.declared.value.Value.{Value}
use Rattle.sg_facts.specs.sg_base.declared.value.Value.TheVariants.{Word, Text}
use Rattle.sg_facts.specs.sg_base.declared.call.Call.{Call}
use Rattle.sg_facts.specs.sg_base.declared.reply.Good.{Good}
use Rattle.sg_facts.specs.declared.row.Row.{Row}
use Rattle.sg_facts.specs.declared.shape.Kind.{Kind}
use Rattle.sg_facts.specs.declared.shape.Kind.TheVariants.{Desc, Parent, Word as IsWord, Text as IsText}
use Rattle.sg_facts.specs.declared.shape.Effect.{Effect}
use Rattle.sg_facts.specs.declared.shape.Effect.TheVariants.{SetCaller, SetArg, AddArg, SetRet, AddRet, Clear, SubOne, SubRet}
use Rattle.sg_facts.specs.Allowed.{implies}
use Rattle.sg_facts.specs.Facts.{Field, fun_at, is_id}
use Rattle.sg_facts.specs.Held.{FieldHolds, FieldsHold}
use Rattle.sg_facts.specs.Inside.Rows.{cleared}
use Rattle.sg_facts.specs.Kinds.{kinds_fit}
use Rattle.sg_facts.specs.Limits.{last_client}
use Rattle.sg_facts.specs.Track.{arg_at, effect_of, field_at, first_word, word_of}
use Rattle.sg_facts.specs.Walks.{FieldMark, carries_arg, good, replay_arg, replay_args, replay_caller, sets_caller, unknown, unset}
use Rattle.sg_facts.proofs.Replaying.Marks.{IsFrom}
use Rattle.sg_described.specs.Described.{Described}
use Rattle.sg_described.specs.DescribedSound.{IsDescribedRow}
use Rattle.sg_described.specs.Known.{greatest}
use Rattle.sg_described.specs.Meaning.{last_word, most_at}
use Rattle.sg_described.specs.NeverZero.{is_never_zero}
use Rattle.sg_described.specs.Safe.{is_plain_kind}
use Rattle.sg_described.specs.Walking.{arg_known, bounds_at, caller_fits, carried_known, carrier, left_most, mark_at}
use Rattle.sg_described.proofs.Keeping.Basics.{OneOf, both_true, first, implied, one_of, second}
use Rattle.sg_described.proofs.Keeping.Fitting.{IsWordTo, up_at, word_low}
use Rattle.sg_described.proofs.Keeping.InRanges.{IsIn}

-- ---- fields that hold what marks say

pub hold_at : (marks : List FieldMark) (vs ws : List Value) (x : ℕ) → FieldsHold marks vs ws → FieldHolds (mark_at marks x) (field_at vs x) (field_at ws x)
hold_at [] [] [] x hold = refl
hold_at [] [] (w ∷ ws) x hold = absurd hold
hold_at [] (v ∷ vs) [] x hold = absurd hold
hold_at [] (v ∷ vs) (w ∷ ws) x hold = absurd hold
hold_at (m ∷ marks) [] [] x hold = absurd hold
hold_at (m ∷ marks) [] (w ∷ ws) x hold = absurd hold
hold_at (m ∷ marks) (v ∷ vs) [] x hold = absurd hold
hold_at (m ∷ marks) (v ∷ vs) (w ∷ ws) zero hold = hold.0
hold_at (m ∷ marks) (v ∷ vs) (w ∷ ws) (suc x) hold = hold_at marks vs ws x hold.1

pub unset_at : (fs : List Field) (x : ℕ) → mark_at (map (λ f. unset) fs) x ≡ unset
unset_at [] x = refl
unset_at (f ∷ fs) zero = refl
unset_at (f ∷ fs) (suc x) = unset_at fs x

-- a field whose row's is a word up to a number, and not 0 where it is restored and never is
pub mark_in : (m : FieldMark) (some : Bool) (most : ℕ) (v w : Value) → FieldHolds m v w → (n : ℕ) × (v ≡ Word n) × (n ≤ most) → (n : ℕ) × (w ≡ Word n) × (n ≤ last_word) → (m ≡ good → some ≡ true → 1 ≤ word_of v)
    → IsIn (bounds_at m some most) (word_of w)
mark_in unset some most v w holds own word never =
    let none : word_of w ≡ 0 = ap word_of holds ∙ ap (λ x. word_of (cleared x)) own.1 in
    (omega (arith, none), omega (arith, none))
mark_in good some most v w holds own word never =
    let same : word_of w ≡ own.0 = ap word_of holds ∙ ap word_of own.1 in
    let up = own.2 in
    (low some refl, omega (arith, same, up))
  where
    low : (b : Bool) → some ≡ b → cond b 1 0 ≤ word_of w
    low true is = let one = never refl is in let same = ap word_of holds in omega (arith, one, same)
    low false is = omega arith
mark_in unknown some most v w holds own word never =
    let same : word_of w ≡ word.0 = ap word_of word.1 in
    let up = word.2 in
    (omega arith, omega (arith, same, up))

-- ---- what an effect of a replayed call leaves

-- a word up to the greatest that the effect may leave
pub effect_left : (call : Call) (reply : Good) (e : Effect) (v w : Value) (old own word : ℕ) → IsFrom call v e → (n : ℕ) × (v ≡ Word n) × (n ≤ own) → (n : ℕ) × (w ≡ Word n) × (n ≤ last_word) → word_of w ≤ old → first_word reply ≤ word
    → (n : ℕ) × (effect_of call reply e w ≡ Word n) × (n ≤ left_most e old own word)
effect_left call reply SetCaller v w old own word from row held low given = let same = from ∙ ap word_of row.1 in let up = row.2 in (call.client, refl, omega (arith, same, up))
effect_left call reply (SetArg k) v w old own word from row held low given = (row.0, from ∙ row.1, row.2)
effect_left call reply (AddArg k) v w old own word from row held low given =
    let same : word_of (arg_at call k) ≡ row.0 = ap word_of from ∙ ap word_of row.1 in
    let up = row.2 in
    (word_of w + word_of (arg_at call k), refl, omega (arith, same, up, low))
effect_left call reply SetRet v w old own word from row held low given = (first_word reply, refl, given)
effect_left call reply AddRet v w old own word from row held low given = (word_of w + first_word reply, refl, omega (arith, low, given))
effect_left call reply Clear v w old own word from row held low given = (0, ap cleared held.1, omega arith)
effect_left call reply SubOne v w old own word from row held low given = (word_of w - 1, refl, omega (arith, low))
effect_left call reply SubRet v w old own word from row held low given = (word_of w - first_word reply, refl, omega (arith, low))

-- ---- the caller and the arguments of a replayed call

module _ (d : Described) (r : Row) (row : IsDescribedRow d r) where
  own_word : (x : ℕ) → IsWordTo (most_at (greatest d) x) r.fields x
  own_word x = up_at (greatest d) r.fields row.fields x

  -- the caller is a client
  pub caller_is : (state : ℕ) (es : List (ℕ × Effect)) → list_all (caller_fits d state) es ≡ true → ((x : ℕ) → is_never_zero d.facts state x ≡ true → 1 ≤ word_of (field_at r.fields x))
      → 1 ≤ r.creator → r.creator ≤ last_client → (1 ≤ replay_caller es r) × (replay_caller es r ≤ last_client)
  caller_is state [] all never low high = (low, high)
  caller_is state (e ∷ es) all never low high =
      let parts = both_true (caller_fits d state e) (list_all (caller_fits d state) es) all in
      at (sets_caller e.1) parts.0 (caller_is state es parts.1 never low high)
    where
      at : (b : Bool) → implies b (is_never_zero d.facts state e.0 && nat_le (most_at (greatest d) e.0) last_client) ≡ true → (1 ≤ replay_caller es r) × (replay_caller es r ≤ last_client)
          → (1 ≤ cond b (word_of (field_at r.fields e.0)) (replay_caller es r)) × (cond b (word_of (field_at r.fields e.0)) (replay_caller es r) ≤ last_client)
      at true is rest =
          let two = both_true (is_never_zero d.facts state e.0) (nat_le (most_at (greatest d) e.0) last_client) is in
          let few = two.1 in
          let most : most_at (greatest d) e.0 ≤ last_client = grind (arith, nat_tests, few) in
          let own = word_low (most_at (greatest d) e.0) e.0 r.fields (own_word e.0) in
          (never e.0 two.0, omega (arith, most, own))
      at false is rest = rest

  carried : (es : List (ℕ × Effect)) (k : ℕ) → (n : ℕ) × (replay_arg es r k ≡ Word n) × (n ≤ (carried_known d (carrier es k)).most)
  carried [] k = (0, refl, omega arith)
  carried (e ∷ es) k = at (carries_arg k e.1) (carried es k)
    where
      at : (b : Bool) → (n : ℕ) × (replay_arg es r k ≡ Word n) × (n ≤ (carried_known d (carrier es k)).most)
          → (n : ℕ) × (cond b (field_at r.fields e.0) (replay_arg es r k) ≡ Word n)
          × (n ≤ (carried_known d (cond b (Some e.0) (carrier es k))).most)
      at true rest = own_word e.0
      at false rest = rest

  no_less : (o : Option ℕ) → (carried_known d o).least ≡ 0
  no_less None = refl
  no_less (Some x) = refl

  listed_in : (es : List (ℕ × Effect)) (from : ℕ) (kinds : List Kind) (k : ℕ)
      → word_of (unwrap_or (slice_get (map (λ p. replay_arg es r p.0) (enumerate_from from kinds)) k) (Word 0)) ≤ (carried_known d (carrier es (from + k))).most
  listed_in es from [] k = omega arith
  listed_in es from (kind ∷ kinds) zero =
      let same : from ≡ from + 0 = omega arith in
      let own = carried es from in
      let word = ap word_of own.1 in
      let up = own.2 in
      subst (λ n. word_of (replay_arg es r from) ≤ (carried_known d (carrier es n)).most) same (omega (arith, word, up))
  listed_in es from (kind ∷ kinds) (suc k) =
      let same : from + 1 + k ≡ from + suc k = omega arith in
      subst (λ n. word_of (unwrap_or (slice_get (map (λ p. replay_arg es r p.0) (enumerate_from (from + 1) kinds)) k) (Word 0)) ≤ (carried_known d (carrier es n)).most) same
      (listed_in es (from + 1) kinds k)

  -- arguments are as they are known to be
  pub args_in : (fun k : ℕ) → IsIn (arg_known d fun k) (word_of (unwrap_or (slice_get (replay_args (fun_at d.facts.funs fun).effects r 0 (fun_at d.facts.funs fun).kinds) k) (Word 0)))
  args_in fun k =
      let none = no_less (carrier (fun_at d.facts.funs fun).effects k) in
      let same : 0 + k ≡ k = omega arith in
      let up = listed_in (fun_at d.facts.funs fun).effects 0 (filter (λ kind. not (is_id kind)) (fun_at d.facts.funs fun).kinds) k in (
        omega (arith, none),
        subst (λ n. word_of (unwrap_or (slice_get (replay_args (fun_at d.facts.funs fun).effects r 0 (fun_at d.facts.funs fun).kinds) k) (Word 0))
            ≤ (carried_known d (carrier (fun_at d.facts.funs fun).effects n)).most) same up,
      )

  abbrev kind_fits : Kind → Value → Bool
  kind_fits kind value = elim value [ Word n ↦ elim kind [ IsWord ↦ true | _ ↦ false ] | Text bytes ↦ elim kind [ IsText ↦ true | _ ↦ false ] ]

  args_fit_from : (es : List (ℕ × Effect)) (from : ℕ) (kinds : List Kind) → list_all is_plain_kind kinds ≡ true
      → pointwise kind_fits (filter (λ kind. not (is_id kind)) kinds) (map (λ p. replay_arg es r p.0) (enumerate_from from (filter (λ kind. not (is_id kind)) kinds))) ≡ true
  args_fit_from es from [] plain = refl
  args_fit_from es from (Desc ∷ kinds) plain = args_fit_from es from kinds plain
  args_fit_from es from (Parent ∷ kinds) plain = absurd (cc plain)
  args_fit_from es from (IsText ∷ kinds) plain = absurd (cc plain)
  args_fit_from es from (IsWord ∷ kinds) plain =
      let one = carried es from in
      ap (λ v. kind_fits IsWord v && pointwise kind_fits (filter (λ kind. not (is_id kind)) kinds) (map (λ p. replay_arg es r p.0) (enumerate_from (from + 1) (filter (λ kind. not (is_id kind)) kinds)))) one.1
      ∙ args_fit_from es (from + 1) kinds plain

  -- they are of their kinds
  pub args_fit : (es : List (ℕ × Effect)) (kinds : List Kind) → list_all is_plain_kind kinds ≡ true → kinds_fit kinds (replay_args es r 0 kinds) ≡ true
  args_fit es kinds plain = args_fit_from es 0 kinds plain
