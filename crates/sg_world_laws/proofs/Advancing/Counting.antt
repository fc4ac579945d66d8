-- The numbers of a recovery after a replayed call.
use Rattle.std.proofs.Common.{Bool, List, Some, [], ap, arith, cond, false, length, length-append, refl, suc, sym, true, zero, ℕ, ◌*◌, ◌++◌, ◌+◌, ◌<◌, ◌==◌, ◌∙◌, ◌∷◌, ◌≡◌, ◌≢◌, ◌≤◌}
use Rattle.std.specs.Prelude.{max}
use Rattle.sg_facts.specs.sg_base.declared.call.Call.{Call}
use Rattle.sg_facts.specs.sg_base.declared.reply.Good.{Good}
use Rattle.sg_facts.specs.sg_base.declared.reply.Reply.TheVariants.{Ok}
use Rattle.sg_facts.specs.sg_base.declared.value.Value.{Value}
use Rattle.sg_facts.specs.Counted.{is_counted, most_counted, most_in}
use Rattle.sg_facts.specs.Facts.{Facts, fun_at}
use Rattle.sg_facts.specs.Fits.{Fits}
use Rattle.sg_facts.specs.Held.{set_of}
use Rattle.sg_facts.specs.Interface.{Declared}
use Rattle.sg_facts.specs.Kinds.{MayAsk}
use Rattle.sg_facts.specs.Laws.{most_set, next_call, set_to, slow}
use Rattle.sg_facts.specs.Legal.{Table}
use Rattle.sg_facts.specs.Object.{Object, after}
use Rattle.sg_facts.specs.Track.{arg_at, field_at, row_at, word_of}
use Rattle.sg_facts.specs.Walks.{IsWalkOf}
use Rattle.sg_facts.specs.declared.row.Row.{Row}
use Rattle.sg_facts.specs.declared.shape.Effect.TheVariants.{AddArg, AddRet, Clear, SetArg, SetCaller, SetRet, SubOne, SubRet}
use Rattle.sg_facts.specs.declared.shape.Effect.{Effect}
use Rattle.sg_facts.proofs.Replaying.Carried.{are_from}
use Rattle.sg_facts.proofs.Replaying.Found.{other_test, same_test}
use Rattle.sg_facts.proofs.Replaying.Marks.{AreFrom, IsFrom}
use Rattle.sg_facts.proofs.Replaying.Steps.{declared_within, replayed_fun, step_makes_none}
use Rattle.sg_recovery_laws.specs.Objects.Serving.{IsService}
use Rattle.sg_recovery_laws.proofs.Objects.Apart.{Ascends}
use Rattle.sg_recovery_laws.specs.Midway.Numbers.{AreNumbers, left_of, sum_told, unbegun}
use Rattle.sg_recovery_laws.specs.Midway.Progress.{TellsCalls, Told, begun, complete, fresh, is_complete}
use Rattle.sg_recovery_laws.specs.Midway.Stepping.{so_far, told_after}
use Rattle.sg_recovery_laws.proofs.Midway.Numbers.{few_rows, sum_less}
use Rattle.sg_recovery_laws.proofs.Midway.Walking.{MayReplay, may_replay, replayed_is}

-- ---- counted words

-- a counted field is no more than the greatest
field_below : (facts : Facts) (fields : List Value) (from x : ℕ) → is_counted facts (from + x) ≡ true → word_of (field_at fields x) ≤ most_in facts from fields
field_below facts [] from x is = omega arith
field_below facts (v ∷ fields) from zero is =
    let own : is_counted facts from ≡ true = ap (is_counted facts) (let e : from ≡ from + 0 = omega arith in e) ∙ is in
    at (is_counted facts from) own
  where
    at : (b : Bool) → b ≡ true → word_of v ≤ max (cond b (word_of v) 0) (most_in facts (from + 1) fields)
    at true is = omega arith
    at false is = absurd (cc is)
field_below facts (v ∷ fields) from (suc x) is =
    let rest = field_below facts fields (from + 1) x (ap (is_counted facts) (let e : from + 1 + x ≡ from + suc x = omega arith in e) ∙ is) in
    more (cond (is_counted facts from) (word_of v) 0) rest
  where
    more : (n : ℕ) → word_of (field_at fields x) ≤ most_in facts (from + 1) fields → word_of (field_at fields x) ≤ max n (most_in facts (from + 1) fields)
    more n below = omega (arith, below)

row_below : (facts : Facts) (rows : List Row) (id : ℕ) (r : Row) → row_at rows id ≡ Some r → most_in facts 0 r.fields ≤ most_counted facts rows
row_below facts [] id r there = absurd (cc there)
row_below facts (x ∷ rows) id r there = at (x.id == id) there (row_below facts rows id r)
  where
    at : (b : Bool) → cond b (Some x) (row_at rows id) ≡ Some r → (row_at rows id ≡ Some r → most_in facts 0 r.fields ≤ most_counted facts rows)
        → most_in facts 0 r.fields ≤ max (most_in facts 0 x.fields) (most_counted facts rows)
    at true there rest =
        let one : x ≡ r = cc there in
        let same : most_in facts 0 x.fields ≡ most_in facts 0 r.fields = ap (λ y. most_in facts 0 y.fields) one in
        omega (arith, same)
    at false there rest = let below = rest there in omega (arith, below)

-- what a call sets counted words to comes from the row's fields
set_below : (facts : Facts) (call : Call) (fields : List Value) (es : List (ℕ × Effect)) → AreFrom call fields es → most_set facts call es ≤ most_in facts 0 fields
set_below facts call fields [] from = omega arith
set_below facts call fields (e ∷ es) from =
    let rest = set_below facts call fields es from.1 in
    let own = at (is_counted facts e.0) refl e.1 from.0 in
    both (cond (is_counted facts e.0) (set_to call e.1) 0) own rest
  where
    both : (n : ℕ) → n ≤ most_in facts 0 fields → most_set facts call es ≤ most_in facts 0 fields → max n (most_set facts call es) ≤ most_in facts 0 fields
    both n own rest = omega (arith, own, rest)

    at : (b : Bool) → is_counted facts e.0 ≡ b → (f : Effect) → IsFrom call (field_at fields e.0) f → cond b (set_to call f) 0 ≤ most_in facts 0 fields
    at false is f from = omega arith
    at true is (SetArg k) from =
        let below = field_below facts fields 0 e.0 (ap (is_counted facts) (let z : 0 + e.0 ≡ e.0 = omega arith in z) ∙ is) in
        let same : word_of (arg_at call k) ≡ word_of (field_at fields e.0) = ap word_of from in
        omega (arith, below, same)
    at true is SetCaller from = omega arith
    at true is (AddArg k) from = omega arith
    at true is SetRet from = omega arith
    at true is AddRet from = omega arith
    at true is Clear from = omega arith
    at true is SubOne from = omega arith
    at true is SubRet from = omega arith

-- ---- what is left

left_few : (t : Told) → left_of t ≤ 8
left_few fresh = omega arith
left_few (begun n) = omega arith
left_few complete = omega arith

all_left : (told : ℕ → Told) (rows : List Row) → sum_told left_of told rows ≤ 8 * length rows
all_left told [] = omega arith
all_left told (r ∷ rows) = let rest = all_left told rows in let own = left_few (told r.id) in omega (arith, rest, own)

begun_now : (rest : List ℕ) (n : ℕ) → unbegun (so_far rest n) ≡ 0
begun_now [] n = refl
begun_now (f ∷ rest) n = refl

left_now : (t : Told) (rest : List ℕ) (n : ℕ) → TellsCalls t n → is_complete t ≡ false → n < 8 → left_of (so_far rest (suc n)) + 1 ≤ left_of t
left_now fresh [] n told part few = omega (arith, told)
left_now fresh (f ∷ rest) n told part few = omega (arith, told)
left_now (begun m) [] n told part few = omega (arith, told, few)
left_now (begun m) (f ∷ rest) n told part few = omega (arith, told, few)
left_now complete rest n told part few = absurd (cc part)

module _ (i : Declared) (ask : Table) (sound : Object → Type 0) (law : IsService i.facts ask sound) (fits : Fits i) (names : List (ℕ × ℕ)) (told : ℕ → Told) (entries : ℕ) (o held : Object)
    (numbers : AreNumbers i.facts told entries o held) (are : Ascends 0 o.given o.rows) (few : most_counted i.facts o.rows ≤ slow + entries + 128)
    (r : Row) (done rest : List ℕ) (fun : ℕ) (there : row_at o.rows r.id ≡ Some r) (walk : IsWalkOf i (done ++ fun ∷ rest) r.made r.state (set_of r))
    (tells : TellsCalls (told r.id) (length done)) (part : is_complete (told r.id) ≡ false) (is_new : done ≡ [] → told r.id ≡ fresh)
    (good : Good) (may : MayAsk i.facts held (next_call i.facts names r done fun)) (answered : ask held (next_call i.facts names r done fun) ≡ Some (Ok good)) where
  replays : MayReplay i done fun
  replays = may_replay i done rest fun r.made r.state (set_of r) walk

  own_told : told_after told r.id done rest r.id ≡ so_far rest (suc (length done))
  own_told = ap (λ b. cond b (so_far rest (suc (length done))) (told r.id)) (same_test r.id r.id refl)

  other_told : (x : ℕ) → x ≢ r.id → told_after told r.id done rest x ≡ told x
  other_told x apart = ap (λ b. cond b (so_far rest (suc (length done))) (told x)) (other_test x r.id apart)

  -- as many ids are given as rows are begun
  given_now : (after i.facts held (next_call i.facts names r done fun) (Ok good)).given + sum_told unbegun (told_after told r.id done rest) o.rows ≤ o.given
  given_now = by done refl
    where
      less : (n : ℕ) → n ≤ unbegun (told r.id) → sum_told unbegun (told_after told r.id done rest) o.rows + n ≤ sum_told unbegun told o.rows
      less n few =
          sum_less unbegun told (told_after told r.id done rest) n r.id 0 o.given o.rows r are there other_told
          (let own : unbegun (told_after told r.id done rest r.id) ≡ 0 = ap unbegun own_told ∙ begun_now rest (suc (length done)) in omega (arith, own, few))

      by : (ds : List ℕ) → done ≡ ds → (after i.facts held (next_call i.facts names r done fun) (Ok good)).given + sum_told unbegun (told_after told r.id done rest) o.rows ≤ o.given
      by [] is =
          let makes : (after i.facts held (next_call i.facts names r done fun) (Ok good)).given ≡ held.given + 1 = ap (λ b. cond b (held.given + 1) held.given) (replays.first is) in
          let one : unbegun (told r.id) ≡ 1 = ap unbegun (is_new is) in
          let rest = less 1 (omega (arith, one)) in
          let was = numbers.given in
          omega (arith, makes, rest, was)
      by (d ∷ ds) is =
          let step = replays.later (λ none. let both : d ∷ ds ≡ [] = sym is ∙ none in cc both) in
          let makes : (after i.facts held (next_call i.facts names r done fun) (Ok good)).given ≡ held.given
          = ap (λ b. cond b (held.given + 1) held.given) (step_makes_none i.facts step.0 fun law.shape.shape (fits.steps step.0 fun step.1)) in
          let rest = less 0 (omega arith) in
          let was = numbers.given in
          omega (arith, makes, rest, was)

  -- the call sets no counted word higher than the rows allow
  counted_now : most_counted i.facts (after i.facts held (next_call i.facts names r done fun) (Ok good)).rows ≤ max (max slow (most_counted i.facts o.rows)) (most_counted i.facts held.rows + 1)
  counted_now =
      let within = declared_within i fun fits replays.declared in
      let is = replayed_is i done fun fits replays in
      let its = replayed_fun i.facts fun law.shape.shape within.0 within.1 is in
      let from = are_from r (next_call i.facts names r done fun) (fun_at i.facts.funs fun).effects (fun_at i.facts.funs fun).kinds refl refl its.args its.takes its.caller in
      let sets = set_below i.facts (next_call i.facts names r done fun) r.fields (fun_at i.facts.funs fun).effects from in
      let row = row_below i.facts o.rows r.id r there in
      let slowly = law.counts.replays held (next_call i.facts names r done fun) good may is answered in
      at_most (most_counted i.facts (after i.facts held (next_call i.facts names r done fun) (Ok good)).rows) (most_set i.facts (next_call i.facts names r done fun) (fun_at i.facts.funs fun).effects)
      (most_in i.facts 0 r.fields) (most_counted i.facts o.rows) (most_counted i.facts held.rows) slowly sets row
    where
      at_most : (n s f m h : ℕ) → n ≤ max (max slow s) (h + 1) → s ≤ f → f ≤ m → n ≤ max (max slow m) (h + 1)
      at_most n s f m h slowly sets row = omega (arith, slowly, sets, row)

  pub numbers_now : AreNumbers i.facts (told_after told r.id done rest) entries o (after i.facts held (next_call i.facts names r done fun) (Ok good))
  numbers_now = record {
    given = given_now;
    counted = sums (most_counted i.facts (after i.facts held (next_call i.facts names r done fun) (Ok good)).rows) (most_counted i.facts o.rows) (most_counted i.facts held.rows)
        (sum_told left_of (told_after told r.id done rest) o.rows) (sum_told left_of told o.rows) (length o.rows) counted_now less (all_left (told_after told r.id done rest) o.rows) (few_rows 0 o.given o.rows are (omega arith)) numbers.counted few;
  }
    where
      short : length done < 8
      short =
          let n : length (done ++ fun ∷ rest) ≡ length done + suc (length rest) = length-append done (fun ∷ rest) in
          let most = walk.short in
          omega (arith, n, most)

      less : sum_told left_of (told_after told r.id done rest) o.rows + 1 ≤ sum_told left_of told o.rows
      less =
          sum_less left_of told (told_after told r.id done rest) 1 r.id 0 o.given o.rows r are there other_told
          (let own = ap left_of own_told in let left = left_now (told r.id) rest (length done) tells part short in omega (arith, own, left))

      sums : (n m h s was rows : ℕ) → n ≤ max (max slow m) (h + 1) → s + 1 ≤ was → s ≤ 8 * rows → 0 + rows ≤ o.given → h + was ≤ slow + entries + 128 + 8 * o.given → m ≤ slow + entries + 128 → n + s ≤ slow + entries + 128 + 8 * o.given
      sums n m h s was rows slowly less left few old most = omega (arith, slowly, less, left, few, old, most)
