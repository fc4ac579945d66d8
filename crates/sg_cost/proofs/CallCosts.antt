-- No call costs more than the most that is told of its function.
use Rattle.std.proofs.Common.{◌≡◌, ℕ, ◌≤◌, Bool, true, false, cond, ◌||◌, List, [], ◌∷◌, None, Some, filter, map, max, refl, ◌∙◌, ap, arith}
use Rattle.std.specs.Prelude.{◌==◌}
use Rattle.std.specs.declared.option.Option.{Option}
use Rattle.std.proofs.lemmas.Bool.Decides.{nat_tests}
use Rattle.sg_cost.proofs.FunCosts.{all_pass, fun_all, fun_line}
use Rattle.sg_cost.proofs.LineCosts.{line_none, line_zero}
use Rattle.sg_cost.specs.Costs.{all_lengths, cost_of, fun_cost, greatest}
use Rattle.sg_cost.specs.Inside.Lines.{line_cost}
use Rattle.sg_facts.proofs.Replaying.Subtrees.{above_parents}
use Rattle.sg_facts.specs.Facts.{Fun, fun_at, takes_desc, takes_parent}
use Rattle.sg_facts.specs.Interface.{Declared}
use Rattle.sg_facts.specs.Kinds.{FitsKinds}
use Rattle.sg_facts.specs.Object.{Object}
use Rattle.sg_facts.specs.Sound.{IsSound}
use Rattle.sg_facts.specs.Track.{is_ancestor, row_at}
use Rattle.sg_facts.specs.declared.row.Row.{Row}
use Rattle.sg_facts.specs.declared.tables.WalkLine.{WalkLine}
use Rattle.sg_facts.specs.sg_base.declared.call.Call.{Call}
use Rattle.sg_needs.specs.sg_track.Tracked.{AreTracked}

-- the number of a live row is at most the greatest
at_most : (g : ℕ → ℕ) (rows : List Row) (id : ℕ) (r : Row) → row_at rows id ≡ Some r → g id ≤ greatest (map (λ x. g x.id) rows)
at_most g [] id r there = absurd (cc there)
at_most g (x ∷ rows) id r there = by (x.id == id) refl there (at_most g rows id r)
  where
    by : (b : Bool) → (x.id == id) ≡ b → cond b (Some x) (row_at rows id) ≡ Some r → (row_at rows id ≡ Some r → g id ≤ greatest (map (λ y. g y.id) rows)) → g id ≤ max (g x.id) (greatest (map (λ y. g y.id) rows))
    by true is there rest = let same : g x.id ≡ g id = ap g (grind (arith, nat_tests, is)) in omega (arith, same)
    by false is there rest = let one = rest there in omega (arith, one)

module _ (i : Declared) (walks : List WalkLine) (given : ℕ) (rows : List Row) (are : AreTracked given rows) (call : Call) (fits : FitsKinds i.facts call) where
  abbrev f : Fun
  f = fun_at i.facts.funs call.fun

  abbrev cost : ℕ
  cost = cost_of i walks rows call

  -- where all rows have to be whole it costs all
  of_all : (w a : Bool) → (w || a) ≡ true → all_lengths walks (filter (λ r. w || (a || (r.id == call.desc) || is_ancestor rows r.id call.desc)) rows) ≡ all_lengths walks rows
  of_all true a is = ap (all_lengths walks) (all_pass rows)
  of_all false true is = ap (all_lengths walks) (all_pass rows)
  of_all false false is = absurd (cc is)

  -- else what its descriptor or parent costs with its ancestors
  of_line : (w a : Bool) → (w || a) ≡ false → all_lengths walks (filter (λ r. w || (a || (r.id == call.desc) || is_ancestor rows r.id call.desc)) rows) ≡ line_cost walks rows call.desc
  of_line false false is = refl
  of_line false true is = absurd (cc is)
  of_line true a is = absurd (cc is)

  line_few : (found : Option Row) → row_at rows call.desc ≡ found → line_cost walks rows call.desc ≤ greatest (map (λ r. line_cost walks rows r.id) rows)
  line_few None is = let none = line_none walks given rows are call.desc is in omega (arith, none)
  line_few (Some r) is = at_most (line_cost walks rows) rows call.desc r is

  or_none : (a b : Bool) → (a || b) ≡ false → (a ≡ false) × (b ≡ false)
  or_none false false is = (refl, refl)
  or_none false true is = absurd (cc is)
  or_none true b is = absurd (cc is)

  by_id : (i.eager || f.all) ≡ false → (t : Bool) → (takes_desc f || takes_parent f) ≡ t → cost ≤ (fun_cost i walks rows call.fun).cost
  by_id wants true takes =
      let own = of_line i.eager f.all wants in
      let few = line_few (row_at rows call.desc) refl in
      let told = fun_line i walks given rows are call.fun wants takes in
      omega (arith, own, few, told)
  by_id wants false takes =
      let two = or_none (takes_desc f) (takes_parent f) takes in
      let none = of_line i.eager f.all wants ∙ ap (line_cost walks rows) (fits.desc two.0 two.1) ∙ line_zero walks given rows are in
      omega (arith, none)

  by_all : (t : Bool) → (i.eager || f.all) ≡ t → cost ≤ (fun_cost i walks rows call.fun).cost
  by_all true wants =
      let own = of_all i.eager f.all wants in
      let told = fun_all i walks given rows are call.fun wants in
      omega (arith, own, told)
  by_all false wants = by_id wants (takes_desc f || takes_parent f) refl

  pub within_fun : cost_of i walks rows call ≤ (fun_cost i walks rows call.fun).cost
  within_fun = by_all (i.eager || f.all) refl

-- at a sound object
pub within_told : (i : Declared) (walks : List WalkLine) (o : Object) (call : Call) → IsSound i.facts o → FitsKinds i.facts call → cost_of i walks o.rows call ≤ (fun_cost i walks o.rows call.fun).cost
within_told i walks o call sound fits = within_fun i walks o.given o.rows (above_parents i.facts o sound) call fits
