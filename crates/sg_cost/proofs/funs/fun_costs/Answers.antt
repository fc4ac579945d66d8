-- A function more is told.
use Rattle.std.proofs.Common.{◌≡◌, ℕ, suc, ◌+◌, ◌-◌, ◌≤◌, true, false, cond, List, [], ◌∷◌, ◌++◌, append-nil, map, sym, ◌∙◌, ap, arith}
use Rattle.std.proofs.lemmas.List.{map-append}
use Rattle.sg_cost.proofs.FunCosts.{declared_more}
use Rattle.sg_cost.specs.Costs.{fun_cost}
use Rattle.sg_cost.specs.declared.costs.FunCost.{FunCost}
use Rattle.sg_cost.specs.Inside.Pieces.{declared_from}
use Rattle.sg_facts.specs.Interface.{Declared, declares}
use Rattle.sg_cost.proofs.funs.fun_costs.Goals.{then-declares+in_ok-push, else-declares}
use Rattle.sg_cost.proofs.funs.fun_costs.Goals as goal

-- a function that is declared is told after those before it, and one that isn't is passed over
module _ (i : Declared) (f : ℕ → FunCost) (fun : ℕ) (low : 1 ≤ fun) (costs : List FunCost) (are : costs ≡ map f (declared_from i 1 (fun - 1))) where
  next : map f (declared_from i 1 (fun + 1 - 1)) ≡ map f (declared_from i 1 (fun - 1)) ++ map f (cond (declares i fun) (fun ∷ []) [])
  next =
      let one : fun + 1 - 1 ≡ suc (fun - 1) = omega (arith, low) in
      let own : 1 + (fun - 1) ≡ fun = omega (arith, low) in
      ap (λ k. map f (declared_from i 1 k)) one ∙ ap (map f) (declared_more i 1 (fun - 1)) ∙ map-append f (declared_from i 1 (fun - 1)) (cond (declares i (1 + (fun - 1))) ((1 + (fun - 1)) ∷ []) [])
      ∙ ap (λ k. map f (declared_from i 1 (fun - 1)) ++ map f (cond (declares i k) (k ∷ []) [])) own

  added : declares i fun ≡ true → (new : List FunCost) (c : FunCost) → new ≡ costs ++ c ∷ [] → c ≡ f fun → new ≡ map f (declared_from i 1 (fun + 1 - 1))
  added is new c pushed own = pushed ∙ ap (λ l. l ++ c ∷ []) are ∙ ap (λ x. map f (declared_from i 1 (fun - 1)) ++ x ∷ []) own ∙ sym (next ∙ ap (λ b. map f (declared_from i 1 (fun - 1)) ++ map f (cond b (fun ∷ []) [])) is)

  passed : declares i fun ≡ false → costs ≡ map f (declared_from i 1 (fun + 1 - 1))
  passed is = are ∙ sym (append-nil (map f (declared_from i 1 (fun - 1)))) ∙ sym (next ∙ ap (λ b. map f (declared_from i 1 (fun - 1)) ++ map f (cond b (fun ∷ []) [])) is)

finished : (i : Declared) (f : ℕ → FunCost) (fun end : ℕ) (costs : List FunCost) → fun ≡ suc end → costs ≡ map f (declared_from i 1 (fun - 1)) → costs ≡ map f (declared_from i 1 end)
finished i f fun end costs is are = let one : fun - 1 ≡ end = omega (arith, is) in are ∙ ap (λ k. map f (declared_from i 1 k)) one

abbrev told : ℕ → ℕ → FunCost
told fun cost = record { fun = fun; cost = cost }

pub funs-preserved : goal.funs-preserved
funs-preserved c =
    let i = c.args.tables.now.iface in
    let walks = c.args.tables.now.walks in
    let rows = c.args.rows.now.rows in
    let fun = c.funs.fun in
    let tells : c.declares.result ≡ declares i fun = c.declares.ensures ∙ ap (λ x. declares x fun) c.interface-iface.ensures.same in
    record {
      low = omega arith;
      costs = elim c.if-declares.branch [
        | then-declares+in_ok-push w ↦
            w.costs-is ∙ added i (fun_cost i walks rows) fun c.funs.invariant.low c.funs.costs c.funs.invariant.costs (sym tells ∙ w.if-declares.true) w.push.new.self (told fun w.most_of-cost.result) w.in_ok-push.ensures.ok
            (ap (told fun) (w.most_of-cost.ensures walks _ rows c.live.ensures.tracked c.requires.all c.in_ok-deepest.ensures ∙ ap (λ x. (fun_cost x walks rows fun).cost) c.interface-iface.ensures.same))
        | else-declares w ↦ w.costs-is ∙ passed i (fun_cost i walks rows) fun c.funs.invariant.low c.funs.costs c.funs.invariant.costs (sym tells ∙ w.if-declares.false)
      ];
    }

pub returns : goal.returns
returns c =
    let i = c.args.tables.now.iface in
    let end : c.funs.fun ≡ 33 = let a = c.funs-test.false in let b = c.funs.auto.fun-end (omega arith) in omega (arith, a, b) in
    finished i (fun_cost i c.args.tables.now.walks c.args.rows.now.rows) c.funs.fun 32 c.funs.costs end c.funs.invariant.costs
