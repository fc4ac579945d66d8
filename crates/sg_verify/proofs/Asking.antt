-- A service may be asked a call that passes the guard at what it holds.
use Rattle.std.proofs.Common.{◌≡◌, Bool, true, false, cond, ◌||◌, ◌&&◌, None, Some, refl, sym, ◌∙◌, ap}
use Rattle.std.specs.Prelude.{◌==◌}
use Rattle.std.specs.declared.option.Option.{Option}
use Rattle.sg_facts.specs.sg_base.declared.call.Call.{Call}
use Rattle.sg_facts.proofs.RowLists.{live_of_row}
use Rattle.sg_facts.specs.Facts.{Facts, fun_at, takes_desc, takes_parent}
use Rattle.sg_facts.specs.Inside.Guards.{is_own, is_there, may_be_parent}
use Rattle.sg_facts.specs.Kinds.{MayAsk, may_be_root}
use Rattle.sg_facts.specs.Laws.{Passes, whole}
use Rattle.sg_facts.specs.Legal.{Table}
use Rattle.sg_facts.specs.Object.{Object}
use Rattle.sg_facts.specs.Track.{is_live, row_at}
use Rattle.sg_facts.specs.declared.row.Row.{Row}
use Rattle.sg_facts.specs.declared.shape.Parents.{Parents}
use Rattle.sg_facts.specs.declared.shape.Parents.TheVariants.{Never, Same, Cross}
use Rattle.sg_world_laws.proofs.sg_recovery_laws.Objects.Guarded.{IsLetPass, keeps, let_pass}
use Rattle.sg_world_laws.specs.sg_recovery_laws.Objects.Serving.{IsService}

module _ (facts : Facts) (ask : Table) (sound : Object → Type 0) (law : IsService facts ask sound) (o : Object) (call : Call) (passes : Passes facts o call) where
  -- where the call is no query
  let_in : (fun_at facts.funs call.fun).query ≡ false → IsLetPass (whole facts) o call
  let_in row = let_pass (whole facts) o call row passes.guarded

  desc : (q : Bool) → (fun_at facts.funs call.fun).query ≡ q → takes_desc (fun_at facts.funs call.fun) ≡ true → is_live o.rows call.desc ≡ true
  desc true query takes =
      let k = (keeps facts call.fun law.shape.shape passes.is_call.first passes.is_call.last).query query in
      absurd (let both : true ≡ false = sym takes ∙ k.0 in cc both)
  desc false row takes = used facts.global (row_at o.rows call.desc) refl ((let_in row).desc takes)
    where
      used : (g : Bool) (found : Option Row) → row_at o.rows call.desc ≡ found → cond g (is_there found) (is_own found call.client) ≡ true → is_live o.rows call.desc ≡ true
      used g (Some r) is may = live_of_row o.rows call.desc r is
      used true None is may = absurd (cc may)
      used false None is may = absurd (cc may)

  or_true : (b : Bool) → (b || true) ≡ true
  or_true true = refl
  or_true false = refl

  parent : (q : Bool) → (fun_at facts.funs call.fun).query ≡ q → takes_parent (fun_at facts.funs call.fun) ≡ true → (is_live o.rows call.desc || (may_be_root facts.parents && (call.desc == 0))) ≡ true
  parent true query takes =
      let k = (keeps facts call.fun law.shape.shape passes.is_call.first passes.is_call.last).query query in
      absurd (let both : true ≡ false = sym takes ∙ k.1 in cc both)
  parent false row takes = at facts.parents (row_at o.rows call.desc) refl ((let_in row).parent takes)
    where
      at : (ps : Parents) (found : Option Row) → row_at o.rows call.desc ≡ found → may_be_parent ps found call.desc call.client ≡ true → (is_live o.rows call.desc || (may_be_root ps && (call.desc == 0))) ≡ true
      at ps (Some r) is may = ap (λ b. b || (may_be_root ps && (call.desc == 0))) (live_of_row o.rows call.desc r is)
      at Never None is may = absurd (cc may)
      at Cross None is may = absurd (cc may)
      at Same None is may = ap (λ b. is_live o.rows call.desc || b) (or_false (call.desc == 0) may) ∙ or_true (is_live o.rows call.desc)
        where
          or_false : (b : Bool) → (b || false) ≡ true → b ≡ true
          or_false true is = refl
          or_false false is = absurd (cc is)

  pub may_ask : MayAsk facts o call
  may_ask = record {
    is_call = passes.is_call;
    within = passes.within;
    desc = desc (fun_at facts.funs call.fun).query refl;
    parent = parent (fun_at facts.funs call.fun).query refl;
    children = λ row ends alone. (let_in row).children ends alone;
  }
