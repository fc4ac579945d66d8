-- Number by number.
use Rattle.std.proofs.Common.{◌≡◌, ℕ, [], ◌++◌, List, sym, ◌∙◌, ap, arith}
use Rattle.std.specs.Prelude.{if◌then◌else◌}
use Rattle.sg_facts.specs.Facts.{fun_at}
use Rattle.sg_facts.specs.Interface.{declares}
use Rattle.sg_print.specs.TablesText.{fun_line}
use Rattle.sg_print.proofs.Numbers.{all_stand, not_there, one_more, there}
use Rattle.sg_print.proofs.tables.put_funs.Goals.{then-declares+in_ok-put_fun, else-declares}
use Rattle.sg_print.proofs.tables.put_funs.Goals as goal

pub funs-preserved : goal.funs-preserved
funs-preserved c =
    let i = c.args.iface.now in
    let line : ℕ → List ℕ = λ n. fun_line i.facts n (fun_at i.facts.funs n) in
    let part : ℕ → List ℕ = λ n. if declares i n then line n else [] in
    let n = c.funs.number in
    elim c.if-declares.branch [
      | then-declares+in_ok-put_fun w ↦ one_more part c.args.out.now c.funs.out c.if-declares.out n c.funs.auto.number c.funs.invariant
          (w.out-is ∙ w.in_ok-put_fun.ensures ∙ ap (λ x. c.funs.out ++ fun_line x.facts n (fun_at x.facts.funs n)) c.iface.view_is
          ∙ ap (λ l. c.funs.out ++ l) (there (declares i n) (line n) (sym c.declares.ensures ∙ w.if-declares.true)))
      | else-declares w ↦ one_more part c.args.out.now c.funs.out c.if-declares.out n c.funs.auto.number c.funs.invariant
          (w.out-is ∙ not_there (declares i n) (line n) c.funs.out (sym c.declares.ensures ∙ w.if-declares.false))
    ]

pub returns : goal.returns
returns c =
    let end : c.funs.number ≡ 33 = omega (arith, c.funs-test.false, c.funs.auto.number-end) in
    all_stand _ c.args.out.now c.funs.out c.funs.number end c.funs.invariant
