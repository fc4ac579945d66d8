-- A text of version 3 describes a service of its own, and no other does.
use Rattle.std.proofs.Common.{sym, ◌∙◌, ℕ, List, map}
use Rattle.std.specs.Prelude.{Ok}
use Rattle.std.proofs.lemmas.Result.{IfOk-weaker}
use Rattle.sg_explain.specs.sg_facts.Facts.{facts_of}
use Rattle.sg_explain.specs.sg_input.sg_print.sg_parse.Grammar.Parses.{Parses}
use Rattle.sg_judge.specs.Inside.Examined.{IsExaminedAs}
use Rattle.sg_judge.proofs.Texts.{not_own}
use Rattle.sg_judge.proofs.examining.examine_tree.Goals as goal

pub returns-then-is_own : goal.returns-then-is_own
returns-then-is_own c =
    let services = map facts_of c.args.shapes.now in
    let tree = c.args.tree.now in
    IfOk-weaker c.examine_own.result _ (λ made. (text : List ℕ) → Parses text (Ok tree) → IsExaminedAs services text made)
    (λ made h. λ text parses. h services text (record { parses = parses; own = sym c.is_own.ensures ∙ c.if-is_own.true })) c.examine_own.ensures

pub returns-else-is_own : goal.returns-else-is_own
returns-else-is_own c =
    let services = map facts_of c.args.shapes.now in
    let tree = c.args.tree.now in
    IfOk-weaker c.examine_among.result _ (λ made. (text : List ℕ) → Parses text (Ok tree) → IsExaminedAs services text made)
    (λ made h. λ text parses. h text parses (not_own text tree parses (sym c.is_own.ensures ∙ c.if-is_own.false))) c.examine_among.ensures
