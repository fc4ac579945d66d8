-- Part by part.
use Rattle.std.proofs.Common.{sym, ap, ◌∙◌, map}
use Rattle.sg_shape.specs.sg_facts.Facts.{Field, facts_of}
use Rattle.sg_described.specs.Described.{rules_of}
use Rattle.sg_describe.specs.DescribedText.{most_of}
use Rattle.sg_describe.proofs.Mapped.{map_mapped}
use Rattle.sg_describe.proofs.making.described.Goals as goal

pub returns : goal.returns
returns c =
    let facts = facts_of c.args.shape.now in
    let ss = c.args.statements.now in
    let most = c.in_ok-most_of_all.ensures ∙ sym (map_mapped (λ (x : Field). most_of ss x.name) (λ f. record { name = f.name.now; text = f.text }) c.args.shape.now.fields.now) in
    ap (λ m. record { facts = facts; most = m; answers = map rules_of c.in_ok-answers_of.field-0.now }) most
    ∙ ap (λ a. record { facts = facts; most = map (λ (x : Field). most_of ss x.name) facts.fields; answers = a }) c.in_ok-answers_of.ensures
