-- The numbers so far, a comma, and the next.
use Rattle.std.proofs.Common.{◌≡◌, ◌∙◌, [], ◌∷◌, ◌++◌, suc, length, ap, sym, arith}
use Rattle.std.proofs.lemmas.Result.{err_from_is_err_and}
use Rattle.sg_lex.specs.Inside.Ahead.{Came, Off}
use Rattle.sg_lex.proofs.Chains.{on_true}
use Rattle.sg_rules.specs.declared.tree.Term.{Term}
use Rattle.sg_rules.specs.declared.words.Fixed.TheVariants.{Comma}
use Rattle.sg_rules.specs.Grammar.Inside.States.{termed, fits, rule_reader}
use Rattle.sg_rules.specs.Inside.Parts.{part}
use Rattle.sg_rules.proofs.ByToken.{term_came}
use Rattle.sg_rules.proofs.terms.terms.Goals as goal

pub returns-in_err-term-2-clause-leads : goal.returns-in_err-term-2-clause-leads
returns-in_err-term-2-clause-leads c = λ k.
    let p = err_from_is_err_and c.from_residual-in_err-term-2.result c.from_residual-in_err-term-2.ensures.1 in
    let old = c.terms.reader in
    let new = c.take_fixed.new.reader in
    let came = on_true (Came (fits Comma) old.rest new.rest) ((new ≡ old) × Off (fits Comma) old.rest) c.in_ok-take_fixed.field-0 c.in_ok-take_fixed.ensures.mark c.if-branch.true in
    rw (p.1, p.2) (λ ne.
    c.terms.invariant.read_so_far k
    ∙ term_came c.terms.terms k old new came c.in_ok-take_fixed.ensures.end
    ∙ c.in_err-term-2.ensures.leads (λ (x : Term). termed (c.terms.terms ++ x ∷ []) k) ne)

pub terms-preserved : goal.terms-preserved
terms-preserved c =
    let old = c.terms.reader in
    let new = c.take_fixed.new.reader in
    let came = on_true (Came (fits Comma) old.rest new.rest) ((new ≡ old) × Off (fits Comma) old.rest) c.in_ok-take_fixed.field-0 c.in_ok-take_fixed.ensures.mark c.if-branch.true in
    let shorter : length old.rest ≡ suc (length new.rest) = ap length came.all in
    record {
      read_so_far = λ k.
          c.terms.invariant.read_so_far k
          ∙ term_came c.terms.terms k old new came c.in_ok-take_fixed.ensures.end
          ∙ c.in_ok-term-2.ensures.leads (λ (x : Term). termed (c.terms.terms ++ x ∷ []) k)
          ∙ ap (λ v. part rule_reader (termed v k) c.term-in-terms.new.reader) (sym c.in_ok-push-2.ensures.ok);
      fewer = omega (arith, c.terms.invariant.fewer, c.in_ok-term-2.ensures.fewer);
    }
