-- A legal history is one that is legal from the empty object on.
use Rattle.std.proofs.Common.{◌≡◌, List, [], ◌∷◌, ◌++◌, Some, refl, ap, subst}
use Rattle.sg_facts.specs.declared.entry.Entry.{Entry}
use Rattle.sg_facts.specs.Interface.{Declared}
use Rattle.sg_facts.specs.Object.{Object, after, empty_object}
use Rattle.sg_facts.specs.Inside.Rows.{object_from}
use Rattle.sg_facts.specs.Legal.{Table, answer, IsLegal, LegalFrom}

module _ (i : Declared) (ask : Table) where
  -- legal at each place, from an object on
  abbrev AtEach : Object → List Entry → Type 0
  AtEach o history = (before : List Entry) (e : Entry) (rest : List Entry) → history ≡ before ++ e ∷ rest
      → answer i ask (object_from i.facts o before) e.call ≡ Some e.reply

  at_each : (o : Object) (history : List Entry) → LegalFrom i ask o history → AtEach o history
  at_each o [] legal [] e rest is = absurd (cc is)
  at_each o [] legal (b ∷ before) e rest is = absurd (cc is)
  at_each o (x ∷ history) legal [] e rest is =
      let same : x ≡ e = cc is in
      subst (λ y. answer i ask o y.call ≡ Some y.reply) same legal.0
  at_each o (x ∷ history) legal (b ∷ before) e rest is =
      let same : x ≡ b = cc is in
      let left : history ≡ before ++ e ∷ rest = cc is in
      subst (λ y. answer i ask (object_from i.facts (after i.facts o y.call y.reply) before) e.call ≡ Some e.reply) same
      (at_each (after i.facts o x.call x.reply) history legal.1 before e rest left)

  from_each : (o : Object) (history : List Entry) → AtEach o history → LegalFrom i ask o history
  from_each o [] each = tt
  from_each o (x ∷ history) each =
      (each [] x history refl, from_each (after i.facts o x.call x.reply) history (λ before e rest is. each (x ∷ before) e rest (ap (λ l. x ∷ l) is)))

  pub IsLegal-from : (history : List Entry) → LegalFrom i ask empty_object history → IsLegal i ask history
  IsLegal-from history legal = at_each empty_object history legal

  pub LegalFrom-is : (history : List Entry) → IsLegal i ask history → LegalFrom i ask empty_object history
  LegalFrom-is history legal = from_each empty_object history legal
