-- One thing is said of a text.
use Rattle.std.proofs.Common.{◌≡◌, inl, inr, ℕ, List, sym, ◌∙◌, ap, subst}
use Rattle.std.specs.Prelude.{codes}
use Rattle.sg_explain.specs.sg_facts.Facts.{Facts}
use Rattle.sg_explain.specs.sg_facts.Interface.{Declared}
use Rattle.sg_explain.specs.sg_facts.Tables.{AreTables}
use Rattle.sg_explain.specs.sg_input.sg_print.TablesText.{tables_text}
use Rattle.sg_explain.specs.sg_input.sg_print.sg_parse.declared.tree.Tree.{Tree}
use Rattle.sg_explain.proofs.sg_input.OneInput.{one_tree}
use Rattle.sg_explain.proofs.sg_input.OneVerdict.{one_compiled, one_upgraded, one_verdict}
use Rattle.sg_explain.proofs.sg_input.sg_stub.OneTable.{one_table}
use Rattle.sg_explain.specs.sg_input.Inside.Said.{accepted_line}
use Rattle.sg_explain.specs.sg_input.Lines.{refused_line}
use Rattle.sg_explain.specs.sg_input.Verdicts.{IsCompiled, IsVerdict}
use Rattle.sg_explain.specs.sg_input.declared.read.Read.{Read}
use Rattle.sg_explain.specs.sg_input.declared.read.Read.TheVariants.{Ready, Refused}
use Rattle.sg_own.specs.Faults.{IsOwnAccepted}
use Rattle.sg_own.proofs.One.{not_both, one_fault, one_interface}
use Rattle.sg_judge.specs.Names.{own_name}
use Rattle.sg_judge.specs.Said.{IsChecked, IsOfServices, IsOwnRefusal, IsOwnSaid, IsOwnText, IsRenewed, IsSaid, IsTabled, OwnAccepted, OwnTables}

-- what is said where a text is accepted implies that it is, and is one thing
record IsOneOutput (Accepts : List ℕ → Tree → List ℕ → Type 0) : Type 0 where
  accepted : (text : List ℕ) (tree : Tree) (output : List ℕ) → Accepts text tree output → (i : Declared) × IsOwnAccepted tree i
  one : (text : List ℕ) (tree : Tree) (one other : List ℕ) → Accepts text tree one → Accepts text tree other → one ≡ other

module _ (Accepts : List ℕ → Tree → List ℕ → Type 0) (alone : IsOneOutput Accepts) where
  one_own_tree : (text : List ℕ) (one other : Tree) → IsOwnText text one → IsOwnText text other → other ≡ one
  one_own_tree text one other a b = one_tree text other one b.parses a.parses

  never_both : (text : List ℕ) (tree : Tree) (output line : List ℕ) → Accepts text tree output → IsOwnRefusal text tree line → ⊥
  never_both text tree output line is (kind, at, fault, told) =
      let accepted = alone.accepted text tree output is in not_both tree accepted.0 kind at accepted.1 fault

  one_own : (text : List ℕ) (one other : Read (List ℕ)) → IsOwnSaid Accepts text one → IsOwnSaid Accepts text other → one ≡ other
  one_own text (Ready one) (Ready other) (tree, own, is) (tree', own', is') =
      ap Ready (alone.one text tree one other is (subst (λ t. Accepts text t other) (one_own_tree text tree tree' own own') is'))
  one_own text (Ready one) (Refused other) (tree, own, is) (tree', own', is') =
      absurd (never_both text tree one other is (subst (λ t. IsOwnRefusal text t other) (one_own_tree text tree tree' own own') is'))
  one_own text (Refused one) (Ready other) (tree, own, is) (tree', own', is') =
      absurd (never_both text tree other one (subst (λ t. Accepts text t other) (one_own_tree text tree tree' own own') is') is)
  one_own text (Refused one) (Refused other) (tree, own, is) (tree', own', is') =
      let (kind, at, fault, told) = is in
      let (kind', at', fault', told') = subst (λ t. IsOwnRefusal text t other) (one_own_tree text tree tree' own own') is' in
      let same = one_fault tree kind kind' at at' fault fault' in
      ap Refused (told ∙ ap (λ k. refused_line (codes "interface refused at ") text at (own_name k)) same.0
      ∙ ap (λ n. refused_line (codes "interface refused at ") text n (own_name kind')) same.1 ∙ sym told')

  own_not : (text : List ℕ) (answer : Read (List ℕ)) → IsOwnSaid Accepts text answer → IsOfServices text → ⊥
  own_not text (Ready output) (tree, own, is) none = none tree own
  own_not text (Refused line) (tree, own, is) none = none tree own

  -- one thing is said of any text, where it is of texts of services
  one_said : (Judged : List Facts → List ℕ → Read (List ℕ) → Type 0) (services : List Facts) (text : List ℕ)
      → ((one other : Read (List ℕ)) → Judged services text one → Judged services text other → one ≡ other)
      → (one other : Read (List ℕ)) → IsSaid Judged Accepts services text one → IsSaid Judged Accepts services text other → one ≡ other
  one_said Judged services text judged one other (inl a) (inl b) = one_own text one other a b
  one_said Judged services text judged one other (inl a) (inr b) = absurd (own_not text one a b.0)
  one_said Judged services text judged one other (inr a) (inl b) = absurd (own_not text other b a.0)
  one_said Judged services text judged one other (inr a) (inr b) = judged one other a.1 b.1

-- ---- the three

by_line : IsOneOutput OwnAccepted
by_line = record {
  accepted = λ text tree line (i, is, told). (i, is);
  one = λ text tree one other (i, is, told) (i', is', told'). told ∙ ap (λ (d : Declared). accepted_line d.facts.name) (one_interface tree i i' is is') ∙ sym told';
}

by_tables : IsOneOutput OwnTables
by_tables = record {
  accepted = λ text tree output (tables, is, are, told). (tables.iface, is);
  one = λ text tree one other (tables, is, are, told) (tables', is', are', told').
      let own = one_interface tree tables.iface tables'.iface is is' in
      let walks = one_table tables.iface tables.walks tables'.walks are (subst (λ i. AreTables i tables'.walks) (sym own) are') in
      told ∙ ap (λ i. tables_text (record { iface = i; walks = tables.walks })) own
      ∙ ap (λ w. tables_text (record { iface = tables'.iface; walks = w })) walks ∙ sym told';
}

pub one_checked : (services : List Facts) (text : List ℕ) (one other : Read (List ℕ)) → IsChecked services text one → IsChecked services text other → one ≡ other
one_checked services text = one_said OwnAccepted by_line IsVerdict services text (one_verdict services text)

pub one_tabled : (services : List Facts) (text : List ℕ) (one other : Read (List ℕ)) → IsTabled services text one → IsTabled services text other → one ≡ other
one_tabled services text = one_said OwnTables by_tables IsCompiled services text (one_compiled services text)

pub one_renewed : (services : List Facts) (text : List ℕ) (one other : Read (List ℕ)) → IsRenewed services text one → IsRenewed services text other → one ≡ other
one_renewed services text one other (inl a) (inl b) = a.1 ∙ sym b.1
one_renewed services text one other (inl ((tree, own), is)) (inr (none, other_is)) = absurd (none tree own)
one_renewed services text one other (inr (none, is)) (inl ((tree, own), other_is)) = absurd (none tree own)
one_renewed services text one other (inr a) (inr b) = one_upgraded services text one other a.1 b.1
