-- A text has one verdict, since it has one answer of the parser, and its tree one fault.
use Rattle.std.proofs.Common.{◌≡◌, ◌≢◌, ℕ, List, Some, IfOk, length, refl, sym, ◌∙◌, ap, subst}
use Rattle.std.specs.Prelude.{Ok, Err}
use Rattle.std.specs.declared.result.Result.{Result}
use Rattle.sg_facts.specs.sg_base.declared.memory.NoMemory.{NoMemory}
use Rattle.sg_print.specs.sg_lex.Tokens.{answers_of}
use Rattle.sg_facts.specs.Facts.{Facts}
use Rattle.sg_facts.specs.Interface.{Declared}
use Rattle.sg_print.specs.sg_parse.sg_rules.declared.error.ParseError.{ParseError}
use Rattle.sg_print.specs.sg_parse.sg_rules.declared.error.ParseError.TheVariants.{NoMemory as no_memory, Lex as lex_fault, Syntax as syntax_fault}
use Rattle.sg_print.specs.sg_parse.declared.tree.Tree.{Tree}
use Rattle.sg_print.specs.sg_parse.Grammar.Parses.{Parses}
use Rattle.sg_print.specs.sg_parse.Grammar.Upgraded.{upgraded}
use Rattle.sg_print.proofs.sg_parse.Grammar.Readings.{only_answer}
use Rattle.sg_facts.specs.Tables.{AreTables}
use Rattle.sg_print.specs.Printed.{printed}
use Rattle.sg_print.specs.TablesText.{tables_text}
use Rattle.sg_stub.specs.sg_check_statements.Faults.{IsAccepted, IsFault, interface_of}
use Rattle.sg_stub.proofs.sg_check.Unique.{same_fault}
use Rattle.sg_stub.proofs.OneTable.{one_table}
use Rattle.sg_input.specs.Examined.{IsExamined}
use Rattle.sg_input.specs.declared.read.Read.{Read}
use Rattle.sg_input.specs.declared.read.Read.TheVariants.{Ready, Refused}
use Rattle.sg_input.specs.declared.refusal.RefusalKind.{RefusalKind}
use Rattle.sg_input.specs.declared.refusal.RefusalKind.TheVariants.{Lex, Syntax, Check}
use Rattle.sg_input.specs.Verdicts.{IsCompiled, IsRefused, IsUpgraded, IsVerdict, services_for}
use Rattle.sg_input.specs.Inside.Said.{accepted_line, refusal_line}

-- a text has one answer of the parser, want of memory aside
one_answer : (text : List ℕ) (one other : Result Tree ParseError) → Parses text one → Parses text other
    → one ≢ Err no_memory → other ≢ Err no_memory → one ≡ other
one_answer text one other p q m n = sym (only_answer (length text) (answers_of text) one p m) ∙ only_answer (length text) (answers_of text) other q n

-- a text has one tree
one_tree : (text : List ℕ) (one other : Tree) → Parses text (Ok one) → Parses text (Ok other) → one ≡ other
one_tree text one other p q =
    let same : Ok one ≡ Ok other = one_answer text (Ok one) (Ok other) p q (λ e. cc) (λ e. cc) in cc

-- a sentence is refused by no parser
no_error : (text : List ℕ) (tree : Tree) (error : ParseError) → error ≢ no_memory → Parses text (Ok tree) → Parses text (Err error) → ⊥
no_error text tree error memory p q =
    let same : Ok tree ≡ Err error = one_answer text (Ok tree) (Err error) p q (λ e. cc) (λ e. memory cc) in cc

one_error : (text : List ℕ) (one other : ParseError) → one ≢ no_memory → other ≢ no_memory
    → Parses text (Err one) → Parses text (Err other) → one ≡ other
one_error text one other m n p q =
    let same : Err one ≡ Err other = one_answer text (Err one) (Err other) p q (λ e. m cc) (λ e. n cc) in cc

pub one_refusal : (services : List Facts) (text : List ℕ) (one other : RefusalKind) (here there : ℕ)
    → IsRefused services text one here → IsRefused services text other there → (one ≡ other) × (here ≡ there)
one_refusal services text Lex Lex here there p q =
    let same : lex_fault here ≡ lex_fault there = one_error text (lex_fault here) (lex_fault there) (λ e. cc) (λ e. cc) p q in
    (refl, cc)
one_refusal services text Syntax Syntax here there p q =
    let same : syntax_fault here ≡ syntax_fault there = one_error text (syntax_fault here) (syntax_fault there) (λ e. cc) (λ e. cc) p q in
    (refl, cc)
one_refusal services text Lex Syntax here there p q =
    let same : lex_fault here ≡ syntax_fault there = one_error text (lex_fault here) (syntax_fault there) (λ e. cc) (λ e. cc) p q in cc
one_refusal services text Syntax Lex here there p q =
    let same : syntax_fault here ≡ lex_fault there = one_error text (syntax_fault here) (lex_fault there) (λ e. cc) (λ e. cc) p q in cc
one_refusal services text Lex (Check kind) here there p (tree, q, is) =
    absurd (no_error text tree (lex_fault here) (λ e. cc) q p)
one_refusal services text Syntax (Check kind) here there p (tree, q, is) =
    absurd (no_error text tree (syntax_fault here) (λ e. cc) q p)
one_refusal services text (Check kind) Lex here there (tree, p, is) q =
    absurd (no_error text tree (lex_fault there) (λ e. cc) p q)
one_refusal services text (Check kind) Syntax here there (tree, p, is) q =
    absurd (no_error text tree (syntax_fault there) (λ e. cc) p q)
one_refusal services text (Check one) (Check other) here there (tree, p, is) (tree', q, is') =
    let same = one_tree text tree' tree q p in
    let both = same_fault (services_for services tree) tree one other here there is (subst (λ t. IsFault (services_for services t) t other there) same is') in
    (ap Check both.0, both.1)

-- an accepted text declares one interface
one_interface : (services : List Facts) (tree : Tree) (i j : Declared) → IsAccepted (services_for services tree) tree i → IsAccepted (services_for services tree) tree j → i ≡ j
one_interface services tree i j a b =
    let found : Some a.facts ≡ Some b.facts = sym a.service ∙ b.service in
    let same : a.facts ≡ b.facts = cc in
    a.declared ∙ ap (λ f. interface_of f tree) same ∙ sym b.declared

-- an accepted text isn't refused
not_both : (services : List Facts) (text : List ℕ) (tree : Tree) (i : Declared) (kind : RefusalKind) (at : ℕ)
    → Parses text (Ok tree) → IsAccepted (services_for services tree) tree i → IsRefused services text kind at → ⊥
not_both services text tree i Lex at p is q = no_error text tree (lex_fault at) (λ e. cc) p q
not_both services text tree i Syntax at p is q = no_error text tree (syntax_fault at) (λ e. cc) p q
not_both services text tree i (Check kind) at p is (tree', q, fault) =
    is.none kind at (subst (λ t. IsFault (services_for services t) t kind at) (one_tree text tree' tree q p) fault).here

pub one_verdict : (services : List Facts) (text : List ℕ) (one other : Read (List ℕ))
    → IsVerdict services text one → IsVerdict services text other → one ≡ other
one_verdict services text (Ready line) (Ready line') (tree, i, p, is, said) (tree', i', q, is', said') =
    let same = one_tree text tree' tree q p in
    let own = one_interface services tree i i' is (subst (λ t. IsAccepted (services_for services t) t i') same is') in
    ap Ready (said ∙ ap (λ d. accepted_line d.facts.name) own ∙ sym said')
one_verdict services text (Ready line) (Refused line') (tree, i, p, is, said) (kind, at, q, said') =
    absurd (not_both services text tree i kind at p is q)
one_verdict services text (Refused line) (Ready line') (kind, at, q, said) (tree, i, p, is, said') =
    absurd (not_both services text tree i kind at p is q)
one_verdict services text (Refused line) (Refused line') (kind, at, p, said) (kind', at', q, said') =
    let both = one_refusal services text kind kind' at at' p q in
    ap Refused (said ∙ ap (λ k. refusal_line text k at) both.0 ∙ ap (refusal_line text kind') both.1 ∙ sym said')

pub one_compiled : (services : List Facts) (text : List ℕ) (one other : Read (List ℕ))
    → IsCompiled services text one → IsCompiled services text other → one ≡ other
one_compiled services text (Ready output) (Ready output') (tree, tables, p, is, are, said) (tree', tables', q, is', are', said') =
    let same = one_tree text tree' tree q p in
    let own = one_interface services tree tables.iface tables'.iface is (subst (λ t. IsAccepted (services_for services t) t tables'.iface) same is') in
    let walks = one_table tables.iface tables.walks tables'.walks are (subst (λ i. AreTables i tables'.walks) (sym own) are') in
    ap Ready (said ∙ ap (λ i. tables_text (record { iface = i; walks = tables.walks })) own
    ∙ ap (λ w. tables_text (record { iface = tables'.iface; walks = w })) walks ∙ sym said')
one_compiled services text (Ready output) (Refused line) (tree, tables, p, is, are, said) (kind, at, q, said') =
    absurd (not_both services text tree tables.iface kind at p is q)
one_compiled services text (Refused line) (Ready output) (kind, at, q, said) (tree, tables, p, is, are, said') =
    absurd (not_both services text tree tables.iface kind at p is q)
one_compiled services text (Refused line) (Refused line') one other = one_verdict services text (Refused line) (Refused line') one other

pub one_upgraded : (services : List Facts) (text : List ℕ) (one other : Read (List ℕ))
    → IsUpgraded services text one → IsUpgraded services text other → one ≡ other
one_upgraded services text (Ready output) (Ready output') (tree, i, p, is, said) (tree', i', q, is', said') =
    ap Ready (said ∙ ap (λ t. printed (upgraded t)) (one_tree text tree tree' p q) ∙ sym said')
one_upgraded services text (Ready output) (Refused line) (tree, i, p, is, said) (kind, at, q, said') =
    absurd (not_both services text tree i kind at p is q)
one_upgraded services text (Refused line) (Ready output) (kind, at, q, said) (tree, i, p, is, said') =
    absurd (not_both services text tree i kind at p is q)
one_upgraded services text (Refused line) (Refused line') one other = one_verdict services text (Refused line) (Refused line') one other

pub one_examined : (services : List Facts) (text : List ℕ) (one other : Read Declared)
    → IsExamined services text one → IsExamined services text other → one ≡ other
one_examined services text (Ready i) (Ready j) (tree, p, is) (tree', q, is') =
    let same = one_tree text tree' tree q p in
    ap Ready (one_interface services tree i j is (subst (λ t. IsAccepted (services_for services t) t j) same is'))
one_examined services text (Ready i) (Refused line) (tree, p, is) (kind, at, q, said) = absurd (not_both services text tree i kind at p is q)
one_examined services text (Refused line) (Ready i) (kind, at, q, said) (tree, p, is) = absurd (not_both services text tree i kind at p is q)
one_examined services text (Refused line) (Refused line') one other =
    let same : ◌≡◌ {A = Read (List ℕ)} (Refused line) (Refused line') = one_verdict services text (Refused line) (Refused line') one other in
    let lines : line ≡ line' = cc in
    ap Refused lines

-- where there is an answer, and one value alone answers, the answer is that value
pub only : {A : Type 0} (Is : A → Type 0) (answer : Result A NoMemory) → ((one other : A) → Is one → Is other → one ≡ other) → IfOk answer Is
    → (other : A) → Is other → IfOk answer (λ v. v ≡ other)
only Is (Ok v) one is other said = one v other is said
only Is (Err e) one is other said = tt
