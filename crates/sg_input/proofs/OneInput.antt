-- An input is one thing: its two texts are one pair, and each of them has one reading.
use Rattle.std.proofs.Common.{◌≡◌, inl, inr, ℕ, ◌<◌, ◌≤◌, List, Some, IfOk, length, refl, sym, ◌∙◌, ap, subst, arith}
use Rattle.std.specs.Prelude.{Ok, Err, codes}
use Rattle.std.specs.declared.result.Result.{Result}
use Rattle.sg_facts.specs.sg_base.declared.memory.NoMemory.{NoMemory}
use Rattle.sg_script.specs.sg_lex.Tokens.{answers_of}
use Rattle.sg_facts.specs.Facts.{Facts}
use Rattle.sg_facts.specs.Interface.{Declared}
use Rattle.sg_print.specs.sg_parse.sg_rules.declared.error.ParseError.{ParseError}
use Rattle.sg_input.specs.sg_parse.declared.tree.Tree.{Tree}
use Rattle.sg_input.specs.sg_parse.Grammar.Parses.{Parses}
use Rattle.sg_input.proofs.sg_parse.Grammar.Readings.{only_answer}
use Rattle.sg_input.specs.sg_check_statements.Faults.{IsAccepted, interface_of}
use Rattle.sg_input.specs.Lines.{refused_line}
use Rattle.sg_input.specs.Verdicts.{IsVerdict, refusal_name, services_for}
use Rattle.sg_input.specs.Inside.Said.{accepted_line, script_line}
use Rattle.sg_input.proofs.OneVerdict.{one_refusal, one_verdict}
use Rattle.sg_script.specs.declared.fault.ScriptError.{ScriptError}
use Rattle.sg_script.specs.declared.fault.ScriptError.TheVariants.{NoMemory as no_room, Fault}
use Rattle.sg_script.specs.declared.fault.ScriptFault.{ScriptFault}
use Rattle.sg_script.specs.declared.script.Script.{Script}
use Rattle.sg_script.proofs.Unique.{one_reading}
use Rattle.sg_input.specs.declared.read.Read.{Read}
use Rattle.sg_input.specs.declared.read.Read.TheVariants.{Ready, Refused}
use Rattle.sg_input.specs.Inputs.{AreTexts, IsInputOf, IsInterface, IsReadAs, IsReady, IsRefusedInput, IsRefusedText, IsScriptOf, Judging, judged_by, most_interface, most_script}
use Rattle.sg_input.specs.Inside.Parted.{HasLongText, HasNoDivider, IsBadInterface, IsRefusedFront}
use Rattle.sg_input.proofs.OneCut.{one_cut}

-- ---- the interface

abbrev Parsed : Type 0
Parsed = Result Tree ParseError

pub one_tree : (text : List ℕ) (one other : Tree) → Parses text (Ok one) → Parses text (Ok other) → one ≡ other
one_tree text one other p q =
    let same : ◌≡◌ {A = Parsed} (Ok one) (Ok other) =
    sym (only_answer (length text) (answers_of text) (Ok one) p (λ e. cc)) ∙ only_answer (length text) (answers_of text) (Ok other) q (λ e. cc) in cc same

one_declared : (services : List Facts) (tree : Tree) (i j : Declared) → IsAccepted (services_for services tree) tree i → IsAccepted (services_for services tree) tree j → i ≡ j
one_declared services tree i j a b =
    let found : Some a.facts ≡ Some b.facts = sym a.service ∙ b.service in
    let same : a.facts ≡ b.facts = cc in
    a.declared ∙ ap (λ f. interface_of f tree) same ∙ sym b.declared

pub one_interface : (services : List Facts) (text : List ℕ) (i j : Declared) → IsInterface services text i → IsInterface services text j → i ≡ j
one_interface services text i j (tree, p, is) (tree', q, is') =
    one_declared services tree i j is (subst (λ t. IsAccepted (services_for services t) t j) (one_tree text tree' tree q p) is')

pub not_refused : (services : List Facts) (text : List ℕ) (i : Declared) (line : List ℕ) → IsInterface services text i → IsVerdict services text (Refused line) → ⊥
not_refused services text i line (tree, p, is) said =
    let same : ◌≡◌ {A = Read (List ℕ)} (Ready (accepted_line i.facts.name)) (Refused line) =
    one_verdict services text (Ready (accepted_line i.facts.name)) (Refused line) (tree, i, p, is, refl) said in absurd cc

-- ---- how texts are judged

-- each text is judged in one way
pub record IsOneJudging (judging : Judging) : Type 0 where
  pub one : (text : List ℕ) (i j : Declared) → judging.accepts text i → judging.accepts text j → i ≡ j
  pub flaw : (text name name' : List ℕ) (at at' : ℕ) → judging.flaw text name at → judging.flaw text name' at' → (name ≡ name') × (at ≡ at')
  pub apart : (text : List ℕ) (i : Declared) (name : List ℕ) (at : ℕ) → judging.accepts text i → judging.flaw text name at → ⊥

one_flaw : (services : List Facts) (text name name' : List ℕ) (at at' : ℕ) → (judged_by services).flaw text name at → (judged_by services).flaw text name' at'
    → (name ≡ name') × (at ≡ at')
one_flaw services text name name' at at' (kind, bad, is) (kind', bad', is') =
    let both = one_refusal services text kind kind' at at' bad bad' in (is ∙ ap refusal_name both.0 ∙ sym is', both.1)

flawless : (services : List Facts) (text : List ℕ) (i : Declared) (name : List ℕ) (at : ℕ) → IsInterface services text i → (judged_by services).flaw text name at → ⊥
flawless services text i name at accepted (kind, bad, is) =
    not_refused services text i (refused_line (codes "interface refused at ") text at (refusal_name kind)) accepted (kind, at, bad, refl)

pub judged_alone : (services : List Facts) → IsOneJudging (judged_by services)
judged_alone services = record { one = one_interface services; flaw = one_flaw services; apart = flawless services }

-- what a verdict refuses is refused as the text of an interface
pub refused_text : (services : List Facts) (text line : List ℕ) → IsVerdict services text (Refused line) → IsRefusedText (judged_by services) text line
refused_text services text line (kind, at, bad, is) = (refusal_name kind, at, (kind, bad, refl), is)

module _ (judging : Judging) (alone : IsOneJudging judging) (text : List ℕ) where
  -- a text is refused with one line
  one_text_line : (line line' : List ℕ) → IsRefusedText judging text line → IsRefusedText judging text line' → line ≡ line'
  one_text_line line line' (name, at, bad, is) (name', at', bad', is') =
      let both = alone.flaw text name name' at at' bad bad' in
      is ∙ ap (refused_line (codes "interface refused at ") text at) both.0 ∙ ap (λ n. refused_line (codes "interface refused at ") text n name') both.1 ∙ sym is'

  -- it isn't accepted and refused
  never_both : (line : List ℕ) (i : Declared) → judging.accepts text i → IsRefusedText judging text line → ⊥
  never_both line i is (name, at, bad, said) = alone.apart text i name at is bad

-- ---- the two texts

module _ (most : ℕ) (judging : Judging) (alone : IsOneJudging judging) (input : List ℕ) where
  same_interface : (a b a' b' : List ℕ) → AreTexts most input a b → AreTexts most input a' b' → a ≡ a'
  same_interface a b a' b' t t' = (one_cut input a b a' b' t.cut t'.cut).0

  same_second : (a b a' b' : List ℕ) → AreTexts most input a b → AreTexts most input a' b' → b ≡ b'
  same_second a b a' b' t t' = (one_cut input a b a' b' t.cut t'.cut).1

  same_declared : (a b a' b' : List ℕ) (i j : Declared) → AreTexts most input a b → AreTexts most input a' b' → judging.accepts a i → judging.accepts a' j → i ≡ j
  same_declared a b a' b' i j t t' is is' =
      alone.one a i j is (subst (λ v. judging.accepts v j) (sym (same_interface a b a' b' t t')) is')

  too_long : (n m limit : ℕ) → n ≡ m → limit < n → m ≤ limit → ⊥
  too_long n m limit same gt le = omega (arith, same, gt, le)

  not_long : (a b : List ℕ) → HasLongText most input → AreTexts most input a b → ⊥
  not_long a b long t =
      let both = one_cut input long.0 long.1 a b long.2 t.cut in
      elim long.3 [
        | inl gt ↦ too_long (length long.0) (length a) most_interface (ap length both.0) gt t.interface_fits
        | inr gt ↦ too_long (length long.1) (length b) most (ap length both.1) gt t.second_fits
      ]

  bad_interfaces : (line line' : List ℕ) → IsBadInterface most judging input line → IsBadInterface most judging input line' → line ≡ line'
  bad_interfaces line line' a b =
      one_text_line judging alone a.0 line line' a.3 (subst (λ v. IsRefusedText judging v line') (sym (same_interface a.0 a.1 b.0 b.1 a.2 b.2)) b.3)

  -- an input that is refused whatever its second text is has no accepted interface beside a text that fits
  pub not_front : (line a b : List ℕ) (i : Declared) → IsRefusedFront most judging input line → AreTexts most input a b → judging.accepts a i → ⊥
  not_front line a b i (inl (none, said)) t is = none a b t.cut.divides
  not_front line a b i (inr (inl (long, said))) t is = not_long a b long t
  not_front line a b i (inr (inr bad)) t is =
      never_both judging alone a line i is (subst (λ v. IsRefusedText judging v line) (same_interface bad.0 bad.1 a b bad.2 t) bad.3)

  not_divided : (line : List ℕ) → HasNoDivider input → IsBadInterface most judging input line → ⊥
  not_divided line none bad = none bad.0 bad.1 bad.2.cut.divides

  one_front : (line line' : List ℕ) → IsRefusedFront most judging input line → IsRefusedFront most judging input line' → line ≡ line'
  one_front line line' (inl (none, is)) (inl (none', is')) = is ∙ sym is'
  one_front line line' (inl (none, is)) (inr (inl (long, is'))) = absurd (none long.0 long.1 long.2.divides)
  one_front line line' (inl (none, is)) (inr (inr bad)) = absurd (not_divided line' none bad)
  one_front line line' (inr (inl (long, is))) (inl (none, is')) = absurd (none long.0 long.1 long.2.divides)
  one_front line line' (inr (inl (long, is))) (inr (inl (long', is'))) = is ∙ sym is'
  one_front line line' (inr (inl (long, is))) (inr (inr bad)) = absurd (not_long bad.0 bad.1 long bad.2)
  one_front line line' (inr (inr bad)) (inl (none, is')) = absurd (not_divided line none bad)
  one_front line line' (inr (inr bad)) (inr (inl (long, is'))) = absurd (not_long bad.0 bad.1 long bad.2)
  one_front line line' (inr (inr bad)) (inr (inr bad')) = bad_interfaces line line' bad bad'

  -- ---- the input, where a text of the second kind has one reading
  module _ {A : Type 0} (Reads : Declared → List ℕ → Read A → Type 0)
      (one_reading : (i : Declared) (text : List ℕ) (one other : Read A) → Reads i text one → Reads i text other → one ≡ other) where
    moved : (a b a' b' : List ℕ) (i j : Declared) (read : Read A) → AreTexts most input a b → AreTexts most input a' b'
        → judging.accepts a i → judging.accepts a' j → Reads j b' read → Reads i b read
    moved a b a' b' i j read t t' is is' reads =
        subst (λ v. Reads v b read) (sym (same_declared a b a' b' i j t t' is is')) (subst (λ v. Reads j v read) (sym (same_second a b a' b' t t')) reads)

    -- an input isn't refused and read
    pub never_read : (line : List ℕ) (i : Declared) (read : A) → IsRefusedInput most Reads judging input line → IsReadAs most Reads judging input i read → ⊥
    never_read line i read (inl front) ready = not_front line ready.interface ready.second i front ready.texts ready.accepted
    never_read line i read (inr bad) ready =
        let same : ◌≡◌ {A = Read A} (Ready read) (Refused line) =
        one_reading bad.3 bad.1 (Ready read) (Refused line)
        (moved bad.0 bad.1 ready.interface ready.second bad.3 i (Ready read) bad.2 ready.texts bad.4 ready.accepted ready.reads)
        bad.5 in
        absurd cc

    -- it is refused with one line
    pub one_line : (line line' : List ℕ) → IsRefusedInput most Reads judging input line → IsRefusedInput most Reads judging input line' → line ≡ line'
    one_line line line' (inl a) (inl b) = one_front line line' a b
    one_line line line' (inl a) (inr b) = absurd (not_front line b.0 b.1 b.3 a b.2 b.4)
    one_line line line' (inr a) (inl b) = absurd (not_front line' a.0 a.1 a.3 b a.2 a.4)
    one_line line line' (inr a) (inr b) =
        let same : ◌≡◌ {A = Read A} (Refused line) (Refused line') =
        one_reading a.3 a.1 (Refused line) (Refused line') a.5 (moved a.0 a.1 b.0 b.1 a.3 b.3 (Refused line') a.2 b.2 a.4 b.4 b.5) in
        cc same

    -- it is read as one thing
    pub one_read : (i j : Declared) (read read' : A) → IsReadAs most Reads judging input i read → IsReadAs most Reads judging input j read' → (i ≡ j) × (read ≡ read')
    one_read i j read read' a b =
        let same : ◌≡◌ {A = Read A} (Ready read) (Ready read') =
        one_reading i a.second (Ready read) (Ready read') a.reads
        (moved a.interface a.second b.interface b.second i j (Ready read') a.texts b.texts a.accepted b.accepted b.reads) in (
          same_declared a.interface a.second b.interface b.second i j a.texts b.texts a.accepted b.accepted,
          cc same,
        )

-- ---- scripts

abbrev Answer : Type 0
Answer = Result Script ScriptError

read_well : (script : Script) → ◌≡◌ {A = Answer} (Ok script) (Err no_room) → ⊥
read_well script e = absurd cc

read_ill : (fault : ScriptFault) → ◌≡◌ {A = Answer} (Err (Fault fault)) (Err no_room) → ⊥
read_ill fault e = absurd cc

-- a text is one script, or has one fault first
one_script : (i : Declared) (text : List ℕ) (one other : Read Script) → IsScriptOf i text one → IsScriptOf i text other → one ≡ other
one_script i text (Ready one) (Ready other) r s =
    let same : ◌≡◌ {A = Answer} (Ok one) (Ok other) = one_reading i text (Ok one) (Ok other) r s (read_well one) (read_well other) in
    let scripts : one ≡ other = cc same in
    ap Ready scripts
one_script i text (Ready script) (Refused line) r (fault, s, is) =
    let same : ◌≡◌ {A = Answer} (Ok script) (Err (Fault fault)) = one_reading i text (Ok script) (Err (Fault fault)) r s (read_well script) (read_ill fault) in absurd cc
one_script i text (Refused line) (Ready script) (fault, s, is) r =
    let same : ◌≡◌ {A = Answer} (Ok script) (Err (Fault fault)) = one_reading i text (Ok script) (Err (Fault fault)) r s (read_well script) (read_ill fault) in absurd cc
one_script i text (Refused line) (Refused line') (one, r, is) (other, s, is') =
    let same : ◌≡◌ {A = Answer} (Err (Fault one)) (Err (Fault other)) = one_reading i text (Err (Fault one)) (Err (Fault other)) r s (read_ill one) (read_ill other) in
    let faults : one ≡ other = cc same in
    ap Refused (is ∙ ap (script_line text) faults ∙ sym is')

module _ (judging : Judging) (alone : IsOneJudging judging) (input : List ℕ) where
  pub never_ready : (line : List ℕ) (i : Declared) (script : Script) → IsInputOf judging input (Refused line) → IsReady judging input i script → ⊥
  never_ready line i script = never_read most_script judging alone input IsScriptOf one_script line i script

  pub one_ready : (i j : Declared) (script script' : Script) → IsReady judging input i script → IsReady judging input j script' → (i ≡ j) × (script ≡ script')
  one_ready i j script script' = one_read most_script judging alone input IsScriptOf one_script i j script script'

  pub one_input : (one other : Read (Declared × Script)) → IsInputOf judging input one → IsInputOf judging input other → one ≡ other
  one_input (Refused line) (Refused line') a b = ap Refused (one_line most_script judging alone input IsScriptOf one_script line line' a b)
  one_input (Refused line) (Ready (i, script)) a b = absurd (never_ready line i script a b)
  one_input (Ready (i, script)) (Refused line) a b = absurd (never_ready line i script b a)
  one_input (Ready (i, script)) (Ready (j, script')) a b =
      let both = one_ready i j script script' a b in
      ap (λ v. Ready (v, script)) both.0 ∙ ap (λ s. Ready (j, s)) both.1

  -- where it is answered at all, it is that one
  pub only : (answer : Result (Read (Declared × Script)) NoMemory) → IfOk answer (IsInputOf judging input)
      → (other : Read (Declared × Script)) → IsInputOf judging input other → IfOk answer (λ v. v ≡ other)
  only (Ok v) is other said = one_input v other is said
  only (Err e) is other said = tt
