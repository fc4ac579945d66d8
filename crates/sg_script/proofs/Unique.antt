-- A text has one answer, want of memory aside.
use Rattle.std.proofs.Common.{◌≡◌, ◌≢◌, ◌⊎◌, inl, inr, ℕ, Bool, true, false, List, [], ◌∷◌, length, Ok, Err, refl, sym, ◌∙◌, ap, subst, arith}
use Rattle.std.specs.declared.result.Result.{Result}
use Rattle.std.specs.List.{Contains}
use Rattle.sg_facts.specs.Interface.{Declared}
use Rattle.sg_script_parse.specs.sg_lex.Tokens.{answers_of}
use Rattle.sg_script_parse.specs.declared.error.ScriptSyntax.{ScriptSyntax}
use Rattle.sg_script_parse.specs.declared.error.ScriptSyntax.TheVariants.{NoMemory as no_memory, Syntax as syntax}
use Rattle.sg_script_parse.specs.declared.tree.Part.{Part}
use Rattle.sg_script_parse.specs.Grammar.Parses.{ScriptParses}
use Rattle.sg_script_parse.proofs.Grammar.Readings.{only_answer}
use Rattle.sg_script.specs.declared.multi.MultiScript.{MultiScript}
use Rattle.sg_script.specs.declared.script.Script.{Script}
use Rattle.sg_script.specs.declared.fault.ScriptFault.{ScriptFault}
use Rattle.sg_script.specs.declared.fault.ScriptError.{ScriptError}
use Rattle.sg_script.specs.declared.fault.ScriptKind.TheVariants.{Syntax}
use Rattle.sg_script.specs.declared.fault.ScriptError.TheVariants.{NoMemory, Fault}
use Rattle.sg_script.specs.Flaws.{IsFirstFlaw, flaws_of}
use Rattle.sg_script.specs.Reads.{IsMultiReadingOf, IsReadingBy, IsReadingOf}
use Rattle.sg_script.specs.Scripts.{multi_script_of, script_of}
use Rattle.sg_script.proofs.Earliest.{one_at_most}

abbrev Parsed : Type 0
Parsed = Result (List Part) ScriptSyntax

one_parse : (several : Bool) (text : List ℕ) (a b : Parsed) → ScriptParses several text a → ScriptParses several text b → a ≢ Err no_memory → b ≢ Err no_memory → a ≡ b
one_parse several text a b h g n m = sym (only_answer several (length text) (answers_of text) a h n) ∙ only_answer several (length text) (answers_of text) b g m

read_parts : (parts : List Part) → ◌≡◌ {A = Parsed} (Ok parts) (Err no_memory) → ⊥
read_parts parts e = absurd cc

failed_there : (at : ℕ) → ◌≡◌ {A = Parsed} (Err (syntax at)) (Err no_memory) → ⊥
failed_there at e = absurd cc

one_list : (several : Bool) (text : List ℕ) (one other : List Part) → ScriptParses several text (Ok one) → ScriptParses several text (Ok other) → one ≡ other
one_list several text one other h g =
    let same : ◌≡◌ {A = Parsed} (Ok one) (Ok other) = one_parse several text (Ok one) (Ok other) h g (read_parts one) (read_parts other) in cc same

one_place : (several : Bool) (text : List ℕ) (here there : ℕ) → ScriptParses several text (Err (syntax here)) → ScriptParses several text (Err (syntax there)) → here ≡ there
one_place several text here there h g =
    let same : ◌≡◌ {A = Parsed} (Err (syntax here)) (Err (syntax there)) = one_parse several text (Err (syntax here)) (Err (syntax there)) h g (failed_there here) (failed_there there) in cc same

not_both : (several : Bool) (text : List ℕ) (parts : List Part) (at : ℕ) → ScriptParses several text (Ok parts) → ScriptParses several text (Err (syntax at)) → ⊥
not_both several text parts at h g =
    let same : ◌≡◌ {A = Parsed} (Ok parts) (Err (syntax at)) = one_parse several text (Ok parts) (Err (syntax at)) h g (read_parts parts) (failed_there at) in absurd cc

none_there : (f : ScriptFault) → Contains [] f → ⊥
none_there f (k, within, is) = omega (arith, within)

same_fault : (f g : ScriptFault) → f.kind ≡ g.kind → f.at ≡ g.at → f ≡ g
same_fault f g kind at = ap (λ a. record { at = a; kind = f.kind }) at ∙ ap (λ k. record { at = g.at; kind = k }) kind

module _ {S : Type 0} (several : Bool) (members : List Declared) (make : List Part → S) where
  -- a text is no script of the grammar, and fails at this place
  abbrev IsNoScript : List ℕ → ScriptFault → Type 0
  IsNoScript text f = (f.kind ≡ Syntax) × ScriptParses several text (Err (syntax f.at))

  -- a text is a script of the grammar, and this is the first that is wrong with it
  abbrev IsFlawed : List ℕ → ScriptFault → Type 0
  IsFlawed text f = (parts : List Part) × ScriptParses several text (Ok parts) × IsFirstFlaw (flaws_of members parts) f

  abbrev Reads : List ℕ → Result S ScriptError → Type 0
  Reads text read = IsReadingBy several members make text read

  not_flawless : (text : List ℕ) (script : S) (f : ScriptFault) → Reads text (Ok script) → IsFlawed text f → ⊥
  not_flawless text script f good bad =
      let same : good.0 ≡ bad.0 = one_list several text good.0 bad.0 good.1 bad.1 in
      none_there f (subst (λ flaws. Contains flaws f) (ap (flaws_of members) (sym same) ∙ good.2) bad.2.there)

  one_fault : (text : List ℕ) (f g : ScriptFault) → IsNoScript text f ⊎ IsFlawed text f → IsNoScript text g ⊎ IsFlawed text g → f ≡ g
  one_fault text f g (inl a) (inl b) = same_fault f g (a.0 ∙ sym b.0) (one_place several text f.at g.at a.1 b.1)
  one_fault text f g (inl a) (inr b) = absurd (not_both several text b.0 f.at b.1 a.1)
  one_fault text f g (inr a) (inl b) = absurd (not_both several text a.0 g.at a.1 b.1)
  one_fault text f g (inr a) (inr b) =
      let same : a.0 ≡ b.0 = one_list several text a.0 b.0 a.1 b.1 in
      one_at_most (flaws_of members b.0) f g (subst (λ parts. IsFirstFlaw (flaws_of members parts) f) same a.2) b.2

  not_fault : (text : List ℕ) (script : S) (f : ScriptFault) → Reads text (Ok script) → IsNoScript text f ⊎ IsFlawed text f → ⊥
  not_fault text script f good (inl bad) = not_both several text good.0 f.at good.1 bad.1
  not_fault text script f good (inr bad) = not_flawless text script f good bad

  -- two answers on one text are one
  same_answer : (text : List ℕ) (one other : Result S ScriptError) → Reads text one → Reads text other → one ≢ Err NoMemory → other ≢ Err NoMemory → one ≡ other
  same_answer text (Ok s) (Ok t) a b n m =
      let same : a.0 ≡ b.0 = one_list several text a.0 b.0 a.1 b.1 in
      ap Ok (a.3 ∙ ap make same ∙ sym b.3)
  same_answer text (Ok s) (Err NoMemory) a b n m = absurd (m refl)
  same_answer text (Ok s) (Err (Fault f)) a b n m = absurd (not_fault text s f a b)
  same_answer text (Err NoMemory) other a b n m = absurd (n refl)
  same_answer text (Err (Fault f)) (Ok t) a b n m = absurd (not_fault text t f b a)
  same_answer text (Err (Fault f)) (Err NoMemory) a b n m = absurd (m refl)
  same_answer text (Err (Fault f)) (Err (Fault g)) a b n m = ap (λ h. Err (Fault h)) (one_fault text f g a b)

  -- an answer is the one that may be given, or there was no memory
  only_answer_by : (text : List ℕ) (one other : Result S ScriptError) → Reads text one → Reads text other → other ≢ Err NoMemory → (one ≡ other) ⊎ (one ≡ Err NoMemory)
  only_answer_by text (Ok s) other a b m = inl (same_answer text (Ok s) other a b (λ e. absurd cc) m)
  only_answer_by text (Err NoMemory) other a b m = inr refl
  only_answer_by text (Err (Fault f)) other a b m = inl (same_answer text (Err (Fault f)) other a b (λ e. absurd cc) m)

-- for one interface
pub one_reading : (i : Declared) (text : List ℕ) (one other : Result Script ScriptError) → IsReadingOf i text one → IsReadingOf i text other
    → one ≢ Err NoMemory → other ≢ Err NoMemory → one ≡ other
one_reading i text one other a b n m = same_answer false (i ∷ []) (script_of i) text one other a b n m

pub only : (i : Declared) (text : List ℕ) (one other : Result Script ScriptError) → IsReadingOf i text one → IsReadingOf i text other
    → other ≢ Err NoMemory → (one ≡ other) ⊎ (one ≡ Err NoMemory)
only i text one other a b m = only_answer_by false (i ∷ []) (script_of i) text one other a b m

-- and for several
pub one_multi_reading : (members : List Declared) (text : List ℕ) (one other : Result MultiScript ScriptError) → IsMultiReadingOf members text one → IsMultiReadingOf members text other
    → one ≢ Err NoMemory → other ≢ Err NoMemory → one ≡ other
one_multi_reading members text one other a b n m = same_answer true members (multi_script_of members) text one other a b n m

pub only_multi : (members : List Declared) (text : List ℕ) (one other : Result MultiScript ScriptError) → IsMultiReadingOf members text one → IsMultiReadingOf members text other
    → other ≢ Err NoMemory → (one ≡ other) ⊎ (one ≡ Err NoMemory)
only_multi members text one other a b m = only_answer_by true members (multi_script_of members) text one other a b m
