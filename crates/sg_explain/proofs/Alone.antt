-- An input with which nothing is wrong isn't explained as refused.
use Rattle.std.proofs.Common.{◌≡◌, ℕ, ◌≤◌, List, ◌++◌, get_or, length, sym, ◌∙◌, ap, subst, inl, inr, arith}
use Rattle.std.specs.Prelude.{codes}
use Rattle.sg_input.specs.sg_facts.Facts.{Facts}
use Rattle.sg_input.specs.sg_facts.Interface.{Declared}
use Rattle.sg_input.specs.sg_facts.Words.{line_end}
use Rattle.sg_input.proofs.OneInput.{judged_alone, never_ready, not_refused, refused_text}
use Rattle.sg_input.specs.Inputs.{IsInputOf, IsInterface, IsReady, judged_by}
use Rattle.sg_input.specs.Lines.{too_long_line}
use Rattle.sg_input.specs.Verdicts.{IsVerdict}
use Rattle.sg_input.specs.declared.read.Read.TheVariants.{Refused}
use Rattle.sg_input.specs.sg_script.declared.script.Script.{Script}
use Rattle.sg_explain.specs.Explained.{ExplainsGood, IsExplained, IsInterfaceText, IsUndivided}

module _ (services : List Facts) (input : List ℕ) where
  -- ---- an input that no line divides

  other_lines : too_long_line ≡ codes "input refused: NoDivider" ++ line_end → ⊥
  other_lines same = let letter : 84 ≡ 78 = ap (λ l. get_or l 15 0) same in omega (arith, letter)

  -- it isn't refused as one with a line that divides it and a text that is too long
  not_divided : IsUndivided input → IsInputOf (judged_by services) input (Refused too_long_line) → ⊥
  not_divided undivided (inl (inl (none, said))) = other_lines said
  not_divided undivided (inl (inr (inl (long, said)))) = undivided long.0 long.1 long.2.divides
  not_divided undivided (inl (inr (inr bad))) = undivided bad.0 bad.1 bad.2.cut.divides
  not_divided undivided (inr bad) = undivided bad.0 bad.1 bad.2.cut.divides

  all_of : (text : List ℕ) → IsUndivided input → IsInterfaceText input text → (length input ≤ 65536) × (text ≡ input)
  all_of text undivided (inl (none, fits, same)) = (fits, same)
  all_of text undivided (inr (script, texts)) = absurd (undivided text script texts.cut.divides)

  text_alone : (told line : List ℕ) → (good : ExplainsGood services input told) → IsUndivided input → IsExplained services input (Refused line) → ⊥
  text_alone told line good undivided (inl (inl (none, long), is)) = let fits = (all_of good.text undivided good.its).0 in omega (arith, fits, long)
  text_alone told line good undivided (inl (inr refused, is)) = not_divided undivided refused
  text_alone told line good undivided (inr (inl bad)) =
      let same = (all_of good.text undivided good.its).1 ∙ sym (all_of bad.text undivided bad.its).1 in
      not_refused services bad.text good.i bad.line (subst (λ t. IsInterface services t good.i) same good.accepted) bad.verdict
  text_alone told line good undivided (inr (inr bad)) = undivided bad.interface bad.script bad.texts.cut.divides

  -- ---- an input with a script

  -- the line of its interface refuses it
  refused_with : (text line : List ℕ) (i : Declared) (script : Script) → IsReady (judged_by services) input i script → IsInterfaceText input text → IsVerdict services text (Refused line)
      → IsInputOf (judged_by services) input (Refused line)
  refused_with text line i script ready (inl (none, fits, same)) verdict = absurd (none ready.interface ready.second ready.texts.cut.divides)
  refused_with text line i script ready (inr (second, texts)) verdict = inl (inr (inr (text, second, texts, refused_text services text line verdict)))

  input_alone : (line : List ℕ) (i : Declared) (script : Script) → IsReady (judged_by services) input i script → IsExplained services input (Refused line) → ⊥
  input_alone line i script ready (inl (inl (none, long), is)) = none ready.interface ready.second ready.texts.cut.divides
  input_alone line i script ready (inl (inr refused, is)) = never_ready (judged_by services) (judged_alone services) input too_long_line i script refused ready
  input_alone line i script ready (inr (inl bad)) = never_ready (judged_by services) (judged_alone services) input bad.line i script (refused_with bad.text bad.line i script ready bad.its bad.verdict) ready
  input_alone line i script ready (inr (inr bad)) = never_ready (judged_by services) (judged_alone services) input bad.line i script bad.refused ready

  pub explained_alone : (told line : List ℕ) → ExplainsGood services input told → IsExplained services input (Refused line) → ⊥
  explained_alone told line good bad = elim good.counted [
    | inl alone ↦ text_alone told line good alone.0 bad
    | inr divided ↦ input_alone line good.i divided.0 divided.1 bad
  ]
