-- An input whose interface is accepted is what its second text is under it.
use Rattle.std.proofs.Common.{◌≡◌, inl, inr, ℕ, List, subst}
use Rattle.sg_facts.specs.Interface.{Declared}
use Rattle.sg_input.specs.declared.read.Read.{Read}
use Rattle.sg_input.specs.declared.read.Read.TheVariants.{Ready, Refused}
use Rattle.sg_input.specs.Inputs.{AreTexts, IsReadAs, IsRefusedInput, Judging}
use Rattle.sg_input.specs.MultiInputs.{IsMultiRefused}
use Rattle.sg_input.specs.Inside.Parted.{AreInputTexts, AreMultiInputTexts, IsRefusedFront}

-- what is refused whatever its texts are is refused whatever its second text is
pub texts_refused : (most : ℕ) (judging : Judging) (input line : List ℕ) → AreInputTexts most input (Refused line) → IsRefusedFront most judging input line
texts_refused most judging input line (inl none) = inl none
texts_refused most judging input line (inr long) = inr (inl long)

-- what is refused whatever its texts are is refused, where it is for several services
pub multi_texts_refused : (judging : Judging) (input line : List ℕ) → AreMultiInputTexts input (Refused line) → IsMultiRefused judging input line
multi_texts_refused judging input line (inl none) = inl (inl none)
multi_texts_refused judging input line (inr ((texts, script, parts, some, long), said)) = inl (inr (inl (texts, script, parts, some, long, said)))

-- an interface is accepted, shown under another name, and the second text is this under it
module _ {A : Type 0} (most : ℕ) (Reads : Declared → List ℕ → Read A → Type 0) (judging : Judging) (input interface second : List ℕ) (i shown : Declared) (made : Read A)
    (texts : AreTexts most input interface second) (accepted : judging.accepts interface i) (same : shown ≡ i) (is : Reads shown second made) where
  pub read_as : (read : A) → made ≡ Ready read → IsReadAs most Reads judging input i read
  read_as read its = record {
    interface = interface;
    second = second;
    texts = texts;
    accepted = accepted;
    reads = subst (λ k. Reads k second (Ready read)) same (subst (Reads shown second) its is);
  }

  pub refused_second : (line : List ℕ) → made ≡ Refused line → IsRefusedInput most Reads judging input line
  refused_second line its = inr (interface, second, texts, i, accepted, subst (λ k. Reads k second (Refused line)) same (subst (Reads shown second) its is))
