-- The title is shown.
use Rattle.std.proofs.lemmas.Result.{on_ok_weaker}
use Rattle.sg_draw.proofs.Documents.{drawn}
use Rattle.std.proofs.Common.{List, ℕ, [], ◌∷◌, sym, ◌∙◌, ap}
use Rattle.sg_draw.proofs.drawing.push_title.Goals as goal

pub returns : goal.returns
returns c = on_ok_weaker _ (λ d. drawn (ap (λ (text : List ℕ). text ∷ []) (sym (c.as_slice.ensures ∙ c.in_ok-text.ensures))) d) c.push_words.ensures
