-- Parts of a document.
use Rattle.std.specs.Prelude.{ℕ, ◌≡◌, true, List, ◌++◌, codes}
use Rattle.std.specs.Fmt.{decimal}
use Rattle.std.specs.List.{filter_map, flat_map, list_all}
use Rattle.sg_draw.specs.Documents.{Part, fixed_part, is_known, part_text, text_in}

-- the beginning of a document of this width and height
abbrev pub opening : ℕ → ℕ → List ℕ
opening width height = codes "<svg xmlns='http://www.w3.org/2000/svg' width='" ++ decimal width ++ codes "' height='" ++ decimal height ++ codes "'>\n"

-- a document has begun, at some size: its fixed part stands there
pub record Begins (out : List ℕ) : Type 0 where
  pub width : ℕ
  pub height : ℕ
  pub is : out ≡ opening width height ++ fixed_part

-- lines and texts were added to a document, and these are the texts
pub record Draws (old new : List ℕ) (texts : List (List ℕ)) : Type 0 where
  pub parts : List Part
  pub is : new ≡ old ++ flat_map part_text parts
  pub known : list_all is_known parts ≡ true
  pub shows : filter_map text_in parts ≡ texts
