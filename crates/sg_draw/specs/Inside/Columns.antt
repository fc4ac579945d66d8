-- Parts of lines in columns.
use Rattle.std.specs.Prelude.{ℕ, ◌≡◌, ◌==◌, true, ◌&&◌, List, ◌++◌, length, map}
use Rattle.std.specs.List.{flat_map, list_all}
use Rattle.sg_draw.specs.Pictures.{column_line, is_mark}

-- marks that take so many columns
pub record IsMarks (width : ℕ) (marks : List ℕ) : Type 0 where
  pub wide : length marks ≡ width
  pub are_marks : list_all is_mark marks ≡ true

-- marks of so many columns were added to a line
pub record AddsMarks (width : ℕ) (old new : List ℕ) : Type 0 where
  pub more : List ℕ
  pub is : new ≡ old ++ more
  pub marks : IsMarks width more

-- lines of marks of this width were added, and these texts stand in them
pub record Prints (width : ℕ) (old new : List ℕ) (texts : List (List ℕ)) : Type 0 where
  pub lines : List (List ℕ × List ℕ)
  pub is : new ≡ old ++ flat_map (λ l. column_line l.0 l.1) lines
  pub are_marks : list_all (λ l. (length l.0 == width) && list_all is_mark l.0) lines ≡ true
  pub shows : map (λ l. l.1) lines ≡ texts
