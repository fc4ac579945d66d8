-- What a picture of a run is, as a document and in columns.
use Rattle.std.specs.Prelude.{ℕ, ◌≡◌, ◌+◌, ◌*◌, ◌==◌, Bool, true, ◌&&◌, List, [], ◌∷◌, ◌++◌, length, map, take, codes}
use Rattle.std.specs.Fmt.{decimal}
use Rattle.std.specs.List.{filter_map, flat_map, list_all}
use Rattle.sg_facts.specs.Facts.{Facts}
use Rattle.sg_facts.specs.Words.{line_end}
use Rattle.sg_report.specs.sg_hist.declared.ended.End.{End}
use Rattle.sg_report.specs.sg_hist.declared.ended.Ended.{Ended}
use Rattle.sg_draw.specs.Documents.{Part, fixed_part, is_known, part_text, text_in}
use Rattle.sg_draw.specs.Labels.{labels_of}
use Rattle.sg_draw.specs.Shown.{is_one_of, visible}

-- the title: whose run it is
abbrev pub title_of : Facts → List ℕ
title_of facts = codes "A run of the service " ++ facts.name

-- the name of a client
abbrev pub client_name : ℕ → List ℕ
client_name client = codes "c" ++ decimal client

-- the heads of the lanes: the clients, and the service
abbrev pub heads_of : List (ℕ × End) → List (List ℕ)
heads_of ends = map (λ e. client_name e.0) ends ++ codes "service" ∷ []

-- what the marks stand for
abbrev pub legend : List (List ℕ)
legend =
    codes "a call of a client, at its client and at the service" ∷ codes "a call of a walk, which rebuilds a descriptor"
    ∷ codes "a file is loaded" ∷ codes "a client waits" ∷ codes "the service boots" ∷ codes "the service stops" ∷ []

-- the picture of a run: one document of some size, with the part that is the same in each, and then lines and texts and nothing else; the
-- texts are the title, the heads of the lanes, the labels of the run in their order, and the legend
pub record IsPictureOf (facts : Facts) (ended : Ended) (bytes : List ℕ) : Type 0 where
  pub width : ℕ
  pub height : ℕ
  pub parts : List Part
  pub is_document : bytes
      ≡ codes "<svg xmlns='http://www.w3.org/2000/svg' width='" ++ decimal width ++ codes "' height='" ++ decimal height ++ codes "'>\n"
      ++ fixed_part ++ flat_map part_text parts ++ codes "</svg>\n"
  pub known : list_all is_known parts ≡ true
  pub shows : filter_map text_in parts ≡ title_of facts ∷ heads_of ended.ends ++ labels_of facts ended ++ legend

-- how wide the marks are beside so many clients: five columns for each, and nine for the service
abbrev pub marks_width : ℕ → ℕ
marks_width clients = 5 * clients + 9

-- the heads of the lanes in columns, as wide as the marks
abbrev pub column_heads : List (ℕ × End) → List ℕ
column_heads ends = flat_map (λ e. take 5 (client_name e.0 ++ codes "     ")) ends ++ codes "service  "

-- whether a byte is a mark in columns: a blank, or one of eight signs
abbrev pub is_mark : ℕ → Bool
is_mark b = is_one_of (codes " |-+o#*=!") b

-- a line in columns: what stands in the lanes, and a text
abbrev pub column_line : List ℕ → List ℕ → List ℕ
column_line lanes text = lanes ++ visible text ++ line_end

-- the picture of a run in columns: the heads of the lanes with the title, and then lines of marks that are as wide as the lanes, each with a
-- text; the texts are the labels of the run in their order, and the legend
pub record AreColumnsOf (facts : Facts) (ended : Ended) (bytes : List ℕ) : Type 0 where
  pub lines : List (List ℕ × List ℕ)
  pub are_lines : bytes ≡ column_line (column_heads ended.ends) (title_of facts) ++ flat_map (λ l. column_line l.0 l.1) lines
  pub are_marks : list_all (λ l. (length l.0 == marks_width (length ended.ends)) && list_all is_mark l.0) lines ≡ true
  pub shows : map (λ l. l.1) lines ≡ labels_of facts ended ++ legend
