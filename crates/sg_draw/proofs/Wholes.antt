-- Whole pictures.
use Rattle.std.proofs.Common.{◌≡◌, ℕ, List, [], ◌∷◌, ◌++◌, length, sym, ◌∙◌, ap, append_assoc}
use Rattle.std.specs.Prelude.{codes}
use Rattle.std.specs.List.{flat_map}
use Rattle.sg_facts.specs.Facts.{Facts}
use Rattle.sg_report.specs.sg_hist.declared.ended.Ended.{Ended}
use Rattle.sg_draw.specs.declared.rows.Row.{Row}
use Rattle.sg_draw.specs.Documents.{part_text}
use Rattle.sg_draw.specs.Labels.{labels_of}
use Rattle.sg_draw.specs.Pictures.{AreColumnsOf, IsPictureOf, column_heads, column_line, heads_of, legend, marks_width, title_of}
use Rattle.sg_draw.specs.Inside.Columns.{Prints}
use Rattle.sg_draw.specs.Inside.Drawing.{Begins, Draws}
use Rattle.sg_draw.specs.Inside.Rows.{labels_in}

-- a document that has begun, what is drawn in it, and its end
pub picture_of : (facts : Facts) (ended : Ended) (rows : List Row) (begun drawn bytes : List ℕ) → Begins begun → labels_in rows ≡ labels_of facts ended
    → Draws begun drawn ((title_of facts ∷ []) ++ (heads_of ended.ends ++ (labels_in rows ++ ([] ++ legend)))) → bytes ≡ drawn ++ codes "</svg>\n"
    → IsPictureOf facts ended bytes
picture_of facts ended rows begun drawn bytes start labels d last = record {
  width = start.width;
  height = start.height;
  parts = d.parts;
  is_document =
      last ∙ ap (λ v. v ++ codes "</svg>\n") (d.is ∙ ap (λ v. v ++ flat_map part_text d.parts) start.is);
  known = d.known;
  shows =
      d.shows ∙ ap (λ v. title_of facts ∷ (heads_of ended.ends ++ (v ++ legend))) labels
      ∙ ap (λ v. title_of facts ∷ v) (sym (append_assoc (heads_of ended.ends) (labels_of facts ended) legend));
}

-- lines from the first on
pub columns_of : (facts : Facts) (ended : Ended) (rows : List Row) (front bytes : List ℕ) → labels_in rows ≡ labels_of facts ended
    → front ≡ column_line (column_heads ended.ends) (title_of facts) → Prints (marks_width (length ended.ends)) front bytes (labels_in rows ++ legend)
    → AreColumnsOf facts ended bytes
columns_of facts ended rows front bytes labels first p = record {
  lines = p.lines;
  are_lines = p.is ∙ ap (λ v. v ++ flat_map (λ l. column_line l.0 l.1) p.lines) first;
  are_marks = p.are_marks;
  shows = p.shows ∙ ap (λ v. v ++ legend) labels;
}

-- rows that are read are those that were made
pub rows_seen : {read made : List Row} {labels : List (List ℕ)} → read ≡ made → labels_in made ≡ labels → labels_in read ≡ labels
rows_seen same own = ap labels_in same ∙ own
