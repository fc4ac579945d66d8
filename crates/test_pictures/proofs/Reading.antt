-- What is read in a document: its pieces, which are all such as a picture may have, and its texts.
use Rattle.std.proofs.Common.{◌≡◌, ℕ, Bool, true, false, ◌&&◌, ◌||◌, List, [], ◌∷◌, ◌++◌, None, Some, Option, drop, map, refl, sym, ◌∙◌, ap, append-nil, append_assoc}
use Rattle.std.specs.Prelude.{◌==◌, codes}
use Rattle.std.specs.Fmt.{decimal}
use Rattle.std.specs.List.{cons_option, filter_map, flat_map, list_all, slice_split}
use Rattle.std.proofs.lemmas.List.Elements.{filter_map-append}
use Rattle.sg_facts.specs.Facts.{Facts}
use Rattle.sg_hist.specs.declared.ended.Ended.{Ended}
use Rattle.sg_draw.specs.Documents.{Part, fixed_part, is_known, line, part_text, text_in, words}
use Rattle.sg_draw.specs.Labels.{labels_of}
use Rattle.sg_draw.specs.Pictures.{IsPictureOf, heads_of, legend, title_of}
use Rattle.sg_draw.specs.Shown.{escaped, escaped_byte, is_one_of}
use Rattle.test_pictures.specs.Read.{all_in_tag, is_allowed, is_digit_or, pieces, shown_in, shown_texts}
use Rattle.test_pictures.proofs.Bytes.{all_flat, both_hold, closes_none, decimal_closes_none, decimal_opens_none, escaped_opens_none, number_passes, one_passes, opens_none}
use Rattle.test_pictures.proofs.Pieces.{after_at, all_both, split_first, split_more, split_whole}

-- ---- the parts of a document

-- the tag of a text, but for its last byte
abbrev pub tag_of : ℕ → ℕ → ℕ → List ℕ
tag_of class x y = codes "text class='" ++ class ∷ codes "' x='" ++ decimal x ++ codes "' y='" ++ decimal y ++ 39 ∷ []

-- a line, after its first byte
abbrev pub path_of : ℕ → ℕ → ℕ → ℕ → ℕ → List ℕ
path_of class x y way to = codes "path class='" ++ class ∷ codes "' d='M" ++ decimal x ++ codes " " ++ decimal y ++ way ∷ decimal to ++ codes "'/>\n"

-- the pieces of a part
abbrev pub pieces_of : Part → List (List ℕ)
pieces_of (line class x y way to) = path_of class x y way to ∷ []
pieces_of (words class x y text) = (tag_of class x y ++ 62 ∷ escaped text) ∷ codes "/text>\n" ∷ []

tag_parts : (t : ℕ → Bool) (a b c d e f : List ℕ) → list_all t a ≡ true → list_all t b ≡ true → list_all t c ≡ true → list_all t d ≡ true → list_all t e ≡ true
    → list_all t f ≡ true → list_all t (a ++ b ++ c ++ d ++ e ++ f) ≡ true
tag_parts t a b c d e f pa pb pc pd pe pf =
    all_both t (a ++ b ++ c ++ d ++ e) f (all_both t (a ++ b ++ c ++ d) e (all_both t (a ++ b ++ c) d (all_both t (a ++ b) c (all_both t a b pa pb) pc) pd) pe) pf

path_parts : (t : ℕ → Bool) (a b c d e f g : List ℕ) → list_all t a ≡ true → list_all t b ≡ true → list_all t c ≡ true → list_all t d ≡ true → list_all t e ≡ true
    → list_all t f ≡ true → list_all t g ≡ true → list_all t (a ++ b ++ c ++ d ++ e ++ f ++ g) ≡ true
path_parts t a b c d e f g pa pb pc pd pe pf pg = all_both t (a ++ b ++ c ++ d ++ e ++ f) g (tag_parts t a b c d e f pa pb pc pd pe pf) pg

-- what holds of all bytes of tags and lines
module _ (t : ℕ → Bool) (number : (n : ℕ) → list_all t (decimal n) ≡ true) where
  pub tag_passes : (class x y : ℕ) → is_one_of (codes "thl") class ≡ true → list_all t (codes "text class='") ≡ true → list_all t (codes "thl") ≡ true
      → list_all t (codes "' x='") ≡ true → list_all t (codes "' y='") ≡ true → list_all t (39 ∷ []) ≡ true → list_all t (tag_of class x y) ≡ true
  tag_passes class x y known a letters b c d =
      tag_parts t (codes "text class='") (class ∷ codes "' x='") (decimal x) (codes "' y='") (decimal y) (39 ∷ []) a
      (ap (λ s. s && list_all t (codes "' x='")) (one_passes t (codes "thl") class letters known) ∙ b) (number x) c (number y) d

  pub path_passes : (class x y way to : ℕ) → is_known (line class x y way to) ≡ true → list_all t (codes "path class='") ≡ true → list_all t (codes "nbckfws") ≡ true
      → list_all t (codes "' d='M") ≡ true → list_all t (codes " ") ≡ true → list_all t (codes "HV") ≡ true → list_all t (codes "'/>\n") ≡ true
      → list_all t (path_of class x y way to) ≡ true
  path_passes class x y way to known a letters b c ways d =
      let both = both_hold (is_one_of (codes "nbckfws") class) (is_one_of (codes "HV") way) known in
      path_parts t (codes "path class='") (class ∷ codes "' d='M") (decimal x) (codes " ") (decimal y) (way ∷ decimal to) (codes "'/>\n") a
      (ap (λ s. s && list_all t (codes "' d='M")) (one_passes t (codes "nbckfws") class letters both.0) ∙ b) (number x) c (number y)
      (ap (λ s. s && list_all t (decimal to)) (one_passes t (codes "HV") way ways both.1) ∙ number to) d

-- ---- a document in pieces

text_grouped : (x t z : List ℕ) → x ++ 39 ∷ 62 ∷ [] ++ t ++ z ≡ x ++ 39 ∷ [] ++ 62 ∷ t ++ z
text_grouped x t z = ap (λ v. v ++ z) (append_assoc x (39 ∷ 62 ∷ []) t ∙ sym (append_assoc x (39 ∷ []) (62 ∷ t)))

split_part : (doc : List ℕ) (p : Part) → is_known p ≡ true → slice_split (λ b. b == 60) (doc ++ part_text p) ≡ slice_split (λ b. b == 60) doc ++ pieces_of p
split_part doc (line class x y way to) known =
    split_more (λ b. b == 60) doc 60 (path_of class x y way to) refl
    ∙ ap (λ v. slice_split (λ b. b == 60) doc ++ v)
    (split_whole (λ b. b == 60) (path_of class x y way to) (path_passes opens_none decimal_opens_none class x y way to known refl refl refl refl refl refl))
split_part doc (words class x y text) known =
    let piece : List ℕ = tag_of class x y ++ 62 ∷ escaped text in
    let whole : list_all opens_none piece ≡ true
    = all_both opens_none (tag_of class x y) (62 ∷ escaped text) (tag_passes opens_none decimal_opens_none class x y known refl refl refl refl refl)
    (all_flat opens_none escaped_byte escaped_opens_none text) in
    let front : List ℕ = codes "<text class='" ++ class ∷ codes "' x='" ++ decimal x ++ codes "' y='" ++ decimal y in
    ap (λ v. slice_split (λ b. b == 60) (doc ++ v)) (text_grouped front (escaped text) (codes "</text>\n"))
    ∙ split_more (λ b. b == 60) doc 60 (piece ++ 60 ∷ codes "/text>\n") refl
    ∙ ap (λ v. slice_split (λ b. b == 60) doc ++ v) (split_first (λ b. b == 60) piece 60 (codes "/text>\n") whole refl)

split_parts : (doc : List ℕ) (parts : List Part) → list_all is_known parts ≡ true
    → slice_split (λ b. b == 60) (doc ++ flat_map part_text parts) ≡ slice_split (λ b. b == 60) doc ++ flat_map pieces_of parts
split_parts doc [] known = ap (slice_split (λ b. b == 60)) (append-nil doc) ∙ sym (append-nil (slice_split (λ b. b == 60) doc))
split_parts doc (p ∷ parts) known =
    let both = both_hold (is_known p) (list_all is_known parts) known in
    ap (slice_split (λ b. b == 60)) (sym (append_assoc doc (part_text p) (flat_map part_text parts)))
    ∙ split_parts (doc ++ part_text p) parts both.1
    ∙ ap (λ v. v ++ flat_map pieces_of parts) (split_part doc p both.0)
    ∙ append_assoc (slice_split (λ b. b == 60) doc) (pieces_of p) (flat_map pieces_of parts)

-- the beginning, after its first byte
abbrev pub start_of : ℕ → ℕ → List ℕ
start_of width height = codes "svg xmlns='http://www.w3.org/2000/svg' width='" ++ decimal width ++ codes "' height='" ++ decimal height ++ codes "'>\n"

start_parts : (t : ℕ → Bool) (a b c d e : List ℕ) → list_all t a ≡ true → list_all t b ≡ true → list_all t c ≡ true → list_all t d ≡ true → list_all t e ≡ true
    → list_all t (a ++ b ++ c ++ d ++ e) ≡ true
start_parts t a b c d e pa pb pc pd pe = all_both t (a ++ b ++ c ++ d) e (all_both t (a ++ b ++ c) d (all_both t (a ++ b) c (all_both t a b pa pb) pc) pd) pe

-- a picture in pieces
pub split_picture : {facts : Facts} {ended : Ended} {bytes : List ℕ} (r : IsPictureOf facts ended bytes)
    → slice_split (λ b. b == 60) bytes ≡ [] ∷ start_of r.width r.height ∷ (pieces fixed_part ++ flat_map pieces_of r.parts ++ codes "/svg>\n" ∷ [])
split_picture r =
    let start : List ℕ = start_of r.width r.height in
    let drawn : List ℕ = flat_map part_text r.parts in
    let whole : list_all opens_none start ≡ true
    = start_parts opens_none (codes "svg xmlns='http://www.w3.org/2000/svg' width='") (decimal r.width) (codes "' height='") (decimal r.height) (codes "'>\n") refl
    (decimal_opens_none r.width) refl (decimal_opens_none r.height) refl in
    ap (slice_split (λ b. b == 60)) r.is_document
    ∙ split_more (λ b. b == 60) (60 ∷ start ++ fixed_part ++ drawn) 60 (codes "/svg>\n") refl
    ∙ ap (λ v. v ++ codes "/svg>\n" ∷ [])
    (split_parts (60 ∷ start ++ fixed_part) r.parts r.known
    ∙ ap (λ v. v ++ flat_map pieces_of r.parts)
    (split_more (λ b. b == 60) (60 ∷ start) 60 (drop 1 fixed_part) refl
    ∙ ap (λ v. [] ∷ v ++ pieces fixed_part) (split_whole (λ b. b == 60) start whole)))

-- ---- all its pieces are such as a picture may have

tag_ends : (t : ℕ → Bool) (tag rest : List ℕ) → list_all t tag ≡ true → all_in_tag t (tag ++ 62 ∷ rest) ≡ true
tag_ends t [] rest all = refl
tag_ends t (b ∷ tag) rest all = by (b == 62) (both_hold (t b) (list_all t tag) all) (tag_ends t tag rest)
  where
    by : (s : Bool) → (t b ≡ true) × (list_all t tag ≡ true) → (list_all t tag ≡ true → all_in_tag t (tag ++ 62 ∷ rest) ≡ true)
        → (s || (t b && all_in_tag t (tag ++ 62 ∷ rest))) ≡ true
    by true both later = refl
    by false both later = ap (λ s. s && all_in_tag t (tag ++ 62 ∷ rest)) both.0 ∙ later both.1

part_allowed : (p : Part) → is_known p ≡ true → list_all is_allowed (pieces_of p) ≡ true
part_allowed (line class x y way to) known =
    ap (λ s. s && true)
    (ap (λ s. s || all_in_tag (is_digit_or (codes "text clashy='")) [] && false || false || false)
    (path_passes (is_digit_or (codes "path clsnbkfwd=MHV'/>\n")) (number_passes (codes "path clsnbkfwd=MHV'/>\n")) class x y way to known refl refl refl refl refl refl))
part_allowed (words class x y text) known =
    ap (λ s. (s || false || false) && true)
    (tag_ends (is_digit_or (codes "text clashy='")) (tag_of class x y) (escaped text)
    (tag_passes (is_digit_or (codes "text clashy='")) (number_passes (codes "text clashy='")) class x y known refl refl refl refl refl))

parts_allowed : (parts : List Part) → list_all is_known parts ≡ true → list_all is_allowed (flat_map pieces_of parts) ≡ true
parts_allowed [] known = refl
parts_allowed (p ∷ parts) known =
    let both = both_hold (is_known p) (list_all is_known parts) known in
    all_both is_allowed (pieces_of p) (flat_map pieces_of parts) (part_allowed p both.0) (parts_allowed parts both.1)

start_allowed : (width height : ℕ) → is_allowed (start_of width height) ≡ true
start_allowed width height =
    let t : ℕ → Bool = is_digit_or (codes "svg xmln='htp:/w.ordie>\n") in
    ap (λ s. s || false || false || false || false || false)
    (start_parts t (codes "svg xmlns='http://www.w3.org/2000/svg' width='") (decimal width) (codes "' height='") (decimal height) (codes "'>\n") refl
    (number_passes (codes "svg xmln='htp:/w.ordie>\n") width) refl (number_passes (codes "svg xmln='htp:/w.ordie>\n") height) refl)

pub all_allowed : {facts : Facts} {ended : Ended} {bytes : List ℕ} → IsPictureOf facts ended bytes → list_all is_allowed (pieces bytes) ≡ true
all_allowed r =
    let drawn : List (List ℕ) = flat_map pieces_of r.parts in
    ap (λ v. list_all is_allowed (drop 1 v)) (split_picture r)
    ∙ all_both is_allowed (start_of r.width r.height ∷ pieces fixed_part ++ drawn) (codes "/svg>\n" ∷ [])
    (all_both is_allowed (start_of r.width r.height ∷ pieces fixed_part) drawn
    (ap (λ s. s && list_all is_allowed (pieces fixed_part)) (start_allowed r.width r.height) ∙ refl) (parts_allowed r.parts r.known))
    refl

-- ---- its texts

part_shows : (p : Part) → is_known p ≡ true → filter_map shown_in (pieces_of p) ≡ map escaped (cons_option (text_in p) [])
part_shows (line class x y way to) known = refl
part_shows (words class x y text) known =
    ap (λ v. v ∷ [])
    (after_at (λ b. b == 62) (tag_of class x y) 62 (escaped text) (tag_passes closes_none decimal_closes_none class x y known refl refl refl refl refl) refl)

parts_show : (parts : List Part) → list_all is_known parts ≡ true → filter_map shown_in (flat_map pieces_of parts) ≡ map escaped (filter_map text_in parts)
parts_show [] known = refl
parts_show (p ∷ parts) known =
    let both = both_hold (is_known p) (list_all is_known parts) known in
    filter_map-append shown_in (pieces_of p) (flat_map pieces_of parts)
    ∙ ap (λ v. v ++ filter_map shown_in (flat_map pieces_of parts)) (part_shows p both.0)
    ∙ ap (λ v. map escaped (cons_option (text_in p) []) ++ v) (parts_show parts both.1)
    ∙ by (text_in p) (filter_map text_in parts)
  where
    by : (text : Option (List ℕ)) (texts : List (List ℕ)) → map escaped (cons_option text []) ++ map escaped texts ≡ map escaped (cons_option text texts)
    by None texts = refl
    by (Some text) texts = refl

-- what it shows is what it has to show, and nothing else
pub picture_shows : {facts : Facts} {ended : Ended} {bytes : List ℕ} → IsPictureOf facts ended bytes
    → shown_texts bytes ≡ map escaped (title_of facts ∷ heads_of ended.ends ++ labels_of facts ended ++ legend)
picture_shows r =
    let drawn : List (List ℕ) = flat_map pieces_of r.parts in
    ap (filter_map shown_in) (split_picture r)
    ∙ filter_map-append shown_in (pieces fixed_part ++ drawn) (codes "/svg>\n" ∷ [])
    ∙ append-nil (filter_map shown_in (pieces fixed_part ++ drawn))
    ∙ filter_map-append shown_in (pieces fixed_part) drawn
    ∙ parts_show r.parts r.known
    ∙ ap (map escaped) r.shows
