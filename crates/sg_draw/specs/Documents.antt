-- What stands in a picture as a document: a part that is the same in each, and then lines and texts.
use Rattle.std.specs.Prelude.{ℕ, Bool, ◌&&◌, List, ◌∷◌, ◌++◌, None, Some, codes}
use Rattle.std.specs.Fmt.{decimal}
use Rattle.std.specs.declared.option.Option.{Option}
use Rattle.sg_draw.specs.Shown.{escaped, is_one_of}

-- what stands in each document before its lines and texts: what it is of, how texts and lines look, the marks at the ends of lines, and the
-- ground
abbrev pub fixed_part : List ℕ
fixed_part =
    codes "<title>A run of a service</title>\n"
    ++ codes "<desc>A row for each boot, each item of the trace and each stop, from top to bottom, "
    ++ codes "with a lane for each client and one for the service.</desc>\n"
    ++ codes "<style>text{font:13px ui-monospace,Menlo,Consolas,'DejaVu Sans Mono',monospace;fill:#1a1a1a;white-space:pre}"
    ++ codes ".t{font-size:15px;font-weight:bold}.h{font-weight:bold;text-anchor:middle}</style>\n"
    ++ codes "<style>path{fill:none;stroke-width:1.5}.n{stroke:#d0d0d0;stroke-width:1}.b{stroke:#e6e6e6;stroke-width:18}"
    ++ codes ".s{stroke:#000;stroke-width:4}.w{stroke:#CC79A7;stroke-width:6;stroke-opacity:.7}"
    ++ codes ".c{stroke:#0072B2;marker-start:url(#c);marker-end:url(#c)}.k{stroke:#D55E00;marker-start:url(#k);marker-end:url(#k)}"
    ++ codes ".f{stroke:#E69F00;marker-start:url(#f);marker-end:url(#f)}</style>\n"
    ++ codes "<defs><marker id='c' viewBox='-6 -6 12 12' markerWidth='12' markerHeight='12' markerUnits='userSpaceOnUse'>"
    ++ codes "<circle r='5' fill='#0072B2'/></marker>"
    ++ codes "<marker id='k' viewBox='-6 -6 12 12' markerWidth='12' markerHeight='12' markerUnits='userSpaceOnUse'>"
    ++ codes "<path d='M-4 -4H4V4H-4Z' style='fill:#D55E00;stroke:none'/></marker>"
    ++ codes "<marker id='f' viewBox='-6 -6 12 12' markerWidth='12' markerHeight='12' markerUnits='userSpaceOnUse'>"
    ++ codes "<path d='M0 -6L6 0L0 6L-6 0Z' style='fill:#E69F00;stroke:none'/></marker></defs>\n"
    ++ codes "<rect width='100%' height='100%' fill='#fff'/>\n"

-- what is drawn: a line of a class from the place `x` `y`, to the right (`H`) or down (`V`) as far as `to`; or a text of a class at a place
pub data Part : Type 0 where
  line : (class x y way to : ℕ) → Part
  words : (class x y : ℕ) (text : List ℕ) → Part

-- whether the class of a line or of a text is one to which the fixed part gives a look, and a line's way is one of the two
abbrev pub is_known : Part → Bool
is_known (line class x y way to) = is_one_of (codes "nbckfws") class && is_one_of (codes "HV") way
is_known (words class x y text) = is_one_of (codes "thl") class

-- a part as it is written; what has a meaning in a document stands in a text by its name
abbrev pub part_text : Part → List ℕ
part_text (line class x y way to) =
    codes "<path class='" ++ class ∷ codes "' d='M" ++ decimal x ++ codes " " ++ decimal y ++ way ∷ decimal to ++ codes "'/>\n"
part_text (words class x y text) =
    codes "<text class='" ++ class ∷ codes "' x='" ++ decimal x ++ codes "' y='" ++ decimal y ++ codes "'>" ++ escaped text ++ codes "</text>\n"

-- the text of a part, where it is one
abbrev pub text_in : Part → Option (List ℕ)
text_in (line class x y way to) = None
text_in (words class x y text) = Some text
