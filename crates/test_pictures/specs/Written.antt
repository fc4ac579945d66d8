-- A run, and its pictures written out.
use Rattle.std.specs.Prelude.{ℕ, List, [], ◌∷◌, ◌++◌, Some, codes}
use Rattle.sg_facts.specs.Facts.{Facts, no_facts}
use Rattle.sg_hist.specs.declared.ended.Ended.{Ended}
use Rattle.sg_hist.specs.declared.ended.End.TheVariants.{Done}

-- a service of locks, of which the name alone is shown
abbrev pub locks : Facts
locks = record no_facts { name = codes "lock" }

-- the service is booted and stops at once, and client 1 has nothing to do
abbrev pub stopped_early : Ended
stopped_early = record {
  history = record { items = []; room = 0 };
  trace = record { boots = record { items = record { items = record { items = []; room = 0 }; stop = Some 3 } ∷ []; room = 0 }; points = 3 };
  ends = (1, Done) ∷ [];
}

-- its picture as a document
abbrev pub drawn_early : List ℕ
drawn_early =
    codes "<svg xmlns='http://www.w3.org/2000/svg' width='594' height='294'>\n<title>A run of a service</title>\n<desc>A row for each boot, each item of "
    ++ codes "the trace and each stop, from top to bottom, with a lane for each client and one for the service.</desc>\n<style>text{font:13px ui-monospace,"
    ++ codes "Menlo,Consolas,'DejaVu Sans Mono',monospace;fill:#1a1a1a;white-space:pre}.t{font-size:15px;font-weight:bold}.h{font-weight:bold;text-anchor:"
    ++ codes "middle}</style>\n<style>path{fill:none;stroke-width:1.5}.n{stroke:#d0d0d0;stroke-width:1}.b{stroke:#e6e6e6;stroke-width:18}.s{stroke:#000;"
    ++ codes "stroke-width:4}.w{stroke:#CC79A7;stroke-width:6;stroke-opacity:.7}.c{stroke:#0072B2;marker-start:url(#c);marker-end:url(#c)}.k{stroke:#D55E00;"
    ++ codes "marker-start:url(#k);marker-end:url(#k)}.f{stroke:#E69F00;marker-start:url(#f);marker-end:url(#f)}</style>\n<defs><marker id='c' viewBox='-6 "
    ++ codes "-6 12 12' markerWidth='12' markerHeight='12' markerUnits='userSpaceOnUse'><circle r='5' fill='#0072B2'/></marker><marker id='k' viewBox='-6 -6 "
    ++ codes "12 12' markerWidth='12' markerHeight='12' markerUnits='userSpaceOnUse'><path d='M-4 -4H4V4H-4Z' style='fill:#D55E00;stroke:none'/></marker>"
    ++ codes "<marker id='f' viewBox='-6 -6 12 12' markerWidth='12' markerHeight='12' markerUnits='userSpaceOnUse'><path d='M0 -6L6 0L0 6L-6 0Z' style='fill:"
    ++ codes "#E69F00;stroke:none'/></marker></defs>\n<rect width='100%' height='100%' fill='#fff'/>\n"
    ++ codes "<text class='t' x='16' y='28'>A run of the service lock</text>\n"
    ++ codes "<path class='n' d='M34 70V130'/>\n<text class='h' x='34' y='56'>c1</text>\n"
    ++ codes "<path class='n' d='M94 70V130'/>\n<text class='h' x='94' y='56'>service</text>\n"
    ++ codes "<path class='b' d='M16 80H112'/>\n<text class='l' x='138' y='84'>boot 1</text>\n"
    ++ codes "<path class='s' d='M16 100H112'/>\n<text class='l' x='138' y='104'>stop 3</text>\n"
    ++ codes "<text class='l' x='138' y='124'>points 3</text>\n"
    ++ codes "<path class='c' d='M34 160H74'/>\n<text class='l' x='98' y='164'>a call of a client, at its client and at the service</text>\n"
    ++ codes "<path class='k' d='M34 180H74'/>\n<text class='l' x='98' y='184'>a call of a walk, which rebuilds a descriptor</text>\n"
    ++ codes "<path class='f' d='M34 200H74'/>\n<text class='l' x='98' y='204'>a file is loaded</text>\n"
    ++ codes "<path class='w' d='M34 220H74'/>\n<text class='l' x='98' y='224'>a client waits</text>\n"
    ++ codes "<path class='b' d='M34 240H74'/>\n<text class='l' x='98' y='244'>the service boots</text>\n"
    ++ codes "<path class='s' d='M34 260H74'/>\n<text class='l' x='98' y='264'>the service stops</text>\n</svg>\n"

-- its picture in columns
abbrev pub printed_early : List ℕ
printed_early =
    codes "c1   service  A run of the service lock\n"
    ++ codes "============  boot 1\n"
    ++ codes "!!!!!!!!!!!!  stop 3\n"
    ++ codes "              points 3\n"
    ++ codes "     o-----o  a call of a client, at its client and at the service\n"
    ++ codes "     #-----#  a call of a walk, which rebuilds a descriptor\n"
    ++ codes "     *-----*  a file is loaded\n"
    ++ codes "     |        a client waits\n"
    ++ codes "     =======  the service boots\n"
    ++ codes "     !!!!!!!  the service stops\n"
