-- A run and its pictures, byte by byte.
use Rattle.std.proofs.Common.{refl, [], ◌∷◌}
use Rattle.std.specs.Prelude.{codes}
use Rattle.std.specs.Fmt.{digits}
use Rattle.sg_draw.specs.Documents.{line, words}
use Rattle.sg_draw.specs.Pictures.{AreColumnsOf, IsPictureOf}
use Rattle.test_pictures.specs.Written.{drawn_early, locks, printed_early, stopped_early}

pub is_picture : IsPictureOf locks stopped_early drawn_early
unfolding digits
is_picture = record {
  width = 594;
  height = 294;
  parts =
      words 116 16 28 (codes "A run of the service lock")
      ∷ line 110 34 70 86 130 ∷ words 104 34 56 (codes "c1")
      ∷ line 110 94 70 86 130 ∷ words 104 94 56 (codes "service")
      ∷ line 98 16 80 72 112 ∷ words 108 138 84 (codes "boot 1")
      ∷ line 115 16 100 72 112 ∷ words 108 138 104 (codes "stop 3")
      ∷ words 108 138 124 (codes "points 3")
      ∷ line 99 34 160 72 74 ∷ words 108 98 164 (codes "a call of a client, at its client and at the service")
      ∷ line 107 34 180 72 74 ∷ words 108 98 184 (codes "a call of a walk, which rebuilds a descriptor")
      ∷ line 102 34 200 72 74 ∷ words 108 98 204 (codes "a file is loaded")
      ∷ line 119 34 220 72 74 ∷ words 108 98 224 (codes "a client waits")
      ∷ line 98 34 240 72 74 ∷ words 108 98 244 (codes "the service boots")
      ∷ line 115 34 260 72 74 ∷ words 108 98 264 (codes "the service stops")
      ∷ [];
  is_document = refl;
  known = refl;
  shows = refl;
}

pub are_columns : AreColumnsOf locks stopped_early printed_early
unfolding digits
are_columns = record {
  lines =
      (codes "============  ", codes "boot 1")
      ∷ (codes "!!!!!!!!!!!!  ", codes "stop 3")
      ∷ (codes "              ", codes "points 3")
      ∷ (codes "     o-----o  ", codes "a call of a client, at its client and at the service")
      ∷ (codes "     #-----#  ", codes "a call of a walk, which rebuilds a descriptor")
      ∷ (codes "     *-----*  ", codes "a file is loaded")
      ∷ (codes "     |        ", codes "a client waits")
      ∷ (codes "     =======  ", codes "the service boots")
      ∷ (codes "     !!!!!!!  ", codes "the service stops")
      ∷ [];
  are_lines = refl;
  are_marks = refl;
  shows = refl;
}
