-- The pieces of a tree's head, by the version of its text.
use Rattle.std.proofs.Common.{Bool, List, ◌∷◌, map, codes}
use Rattle.sg_parse.specs.declared.tree.Facts.{Facts}
use Rattle.sg_parse.specs.sg_rules.declared.version.Newer.TheVariants.{Second, Third}
use Rattle.sg_parse.specs.Grammar.Pieces.{Piece, word, version_number, newer}
use Rattle.sg_parse.specs.Grammar.Sentence.{recovery_word}
use Rattle.sg_parse.specs.Grammar.Inside.Forms.{comma, equals, head_pieces, last_pieces}
use Rattle.sg_print.proofs.Levels.{Version, v1, v2, v3}

-- the facts that texts of all versions have, and what follows them
abbrev pub shared_pieces : Facts → List Piece → List Piece
shared_pieces f more = head_pieces f.service f.parent f.close f.global f.block f.has_data f.resc_data more

-- the end of the head of a text of a version after the first, and what follows it
abbrev pub recovery_pieces : Bool → List Piece → List Piece
recovery_pieces eager more = comma ∷ word (codes "desc_recover") ∷ equals ∷ word (recovery_word eager) ∷ last_pieces more

-- the end of the head, and what follows it
abbrev pub end_by : (version : Version) (eager : Bool) → List Piece → List Piece
end_by v1 eager more = last_pieces more
end_by v2 eager more = recovery_pieces eager more
end_by v3 eager more = recovery_pieces eager more

-- all that follows the brace of the head
abbrev pub after_brace : (version : Version) → Facts → List Piece → List Piece
after_brace v1 f more = shared_pieces f (last_pieces more)
after_brace v2 f more = word (codes "version") ∷ equals ∷ version_number Second ∷ comma ∷ map (newer Second) (shared_pieces f (recovery_pieces f.eager more))
after_brace v3 f more =
    word (codes "version") ∷ equals ∷ version_number Third ∷ comma ∷ map (newer Second) (map (newer Third) (shared_pieces f (recovery_pieces f.eager more)))
