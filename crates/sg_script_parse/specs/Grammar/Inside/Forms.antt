-- The pieces of a script's parts by name.
use Rattle.std.specs.Prelude.{List, [], ◌∷◌, ◌++◌, codes}
use Rattle.std.specs.List.{flat_map}
use Rattle.sg_script_parse.specs.declared.tree.WrittenArg.{WrittenArg}
use Rattle.sg_script_parse.specs.Grammar.Pieces.{ScriptPiece, mark}
use Rattle.sg_script_parse.specs.Grammar.Sentence.{arg_pieces}

-- arguments, with commas between them
abbrev pub args_pieces : List WrittenArg → List ScriptPiece
args_pieces [] = []
args_pieces (a ∷ args) = arg_pieces a ++ flat_map (λ more. mark (codes ",") ∷ arg_pieces more) args
