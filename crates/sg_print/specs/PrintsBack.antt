-- A printed tree reads back.
use Rattle.std.specs.Prelude.{◌≡◌, Ok}
use Rattle.sg_parse.specs.declared.tree.Tree.{Tree}
use Rattle.sg_parse.specs.Grammar.Parses.{Parses}
use Rattle.sg_parse.specs.Grammar.Plain.{plain}
use Rattle.sg_print.specs.Printed.{printed}

-- the tree's text is a sentence, whose tree is equal to the printed one but for places
pub record PrintsBack (tree : Tree) : Type 0 where
  pub again : Tree
  pub parses : Parses (printed tree) (Ok again)
  pub same : plain again ≡ plain tree
