-- The interface of a text that describes a service of its own, with what the text describes.
use Rattle.std.specs.Prelude.{◌≡◌}
use Rattle.sg_check.specs.sg_check_statements.sg_parse.declared.tree.Tree.{Tree}
use Rattle.sg_describe.specs.DescribedText.{described_of_text}
use Rattle.sg_describe.specs.sg_described.Described.{described_of}
use Rattle.sg_own.specs.declared.checking.OwnInterface.{OwnInterface}
use Rattle.sg_own.specs.Faults.{IsOwnAccepted}

-- a text is accepted with this interface, and describes this
pub record IsOwnInterface (tree : Tree) (own : OwnInterface) : Type 0 where
  pub accepted : IsOwnAccepted tree own.accepted
  pub describes : described_of own.description ≡ described_of_text tree
