-- How many names and parameters there are.
use Rattle.std.specs.Prelude.{◌≤◌, length}
use Rattle.sg_shape.specs.sg_facts.Facts.{Facts, Fun}
use Rattle.sg_shape.specs.sg_facts.Limits.{most_fields, most_funs}

-- a shape has no more functions and fields than it may have
pub record HasFewNames (facts : Facts) : Type 0 where
  pub funs : length facts.funs ≤ most_funs
  pub fields : length facts.fields ≤ most_fields

-- a function has at most 255 parameters after the caller
abbrev pub HasFewParams : Fun → Type 0
HasFewParams f = length f.kinds ≤ 255
