-- Facts of the elements of a list, in a form that computes, and facts that are asked for in one case alone.
pub use Rattle.std.specs.List.{AllByRecursion as Each}
pub use Rattle.std.specs.Bool.{OnTrue as When}
