-- Where the arguments of a call stand.
use Rattle.std.specs.Prelude.{List, [], ◌∷◌}
use Rattle.sg_script.specs.declared.args.KeptArgs.{KeptArgs}
use Rattle.sg_script.specs.declared.args.KeptArgs.TheVariants.{One, Any}
use Rattle.sg_script.specs.declared.script.Arg.{Arg}

-- the arguments
abbrev pub args_of : KeptArgs → List Arg
args_of (One arg) = arg ∷ []
args_of (Any args) = args.items
