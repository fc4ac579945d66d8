-- What the code says of a change of a field, as an effect.
use Rattle.sg_facts.specs.declared.shape.Effect.{Effect}
use Rattle.sg_facts.specs.declared.shape.Effect.TheVariants.{SetCaller, SetArg, AddArg, SetRet, AddRet, Clear, SubOne, SubRet}
use Rattle.sg_check_statements.specs.declared.change.Change.{Change}
use Rattle.sg_check_statements.specs.declared.change.Change.TheVariants.{Caller, Arg, MoreArg, Ret, MoreRet, Nothing, Less, LessRet}

-- the effect that a change is; the number of an argument isn't bounded
abbrev pub change_effect : Change → Effect
change_effect Caller = SetCaller
change_effect (Arg k) = SetArg k
change_effect (MoreArg k) = AddArg k
change_effect Ret = SetRet
change_effect MoreRet = AddRet
change_effect Nothing = Clear
change_effect Less = SubOne
change_effect LessRet = SubRet
