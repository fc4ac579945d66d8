-- The names of what can be wrong with a text that describes a service of its own.
use Rattle.std.specs.Prelude.{ℕ, List, codes}
use Rattle.sg_explain.specs.sg_input.Verdicts.{refusal_name}
use Rattle.sg_explain.specs.sg_input.declared.refusal.RefusalKind.TheVariants.{Check}
use Rattle.sg_own.specs.declared.fault.OwnKind.{OwnKind}
use Rattle.sg_own.specs.declared.fault.OwnKind.TheVariants.{Shape, Answers, Safety, Walks}
use Rattle.sg_own.specs.declared.fault.SafetyKind.{SafetyKind}
use Rattle.sg_own.specs.declared.fault.SafetyKind.TheVariants.{CountsFar, Recounts, Overtaken, NoClient, Refusable, Overflows}
use Rattle.sg_own.specs.sg_describe.declared.fault.AnswerFaultKind.{AnswerFaultKind}
use Rattle.sg_own.specs.sg_describe.declared.fault.AnswerFaultKind.TheVariants.{NotYet, UnknownField, UnknownCode, GuardsCode, NoArgument, TooBig, TwoAnswers, TwoLimits, MayNotBlock, NoWord, EndsWithWord, NotExternal}
use Rattle.sg_own.specs.sg_shape.declared.fault.ShapeFaultKind.{ShapeFaultKind}
use Rattle.sg_own.specs.sg_shape.declared.fault.ShapeFaultKind.TheVariants.{Limit, DuplicateName, UnknownFunction, BadParams, MixedField, TwoEffects, Contradiction, PrivateLooksAround, QueryTakes, FileWithoutDesc, TextChanged, BlocksOrMakes, StateOfOther, MakesOn, ActsOnNone, NoParents, ReplayWrites, ArgumentLost, ReplayUnknown, RecoverMakes, WrongFact}

-- of its shape
abbrev pub shape_name : ShapeFaultKind → List ℕ
shape_name Limit = codes "Limit"
shape_name DuplicateName = codes "DuplicateName"
shape_name UnknownFunction = codes "UnknownFunction"
shape_name BadParams = codes "BadParams"
shape_name MixedField = codes "MixedField"
shape_name TwoEffects = codes "TwoEffects"
shape_name Contradiction = codes "Contradiction"
shape_name PrivateLooksAround = codes "PrivateLooksAround"
shape_name QueryTakes = codes "QueryTakes"
shape_name FileWithoutDesc = codes "FileWithoutDesc"
shape_name TextChanged = codes "TextChanged"
shape_name BlocksOrMakes = codes "BlocksOrMakes"
shape_name StateOfOther = codes "StateOfOther"
shape_name MakesOn = codes "MakesOn"
shape_name ActsOnNone = codes "ActsOnNone"
shape_name NoParents = codes "NoParents"
shape_name ReplayWrites = codes "ReplayWrites"
shape_name ArgumentLost = codes "ArgumentLost"
shape_name ReplayUnknown = codes "ReplayUnknown"
shape_name RecoverMakes = codes "RecoverMakes"
shape_name WrongFact = codes "WrongFact"

-- of what it says of answers
abbrev pub answer_name : AnswerFaultKind → List ℕ
answer_name NotYet = codes "NotYet"
answer_name UnknownField = codes "UnknownField"
answer_name UnknownCode = codes "UnknownCode"
answer_name GuardsCode = codes "GuardsCode"
answer_name NoArgument = codes "NoArgument"
answer_name TooBig = codes "TooBig"
answer_name TwoAnswers = codes "TwoAnswers"
answer_name TwoLimits = codes "TwoLimits"
answer_name MayNotBlock = codes "MayNotBlock"
answer_name NoWord = codes "NoWord"
answer_name EndsWithWord = codes "EndsWithWord"
answer_name NotExternal = codes "NotExternal"

-- why its service can't be recovered
abbrev pub safety_name : SafetyKind → List ℕ
safety_name CountsFar = codes "CountsFar"
safety_name Recounts = codes "Recounts"
safety_name Overtaken = codes "Overtaken"
safety_name NoClient = codes "NoClient"
safety_name Refusable = codes "Refusable"
safety_name Overflows = codes "Overflows"

-- of each kind
abbrev pub own_name : OwnKind → List ℕ
own_name (Shape kind) = shape_name kind
own_name (Answers kind) = answer_name kind
own_name (Safety kind) = safety_name kind
own_name (Walks kind) = refusal_name (Check kind)
