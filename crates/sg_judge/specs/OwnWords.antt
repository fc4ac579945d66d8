-- What is said of each kind of thing that can be wrong with a text that describes a service of its own.
use Rattle.std.specs.Prelude.{codes}
use Rattle.sg_explain.specs.Words.{Sentences, check_words}
use Rattle.sg_own.specs.declared.fault.OwnKind.{OwnKind}
use Rattle.sg_own.specs.declared.fault.OwnKind.TheVariants.{Shape, Answers, Safety, Walks}
use Rattle.sg_own.specs.declared.fault.SafetyKind.{SafetyKind}
use Rattle.sg_own.specs.declared.fault.SafetyKind.TheVariants.{CountsFar, Recounts, Overtaken, NoClient, Refusable, Overflows}
use Rattle.sg_own.specs.sg_describe.declared.fault.AnswerFaultKind.{AnswerFaultKind}
use Rattle.sg_own.specs.sg_describe.declared.fault.AnswerFaultKind.TheVariants.{NotYet, UnknownField, UnknownCode, GuardsCode, NoArgument, TooBig, TwoAnswers, TwoLimits, MayNotBlock, NoWord, EndsWithWord, NotExternal}
use Rattle.sg_own.specs.sg_shape.declared.fault.ShapeFaultKind.{ShapeFaultKind}
use Rattle.sg_own.specs.sg_shape.declared.fault.ShapeFaultKind.TheVariants.{Limit, DuplicateName, UnknownFunction, BadParams, MixedField, TwoEffects, Contradiction, PrivateLooksAround, QueryTakes, FileWithoutDesc, TextChanged, BlocksOrMakes, StateOfOther, MakesOn, ActsOnNone, NoParents, ReplayWrites, ArgumentLost, ReplayUnknown, RecoverMakes, WrongFact}

-- of its shape
abbrev pub shape_words : ShapeFaultKind → Sentences
shape_words Limit = record { before = codes "There is one function, parameter, field or rule too many at "; after = codes "."; meant = codes "A service has at most 32 functions and 8 fields, and a function at most 256 parameters and 32 rules." }
shape_words DuplicateName = record { before = codes "The function "; after = codes " has a prototype already."; meant = codes "A function has one prototype: usually this one is a copy, or another function is meant." }
shape_words UnknownFunction = record { before = codes "The text has no prototype of "; after = codes "."; meant = codes "Usually the name is misspelt, or the prototype was left out." }
shape_words BadParams = record { before = codes "The parameters of "; after = codes " can't be those of a function."; meant = codes "The first is the caller, and neither a descriptor nor an addend; of the others at most one is desc or parent_desc, and such a one and an addend are no texts." }
shape_words MixedField = record { before = codes "The field "; after = codes " is a number at one place and a text at another."; meant = codes "Usually a star is missing in a type, or another field is meant." }
shape_words TwoEffects = record { before = codes "The function "; after = codes " does two things to one field."; meant = codes "An Ok does one thing to a field: usually one of the desc_data words names another field." }
shape_words Contradiction = record { before = codes "What is said of the state that "; after = codes " leaves contradicts itself."; meant = codes "A function has one sm_state at the most, and none beside sm_keep." }
shape_words PrivateLooksAround = record { before = codes "In a private service "; after = codes " would look at other clients' descriptors."; meant = codes "desc_is_global = false goes with neither desc_has_parent = cross nor sm_needs_all." }
shape_words QueryTakes = record { before = codes "The query "; after = codes " takes a descriptor or a parent."; meant = codes "Usually sm_query doesn't belong to it." }
shape_words FileWithoutDesc = record { before = codes "The function "; after = codes " uses a file and takes no descriptor."; meant = codes "resc_data says that a function reads or writes the file of its descriptor." }
shape_words TextChanged = record { before = codes "The function "; after = codes " changes a text."; meant = codes "A text is set by the function that makes a descriptor, and not again." }
shape_words BlocksOrMakes = record { before = codes "The function "; after = codes " may block, and makes or ends a descriptor."; meant = codes "Usually it is two functions: one that makes or ends, and one that waits." }
shape_words StateOfOther = record { before = codes "The function "; after = codes " leaves the state of one that leaves another."; meant = codes "sm_state(f, g) names a g that leaves its own state: usually the function is meant whose state g leaves." }
shape_words MakesOn = record { before = codes "The function "; after = codes " makes a descriptor, and is a query, or takes or ends one."; meant = codes "A creation takes no desc, and is neither sm_terminal nor sm_query." }
shape_words ActsOnNone = record { before = codes "The function "; after = codes " neither makes a descriptor nor takes one."; meant = codes "Usually desc is missing at a parameter, or sm_creation or sm_query at the function." }
shape_words NoParents = record { before = codes "The function "; after = codes " takes a parent, and descriptors have none."; meant = codes "Usually desc_has_parent = same or cross is meant." }
shape_words ReplayWrites = record { before = codes "The replayed function "; after = codes " writes a file."; meant = codes "Files come back from storage; a recover step may set the place in one." }
shape_words ArgumentLost = record { before = codes "An argument of the replayed function "; after = codes " goes into no field, or into two."; meant = codes "Each argument of a creation or of a recover step is desc_data or desc_data_add of one field, so that the call can be made again." }
shape_words ReplayUnknown = record { before = codes "The replayed function "; after = codes " leaves a field unknown."; meant = codes "Where descriptors have parents, a replayed function sets its fields to arguments or to the caller." }
shape_words RecoverMakes = record { before = codes "The recover step "; after = codes " makes a descriptor."; meant = codes "sm_recover(f, g) says that g is replayed on a descriptor that is there." }
shape_words WrongFact = record { before = codes "The statements say otherwise than "; after = codes "."; meant = codes "desc_block is true where some function is sm_block, desc_has_data where there is a field, and resc_has_data where some function is resc_data." }

-- of what it says of answers
abbrev pub answer_words : AnswerFaultKind → Sentences
answer_words NotYet = record { before = codes "What stands here can be described, and can't be judged yet: "; after = codes "."; meant = codes "Parents, subtree, files, queries, functions that look at all rows, texts in fields, unique keys and rules about other rows are left to a later version of the program." }
answer_words UnknownField = record { before = codes "There is no field or function "; after = codes "."; meant = codes "Fields are what the desc_data words name; a function's name stands for the state that it leaves." }
answer_words UnknownCode = record { before = codes "There is no code "; after = codes "."; meant = codes "A service refuses by NotOwner, Held, Occupied, NotFound, Overflow, Gap, TooBig or BadName." }
answer_words GuardsCode = record { before = codes "The code "; after = codes " is the guard's."; meant = codes "NoDesc, NoParent, BadState, HasChildren and Full are found before the service is asked." }
answer_words NoArgument = record { before = codes "The function has no number at the place "; after = codes " of its parameters."; meant = codes "$k is the k-th parameter after the caller, from 1; it is no descriptor, no parent and no text." }
answer_words TooBig = record { before = codes "The number "; after = codes " is above 18446744073709551615."; meant = codes "A number has 64 bits." }
answer_words TwoAnswers = record { before = codes "What "; after = codes " answers is said already."; meant = codes "All rules of a function stand in one sm_answer." }
answer_words TwoLimits = record { before = codes "The greatest number of "; after = codes " is said already."; meant = codes "" }
answer_words MayNotBlock = record { before = codes "The rule at "; after = codes " lets callers wait, and the function may not block."; meant = codes "Usually sm_block is missing; a function that makes or ends a descriptor never waits." }
answer_words NoWord = record { before = codes "A field takes the word that "; after = codes " returns, and some Ok of it has none."; meant = codes "Usually a `give TERM;` without tests is missing at the end of its rules." }
answer_words EndsWithWord = record { before = codes "The rule at "; after = codes " gives a word in a function that ends its descriptor."; meant = codes "A function that is sm_terminal gives no word: usually another function is to give it, before." }
answer_words NotExternal = record { before = codes "The function "; after = codes " makes no descriptor."; meant = codes "sm_external says of a function that makes descriptors that it can't be done again." }

-- of why its service can't be recovered
abbrev pub safety_words : SafetyKind → Sentences
safety_words CountsFar = record { before = codes "The number "; after = codes " is too great for a field that takes returned words."; meant = codes "Such a field counts: its greatest number is at most 17179869184." }
safety_words Recounts = record { before = codes "The replayed function "; after = codes " adds to a field that takes returned words."; meant = codes "What is counted would be counted again: usually a function of its own for replays sets the field." }
safety_words Overtaken = record { before = codes "A client that waits by the rule at "; after = codes " may be let pass without a wake-up."; meant = codes "Usually sm_wakeup of the function below is missing: a client that is woken for nothing asks again." }
safety_words NoClient = record { before = codes "The replayed function "; after = codes " sets a field to its caller, and no client may be known."; meant = codes "In each state that it leaves the field has to be a client: usually another function is to be the recover step." }
safety_words Refusable = record { before = codes "The rule at "; after = codes " may refuse or put off a replayed call."; meant = codes "Usually a function of its own for replays, which only sets fields and has no rules, is to be the recover step." }
safety_words Overflows = record { before = codes "A replayed call of "; after = codes " may take a field past its greatest number."; meant = codes "Usually the recover step is to set the field, and not to add to it; or the greatest number is too small." }

-- of each kind
abbrev pub own_words : OwnKind → Sentences
own_words (Shape kind) = shape_words kind
own_words (Answers kind) = answer_words kind
own_words (Safety kind) = safety_words kind
own_words (Walks kind) = check_words kind
