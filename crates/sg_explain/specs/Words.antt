-- What is said of each kind of fault, in words.
use Rattle.std.specs.Prelude.{ℕ, List, ◌++◌, codes}
use Rattle.sg_input.specs.sg_facts.Words.{line_end}
use Rattle.sg_input.specs.sg_check_statements.declared.fault.CheckKind.{CheckKind}
use Rattle.sg_input.specs.sg_check_statements.declared.fault.CheckKind.TheVariants.{UnknownService, DuplicateName, UnknownFunction, BadParams, WrongFact, WrongFlag, WrongEffect, ForeignTransition, ForeignRecover, NoCreation, Unreached, NoWalk}
use Rattle.sg_input.specs.declared.refusal.RefusalKind.{RefusalKind}
use Rattle.sg_input.specs.declared.refusal.RefusalKind.TheVariants.{Lex, Syntax, Check}
use Rattle.sg_input.specs.sg_script.declared.fault.ScriptKind.{ScriptKind}
use Rattle.sg_input.specs.sg_script.declared.fault.ScriptKind.TheVariants.{Syntax as ScriptSyntax, UnknownFunction as ScriptFunction, UnknownService as ScriptService, BadArgs, BadClient, Twice, NotAscending, Blocking, Limit}

-- a sentence that says what is wrong, in two parts, between which stands what the input has at the place; and one that says what is
-- usually meant
pub record Sentences : Type 0 where
  pub before : List ℕ
  pub after : List ℕ
  pub meant : List ℕ

-- of an interface that isn't accepted
abbrev pub check_words : CheckKind → Sentences
check_words UnknownService = record { before = codes "There is no service with the name "; after = codes "."; meant = codes "Usually the name is misspelt; the services are those that the program has built in." }
check_words DuplicateName = record { before = codes "The function "; after = codes " has a prototype already."; meant = codes "A function has one prototype: usually this one is a copy, or another function is meant." }
check_words UnknownFunction = record { before = codes "The service has no function "; after = codes ", or the text has no prototype of it."; meant = codes "Usually the name is misspelt, or the prototype was left out." }
check_words BadParams = record { before = codes "The parameters of "; after = codes " aren't those that the service has."; meant = codes "The first is the client; the others have the number, the order and the kinds of the service's, with desc and parent_desc where it has them." }
check_words WrongFact = record { before = codes "The service has another value here than "; after = codes "."; meant = codes "The facts at the head are those of the service, as they are: they can't be chosen." }
check_words WrongFlag = record { before = codes "The flags of "; after = codes ", or the state that it leaves, aren't the service's."; meant = codes "Usually a statement on it is missing or too many: sm_creation, sm_terminal, sm_block, sm_wakeup, sm_query, sm_needs_all, resc_data, sm_state or sm_keep." }
check_words WrongEffect = record { before = codes "What "; after = codes " does to fields isn't what the service's does."; meant = codes "Usually a desc_data word is missing or too many in its prototype or on it, or it names another field." }
check_words ForeignTransition = record { before = codes "The service has no such transition from "; after = codes "."; meant = codes "sm_transition(f, g) says that g may be called in the state f: usually the two are exchanged, or another state is meant." }
check_words ForeignRecover = record { before = codes "The service has no such recover step from "; after = codes "."; meant = codes "sm_recover(f, g) says that g may be replayed in the state f: usually the two are exchanged, or another state is meant." }
check_words NoCreation = record { before = codes "In the text that begins with "; after = codes " no function makes a descriptor."; meant = codes "Usually the prototype of the function that makes descriptors was left out." }
check_words Unreached = record { before = codes "The function "; after = codes " can be called in no state that a descriptor can come to."; meant = codes "Usually a sm_transition to it is missing, or one on the way to it." }
check_words NoWalk = record { before = codes "A descriptor in the state "; after = codes " can't always be rebuilt."; meant = codes "Usually a sm_recover is missing: one that leads to this state, or one that sets the fields." }

-- of a text that is refused
abbrev pub refusal_words : RefusalKind → Sentences
refusal_words Lex = record { before = codes "No token can be read at "; after = codes "."; meant = codes "A token is a word, a number, a text between double quotes, or one of { } ( ) = , ; * $; a text or a comment may lack its end." }
refusal_words Syntax = record { before = codes "Something else has to stand here than "; after = codes "."; meant = codes "Usually a bracket, a comma or a semicolon is missing just before, or a word of the language stands where a name has to." }
refusal_words (Check kind) = check_words kind

-- of a script that is refused
abbrev pub script_words : ScriptKind → Sentences
script_words ScriptSyntax = record { before = codes "Something else has to stand here than "; after = codes "."; meant = codes "Usually a bracket, a comma or a semicolon is missing just before; a script has the parts setup, client, schedule and stop." }
script_words ScriptFunction = record { before = codes "The interface declares no function "; after = codes "."; meant = codes "Usually the name is misspelt, or the interface has no prototype of it." }
script_words ScriptService = record { before = codes "No interface of the input is of the service "; after = codes "."; meant = codes "Usually the name is misspelt, or the interface is missing." }
script_words BadArgs = record { before = codes "The arguments of "; after = codes " don't fit its parameters."; meant = codes "There is one for each parameter after the caller: a text for a text, and else a number, or $k for what the client's k-th call was given, a call before this one." }
script_words BadClient = record { before = codes "There is no client "; after = codes "."; meant = codes "Clients have the numbers 1 to 64." }
script_words Twice = record { before = codes "The part "; after = codes " is there already."; meant = codes "A script has one setup, one schedule, one stop and one part for each client: usually two parts are to be one, or another client is meant." }
script_words NotAscending = record { before = codes "The stop "; after = codes " isn't above the one before it."; meant = codes "Stops are numbers of points, from 1 on, each above the one before." }
script_words Blocking = record { before = codes "The function "; after = codes " may block, and stands in setup."; meant = codes "Nobody could wake its caller during the setup: usually the call belongs to a client's part." }
script_words Limit = record { before = codes "A limit is passed at "; after = codes "."; meant = codes "A number is at most 18446744073709551615, a text has at most 256 bytes, and a script has at most 65536 calls and 64 stops." }

-- of an input that is too long
abbrev pub too_long_words : List ℕ
too_long_words = codes "An interface has at most 65536 bytes, and a script at most 4194304." ++ line_end
