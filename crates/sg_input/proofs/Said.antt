-- What is said of a text that is refused, whatever the services.
use Rattle.std.proofs.Common.{◌≡◌, ℕ, List, subst, sym}
use Rattle.std.specs.Prelude.{Ok, Err, IfOk}
use Rattle.std.specs.declared.result.Result.{Result}
use Rattle.sg_facts.specs.sg_base.declared.memory.NoMemory.{NoMemory}
use Rattle.sg_facts.specs.Facts.{Facts}
use Rattle.sg_print.specs.sg_parse.sg_rules.declared.error.ParseError.{ParseError}
use Rattle.sg_print.specs.sg_parse.sg_rules.declared.error.ParseError.TheVariants.{Lex as lex_fault, Syntax as syntax_fault}
use Rattle.sg_print.specs.sg_parse.declared.tree.Tree.{Tree}
use Rattle.sg_print.specs.sg_parse.Grammar.Parses.{Parses}
use Rattle.sg_stub.specs.sg_check_statements.declared.fault.CheckError.{CheckError}
use Rattle.sg_stub.specs.sg_check_statements.declared.fault.CheckError.TheVariants.{Fault}
use Rattle.sg_stub.specs.sg_check_statements.declared.fault.CheckFault.{CheckFault}
use Rattle.sg_stub.specs.sg_check_statements.Stages.{IsFirstFault}
use Rattle.sg_input.specs.declared.read.Read.TheVariants.{Refused}
use Rattle.sg_input.specs.declared.refusal.RefusalKind.{RefusalKind}
use Rattle.sg_input.specs.declared.refusal.RefusalKind.TheVariants.{Lex, Syntax, Check}
use Rattle.sg_input.specs.Verdicts.{IsRefused, IsVerdict, services_for}

-- a line says that a text is refused, whatever the services
abbrev pub SaysSo : List ℕ → List ℕ → Type 0
SaysSo text line = (services : List Facts) → IsVerdict services text (Refused line)

-- the line of a kind and a place says so, where the text is refused for that kind there
abbrev pub SaysIf : List ℕ → RefusalKind → ℕ → List ℕ → Type 0
SaysIf text kind at line = (services : List Facts) → IsRefused services text kind at → IsVerdict services text (Refused line)

says : (text : List ℕ) (kind : RefusalKind) (at : ℕ) (r : Result (List ℕ) NoMemory) → ((services : List Facts) → IsRefused services text kind at)
    → IfOk r (SaysIf text kind at) → IfOk r (SaysSo text)
says text kind at (Ok line) is line_says = λ services. line_says services (is services)
says text kind at (Err e) is line_says = tt

-- where the parser finds that no token begins at a place
pub says_lex : (text : List ℕ) (error : ParseError) (at : ℕ) (r : Result (List ℕ) NoMemory) → error ≡ lex_fault at → Parses text (Err error)
    → IfOk r (SaysIf text Lex at) → IfOk r (SaysSo text)
says_lex text error at r is parses = says text Lex at r (λ services. subst (λ e. Parses text (Err e)) is parses)

-- where it finds that the tokens can't go on at a place
pub says_syntax : (text : List ℕ) (error : ParseError) (at : ℕ) (r : Result (List ℕ) NoMemory) → error ≡ syntax_fault at → Parses text (Err error)
    → IfOk r (SaysIf text Syntax at) → IfOk r (SaysSo text)
says_syntax text error at r is parses = says text Syntax at r (λ services. subst (λ e. Parses text (Err e)) is parses)

-- the line of the checker's error says so of a sentence whose tree has that error
abbrev pub SaysOfTrees : List ℕ → CheckError → List ℕ → Type 0
SaysOfTrees text error line =
    (services : List Facts) (tree : Tree) → Parses text (Ok tree) → IsFirstFault (services_for services tree) tree error → IsVerdict services text (Refused line)

by_fault : (text : List ℕ) (fault : CheckFault) (r : Result (List ℕ) NoMemory) → IfOk r (SaysIf text (Check fault.kind) fault.at) → IfOk r (SaysOfTrees text (Fault fault))
by_fault text fault (Ok line) line_says = λ services tree parses is. line_says services (tree, parses, is)
by_fault text fault (Err e) line_says = tt

pub says_fault : (text : List ℕ) (error : CheckError) (fault : CheckFault) (r : Result (List ℕ) NoMemory) → error ≡ Fault fault
    → IfOk r (SaysIf text (Check fault.kind) fault.at) → IfOk r (SaysOfTrees text error)
says_fault text error fault r is line_says = subst (λ e. IfOk r (SaysOfTrees text e)) (sym is) (by_fault text fault r line_says)
