-- What is read on a text is the one answer.
use Rattle.std.proofs.Common.{◌≡◌, ◌≢◌, ◌⊎◌, inl, inr, ℕ, Bool, List, length, refl, sym, subst, ◌∙◌}
use Rattle.std.specs.Prelude.{Ok, Err}
use Rattle.std.specs.declared.result.Result.{Result}
use Rattle.sg_lex.specs.Tokens.{answers_of}
use Rattle.sg_script_parse.specs.declared.error.ScriptSyntax.{ScriptSyntax}
use Rattle.sg_script_parse.specs.declared.error.ScriptSyntax.TheVariants.{NoMemory, Syntax}
use Rattle.sg_script_parse.specs.declared.tree.Part.{Part}
use Rattle.sg_script_parse.specs.Grammar.Parses.{ScriptParses}
use Rattle.sg_script_parse.specs.Grammar.Inside.States.{script_start, scripts}
use Rattle.sg_lex.specs.Inside.Automata.{read, Answers}
use Rattle.sg_script_parse.proofs.Grammar.Readings.{ScriptParsesTo, may_answer, only_answer}

pub may : (several : Bool) (text : List ℕ) (answer : Result (List Part) ScriptSyntax) → Answers scripts (read scripts (script_start several) (record { rest = answers_of text; end = length text })) answer → ScriptParses several text answer
may several text (Ok parts) h = subst (ScriptParsesTo several (answers_of text) (length text)) (h (λ e. cc)) (may_answer several (length text) (answers_of text))
may several text (Err NoMemory) h = tt
may several text (Err (Syntax at)) h = subst (ScriptParsesTo several (answers_of text) (length text)) (h (λ e. cc)) (may_answer several (length text) (answers_of text))

pub only : (several : Bool) (text : List ℕ) (answer other : Result (List Part) ScriptSyntax) → Answers scripts (read scripts (script_start several) (record { rest = answers_of text; end = length text })) answer
    → ScriptParses several text other → other ≢ Err NoMemory → (answer ≡ other) ⊎ (answer ≡ Err NoMemory)
only several text (Ok parts) other h p n = inl (sym (h (λ e. cc)) ∙ only_answer several (length text) (answers_of text) other p n)
only several text (Err NoMemory) other h p n = inr refl
only several text (Err (Syntax at)) other h p n = inl (sym (h (λ e. cc)) ∙ only_answer several (length text) (answers_of text) other p n)
