-- What is read on a text is the one answer.
use Rattle.std.proofs.Common.{◌≡◌, ◌≢◌, ◌⊎◌, inl, inr, ℕ, List, length, refl, sym, subst, ◌∙◌}
use Rattle.std.specs.Prelude.{Ok, Err}
use Rattle.std.specs.declared.result.Result.{Result}
use Rattle.sg_rules.specs.sg_lex.Tokens.{answers_of}
use Rattle.sg_rules.specs.declared.error.ParseError.{ParseError}
use Rattle.sg_rules.specs.declared.error.ParseError.TheVariants.{NoMemory, Lex, Syntax}
use Rattle.sg_parse.specs.declared.tree.Tree.{Tree}
use Rattle.sg_parse.specs.Grammar.Parses.{Parses}
use Rattle.sg_parse.specs.Grammar.Inside.States.{start, trees}
use Rattle.sg_rules.specs.sg_lex.Inside.Automata.{read, Answers}
use Rattle.sg_parse.proofs.Grammar.Readings.{ParsesTo, may_answer, only_answer}

pub may : (text : List ℕ) (answer : Result Tree ParseError) → Answers trees (read trees start (record { rest = answers_of text; end = length text })) answer → Parses text answer
may text (Ok tree) h = subst (ParsesTo (answers_of text) (length text)) (h (λ e. cc)) (may_answer (length text) (answers_of text))
may text (Err NoMemory) h = tt
may text (Err (Lex at)) h = subst (ParsesTo (answers_of text) (length text)) (h (λ e. cc)) (may_answer (length text) (answers_of text))
may text (Err (Syntax at)) h = subst (ParsesTo (answers_of text) (length text)) (h (λ e. cc)) (may_answer (length text) (answers_of text))

pub only : (text : List ℕ) (answer other : Result Tree ParseError) → Answers trees (read trees start (record { rest = answers_of text; end = length text })) answer
    → Parses text other → other ≢ Err NoMemory → (answer ≡ other) ⊎ (answer ≡ Err NoMemory)
only text (Ok tree) other h p n = inl (sym (h (λ e. cc)) ∙ only_answer (length text) (answers_of text) other p n)
only text (Err NoMemory) other h p n = inr refl
only text (Err (Lex at)) other h p n = inl (sym (h (λ e. cc)) ∙ only_answer (length text) (answers_of text) other p n)
only text (Err (Syntax at)) other h p n = inl (sym (h (λ e. cc)) ∙ only_answer (length text) (answers_of text) other p n)
