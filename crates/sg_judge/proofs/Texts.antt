-- Texts that describe no service of their own.
use Rattle.std.proofs.Common.{◌≡◌, ◌⊎◌, inl, inr, ℕ, List, true, false, sym, ◌∙◌, ap}
use Rattle.std.specs.Prelude.{Ok, Err}
use Rattle.std.specs.declared.result.Result.{Result}
use Rattle.sg_explain.specs.sg_input.Verdicts.{is_own}
use Rattle.sg_explain.specs.sg_input.sg_print.sg_parse.Grammar.Parses.{Parses}
use Rattle.sg_explain.specs.sg_input.sg_print.sg_parse.declared.tree.Tree.{Tree}
use Rattle.sg_explain.specs.sg_input.sg_print.sg_parse.sg_rules.declared.error.ParseError.{ParseError}
use Rattle.sg_explain.specs.sg_input.sg_print.sg_parse.sg_rules.declared.error.ParseError.TheVariants.{Lex, NoMemory, Syntax}
use Rattle.sg_explain.proofs.sg_input.OneInput.{one_tree}
use Rattle.sg_judge.specs.Said.{IsOfServices}

-- its tree is of another version
pub not_own : (text : List ℕ) (tree : Tree) → Parses text (Ok tree) → is_own tree ≡ false → IsOfServices text
not_own text tree parses other t own =
    let wrong : true ≡ false = sym own.own ∙ ap is_own (one_tree text t tree own.parses parses) ∙ other in cc wrong

-- it has no tree
pub no_tree : (text : List ℕ) (answer : Result Tree ParseError) (fault : ParseError)
    → ((other : Result Tree ParseError) → Parses text other → (other ≡ Err NoMemory → ⊥) → (answer ≡ other) ⊎ (answer ≡ Err NoMemory))
    → answer ≡ Err fault → (fault ≡ NoMemory → ⊥) → IsOfServices text
no_tree text answer fault only is other t own = by (only (Ok t) own.parses (λ e. cc e))
  where
    by : (answer ≡ Ok t) ⊎ (answer ≡ Err NoMemory) → ⊥
    by (inl ok) = let wrong : Ok t ≡ Err fault = sym ok ∙ is in cc wrong
    by (inr none) = let same : Err fault ≡ Err NoMemory = sym is ∙ none in other (cc same)

pub lex_tells : (at : ℕ) → Lex at ≡ NoMemory → ⊥
lex_tells at is = cc is

pub syntax_tells : (at : ℕ) → Syntax at ≡ NoMemory → ⊥
syntax_tells at is = cc is
