-- How functions answer, in sentences.
use Rattle.std.specs.Prelude.{ℕ, List, [], ◌∷◌, ◌++◌, codes}
use Rattle.std.specs.List.{concat, flat_map}
use Rattle.sg_explain.specs.sg_facts.Words.{line_end}
use Rattle.sg_explain.specs.sg_input.sg_print.RulesText.{rule_text, term_text, tests_text}
use Rattle.sg_explain.specs.sg_input.sg_print.sg_parse.declared.tree.Statement.{Statement}
use Rattle.sg_explain.specs.sg_input.sg_print.sg_parse.declared.tree.Statement.TheVariants.{Answer}
use Rattle.sg_explain.specs.sg_input.sg_print.sg_parse.sg_rules.declared.tree.Rule.{Rule}
use Rattle.sg_explain.specs.sg_input.sg_print.sg_parse.sg_rules.declared.tree.Rule.TheVariants.{Refuse, Wait, Give}
use Rattle.sg_explain.specs.sg_input.sg_print.sg_parse.sg_rules.declared.tree.Tests.{Tests}

-- where tests hold, if there are any
abbrev pub where_words : Tests → List ℕ
where_words when = elim when.tests [ [] ↦ [] | test ∷ more ↦ codes " where " ++ tests_text when ]

-- what a function does by a rule
abbrev pub rule_words : Rule → List ℕ
rule_words (Refuse at code when) = concat (codes " is refused " ∷ code.bytes ∷ where_words when ∷ [])
rule_words (Wait at when) = codes " waits" ++ where_words when
rule_words (Give at term when) = concat (codes " is done, and gives " ∷ term_text term ∷ where_words when ∷ [])
rule_words rule = codes " " ++ rule_text rule

-- the sentence of a rule of a function
abbrev pub rule_sentence : List ℕ → Rule → List ℕ
rule_sentence f rule = concat (f ∷ rule_words rule ∷ codes "." ∷ line_end ∷ [])

-- the sentences of the rules of a function, and of where none applies
abbrev pub answer_lines : List ℕ → List Rule → List ℕ
answer_lines f rules = flat_map (rule_sentence f) rules ++ concat (codes "Else " ∷ f ∷ codes " is done." ∷ line_end ∷ [])

-- those of a statement that says how a function answers
abbrev pub answers_in : Statement → List ℕ
answers_in s = elim s [ Answer fun rules ↦ answer_lines fun.bytes rules | _ ↦ [] ]
