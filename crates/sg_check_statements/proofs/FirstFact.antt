-- The first fact that isn't the service's, one fact after the other.
use Rattle.std.proofs.Common.{◌≡◌, ℕ, Bool, true, false, cond, not, List, [], ◌∷◌, None, Some, refl}
use Rattle.std.specs.Prelude.{find}
use Rattle.std.specs.declared.option.Option.{Option}
use Rattle.std.specs.Bool.{then_some}
use Rattle.std.specs.Option.{option_map, option_or}
use Rattle.std.specs.Str.{bytes_eq}
use Rattle.sg_facts.specs.Facts.{Facts}
use Rattle.sg_facts.specs.Words.{close_word, flag_word, parents_word}
use Rattle.sg_parse.specs.declared.tree.Facts.{Facts as Head}
use Rattle.sg_parse.specs.sg_lex.Lexeme.{Spelling as Named}
use Rattle.sg_check_statements.specs.Flaws.{wrong_fact}
use Rattle.sg_check_statements.specs.Inside.Pieces.{first_other, other_value}

-- the place of the first value of some that isn't its word
abbrev first_in : List (Named × List ℕ) → Option ℕ
first_in values = option_map (λ (p : Named × List ℕ). p.0.at) (find (λ (p : Named × List ℕ). not (bytes_eq p.0.bytes p.1)) values)

turn : (value : Named) (word : List ℕ) (rest : List (Named × List ℕ)) (others : Option ℕ) → first_in rest ≡ others → first_in ((value, word) ∷ rest) ≡ option_or (other_value value word) others
turn value word rest others same = by (not (bytes_eq value.bytes word))
  where
    by : (b : Bool) → option_map (λ (p : Named × List ℕ). p.0.at) (cond b (Some (value, word)) (find (λ (p : Named × List ℕ). not (bytes_eq p.0.bytes p.1)) rest)) ≡ option_or (then_some b value.at) others
    by true = refl
    by false = same

alone : (value : Named) (word : List ℕ) → first_in ((value, word) ∷ []) ≡ other_value value word
alone value word = by (not (bytes_eq value.bytes word))
  where
    by : (b : Bool) → option_map (λ (p : Named × List ℕ). p.0.at) (cond b (Some (value, word)) None) ≡ then_some b value.at
    by true = refl
    by false = refl

abbrev first_other_from_block : Facts → Head → Option ℕ
first_other_from_block facts head =
    option_or (other_value head.block (flag_word facts.block))
    (option_or (other_value head.has_data (flag_word facts.has_data)) (other_value head.resc_data (flag_word facts.resc_data)))

abbrev first_other_from_global : Facts → Head → Option ℕ
first_other_from_global facts head = option_or (other_value head.global (flag_word facts.global)) (first_other_from_block facts head)

abbrev first_other_from_close : Facts → Head → Option ℕ
first_other_from_close facts head = option_or (other_value head.close (close_word facts.subtree)) (first_other_from_global facts head)

pub by_turns : (facts : Facts) (head : Head) → wrong_fact facts head ≡ first_other facts head
by_turns facts head =
    let fifth : List (Named × List ℕ) = (head.resc_data, flag_word facts.resc_data) ∷ [] in
    let fourth : List (Named × List ℕ) = (head.has_data, flag_word facts.has_data) ∷ fifth in
    let third : List (Named × List ℕ) = (head.block, flag_word facts.block) ∷ fourth in
    let second : List (Named × List ℕ) = (head.global, flag_word facts.global) ∷ third in
    let first : List (Named × List ℕ) = (head.close, close_word facts.subtree) ∷ second in
    let last = alone head.resc_data (flag_word facts.resc_data) in
    let has_data = turn head.has_data (flag_word facts.has_data) fifth (other_value head.resc_data (flag_word facts.resc_data)) last in
    let block = turn head.block (flag_word facts.block) fourth (option_or (other_value head.has_data (flag_word facts.has_data)) (other_value head.resc_data (flag_word facts.resc_data))) has_data in
    let global = turn head.global (flag_word facts.global) third (first_other_from_block facts head) block in
    let close = turn head.close (close_word facts.subtree) second (first_other_from_global facts head) global in
    turn head.parent (parents_word facts.parents) first (first_other_from_close facts head) close
