-- What is read on a text is the one answer that a parser may give, out of memory aside.
use Rattle.std.proofs.Common.{◌≡◌, ◌≢◌, ℕ, List, [], ◌∷◌, map, refl, sym, ap, ◌∙◌}
use Rattle.std.specs.Prelude.{Ok, Err, None, Some}
use Rattle.std.specs.declared.option.Option.{Option}
use Rattle.std.specs.Option.{option_map, option_map_or}
use Rattle.std.specs.declared.result.Result.{Result}
use Rattle.sg_rules.specs.sg_lex.Lexeme.{Lexeme}
use Rattle.sg_rules.specs.sg_lex.Sentences.{Fails, IsNoToken, EndsAt}
use Rattle.sg_rules.specs.sg_lex.Tokens.{Answer}
use Rattle.sg_rules.proofs.sg_lex.Automata.{reads_no_other}
use Rattle.sg_rules.proofs.sg_lex.Answers.{may_answer as any_may, only_value, only_byte, only_token}
use Rattle.sg_rules.specs.declared.error.ParseError.{ParseError}
use Rattle.sg_rules.specs.declared.error.ParseError.TheVariants.{NoMemory, Lex, Syntax}
use Rattle.sg_parse.specs.declared.tree.Tree.{Tree}
use Rattle.sg_parse.specs.Grammar.Sentence.{IsSentence}
use Rattle.sg_rules.specs.sg_lex.Inside.Automata.{Reading, read, read_from}
use Rattle.sg_rules.specs.declared.version.Newer.{Newer}
use Rattle.sg_rules.specs.declared.tree.Rule.{Rule}
use Rattle.sg_rules.specs.Versions.{seen}
use Rattle.sg_rules.specs.Inside.Seen.{seen_answer}
use Rattle.sg_rules.specs.Inside.Parts.{part, part_from, part_ended}
use Rattle.sg_rules.specs.Grammar.Inside.States.{RuleState, rule_reader, step as rule_step, rules_at}
use Rattle.sg_parse.specs.Grammar.Inside.Forms.{close_brace}
use Rattle.sg_parse.specs.Grammar.Inside.States.{State, answering, answering_after, due, in_newer, start, step, tree_at, trees}
use Rattle.sg_parse.proofs.Grammar.Runs.{just}

-- what may be answered where a lexer answers so on a text of that length
abbrev pub ParsesTo : List Answer → ℕ → Result Tree ParseError → Type 0
ParsesTo answers end (Ok tree) = (tokens : List Lexeme) × (answers ≡ map Ok tokens) × IsSentence tokens tree
ParsesTo answers end (Err NoMemory) = Unit {0}
ParsesTo answers end (Err (Lex place)) = Fails Tree IsSentence answers (IsNoToken place)
ParsesTo answers end (Err (Syntax place)) = Fails Tree IsSentence answers (EndsAt IsSentence end place)

pub may_answer : (length : ℕ) (answers : List Answer) → ParsesTo answers length (read_from trees length start answers)
may_answer length answers = any_may trees IsSentence just answers length (ParsesTo answers length) (record {
  value = λ tree f. f;
  byte = λ place f. f;
  token = λ place f. f;
})

pub only_answer : (length : ℕ) (answers : List Answer) (other : Result Tree ParseError) → ParsesTo answers length other → other ≢ Err NoMemory
    → read_from trees length start answers ≡ other
only_answer length answers (Ok tree) h n = only_value trees IsSentence just answers length tree h
only_answer length answers (Err NoMemory) h n = absurd (n refl)
only_answer length answers (Err (Lex place)) h n = only_byte trees IsSentence just answers length place h
only_answer length answers (Err (Syntax place)) h n = only_token trees IsSentence just answers length place h

-- reading is never out of memory
pub reads_no_memory : (length : ℕ) (s : State) (answers : List Answer) → read_from trees length s answers ≢ Err NoMemory
reads_no_memory length s answers = reads_no_other trees length s answers NoMemory (λ at e. cc) (λ at e. cc)

-- ---- texts of versions after the first

-- to read on in a text of a version is to read on what it has
read_newer : (version : Newer) (length : ℕ) (s : State) (answers : List Answer)
    → read_from trees length (in_newer version s) answers ≡ read_from trees length s (map (seen_answer version) answers)
unfolding read_from step tree_at
read_newer version length s [] = refl
read_newer version length s (Err fault ∷ behind) = refl
read_newer version length s (Ok token ∷ behind) = by (λ inner. read_newer version length inner behind) (step s (seen version token))
  where
    by : ((inner : State) → read_from trees length (in_newer version inner) behind ≡ read_from trees length inner (map (seen_answer version) behind)) → (found : Option State)
        → option_map_or (λ next. read_from trees length next behind) (option_map (in_newer version) found) (Err (Syntax token.at))
        ≡ option_map_or (λ next. read_from trees length next (map (seen_answer version) behind)) found (Err (Syntax token.at))
    by deeper None = refl
    by deeper (Some inner) = deeper inner

pub turned_read : (version : Newer) (s : State) (old new : Reading) → new.rest ≡ map (seen_answer version) old.rest → new.end ≡ old.end
    → read trees (in_newer version s) old ≡ read trees s new
turned_read version s old new e g =
    read_newer version old.end s old.rest ∙ ap (λ v. read trees s (record { rest = v; end = old.end })) (sym e)
    ∙ ap (λ n. read trees s (record { rest = new.rest; end = n })) (sym g)

-- ---- rules

-- what is read after the rules of a function, or the error in them
abbrev pub after_rules : (List Rule → State) → Result (List Rule × Reading) ParseError → Result Tree ParseError
after_rules k (Ok (rules, left)) = read trees (due close_brace (k rules)) left
after_rules k (Err error) = Err error

-- to read on in rules is to read them as a part, and then the brace that closes them
read_answer : (length : ℕ) (r : RuleState) (k : List Rule → State) (answers : List Answer)
    → read_from trees length (answering r k) answers ≡ after_rules k (part_from rule_reader length r answers)
unfolding read_from part_from step tree_at
read_answer length r k [] = by (rules_at r)
  where
    by : (rules : Option (List Rule)) → Err (Syntax length) ≡ after_rules k (part_ended rule_reader length (record { rest = []; end = length }) rules)
    by None = refl
    by (Some rules) = refl
read_answer length r k (Err fault ∷ behind) = refl
read_answer length r k (Ok token ∷ behind) = by (λ inner. read_answer length inner k behind) (rule_step r token) (rules_at r)
  where
    by : ((inner : RuleState) → read_from trees length (answering inner k) behind ≡ after_rules k (part_from rule_reader length inner behind))
        → (found : Option RuleState) (rules : Option (List Rule))
        → option_map_or (λ next. read_from trees length next behind) (answering_after k token found rules) (Err (Syntax token.at))
        ≡ after_rules k (option_map_or (λ next. part_from rule_reader length next behind) found
        (part_ended rule_reader token.at (record { rest = Ok token ∷ behind; end = length }) rules))
    by deeper (Some inner) rules = deeper inner
    by deeper None (Some rules) = refl
    by deeper None None = refl

pub rules_read : (r : RuleState) (k : List Rule → State) (old : Reading) → read trees (answering r k) old ≡ after_rules k (part rule_reader r old)
rules_read r k old = read_answer old.end r k old.rest
