-- The rules of a function in which nothing is wrong.
use Rattle.std.proofs.Common.{◌≡◌, ℕ, suc, ◌==◌, Bool, true, false, ◌&&◌, ◌||◌, not, List, [], ◌∷◌, map, length, None, Some, refl, arith}
use Rattle.std.specs.Prelude.{is_none, unwrap_or}
use Rattle.std.specs.declared.option.Option.{Option}
use Rattle.std.specs.List.{list_all, list_any}
use Rattle.std.specs.Option.{option_map_or}
use Rattle.std.proofs.lemmas.Bool.Decides.{nat_tests}
use Rattle.std.proofs.lemmas.Bool.{and_from, and_parts, or_left, or_right}
use Rattle.sg_shape.specs.sg_facts.Facts.{Facts, Fun}
use Rattle.sg_shape.specs.sg_facts.Guard.{is_guards}
use Rattle.sg_shape.specs.sg_facts.sg_base.declared.reply.Code.{Code}
use Rattle.sg_shape.specs.sg_facts.sg_base.declared.reply.Code.TheVariants.{NotFound}
use Rattle.sg_shape.specs.sg_check_statements.sg_parse.sg_rules.declared.tree.Rule.{Rule as TextRule}
use Rattle.sg_shape.specs.sg_check_statements.sg_parse.sg_rules.declared.tree.Rule.TheVariants.{Refuse, Wait, Give, GiveRow, GiveFirst}
use Rattle.sg_shape.specs.sg_check_statements.sg_parse.sg_rules.declared.tree.Test.{Test as TextTest}
use Rattle.sg_described.specs.Described.{Rule}
use Rattle.sg_described.specs.Known.{is_give}
use Rattle.sg_described.specs.Safe.{always_gives, is_plain_rule}
use Rattle.sg_describe.specs.declared.fault.AnswerFaultKind.{AnswerFaultKind}
use Rattle.sg_describe.specs.declared.fault.AnswerFaultKind.TheVariants.{NotYet, GuardsCode, MayNotBlock, EndsWithWord}
use Rattle.sg_describe.specs.AnswerFlaws.{gives_always, operand_flaw, operands_flaw, own_flaw, rule_flaw}
use Rattle.sg_describe.specs.DescribedText.{rule_of, test_of}
use Rattle.sg_describe.specs.Names.{code_named}
use Rattle.sg_describe.specs.Said.{first_in}
use Rattle.sg_describe.proofs.Finding.{neither, none_in, not_it, not_told}

module _ (facts : Facts) (f : Fun) where
  own_none : (kind : AnswerFaultKind) (r : TextRule) → rule_flaw kind facts f r ≡ None → own_flaw kind f r ≡ None
  own_none kind r none = (neither (operands_flaw (operand_flaw kind facts f) r) (own_flaw kind f r) none).1

  code_plain : (o : Option Code) → option_map_or is_guards o false ≡ false → not (is_guards (unwrap_or o NotFound)) ≡ true
  code_plain None is = refl
  code_plain (Some c) is = not_it (is_guards c) is

  may_wait : (block creation : Bool) → (not block || creation) ≡ false → (block && not creation) ≡ true
  may_wait true true is = absurd (cc is)
  may_wait true false is = refl
  may_wait false creation is = absurd (cc is)

  rule_plain : (r : TextRule) → ((kind : AnswerFaultKind) → rule_flaw kind facts f r ≡ None) → is_plain_rule f (rule_of facts f r) ≡ true
  rule_plain (Refuse at code when) none =
      code_plain (code_named code.bytes) (not_told (option_map_or is_guards (code_named code.bytes) false) code.at (own_none GuardsCode (Refuse at code when) (none GuardsCode)))
  rule_plain (Wait at when) none =
      may_wait f.block f.creation (not_told (not f.block || f.creation) at (own_none MayNotBlock (Wait at when) (none MayNotBlock)))
  rule_plain (Give at term when) none = not_it f.terminal (not_told f.terminal at (own_none EndsWithWord (Give at term when) (none EndsWithWord)))
  rule_plain (GiveRow at picks code) none = let wrong : Some at ≡ None = own_none NotYet (GiveRow at picks code) (none NotYet) in absurd (cc wrong)
  rule_plain (GiveFirst at terms picks code) none = let wrong : Some at ≡ None = own_none NotYet (GiveFirst at terms picks code) (none NotYet) in absurd (cc wrong)

  -- each rule of a function in whose rules nothing is wrong is plain
  pub rules_plain : (rules : List TextRule) → ((kind : AnswerFaultKind) → first_in (rule_flaw kind facts f) rules ≡ None) → list_all (is_plain_rule f) (map (rule_of facts f) rules) ≡ true
  rules_plain [] none = refl
  rules_plain (r ∷ rules) none =
      and_from (is_plain_rule f (rule_of facts f r)) (list_all (is_plain_rule f) (map (rule_of facts f) rules))
      (rule_plain r (λ kind. (none_in (rule_flaw kind facts f) r rules (none kind)).0))
      (rules_plain rules (λ kind. (none_in (rule_flaw kind facts f) r rules (none kind)).1))

  abbrev gives : Rule → Bool
  gives r = is_give r.verdict && (length r.tests == 0)

  untested : (tests : List TextTest) (rows : Bool) → ((length tests == 0) && rows) ≡ true → (length (map (test_of facts f) tests) == 0) ≡ true
  untested [] rows is = refl
  untested (t ∷ tests) rows is = absurd (impossible (length tests) (and_parts (length (t ∷ tests) == 0) rows is).0)
    where
      impossible : (n : ℕ) → (suc n == 0) ≡ true → ⊥
      impossible n is = let no : suc n ≡ 0 = grind (arith, nat_tests, is) in omega (arith, no)

  rule_gives : (r : TextRule) → gives_always r ≡ true → gives (rule_of facts f r) ≡ true
  rule_gives (Refuse at code when) is = absurd (cc is)
  rule_gives (Wait at when) is = absurd (cc is)
  rule_gives (Give at term when) is = untested when.tests (is_none when.rows) is
  rule_gives (GiveRow at picks code) is = absurd (cc is)
  rule_gives (GiveFirst at terms picks code) is = absurd (cc is)

  -- a rule that always gives a word in the text does in the description
  pub rules_give : (rules : List TextRule) → list_any gives_always rules ≡ true → always_gives (map (rule_of facts f) rules) ≡ true
  rules_give [] is = absurd (cc is)
  rules_give (r ∷ rules) is = by (gives_always r) refl is (λ later. rules_give rules later)
    where
      by : (b : Bool) → gives_always r ≡ b → (b || list_any gives_always rules) ≡ true → (list_any gives_always rules ≡ true → always_gives (map (rule_of facts f) rules) ≡ true)
          → always_gives (map (rule_of facts f) (r ∷ rules)) ≡ true
      by true told some later = or_left (gives (rule_of facts f r)) (always_gives (map (rule_of facts f) rules)) (rule_gives r told)
      by false told some later = or_right (gives (rule_of facts f r)) (always_gives (map (rule_of facts f) rules)) (later some)
