-- What can't be.
use Rattle.std.proofs.Common.{◌≡◌, ◌⊎◌, inl, inr, ℕ, true, false, List, [], ◌∷◌, None, Some, Option, arith}
use Rattle.test_histories.specs.sg_facts.sg_base.declared.call.Call.{Call}
use Rattle.test_histories.specs.sg_facts.sg_base.declared.reply.Reply.{Reply}
use Rattle.test_histories.specs.sg_facts.sg_base.declared.value.Value.{Value}
use Rattle.test_histories.specs.sg_facts.sg_base.declared.value.Value.TheVariants.{Word, Text}
use Rattle.sg_recovery_laws.specs.sg_hist.Inside.Reads.{desc_of}

pub false_true : false ≡ true → ⊥
false_true e = absurd cc

pub true_false : true ≡ false → ⊥
true_false e = absurd cc

pub none_some : {A : Type 0} {x : A} → None ≡ Some x → ⊥
none_some e = absurd cc

pub some_none : {A : Type 0} {x : A} → Some x ≡ None → ⊥
some_none e = absurd cc

pub not_empty : {A : Type 0} {x : A} {xs : List A} → x ∷ xs ≡ [] → ⊥
not_empty e = absurd cc

abbrev pub desc_given : Option Reply → ℕ
desc_given None = 0
desc_given (Some reply) = desc_of reply

abbrev pub caller_of : Option Call → ℕ
caller_of None = 0
caller_of (Some call) = call.client

abbrev pub id_in : Option ℕ → ℕ
id_in None = 0
id_in (Some id) = id

abbrev pub arg_in : List Value → ℕ
arg_in [] = 0
arg_in (Word n ∷ args) = n
arg_in (Text bytes ∷ args) = 0

-- the first argument of a call
abbrev pub first_in : Option Call → ℕ
first_in None = 0
first_in (Some call) = arg_in call.args

pub neither : {A B : Type 0} → (A × ◌≡◌ {A = ℕ} 11 9) ⊎ (B × ◌≡◌ {A = ℕ} 11 10) → ⊥
neither (inl both) = omega (arith, both.1)
neither (inr both) = omega (arith, both.1)
