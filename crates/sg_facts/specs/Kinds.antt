-- Which calls are of a service's functions, and which of them it may be asked.
use Rattle.std.specs.Prelude.{◌≡◌, ◌^◌, ◌<◌, ◌≤◌, ◌==◌, Bool, true, false, ◌&&◌, ◌||◌, List, [], ◌∷◌, length, filter, not}
use Rattle.std.specs.Cmp.Lexicographic.{pointwise}
use Rattle.sg_base.specs.declared.value.Value.{Value}
use Rattle.sg_base.specs.declared.value.Value.TheVariants.{Word, Text}
use Rattle.sg_base.specs.declared.call.Call.{Call}
use Rattle.sg_facts.specs.declared.shape.Kind.{Kind}
use Rattle.sg_facts.specs.declared.shape.Kind.TheVariants.{Word as IsWord, Text as IsText}
use Rattle.sg_facts.specs.declared.shape.Parents.{Parents}
use Rattle.sg_facts.specs.declared.shape.Parents.TheVariants.{Never, Same, Cross}
use Rattle.sg_facts.specs.Facts.{Facts, fun_at, takes_desc, takes_parent, is_id}
use Rattle.sg_facts.specs.Limits.{end_of_counts, last_client}
use Rattle.sg_facts.specs.Track.{is_live}
use Rattle.sg_facts.specs.Inside.Rows.{has_child}
use Rattle.sg_facts.specs.Object.{Object}
use Rattle.sg_facts.specs.Counted.{CountedBelow}

-- whether values are those that kinds ask for, beside descriptor and parent
abbrev pub kinds_fit : List Kind → List Value → Bool
kinds_fit kinds values = pointwise
    (λ kind value. elim value [ Word n ↦ elim kind [ IsWord ↦ true | _ ↦ false ] | Text bytes ↦ elim kind [ IsText ↦ true | _ ↦ false ] ])
    (filter (λ kind. not (is_id kind)) kinds) values

-- the arguments fit the function, and the descriptor is 0 where the function takes neither descriptor nor parent
pub record FitsKinds (facts : Facts) (call : Call) : Type 0 where
  pub args : kinds_fit (fun_at facts.funs call.fun).kinds call.args ≡ true
  pub desc : takes_desc (fun_at facts.funs call.fun) ≡ false → takes_parent (fun_at facts.funs call.fun) ≡ false → call.desc ≡ 0

-- the numbers among values are those of their type
abbrev pub AreWords : List Value → Type 0
AreWords [] = Unit {0}
AreWords (Word n ∷ values) = (n < 2 ^ 64) × AreWords values
AreWords (Text bytes ∷ values) = AreWords values

-- the function is one of the service's, and the call fits it
pub record IsCall (facts : Facts) (call : Call) : Type 0 where
  pub first : 1 ≤ call.fun
  pub last : call.fun ≤ length facts.funs
  pub fits : FitsKinds facts call

-- the numbers are far from their ends: the client is one that there is, and neither the words that services give nor
-- the ids given come near 2^64
pub record IsWithin (facts : Facts) (o : Object) (call : Call) : Type 0 where
  pub client_first : 1 ≤ call.client
  pub client_last : call.client ≤ last_client
  pub counted : CountedBelow end_of_counts facts o.rows
  pub given : o.given < end_of_counts

-- whether a function that takes a parent may be given none, and makes a root: only where parents are of the same client
abbrev pub may_be_root : Parents → Bool
may_be_root Same = true
may_be_root Never = false
may_be_root Cross = false

-- a service may be asked the call: its descriptor or parent is live, or no parent is named where a descriptor may be a
-- root, and a descriptor that ends has no children left where that would be refused
pub record MayAsk (facts : Facts) (o : Object) (call : Call) : Type 0 where
  pub is_call : IsCall facts call
  pub within : IsWithin facts o call
  pub desc : takes_desc (fun_at facts.funs call.fun) ≡ true → is_live o.rows call.desc ≡ true
  pub parent : takes_parent (fun_at facts.funs call.fun) ≡ true → (is_live o.rows call.desc || (may_be_root facts.parents && (call.desc == 0))) ≡ true
  pub children : (fun_at facts.funs call.fun).query ≡ false → (fun_at facts.funs call.fun).terminal ≡ true → facts.subtree ≡ false → has_child o.rows call.desc ≡ false
