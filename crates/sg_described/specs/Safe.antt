-- Which descriptions are of services that can be recovered.
use Rattle.std.specs.Prelude.{ℕ, ◌≡◌, zero, suc, ◌^◌, ◌==◌, ◌&&◌, ◌||◌, Bool, true, false, not, nat_le, nat_lt, if◌then◌else◌, List, [], ◌∷◌, length}
use Rattle.std.specs.List.{list_all, list_any}
use Rattle.sg_facts.specs.declared.shape.Effect.{Effect}
use Rattle.sg_facts.specs.declared.shape.Effect.TheVariants.{AddArg, AddRet}
use Rattle.sg_facts.specs.declared.shape.Kind.{Kind}
use Rattle.sg_facts.specs.declared.shape.Kind.TheVariants.{Desc, Word}
use Rattle.sg_facts.specs.Allowed.{implies, is_allowed, is_never, is_replayed, wants_word}
use Rattle.sg_facts.specs.Counted.{is_counted}
use Rattle.sg_facts.specs.Facts.{Fun, no_facts}
use Rattle.sg_facts.specs.Guard.{is_guards}
use Rattle.sg_facts.specs.Laws.{slow}
use Rattle.sg_described.specs.declared.description.Verdict.TheVariants.{Refuse, Wait, Give}
use Rattle.sg_described.specs.Described.{Described, Rule, rules_at}
use Rattle.sg_described.specs.Known.{is_give}
use Rattle.sg_described.specs.Meaning.{last_word}
use Rattle.sg_described.specs.NeverZero.{all_from}
use Rattle.sg_described.specs.Waiting.{waits_well}
use Rattle.sg_described.specs.Walking.{begins_well, spots_of, walks_well}

-- ---- what a description keeps to by itself

-- a parameter is the descriptor, or a number
abbrev pub is_plain_kind : Kind → Bool
is_plain_kind kind = elim kind [ Desc ↦ true | Word ↦ true | _ ↦ false ]

-- a function is no query, changes fields that there are, and takes no text where it is replayed
abbrev pub is_plain_fun : Described → ℕ → Fun → Bool
is_plain_fun d fun f = not f.query && list_all (λ e. nat_lt e.0 (length d.most)) f.effects && implies (is_replayed d.facts fun) (list_all is_plain_kind f.kinds)

-- a rule refuses by no code of the guard's, makes only callers of functions that may block wait, and gives no word where a descriptor ends
abbrev pub is_plain_rule : Fun → Rule → Bool
is_plain_rule f r = elim r.verdict [ Refuse code ↦ not (is_guards code) | Wait ↦ f.block && not f.creation | Give t ↦ not f.terminal ]

-- whether some rule always gives a word, if no other comes before
abbrev pub always_gives : List Rule → Bool
always_gives rules = list_any (λ r. is_give r.verdict && (length r.tests == 0)) rules

-- each rule of a function is plain, and each Ok has a word where a field takes one
abbrev pub are_plain_rules : Described → ℕ → Fun → Bool
are_plain_rules d fun f = list_all (is_plain_rule f) (rules_at d fun) && implies (wants_word f) (always_gives (rules_at d fun))

-- states are those of functions
abbrev pub is_plain_move : Described → ℕ × ℕ → Bool
is_plain_move d m = nat_le m.0 (length d.facts.funs)

-- a description speaks of a service of single rows without texts, and says of each function what it may
pub record IsPlain (d : Described) : Type 0 where
  pub allowed : is_allowed d.facts ≡ true
  pub no_parents : is_never d.facts.parents ≡ true
  pub alone : d.facts.subtree ≡ false
  pub fileless : d.facts.resc_data ≡ false
  pub words : list_all (λ f. not f.text) d.facts.fields ≡ true
  pub fields : length d.most ≡ length d.facts.fields
  pub most : list_all (λ m. nat_le m last_word) d.most ≡ true
  pub answers : nat_le (length d.answers) (length d.facts.funs) ≡ true
  pub moves : list_all (is_plain_move d) d.facts.moves ≡ true
  pub funs : all_from (is_plain_fun d) 1 d.facts.funs ≡ true
  pub rules : all_from (are_plain_rules d) 1 d.facts.funs ≡ true

abbrev pub is_plain : Described → Bool
is_plain d =
    is_allowed d.facts && is_never d.facts.parents && not d.facts.subtree && not d.facts.resc_data && list_all (λ f. not f.text) d.facts.fields
    && (length d.most == length d.facts.fields) && list_all (λ m. nat_le m last_word) d.most && nat_le (length d.answers) (length d.facts.funs) && list_all (is_plain_move d) d.facts.moves
    && all_from (is_plain_fun d) 1 d.facts.funs && all_from (are_plain_rules d) 1 d.facts.funs

-- ---- the whole

-- a field that counts stays far from the end of its type
abbrev pub counts_slowly : Described → ℕ → ℕ → Bool
counts_slowly d x most = implies (is_counted d.facts x) (nat_le most slow)

-- whether an effect adds
abbrev pub adds : Effect → Bool
adds (AddArg k) = true
adds AddRet = true
adds _ = false

-- a replayed function adds to no field that counts
abbrev pub replays_slowly : Described → ℕ → Fun → Bool
replays_slowly d fun f = implies (is_replayed d.facts fun) (list_all (λ e. implies (is_counted d.facts e.0) (not (adds e.1))) f.effects)

-- a description is of a service that can be recovered
pub record IsSafe (d : Described) : Type 0 where
  pub plain : IsPlain d
  pub counts : all_from (counts_slowly d) 0 d.most ≡ true
  pub recounts : all_from (replays_slowly d) 1 d.facts.funs ≡ true
  pub waits : all_from (waits_well d) 1 d.facts.funs ≡ true
  pub begins : all_from (begins_well d) 1 d.facts.funs ≡ true
  pub walks : list_all (walks_well d) (spots_of d) ≡ true

-- whether a description is of a service that can be recovered
abbrev pub is_safe : Described → Bool
is_safe d =
    is_plain d && all_from (counts_slowly d) 0 d.most && all_from (replays_slowly d) 1 d.facts.funs && all_from (waits_well d) 1 d.facts.funs && all_from (begins_well d) 1 d.facts.funs
    && list_all (walks_well d) (spots_of d)

-- a description without functions
abbrev pub described_nothing : Described
described_nothing = record { facts = no_facts; most = []; answers = [] }

-- a description that is safe, or one without functions
abbrev pub made_safe : Described → Described
made_safe d = if is_safe d then d else described_nothing
