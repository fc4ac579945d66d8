-- What the code holds is what is known.
use Rattle.std.proofs.Common.{◌≡◌, ℕ, zero, suc, ◌+◌, Bool, true, false, cond, List, [], ◌∷◌, length, map, None, Some, refl, sym, ◌∙◌, ap, arith}
use Rattle.std.proofs.Math.Path.{fun_ext}
use Rattle.sg_known.specs.sg_facts.declared.shape.Effect.{Effect}
use Rattle.sg_known.specs.sg_facts.declared.shape.Effect.TheVariants.{SetCaller, SetArg, AddArg, SetRet, AddRet, Clear, SubOne, SubRet}
use Rattle.std.specs.Option.{option_or}
use Rattle.std.specs.declared.option.Option.{Option}
use Rattle.sg_known.specs.sg_facts.Facts.{fun_at}
use Rattle.sg_known.specs.sg_facts.Walks.{FieldMark, Spot as Place, effect_on, next_spot}
use Rattle.sg_known.specs.sg_walk.declared.spot.FieldState.{FieldState}
use Rattle.sg_known.specs.sg_walk.declared.spot.FieldState.TheVariants.{Unset, Good, Unknown}
use Rattle.sg_known.specs.sg_walk.Marks.{known_of}
use Rattle.sg_known.specs.sg_described.declared.bounds.Bounds.{Bounds}
use Rattle.sg_known.specs.sg_described.Described.{Described, Rule, rules_at}
use Rattle.sg_known.specs.sg_described.Known.{Known, between, bounds_after, greatest, word_most}
use Rattle.sg_known.specs.sg_described.Meaning.{last_word, most_at}
use Rattle.sg_known.specs.sg_described.NeverZero.{is_never_zero}
use Rattle.sg_known.specs.sg_described.Waiting.{known_after, known_of_all}
use Rattle.sg_known.specs.sg_described.Walking.{arg_known, bounds_at, carrier, field_known, is_lost, known_at, mark_at}
use Rattle.sg_known.specs.Seen.{carried_in, fields_in}
use Rattle.sg_safe.specs.declared.reason.KnownField.{KnownField}
use Rattle.sg_safe.specs.declared.reason.Obstacle.{Obstacle}
use Rattle.sg_safe.specs.Inside.Replays.{IsRowAt, clients_at, fields_from, past_at, spots_from, stops_at}
use Rattle.sg_safe.specs.Inside.Seen.{bounds_left}
use Rattle.sg_safe.specs.Reasons.{known_fields, no_client, past_most, shown_mark, stopping_rule}

-- ---- of any call on any row

up_to_at : (most : List ℕ) (x : ℕ) → fields_in (map (λ m. between 0 m) most) x ≡ between 0 (most_at most x)
up_to_at [] x = refl
up_to_at (m ∷ most) zero = refl
up_to_at (m ∷ most) (suc x) = up_to_at most x

pub any_known : (d : Described) (count : ℕ) (fields : List Bounds) (most : List ℕ) → count ≡ length d.facts.funs → fields ≡ map (λ m. between 0 m) most → most ≡ greatest d
    → (let k : Known = record { args = λ a. between 0 last_word; state = between 0 count; fields = fields_in fields } in k) ≡ known_of_all d
any_known d count fields most funs are greatest_is =
    ap (λ n. let k : Known = record { args = λ a. between 0 last_word; state = between 0 n; fields = fields_in fields } in k) funs
    ∙ ap (λ l. let k : Known = record { args = λ a. between 0 last_word; state = between 0 (length d.facts.funs); fields = fields_in l } in k) (are ∙ ap (λ l. map (λ m. between 0 m) l) greatest_is)
    ∙ ap (λ (f : ℕ → Bounds). let k : Known = record { args = λ a. between 0 last_word; state = between 0 (length d.facts.funs); fields = f } in k) (fun_ext (up_to_at (greatest d)))

-- ---- after effects

nothing_left : (effect : Option Effect) → bounds_after effect 0 (between 0 0) ≡ between 0 0
nothing_left None = refl
nothing_left (Some SetCaller) = refl
nothing_left (Some (SetArg k)) = refl
nothing_left (Some (AddArg k)) = refl
nothing_left (Some SetRet) = refl
nothing_left (Some AddRet) = refl
nothing_left (Some Clear) = refl
nothing_left (Some SubOne) = refl
nothing_left (Some SubRet) = refl

left_from : (effects : List (ℕ × Effect)) (from : ℕ) (fields : List Bounds) (most : List ℕ) → length fields ≡ length most → (x : ℕ)
    → fields_in (bounds_left effects from fields most) x ≡ bounds_after (effect_on effects (from + x)) (most_at most x) (fields_in fields x)
left_from effects from [] [] same x = sym (nothing_left (effect_on effects (from + x)))
left_from effects from [] (m ∷ most) same x = absurd (omega (arith, same))
left_from effects from (r ∷ fields) [] same x = absurd (omega (arith, same))
left_from effects from (r ∷ fields) (m ∷ most) same zero = let n : from ≡ from + 0 = omega arith in ap (λ k. bounds_after (effect_on effects k) m r) n
left_from effects from (r ∷ fields) (m ∷ most) same (suc x) =
    let n : suc from + x ≡ from + suc x = omega arith in
    let fewer : length fields ≡ length most = omega (arith, same) in
    left_from effects (suc from) fields most fewer x ∙ ap (λ k. bounds_after (effect_on effects k) (most_at most x) (fields_in fields x)) n

left_at : (effects : List (ℕ × Effect)) (fields : List Bounds) (most : List ℕ) → length fields ≡ length most → (x : ℕ)
    → fields_in (bounds_left effects 0 fields most) x ≡ bounds_after (effect_on effects x) (most_at most x) (fields_in fields x)
left_at effects fields most same x =
    let n : 0 + x ≡ x = omega arith in left_from effects 0 fields most same x ∙ ap (λ k. bounds_after (effect_on effects k) (most_at most x) (fields_in fields x)) n

-- after an Ok of a function that keeps the state
pub left_known : (d : Described) (fun : ℕ) (k : Known) (effects : List (ℕ × Effect)) (fields after : List Bounds) (most : List ℕ)
    → after ≡ bounds_left effects 0 fields most → effects ≡ (fun_at d.facts.funs fun).effects → most ≡ greatest d → length fields ≡ length most → k.fields ≡ fields_in fields
    → (let l : Known = record { args = k.args; state = k.state; fields = fields_in after } in l) ≡ known_after d fun k
left_known d fun k effects fields after most are effects_are most_is same fields_are =
    let one : fields_in after ≡ (λ x. bounds_after (effect_on effects x) (most_at most x) (fields_in fields x)) = ap fields_in are ∙ fun_ext (left_at effects fields most same) in
    let two = ap (λ es. λ (x : ℕ). bounds_after (effect_on es x) (most_at most x) (fields_in fields x)) effects_are in
    let three = ap (λ ms. λ (x : ℕ). bounds_after (effect_on (fun_at d.facts.funs fun).effects x) (most_at ms x) (fields_in fields x)) most_is in
    let four = ap (λ (f : ℕ → Bounds). λ (x : ℕ). bounds_after (effect_on (fun_at d.facts.funs fun).effects x) (most_at (greatest d) x) (f x)) (sym fields_are) in
    ap (λ (f : ℕ → Bounds). let l : Known = record { args = k.args; state = k.state; fields = f } in l) (one ∙ two ∙ three ∙ four)

-- ---- at a spot

marked_from : (d : Described) (state from : ℕ) (marks : List FieldMark) (x : ℕ)
    → fields_in (fields_from d state from marks) x ≡ bounds_at (mark_at marks x) (is_never_zero d.facts state (from + x)) (most_at (greatest d) (from + x))
marked_from d state from [] x = refl
marked_from d state from (m ∷ marks) zero =
    let n : from ≡ from + 0 = omega arith in ap (λ y. bounds_at m (is_never_zero d.facts state y) (most_at (greatest d) y)) n
marked_from d state from (m ∷ marks) (suc x) =
    let n : suc from + x ≡ from + suc x = omega arith in
    marked_from d state (suc from) marks x ∙ ap (λ y. bounds_at (mark_at marks x) (is_never_zero d.facts state y) (most_at (greatest d) y)) n

marked_at : (d : Described) (s : Place) (x : ℕ) → fields_in (fields_from d s.state 0 s.marks) x ≡ field_known d s x
marked_at d s x =
    let n : 0 + x ≡ x = omega arith in
    marked_from d s.state 0 s.marks x ∙ ap (λ y. bounds_at (mark_at s.marks x) (is_never_zero d.facts s.state y) (most_at (greatest d) y)) n

-- the row
pub row_seen : (d : Described) (s : Place) (k : Known) (fields : List Bounds) (low high : ℕ) → k.state ≡ between low high → k.fields ≡ fields_in fields
    → fields ≡ fields_from d s.state 0 s.marks → low ≡ s.state → high ≡ s.state → IsRowAt d s k
row_seen d s k fields low high state_is known fields_are low_is high_is = record {
  state = state_is ∙ ap (λ n. between n high) low_is ∙ ap (between s.state) high_is;
  fields = known ∙ ap fields_in fields_are ∙ fun_ext (marked_at d s);
}

pub row_kept : (d : Described) (s : Place) (k l : Known) → IsRowAt d s k → l.state ≡ k.state → l.fields ≡ k.fields → IsRowAt d s l
row_kept d s k l row state fields = record { state = state ∙ row.state; fields = fields ∙ row.fields }

-- the arguments of a call
pub args_seen : (d : Described) (fun : ℕ) (effects : List (ℕ × Effect)) (most : List ℕ) → effects ≡ (fun_at d.facts.funs fun).effects → most ≡ greatest d
    → (λ a. carried_in most (carrier effects a)) ≡ arg_known d fun
args_seen d fun effects most effects_are most_is =
    ap (λ es. λ (a : ℕ). carried_in most (carrier es a)) effects_are ∙ ap (λ ms. λ (a : ℕ). carried_in ms (carrier (fun_at d.facts.funs fun).effects a)) most_is

pub call_seen : (d : Described) (fun : ℕ) (s : Place) (k : Known) (args : ℕ → Bounds) → IsRowAt d s k → args ≡ arg_known d fun
    → (let c : Known = record { args = args; state = k.state; fields = k.fields } in c) ≡ known_at d fun s
call_seen d fun s k args row args_are =
    ap (λ (f : ℕ → Bounds). let c : Known = record { args = f; state = k.state; fields = k.fields } in c) args_are
    ∙ ap (λ b. let c : Known = record { args = arg_known d fun; state = b; fields = k.fields } in c) row.state
    ∙ ap (λ (f : ℕ → Bounds). let c : Known = record { args = arg_known d fun; state = between s.state s.state; fields = f } in c) row.fields

-- what may make a call fail there
pub obstacle_is : (d : Described) (fun : ℕ) (s : Place) (k : Known) (es : List (ℕ × Effect)) (rules : List Rule) (state word : ℕ) (a b c bc abc : Option Obstacle)
    → k ≡ known_at d fun s → es ≡ (fun_at d.facts.funs fun).effects → rules ≡ rules_at d fun
    → state ≡ (next_spot d.facts fun s).state → word ≡ word_most k rules → a ≡ clients_at d state es → b ≡ stops_at k 1 rules → c ≡ past_at d k word es
    → bc ≡ option_or b c → abc ≡ option_or a bc → abc ≡ option_or (no_client d fun s) (option_or (stopping_rule d fun s) (past_most d fun s))
obstacle_is d fun s k es rules state word a b c bc abc k_is es_is rules_are state_is word_is a_is b_is c_is bc_is abc_is =
    let one : a ≡ no_client d fun s = a_is ∙ ap (λ n. clients_at d n es) state_is ∙ ap (λ l. clients_at d (next_spot d.facts fun s).state l) es_is in
    let two : b ≡ stopping_rule d fun s = b_is ∙ ap (λ q. stops_at q 1 rules) k_is ∙ ap (λ l. stops_at (known_at d fun s) 1 l) rules_are in
    let three : c ≡ past_most d fun s =
    c_is ∙ ap (λ n. past_at d k n es) word_is ∙ ap (λ q. past_at d q (word_most q rules) es) k_is
    ∙ ap (λ l. past_at d (known_at d fun s) (word_most (known_at d fun s) l) es) rules_are
    ∙ ap (λ l. past_at d (known_at d fun s) (word_most (known_at d fun s) (rules_at d fun)) l) es_is in
    abc_is ∙ ap (λ o. option_or a o) (bc_is ∙ ap (λ o. option_or o c) two ∙ ap (λ o. option_or (stopping_rule d fun s) o) three)
    ∙ ap (λ o. option_or o (option_or (stopping_rule d fun s) (past_most d fun s))) one

-- where nothing does, where a field is lost for good, and else
pub nothing_there : (lost : Bool) (any all : Option Obstacle) → any ≡ all → any ≡ None → None ≡ cond lost None all
nothing_there true any all is none = refl
nothing_there false any all is none = sym none ∙ is

pub lost_there : (d : Described) (lost : Bool) (all : Option Obstacle) (s t : Place) → lost ≡ is_lost d s → s ≡ t → lost ≡ true → None ≡ cond (is_lost d t) None all
lost_there d lost all s t lost_is same is = ap (λ b. cond b None all) (sym is ∙ lost_is ∙ ap (is_lost d) same)

pub found_there : (d : Described) (lost : Bool) (any all : Option Obstacle) (s t : Place) → lost ≡ is_lost d s → s ≡ t → lost ≡ false → any ≡ all → any ≡ cond (is_lost d t) None all
found_there d lost any all s t lost_is same isn't is = is ∙ ap (λ b. cond b None all) (sym isn't ∙ lost_is ∙ ap (is_lost d) same)

-- ---- what is told of a spot

mark_shown : (m : FieldState) → m ≡ shown_mark (known_of m)
mark_shown Unset = refl
mark_shown Good = refl
mark_shown Unknown = refl

pub spots_known : (d : Described) (s : Place) (fields : List Bounds) → fields_in fields ≡ field_known d s → (x : ℕ) (marks : List FieldState)
    → spots_from fields (greatest d) x marks ≡ known_fields d s x (map known_of marks)
spots_known d s fields same x [] = refl
spots_known d s fields same x (m ∷ marks) =
    ap (λ n. let f : KnownField = record { mark = n; bounds = fields_in fields x; own = between 0 (most_at (greatest d) x) } in f ∷ spots_from fields (greatest d) (suc x) marks) (mark_shown m)
    ∙ ap (λ (g : ℕ → Bounds). let f : KnownField = record { mark = shown_mark (known_of m); bounds = g x; own = between 0 (most_at (greatest d) x) } in f ∷ spots_from fields (greatest d) (suc x) marks) same
    ∙ ap (λ l. let f : KnownField = record { mark = shown_mark (known_of m); bounds = field_known d s x; own = between 0 (most_at (greatest d) x) } in f ∷ l) (spots_known d s fields same (suc x) marks)
