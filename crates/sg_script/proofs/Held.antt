-- What flawless parts have room for.
use Rattle.std.proofs.Common.{◌≡◌, ℕ, ◌+◌, ◌≤◌, Bool, true, false, not, ◌&&◌, List, [], ◌∷◌, ◌++◌, None, Some, Option, cond, length, refl, sym, ◌∙◌, ap, subst, arith, length-append, append-nil}
use Rattle.std.specs.Prelude.{nat_le, nat_lt, position, ◌==◌}
use Rattle.std.specs.List.{flat_map, list_all, position_or_len}
use Rattle.std.proofs.lemmas.Bool.Decides.{nat_tests}
use Rattle.std.proofs.lemmas.Grind.{flat_map-append}
use Rattle.sg_facts.specs.sg_base.Text.{is_bad_byte, is_text_byte}
use Rattle.sg_facts.specs.declared.shape.Kind.{Kind}
use Rattle.sg_facts.specs.declared.shape.Kind.TheVariants.{Desc, Parent, Word, Text as IsText}
use Rattle.sg_facts.specs.Facts.{Fun}
use Rattle.sg_facts.specs.Interface.{Declared}
use Rattle.sg_script_parse.specs.sg_lex.Lexeme.{Spelling}
use Rattle.sg_script_parse.specs.declared.tree.WrittenArg.{WrittenArg}
use Rattle.sg_script_parse.specs.declared.tree.WrittenArg.TheVariants.{Number, Text, Back}
use Rattle.sg_script_parse.specs.declared.tree.WrittenCall.{WrittenCall}
use Rattle.sg_script_parse.specs.declared.tree.Part.{Part}
use Rattle.sg_script_parse.specs.declared.tree.Part.TheVariants.{Setup, Client, Schedule, Stop}
use Rattle.sg_script.specs.declared.fault.ScriptKind.{ScriptKind}
use Rattle.sg_script.specs.declared.fault.ScriptKind.TheVariants.{BadClient, Limit}
use Rattle.sg_script.specs.Numbers.{counts_as, is_text}
use Rattle.sg_script.specs.Scripts.{calls_of_setup, function_named}
use Rattle.sg_script.specs.Flaws.{written_arg_fits, written_args_fit, call_flaws, calls_before, calls_flaws, calls_in, client_flaws, script_flaw_if, flaws_after, flaws_of, part_flaws}
use Rattle.sg_script.specs.Inside.Parts.{arg_flaws, fun_flaws, inner_flaws}
use Rattle.sg_script.proofs.Parts.{by_part}
use Rattle.sg_script.specs.Inside.Held.{is_client_number, is_held, is_held_arg, is_held_call}

-- ---- texts

both_left : (a b : Bool) → a && b ≡ true → a ≡ true
both_left true b e = refl
both_left false b e = absurd cc

both_right : (a b : Bool) → a && b ≡ true → b ≡ true
both_right true b e = e
both_right false b e = absurd cc

twice_not : (b : Bool) → b ≡ true → not (not b) ≡ true
twice_not true e = refl
twice_not false e = absurd cc

all_before : (bytes : List ℕ) → list_all is_text_byte bytes ≡ true → position_or_len is_bad_byte bytes ≡ length bytes
all_before [] e = refl
all_before (b ∷ bytes) e =
    let rest = all_before bytes (both_right (is_text_byte b) _ e) in
    ap (λ t. cond t (1 + position_or_len is_bad_byte bytes) 0) (twice_not (is_text_byte b) (both_left _ _ e))
    ∙ omega (arith, rest)

not_below : (n : ℕ) → nat_lt n n ≡ false
not_below n = grind (arith, nat_tests)

-- a text has no bad byte
pub no_bad_byte : (bytes : List ℕ) (at : ℕ) → list_all is_text_byte bytes ≡ true → position is_bad_byte bytes ≡ Some at → ⊥
no_bad_byte bytes at all found =
    let none : position is_bad_byte bytes ≡ None =
    ap (λ n. cond (nat_lt n (length bytes)) (Some n) None) (all_before bytes all)
    ∙ ap (λ t. cond t (Some (length bytes)) None) (not_below (length bytes)) in
    absurd cc

pub is_no_text : (bytes : List ℕ) (at : ℕ) → is_text bytes ≡ true → position is_bad_byte bytes ≡ Some at → ⊥
is_no_text bytes at is found = no_bad_byte bytes at (both_right (nat_le (length bytes) 256) _ is) found

-- ---- no flaws

pub front_none : {A : Type 0} (xs ys : List A) → xs ++ ys ≡ [] → xs ≡ []
front_none [] ys e = refl
front_none (x ∷ xs) ys e = absurd cc

pub back_none : {A : Type 0} (xs ys : List A) → xs ++ ys ≡ [] → ys ≡ []
back_none [] ys e = e
back_none (x ∷ xs) ys e = absurd cc

pub not_flawed : (b : Bool) (kind : ScriptKind) (at : ℕ) → script_flaw_if b kind at ≡ [] → b ≡ false
not_flawed true kind at e = absurd cc
not_flawed false kind at e = refl

pub is_true : (b : Bool) → not b ≡ false → b ≡ true
is_true true e = refl
is_true false e = absurd cc

pub both : (a b : Bool) → a ≡ true → b ≡ true → a && b ≡ true
both a b x y = ap (λ v. v && b) x ∙ y

-- ---- how many calls there are

-- where a call isn't the first that is one too many, one more may come
not_last : (nth : ℕ) → nth == 65537 ≡ false → nth ≤ 65537 → nth + 1 ≤ 65537
not_last nth e le = grind (arith, nat_tests, e, le)

pub calls_few : (members : List Declared) (in_setup : Bool) (nth own : ℕ) (calls : List WrittenCall) → nth ≤ 65537 → calls_flaws members in_setup nth own calls ≡ []
    → nth + length calls ≤ 65537
calls_few members in_setup nth own [] le e = omega (arith, le)
calls_few members in_setup nth own (c ∷ calls) le e =
    let one : call_flaws members in_setup nth own c ≡ [] = front_none (call_flaws members in_setup nth own c) (calls_flaws members in_setup (nth + 1) (own + 1) calls) e in
    let rest : calls_flaws members in_setup (nth + 1) (own + 1) calls ≡ [] = back_none (call_flaws members in_setup nth own c) (calls_flaws members in_setup (nth + 1) (own + 1) calls) e in
    let last : nth == 65537 ≡ false = not_flawed (nth == 65537) Limit c.name.at (back_none (fun_flaws in_setup own c (function_named members c.name.bytes)) _ (front_none _ _ one)) in
    let more : nth + 1 ≤ 65537 = not_last nth last le in
    let few : nth + 1 + length calls ≤ 65537 = calls_few members in_setup (nth + 1) (own + 1) calls more rest in
    omega (arith, few)

-- no part brings the calls above the most
pub part_few : (members : List Declared) (setup before : ℕ) (p : Part) → before ≤ 65536 → inner_flaws members setup before p ≡ [] → before + length (calls_in p) ≤ 65536
part_few members setup before (Setup at calls) le e =
    let more : before + 1 ≤ 65537 = omega (arith, le) in
    let few : before + 1 + length calls ≤ 65537 = calls_few members true (before + 1) 1 calls more e in
    omega (arith, few)
part_few members setup before (Client at n calls) le e =
    let more : before + 1 ≤ 65537 = omega (arith, le) in
    let few : before + 1 + length calls ≤ 65537 = calls_few members false (before + 1) (calls_before setup (counts_as n.bytes) + 1) calls more (back_none _ _ e) in
    omega (arith, few)
part_few members setup before (Schedule at numbers) le e = omega (arith, le)
part_few members setup before (Stop at service numbers) le e = omega (arith, le)

pub counted : (front : List Part) (p : Part) → length (flat_map calls_in (front ++ p ∷ [])) ≡ length (flat_map calls_in front) + length (calls_in p)
counted front p =
    ap length (flat_map-append calls_in front (p ∷ []) ∙ ap (λ v. flat_map calls_in front ++ v) (append-nil (calls_in p)))
    ∙ length-append (flat_map calls_in front) (calls_in p)

-- what is wrong within the next part, and after it
pub inner_none : (members : List Declared) (setup : ℕ) (front : List Part) (p : Part) (parts : List Part) → flaws_after members setup front (p ∷ parts) ≡ []
    → inner_flaws members setup (length (flat_map calls_in front)) p ≡ []
inner_none members setup front p parts e =
    back_none _ (inner_flaws members setup (length (flat_map calls_in front)) p)
    (sym (by_part members setup front p) ∙ front_none (part_flaws members setup front p) (flaws_after members setup (front ++ p ∷ []) parts) e)

pub after_none : (members : List Declared) (setup : ℕ) (front : List Part) (p : Part) (parts : List Part) → flaws_after members setup front (p ∷ parts) ≡ []
    → flaws_after members setup (front ++ p ∷ []) parts ≡ []
after_none members setup front p parts e = back_none (part_flaws members setup front p) (flaws_after members setup (front ++ p ∷ []) parts) e

setups_few : (p : Part) → length (calls_of_setup p) ≤ length (calls_in p)
setups_few (Setup at calls) = omega arith
setups_few (Client at n calls) = omega arith
setups_few (Schedule at numbers) = omega arith
setups_few (Stop at service numbers) = omega arith

all_few : (members : List Declared) (setup : ℕ) (front parts : List Part) → length (flat_map calls_in front) ≤ 65536 → flaws_after members setup front parts ≡ []
    → length (flat_map calls_in front) + length (flat_map calls_of_setup parts) ≤ 65536
all_few members setup front [] le e = omega (arith, le)
all_few members setup front (p ∷ parts) le e =
    let inner = inner_none members setup front p parts e in
    let few : length (flat_map calls_in front) + length (calls_in p) ≤ 65536 = part_few members setup (length (flat_map calls_in front)) p le inner in
    let more : length (flat_map calls_in (front ++ p ∷ [])) ≤ 65536 = subst (λ v. v ≤ 65536) (sym (counted front p)) few in
    let rest : length (flat_map calls_in (front ++ p ∷ [])) + length (flat_map calls_of_setup parts) ≤ 65536 =
    all_few members setup (front ++ p ∷ []) parts more (after_none members setup front p parts e) in
    let own : length (calls_of_setup p) ≤ length (calls_in p) = setups_few p in
    let sum : length (flat_map calls_of_setup (p ∷ parts)) ≡ length (calls_of_setup p) + length (flat_map calls_of_setup parts) =
    length-append (calls_of_setup p) (flat_map calls_of_setup parts) in
    omega (arith, rest, own, sum, counted front p)

-- ---- what has room

least : (n own : ℕ) → nat_le 1 n && nat_lt n own ≡ true → own ≤ 4294967296 → nat_lt n 4294967296 ≡ true
least n own e le = below (both_right (nat_le 1 n) (nat_lt n own) e)
  where
    below : nat_lt n own ≡ true → nat_lt n 4294967296 ≡ true
    below lt = grind (arith, nat_tests, lt, le)

arg_held : (own : ℕ) (k : Kind) (a : WrittenArg) → own ≤ 4294967296 → written_arg_fits own k a ≡ true → arg_flaws a ≡ [] → is_held_arg a ≡ true
arg_held own k (Number n) le fits e = refl
arg_held own k (Text t) le fits e = is_true _ (not_flawed _ Limit t.at e)
arg_held own Desc (Back n) le fits e = least (counts_as n.bytes) own fits le
arg_held own Parent (Back n) le fits e = least (counts_as n.bytes) own fits le
arg_held own Word (Back n) le fits e = least (counts_as n.bytes) own fits le
arg_held own IsText (Back n) le fits e = absurd cc

args_held : (own : ℕ) (kinds : List Kind) (args : List WrittenArg) → own ≤ 4294967296 → written_args_fit own kinds args ≡ true → flat_map arg_flaws args ≡ []
    → list_all is_held_arg args ≡ true
args_held own [] [] le fits e = refl
args_held own [] (a ∷ args) le fits e = absurd cc
args_held own (k ∷ kinds) [] le fits e = absurd cc
args_held own (k ∷ kinds) (a ∷ args) le fits e =
    both (is_held_arg a) _ (arg_held own k a le (both_left (written_arg_fits own k a) _ fits) (front_none (arg_flaws a) (flat_map arg_flaws args) e))
    (args_held own kinds args le (both_right (written_arg_fits own k a) _ fits) (back_none (arg_flaws a) (flat_map arg_flaws args) e))

fun_held : (in_setup : Bool) (own : ℕ) (c : WrittenCall) (found : Option Fun) → own ≤ 4294967296 → fun_flaws in_setup own c found ≡ []
    → flat_map arg_flaws c.args ≡ [] → is_held_call c ≡ true
fun_held in_setup own c None le e args = absurd cc
fun_held in_setup own c (Some f) le e args =
    args_held own f.kinds c.args le (is_true _ (not_flawed _ _ _ (front_none _ _ e))) args

call_held : (members : List Declared) (in_setup : Bool) (nth own : ℕ) (c : WrittenCall) → own ≤ 4294967296 → call_flaws members in_setup nth own c ≡ [] → is_held_call c ≡ true
call_held members in_setup nth own c le e =
    fun_held in_setup own c (function_named members c.name.bytes) le (front_none _ _ (front_none _ _ e)) (back_none _ (flat_map arg_flaws c.args) e)

calls_held : (members : List Declared) (in_setup : Bool) (nth own : ℕ) (calls : List WrittenCall) → own + length calls ≤ 4294967296 → calls_flaws members in_setup nth own calls ≡ []
    → list_all is_held_call calls ≡ true
calls_held members in_setup nth own [] le e = refl
calls_held members in_setup nth own (c ∷ calls) le e =
    let here : own ≤ 4294967296 = omega (arith, le) in
    let rest : own + 1 + length calls ≤ 4294967296 = omega (arith, le) in
    both (is_held_call c) _ (call_held members in_setup nth own c here (front_none (call_flaws members in_setup nth own c) _ e))
    (calls_held members in_setup (nth + 1) (own + 1) calls rest (back_none (call_flaws members in_setup nth own c) _ e))

numbers_held : (numbers : List Spelling) → flat_map client_flaws numbers ≡ [] → list_all is_client_number numbers ≡ true
numbers_held [] e = refl
numbers_held (n ∷ numbers) e =
    both (is_client_number n) _ (is_true _ (not_flawed _ BadClient n.at (front_none _ _ (front_none (client_flaws n) (flat_map client_flaws numbers) e))))
    (numbers_held numbers (back_none (client_flaws n) (flat_map client_flaws numbers) e))

before_few : (setup client : ℕ) → setup ≤ 65536 → calls_before setup client ≤ 65536
before_few setup client le = by (client == 1)
  where
    by : (b : Bool) → cond b setup 0 ≤ 65536
    by true = le
    by false = omega arith

part_held : (members : List Declared) (setup before : ℕ) (p : Part) → setup ≤ 65536 → before ≤ 65536 → inner_flaws members setup before p ≡ [] → is_held p ≡ true
part_held members setup before (Setup at calls) s le e =
    let few = part_few members setup before (Setup at calls) le e in
    let most : 1 + length calls ≤ 4294967296 = omega (arith, few) in
    calls_held members true (before + 1) 1 calls most e
part_held members setup before (Client at n calls) s le e =
    let few = part_few members setup before (Client at n calls) le e in
    let own = before_few setup (counts_as n.bytes) s in
    let most : calls_before setup (counts_as n.bytes) + 1 + length calls ≤ 4294967296 = omega (arith, few, own) in
    both (is_client_number n) _ (is_true _ (not_flawed _ BadClient n.at (front_none _ _ (front_none (client_flaws n) _ e))))
    (calls_held members false (before + 1) (calls_before setup (counts_as n.bytes) + 1) calls most (back_none (client_flaws n) _ e))
part_held members setup before (Schedule at numbers) s le e = numbers_held numbers e
part_held members setup before (Stop at service numbers) s le e = refl

parts_held : (members : List Declared) (setup : ℕ) (front parts : List Part) → setup ≤ 65536 → length (flat_map calls_in front) ≤ 65536 → flaws_after members setup front parts ≡ []
    → list_all is_held parts ≡ true
parts_held members setup front [] s le e = refl
parts_held members setup front (p ∷ parts) s le e =
    let inner = inner_none members setup front p parts e in
    let few = part_few members setup (length (flat_map calls_in front)) p le inner in
    both (is_held p) _ (part_held members setup (length (flat_map calls_in front)) p s le inner)
    (parts_held members setup (front ++ p ∷ []) parts s (subst (λ v. v ≤ 65536) (sym (counted front p)) few) (after_none members setup front p parts e))

-- flawless parts have room
pub flawless_held : (members : List Declared) (parts : List Part) → flaws_of members parts ≡ [] → list_all is_held parts ≡ true
flawless_held members parts e =
    let none : length (flat_map calls_in []) ≤ 65536 = omega arith in
    let all : 0 + length (flat_map calls_of_setup parts) ≤ 65536 = all_few members (length (flat_map calls_of_setup parts)) [] parts none e in
    let setup : length (flat_map calls_of_setup parts) ≤ 65536 = omega (arith, all) in
    parts_held members (length (flat_map calls_of_setup parts)) [] parts setup none e
