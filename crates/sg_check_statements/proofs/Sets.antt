-- Sets of names by their bytes.
use Rattle.std.proofs.Common.{◌≡◌, ℕ, Bool, true, false, ◌||◌, List, [], ◌∷◌, ◌++◌, map, Bor, refl, sym, ◌∙◌, ap}
use Rattle.std.specs.Prelude.{if◌then◌else◌, ◌&&◌, not, None, Some}
use Rattle.std.specs.declared.option.Option.{Option}
use Rattle.std.specs.Option.{option_or}
use Rattle.sg_facts.specs.Facts.{Facts}
use Rattle.std.specs.List.{list_any}
use Rattle.std.specs.Str.{bytes_eq}
use Rattle.std.proofs.lemmas.Bool.Decides.{same_from_decides}
use Rattle.std.proofs.lemmas.Slice.Eq.{bytes_eq-Decides}
use Rattle.std.proofs.lemmas.List.Folds.{list_any-append}
use Rattle.sg_parse.specs.declared.tree.Statement.{Statement}
use Rattle.sg_parse.specs.sg_lex.Lexeme.{Spelling as Named}
use Rattle.sg_parse.specs.declared.tree.Param.{Param}
use Rattle.sg_parse.specs.declared.tree.Ret.{Ret}
use Rattle.sg_parse.specs.declared.tree.Statement.TheVariants.{Proto, Two}
use Rattle.sg_check_statements.specs.Flaws.{duplicate}
use Rattle.sg_check_statements.specs.Inside.Pieces.{unknown, is_proto}
use Rattle.sg_check_statements.specs.Says.{has_proto, names_two}
use Rattle.std.specs.Bool.{then_some}
use Rattle.sg_check_statements.specs.NameSet.{AreOf, has_name}

other_way : (xs ys : List ℕ) → bytes_eq xs ys ≡ bytes_eq ys xs
other_way xs ys =
    let d = bytes_eq-Decides ys xs in
    same_from_decides (bytes_eq xs ys) (bytes_eq ys xs) (bytes_eq-Decides xs ys) (λ t. sym (d.0 t), λ e. d.1 (sym e))

-- the set's own test, by bytes
pub by_bytes : (keys : List (Bor (List ℕ))) (name : List ℕ) → list_any (λ k. bytes_eq name k.now) keys ≡ has_name (map (λ k. k.now) keys) name
by_bytes [] name = refl
by_bytes (k ∷ keys) name = ap (λ b. b || list_any (λ q. bytes_eq name q.now) keys) (other_way name k.now) ∙ ap (λ b. bytes_eq k.now name || b) (by_bytes keys name)

pub has_it : (keys : List (Bor (List ℕ))) (names : List (List ℕ)) (name : List ℕ) (r : Bool) → r ≡ list_any (λ k. bytes_eq name k.now) keys → map (λ k. k.now) keys ≡ names
    → r ≡ has_name names name
has_it keys names name r is same = is ∙ by_bytes keys name ∙ ap (λ l. has_name l name) same

if_or : (a b : Bool) → (if a then true else b) ≡ (a || b)
if_or true b = refl
if_or false b = refl

-- a set with one name more
pub gains : (old new : List (Bor (List ℕ))) (names : List (List ℕ)) (name : List ℕ) (other : List ℕ)
    → list_any (λ k. bytes_eq other k.now) new ≡ (if bytes_eq name other then true else list_any (λ k. bytes_eq other k.now) old) → map (λ k. k.now) old ≡ names
    → has_name (map (λ k. k.now) new) other ≡ (bytes_eq name other || has_name names other)
gains old new names name other is same =
    sym (by_bytes new other) ∙ is ∙ if_or (bytes_eq name other) (list_any (λ k. bytes_eq other k.now) old)
    ∙ ap (λ b. bytes_eq name other || b) (by_bytes old other ∙ ap (λ l. has_name l other) same)

-- ---- prototypes

turned : (a b : Bool) → (a || b) ≡ (b || (a || false))
turned true true = refl
turned true false = refl
turned false true = refl
turned false false = refl

-- the names of prototypes, after one statement more
pub of_more : (names new : List (List ℕ)) (before : List Statement) (s : Statement) → AreOf names before
    → ((f : List ℕ) → has_name new f ≡ (is_proto f s || has_name names f)) → AreOf new (before ++ s ∷ [])
of_more names new before s are more f =
    more f ∙ ap (λ b. is_proto f s || b) (are f) ∙ turned (is_proto f s) (has_proto before f) ∙ sym (list_any-append (is_proto f) before (s ∷ []))

-- a prototype of a function that is among the names of those before
pub second : (names : List (List ℕ)) (before : List Statement) (s : Statement) (ret : Ret) (name : Named) (params : List Param) (slice : List ℕ) (at : ℕ) (r : Bool)
    → AreOf names before → s ≡ Proto ret name params → record { bytes = slice; at = at } ≡ name → r ≡ has_name names slice
    → then_some r at ≡ duplicate before s
second names before s ret name params slice at r are is told same =
    ap (λ b. then_some b at) (same ∙ are slice)
    ∙ ap (duplicate before) (ap (λ n. Proto ret n params) told ∙ sym is)

-- ---- unknown names

either : (a b : Option ℕ) → option_or a b ≡ option_or a b
either None b = refl
either (Some x) b = refl

-- the first of two names that has no prototype
pub two_names : (facts : Facts) (statements : List Statement) (s : Statement) (word first last : Named) (slice : List ℕ) (at : ℕ) (r one other : Option ℕ)
    → r ≡ option_or one other → one ≡ then_some (not (has_proto statements first.bytes)) first.at
    → other ≡ then_some (names_two slice && not (has_proto statements last.bytes)) last.at → record { bytes = slice; at = at } ≡ word → s ≡ Two word first last
    → r ≡ unknown facts statements s
two_names facts statements s word first last slice at r one other both here there told is =
    let same : slice ≡ word.bytes = ap (λ n. n.bytes) told in
    both ∙ either one other ∙ ap (λ a. option_or a other) here
    ∙ ap (λ b. option_or (then_some (not (has_proto statements first.bytes)) first.at) b) (there ∙ ap (λ w. then_some (names_two w && not (has_proto statements last.bytes)) last.at) same)
    ∙ ap (unknown facts statements) (sym is)
