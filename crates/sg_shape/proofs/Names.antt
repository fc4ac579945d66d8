-- Names of functions, and their numbers.
use Rattle.std.proofs.Common.{◌≡◌, ℕ, zero, suc, ◌+◌, Bool, true, false, ◌&&◌, ◌||◌, not, List, [], ◌∷◌, ◌++◌, map, None, Some, refl, sym, ◌∙◌, ap, arith}
use Rattle.std.specs.Prelude.{if◌then◌else◌, slice_get}
use Rattle.std.specs.declared.option.Option.{Option}
use Rattle.std.specs.Str.{bytes_eq}
use Rattle.std.proofs.lemmas.Bool.{and_parts, not-true, or_parts, or_right}
use Rattle.std.proofs.lemmas.Bool.Decides.{same_from_decides}
use Rattle.std.proofs.lemmas.List.Folds.{list_any-append}
use Rattle.std.proofs.lemmas.Slice.Eq.{bytes_eq-Decides}
use Rattle.sg_check_statements.specs.sg_facts.Facts.{Fun}
use Rattle.sg_check_statements.specs.NameSet.{has_name}
use Rattle.sg_check_statements.specs.Says.{fun_number_from, has_proto}
use Rattle.sg_check_statements.specs.Shapes.{all_differ}
use Rattle.sg_check_statements.specs.sg_parse.declared.tree.Statement.{Statement}
use Rattle.sg_check_statements.specs.sg_parse.declared.tree.Statement.TheVariants.{Proto}
use Rattle.sg_shape.specs.Flaws.{second_place}
use Rattle.sg_shape.specs.Prototypes.{Prototype, names_of, number_from, protos_of}

-- ---- bytes

pub same_bytes : (xs ys : List ℕ) → bytes_eq xs ys ≡ true → xs ≡ ys
same_bytes xs ys = (bytes_eq-Decides xs ys).0

pub own_bytes : (xs : List ℕ) → bytes_eq xs xs ≡ true
own_bytes xs = (bytes_eq-Decides xs xs).1 refl

pub turned : (xs ys : List ℕ) → bytes_eq xs ys ≡ bytes_eq ys xs
turned xs ys =
    let d = bytes_eq-Decides ys xs in
    same_from_decides (bytes_eq xs ys) (bytes_eq ys xs) (bytes_eq-Decides xs ys) (λ t. sym (d.0 t), λ e. d.1 (sym e))

-- ---- names among names

-- a name that is at a place is among them
pub named_at : (names : List (List ℕ)) (k : ℕ) (name : List ℕ) → slice_get names k ≡ Some name → has_name names name ≡ true
named_at [] k name at = absurd (cc at)
named_at (n ∷ names) zero name at =
    let same : n ≡ name = cc at in ap (λ b. b || has_name names name) (ap (λ m. bytes_eq m name) same ∙ own_bytes name)
named_at (n ∷ names) (suc k) name at = or_right (bytes_eq n name) (has_name names name) (named_at names k name at)

-- the functions that have a prototype are those of the prototypes' names
pub proto_names : (statements : List Statement) (f : List ℕ) → has_proto statements f ≡ has_name (names_of (protos_of statements)) f
proto_names [] f = refl
proto_names (Proto ret name params ∷ statements) f = ap (λ b. bytes_eq name.bytes f || b) (proto_names statements f)
proto_names (_ ∷ statements) f = proto_names statements f

-- ---- no name twice

not_second : (b : Bool) (at : ℕ) (rest : Option ℕ) → (if b then Some at else rest) ≡ None → (b ≡ false) × (rest ≡ None)
not_second true at rest is = absurd (cc is)
not_second false at rest is = (refl, is)

-- where no second place is told, names differ, from those before them too
pub all_apart : (names : List (List ℕ)) (protos : List Prototype) → second_place names protos ≡ None
    → (all_differ (names_of protos) ≡ true) × ((k : ℕ) (p : Prototype) → slice_get protos k ≡ Some p → has_name names p.name.bytes ≡ false)
all_apart names [] none = (refl, λ k p at. absurd (cc at))
all_apart names (p ∷ protos) none =
    let here = not_second (has_name names p.name.bytes) p.name.at (second_place (names ++ p.name.bytes ∷ []) protos) none in
    let rest = all_apart (names ++ p.name.bytes ∷ []) protos here.1 in
    let parts = λ (k : ℕ) (q : Prototype) (at : slice_get protos k ≡ Some q).
    or_parts (has_name names q.name.bytes) (has_name (p.name.bytes ∷ []) q.name.bytes)
    (sym (list_any-append (λ n. bytes_eq n q.name.bytes) names (p.name.bytes ∷ [])) ∙ rest.1 k q at) in
    let apart : has_name (names_of protos) p.name.bytes ≡ false =
    none_named protos p.name.bytes (λ k q at. turned q.name.bytes p.name.bytes ∙ (or_parts (bytes_eq p.name.bytes q.name.bytes) false (parts k q at).1).0) in (
      ap (λ b. not b && all_differ (names_of protos)) apart ∙ rest.0,
      λ k q at. each k q at here.0 (λ m r there. (parts m r there).0),
    )
  where
    none_named : (qs : List Prototype) (name : List ℕ) → ((k : ℕ) (q : Prototype) → slice_get qs k ≡ Some q → bytes_eq q.name.bytes name ≡ false) → has_name (names_of qs) name ≡ false
    none_named [] name differ = refl
    none_named (q ∷ qs) name differ = ap (λ b. b || has_name (names_of qs) name) (differ 0 q refl) ∙ none_named qs name (λ k r at. differ (suc k) r at)

    each : (k : ℕ) (q : Prototype) → slice_get (p ∷ protos) k ≡ Some q → has_name names p.name.bytes ≡ false
        → ((m : ℕ) (r : Prototype) → slice_get protos m ≡ Some r → has_name names r.name.bytes ≡ false) → has_name names q.name.bytes ≡ false
    each zero q at first later = let same : p ≡ q = cc at in ap (λ r. has_name names r.name.bytes) (sym same) ∙ first
    each (suc k) q at first later = later k q at

-- the name of one prototype isn't the name of a later one
pub differs : (p : Prototype) (protos : List Prototype) (k : ℕ) (q : Prototype) → all_differ (names_of (p ∷ protos)) ≡ true → slice_get protos k ≡ Some q → bytes_eq p.name.bytes q.name.bytes ≡ false
differs p protos k q differ at =
    turned p.name.bytes q.name.bytes
    ∙ in_names protos k q at (not-true (has_name (names_of protos) p.name.bytes) (and_parts (not (has_name (names_of protos) p.name.bytes)) (all_differ (names_of protos)) differ).0)
  where
    in_names : (qs : List Prototype) (j : ℕ) (r : Prototype) → slice_get qs j ≡ Some r → has_name (names_of qs) p.name.bytes ≡ false → bytes_eq r.name.bytes p.name.bytes ≡ false
    in_names [] j r there none = absurd (cc there)
    in_names (x ∷ qs) zero r there none =
        let same : x ≡ r = cc there in
        ap (λ y. bytes_eq y.name.bytes p.name.bytes) (sym same) ∙ (or_parts (bytes_eq x.name.bytes p.name.bytes) (has_name (names_of qs) p.name.bytes) none).0
    in_names (x ∷ qs) (suc j) r there none = in_names qs j r there (or_parts (bytes_eq x.name.bytes p.name.bytes) (has_name (names_of qs) p.name.bytes) none).1

pub rest_differ : (p : Prototype) (protos : List Prototype) → all_differ (names_of (p ∷ protos)) ≡ true → all_differ (names_of protos) ≡ true
rest_differ p protos differ = (and_parts (not (has_name (names_of protos) p.name.bytes)) (all_differ (names_of protos)) differ).1

-- ---- numbers

-- a function of a prototype's name
module _ (F : Prototype → Fun) (named : (p : Prototype) → (F p).name ≡ p.name.bytes) where
  -- the function of a prototype has the prototype's number
  pub number_at : (n : ℕ) (protos : List Prototype) (k : ℕ) (p : Prototype) → all_differ (names_of protos) ≡ true → slice_get protos k ≡ Some p
      → fun_number_from n (map F protos) p.name.bytes ≡ Some (n + k)
  number_at n [] k p differ at = absurd (cc at)
  number_at n (q ∷ protos) zero p differ at =
      let same : q ≡ p = cc at in
      let own : bytes_eq (F q).name p.name.bytes ≡ true = ap (λ m. bytes_eq m p.name.bytes) (named q ∙ ap (λ r. r.name.bytes) same) ∙ own_bytes p.name.bytes in
      let none : n ≡ n + 0 = omega arith in
      ap (λ b. if b then Some n else fun_number_from (n + 1) (map F protos) p.name.bytes) own ∙ ap Some none
  number_at n (q ∷ protos) (suc k) p differ at =
      let other : bytes_eq (F q).name p.name.bytes ≡ false = ap (λ m. bytes_eq m p.name.bytes) (named q) ∙ differs q protos k p differ at in
      let more : n + 1 + k ≡ n + suc k = omega arith in
      ap (λ b. if b then Some n else fun_number_from (n + 1) (map F protos) p.name.bytes) other
      ∙ number_at (n + 1) protos k p (rest_differ q protos differ) at ∙ ap Some more

  -- the number of a name among functions is that among the prototypes' names
  pub same_number : (n : ℕ) (protos : List Prototype) (name : List ℕ)
      → fun_number_from n (map F protos) name ≡ (if has_name (names_of protos) name then Some (number_from n (names_of protos) name) else None)
  same_number n [] name = refl
  same_number n (p ∷ protos) name =
      ap (λ m. if bytes_eq m name then Some n else fun_number_from (n + 1) (map F protos) name) (named p)
      ∙ ap (λ o. if bytes_eq p.name.bytes name then Some n else o) (same_number (n + 1) protos name)
      ∙ by (bytes_eq p.name.bytes name) (has_name (names_of protos) name)
    where
      by : (b c : Bool) → (if b then Some n else (if c then Some (number_from (n + 1) (names_of protos) name) else None))
          ≡ (if b || c then Some (if b then n else number_from (n + 1) (names_of protos) name) else None)
      by true c = refl
      by false c = refl

-- a name among names stands where its number says
pub placed : (n : ℕ) (names : List (List ℕ)) (name : List ℕ) → has_name names name ≡ true
    → (k : ℕ) × (number_from n names name ≡ n + k) × (slice_get names k ≡ Some name)
placed n [] name among = absurd (cc among)
placed n (other ∷ names) name among = by (bytes_eq other name) refl among (λ more. placed (n + 1) names name more)
  where
    by : (b : Bool) → bytes_eq other name ≡ b → (b || has_name names name) ≡ true
        → (has_name names name ≡ true → (k : ℕ) × (number_from (n + 1) names name ≡ n + 1 + k) × (slice_get names k ≡ Some name))
        → (k : ℕ) × ((if b then n else number_from (n + 1) names name) ≡ n + k) × (slice_get (other ∷ names) k ≡ Some name)
    by true told is later = (0, omega arith, ap Some (same_bytes other name told))
    by false told is later =
        let rest = later is in
        let more : n + 1 + rest.0 ≡ n + suc rest.0 = omega arith in
        (suc rest.0, rest.1 ∙ more, rest.2)
