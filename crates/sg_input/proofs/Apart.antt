-- Interfaces of which no two are of one service: one more, and those before one.
use Rattle.std.proofs.Common.{◌≡◌, ◌⊎◌, inl, inr, ℕ, zero, suc, ◌+◌, ◌<◌, ◌≤◌, Bool, true, false, List, [], ◌∷◌, ◌++◌, length, refl, sym, ◌∙◌, ap, subst, arith, length-append}
use Rattle.std.specs.Prelude.{◌||◌, slice_index_or}
use Rattle.std.specs.List.{AllPairs}
use Rattle.std.specs.Str.{bytes_eq}
use Rattle.std.proofs.Math.ListN.{get_or-append}
use Rattle.std.proofs.Math.Seq.{get_or-append_seam}
use Rattle.std.proofs.lemmas.Bool.{cases_lt}
use Rattle.sg_facts.specs.Interface.{Declared}
use Rattle.sg_input.specs.MultiInputs.{has_service}

-- two interfaces are of different services
abbrev pub Differ : Declared → Declared → Type 0
Differ i j = bytes_eq i.facts.name j.facts.name ≡ false

or_left : (a b : Bool) → a || b ≡ false → a ≡ false
or_left true b is = is
or_left false b is = refl

or_right : (a b : Bool) → a || b ≡ false → b ≡ false
or_right true b is = absurd (cc is)
or_right false b is = is

both_false : (a b : Bool) → a ≡ false → b ≡ false → a || b ≡ false
both_false a b x y = ap (λ v. v || b) x ∙ y

-- none before it is of the service of an interface
none_at : (members : List Declared) (i : Declared) (k : ℕ) (d : Declared) → has_service members i ≡ false → k < length members → Differ (slice_index_or members k d) i
none_at [] i k d none within = absurd (omega (arith, within))
none_at (m ∷ members) i zero d none within = or_left (bytes_eq m.facts.name i.facts.name) (has_service members i) none
none_at (m ∷ members) i (suc k) d none within = none_at members i k d (or_right (bytes_eq m.facts.name i.facts.name) (has_service members i) none) (omega (arith, within))

-- one more is apart from all, where none is of its service
pub apart_more : (members : List Declared) (i : Declared) → AllPairs Differ members → has_service members i ≡ false → AllPairs Differ (members ++ i ∷ [])
apart_more members i apart none a b d below within = by (cases_lt b (length members))
  where
    longer : length (members ++ i ∷ []) ≡ length members + 1
    longer = length-append members (i ∷ [])

    by : (b < length members) ⊎ (length members ≤ b) → Differ (slice_index_or (members ++ i ∷ []) a d) (slice_index_or (members ++ i ∷ []) b d)
    by (inl low) =
        subst (λ x. Differ x (slice_index_or (members ++ i ∷ []) b d)) (sym (get_or-append members (i ∷ []) d a (omega (arith, below, low))))
        (subst (Differ (slice_index_or members a d)) (sym (get_or-append members (i ∷ []) d b low)) (apart a b d below low))
    by (inr high) =
        let last : b ≡ length members = omega (arith, high, within, longer) in
        let first : a < length members = omega (arith, below, last) in
        subst (λ x. Differ x (slice_index_or (members ++ i ∷ []) b d)) (sym (get_or-append members (i ∷ []) d a first))
        (subst (Differ (slice_index_or members a d)) (sym (ap (λ n. slice_index_or (members ++ i ∷ []) n d) last ∙ get_or-append_seam members i [] d))
        (none_at members i a d none first))

-- those behind the first
apart_rest : (m : Declared) (members : List Declared) → AllPairs Differ (m ∷ members) → AllPairs Differ members
apart_rest m members apart = λ a b d below within. apart (suc a) (suc b) d (omega (arith, below)) (omega (arith, within))

-- none before one is of its service
pub apart_there : (front : List Declared) (i : Declared) (behind : List Declared) → AllPairs Differ (front ++ i ∷ behind) → has_service front i ≡ false
apart_there [] i behind apart = refl
apart_there (m ∷ front) i behind apart =
    both_false (bytes_eq m.facts.name i.facts.name) (has_service front i)
    (subst (Differ m) (get_or-append_seam front i behind i)
    (apart zero (suc (length front)) i (omega arith) (let long = length-append front (i ∷ behind) in omega (arith, long))))
    (apart_there front i behind (apart_rest m (front ++ i ∷ behind) apart))
