-- Members one of which is replaced, and merged lists with one entry more.
use Rattle.std.proofs.Common.{◌≡◌, ◌≢◌, ◌⊎◌, ℕ, zero, suc, ◌+◌, ◌<◌, ◌≤◌, Bool, true, false, cond, List, [], ◌∷◌, ◌++◌, Some, filter, length, map, refl, sym, ◌∙◌, ap, subst, inl, inr, arith, slice_set, append-nil}
use Rattle.std.specs.Prelude.{◌==◌, slice_get}
use Rattle.std.proofs.lemmas.List.{map-append}
use Rattle.std.proofs.lemmas.List.Elements.{filter-append}
use Rattle.sg_facts.specs.declared.entry.Entry.{Entry}
use Rattle.sg_facts.specs.sg_base.Lists.{Each}
use Rattle.sg_facts.proofs.Replaying.Found.{other_test, same_test}
use Rattle.sg_multi.specs.sg_sim.sg_play.sg_hist.Clients.{calls_of}
use Rattle.sg_multi.specs.sg_sim.sg_world_laws.Seats.{last_of}
use Rattle.sg_multi.specs.Merged.{Merges, MultiEntry, entries_at, entries_in, own_in}

-- ---- one of a list is replaced

pub set_cases : {T : Type 0} (xs : List T) (place : ℕ) (new : T) (k : ℕ) (x : T) → slice_get (slice_set xs place new) k ≡ Some x → ((k ≡ place) × (x ≡ new)) ⊎ ((k ≢ place) × (slice_get xs k ≡ Some x))
set_cases [] place new k x there = absurd (cc there)
set_cases (y ∷ xs) zero new zero x there = inl (refl, let same : new ≡ x = cc there in sym same)
set_cases (y ∷ xs) zero new (suc k) x there = inr (λ is. cc is, there)
set_cases (y ∷ xs) (suc place) new zero x there = inr (λ is. cc is, there)
set_cases (y ∷ xs) (suc place) new (suc k) x there = elim (set_cases xs place new k x there) [
  | inl both ↦ inl (ap suc both.0, both.1)
  | inr both ↦ inr (λ is. both.0 (omega (arith, is)), both.1)
]

pub set_there : {T : Type 0} (xs : List T) (place : ℕ) (old new : T) → slice_get xs place ≡ Some old → slice_get (slice_set xs place new) place ≡ Some new
set_there [] place old new there = absurd (cc there)
set_there (y ∷ xs) zero old new there = refl
set_there (y ∷ xs) (suc place) old new there = set_there xs place old new there

pub set_elsewhere : {T : Type 0} (xs : List T) (place k : ℕ) (new : T) → k ≢ place → slice_get (slice_set xs place new) k ≡ slice_get xs k
set_elsewhere [] place k new other = refl
set_elsewhere (y ∷ xs) zero zero new other = absurd (other refl)
set_elsewhere (y ∷ xs) zero (suc k) new other = refl
set_elsewhere (y ∷ xs) (suc place) zero new other = refl
set_elsewhere (y ∷ xs) (suc place) (suc k) new other = set_elsewhere xs place k new (λ is. other (ap suc is))

-- what isn't changed by that
pub map_kept : {T A : Type 0} (f : T → A) (xs : List T) (place : ℕ) (old new : T) → slice_get xs place ≡ Some old → f new ≡ f old → map f (slice_set xs place new) ≡ map f xs
map_kept f [] place old new there same = absurd (cc there)
map_kept f (y ∷ xs) zero old new there same = ap (λ a. a ∷ map f xs) (same ∙ (let it : old ≡ y = sym (cc there) in ap f it))
map_kept f (y ∷ xs) (suc place) old new there same = ap (λ l. f y ∷ l) (map_kept f xs place old new there same)

pub map_set : {T A : Type 0} (f : T → A) (xs : List T) (place : ℕ) (new : T) → map f (slice_set xs place new) ≡ slice_set (map f xs) place (f new)
map_set f [] place new = refl
map_set f (y ∷ xs) zero new = refl
map_set f (y ∷ xs) (suc place) new = ap (λ l. f y ∷ l) (map_set f xs place new)

pub length_kept : {T : Type 0} (xs : List T) (place : ℕ) (new : T) → length (slice_set xs place new) ≡ length xs
length_kept [] place new = refl
length_kept (y ∷ xs) zero new = refl
length_kept (y ∷ xs) (suc place) new = ap suc (length_kept xs place new)

pub length_mapped : {T A : Type 0} (f : T → A) (xs : List T) → length (map f xs) ≡ length xs
length_mapped f [] = refl
length_mapped f (x ∷ xs) = ap suc (length_mapped f xs)

pub mapped_at : {T A : Type 0} (f : T → A) (xs : List T) (k : ℕ) (x : T) → slice_get xs k ≡ Some x → slice_get (map f xs) k ≡ Some (f x)
mapped_at f [] k x there = absurd (cc there)
mapped_at f (y ∷ xs) zero x there = let same : y ≡ x = cc there in ap (λ t. Some (f t)) same
mapped_at f (y ∷ xs) (suc k) x there = mapped_at f xs k x there

pub at_mapped : {T A : Type 0} (f : T → A) (xs : List T) (k : ℕ) (a : A) → slice_get (map f xs) k ≡ Some a → (x : T) × (slice_get xs k ≡ Some x) × (f x ≡ a)
at_mapped f [] k a there = absurd (cc there)
at_mapped f (y ∷ xs) zero a there = (y, refl, cc there)
at_mapped f (y ∷ xs) (suc k) a there = at_mapped f xs k a there

pub there_within : {T : Type 0} (xs : List T) (k : ℕ) (x : T) → slice_get xs k ≡ Some x → k + 1 ≤ length xs
there_within [] k x there = absurd (cc there)
there_within (y ∷ xs) zero x there = omega arith
there_within (y ∷ xs) (suc k) x there = omega (arith, there_within xs k x there)

-- lists that show the same place by place
pub shown_alike : {T U A : Type 0} (f : T → A) (g : U → A) (xs : List T) (ys : List U) → length xs ≡ length ys
    → ((k : ℕ) (x : T) (y : U) → slice_get xs k ≡ Some x → slice_get ys k ≡ Some y → f x ≡ g y) → map f xs ≡ map g ys
shown_alike f g [] [] count each = refl
shown_alike f g [] (y ∷ ys) count each = absurd (omega (arith, count))
shown_alike f g (x ∷ xs) [] count each = absurd (omega (arith, count))
shown_alike f g (x ∷ xs) (y ∷ ys) count each =
    ap (λ a. a ∷ map f xs) (each zero x y refl refl) ∙ ap (λ l. g y ∷ l) (shown_alike f g xs ys (omega (arith, count)) (λ k a b. each (suc k) a b))

pub there_is : {T : Type 0} (xs : List T) (k : ℕ) → k < length xs → (x : T) × (slice_get xs k ≡ Some x)
there_is [] k below = absurd (omega (arith, below))
there_is (x ∷ xs) zero below = (x, refl)
there_is (x ∷ xs) (suc k) below = there_is xs k (omega (arith, below))

-- ---- one entry more

pub at_more : (merged : List MultiEntry) (x : MultiEntry) (member : ℕ) → x.member ≡ member → entries_at member (merged ++ x ∷ []) ≡ entries_at member merged ++ x.entry ∷ []
at_more merged x member its =
    ap (map (λ e. e.entry)) (filter-append (λ e. e.member == member) merged (x ∷ []) ∙ ap (λ b. filter (λ e. e.member == member) merged ++ cond b (x ∷ []) []) (same_test x.member member its))
    ∙ map-append (λ e. e.entry) (filter (λ e. e.member == member) merged) (x ∷ [])

pub at_same : (merged : List MultiEntry) (x : MultiEntry) (member : ℕ) → x.member ≢ member → entries_at member (merged ++ x ∷ []) ≡ entries_at member merged
at_same merged x member other =
    ap (map (λ e. e.entry)) (filter-append (λ e. e.member == member) merged (x ∷ []) ∙ ap (λ b. filter (λ e. e.member == member) merged ++ cond b (x ∷ []) []) (other_test x.member member other)
    ∙ append-nil (filter (λ e. e.member == member) merged))

pub own_more : (merged : List MultiEntry) (x : MultiEntry) (client : ℕ) → x.entry.call.client ≡ client → own_in client (merged ++ x ∷ []) ≡ own_in client merged ++ x ∷ []
own_more merged x client its =
    filter-append (λ e. e.entry.call.client == client) merged (x ∷ []) ∙ ap (λ b. own_in client merged ++ cond b (x ∷ []) []) (same_test x.entry.call.client client its)

pub own_same : (merged : List MultiEntry) (x : MultiEntry) (client : ℕ) → x.entry.call.client ≢ client → own_in client (merged ++ x ∷ []) ≡ own_in client merged
own_same merged x client other =
    filter-append (λ e. e.entry.call.client == client) merged (x ∷ []) ∙ ap (λ b. own_in client merged ++ cond b (x ∷ []) []) (other_test x.entry.call.client client other)
    ∙ append-nil (own_in client merged)

pub entries_more : (merged : List MultiEntry) (x : MultiEntry) → entries_in (merged ++ x ∷ []) ≡ entries_in merged ++ x.entry ∷ []
entries_more merged x = map-append (λ e. e.entry) merged (x ∷ [])

-- the entries of a client, with their members or without
pub calls_in : (merged : List MultiEntry) (client : ℕ) → calls_of (entries_in merged) client ≡ entries_in (own_in client merged)
calls_in [] client = refl
calls_in (x ∷ merged) client = by (x.entry.call.client == client) (calls_in merged client)
  where
    by : (b : Bool) → calls_of (entries_in merged) client ≡ entries_in (own_in client merged)
        → cond b (x.entry ∷ calls_of (entries_in merged) client) (calls_of (entries_in merged) client) ≡ entries_in (cond b (x ∷ own_in client merged) (own_in client merged))
    by true rest = ap (λ l. x.entry ∷ l) rest
    by false rest = rest

-- those of one member
pub calls_at : (merged : List MultiEntry) (member client : ℕ) → calls_of (entries_at member merged) client ≡ entries_at member (own_in client merged)
calls_at [] member client = refl
calls_at (x ∷ merged) member client = by (x.member == member) refl (x.entry.call.client == client) refl (calls_at merged member client)
  where
    by : (b : Bool) → (x.member == member) ≡ b → (d : Bool) → (x.entry.call.client == client) ≡ d → calls_of (entries_at member merged) client ≡ entries_at member (own_in client merged)
        → calls_of (map (λ e. e.entry) (cond b (x ∷ filter (λ e. e.member == member) merged) (filter (λ e. e.member == member) merged))) client ≡ entries_at member (cond d (x ∷ own_in client merged) (own_in client merged))
    by true its true own rest =
        ap (λ t. cond t (x.entry ∷ calls_of (entries_at member merged) client) (calls_of (entries_at member merged) client)) own ∙ ap (λ l. x.entry ∷ l) rest
        ∙ ap (λ t. map (λ e. e.entry) (cond t (x ∷ filter (λ e. e.member == member) (own_in client merged)) (filter (λ e. e.member == member) (own_in client merged)))) (sym its)
    by true its false own rest = ap (λ t. cond t (x.entry ∷ calls_of (entries_at member merged) client) (calls_of (entries_at member merged) client)) own ∙ rest
    by false its true own rest =
        rest ∙ ap (λ t. map (λ e. e.entry) (cond t (x ∷ filter (λ e. e.member == member) (own_in client merged)) (filter (λ e. e.member == member) (own_in client merged)))) (sym its)
    by false its false own rest = rest

last_pushed : (es : List Entry) (e : Entry) → last_of (es ++ e ∷ []) ≡ Some e
last_pushed [] e = refl
last_pushed (x ∷ []) e = refl
last_pushed (x ∷ y ∷ es) e = last_pushed (y ∷ es) e

-- a client's last entry is its last at that entry's member
pub last_at : (merged : List MultiEntry) (client : ℕ) (front : List MultiEntry) (x : MultiEntry) → own_in client merged ≡ front ++ x ∷ [] → last_of (calls_of (entries_at x.member merged) client) ≡ Some x.entry
last_at merged client front x own =
    ap last_of (calls_at merged x.member client ∙ ap (entries_at x.member) own ∙ at_more front x x.member refl) ∙ last_pushed (entries_at x.member front) x.entry

-- ---- the merged list

-- no entry was made
pub merges_same : (order : List ℕ) (histories now : List (List Entry)) (merged : List MultiEntry) → now ≡ histories → Merges order histories merged → Merges order now merged
merges_same order histories now merged same is = subst (λ h. Merges order h merged) (sym same) is

each_pushed : {T : Type 0} (P : T → Type 0) (xs : List T) (x : T) → Each P xs → P x → Each P (xs ++ x ∷ [])
each_pushed P [] x all own = (own, tt)
each_pushed P (y ∷ xs) x all own = (all.0, each_pushed P xs x all.1 own)

-- the member at a place made one
pub merges_push : (order : List ℕ) (histories : List (List Entry)) (merged : List MultiEntry) (place : ℕ) (history : List Entry) (e : Entry) → slice_get histories place ≡ Some history
    → Merges order histories merged → Merges (order ++ (place + 1) ∷ []) (slice_set histories place (history ++ e ∷ [])) (merged ++ record { member = place + 1; entry = e } ∷ [])
merges_push order histories merged place history e there is = record {
  members = map-append (λ x. x.member) merged (new ∷ []) ∙ ap (λ l. l ++ (place + 1) ∷ []) is.members;
  within = subst (λ n. Each (λ member. (1 ≤ member) × (member ≤ n)) (order ++ (place + 1) ∷ [])) (sym (length_kept histories place (history ++ e ∷ [])))
      (each_pushed (λ member. (1 ≤ member) × (member ≤ length histories)) order (place + 1) is.within (omega arith, there_within histories place history there));
  each = λ k h at. by k h (set_cases histories place (history ++ e ∷ []) k h at);
}
  where
    new : MultiEntry
    new = record { member = place + 1; entry = e }

    by : (k : ℕ) (h : List Entry) → ((k ≡ place) × (h ≡ history ++ e ∷ [])) ⊎ ((k ≢ place) × (slice_get histories k ≡ Some h)) → entries_at (k + 1) (merged ++ new ∷ []) ≡ h
    by k h (inl its) =
        ap (λ n. entries_at (n + 1) (merged ++ new ∷ [])) its.0 ∙ at_more merged new (place + 1) refl
        ∙ ap (λ l. l ++ e ∷ []) (is.each place history there) ∙ sym its.1
    by k h (inr other) = at_same merged new (k + 1) (λ same. other.0 (omega (arith, same))) ∙ is.each k h other.1
