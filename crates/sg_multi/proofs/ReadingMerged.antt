-- How the merged list is read while it is printed.
use Rattle.std.proofs.Common.{◌≡◌, ℕ, zero, suc, ◌+◌, ◌-◌, ◌<◌, ◌≤◌, Bool, true, false, cond, List, [], ◌∷◌, ◌++◌, Some, filter, get_or, length, map, take, refl, sym, ◌∙◌, ap, subst, arith, append-nil, append_assoc, length-append}
use Rattle.std.specs.Prelude.{◌==◌, slice_get}
use Rattle.std.proofs.lemmas.List.{take_all}
use Rattle.std.proofs.lemmas.List.Elements.{filter-append}
use Rattle.std.proofs.lemmas.Option.{slice_get-get_or}
use Rattle.sg_facts.proofs.Places.{take_next}
use Rattle.sg_facts.proofs.Replaying.Found.{same_test}
use Rattle.std.specs.Option.{option_and_then}
use Rattle.sg_facts.specs.Facts.{Facts}
use Rattle.sg_facts.specs.declared.entry.Entry.{Entry}
use Rattle.sg_facts.specs.sg_base.Lists.{Each}
use Rattle.sg_multi.specs.Inside.Numbers.{CountsOne, HasRead, counted, next_of}
use Rattle.sg_multi.specs.Merged.{Merges, MultiEntry, entries_at, own_in}
use Rattle.sg_multi.specs.Report.{merged_line, merged_lines}
use Rattle.sg_multi.specs.declared.merged.Reader.{Reader}
use Rattle.sg_multi.proofs.Merging.{at_mapped, length_mapped, mapped_at, there_is}

-- ---- lists

each_at : {A : Type 0} (P : A → Type 0) (xs : List A) (k : ℕ) (x : A) → Each P xs → slice_get xs k ≡ Some x → P x
each_at P [] k x each there = absurd (cc there)
each_at P (y ∷ xs) zero x each there = subst P (let same : y ≡ x = cc there in same) each.0
each_at P (y ∷ xs) (suc k) x each there = each_at P xs k x each.1 there

-- of those that meet a test, one comes after those before it
kept_place : {A : Type 0} (test : A → Bool) (xs : List A) (at : ℕ) (x : A) → slice_get xs at ≡ Some x → test x ≡ true
    → slice_get (filter test xs) (length (filter test (take at xs))) ≡ Some x
kept_place test [] at x there its = absurd (cc there)
kept_place test (y ∷ xs) zero x there its =
    let same : y ≡ x = cc there in
    ap (λ b. slice_get (cond b (y ∷ filter test xs) (filter test xs)) 0) (ap test same ∙ its) ∙ ap Some same
kept_place test (y ∷ xs) (suc at) x there its =
    elim (test y) as (λ b. slice_get (cond b (y ∷ filter test xs) (filter test xs)) (length (cond b (y ∷ filter test (take at xs)) (filter test (take at xs)))) ≡ Some x) [
      | true ↦ kept_place test xs at x there its
      | false ↦ kept_place test xs at x there its
    ]

count_last : {A : Type 0} (b : Bool) (n : ℕ) (x : A) → n + length (cond b (x ∷ []) []) ≡ cond b (n + 1) n
count_last true n x = refl
count_last false n x = omega arith

-- how many meet a test, with one more
kept_more : {A : Type 0} (test : A → Bool) (xs : List A) (x : A) → length (filter test (xs ++ x ∷ [])) ≡ cond (test x) (length (filter test xs) + 1) (length (filter test xs))
kept_more test xs x =
    ap length (filter-append test xs (x ∷ [])) ∙ length-append (filter test xs) (cond (test x) (x ∷ []) []) ∙ count_last (test x) (length (filter test xs)) x

-- ---- entries that were read

at_member : (before : List MultiEntry) (e : MultiEntry) (member : ℕ)
    → length (entries_at member (before ++ e ∷ [])) ≡ cond (e.member == member) (length (entries_at member before) + 1) (length (entries_at member before))
at_member before e member =
    length_mapped (λ (x : MultiEntry). x.entry) (filter (λ x. x.member == member) (before ++ e ∷ [])) ∙ kept_more (λ x. x.member == member) before e
    ∙ ap (λ n. cond (e.member == member) (n + 1) n) (sym (length_mapped (λ (x : MultiEntry). x.entry) (filter (λ x. x.member == member) before)))

pub has_read_more : (old new : Reader) (before : List MultiEntry) (e : MultiEntry) (member client : ℕ) → e.member ≡ member → e.entry.call.client ≡ client
    → CountsOne old.members new.members member → CountsOne old.clients new.clients client → HasRead old before → HasRead new (before ++ e ∷ [])
has_read_more old new before e member client its own members clients read = record {
  members = λ m. members m ∙ ap (λ n. cond (member == m) (n + 1) n) (read.members m)
      ∙ ap (λ k. cond (k == m) (length (entries_at m before) + 1) (length (entries_at m before))) (sym its) ∙ sym (at_member before e m);
  clients = λ c. clients c ∙ ap (λ n. cond (client == c) (n + 1) n) (read.clients c)
      ∙ ap (λ k. cond (k == c) (length (own_in c before) + 1) (length (own_in c before))) (sym own)
      ∙ sym (kept_more (λ (x : MultiEntry). x.entry.call.client == c) before e);
}

next_there : (order : List ℕ) (histories : List (List Entry)) (merged : List MultiEntry) (reader : Reader) (at : ℕ) (e : MultiEntry) → Merges order histories merged
    → HasRead reader (take at merged) → slice_get merged at ≡ Some e → next_of histories reader.members e.member ≡ Some e.entry
next_there order histories merged reader at e merges read there =
    let within : (1 ≤ e.member) × (e.member ≤ length histories) =
    each_at (λ member. (1 ≤ member) × (member ≤ length histories)) (map (λ (x : MultiEntry). x.member) merged) at e.member
    (subst (Each (λ member. (1 ≤ member) × (member ≤ length histories))) (sym merges.members) merges.within) (mapped_at (λ (x : MultiEntry). x.member) merged at e there) in
    let below : e.member - 1 < length histories = omega (arith, within.0, within.1) in
    let back : e.member - 1 + 1 ≡ e.member = omega (arith, within.0) in
    let has = there_is histories (e.member - 1) below in
    let all : entries_at e.member merged ≡ has.0 = ap (λ n. entries_at n merged) (sym back) ∙ merges.each (e.member - 1) has.0 has.1 in
    let test : MultiEntry → Bool = λ x. x.member == e.member in
    let place : counted reader.members e.member ≡ length (filter test (take at merged))
    = read.members e.member ∙ length_mapped (λ (x : MultiEntry). x.entry) (filter test (take at merged)) in
    let here : slice_get (entries_at e.member merged) (length (filter test (take at merged))) ≡ Some e.entry
    = mapped_at (λ (x : MultiEntry). x.entry) (filter test merged) (length (filter test (take at merged))) e (kept_place test merged at e there (same_test e.member e.member refl)) in
    ap (λ o. option_and_then (λ history. slice_get history (counted reader.members e.member)) o) has.1
    ∙ ap (λ h. slice_get h (counted reader.members e.member)) (sym all) ∙ ap (λ k. slice_get (entries_at e.member merged) k) place ∙ here

-- the entry that comes next at a place of the order
pub record ComesNext (histories : List (List Entry)) (merged : List MultiEntry) (reader : Reader) (at member : ℕ) : Type 0 where
  pub e : MultiEntry
  pub there : slice_get merged at ≡ Some e
  pub its : e.member ≡ member
  pub found : next_of histories reader.members member ≡ Some e.entry

pub comes_next : (order : List ℕ) (histories : List (List Entry)) (merged : List MultiEntry) (reader : Reader) (at : ℕ) → Merges order histories merged
    → at < length order → HasRead reader (take at merged) → ComesNext histories merged reader at (get_or order at 0)
comes_next order histories merged reader at merges below read =
    let member = get_or order at 0 in
    let one = at_mapped (λ (x : MultiEntry). x.member) merged at member (ap (λ l. slice_get l at) merges.members ∙ slice_get-get_or order at 0 below) in
    record {
      e = one.0;
      there = one.1;
      its = one.2;
      found = subst (λ m. next_of histories reader.members m ≡ Some one.0.entry) one.2 (next_there order histories merged reader at one.0 merges read one.1);
    }

-- all were read at the end of the order
pub all_read : (order : List ℕ) (histories : List (List Entry)) (merged : List MultiEntry) (at : ℕ) → Merges order histories merged → length order ≤ at → take at merged ≡ merged
all_read order histories merged at merges past =
    let same : length merged ≡ length order = sym (length_mapped (λ (x : MultiEntry). x.member) merged) ∙ ap length merges.members in
    take_all at merged (omega (arith, same, past))

-- ---- lines

merged_lines_more : (services : List Facts) (before merged : List MultiEntry) (e : MultiEntry)
    → merged_lines services before (merged ++ e ∷ []) ≡ merged_lines services before merged ++ merged_line services (before ++ merged) e
merged_lines_more services before [] e = append-nil (merged_line services before e) ∙ ap (λ b. merged_line services b e) (sym (append-nil before))
merged_lines_more services before (x ∷ merged) e =
    let rest = merged_lines services (before ++ x ∷ []) merged in
    ap (λ l. merged_line services before x ++ l) (merged_lines_more services (before ++ x ∷ []) merged e)
    ∙ ap (λ b. merged_line services before x ++ (rest ++ merged_line services b e)) (append_assoc before (x ∷ []) merged)
    ∙ sym (append_assoc (merged_line services before x) rest (merged_line services (before ++ x ∷ merged) e))

-- one entry more is printed
pub line_more : (services : List Facts) (merged : List MultiEntry) (at : ℕ) (e : MultiEntry) (first old new : List ℕ) → slice_get merged at ≡ Some e
    → old ≡ first ++ merged_lines services [] (take at merged) → new ≡ old ++ merged_line services (take at merged) e
    → new ≡ first ++ merged_lines services [] (take (at + 1) merged)
line_more services merged at e first old new there before adds =
    adds ∙ ap (λ l. l ++ merged_line services (take at merged) e) before
    ∙ append_assoc first (merged_lines services [] (take at merged)) (merged_line services (take at merged) e)
    ∙ ap (λ l. first ++ l) (sym (merged_lines_more services [] (take at merged) e))
    ∙ ap (λ m. first ++ merged_lines services [] m) (sym (take_next merged at e there))
