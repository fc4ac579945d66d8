-- What the clients of a world were given, from its entries.
use Rattle.std.proofs.Common.{◌≡◌, ◌≢◌, ◌⊎◌, ℕ, zero, suc, ◌+◌, ◌-◌, ◌<◌, ◌≤◌, true, false, cond, List, [], ◌∷◌, ◌++◌, length, map, take, refl, sym, ◌∙◌, ap, subst, inl, inr, append-nil, arith, eqb-true, length-append}
use Rattle.std.specs.Prelude.{◌==◌, IfNone, IfSome, None, Some, slice_get, unwrap_or}
use Rattle.std.specs.declared.option.Option.{Option}
use Rattle.std.proofs.lemmas.Bool.{cases_lt}
use Rattle.std.proofs.lemmas.List.Elements.{filter-append}
use Rattle.sg_facts.proofs.Places.{take_next}
use Rattle.sg_facts.proofs.Replaying.Found.{other_test, same_test}
use Rattle.sg_facts.specs.declared.entry.Entry.{Entry}
use Rattle.sg_facts.specs.sg_base.Room.{Roomy}
use Rattle.sg_play.specs.sg_hist.Clients.{calls_of}
use Rattle.sg_play.specs.sg_hist.Inside.Reads.{desc_of}
use Rattle.sg_play.specs.sg_plain.Playing.Callers.{handed, is_receipted}
use Rattle.sg_play.specs.sg_plain.Playing.Given.{GaveIds, given_in}
use Rattle.sg_play.specs.sg_clients.WorldView.{Seat}
use Rattle.sg_play.specs.sg_clients.declared.phase.Phase.{Phase}
use Rattle.sg_play.specs.sg_clients.declared.phase.Phase.TheVariants.{Idle, Asked, Held, Receipted, Blocked, Left}
use Rattle.sg_sim.specs.Inside.Givens.{lists_of}

-- ---- one client

take_whole : (es : List Entry) (n : ℕ) → n ≡ length es → take n es ≡ es
take_whole [] zero is = refl
take_whole [] (suc n) is = absurd (cc is)
take_whole (x ∷ es) zero is = absurd (cc is)
take_whole (x ∷ es) (suc n) is = ap (λ l. x ∷ l) (take_whole es n (omega (arith, is)))

-- who has no receipt was handed over the replies of all its entries
pub gave_all : (s : Seat) (own : List Entry) (ids : List ℕ) → s.seq ≡ length own → is_receipted s.phase ≡ false → GaveIds own ids → GaveIds (take (handed s) own) ids
gave_all s own ids count none gave =
    ap (λ es. map (λ (e : Entry). desc_of e.reply) es) (take_whole own (handed s) (ap (λ b. cond b (s.seq - 1) s.seq) none ∙ count)) ∙ gave

front_gave : (own : List Entry) (front : List ℕ) (last : ℕ) (n : ℕ) → n + 1 ≡ length own → GaveIds own (front ++ last ∷ []) → GaveIds (take n own) front
front_gave [] front last n count gave = absurd (omega (arith, count))
front_gave (e ∷ own) [] last zero count gave = refl
front_gave (e ∷ own) [] last (suc n) count gave =
    absurd (let many : length (map (λ (x : Entry). desc_of x.reply) (e ∷ own)) ≡ 1 = ap (λ (l : List ℕ). length l) gave in omega (arith, count, many, length_ids own))
  where
    length_ids : (es : List Entry) → length (map (λ (x : Entry). desc_of x.reply) es) ≡ length es
    length_ids [] = refl
    length_ids (x ∷ es) = ap suc (length_ids es)
front_gave (e ∷ own) (x ∷ front) last zero count gave =
    absurd (let many : length (map (λ (y : Entry). desc_of y.reply) (e ∷ own)) ≡ length (x ∷ front ++ last ∷ []) = ap (λ (l : List ℕ). length l) gave in
    omega (arith, count, many, length_ids own, length-append front (last ∷ [])))
  where
    length_ids : (es : List Entry) → length (map (λ (y : Entry). desc_of y.reply) es) ≡ length es
    length_ids [] = refl
    length_ids (y ∷ es) = ap suc (length_ids es)
front_gave (e ∷ own) (x ∷ front) last (suc n) count gave =
    let first : desc_of e.reply ≡ x = cc gave in
    let rest : map (λ (y : Entry). desc_of y.reply) own ≡ front ++ last ∷ [] = cc gave in
    ap (λ y. y ∷ map (λ (z : Entry). desc_of z.reply) (take n own)) first ∙ ap (λ l. x ∷ l) (front_gave own front last n (omega (arith, count)) rest)

-- who has one wasn't handed over the last
pub gave_front : (s : Seat) (own : List Entry) (front : List ℕ) (last : ℕ) → s.seq ≡ length own → is_receipted s.phase ≡ true → GaveIds own (front ++ last ∷ []) → GaveIds (take (handed s) own) front
gave_front s own front last count receipt gave =
    let was : handed s ≡ s.seq - 1 = ap (λ b. cond b (s.seq - 1) s.seq) receipt in
    front_gave own front last (handed s) (omega (arith, was, count, some own gave)) gave
  where
    some : (es : List Entry) → GaveIds es (front ++ last ∷ []) → 1 ≤ length es
    some [] gives = absurd (let none : 0 ≡ length (front ++ last ∷ []) = ap (λ (l : List ℕ). length l) gives in omega (arith, none, length-append front (last ∷ [])))
    some (e ∷ es) gives = omega arith

pub gave_none : (s : Seat) (own : List Entry) → GaveIds own [] → GaveIds (take (handed s) own) []
gave_none s [] gave = by (handed s)
  where
    by : (n : ℕ) → map (λ (e : Entry). desc_of e.reply) (take n []) ≡ []
    by zero = refl
    by (suc n) = refl
gave_none s (e ∷ own) gave = absurd (cc gave)

-- the last descriptor is taken away of who has a receipt
pub gave_popped : (s : Seat) (own : List Entry) (old new : List ℕ) (r : Option ℕ) → s.seq ≡ length own → is_receipted s.phase ≡ true → GaveIds own old
    → IfSome r (λ last. old ≡ new ++ last ∷ []) → IfNone r (new ≡ []) → (r ≡ None → old ≡ []) → GaveIds (take (handed s) own) new
gave_popped s own old new (Some last) count receipt gave some empty none = gave_front s own new last count receipt (subst (GaveIds own) some gave)
gave_popped s own old new None count receipt gave some empty none = subst (GaveIds (take (handed s) own)) (sym empty) (gave_none s own (subst (GaveIds own) (none refl) gave))

pub not_receipt : (p : Phase) → (p ≡ Receipted → ⊥) → is_receipted p ≡ false
not_receipt Idle isnt = refl
not_receipt Asked isnt = refl
not_receipt Held isnt = refl
not_receipt Receipted isnt = absurd (isnt refl)
not_receipt Blocked isnt = refl
not_receipt Left isnt = refl

-- ---- a client more

at_front : (lists : List (List ℕ)) (new : List ℕ) (k : ℕ) → k < length lists → unwrap_or (slice_get (lists ++ new ∷ []) k) [] ≡ unwrap_or (slice_get lists k) []
at_front [] new k below = absurd (omega (arith, below))
at_front (l ∷ lists) new zero below = refl
at_front (l ∷ lists) new (suc k) below = at_front lists new k (omega (arith, below))

at_end : (lists : List (List ℕ)) (new : List ℕ) (k : ℕ) → k ≡ length lists → unwrap_or (slice_get (lists ++ new ∷ []) k) [] ≡ new
at_end [] new zero is = refl
at_end [] new (suc k) is = absurd (cc is)
at_end (l ∷ lists) new zero is = absurd (cc is)
at_end (l ∷ lists) new (suc k) is = at_end lists new k (omega (arith, is))

lists_more : (given : List (Roomy ℕ)) (new : Roomy ℕ) → lists_of (given ++ new ∷ []) ≡ lists_of given ++ new.items ∷ []
lists_more [] new = refl
lists_more (l ∷ given) new = ap (λ ls. l.items ∷ ls) (lists_more given new)

-- what holds of the lists of so many clients, and of one list more, holds of all these
pub lists_push : (P : ℕ → List ℕ → Type 0) (given : List (Roomy ℕ)) (new : Roomy ℕ) (n : ℕ) → length (lists_of given) ≡ n → ((client : ℕ) → 1 ≤ client → client ≤ n → P client (given_in (lists_of given) client))
    → P (n + 1) new.items → (client : ℕ) → 1 ≤ client → client ≤ n + 1 → P client (given_in (lists_of (given ++ new ∷ [])) client)
lists_push P given new n count before its client first last =
    subst (λ ls. P client (given_in ls client)) (sym (lists_more given new)) (by (cases_lt n client))
  where
    by : (n < client) ⊎ (client ≤ n) → P client (given_in (lists_of given ++ new.items ∷ []) client)
    by (inl above) =
        let same : n + 1 ≡ client = omega (arith, above, last) in
        subst (λ c. P c (given_in (lists_of given ++ new.items ∷ []) c)) same (subst (P (n + 1)) (sym (at_end (lists_of given) new.items (n + 1 - 1) (omega (arith, count)))) its)
    by (inr within) = subst (P client) (sym (at_front (lists_of given) new.items (client - 1) (omega (arith, first, within, count)))) (before client first within)

-- ---- a list without elements

no_length : {T : Type 0} (xs : List T) → length xs ≡ 0 → xs ≡ []
no_length [] none = refl
no_length (x ∷ xs) none = absurd (omega (arith, none))

pub none_there : {T : Type 0} (xs : List T) → (length xs == 0) ≡ true → xs ≡ []
none_there xs is = no_length xs (eqb-true (length xs) 0 is)

-- ---- an entry more

pub gave_more : (own : List Entry) (e : Entry) (ids : List ℕ) → GaveIds own ids → GaveIds (own ++ e ∷ []) (ids ++ desc_of e.reply ∷ [])
gave_more own e ids gave = pushed own ∙ ap (λ l. l ++ desc_of e.reply ∷ []) gave
  where
    pushed : (es : List Entry) → map (λ (x : Entry). desc_of x.reply) (es ++ e ∷ []) ≡ map (λ (x : Entry). desc_of x.reply) es ++ desc_of e.reply ∷ []
    pushed [] = refl
    pushed (x ∷ es) = ap (λ l. desc_of x.reply ∷ l) (pushed es)

-- by whether it is the client's
calls_next : (xs : List Entry) (at client : ℕ) (e : Entry) → slice_get xs at ≡ Some e
    → calls_of (take (at + 1) xs) client ≡ calls_of (take at xs) client ++ cond (e.call.client == client) (e ∷ []) []
calls_next xs at client e found = ap (λ l. calls_of l client) (take_next xs at e found) ∙ filter-append (λ x. x.call.client == client) (take at xs) (e ∷ [])

-- what it gave is added
pub gave_next : (xs : List Entry) (ids new : List ℕ) (at client id : ℕ) (e : Entry) → slice_get xs at ≡ Some e → GaveIds (calls_of (take at xs) client) ids
    → e.call.client ≡ client → id ≡ desc_of e.reply → new ≡ ids ++ id ∷ [] → GaveIds (calls_of (take (at + 1) xs) client) new
gave_next xs ids new at client id e found before its gives adds =
    let own = calls_of (take at xs) client in
    subst (λ es. GaveIds es new) (sym (calls_next xs at client e found ∙ ap (λ b. own ++ cond b (e ∷ []) []) (same_test e.call.client client its)))
    (gave_more own e ids before ∙ ap (λ d. ids ++ d ∷ []) (sym gives) ∙ sym adds)

-- and nothing where it isn't the client's
pub gave_same : (xs : List Entry) (ids : List ℕ) (at client : ℕ) (e : Entry) → slice_get xs at ≡ Some e → GaveIds (calls_of (take at xs) client) ids
    → e.call.client ≢ client → GaveIds (calls_of (take (at + 1) xs) client) ids
gave_same xs ids at client e found before other =
    let own = calls_of (take at xs) client in
    subst (λ es. GaveIds es ids) (sym (calls_next xs at client e found ∙ ap (λ b. own ++ cond b (e ∷ []) []) (other_test e.call.client client other) ∙ append-nil own)) before
