-- The entries of a client among the first entries and one more.
use Rattle.std.proofs.Common.{◌≡◌, ◌≢◌, ℕ, ◌+◌, cond, List, [], ◌∷◌, ◌++◌, Some, sym, ◌∙◌, ap, take, append-nil}
use Rattle.std.specs.Prelude.{◌==◌, slice_get}
use Rattle.std.proofs.lemmas.List.Elements.{filter-append}
use Rattle.sg_facts.proofs.Places.{take_next}
use Rattle.sg_facts.proofs.Replaying.Found.{other_test, same_test}
use Rattle.sg_facts.specs.declared.entry.Entry.{Entry}
use Rattle.sg_hist.specs.Clients.{calls_of}

-- by whether the one more is the client's
calls_next : (xs : List Entry) (at client : ℕ) (e : Entry) → slice_get xs at ≡ Some e
    → calls_of (take (at + 1) xs) client ≡ calls_of (take at xs) client ++ cond (e.call.client == client) (e ∷ []) []
calls_next xs at client e found = ap (λ l. calls_of l client) (take_next xs at e found) ∙ filter-append (λ x. x.call.client == client) (take at xs) (e ∷ [])

-- a copy of it is added where it is
pub own_more : (xs own new : List Entry) (at client : ℕ) (e copy : Entry) → slice_get xs at ≡ Some e → own ≡ calls_of (take at xs) client
    → e.call.client ≡ client → copy ≡ e → new ≡ own ++ copy ∷ [] → new ≡ calls_of (take (at + 1) xs) client
own_more xs own new at client e copy found before its same adds =
    adds ∙ ap (λ x. own ++ x ∷ []) same ∙ ap (λ l. l ++ e ∷ []) before
    ∙ sym (calls_next xs at client e found ∙ ap (λ b. calls_of (take at xs) client ++ cond b (e ∷ []) []) (same_test e.call.client client its))

-- and nothing where it isn't
pub own_same : (xs own : List Entry) (at client : ℕ) (e : Entry) → slice_get xs at ≡ Some e → own ≡ calls_of (take at xs) client
    → e.call.client ≢ client → own ≡ calls_of (take (at + 1) xs) client
own_same xs own at client e found before other =
    before ∙ sym (calls_next xs at client e found ∙ ap (λ b. calls_of (take at xs) client ++ cond b (e ∷ []) []) (other_test e.call.client client other)
    ∙ append-nil (calls_of (take at xs) client))
