-- The clients go on to be at their calls of the script, whatever a step does.
use Rattle.std.proofs.Common.{◌≡◌, ◌≢◌, ◌⊎◌, ℕ, ◌+◌, ◌≤◌, cond, List, [], ◌∷◌, ◌++◌, None, Some, length, refl, sym, ◌∙◌, ap, subst, inl, inr, arith, append-nil, length-append}
use Rattle.std.specs.Prelude.{◌==◌, slice_get}
use Rattle.std.specs.declared.option.Option.{Option}
use Rattle.std.proofs.lemmas.List.Elements.{filter-append}
use Rattle.sg_facts.specs.sg_base.declared.call.Call.{Call}
use Rattle.sg_facts.specs.declared.entry.Entry.{Entry}
use Rattle.sg_facts.specs.Facts.{Facts, fun_at}
use Rattle.sg_facts.specs.Interface.{Declared}
use Rattle.sg_clients.specs.sg_hist.Clients.{calls_of}
use Rattle.sg_plain.specs.Calls.{call_after, resolved_by, script_calls}
use Rattle.sg_plain.specs.Inside.Turns.{resolved}
use Rattle.sg_plain.specs.Promises.{AreFirstCalls}
use Rattle.sg_script.specs.declared.script.Script.{Script}
use Rattle.sg_script.specs.declared.script.ScriptCall.{ScriptCall}
use Rattle.sg_clients.specs.WorldView.{Seat, seat_in}
use Rattle.sg_plain.specs.Script.{desc_among, values_of}
use Rattle.sg_clients.proofs.Lines.{same_or_other}
use Rattle.sg_facts.proofs.Replaying.Found.{other_test, same_test}
use Rattle.sg_plain.specs.Playing.Callers.{AreCallers, EntersCall, EntersNothing, IsCaller, KeepsCall, StepsOn}
use Rattle.sg_plain.specs.Playing.Playable.{IsPlayable}
use Rattle.sg_plain.proofs.Playing.Resolving.{first_grown, first_more, first_same, fits_at, resolved_more}

-- ---- entries of a client

pub own_more : (history : List Entry) (e : Entry) (client : ℕ) → e.call.client ≡ client → calls_of (history ++ e ∷ []) client ≡ calls_of history client ++ e ∷ []
own_more history e client its =
    filter-append (λ x. x.call.client == client) history (e ∷ []) ∙ ap (λ b. calls_of history client ++ cond b (e ∷ []) []) (same_test e.call.client client its)

pub others_same : (history : List Entry) (e : Entry) (client : ℕ) → e.call.client ≢ client → calls_of (history ++ e ∷ []) client ≡ calls_of history client
others_same history e client other =
    filter-append (λ x. x.call.client == client) history (e ∷ []) ∙ ap (λ b. calls_of history client ++ cond b (e ∷ []) []) (other_test e.call.client client other)
    ∙ append-nil (calls_of history client)

-- ---- the next call

-- where a client has a next call, it is one of the script's, resolved
pub record IsNext (facts : Facts) (script : Script) (history : List Entry) (client done : ℕ) (call : Call) : Type 0 where
  pub written : ScriptCall
  pub there : slice_get (script_calls script client) done ≡ Some written
  pub is : call ≡ resolved_by facts history client (done + 1) written

next_by : (facts : Facts) (script : Script) (history : List Entry) (client done : ℕ) (call : Call) (found : Option ScriptCall) → slice_get (script_calls script client) done ≡ found
    → resolved facts history client (done + 1) found ≡ Some call → IsNext facts script history client done call
next_by facts script history client done call None there is = absurd (cc is)
next_by facts script history client done call (Some c) there is = record { written = c; there = there; is = cc (sym is) }

pub next_of : (facts : Facts) (script : Script) (history : List Entry) (client done : ℕ) (call : Call) → call_after facts script history client done ≡ Some call → IsNext facts script history client done call
next_of facts script history client done call is = next_by facts script history client done call (slice_get (script_calls script client) done) refl is

-- a next call is its client's, under the next number
pub its_client : (facts : Facts) (script : Script) (history : List Entry) (client done : ℕ) (call : Call) → call_after facts script history client done ≡ Some call → call.client ≡ client
its_client facts script history client done call is = ap (λ c. c.client) (next_of facts script history client done call is).is

-- ---- no entry

module _ (facts : Facts) (script : Script) (history now : List Entry) (seats later : List Seat) where
  caller_stays : (client : ℕ) → calls_of now client ≡ calls_of history client → KeepsCall (seat_in seats client) (seat_in later client)
      → IsCaller facts script history client (seat_in seats client) → IsCaller facts script now client (seat_in later client)
  caller_stays client same keeps is = record {
    made = subst (λ es. AreFirstCalls facts now client 1 es (script_calls script client)) (sym same) (first_same facts history now client 1 (calls_of history client) (script_calls script client) same is.made);
    count = keeps.seq ∙ is.count ∙ ap length (sym same);
    next = λ offers.
        ap (λ own. resolved facts now client (length own + 1) (slice_get (script_calls script client) (length own))) same
        ∙ again (slice_get (script_calls script client) (length (calls_of history client)))
        ∙ is.next (keeps.offered offers) ∙ ap (λ c. Some c) (sym keeps.call);
  }
    where
      again : (found : Option ScriptCall) → resolved facts now client (length (calls_of history client) + 1) found ≡ resolved facts history client (length (calls_of history client) + 1) found
      again None = refl
      again (Some c) = ap (λ own. Some (record {
        client = client;
        seq = length (calls_of history client) + 1;
        fun = c.fun;
        desc = desc_among own (fun_at facts.funs c.fun).kinds c.args;
        args = values_of own (fun_at facts.funs c.fun).kinds c.args;
      })) same

  pub callers_stay : (c : ℕ) → AreCallers facts script history seats → EntersNothing history seats c now later → AreCallers facts script now later
  callers_stay c are enters = record {
    each = λ client first last.
        caller_stays client (ap (λ h. calls_of h client) enters.same) (enters.each client first) (are.each client first (subst (λ n. client ≤ n) enters.clients last));
    none_else = λ client some.
        subst (λ n. (1 ≤ client) × (client ≤ n)) (sym enters.clients) (are.none_else client (λ none. some (ap (λ h. calls_of h client) enters.same ∙ none)));
  }

-- ---- an entry

module _ (i : Declared) (script : Script) (playable : IsPlayable i script) (history now : List Entry) (seats later : List Seat) (c : ℕ) (first : 1 ≤ c) (last : c ≤ length seats)
    (are : AreCallers i.facts script history seats) (enters : EntersCall history seats c now later) where
  abbrev entry : Entry
  entry = record { call = (seat_in seats c).call; reply = enters.reply }

  next_here : IsNext i.facts script history c (length (calls_of history c)) (seat_in seats c).call
  next_here = next_of i.facts script history c (length (calls_of history c)) (seat_in seats c).call ((are.each c first last).next enters.offered)

  pub its_entry : entry.call.client ≡ c
  its_entry = ap (λ x. x.client) next_here.is

  grown : calls_of now c ≡ calls_of history c ++ entry ∷ []
  grown = ap (λ h. calls_of h c) enters.entered ∙ own_more history entry c its_entry

  caller_enters : IsCaller i.facts script now c (seat_in later c)
  caller_enters =
      let own = calls_of history c in
      let calls = script_calls script c in
      let fits = fits_at i 1 calls (length own) next_here.written (playable.fit c) next_here.there in
      record {
        made = subst (λ es. AreFirstCalls i.facts now c 1 es calls) (sym grown)
            (first_more i.facts now c 1 own calls entry next_here.written
            (first_grown i history now entry c 1 own calls grown (playable.fit c) (omega arith) (are.each c first last).made)
            next_here.there
            (next_here.is ∙ ap (λ n. resolved_by i.facts history c n next_here.written) (omega arith)
            ∙ sym (resolved_more i history now entry c (1 + length own) next_here.written grown (omega arith) fits)));
        count = enters.number ∙ ap (λ x. x.seq) next_here.is ∙ sym (ap length grown ∙ length-append own (entry ∷ []));
        next = λ offers. absurd (cc (sym offers ∙ enters.answered));
      }

  apart_from : (client : ℕ) → client ≢ c → calls_of now client ≡ calls_of history client
  apart_from client other = ap (λ h. calls_of h client) enters.entered ∙ others_same history entry client (λ same. other (sym same ∙ its_entry))

  pub callers_enter : AreCallers i.facts script now later
  callers_enter = record {
    each = λ client from to. by client from (subst (λ n. client ≤ n) enters.clients to) (same_or_other client c);
    none_else = λ client some. subst (λ n. (1 ≤ client) × (client ≤ n)) (sym enters.clients) (there client some (same_or_other client c));
  }
    where
      by : (client : ℕ) → 1 ≤ client → client ≤ length seats → (client ≡ c) ⊎ (client ≢ c) → IsCaller i.facts script now client (seat_in later client)
      by client from to (inl same) = subst (λ n. IsCaller i.facts script now n (seat_in later n)) (sym same) caller_enters
      by client from to (inr other) = caller_stays i.facts script history now seats later client (apart_from client other) (enters.others client from other) (are.each client from to)

      there : (client : ℕ) → calls_of now client ≢ [] → (client ≡ c) ⊎ (client ≢ c) → (1 ≤ client) × (client ≤ length seats)
      there client some (inl same) = subst (λ n. (1 ≤ n) × (n ≤ length seats)) (sym same) (first, last)
      there client some (inr other) = are.none_else client (λ none. some (apart_from client other ∙ none))

-- a step of a client
pub callers_step : (i : Declared) (script : Script) (history now : List Entry) (seats later : List Seat) (c : ℕ) → IsPlayable i script → 1 ≤ c → c ≤ length seats
    → AreCallers i.facts script history seats → StepsOn history seats c now later → AreCallers i.facts script now later
callers_step i script history now seats later c playable first last are (inl enters) = callers_stay i.facts script history now seats later c are enters
callers_step i script history now seats later c playable first last are (inr enters) = callers_enter i script playable history now seats later c first last are enters

-- ---- an offer

-- a client offers its next call under its number, and the others keep theirs
pub callers_offer : (facts : Facts) (script : Script) (history : List Entry) (seats later : List Seat) (c : ℕ) → AreCallers facts script history seats → length later ≡ length seats
    → call_after facts script history c (length (calls_of history c)) ≡ Some (seat_in later c).call
    → (seat_in later c).seq ≡ (seat_in seats c).seq
    → ((client : ℕ) → 1 ≤ client → client ≤ length seats → client ≢ c → seat_in later client ≡ seat_in seats client) → AreCallers facts script history later
callers_offer facts script history seats later c are clients next number others = record {
  each = λ client first last. by client first (subst (λ n. client ≤ n) clients last) (same_or_other client c);
  none_else = λ client some. subst (λ n. (1 ≤ client) × (client ≤ n)) (sym clients) (are.none_else client some);
}
  where
    by : (client : ℕ) → 1 ≤ client → client ≤ length seats → (client ≡ c) ⊎ (client ≢ c) → IsCaller facts script history client (seat_in later client)
    by client first last (inl same) = subst (λ n. IsCaller facts script history n (seat_in later n)) (sym same)
        (let is = are.each c (subst (λ n. 1 ≤ n) same first) (subst (λ n. n ≤ length seats) same last) in
        record { made = is.made; count = number ∙ is.count; next = λ offers. next })
    by client first last (inr other) = subst (IsCaller facts script history client) (sym (others client first last other)) (are.each client first last)
