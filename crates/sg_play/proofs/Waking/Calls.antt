-- The calls of a play: entries have the numbers up to their clients', and the call under way of a client is of none of them and fits.
use Rattle.std.proofs.Common.{◌≡◌, ℕ, ◌+◌, ◌<◌, ◌≤◌, Bool, true, false, cond, List, [], ◌∷◌, length, filter, refl, sym, ap, subst, arith}
use Rattle.std.specs.Prelude.{◌==◌, ◌-◌, nat_le}
use Rattle.std.specs.Int.{bit_at}
use Rattle.std.proofs.lemmas.Bool.{and_parts}
use Rattle.std.proofs.lemmas.Bool.Decides.{nat_tests}
use Rattle.sg_facts.specs.sg_base.Lists.{Each}
use Rattle.sg_facts.specs.declared.entry.Entry.{Entry}
use Rattle.sg_facts.specs.Facts.{Facts, fun_at}
use Rattle.sg_facts.specs.Fits.{Fits}
use Rattle.sg_facts.specs.Interface.{Declared, declares}
use Rattle.sg_plain.specs.sg_hist.Clients.{calls_of}
use Rattle.sg_plain.specs.Calls.{script_calls}
use Rattle.sg_plain.specs.Promises.{AreFirstCalls}
use Rattle.sg_plain.specs.Script.{args_fit, calls_fit}
use Rattle.sg_plain.proofs.Playing.Calling.{next_of}
use Rattle.sg_plain.proofs.Playing.Resolving.{fits_at}
use Rattle.sg_plain.specs.Playing.Callers.{IsCaller}
use Rattle.sg_play.proofs.Offering.{no_desc}
use Rattle.sg_world.proofs.sg_recovery_laws.Lists.{each_map}
use Rattle.sg_plain.specs.sg_script.declared.script.Script.{Script}
use Rattle.sg_plain.specs.sg_script.declared.script.ScriptCall.{ScriptCall}
use Rattle.sg_plain.specs.sg_clients.WorldView.{Seat, is_offered}
use Rattle.sg_play.proofs.Waking.Private.{IsFitCall}

-- ---- numbers

numbers_below : (facts : Facts) (history : List Entry) (client seq : ℕ) (es : List Entry) (calls : List ScriptCall) → AreFirstCalls facts history client seq es calls
    → Each (λ e. e.call.seq < seq + length es) es
numbers_below facts history client seq [] calls are = tt
numbers_below facts history client seq (e ∷ es) [] are = absurd are
numbers_below facts history client seq (e ∷ es) (c ∷ calls) are =
    let own : e.call.seq ≡ seq = ap (λ c. c.seq) are.0 in (
      omega (arith, own),
      each_map (λ x. x.call.seq < (seq + 1) + length es) (λ x. x.call.seq < seq + length (e ∷ es)) es (λ x below. omega (arith, below)) (numbers_below facts history client (seq + 1) es calls are.1),
    )

unfiltered : (P : Entry → Type 0) (client : ℕ) (history : List Entry) → Each P (filter (λ e. e.call.client == client) history) → Each (λ e. (e.call.client == client) ≡ true → P e) history
unfiltered P client [] all = tt
unfiltered P client (e ∷ history) all = by (e.call.client == client) refl all (unfiltered P client history)
  where
    by : (b : Bool) → (e.call.client == client) ≡ b → Each P (cond b (e ∷ filter (λ x. x.call.client == client) history) (filter (λ x. x.call.client == client) history))
        → (Each P (filter (λ x. x.call.client == client) history) → Each (λ x. (x.call.client == client) ≡ true → P x) history) → Each (λ x. (x.call.client == client) ≡ true → P x) (e ∷ history)
    by true is each more = ((λ own. each.0), more each.1)
    by false is each more = ((λ own. absurd (cc (is, own))), more each)

-- the entries of a client have no greater number than its last
pub entries_below : (facts : Facts) (script : Script) (history : List Entry) (client : ℕ) (s : Seat) → IsCaller facts script history client s
    → Each (λ e. (e.call.client == client) ≡ true → e.call.seq ≤ s.seq) history
entries_below facts script history client s is =
    unfiltered (λ e. e.call.seq ≤ s.seq) client history
    (each_map (λ e. e.call.seq < 1 + length (calls_of history client)) (λ e. e.call.seq ≤ s.seq) (calls_of history client) (λ e below. omega (arith, below, is.count))
    (numbers_below facts history client 1 (calls_of history client) (script_calls script client) is.made))

-- ---- calls that fit

-- the call under way of a client is of a function of the service
pub fit_call : (i : Declared) (script : Script) (history : List Entry) (client : ℕ) (s : Seat) → Fits i → calls_fit i 1 (script_calls script client) ≡ true → IsCaller i.facts script history client s
    → is_offered s.phase ≡ true → IsFitCall i.facts s.call
fit_call i script history client s fits fit is offers =
    let done = length (calls_of history client) in
    let next = next_of i.facts script history client done s.call (is.next offers) in
    let w = next.written in
    let declared : declares i w.fun ≡ true = (and_parts (declares i w.fun) (args_fit (1 + done) (fun_at i.facts.funs w.fun).kinds w.args) (fits_at i 1 (script_calls script client) done w fit next.there)).0 in
    let one : nat_le 1 w.fun ≡ true = (and_parts (nat_le 1 w.fun) (bit_at i.declared (w.fun - 1) == 1) declared).0 in
    subst (IsFitCall i.facts) (sym next.is) (record {
      first = grind (arith, nat_tests, one);
      last = fits.funs w.fun declared;
      desc = λ desc parent. no_desc (calls_of history client) (fun_at i.facts.funs w.fun).kinds w.args desc parent;
    })
