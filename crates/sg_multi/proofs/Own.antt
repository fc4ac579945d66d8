-- The script of what each client called at one member, with numbers in place of `$k`, where a client calls once more.
use Rattle.std.proofs.Common.{◌≡◌, ◌≢◌, ◌⊎◌, ℕ, zero, suc, ◌+◌, ◌-◌, ◌<◌, ◌≤◌, Bool, true, false, cond, List, [], ◌∷◌, ◌++◌, Some, length, map, take, refl, sym, ◌∙◌, ap, subst, inl, inr, arith, length-append}
use Rattle.std.specs.Prelude.{◌==◌, ◌&&◌, slice_get}
use Rattle.std.proofs.lemmas.Bool.{and_parts}
use Rattle.sg_facts.specs.declared.entry.Entry.{Entry}
use Rattle.sg_facts.specs.declared.shape.Kind.{Kind}
use Rattle.sg_facts.specs.declared.shape.Kind.TheVariants.{Desc, Parent, Word as IsWord, Text as IsText}
use Rattle.sg_facts.specs.Facts.{Facts, fun_at}
use Rattle.sg_facts.specs.Interface.{Declared, declares}
use Rattle.sg_facts.specs.Limits.{last_client, most_script_calls}
use Rattle.sg_facts.proofs.Replaying.Found.{other_test, same_test}
use Rattle.sg_multi.proofs.sg_sim.sg_play.sg_plain.sg_clients.Lines.{same_or_other}
use Rattle.sg_multi.specs.sg_sim.sg_plain.Calls.{ascending_from, most_client, part_of, script_calls}
use Rattle.sg_multi.specs.sg_sim.sg_plain.Inside.Turns.{resolved}
use Rattle.sg_multi.specs.sg_sim.sg_plain.Playing.Callers.{IsCaller}
use Rattle.sg_multi.specs.sg_sim.sg_plain.Playing.Playable.{AreClients, IsPlayable}
use Rattle.sg_multi.specs.sg_sim.sg_plain.Playing.Plays.{IsPlaying}
use Rattle.sg_multi.specs.sg_sim.sg_plain.Playing.Turns.{is_free_phase}
use Rattle.sg_multi.specs.sg_sim.sg_plain.Promises.{AreFirstCalls}
use Rattle.sg_multi.specs.sg_sim.sg_plain.Script.{arg_fits, arg_value, args_fit, call_fits, calls_fit, desc_among, id_of_call, value_of, values_of}
use Rattle.sg_multi.specs.sg_sim.sg_play.sg_hist.Clients.{calls_of}
use Rattle.sg_multi.specs.sg_sim.sg_script.declared.script.Arg.{Arg}
use Rattle.sg_multi.specs.sg_sim.sg_script.declared.script.Arg.TheVariants.{Number, Text, Back}
use Rattle.sg_multi.specs.sg_sim.sg_script.declared.script.Script.{Script}
use Rattle.sg_multi.specs.sg_sim.sg_script.declared.script.ScriptCall.{ScriptCall}
use Rattle.sg_multi.specs.sg_sim.sg_clients.WorldView.{Seat, is_offered, seat_in}
use Rattle.sg_multi.specs.sg_sim.sg_clients.declared.phase.Phase.{Phase}
use Rattle.sg_multi.specs.sg_sim.sg_clients.declared.phase.Phase.TheVariants.{Idle, Asked, Held, Receipted, Blocked, Left}

-- ---- numbers in place of `$k`

-- an argument, where `$k` is the descriptor that the k-th of these entries was given
abbrev pub literal : List Entry → Arg → Arg
literal own arg = elim arg [ Number n ↦ Number n | Text t ↦ Text t | Back k ↦ Number (id_of_call own k) ]

abbrev pub literal_call : List Entry → ScriptCall → ScriptCall
literal_call own c = record { fun = c.fun; args = map (literal own) c.args }

module _ (own es : List Entry) where
  arg_literal : (a : Arg) → arg_value es (literal own a) ≡ arg_value own a
  arg_literal (Number n) = refl
  arg_literal (Text t) = refl
  arg_literal (Back k) = refl

  value_literal : (a : Arg) → value_of es (literal own a) ≡ value_of own a
  value_literal (Number n) = refl
  value_literal (Text t) = refl
  value_literal (Back k) = refl

  pub desc_literal : (kinds : List Kind) (args : List Arg) → desc_among es kinds (map (literal own) args) ≡ desc_among own kinds args
  desc_literal [] args = refl
  desc_literal (k ∷ kinds) [] = refl
  desc_literal (Desc ∷ kinds) (a ∷ args) = arg_literal a
  desc_literal (Parent ∷ kinds) (a ∷ args) = arg_literal a
  desc_literal (IsWord ∷ kinds) (a ∷ args) = desc_literal kinds args
  desc_literal (IsText ∷ kinds) (a ∷ args) = desc_literal kinds args

  pub values_literal : (kinds : List Kind) (args : List Arg) → values_of es kinds (map (literal own) args) ≡ values_of own kinds args
  values_literal [] args = refl
  values_literal (k ∷ kinds) [] = refl
  values_literal (Desc ∷ kinds) (a ∷ args) = values_literal kinds args
  values_literal (Parent ∷ kinds) (a ∷ args) = values_literal kinds args
  values_literal (IsWord ∷ kinds) (a ∷ args) = ap (λ v. v ∷ values_of es kinds (map (literal own) args)) (value_literal a) ∙ ap (λ vs. value_of own a ∷ vs) (values_literal kinds args)
  values_literal (IsText ∷ kinds) (a ∷ args) = ap (λ v. v ∷ values_of es kinds (map (literal own) args)) (value_literal a) ∙ ap (λ vs. value_of own a ∷ vs) (values_literal kinds args)

fit_literal : (own : List Entry) (n m : ℕ) (kind : Kind) (a : Arg) → arg_fits n kind a ≡ true → arg_fits m kind (literal own a) ≡ true
fit_literal own n m Desc (Number k) fits = refl
fit_literal own n m Desc (Text t) fits = absurd (cc fits)
fit_literal own n m Desc (Back k) fits = refl
fit_literal own n m Parent (Number k) fits = refl
fit_literal own n m Parent (Text t) fits = absurd (cc fits)
fit_literal own n m Parent (Back k) fits = refl
fit_literal own n m IsWord (Number k) fits = refl
fit_literal own n m IsWord (Text t) fits = absurd (cc fits)
fit_literal own n m IsWord (Back k) fits = refl
fit_literal own n m IsText (Number k) fits = absurd (cc fits)
fit_literal own n m IsText (Text t) fits = refl
fit_literal own n m IsText (Back k) fits = absurd (cc fits)

fits_literal : (own : List Entry) (n m : ℕ) (kinds : List Kind) (args : List Arg) → args_fit n kinds args ≡ true → args_fit m kinds (map (literal own) args) ≡ true
fits_literal own n m [] [] fits = refl
fits_literal own n m [] (a ∷ args) fits = absurd (cc fits)
fits_literal own n m (k ∷ kinds) [] fits = absurd (cc fits)
fits_literal own n m (k ∷ kinds) (a ∷ args) fits =
    let both = and_parts (arg_fits n k a) (args_fit n kinds args) fits in
    ap (λ b. b && args_fit m kinds (map (literal own) args)) (fit_literal own n m k a both.0) ∙ fits_literal own n m kinds args both.1

-- it fits under any number
pub call_literal : (i : Declared) (own : List Entry) (n m : ℕ) (c : ScriptCall) → call_fits i n c ≡ true → call_fits i m (literal_call own c) ≡ true
call_literal i own n m c fits =
    let both = and_parts (declares i c.fun) (args_fit n (fun_at i.facts.funs c.fun).kinds c.args) fits in
    ap (λ b. b && args_fit m (fun_at i.facts.funs c.fun).kinds (map (literal own) c.args)) both.0 ∙ fits_literal own n m (fun_at i.facts.funs c.fun).kinds c.args both.1

-- ---- a client's calls are replaced

abbrev replaced : ℕ → List ScriptCall → ℕ × List ScriptCall → ℕ × List ScriptCall
replaced client calls p = (p.0, cond (p.0 == client) calls p.1)

abbrev pub with_calls : ℕ → List ScriptCall → List (ℕ × List ScriptCall) → List (ℕ × List ScriptCall)
with_calls client calls clients = map (replaced client calls) clients

module _ (client : ℕ) (calls : List ScriptCall) where
  part_here : (n k : ℕ) (clients : List (ℕ × List ScriptCall)) → map (λ c. c.0) clients ≡ ascending_from k n → k ≤ client → client < k + n → part_of client (with_calls client calls clients) ≡ calls
  part_here zero k clients are from to = absurd (omega (arith, from, to))
  part_here (suc n) k [] are from to = absurd (cc are)
  part_here (suc n) k (c ∷ clients) are from to = by (same_or_other c.0 client) (λ above. part_here n (k + 1) clients rest above (omega (arith, to)))
    where
      number : c.0 ≡ k
      number = cc are

      rest : map (λ (c : ℕ × List ScriptCall). c.0) clients ≡ ascending_from (k + 1) n
      rest = cc are

      by : (c.0 ≡ client) ⊎ (c.0 ≢ client) → (k + 1 ≤ client → part_of client (with_calls client calls clients) ≡ calls) → part_of client (with_calls client calls (c ∷ clients)) ≡ calls
      by (inl same) more =
          ap (λ b. cond b (cond (c.0 == client) calls c.1) (part_of client (with_calls client calls clients))) (same_test c.0 client same)
          ∙ ap (λ b. cond b calls c.1) (same_test c.0 client same)
      by (inr other) more =
          ap (λ b. cond b (cond (c.0 == client) calls c.1) (part_of client (with_calls client calls clients))) (other_test c.0 client other)
          ∙ more (let apart : k ≢ client = λ same. other (number ∙ same) in omega (arith, from, apart))

  part_there : (d : ℕ) (clients : List (ℕ × List ScriptCall)) → d ≢ client → part_of d (with_calls client calls clients) ≡ part_of d clients
  part_there d [] other = refl
  part_there d (c ∷ clients) other = by (same_or_other c.0 d) (part_there d clients other)
    where
      by : (c.0 ≡ d) ⊎ (c.0 ≢ d) → part_of d (with_calls client calls clients) ≡ part_of d clients → part_of d (with_calls client calls (c ∷ clients)) ≡ part_of d (c ∷ clients)
      by (inl same) rest =
          ap (λ b. cond b (cond (c.0 == client) calls c.1) (part_of d (with_calls client calls clients))) (same_test c.0 d same)
          ∙ ap (λ b. cond b calls c.1) (other_test c.0 client (λ its. other (sym same ∙ its)))
          ∙ sym (ap (λ b. cond b c.1 (part_of d clients)) (same_test c.0 d same))
      by (inr apart) rest =
          ap (λ b. cond b (cond (c.0 == client) calls c.1) (part_of d (with_calls client calls clients))) (other_test c.0 d apart)
          ∙ rest ∙ sym (ap (λ b. cond b c.1 (part_of d clients)) (other_test c.0 d apart))

  pub numbers_kept : (clients : List (ℕ × List ScriptCall)) → map (λ c. c.0) (with_calls client calls clients) ≡ map (λ c. c.0) clients
  numbers_kept [] = refl
  numbers_kept (c ∷ clients) = ap (λ l. c.0 ∷ l) (numbers_kept clients)

  clients_kept : (above : ℕ) (clients : List (ℕ × List ScriptCall)) → AreClients above clients → AreClients above (with_calls client calls clients)
  clients_kept above [] are = tt
  clients_kept above (c ∷ clients) are = (are.0, are.1, clients_kept c.0 clients are.2)

  most_kept : (clients : List (ℕ × List ScriptCall)) → most_client (with_calls client calls clients) ≡ most_client clients
  most_kept [] = refl
  most_kept (c ∷ []) = refl
  most_kept (c ∷ d ∷ clients) = most_kept (d ∷ clients)

-- ---- lists of calls

first_taken : (facts : Facts) (history : List Entry) (client seq : ℕ) (es : List Entry) (calls more : List ScriptCall) → AreFirstCalls facts history client seq es calls
    → AreFirstCalls facts history client seq es (take (length es) calls ++ more)
first_taken facts history client seq [] calls more are = tt
first_taken facts history client seq (e ∷ es) [] more are = absurd are
first_taken facts history client seq (e ∷ es) (c ∷ calls) more are = (are.0, first_taken facts history client (seq + 1) es calls more are.1)

as_many : (facts : Facts) (history : List Entry) (client seq : ℕ) (es : List Entry) (calls : List ScriptCall) → AreFirstCalls facts history client seq es calls → length (take (length es) calls) ≡ length es
as_many facts history client seq [] calls are = refl
as_many facts history client seq (e ∷ es) [] are = absurd are
as_many facts history client seq (e ∷ es) (c ∷ calls) are = ap suc (as_many facts history client (seq + 1) es calls are.1)

fit_taken : (i : Declared) (seq n : ℕ) (calls : List ScriptCall) → calls_fit i seq calls ≡ true → calls_fit i seq (take n calls) ≡ true
fit_taken i seq zero calls fit = refl
fit_taken i seq (suc n) [] fit = refl
fit_taken i seq (suc n) (c ∷ calls) fit =
    let both = and_parts (call_fits i seq c) (calls_fit i (seq + 1) calls) fit in
    ap (λ b. b && calls_fit i (seq + 1) (take n calls)) both.0 ∙ fit_taken i (seq + 1) n calls both.1

fit_pushed : (i : Declared) (seq : ℕ) (calls : List ScriptCall) (c : ScriptCall) → calls_fit i seq calls ≡ true → call_fits i (seq + length calls) c ≡ true → calls_fit i seq (calls ++ c ∷ []) ≡ true
fit_pushed i seq [] c fit own = ap (λ b. b && true) (subst (λ n. call_fits i n c ≡ true) (let none_more : seq + 0 ≡ seq = omega arith in none_more) own)
fit_pushed i seq (d ∷ calls) c fit own =
    let both = and_parts (call_fits i seq d) (calls_fit i (seq + 1) calls) fit in
    ap (λ b. b && calls_fit i (seq + 1) (calls ++ c ∷ [])) both.0 ∙ fit_pushed i (seq + 1) calls c both.1 (subst (λ n. call_fits i n c ≡ true) (omega arith) own)

at_end : (calls : List ScriptCall) (c : ScriptCall) → slice_get (calls ++ c ∷ []) (length calls) ≡ Some c
at_end [] c = refl
at_end (d ∷ calls) c = at_end calls c

-- ---- the script of a member

free_offers : (p : Phase) → is_free_phase p ≡ true → is_offered p ≡ false
free_offers Idle free = refl
free_offers Left free = refl
free_offers Asked free = absurd (cc free)
free_offers Held free = absurd (cc free)
free_offers Receipted free = absurd (cc free)
free_offers Blocked free = absurd (cc free)

-- without a setup a client's calls are those of its part
pub calls_alone : (script : Script) (d : ℕ) → script.setup ≡ [] → script_calls script d ≡ part_of d script.clients
calls_alone script d none = by (d == 1)
  where
    by : (b : Bool) → cond b script.setup [] ++ part_of d script.clients ≡ part_of d script.clients
    by true = ap (λ l. l ++ part_of d script.clients) none
    by false = refl

module _ (i : Declared) (script : Script) (history : List Entry) (seats : List Seat) (given : List (List ℕ)) (is : IsPlaying i script history seats given) (none : script.setup ≡ [])
    (all : map (λ c. c.0) script.clients ≡ ascending_from 1 (length seats)) (c : ℕ) (first : 1 ≤ c) (last : c ≤ length seats) (free : is_free_phase (seat_in seats c).phase ≡ true) (new : ScriptCall)
    (fits : call_fits i (1 + length (calls_of history c)) new ≡ true) (few : length (calls_of history c) + 1 ≤ most_script_calls) where
  abbrev own : List Entry
  own = calls_of history c

  abbrev calls : List ScriptCall
  calls = take (length own) (script_calls script c) ++ new ∷ []

  -- the script with one call more of the client
  abbrev pub grown : Script
  grown = record script { clients = with_calls c calls script.clients }

  caller : IsCaller i.facts script history c (seat_in seats c)
  caller = is.callers.each c first last

  calls_here : script_calls grown c ≡ calls
  calls_here = calls_alone grown c none ∙ part_here c calls (length seats) 1 script.clients all first (omega (arith, last))

  calls_there : (d : ℕ) → d ≢ c → script_calls grown d ≡ script_calls script d
  calls_there d other = calls_alone grown d none ∙ part_there c calls d script.clients other ∙ sym (calls_alone script d none)

  counted : length (take (length own) (script_calls script c)) ≡ length own
  counted = as_many i.facts history c 1 own (script_calls script c) caller.made

  -- it is the client's next
  pub new_next : slice_get (script_calls grown c) (length own) ≡ Some new
  new_next = ap (λ l. slice_get l (length own)) calls_here ∙ ap (slice_get calls) (sym counted) ∙ at_end (take (length own) (script_calls script c)) new

  fit_here : calls_fit i 1 calls ≡ true
  fit_here = fit_pushed i 1 (take (length own) (script_calls script c)) new (fit_taken i 1 (length own) (script_calls script c) (is.playable.fit c)) (subst (λ n. call_fits i (1 + n) new ≡ true) (sym counted) fits)

  pub grown_playable : IsPlayable i grown
  grown_playable = record {
    fit = λ d. fit d (same_or_other d c);
    few = λ d. within d (same_or_other d c);
    clients = clients_kept c calls 0 script.clients is.playable.clients;
    setup = is.playable.setup;
    turns = is.playable.turns;
  }
    where
      fit : (d : ℕ) → (d ≡ c) ⊎ (d ≢ c) → calls_fit i 1 (script_calls grown d) ≡ true
      fit d (inl same) = subst (λ n. calls_fit i 1 (script_calls grown n) ≡ true) (sym same) (subst (λ l. calls_fit i 1 l ≡ true) (sym calls_here) fit_here)
      fit d (inr other) = subst (λ l. calls_fit i 1 l ≡ true) (sym (calls_there d other)) (is.playable.fit d)

      within : (d : ℕ) → (d ≡ c) ⊎ (d ≢ c) → length (script_calls grown d) ≤ most_script_calls
      within d (inl same) = subst (λ n. length (script_calls grown n) ≤ most_script_calls) (sym same)
          (subst (λ n. n ≤ most_script_calls) (sym (ap (λ (l : List ScriptCall). length l) calls_here ∙ length-append (take (length own) (script_calls script c)) (new ∷ []) ∙ ap (λ n. n + 1) counted)) few)
      within d (inr other) = subst (λ (l : List ScriptCall). length l ≤ most_script_calls) (sym (calls_there d other)) (is.playable.few d)

  pub grown_all : map (λ p. p.0) grown.clients ≡ ascending_from 1 (length seats)
  grown_all = numbers_kept c calls script.clients ∙ all

  pub grown_playing : IsPlaying i grown history seats given
  grown_playing = record {
    playable = grown_playable;
    clients = is.clients ∙ sym (most_kept c calls script.clients);
    callers = record {
      each = λ d from to. by d from to (same_or_other d c);
      none_else = is.callers.none_else;
    };
    first = record { front = is.first.front; all = is.first.all; others = is.first.others };
    have_given = is.have_given;
  }
    where
      by : (d : ℕ) → 1 ≤ d → d ≤ length seats → (d ≡ c) ⊎ (d ≢ c) → IsCaller i.facts grown history d (seat_in seats d)
      by d from to (inl same) = subst (λ n. IsCaller i.facts grown history n (seat_in seats n)) (sym same) (record {
        made = subst (AreFirstCalls i.facts history c 1 own) (sym calls_here) (first_taken i.facts history c 1 own (script_calls script c) (new ∷ []) caller.made);
        count = caller.count;
        next = λ offers. absurd (let none : is_offered (seat_in seats c).phase ≡ false = free_offers (seat_in seats c).phase free in cc (none, offers));
      })
      by d from to (inr other) =
          let was = is.callers.each d from to in
          record {
            made = subst (AreFirstCalls i.facts history d 1 (calls_of history d)) (sym (calls_there d other)) was.made;
            count = was.count;
            next = λ offers. ap (λ l. resolved i.facts history d (length (calls_of history d) + 1) (slice_get l (length (calls_of history d)))) (calls_there d other) ∙ was.next offers;
          }

-- ---- where nothing was called

abbrev pub nothing_called : ℕ → ℕ → List (ℕ × List ScriptCall)
nothing_called k n = map (λ client. (client, [])) (ascending_from k n)

pub nothing_of : (d k n : ℕ) → part_of d (nothing_called k n) ≡ []
nothing_of d k zero = refl
nothing_of d k (suc n) = by (k == d) (nothing_of d (k + 1) n)
  where
    by : (b : Bool) → part_of d (nothing_called (k + 1) n) ≡ [] → cond b [] (part_of d (nothing_called (k + 1) n)) ≡ []
    by true rest = refl
    by false rest = rest

numbers_of : (k n : ℕ) → map (λ c. c.0) (nothing_called k n) ≡ ascending_from k n
numbers_of k zero = refl
numbers_of k (suc n) = ap (λ l. k ∷ l) (numbers_of (k + 1) n)

ascend_so : (above k n : ℕ) → above < k → k + n ≤ last_client + 1 → AreClients above (nothing_called k n)
ascend_so above k zero low high = tt
ascend_so above k (suc n) low high = (low, omega (arith, high), ascend_so k (k + 1) n (omega arith) (omega (arith, high)))

most_of : (k n : ℕ) → 1 ≤ n → most_client (nothing_called k n) ≡ k + n - 1
most_of k zero some = absurd (omega (arith, some))
most_of k (suc zero) some = omega arith
most_of k (suc (suc n)) some = most_of (k + 1) (suc n) (omega arith) ∙ omega arith

abbrev pub empty_script : ℕ → Script
empty_script n = record { setup = []; clients = nothing_called 1 n; schedule = []; stops = [] }

pub empty_all : (n : ℕ) → map (λ c. c.0) (empty_script n).clients ≡ ascending_from 1 n
empty_all n = numbers_of 1 n

pub empty_most : (n : ℕ) → 1 ≤ n → most_client (empty_script n).clients ≡ n
empty_most n some = most_of 1 n some ∙ omega arith

pub empty_playable : (i : Declared) (n : ℕ) → n ≤ last_client → IsPlayable i (empty_script n)
empty_playable i n within = record {
  fit = λ d. subst (λ l. calls_fit i 1 l ≡ true) (sym (calls_alone (empty_script n) d refl ∙ nothing_of d 1 n)) refl;
  few = λ d. subst (λ (l : List ScriptCall). length l ≤ most_script_calls) (sym (calls_alone (empty_script n) d refl ∙ nothing_of d 1 n)) (omega arith);
  clients = ascend_so 0 1 n (omega arith) (omega (arith, within));
  setup = refl;
  turns = refl;
}
