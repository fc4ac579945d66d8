-- A client offers the next call of its script.
use Rattle.std.proofs.Common.{◌≡◌, ◌≢◌, ◌⊎◌, ℕ, zero, suc, ◌+◌, ◌-◌, ◌<◌, ◌≤◌, true, false, cond, List, [], ◌∷◌, Some, length, map, take, refl, sym, ◌∙◌, ap, subst, inl, inr, arith, slice_set}
use Rattle.std.specs.Prelude.{IfSome, None, OnErr, OnOk, nat_lt, slice_get}
use Rattle.std.specs.List.{list_any}
use Rattle.std.specs.declared.option.Option.{Option}
use Rattle.std.specs.declared.result.Result.{Result}
use Rattle.std.specs.declared.result.Result.TheVariants.{Ok, Err}
use Rattle.std.proofs.lemmas.Bool.{and_parts}
use Rattle.sg_facts.specs.sg_base.declared.call.Call.{Call}
use Rattle.sg_facts.specs.sg_base.declared.value.Value.{Value}
use Rattle.sg_facts.specs.declared.entry.Entry.{Entry}
use Rattle.sg_facts.specs.declared.shape.Kind.{Kind}
use Rattle.sg_facts.specs.declared.shape.Kind.TheVariants.{Desc, Parent, Word as IsWord, Text as IsText}
use Rattle.sg_facts.specs.Facts.{fun_at}
use Rattle.sg_facts.specs.Inside.Rows.{is_desc, is_parent}
use Rattle.sg_facts.specs.Interface.{Declared, declares}
use Rattle.sg_facts.specs.Kinds.{AreWords, kinds_fit}
use Rattle.sg_plain.specs.sg_hist.Clients.{calls_of}
use Rattle.sg_plain.specs.sg_hist.Inside.Reads.{desc_of}
use Rattle.sg_plain.specs.Calls.{call_after, script_calls}
use Rattle.sg_plain.specs.Inside.Turns.{resolved}
use Rattle.sg_plain.specs.sg_script.declared.script.Arg.{Arg}
use Rattle.sg_plain.specs.sg_script.declared.script.Arg.TheVariants.{Number, Text, Back}
use Rattle.sg_plain.specs.sg_script.declared.script.Script.{Script}
use Rattle.sg_plain.specs.sg_script.declared.script.ScriptCall.{ScriptCall}
use Rattle.sg_plain.specs.sg_clients.WorldView.{Seat, seat_in}
use Rattle.sg_plain.specs.sg_clients.declared.phase.Phase.{Phase}
use Rattle.sg_plain.specs.sg_clients.declared.phase.Phase.TheVariants.{Idle, Asked, Held, Receipted, Blocked, Left}
use Rattle.sg_plain.specs.Script.{arg_fits, args_fit, call_fits, desc_among, values_of}
use Rattle.sg_plain.specs.Playing.Callers.{handed, is_receipted, is_setting_up}
use Rattle.sg_plain.specs.Playing.Given.{GaveIds, given_in}
use Rattle.sg_plain.specs.Playing.Playable.{IsPlayable}
use Rattle.sg_plain.specs.Playing.Plays.{IsPlaying}
use Rattle.sg_plain.specs.Playing.Turns.{is_free_phase}
use Rattle.sg_plain.proofs.sg_clients.Lines.{length_set, same_or_other, seat_here, seat_there}
use Rattle.sg_plain.proofs.Playing.Playing.{playing_offer}
use Rattle.sg_plain.proofs.Playing.Resolving.{fits_at}
use Rattle.sg_play.specs.NextCall.{IsNextCall}

-- ---- a call that fits

kinds_of : (own : List Entry) (n : ℕ) (kinds : List Kind) (args : List Arg) → args_fit n kinds args ≡ true → kinds_fit kinds (values_of own kinds args) ≡ true
kinds_of own n [] [] fits = refl
kinds_of own n [] (a ∷ args) fits = absurd (cc fits)
kinds_of own n (k ∷ kinds) [] fits = absurd (cc fits)
kinds_of own n (Desc ∷ kinds) (a ∷ args) fits = kinds_of own n kinds args (and_parts (arg_fits n Desc a) _ fits).1
kinds_of own n (Parent ∷ kinds) (a ∷ args) fits = kinds_of own n kinds args (and_parts (arg_fits n Parent a) _ fits).1
kinds_of own n (IsWord ∷ kinds) (Number m ∷ args) fits = kinds_of own n kinds args fits
kinds_of own n (IsWord ∷ kinds) (Text t ∷ args) fits = absurd (cc fits)
kinds_of own n (IsWord ∷ kinds) (Back k ∷ args) fits = kinds_of own n kinds args (and_parts (arg_fits n IsWord (Back k)) _ fits).1
kinds_of own n (IsText ∷ kinds) (Number m ∷ args) fits = absurd (cc fits)
kinds_of own n (IsText ∷ kinds) (Text t ∷ args) fits = kinds_of own n kinds args fits
kinds_of own n (IsText ∷ kinds) (Back k ∷ args) fits = absurd (cc fits)

pub no_desc : (own : List Entry) (kinds : List Kind) (args : List Arg) → list_any is_desc kinds ≡ false → list_any is_parent kinds ≡ false → desc_among own kinds args ≡ 0
no_desc own [] args desc parent = refl
no_desc own (k ∷ kinds) [] desc parent = refl
no_desc own (Desc ∷ kinds) (a ∷ args) desc parent = absurd (cc desc)
no_desc own (Parent ∷ kinds) (a ∷ args) desc parent = absurd (cc parent)
no_desc own (IsWord ∷ kinds) (a ∷ args) desc parent = no_desc own kinds args desc parent
no_desc own (IsText ∷ kinds) (a ∷ args) desc parent = no_desc own kinds args desc parent

there_below : (calls : List ScriptCall) (k : ℕ) (c : ScriptCall) → slice_get calls k ≡ Some c → k < length calls
there_below [] k c there = absurd (cc there)
there_below (d ∷ calls) zero c there = omega arith
there_below (d ∷ calls) (suc k) c there = omega (arith, there_below calls k c there)

-- ---- a client that has no call under way

pub free_handed : (s : Seat) → is_free_phase s.phase ≡ true → handed s ≡ s.seq
free_handed s free = ap (λ b. cond b (s.seq - 1) s.seq) (by s.phase free)
  where
    by : (p : Phase) → is_free_phase p ≡ true → is_receipted p ≡ false
    by Idle free = refl
    by Left free = refl
    by Asked free = absurd (cc free)
    by Held free = absurd (cc free)
    by Receipted free = absurd (cc free)
    by Blocked free = absurd (cc free)

take_whole : (es : List Entry) (n : ℕ) → n ≡ length es → take n es ≡ es
take_whole [] zero is = refl
take_whole [] (suc n) is = absurd (cc is)
take_whole (x ∷ es) zero is = absurd (cc is)
take_whole (x ∷ es) (suc n) is = ap (λ l. x ∷ l) (take_whole es n (omega (arith, is)))

-- ---- the next call

module _ (i : Declared) (script : Script) (playable : IsPlayable i script) (own : List Entry) (c : ℕ) (written : ScriptCall) (there : slice_get (script_calls script c) (length own) ≡ Some written) where
  call_is_fit : call_fits i (1 + length own) written ≡ true
  call_is_fit = fits_at i 1 (script_calls script c) (length own) written (playable.fit c) there

  args_are_fit : args_fit (1 + length own) (fun_at i.facts.funs written.fun).kinds written.args ≡ true
  args_are_fit = (and_parts (declares i written.fun) (args_fit (1 + length own) (fun_at i.facts.funs written.fun).kinds written.args) call_is_fit).1

  module _ (kinds : List Kind) (desc : ℕ) (values : List Value) (kinds_are : kinds ≡ (fun_at i.facts.funs written.fun).kinds)
      (desc_is : desc ≡ desc_among own kinds written.args) (values_are : values ≡ values_of own kinds written.args) (words : AreWords values) where
    abbrev made : Call
    made = record { client = c; seq = length own + 1; fun = written.fun; desc = desc; args = values }

    desc_so : desc ≡ desc_among own (fun_at i.facts.funs written.fun).kinds written.args
    desc_so = desc_is ∙ ap (λ ks. desc_among own ks written.args) kinds_are

    values_so : values ≡ values_of own (fun_at i.facts.funs written.fun).kinds written.args
    values_so = values_are ∙ ap (λ ks. values_of own ks written.args) kinds_are

    made_of : (history : List Entry) → calls_of history c ≡ own → call_after i.facts script history c (length own) ≡ Some made
    made_of history same =
        ap (resolved i.facts history c (length own + 1)) there
        ∙ ap (λ es. Some (record {
          client = c;
          seq = length own + 1;
          fun = written.fun;
          desc = desc_among es (fun_at i.facts.funs written.fun).kinds written.args;
          args = values_of es (fun_at i.facts.funs written.fun).kinds written.args;
        })) same
        ∙ ap (λ d. Some (record {
          client = c;
          seq = length own + 1;
          fun = written.fun;
          desc = d;
          args = values_of own (fun_at i.facts.funs written.fun).kinds written.args;
        })) (sym desc_so)
        ∙ ap (λ vs. Some (record { client = c; seq = length own + 1; fun = written.fun; desc = desc; args = vs })) (sym values_so)

    pub next_is : IsNextCall i script own made
    next_is = record {
      next = λ history same. made_of history same;
      numbered = omega (arith, there_below (script_calls script c) (length own) written there, playable.few c);
      declared = (and_parts (declares i written.fun) (args_fit (1 + length own) (fun_at i.facts.funs written.fun).kinds written.args) call_is_fit).0;
      fits = record {
        args = subst (λ vs. kinds_fit (fun_at i.facts.funs written.fun).kinds vs ≡ true) (sym values_so) (kinds_of own (1 + length own) (fun_at i.facts.funs written.fun).kinds written.args args_are_fit);
        desc = λ no_d no_p. desc_so ∙ no_desc own (fun_at i.facts.funs written.fun).kinds written.args no_d no_p;
      };
      words = words;
    }

-- as many descriptors are given as entries gave them
pub as_many_given : (own : List Entry) (given : List ℕ) → GaveIds own given → length given ≡ length own
as_many_given own given gave = ap (λ (l : List ℕ). length l) (sym gave) ∙ by own
  where
    by : (es : List Entry) → length (map (λ (e : Entry). desc_of e.reply) es) ≡ length es
    by [] = refl
    by (e ∷ es) = ap suc (by es)

-- ---- its offer

module _ (i : Declared) (script : Script) (history : List Entry) (seats : List Seat) (all : List (List ℕ)) (c : ℕ) (first : 1 ≤ c) (last : c ≤ length seats)
    (is : IsPlaying i script history seats all) (free : is_free_phase (seat_in seats c).phase ≡ true) where
  abbrev s : Seat
  s = seat_in seats c

  count : s.seq ≡ length (calls_of history c)
  count = (is.callers.each c first last).count

  -- it was given what all its entries gave
  pub all_given : (given : List ℕ) → given_in all c ≡ given → GaveIds (calls_of history c) given
  all_given given same = subst (GaveIds (calls_of history c)) same
      (subst (λ es. GaveIds es (given_in all c)) (take_whole (calls_of history c) (handed s) (free_handed s free ∙ count)) (is.have_given.each c first last))

  -- its next call, under its number
  pub next_here : (j : Declared) → j ≡ i → (fun desc : ℕ) (values : List Value) → IsNextCall j script (calls_of history c) (record { client = c; seq = length (calls_of history c) + 1; fun = fun; desc = desc; args = values })
      → IsNextCall i script (calls_of history c) (record { client = c; seq = s.seq + 1; fun = fun; desc = desc; args = values })
  next_here j same fun desc values next =
      subst (λ d. IsNextCall d script (calls_of history c) (record { client = c; seq = s.seq + 1; fun = fun; desc = desc; args = values })) same
      (subst (λ n. IsNextCall j script (calls_of history c) (record { client = c; seq = n + 1; fun = fun; desc = desc; args = values })) (sym count) next)

  -- it has no more
  pub none_left : (given : List ℕ) → GaveIds (calls_of history c) given → slice_get (script_calls script c) (length given) ≡ None → call_after i.facts script history c (length (calls_of history c)) ≡ None
  none_left given gave none =
      ap (λ n. resolved i.facts history c (length (calls_of history c) + 1) (slice_get (script_calls script c) n)) (sym (as_many_given (calls_of history c) given gave))
      ∙ ap (resolved i.facts history c (length (calls_of history c) + 1)) none

  module _ (call : Call) (next : call_after i.facts script history c (length (calls_of history c)) ≡ Some call) where
    abbrev asking : Seat
    asking = record s { phase = Asked; call = call }

    here : seat_in (slice_set seats (c - 1) asking) c ≡ asking
    here = seat_here seats c asking first last

    pub offered_playing : (is_setting_up script seats ≡ true → c ≡ 1) → IsPlaying i script history (slice_set seats (c - 1) asking) all
    offered_playing turn = playing_offer i script history seats all c first last turn is (slice_set seats (c - 1) asking) (length_set seats (c - 1) asking)
        (next ∙ ap (λ (x : Seat). Some x.call) (sym here)) (ap (λ (x : Seat). x.seq) here) (ap handed here ∙ sym (free_handed s free))
        (λ client from other. seat_there seats c client asking first from other)

    -- the setup is as far as before
    pub offered_setup : is_setting_up script (slice_set seats (c - 1) asking) ≡ is_setting_up script seats
    offered_setup = ap (λ n. nat_lt n (length script.setup)) (by (same_or_other 1 c))
      where
        by : (1 ≡ c) ⊎ (1 ≢ c) → handed (seat_in (slice_set seats (c - 1) asking) 1) ≡ handed (seat_in seats 1)
        by (inl own) = subst (λ n. handed (seat_in (slice_set seats (c - 1) asking) n) ≡ handed (seat_in seats n)) (sym own) (ap handed here ∙ sym (free_handed s free))
        by (inr other) = ap handed (seat_there seats c 1 asking first (omega arith) other)

-- ---- results

pub some_so : {T : Type 0} (P : T → Type 0) (o : Option T) (x : T) → o ≡ Some x → IfSome o P → P x
some_so P None x is so = absurd (cc is)
some_so P (Some y) x is so = let same : y ≡ x = cc is in subst P same so

pub none_so : {T : Type 0} (o : Option T) → ((x : T) → o ≡ Some x → ⊥) → o ≡ None
none_so None not = refl
none_so (Some x) not = absurd (not x refl)

-- what holds of a success and of a failure holds of a result
pub either_way : {A E X : Type 0} (P Q : Type 0) (r : Result A E) → OnOk r P → OnErr r Q → (P → X) → (Q → X) → X
either_way P Q (Ok a) ok err so not = so ok
either_way P Q (Err e) ok err so not = not err

pub ok_so : {A E : Type 0} (P Q : Type 0) (r : Result A E) → (P → Q) → OnOk r P → OnOk r Q
ok_so P Q (Ok a) so is = so is
ok_so P Q (Err e) so is = tt
