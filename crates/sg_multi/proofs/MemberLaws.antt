-- A member's world goes on to be that of a play of its own, whatever is done in it.
use Rattle.std.proofs.Common.{◌≡◌, ℕ, ◌+◌, ◌-◌, ◌<◌, ◌≤◌, ◌^◌, true, cond, List, [], ◌∷◌, ◌++◌, length, refl, sym, ◌∙◌, ap, subst, inl, inr, arith, replicate, slice_set}
use Rattle.std.specs.Prelude.{nat_lt}
use Rattle.std.proofs.lemmas.Bool.Decides.{nat_tests}
use Rattle.std.proofs.lemmas.List.{length-replicate}
use Rattle.sg_facts.specs.sg_base.declared.call.Call.{Call}
use Rattle.sg_facts.specs.sg_base.declared.reply.Reply.{Reply}
use Rattle.sg_facts.specs.sg_base.declared.value.Value.{Value}
use Rattle.sg_facts.specs.Facts.{fun_at}
use Rattle.sg_facts.specs.Interface.{declares}
use Rattle.sg_facts.specs.Kinds.{AreWords, FitsKinds}
use Rattle.sg_facts.specs.Legal.{LegalFrom}
use Rattle.sg_facts.specs.Limits.{last_client, most_script_calls}
use Rattle.sg_facts.specs.Object.{empty_object}
use Rattle.sg_multi.proofs.sg_sim.Beginning.{playing_new}
use Rattle.sg_multi.proofs.sg_sim.sg_play.Offering.{next_here, next_is, offered_playing}
use Rattle.sg_multi.proofs.sg_sim.sg_play.Turning.{stepped_handed, stepped_quiet}
use Rattle.sg_multi.proofs.sg_sim.sg_play.Striking.Striking.{striking_new, striking_offer, striking_stepped}
use Rattle.sg_multi.proofs.sg_sim.sg_play.Waking.Shapes.{call_is_next, call_is_own}
use Rattle.sg_multi.proofs.sg_sim.sg_play.Waking.Turned.{stepped}
use Rattle.sg_multi.proofs.sg_sim.sg_play.Waking.Waking.{waking_new, waking_offer}
use Rattle.sg_multi.proofs.sg_sim.sg_play.Withdrawn.{withdrawn_stepped}
use Rattle.sg_multi.proofs.sg_sim.sg_play.sg_world.sg_world_laws.Entered.{numbered_push}
use Rattle.sg_multi.proofs.sg_sim.sg_play.sg_plain.sg_clients.Lines.{length_set}
use Rattle.sg_multi.specs.sg_sim.sg_plain.Calls.{ascending_from, call_after}
use Rattle.sg_multi.specs.sg_sim.sg_plain.Playing.Callers.{IsCaller, handed, is_setting_up}
use Rattle.sg_multi.specs.sg_sim.sg_plain.Playing.Given.{given_in}
use Rattle.sg_multi.specs.sg_sim.sg_plain.Playing.Plays.{IsPlaying}
use Rattle.sg_multi.specs.sg_sim.sg_plain.Playing.Turns.{is_free_phase}
use Rattle.sg_multi.specs.sg_sim.sg_plain.Script.{call_fits, desc_among, values_of}
use Rattle.sg_multi.specs.sg_sim.sg_play.NextCall.{IsNextCall}
use Rattle.sg_multi.specs.sg_sim.sg_play.Recovering.{RecoversSoFar}
use Rattle.sg_multi.specs.sg_sim.sg_play.Turning.{with_call}
use Rattle.sg_multi.specs.sg_sim.sg_plain.Answering.{no_query_waits}
use Rattle.sg_multi.specs.sg_sim.sg_play.Striking.Striking.{IsStriking}
use Rattle.sg_multi.specs.sg_sim.sg_play.Waking.Waking.{IsWaking}
use Rattle.sg_multi.specs.sg_sim.sg_play.sg_hist.Clients.{AreNumbered, calls_of}
use Rattle.sg_multi.specs.sg_sim.sg_play.sg_hist.Inside.Reads.{desc_of}
use Rattle.sg_multi.specs.sg_sim.sg_script.declared.script.Script.{Script}
use Rattle.sg_multi.specs.sg_sim.sg_script.declared.script.ScriptCall.{ScriptCall}
use Rattle.sg_multi.specs.sg_sim.sg_clients.WorldView.{Seat, WorldView, happened, is_offered, new_world, no_seat, offered, seat_in, seat_of}
use Rattle.sg_multi.specs.sg_sim.sg_clients.declared.phase.Phase.{Phase}
use Rattle.sg_multi.specs.sg_sim.sg_clients.declared.phase.Phase.TheVariants.{Asked, Idle, Receipted}
use Rattle.sg_multi.specs.sg_sim.sg_world.declared.did.Did.{Did}
use Rattle.sg_multi.specs.sg_sim.sg_world.declared.did.Did.TheVariants.{Answered, Blocked as Waits, Booted, Loaded, Lost, Replayed, Served, Skipped, Struck}
use Rattle.sg_multi.specs.sg_sim.sg_world.Steps.{AnswersLast, HasStepped, LackedMemory}
use Rattle.sg_multi.specs.sg_sim.sg_world_laws.Setting.{Setting}
use Rattle.sg_multi.specs.Inside.Member.{KeepsMember}
use Rattle.sg_multi.proofs.Stepping.{Answers, Enters, GoesQuietly, goes_quietly, is_answered}
use Rattle.sg_multi.proofs.Own.{empty_all, empty_most, empty_playable, empty_script, grown, grown_all, grown_playing, new_next}

-- without a setup nobody is at it
never_below : (n : ℕ) → nat_lt n 0 ≡ true → ⊥
never_below n is = let wrong : n < 0 = grind (arith, nat_tests) in omega (arith, wrong)

no_turn : (script : Script) (seats : List Seat) (c : ℕ) → script.setup ≡ [] → is_setting_up script seats ≡ true → c ≡ 1
no_turn script seats c none is = absurd (never_below (handed (seat_in seats 1)) (subst (λ l. nat_lt (handed (seat_in seats 1)) (length l) ≡ true) none is))

-- ---- a new world

pub member_new : (z : Setting) (w : WorldView) (n : ℕ) → no_query_waits z.iface.facts ≡ true → 1 ≤ n → n ≤ last_client → w ≡ new_world (replicate n no_seat) → KeepsMember z w
member_new z w n none_waits some within new = subst (KeepsMember z) (sym new) (record {
  script = empty_script n;
  given = replicate n [];
  no_setup = refl;
  all = empty_all n ∙ ap (ascending_from 1) (sym (length-replicate n no_seat));
  playing = subst (λ m. IsPlaying z.iface (empty_script n) [] (replicate m no_seat) (replicate m [])) (empty_most n some) (playing_new z.iface (empty_script n) (empty_playable z.iface n within));
  numbered = tt;
  waking = waking_new z (new_world (replicate n no_seat)) n refl;
  striking = striking_new z (new_world (replicate n no_seat)) n refl;
  none_waits = none_waits;
  none_withdrawn = refl;
})

-- ---- an event is counted, and a step wanted memory

pub member_happened : (z : Setting) (w : WorldView) → KeepsMember z w → KeepsMember z (happened w)
member_happened z w is = record { script = is.script; given = is.given; no_setup = is.no_setup; all = is.all; playing = is.playing; numbered = is.numbered; waking = is.waking; striking = is.striking; none_waits = is.none_waits; none_withdrawn = is.none_withdrawn }

pub member_wanted : (z : Setting) (w : WorldView) (c : ℕ) (now : WorldView) → LackedMemory z w c now → KeepsMember z w → KeepsMember z now
member_wanted z w c now wants is = subst (KeepsMember z) (sym wants.counted)
    (record { script = is.script; given = is.given; no_setup = is.no_setup; all = is.all; playing = is.playing; numbered = is.numbered; waking = is.waking; striking = is.striking; none_waits = is.none_waits; none_withdrawn = is.none_withdrawn })

-- ---- a step

module _ (z : Setting) (w : WorldView) (c : ℕ) (first : 1 ≤ c) (last : c ≤ length w.seats) (is : KeepsMember z w) (before : RecoversSoFar z w) where
  turn : is_setting_up is.script w.seats ≡ true → c ≡ 1
  turn = no_turn is.script w.seats c is.no_setup

  waking_so : (did : Did) (now : WorldView) → RecoversSoFar z now → HasStepped z w c did now → IsWaking z now
  waking_so did now behind steps =
      stepped z is.script w is.given c first last is.playing before is.waking did steps.later now (subst (λ (x : WorldView). LegalFrom z.iface z.ask empty_object x.history) steps.counted behind.legal) steps.steps steps.counted

  striking_so : (did : Did) (now : WorldView) → HasStepped z w c did now → IsStriking z now
  striking_so did now steps = striking_stepped z is.script w is.given c first last is.playing before is.none_withdrawn is.none_waits is.waking is.striking did steps.later now steps.steps steps.counted

  caller : IsCaller z.iface.facts is.script w.history c (seat_of w c)
  caller = is.playing.callers.each c first last

  its : is_offered (seat_of w c).phase ≡ true → (seat_of w c).call.client ≡ c
  its = call_is_own z.iface.facts is.script w.history c (seat_of w c) caller

  numbered_same : (now : WorldView) → now.history ≡ w.history → AreNumbered [] now.history
  numbered_same now same = subst (AreNumbered []) (sym same) is.numbered

  numbered_more : (p : Phase) (reply : Reply) (now : WorldView) → Enters w c p reply now → AreNumbered [] now.history
  numbered_more p reply now e =
      let call = (seat_of w c).call in
      subst (AreNumbered []) (sym e.entered) (numbered_push [] w.history (record { call = call; reply = reply }) is.numbered
      (call_is_next z.iface.facts is.script w.history c (seat_of w c) caller e.offered ∙ ap (λ n. n + 1) caller.count ∙ ap (λ n. length (calls_of w.history n) + 1) (sym (its e.offered))))

  keeps_with : (did : Did) (now : WorldView) (given : List (List ℕ)) → RecoversSoFar z now → HasStepped z w c did now → AreNumbered [] now.history → IsPlaying z.iface is.script now.history now.seats given → KeepsMember z now
  keeps_with did now given behind steps numbered playing = record {
    script = is.script;
    given = given;
    no_setup = is.no_setup;
    all = is.all ∙ ap (ascending_from 1) (is.playing.clients ∙ sym playing.clients);
    playing = playing;
    numbered = numbered;
    waking = waking_so did now behind steps;
    striking = striking_so did now steps;
    none_waits = is.none_waits;
    none_withdrawn = withdrawn_stepped z w c did now steps ∙ is.none_withdrawn;
  }

  quiet : (did : Did) (now : WorldView) → ((reply : Reply) → did ≡ Answered reply → ⊥) → RecoversSoFar z now → HasStepped z w c did now → KeepsMember z now
  quiet did now none behind steps = keeps_with did now is.given behind steps (by (goes_quietly z w c first last its did now none steps)) (stepped_quiet z is.script w is.given c first last turn is.playing did now none steps)
    where
      by : GoesQuietly w c now → AreNumbered [] now.history
      by (inl q) = numbered_same now q.same
      by (inr (reply, e)) = numbered_more Receipted reply now e

  pub member_stepped : (did : Did) (now : WorldView) → RecoversSoFar z now → HasStepped z w c did now → AnswersLast now c did → KeepsMember z now
  member_stepped Skipped now behind steps last_is = quiet Skipped now (λ reply answered. cc answered) behind steps
  member_stepped Struck now behind steps last_is = quiet Struck now (λ reply answered. cc answered) behind steps
  member_stepped Booted now behind steps last_is = quiet Booted now (λ reply answered. cc answered) behind steps
  member_stepped Replayed now behind steps last_is = quiet Replayed now (λ reply answered. cc answered) behind steps
  member_stepped Loaded now behind steps last_is = quiet Loaded now (λ reply answered. cc answered) behind steps
  member_stepped Served now behind steps last_is = quiet Served now (λ reply answered. cc answered) behind steps
  member_stepped Waits now behind steps last_is = quiet Waits now (λ reply answered. cc answered) behind steps
  member_stepped Lost now behind steps last_is = quiet Lost now (λ reply answered. cc answered) behind steps
  member_stepped (Answered reply) now behind steps last_is =
      keeps_with (Answered reply) now (slice_set is.given (c - 1) (given_in is.given c ++ desc_of reply ∷ [])) behind steps (by (is_answered z w c first last its reply now steps))
      (stepped_handed z is.script w is.given c first last turn is.playing reply now steps last_is)
    where
      by : Answers w c reply now → AreNumbered [] now.history
      by (inl h) = numbered_same now h.same
      by (inr e) = numbered_more Idle reply now e

-- ---- an offer

-- what is asked of a call that is offered in a world
pub record MayBeOffered (z : Setting) (w : WorldView) (c : ℕ) (call : Call) : Type 0 where
  pub numbered : (seat_of w c).seq + 1 < 2 ^ 32
  pub declared : declares z.iface call.fun ≡ true
  pub fits : FitsKinds z.iface.facts call
  pub words : AreWords call.args
  pub keeps : KeepsMember z (happened (offered w c call))

module _ (z : Setting) (w : WorldView) (c : ℕ) (first : 1 ≤ c) (last : c ≤ length w.seats) (is : KeepsMember z w) (free : is_free_phase (seat_of w c).phase ≡ true) (new : ScriptCall)
    (fits : call_fits z.iface (1 + length (calls_of w.history c)) new ≡ true) (few : length (calls_of w.history c) + 1 ≤ most_script_calls) where
  abbrev later : Script
  later = grown z.iface is.script w.history w.seats is.given is.playing is.no_setup is.all c first last free new fits few

  playing_later : IsPlaying z.iface later w.history w.seats is.given
  playing_later = grown_playing z.iface is.script w.history w.seats is.given is.playing is.no_setup is.all c first last free new fits few

  module _ (desc : ℕ) (values : List Value) (desc_is : desc ≡ desc_among (calls_of w.history c) (fun_at z.iface.facts.funs new.fun).kinds new.args)
      (values_are : values ≡ values_of (calls_of w.history c) (fun_at z.iface.facts.funs new.fun).kinds new.args) (words : AreWords values) where
    abbrev call : Call
    call = record { client = c; seq = (seat_of w c).seq + 1; fun = new.fun; desc = desc; args = values }

    next : IsNextCall z.iface later (calls_of w.history c) call
    next = next_here z.iface later w.history w.seats is.given c first last playing_later free z.iface refl new.fun desc values
        (next_is z.iface later playing_later.playable (calls_of w.history c) c new (new_next z.iface is.script w.history w.seats is.given is.playing is.no_setup is.all c first last free new fits few)
        (fun_at z.iface.facts.funs new.fun).kinds desc values refl desc_is values_are words)

    pub may_be_offered : MayBeOffered z w c call
    may_be_offered = record {
      numbered = subst (λ n. n + 1 < 2 ^ 32) (sym (playing_later.callers.each c first last).count) next.numbered;
      declared = next.declared;
      fits = next.fits;
      words = next.words;
      keeps = record {
        script = later;
        given = is.given;
        no_setup = is.no_setup;
        all = grown_all z.iface is.script w.history w.seats is.given is.playing is.no_setup is.all c first last free new fits few
            ∙ ap (ascending_from 1) (sym (length_set w.seats (c - 1) (record (seat_of w c) { phase = Asked; call = call })));
        playing = offered_playing z.iface later w.history w.seats is.given c first last playing_later free call (next.next w.history refl) (no_turn later w.seats c is.no_setup);
        waking = subst (λ o. IsWaking z (with_call w c o)) (next.next w.history refl)
            (subst (λ b. IsWaking z (cond b (with_call w c (call_after z.iface.facts later w.history c (length (calls_of w.history c)))) w)) free (waking_offer z later w is.given c playing_later first last is.waking));
        striking = subst (λ o. IsStriking z (with_call w c o)) (next.next w.history refl)
            (subst (λ b. IsStriking z (cond b (with_call w c (call_after z.iface.facts later w.history c (length (calls_of w.history c)))) w)) free (striking_offer z later w c first last is.striking));
        numbered = is.numbered;
        none_waits = is.none_waits;
        none_withdrawn = is.none_withdrawn;
      };
    }
