-- A play keeps what it keeps, at a turn in its order or out of it, and where a turn wants memory.
use Rattle.std.proofs.Common.{◌≡◌, ◌⊎◌, ℕ, ◌≤◌, Bool, true, false, cond, List, [], length, refl, sym, ◌∙◌, ap, subst, inl, inr, arith, replicate, None, Some}
use Rattle.std.specs.declared.option.Option.{Option}
use Rattle.std.specs.Prelude.{nat_lt}
use Rattle.sg_facts.specs.sg_base.declared.call.Call.{Call}
use Rattle.sg_facts.specs.Facts.{Facts}
use Rattle.sg_play.proofs.Following.Following.{following_happened, following_new, following_offer, following_taken, following_wanted}
use Rattle.sg_play.proofs.Withdrawn.{withdrawn_stepped, withdrawn_wanted}
use Rattle.sg_play.specs.Following.Follows.{IsFollowing}
use Rattle.sg_play.specs.Following.Stages.{IsNextTurn, stage_of}
use Rattle.sg_play.proofs.GoingOn.{goes_of, playing_of}
use Rattle.sg_play.proofs.SettingUp.{offer_notes_none, setting_up_new, setting_up_still, setting_up_turn, was_on}
use Rattle.sg_play.specs.GoingOn.{MayGoOn}
use Rattle.sg_play.specs.SettingUp.{IsSettingUpFirst}
use Rattle.sg_play.specs.sg_hist.Clients.{calls_of}
use Rattle.sg_play.specs.sg_hist.Reading.{items_of}
use Rattle.sg_play.specs.sg_plain.Playing.Callers.{is_setting_up}
use Rattle.sg_play.specs.sg_plain.Playing.Given.{HaveGiven}
use Rattle.sg_play.specs.sg_plain.Calls.{call_after, most_client, script_calls}
use Rattle.sg_play.specs.Turning.{StepsInTurn, after_step, with_call, with_offer, with_leaving}
use Rattle.sg_play.specs.sg_plain.Playing.Playable.{IsPlayable}
use Rattle.sg_play.specs.sg_plain.Playing.Plays.{IsPlaying}
use Rattle.sg_play.specs.sg_plain.Playing.Turns.{is_free_phase}
use Rattle.sg_play.specs.sg_script.declared.script.Script.{Script}
use Rattle.sg_play.specs.sg_clients.WorldView.{WorldView, happened, in_phase, is_left_phase, new_world, no_seat, seat_of, with_mark}
use Rattle.sg_play.specs.sg_clients.declared.mark.MarkKind.TheVariants.{Leave}
use Rattle.sg_play.specs.sg_clients.declared.phase.Phase.TheVariants.{Left}
use Rattle.sg_sim.proofs.AnyTurn.{settled_missed, settled_taken, still_settled}
use Rattle.sg_sim.proofs.Beginning.{playing_new}
use Rattle.sg_sim.specs.Inside.Keeps.{KeepsPlay}
use Rattle.sg_sim.specs.Inside.Taken.{MissesTurn, TakesTurn, after_offer}
use Rattle.sg_play.proofs.Striking.Striking.{striking_happened, striking_new, striking_offer, striking_turn, striking_wanted}
use Rattle.sg_play.proofs.Waking.Waking.{waking_happened, waking_new, waking_offer, waking_turn, waking_wanted}
use Rattle.sg_play.specs.sg_plain.Answering.{no_query_waits}
use Rattle.sg_play.specs.Striking.Striking.{IsStriking}
use Rattle.sg_play.specs.Waking.Waking.{IsWaking}
use Rattle.sg_play.specs.sg_world.declared.did.Did.{Did}
use Rattle.sg_play.specs.sg_world.declared.did.Did.TheVariants.{Answered, Blocked as Waits, Booted, Loaded, Lost, Replayed, Served, Skipped, Struck}
use Rattle.sg_play.specs.sg_world.Steps.{LackedMemory}
use Rattle.sg_play.specs.sg_world_laws.Setting.{Setting}

-- ---- nothing is withdrawn

called : (w : WorldView) (client : ℕ) (call : Option Call) → (with_call w client call).withdrawn ≡ w.withdrawn
called w client None = refl
called w client (Some call) = refl

none_offered : (facts : Facts) (script : Script) (w : WorldView) (client : ℕ) → (with_offer facts script w client).withdrawn ≡ w.withdrawn
none_offered facts script w client = by (is_free_phase (seat_of w client).phase)
  where
    next : Option Call
    next = call_after facts script w.history client (length (calls_of w.history client))

    by : (b : Bool) → (cond b (with_call w client next) w).withdrawn ≡ w.withdrawn
    by true = called w client next
    by false = refl

left : (script : Script) (w : WorldView) (client : ℕ) → (with_leaving script w client).withdrawn ≡ w.withdrawn
left script w client = by (nat_lt (seat_of w client).seq (length (script_calls script client))) (is_left_phase (seat_of w client).phase)
  where
    by : (more gone : Bool) → (cond more w (happened (cond gone w (with_mark (in_phase w client Left) client Leave)))).withdrawn ≡ w.withdrawn
    by true gone = refl
    by false true = refl
    by false false = refl

behind : (script : Script) (client : ℕ) (did : Did) (later : WorldView) → (after_step script client did later).withdrawn ≡ later.withdrawn
behind script client Skipped later = refl
behind script client (Answered reply) later = left script later client
behind script client Lost later = refl
behind script client Booted later = refl
behind script client Struck later = refl
behind script client Replayed later = refl
behind script client Loaded later = refl
behind script client Waits later = refl
behind script client Served later = refl

none_stepped : (z : Setting) (script : Script) (w : WorldView) (client : ℕ) (handed : Option ℕ) (now : WorldView) → StepsInTurn z script w client handed now → now.withdrawn ≡ w.withdrawn
none_stepped z script w client handed now steps =
    ap (λ x. x.withdrawn) steps.is ∙ behind script client steps.did steps.later ∙ withdrawn_stepped z w client steps.did steps.later steps.stepped

-- ---- the setup

module _ (z : Setting) (script : Script) (w : WorldView) (given : List (List ℕ)) (client : ℕ) (playing : IsPlaying z.iface script w.history w.seats given) where
  abbrev x : WorldView
  x = after_offer z script w given client

  -- it is done behind an offer where it was before, and the other way round
  done_offered : IsPlaying z.iface script x.history x.seats given → is_setting_up script w.seats ≡ false → is_setting_up script x.seats ≡ false
  done_offered offered = still_settled z.iface script w.history x.history w.seats x.seats given given playing offered (omega arith)

  done_before : IsPlaying z.iface script x.history x.seats given → is_setting_up script x.seats ≡ false → is_setting_up script w.seats ≡ false
  done_before offered = still_settled z.iface script x.history w.history x.seats w.seats given given offered playing (omega arith)

  set_up_offered : IsPlaying z.iface script x.history x.seats given → IsSettingUpFirst script w → IsSettingUpFirst script x
  set_up_offered offered is = setting_up_still script w x (done_offered offered) is (ap (λ r. items_of r.boots) (offer_notes_none z.iface.facts script w client))

  -- a turn, which client 1 takes while the setup isn't done
  set_up_taken : 1 ≤ client → client ≤ length w.seats → (is_setting_up script w.seats ≡ true → client ≡ 1) → (handed : Option ℕ) (now : WorldView) (gave : List (List ℕ)) → TakesTurn z script w given client handed now gave
      → IsSettingUpFirst script w → IsSettingUpFirst script now
  set_up_taken first there its handed now gave t is =
      setting_up_turn z script x given client first (subst (λ n. client ≤ n) (playing.clients ∙ sym t.offered.clients) there) t.offered handed now
      (λ on. its (was_on (is_setting_up script w.seats) (is_setting_up script x.seats) (done_offered t.offered) on))
      (λ off. settled_taken z script w given client playing handed now gave t (done_before t.offered off))
      (set_up_offered t.offered is) t.steps

  -- a turn that wanted memory
  set_up_missed : (now : WorldView) (gave : List (List ℕ)) → MissesTurn z script w given client now gave → IsSettingUpFirst script w → IsSettingUpFirst script now
  set_up_missed now gave m is = setting_up_still script w now (settled_missed z script w given client playing now gave m) is (ap items_of (by m.missed))
    where
      by : (now ≡ w) ⊎ (now ≡ happened w) ⊎ (IsPlaying z.iface script x.history x.seats given × LackedMemory z x client now) → now.run.boots ≡ w.run.boots
      by (inl same) = ap (λ v. v.run.boots) same
      by (inr (inl same)) = ap (λ v. v.run.boots) same
      by (inr (inr both)) = ap (λ v. v.run.boots) both.1.counted ∙ ap (λ r. r.boots) (offer_notes_none z.iface.facts script w client)

-- ---- what is kept

-- as many clients
as_many : (z : Setting) (script : Script) (w now : WorldView) (given later : List (List ℕ)) → IsPlaying z.iface script w.history w.seats given → IsPlaying z.iface script now.history now.seats later
    → length now.seats ≡ length w.seats
as_many z script w now given later was is = is.clients ∙ sym was.clients

pub kept_new : (z : Setting) (script : Script) → IsPlayable z.iface script → no_query_waits z.iface.facts ≡ true → (w : WorldView) → w ≡ new_world (replicate (most_client script.clients) no_seat)
    → KeepsPlay z script w (replicate (most_client script.clients) []) 0 0 true
kept_new z script playable none_waits w new = subst (λ x. KeepsPlay z script x (replicate (most_client script.clients) []) 0 0 true) (sym new) (record {
  playing = playing_new z.iface script playable;
  none_withdrawn = refl;
  last_there = omega arith;
  following = λ ordered. following_new z script (new_world (replicate (most_client script.clients) no_seat)) refl;
  setting_up = setting_up_new script (new_world (replicate (most_client script.clients) no_seat)) (most_client script.clients) refl;
  waking = waking_new z (new_world (replicate (most_client script.clients) no_seat)) (most_client script.clients) refl;
  striking = striking_new z (new_world (replicate (most_client script.clients) no_seat)) (most_client script.clients) refl;
  none_waits = none_waits;
})

-- a play goes on over a world
pub kept_over : (z : Setting) (script : Script) (w : WorldView) (given : List (List ℕ)) → no_query_waits z.iface.facts ≡ true → w.withdrawn ≡ [] → MayGoOn z script w → HaveGiven w.history w.seats given
    → KeepsPlay z script w given 0 0 false
kept_over z script w given none_waits none is gave = record {
  playing = playing_of z script w is given gave;
  none_withdrawn = none;
  last_there = omega arith;
  following = λ ordered. absurd (cc ordered);
  setting_up = is.setting_up;
  waking = is.waking;
  striking = is.striking;
  none_waits = none_waits;
}

-- and over that of a play whose setup is done
pub kept_goes : (z : Setting) (script : Script) (w : WorldView) (given : List (List ℕ)) (passed last : ℕ) (in_order : Bool) → KeepsPlay z script w given passed last in_order → is_setting_up script w.seats ≡ false
    → MayGoOn z script w
kept_goes z script w given passed last in_order is settled = goes_of z script w given is.playing settled is.setting_up is.waking is.striking

module _ (z : Setting) (script : Script) (w : WorldView) (given : List (List ℕ)) (passed last : ℕ) (in_order : Bool) (is : KeepsPlay z script w given passed last in_order) where
  -- a turn out of order may follow
  pub kept_aside : KeepsPlay z script w given passed last false
  kept_aside = record {
    playing = is.playing;
    none_withdrawn = is.none_withdrawn;
    last_there = is.last_there;
    following = λ ordered. absurd (cc ordered);
    setting_up = is.setting_up;
    waking = is.waking;
    striking = is.striking;
    none_waits = is.none_waits;
  }

  -- a client took its turn, of which so many turns of the schedule are after it then, and which may have been the next
  pub kept_turn : (client : ℕ) → 1 ≤ client → client ≤ length w.seats → (is_setting_up script w.seats ≡ true → client ≡ 1) → (later : ℕ) (ordered : Bool) → (ordered ≡ true → (in_order ≡ true) × IsNextTurn script (stage_of script w passed last) client later)
      → (handed : Option ℕ) (now : WorldView) (gave : List (List ℕ)) → TakesTurn z script w given client handed now gave → KeepsPlay z script now gave later client ordered
  kept_turn client first there its later ordered next handed now gave t = record {
    playing = t.playing;
    none_withdrawn = none_stepped z script (after_offer z script w given client) client handed now t.steps ∙ none_offered z.iface.facts script w client ∙ is.none_withdrawn;
    last_there = omega (arith, there, as_many z script w now given gave is.playing t.playing);
    following = λ so. following_taken z script w given client passed last is.playing first there (is.following (next so).0) now later handed (next so).1 t.offered t.told_before t.told t.steps;
    setting_up = set_up_taken z script w given client is.playing first there its handed now gave t is.setting_up;
    waking = waking_turn z script (after_offer z script w given client) now given client handed t.offered t.told_before t.told first
        (subst (λ n. client ≤ n) (sym (as_many z script w (after_offer z script w given client) given given is.playing t.offered)) there)
        (waking_offer z script w given client is.playing first there is.waking) t.steps;
    striking = striking_turn z script (after_offer z script w given client) now given client handed t.offered t.told_before (none_offered z.iface.facts script w client ∙ is.none_withdrawn) is.none_waits first
        (subst (λ n. client ≤ n) (sym (as_many z script w (after_offer z script w given client) given given is.playing t.offered)) there)
        (waking_offer z script w given client is.playing first there is.waking) (striking_offer z script w client first there is.striking) t.steps;
    none_waits = is.none_waits;
  }

  -- a turn wanted memory
  pub kept_miss : (client : ℕ) → 1 ≤ client → client ≤ length w.seats → (now : WorldView) (gave : List (List ℕ)) → MissesTurn z script w given client now gave → KeepsPlay z script now gave passed last in_order
  kept_miss client first there now gave m = subst (λ l. KeepsPlay z script now l passed last in_order) (sym m.same) (record {
    playing = m.playing;
    none_withdrawn = by m.missed ∙ is.none_withdrawn;
    last_there = omega (arith, is.last_there, as_many z script w now given given is.playing m.playing);
    following = λ so. following (is.following so) m.missed;
    setting_up = set_up_missed z script w given client is.playing now gave m is.setting_up;
    waking = waking m.missed;
    striking = striking m.missed;
    none_waits = is.none_waits;
  })
    where
      following : IsFollowing z script w passed last → (now ≡ w) ⊎ (now ≡ happened w) ⊎ (IsPlaying z.iface script (after_offer z script w given client).history (after_offer z script w given client).seats given × LackedMemory z (after_offer z script w given client) client now)
          → IsFollowing z script now passed last
      following f (inl same) = subst (λ x. IsFollowing z script x passed last) (sym same) f
      following f (inr (inl same)) = subst (λ x. IsFollowing z script x passed last) (sym same) (following_happened z script w passed last f)
      following f (inr (inr both)) = following_wanted z script (after_offer z script w given client) now client passed last both.1 (following_offer z script w client passed last first there f)

      waking : (now ≡ w) ⊎ (now ≡ happened w) ⊎ (IsPlaying z.iface script (after_offer z script w given client).history (after_offer z script w given client).seats given × LackedMemory z (after_offer z script w given client) client now)
          → IsWaking z now
      waking (inl same) = subst (IsWaking z) (sym same) is.waking
      waking (inr (inl same)) = subst (IsWaking z) (sym same) (waking_happened z w is.waking)
      waking (inr (inr both)) = waking_wanted z (after_offer z script w given client) now client both.1 (waking_offer z script w given client is.playing first there is.waking)

      striking : (now ≡ w) ⊎ (now ≡ happened w) ⊎ (IsPlaying z.iface script (after_offer z script w given client).history (after_offer z script w given client).seats given × LackedMemory z (after_offer z script w given client) client now)
          → IsStriking z now
      striking (inl same) = subst (IsStriking z) (sym same) is.striking
      striking (inr (inl same)) = subst (IsStriking z) (sym same) (striking_happened z w is.striking)
      striking (inr (inr both)) = striking_wanted z (after_offer z script w given client) now client both.1 (striking_offer z script w client first there is.striking)

      by : (now ≡ w) ⊎ (now ≡ happened w) ⊎ (IsPlaying z.iface script (after_offer z script w given client).history (after_offer z script w given client).seats given × LackedMemory z (after_offer z script w given client) client now)
          → now.withdrawn ≡ w.withdrawn
      by (inl same) = ap (λ x. x.withdrawn) same
      by (inr (inl same)) = ap (λ x. x.withdrawn) same
      by (inr (inr both)) = withdrawn_wanted z (after_offer z script w given client) client now both.1 ∙ none_offered z.iface.facts script w client
