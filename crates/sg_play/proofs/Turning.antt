-- A play keeps what it keeps where a client steps, or leaves.
use Rattle.std.proofs.Common.{◌≡◌, ◌⊎◌, ℕ, ◌+◌, ◌-◌, ◌≤◌, true, false, cond, List, [], ◌∷◌, ◌++◌, None, Some, length, refl, sym, ◌∙◌, ap, subst, inl, inr, arith, slice_set}
use Rattle.sg_facts.specs.sg_base.declared.reply.Reply.{Reply}
use Rattle.sg_facts.specs.declared.entry.Entry.{Entry}
use Rattle.sg_plain.specs.sg_hist.Clients.{calls_of}
use Rattle.sg_plain.specs.sg_hist.Inside.Reads.{desc_of}
use Rattle.sg_plain.specs.sg_script.declared.script.Script.{Script}
use Rattle.sg_plain.specs.sg_clients.WorldView.{Seat, WorldView, happened, in_phase, is_left_phase, is_offered, seat_of, with_leave, with_mark}
use Rattle.sg_plain.specs.sg_clients.declared.mark.MarkKind.TheVariants.{Leave}
use Rattle.sg_plain.specs.sg_clients.declared.phase.Phase.TheVariants.{Idle, Left}
use Rattle.sg_world.specs.declared.did.Did.{Did}
use Rattle.sg_world.specs.declared.did.Did.TheVariants.{Answered, Blocked as Waits, Booted, Loaded, Lost, Replayed, Served, Skipped, Struck}
use Rattle.sg_world.specs.Steps.{AnswersLast, HasStepped, LackedMemory}
use Rattle.sg_world.specs.sg_world_laws.Seats.{last_of}
use Rattle.sg_world.specs.sg_world_laws.Setting.{Setting}
use Rattle.sg_plain.specs.Playing.Callers.{handed, is_receipted, is_setting_up}
use Rattle.sg_plain.specs.Playing.Given.{HandsReply, given_in}
use Rattle.sg_plain.specs.Playing.Plays.{IsPlaying}
use Rattle.sg_plain.proofs.Playing.Calling.{callers_step, its_client, next_of}
use Rattle.sg_plain.proofs.Playing.Lines.{line_set}
use Rattle.sg_plain.proofs.sg_clients.Lines.{seat_here}
use Rattle.sg_plain.proofs.Playing.Playing.{playing_step, playing_still}
use Rattle.sg_play.specs.Turning.{after_step, handed_by}
use Rattle.sg_play.proofs.Stepping.{IsHandedTo, handed_step, quiet_step}

-- ---- the last of some entries

pub some_last : (es : List Entry) (e : Entry) → last_of es ≡ Some e → 1 ≤ length es
some_last [] e is = absurd (cc is)
some_last (x ∷ es) e is = omega arith

front_last : (es : List Entry) (e : Entry) → last_of es ≡ Some e → (front : List Entry) × (es ≡ front ++ e ∷ [])
front_last [] e is = absurd (cc is)
front_last (x ∷ []) e is = let same : x ≡ e = cc is in ([], ap (λ y. y ∷ []) same)
front_last (x ∷ y ∷ es) e is = let more = front_last (y ∷ es) e is in (x ∷ more.0, ap (λ l. x ∷ l) more.1)

-- what a step tells that hands nothing over
pub record IsPlainStep (did : Did) : Type 0 where
  pub none : (reply : Reply) → did ≡ Answered reply → ⊥
  pub told : None ≡ handed_by did
  pub same : (script : Script) (client : ℕ) (later : WorldView) → later ≡ after_step script client did later

pub plain_step : (did : Did) → (did ≡ Skipped) ⊎ ((did ≡ Struck) ⊎ ((did ≡ Booted) ⊎ ((did ≡ Replayed) ⊎ ((did ≡ Loaded) ⊎ ((did ≡ Served) ⊎ ((did ≡ Waits) ⊎ (did ≡ Lost))))))) → IsPlainStep did
plain_step Skipped is = record { none = λ reply answered. cc answered; told = refl; same = λ script client later. refl }
plain_step Struck is = record { none = λ reply answered. cc answered; told = refl; same = λ script client later. refl }
plain_step Booted is = record { none = λ reply answered. cc answered; told = refl; same = λ script client later. refl }
plain_step Replayed is = record { none = λ reply answered. cc answered; told = refl; same = λ script client later. refl }
plain_step Loaded is = record { none = λ reply answered. cc answered; told = refl; same = λ script client later. refl }
plain_step Served is = record { none = λ reply answered. cc answered; told = refl; same = λ script client later. refl }
plain_step Waits is = record { none = λ reply answered. cc answered; told = refl; same = λ script client later. refl }
plain_step Lost is = record { none = λ reply answered. cc answered; told = refl; same = λ script client later. refl }
plain_step (Answered reply) is = absurd (elim is [
  | inl a ↦ cc a
  | inr more ↦ elim more [
    | inl a ↦ cc a
    | inr more ↦ elim more [
      | inl a ↦ cc a
      | inr more ↦ elim more [
        | inl a ↦ cc a
        | inr more ↦ elim more [
          | inl a ↦ cc a
          | inr more ↦ elim more [
            | inl a ↦ cc a
            | inr more ↦ elim more [ inl a ↦ cc a | inr a ↦ cc a ]
          ]
        ]
      ]
    ]
  ]
])

module _ (z : Setting) (script : Script) (w : WorldView) (given : List (List ℕ)) (c : ℕ) (first : 1 ≤ c) (last : c ≤ length w.seats) (turn : is_setting_up script w.seats ≡ true → c ≡ 1)
    (is : IsPlaying z.iface script w.history w.seats given) where
  its : is_offered (seat_of w c).phase ≡ true → (seat_of w c).call.client ≡ c
  its offers = its_client z.iface.facts script w.history c (length (calls_of w.history c)) (seat_of w c).call ((is.callers.each c first last).next offers)

  number : is_offered (seat_of w c).phase ≡ true → (seat_of w c).call.seq ≡ (seat_of w c).seq + 1
  number offers =
      ap (λ x. x.seq) (next_of z.iface.facts script w.history c (length (calls_of w.history c)) (seat_of w c).call ((is.callers.each c first last).next offers)).is
      ∙ ap (λ n. n + 1) (sym (is.callers.each c first last).count)

  -- a step that hands nothing over
  pub stepped_quiet : (did : Did) (now : WorldView) → ((reply : Reply) → did ≡ Answered reply → ⊥) → HasStepped z w c did now → IsPlaying z.iface script now.history now.seats given
  stepped_quiet did now none stepped =
      let q = quiet_step z w c first last its number did stepped.later none stepped.steps in
      subst (λ (x : WorldView). IsPlaying z.iface script x.history x.seats given) (sym stepped.counted)
      (playing_step z.iface script w.history w.seats given c first last turn is stepped.later.history stepped.later.seats None q.on q.same)

  -- a step that hands a reply over
  module _ (reply : Reply) (now : WorldView) (stepped : HasStepped z w c (Answered reply) now) (answers : AnswersLast now c (Answered reply)) where
    history_is : now.history ≡ stepped.later.history
    history_is = ap (λ (x : WorldView). x.history) stepped.counted

    handed_to : IsHandedTo w c stepped.later
    handed_to = handed_step z w c first last its number reply stepped.later
        (λ same. omega (arith, (is.callers.each c first last).count, ap (λ h. length (calls_of h c)) (history_is ∙ same), some_last (calls_of now.history c) _ answers.1)) stepped.steps

    pub stepped_idle : (seat_of now c).phase ≡ Idle
    stepped_idle = ap (λ (x : WorldView). (seat_of x c).phase) stepped.counted ∙ handed_to.idle

    hands_reply : HandsReply w.seats c stepped.later.history stepped.later.seats (desc_of reply)
    hands_reply =
        let own = front_last (calls_of now.history c) _ answers.1 in
        let clients : length stepped.later.seats ≡ length w.seats = elim handed_to.on [ inl enters ↦ enters.clients | inr enters ↦ enters.clients ] in
        let later_is = callers_step z.iface script w.history stepped.later.history w.seats stepped.later.seats c is.playable first last is.callers handed_to.on in
        record {
          one_more = handed_to.one_more;
          all_handed = ap (λ p. cond (is_receipted p) ((seat_of stepped.later c).seq - 1) (seat_of stepped.later c).seq) handed_to.idle ∙ (later_is.each c first (omega (arith, last, clients))).count;
          front = own.0;
          last = record { call = answers.0; reply = reply };
          is = ap (λ h. calls_of h c) (sym history_is) ∙ own.1;
          gave = refl;
        }

    pub stepped_handed : IsPlaying z.iface script now.history now.seats (slice_set given (c - 1) (given_in given c ++ desc_of reply ∷ []))
    stepped_handed =
        subst (λ (x : WorldView). IsPlaying z.iface script x.history x.seats (slice_set given (c - 1) (given_in given c ++ desc_of reply ∷ []))) (sym stepped.counted)
        (playing_step z.iface script w.history w.seats given c first last turn is stepped.later.history stepped.later.seats (Some (desc_of reply)) handed_to.on hands_reply)

  -- a step that wanted memory
  pub wanted : (now : WorldView) → LackedMemory z w c now → IsPlaying z.iface script now.history now.seats given
  wanted now wants = subst (λ (x : WorldView). IsPlaying z.iface script x.history x.seats given) (sym wants.counted) is

-- a client leaves, which has no call under way
pub stepped_left : (z : Setting) (script : Script) (w : WorldView) (given : List (List ℕ)) (c : ℕ) → 1 ≤ c → c ≤ length w.seats → (seat_of w c).phase ≡ Idle → (now : WorldView) → now ≡ happened (with_leave w c)
    → IsPlaying z.iface script w.history w.seats given → IsPlaying z.iface script now.history now.seats given
stepped_left z script w given c first last idle now is_now is =
    let s = seat_of w c in
    let new : Seat = record s { phase = Left } in
    let same : handed new ≡ handed s = ap (λ p. cond (is_receipted p) (s.seq - 1) s.seq) (sym idle) in
    let not_left : is_left_phase s.phase ≡ false = ap is_left_phase idle in
    let leaves : WorldView = with_mark (in_phase w c Left) c Leave in
    let seats : now.seats ≡ slice_set w.seats (c - 1) new = ap (λ (x : WorldView). x.seats) is_now ∙ ap (λ b. (cond b w leaves).seats) not_left in
    let history : now.history ≡ w.history = ap (λ (x : WorldView). x.history) is_now ∙ ap (λ b. (cond b w leaves).history) not_left in
    subst (λ h. IsPlaying z.iface script h now.seats given) (sym history) (subst (λ l. IsPlaying z.iface script w.history l given) (sym seats)
    (playing_still z.iface script w.history w.history w.seats (slice_set w.seats (c - 1) new) given c first last is
    (line_set w.history w.seats c new first last (record { offered = λ offers. absurd (cc offers); call = refl; seq = refl }) (omega (arith, same)))
    (ap handed (seat_here w.seats c new first last) ∙ same)))
