-- How a client stands, by its last mark.
use Rattle.std.proofs.Common.{◌≡◌, ◌≢◌, ℕ, Bool, true, false, cond, eqb, List, [], ◌∷◌, drop, get_or, Option, None, Some, refl, sym, ap, ◌∙◌, subst, eq-eqb, ne_eqb}
use mathlib.Core.Logic.{dite}
use native.Mathlib.Decide.{ℕ_discrete}
use Rattle.sg_turn.specs.sg_facts.sg_base.declared.call.Call.{Call}
use Rattle.sg_turn.specs.sg_facts.declared.entry.Entry.{Entry}
use Rattle.sg_world.specs.sg_recovery_laws.sg_hist.Clients.{calls_of}
use Rattle.sg_world.specs.sg_clients.declared.mark.Mark.{Mark}
use Rattle.sg_world.specs.sg_clients.declared.mark.MarkKind.{MarkKind}
use Rattle.sg_world.specs.sg_clients.declared.mark.MarkKind.TheVariants.{Offer, Entry as Entered, Answer, Withdraw, Leave}
use Rattle.sg_world.specs.sg_clients.declared.withdrawn.Withdrawn.{Withdrawn}
use Rattle.sg_world.specs.Marked.{last_kind, or_later, marked_as, is_entry_mark, is_withdrawal_mark}
use Rattle.sg_world.specs.sg_world_laws.Seats.{last_of}
use Rattle.sg_turn.specs.declared.log.LogMark.{LogMark}
use Rattle.sg_turn.specs.Logs.{marks_of}
use Rattle.sg_turn.specs.Told.{Standing, idle, left, asking, has_reply, after_mark, standing_after}
use Rattle.sg_log.specs.Log.{first_entry, call_told, entries_after, withdrawn_after, coming_call, kind_told, log_from}
use Rattle.sg_log.proofs.Growing.{clients_of, clients_gone, step_aligned}

-- the last of a list is that of its tail
last_after : (d : Entry) (l : List Entry) (e : Entry) → last_of l ≡ Some e → last_of (d ∷ l) ≡ Some e
last_after d [] e h = absurd (cc)
last_after d (f ∷ l) e h = h

last_cond : (b : Bool) (d : Entry) (l : List Entry) (e : Entry) → last_of l ≡ Some e → last_of (cond b (d ∷ l) l) ≡ Some e
last_cond true d l e h = last_after d l e h
last_cond false d l e h = h

last_wider : (k : MarkKind) (c : ℕ) (h : List Entry) (e : Entry) → last_of (calls_of (entries_after k h) c) ≡ Some e → last_of (calls_of h c) ≡ Some e
last_wider Entered c [] e is = is
last_wider Entered c (d ∷ h) e is = last_cond (eqb d.call.client c) d (calls_of h c) e is
last_wider Offer c h e is = is
last_wider Answer c h e is = is
last_wider Withdraw c h e is = is
last_wider Leave c h e is = is

module _ (calls : ℕ → Call) (c : ℕ) where
  -- what a client's last mark says of how it stands; before is how it stood
  abbrev pub Says : List Entry → Standing → Option MarkKind → Standing → Type 0
  Says h before None s = s ≡ before
  Says h before (Some Offer) s = s ≡ asking (calls c)
  Says h before (Some Entered) s = (e : Entry) × (last_of (calls_of h c) ≡ Some e) × (s ≡ has_reply e.call e.reply)
  Says h before (Some Answer) s = s ≡ idle
  Says h before (Some Withdraw) s = s ≡ idle
  Says h before (Some Leave) s = s ≡ left

  -- another mark came before
  says_wider : (k : MarkKind) (h : List Entry) (before before' s : Standing) (j : MarkKind) → Says (entries_after k h) before (Some j) s → Says h before' (Some j) s
  says_wider k h before before' s Offer x = x
  says_wider k h before before' s Entered x = (x.0, last_wider k c h x.0 x.1, x.2)
  says_wider k h before before' s Answer x = x
  says_wider k h before before' s Withdraw x = x
  says_wider k h before before' s Leave x = x

  some_later : (k : MarkKind) (l : Option MarkKind) → or_later (Some k) l ≡ None → ⊥
  some_later k None e = cc
  some_later k (Some j) e = cc

  none_after : (o : Option MarkKind) (l : Option MarkKind) → or_later o l ≡ None → l ≡ None
  none_after o None e = refl
  none_after o (Some k) e = e

  -- a client that has no mark from here on hasn't this one
  not_mine : (n : Mark) (ms : List Mark) → last_kind (n ∷ ms) c ≡ None → n.client ≢ c
  not_mine n ms none e = some_later n.kind (last_kind ms c) (sym (ap (λ b. or_later (cond b (Some n.kind) None) (last_kind ms c)) (eq-eqb n.client c e)) ∙ none)

  no_calls_at : (k : MarkKind) (d : ℕ) (ms : List Mark) (h : List Entry) → d ≢ c → marked_as is_entry_mark (record { client = d; kind = k } ∷ ms) ≡ clients_of h
      → ((t : List Entry) → marked_as is_entry_mark ms ≡ clients_of t → calls_of t c ≡ []) → calls_of h c ≡ []
  no_calls_at Entered d ms [] ne e ih = refl
  no_calls_at Entered d ms (f ∷ t) ne e ih =
      ap (λ b. cond b (f ∷ calls_of t c) (calls_of t c)) (ne_eqb f.call.client c (λ i. ne (ap (λ l. get_or l 0 0) e ∙ i))) ∙ ih t (ap (drop 1) e)
  no_calls_at Offer d ms h ne e ih = ih h e
  no_calls_at Answer d ms h ne e ih = ih h e
  no_calls_at Withdraw d ms h ne e ih = ih h e
  no_calls_at Leave d ms h ne e ih = ih h e

  no_entries : (h : List Entry) → [] ≡ clients_of h → calls_of h c ≡ []
  no_entries [] e = refl
  no_entries (f ∷ h) e = absurd (cc)

  -- a client without a mark has no entry
  no_calls : (ms : List Mark) (h : List Entry) → last_kind ms c ≡ None → marked_as is_entry_mark ms ≡ clients_of h → calls_of h c ≡ []
  no_calls [] h none e = no_entries h e
  no_calls (n ∷ ms) h none e = no_calls_at n.kind n.client ms h (not_mine n ms none) e (λ t. no_calls ms t (none_after _ (last_kind ms c) none))

  next_none : (ms : List Mark) (h : List Entry) (x : List Withdrawn) → last_kind ms c ≡ None → coming_call calls c ms h x ≡ calls c
  next_none [] h x none = refl
  next_none (n ∷ ms) h x none =
      ap (λ b. cond b (call_told n.kind h x) (coming_call calls c ms (entries_after n.kind h) (withdrawn_after n.kind x))) (ne_eqb n.client c (not_mine n ms none))
      ∙ next_none ms (entries_after n.kind h) (withdrawn_after n.kind x) (none_after _ (last_kind ms c) none)

  first_is_last : (d : ℕ) (ms : List Mark) (h : List Entry) → d ≡ c → last_kind ms c ≡ None → marked_as is_entry_mark (record { client = d; kind = Entered } ∷ ms) ≡ clients_of h
      → last_of (calls_of h c) ≡ Some (first_entry h)
  first_is_last d ms [] p none e = absurd (cc)
  first_is_last d ms (f ∷ t) p none e =
      ap (λ b. last_of (cond b (f ∷ calls_of t c) (calls_of t c))) (eq-eqb f.call.client c (sym (ap (λ l. get_or l 0 0) e) ∙ p))
      ∙ ap (λ l. last_of (f ∷ l)) (no_calls ms t none (ap (drop 1) e))

  first_says : (k : MarkKind) (d : ℕ) (ms : List Mark) (h : List Entry) (x : List Withdrawn) (s st : Standing) → d ≡ c → last_kind ms c ≡ None
      → marked_as is_entry_mark (record { client = d; kind = k } ∷ ms) ≡ clients_of h → st ≡ after_mark (kind_told calls k d ms h x) → Says h s (Some k) st
  first_says Offer d ms h x s st p none e is = is ∙ ap (λ y. asking (coming_call calls y ms h x)) p ∙ ap asking (next_none ms h x none)
  first_says Entered d ms h x s st p none e is = (first_entry h, first_is_last d ms h p none e, is)
  first_says Answer d ms h x s st p none e is = is
  first_says Withdraw d ms h x s st p none e is = is
  first_says Leave d ms h x s st p none e is = is

  says_at : (k : MarkKind) (d : ℕ) (ms : List Mark) (h : List Entry) (x : List Withdrawn) (s : Standing) → marked_as is_entry_mark (record { client = d; kind = k } ∷ ms) ≡ clients_of h
      → ((s' : Standing) → Says (entries_after k h) s' (last_kind ms c) (standing_after s' (marks_of c (log_from calls ms (entries_after k h) (withdrawn_after k x)))))
      → Says h s (last_kind (record { client = d; kind = k } ∷ ms) c) (standing_after s (marks_of c (log_from calls (record { client = d; kind = k } ∷ ms) h x)))
  says_at k d ms h x s e ih =
      let l = last_kind ms c in
      let rest = marks_of c (log_from calls ms (entries_after k h) (withdrawn_after k x)) in
      let t : LogMark = record { client = d; kind = kind_told calls k d ms h x } in
      let after = after_mark t.kind in
      dite (ℕ_discrete d c)
      (λ p. subst (λ b. Says h s (or_later (cond b (Some k) None) l) (standing_after s (cond b (t ∷ rest) rest))) (sym (eq-eqb d c p)) (mine p l refl (standing_after after rest) (ih after)))
      (λ ne. subst (λ b. Says h s (or_later (cond b (Some k) None) l) (standing_after s (cond b (t ∷ rest) rest))) (sym (ne_eqb d c ne)) (other l (standing_after s rest) (ih s)))
    where
      mine : d ≡ c → (l : Option MarkKind) → last_kind ms c ≡ l → (st : Standing) → Says (entries_after k h) (after_mark (kind_told calls k d ms h x)) l st → Says h s (or_later (Some k) l) st
      mine p None none st y = first_says k d ms h x s st p none e y
      mine p (Some j) some st y = says_wider k h (after_mark (kind_told calls k d ms h x)) s st j y

      other : (l : Option MarkKind) (st : Standing) → Says (entries_after k h) s l st → Says h s (or_later None l) st
      other None st y = y
      other (Some j) st y = says_wider k h s s st j y

  -- a client stands as its last mark says
  pub says : (ms : List Mark) (h : List Entry) (x : List Withdrawn) (s : Standing) → marked_as is_entry_mark ms ≡ clients_of h → marked_as is_withdrawal_mark ms ≡ clients_gone x
      → Says h s (last_kind ms c) (standing_after s (marks_of c (log_from calls ms h x)))
  says [] h x s e w = refl
  says (n ∷ ms) h x s e w =
      let t = step_aligned n.kind n.client ms h x e w in
      says_at n.kind n.client ms h x s e (λ s'. says ms (entries_after n.kind h) (withdrawn_after n.kind x) s' t.1 t.2)
