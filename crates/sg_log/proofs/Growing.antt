-- The log of a world only grows.
use Rattle.std.proofs.Common.{◌≡◌, ℕ, Bool, true, false, cond, eqb, List, [], ◌∷◌, ◌++◌, map, drop, None, Some, refl, sym, ap, ◌∙◌, eq-eqb}
use Rattle.sg_turn.specs.sg_facts.sg_base.declared.call.Call.{Call}
use Rattle.sg_turn.specs.sg_facts.declared.entry.Entry.{Entry}
use Rattle.sg_world.specs.sg_clients.declared.mark.Mark.{Mark}
use Rattle.sg_world.specs.sg_clients.declared.mark.MarkKind.{MarkKind}
use Rattle.sg_world.specs.sg_clients.declared.mark.MarkKind.TheVariants.{Offer, Entry as Entered, Answer, Withdraw, Leave}
use Rattle.sg_world.specs.sg_clients.declared.withdrawn.Withdrawn.{Withdrawn}
use Rattle.sg_world.specs.Marked.{last_kind, or_later, marked_as, is_entry_mark, is_withdrawal_mark}
use Rattle.sg_turn.specs.declared.log.LogMarkKind.TheVariants.{Offer as TOffer}
use Rattle.sg_log.specs.Log.{first_entry, first_withdrawn, entries_after, withdrawn_after, call_told, coming_call, kind_told, log_from}

-- a mark of an entry has its entry, and that of a withdrawn call its call
abbrev pub Starts : MarkKind → List Entry → List Withdrawn → Type 0
Starts Entered h x = (e : Entry) × (t : List Entry) × (h ≡ e ∷ t)
Starts Withdraw h x = (y : Withdrawn) × (t : List Withdrawn) × (x ≡ y ∷ t)
Starts Offer h x = Unit {0}
Starts Answer h x = Unit {0}
Starts Leave h x = Unit {0}

-- there are as many entries and withdrawn calls as marks of them
abbrev pub Aligned : List Mark → List Entry → List Withdrawn → Type 0
Aligned [] h x = (h ≡ []) × (x ≡ [])
Aligned (m ∷ ms) h x = Starts m.kind h x × Aligned ms (entries_after m.kind h) (withdrawn_after m.kind x)

pub entries_push : (k : MarkKind) (h h' : List Entry) (x : List Withdrawn) → Starts k h x → entries_after k (h ++ h') ≡ entries_after k h ++ h'
entries_push Entered h h' x s = ap (λ l. entries_after Entered (l ++ h')) s.2 ∙ sym (ap (λ l. entries_after Entered l ++ h') s.2)
entries_push Withdraw h h' x s = refl
entries_push Offer h h' x s = refl
entries_push Answer h h' x s = refl
entries_push Leave h h' x s = refl

pub withdrawn_push : (k : MarkKind) (h : List Entry) (x x' : List Withdrawn) → Starts k h x → withdrawn_after k (x ++ x') ≡ withdrawn_after k x ++ x'
withdrawn_push Withdraw h x x' s = ap (λ l. withdrawn_after Withdraw (l ++ x')) s.2 ∙ sym (ap (λ l. withdrawn_after Withdraw l ++ x') s.2)
withdrawn_push Entered h x x' s = refl
withdrawn_push Offer h x x' s = refl
withdrawn_push Answer h x x' s = refl
withdrawn_push Leave h x x' s = refl

called_push : (k : MarkKind) (h h' : List Entry) (x x' : List Withdrawn) → Starts k h x → call_told k (h ++ h') (x ++ x') ≡ call_told k h x
called_push Entered h h' x x' s = ap (λ l. (first_entry (l ++ h')).call) s.2 ∙ sym (ap (λ l. (first_entry l).call) s.2)
called_push Withdraw h h' x x' s = ap (λ l. (first_withdrawn (l ++ x')).call) s.2 ∙ sym (ap (λ l. (first_withdrawn l).call) s.2)
called_push Offer h h' x x' s = refl
called_push Answer h h' x x' s = refl
called_push Leave h h' x x' s = refl

cond_same : {A : Type 0} (b : Bool) (p p' q q' : A) → p ≡ p' → (b ≡ false → q ≡ q') → cond b p q ≡ cond b p' q'
cond_same true p p' q q' e f = e
cond_same false p p' q q' e f = f refl

module _ (calls calls' : ℕ → Call) (m : Mark) (h' : List Entry) (x' : List Withdrawn) where
  -- the call of a client's next mark stays where the mark that is added is of the call that the client offered, or it has a mark before it
  next_push : (c : ℕ) (ms : List Mark) (h : List Entry) (x : List Withdrawn) → Aligned ms h x → (last_kind ms c ≡ None → coming_call calls' c (m ∷ []) h' x' ≡ calls c)
      → coming_call calls' c (ms ++ m ∷ []) (h ++ h') (x ++ x') ≡ coming_call calls c ms h x
  next_push c [] h x a base = ap (λ (p : List Entry × List Withdrawn). coming_call calls' c (m ∷ []) (p.0 ++ h') (p.1 ++ x')) (λ i. (a.0 i, a.1 i)) ∙ base refl
  next_push c (n ∷ ms) h x a base =
      cond_same (eqb n.client c) _ _ _ _ (called_push n.kind h h' x x' a.0)
      (λ other. ap (λ (p : List Entry × List Withdrawn). coming_call calls' c (ms ++ m ∷ []) p.0 p.1) (λ i. (entries_push n.kind h h' x a.0 i, withdrawn_push n.kind h x x' a.0 i))
      ∙ next_push c ms (entries_after n.kind h) (withdrawn_after n.kind x) a.1 (λ none. base (λ i. or_later (cond (other i) (Some n.kind) None) (none i))))

  told_push : (k : MarkKind) (c : ℕ) (ms : List Mark) (h : List Entry) (x : List Withdrawn) → Aligned (record { client = c; kind = k } ∷ ms) h x
      → (last_kind (record { client = c; kind = k } ∷ ms) c ≡ Some Offer → coming_call calls' c (m ∷ []) h' x' ≡ calls c)
      → kind_told calls' k c (ms ++ m ∷ []) (h ++ h') (x ++ x') ≡ kind_told calls k c ms h x
  told_push Offer c ms h x a may = ap TOffer (next_push c ms h x a.1 (λ none. may (λ i. or_later (cond (eq-eqb c c refl i) (Some Offer) None) (none i))))
  told_push Entered c ms h x a may = ap (λ l. kind_told calls' Entered c [] (l ++ h') []) a.0.2 ∙ sym (ap (λ l. kind_told calls Entered c [] l []) a.0.2)
  told_push Withdraw c ms h x a may = ap (λ l. kind_told calls' Withdraw c [] [] (l ++ x')) a.0.2 ∙ sym (ap (λ l. kind_told calls Withdraw c [] [] l) a.0.2)
  told_push Answer c ms h x a may = refl
  told_push Leave c ms h x a may = refl

  -- one mark more: the log is one longer
  pub log_push : (ms : List Mark) (h : List Entry) (x : List Withdrawn) → Aligned ms h x
      → ((c : ℕ) → last_kind ms c ≡ Some Offer → coming_call calls' c (m ∷ []) h' x' ≡ calls c)
      → log_from calls' (ms ++ m ∷ []) (h ++ h') (x ++ x') ≡ log_from calls ms h x ++ record { client = m.client; kind = kind_told calls' m.kind m.client [] h' x' } ∷ []
  log_push [] h x a may = ap (λ (p : List Entry × List Withdrawn). log_from calls' (m ∷ []) (p.0 ++ h') (p.1 ++ x')) (λ i. (a.0 i, a.1 i))
  log_push (n ∷ ms) h x a may =
      let head = told_push n.kind n.client ms h x a (may n.client) in
      let rest = ap (λ (p : List Entry × List Withdrawn). log_from calls' (ms ++ m ∷ []) p.0 p.1) (λ i. (entries_push n.kind h h' x a.0 i, withdrawn_push n.kind h x x' a.0 i))
      ∙ log_push ms (entries_after n.kind h) (withdrawn_after n.kind x) a.1 (λ c e. may c (ap (or_later (cond (eqb n.client c) (Some n.kind) None)) e)) in
      λ i. record { client = n.client; kind = head i } ∷ rest i

module _ (calls calls' : ℕ → Call) where
  next_same : (c : ℕ) (ms : List Mark) (h : List Entry) (x : List Withdrawn) → (last_kind ms c ≡ None → calls' c ≡ calls c) → coming_call calls' c ms h x ≡ coming_call calls c ms h x
  next_same c [] h x base = base refl
  next_same c (n ∷ ms) h x base =
      cond_same (eqb n.client c) _ _ _ _ refl (λ other. next_same c ms (entries_after n.kind h) (withdrawn_after n.kind x) (λ none. base (λ i. or_later (cond (other i) (Some n.kind) None) (none i))))

  told_same : (k : MarkKind) (c : ℕ) (ms : List Mark) (h : List Entry) (x : List Withdrawn)
      → (last_kind (record { client = c; kind = k } ∷ ms) c ≡ Some Offer → calls' c ≡ calls c) → kind_told calls' k c ms h x ≡ kind_told calls k c ms h x
  told_same Offer c ms h x may = ap TOffer (next_same c ms h x (λ none. may (λ i. or_later (cond (eq-eqb c c refl i) (Some Offer) None) (none i))))
  told_same Entered c ms h x may = refl
  told_same Withdraw c ms h x may = refl
  told_same Answer c ms h x may = refl
  told_same Leave c ms h x may = refl

  -- where no mark is added and the calls that aren't answered stay, the log stays
  pub log_same : (ms : List Mark) (h : List Entry) (x : List Withdrawn) → ((c : ℕ) → last_kind ms c ≡ Some Offer → calls' c ≡ calls c) → log_from calls' ms h x ≡ log_from calls ms h x
  log_same [] h x may = refl
  log_same (n ∷ ms) h x may =
      let head = told_same n.kind n.client ms h x (may n.client) in
      let rest = log_same ms (entries_after n.kind h) (withdrawn_after n.kind x) (λ c e. may c (ap (or_later (cond (eqb n.client c) (Some n.kind) None)) e)) in
      λ i. record { client = n.client; kind = head i } ∷ rest i

-- ---- what a world's marks tell makes them aligned

abbrev pub clients_of : List Entry → List ℕ
clients_of h = map (λ (e : Entry). e.call.client) h

abbrev pub clients_gone : List Withdrawn → List ℕ
clients_gone x = map (λ (y : Withdrawn). y.call.client) x

starts_entered : (c : ℕ) (cs : List ℕ) (h : List Entry) → c ∷ cs ≡ clients_of h → (e : Entry) × (t : List Entry) × (h ≡ e ∷ t)
starts_entered c cs [] e = absurd (cc)
starts_entered c cs (d ∷ t) e = (d, t, refl)

starts_gone : (c : ℕ) (cs : List ℕ) (x : List Withdrawn) → c ∷ cs ≡ clients_gone x → (y : Withdrawn) × (t : List Withdrawn) × (x ≡ y ∷ t)
starts_gone c cs [] e = absurd (cc)
starts_gone c cs (d ∷ t) e = (d, t, refl)

tail_entered : (c : ℕ) (cs : List ℕ) (h : List Entry) → c ∷ cs ≡ clients_of h → cs ≡ clients_of (entries_after Entered h)
tail_entered c cs [] e = absurd (cc)
tail_entered c cs (d ∷ t) e = ap (drop 1) e

tail_gone : (c : ℕ) (cs : List ℕ) (x : List Withdrawn) → c ∷ cs ≡ clients_gone x → cs ≡ clients_gone (withdrawn_after Withdraw x)
tail_gone c cs [] e = absurd (cc)
tail_gone c cs (d ∷ t) e = ap (drop 1) e

pub step_aligned : (k : MarkKind) (c : ℕ) (ms : List Mark) (h : List Entry) (x : List Withdrawn)
    → marked_as is_entry_mark (record { client = c; kind = k } ∷ ms) ≡ clients_of h → marked_as is_withdrawal_mark (record { client = c; kind = k } ∷ ms) ≡ clients_gone x
    → Starts k h x × (marked_as is_entry_mark ms ≡ clients_of (entries_after k h)) × (marked_as is_withdrawal_mark ms ≡ clients_gone (withdrawn_after k x))
step_aligned Entered c ms h x e w = (starts_entered c _ h e, tail_entered c _ h e, w)
step_aligned Withdraw c ms h x e w = (starts_gone c _ x w, e, tail_gone c _ x w)
step_aligned Offer c ms h x e w = (tt, e, w)
step_aligned Answer c ms h x e w = (tt, e, w)
step_aligned Leave c ms h x e w = (tt, e, w)

none_left : {A : Type 0} (f : A → ℕ) (xs : List A) → [] ≡ map f xs → xs ≡ []
none_left f [] e = refl
none_left f (x ∷ xs) e = absurd (cc)

pub aligned : (ms : List Mark) (h : List Entry) (x : List Withdrawn) → marked_as is_entry_mark ms ≡ clients_of h → marked_as is_withdrawal_mark ms ≡ clients_gone x → Aligned ms h x
aligned [] h x e w = (none_left (λ (d : Entry). d.call.client) h e, none_left (λ (y : Withdrawn). y.call.client) x w)
aligned (m ∷ ms) h x e w = let t = step_aligned m.kind m.client ms h x e w in (t.0, aligned ms (entries_after m.kind h) (withdrawn_after m.kind x) t.1 t.2)
