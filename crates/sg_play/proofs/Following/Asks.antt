-- What the play without stops asks turn after turn, and the items of a boot that were asked so.
use Rattle.std.proofs.Common.{◌≡◌, ◌⊎◌, ℕ, zero, suc, ◌+◌, ◌-◌, ◌<◌, ◌≤◌, Bool, true, false, List, [], ◌∷◌, ◌++◌, None, length, refl, sym, ◌∙◌, ap, inl, inr, arith, append-nil, append_assoc}
use Rattle.std.specs.Prelude.{◌==◌, ◌&&◌, not}
use Rattle.std.proofs.lemmas.Bool.{and_parts, cases_lt}
use Rattle.sg_facts.proofs.Replaying.Found.{same_test}
use Rattle.sg_facts.specs.Interface.{Declared}
use Rattle.sg_facts.specs.Legal.{Table}
use Rattle.sg_facts.specs.declared.entry.Entry.{Entry}
use Rattle.sg_facts.specs.declared.outcome.Outcome.{Outcome}
use Rattle.sg_facts.specs.declared.outcome.Outcome.TheVariants.{Replied, Blocks, Stopped, NoMemory}
use Rattle.sg_facts.specs.declared.trace.Item.{Item}
use Rattle.sg_facts.specs.declared.trace.Tag.{Tag}
use Rattle.sg_facts.specs.declared.trace.Tag.TheVariants.{Walk, Load, Client}
use Rattle.sg_plain.specs.sg_hist.Recovered.{is_replied}
use Rattle.sg_plain.specs.OneService.{one_service, workload_of}
use Rattle.sg_plain.specs.Plain.{Stage, first_stage, next_stage, next_turn, stage_from}
use Rattle.sg_plain.specs.Inside.Turns.{IsPlainPlay, after_turn, stage_after}
use Rattle.sg_plain.specs.sg_script.declared.script.Script.{Script}
use Rattle.sg_play.specs.Asked.{Asked, are_asked_so, asked_from, is_asked_so}
use Rattle.sg_play.specs.Following.Asking.{asked_by, asked_next}

both_so : (a b : Bool) → a ≡ true → b ≡ true → (a && b) ≡ true
both_so true true x y = refl
both_so true false x y = absurd (cc y)
both_so false b x y = absurd (cc x)

-- ---- items

-- one more item, of one more call
pub asked_more : (items : List Item) (asked : List Asked) (item : Item) (a : Asked) → are_asked_so items asked ≡ true → length items ≡ length asked → is_asked_so item a ≡ true
    → are_asked_so (items ++ item ∷ []) (asked ++ a ∷ []) ≡ true
asked_more [] [] item a is long own = both_so (is_asked_so item a) true own refl
asked_more [] (b ∷ asked) item a is long own = absurd (omega (arith, long))
asked_more (i ∷ items) [] item a is long own = absurd (omega (arith, long))
asked_more (i ∷ items) (b ∷ asked) item a is long own =
    let both = and_parts (is_asked_so i b) (are_asked_so items asked) is in
    both_so (is_asked_so i b) (are_asked_so (items ++ item ∷ []) (asked ++ a ∷ [])) both.0 (asked_more items asked item a both.1 (omega (arith, long)) own)

-- more calls after those of the items
pub asked_front : (items : List Item) (asked rest : List Asked) → are_asked_so items asked ≡ true → are_asked_so items (asked ++ rest) ≡ true
asked_front [] asked rest is = refl
asked_front (i ∷ items) [] rest is = absurd (cc is)
asked_front (i ∷ items) (b ∷ asked) rest is =
    let both = and_parts (is_asked_so i b) (are_asked_so items asked) is in
    both_so (is_asked_so i b) (are_asked_so items (asked ++ rest)) both.0 (asked_front items asked rest both.1)

-- whether an outcome is that of a call which has to wait or not, as it is told
abbrev pub is_outcome_so : Outcome → Bool → Bool
is_outcome_so outcome waited = elim outcome [ Stopped ↦ true | Blocks ↦ waited | _ ↦ not waited ]

pub replied_so : (o : Outcome) → is_replied o ≡ true → is_outcome_so o false ≡ true
replied_so (Replied reply patch) is = refl
replied_so Blocks is = absurd (cc is)
replied_so Stopped is = refl
replied_so NoMemory is = refl

-- whether a tag is of a client's call of this number
abbrev is_call_so : ℕ → ℕ → Tag → Bool
is_call_so client n tag = elim tag [ Client c q ↦ (c == client) && (q == n) | Walk id k c ↦ false | Load key c ↦ false ]

-- the item of a client's call
pub own_asked : (item : Item) (client seq n : ℕ) (waited : Bool) → item.tag ≡ Client client seq → seq ≡ n → is_outcome_so item.outcome waited ≡ true
    → is_asked_so item (record { client = client; seq = n; waited = waited }) ≡ true
own_asked item client seq n waited tag same out =
    both_so (is_call_so client n item.tag) (is_outcome_so item.outcome waited)
    (ap (is_call_so client n) tag ∙ both_so (client == client) (seq == n) (same_test client client refl) (same_test seq n same)) out

-- ---- turns

module _ (i : Declared) (ask : Table) (script : Script) where
  abbrev asks_at : Stage Entry → List Asked
  asks_at s = asked_next (one_service i ask script) s (next_turn (workload_of script) s)

  abbrev asked_of : Stage Entry → ℕ → List Asked
  asked_of s n = asked_from (one_service i ask script) (workload_of script) s n

  abbrev stage_then : Stage Entry → ℕ → Stage Entry
  stage_then s n = stage_from (one_service i ask script) (workload_of script) s n

  abbrev next : Stage Entry → Stage Entry
  next s = next_stage (one_service i ask script) (workload_of script) s

  -- one turn more at the end
  asked_on : (n : ℕ) (s : Stage Entry) → asked_of s (suc n) ≡ asked_of s n ++ asks_at (stage_then s n)
  asked_on zero s = append-nil (asks_at s)
  asked_on (suc n) s = ap (λ l. asks_at s ++ l) (asked_on n (next s)) ∙ sym (append_assoc (asks_at s) (asked_of (next s) n) (asks_at (stage_then (next s) n)))

  pub asked_one_more : (n : ℕ) → asked_by i ask script (suc n) ≡ asked_by i ask script n ++ asks_at (stage_after i ask script n)
  asked_one_more n = asked_on n (first_stage (workload_of script))

  -- nobody can take a turn
  asked_over : (s : Stage Entry) (n : ℕ) → next_turn (workload_of script) s ≡ None → asked_of s n ≡ []
  asked_over s zero over = refl
  asked_over s (suc n) over =
      let same : next s ≡ s = ap (after_turn (one_service i ask script) (workload_of script) s) over in
      ap (λ o. asked_next (one_service i ask script) s o ++ asked_of (next s) n) over ∙ ap (λ t. asked_of t n) same ∙ asked_over s n over

  asked_split : (s : Stage Entry) (m n : ℕ) → asked_of s (m + n) ≡ asked_of s m ++ asked_of (stage_then s m) n
  asked_split s zero n = ap (asked_of s) (let same : 0 + n ≡ n = omega arith in same)
  asked_split s (suc m) n =
      ap (asked_of s) (let same : suc m + n ≡ suc (m + n) = omega arith in same) ∙ ap (λ l. asks_at s ++ l) (asked_split (next s) m n)
      ∙ sym (append_assoc (asks_at s) (asked_of (next s) m) (asked_of (stage_then (next s) m) n))

  later_than : (m n : ℕ) → m ≤ n → asked_by i ask script n ≡ asked_by i ask script m ++ asked_of (stage_after i ask script m) (n - m)
  later_than m n least = ap (asked_by i ask script) (let same : n ≡ m + (n - m) = omega (arith, least) in same) ∙ asked_split (first_stage (workload_of script)) m (n - m)

  ends_at : (m n : ℕ) → m ≤ n → next_turn (workload_of script) (stage_after i ask script m) ≡ None → asked_by i ask script n ≡ asked_by i ask script m
  ends_at m n least over =
      later_than m n least ∙ ap (λ l. asked_by i ask script m ++ l) (asked_over (stage_after i ask script m) (n - m) over) ∙ append-nil (asked_by i ask script m)

  -- what so many turns ask is a front of what a play asks
  pub front_of_asked : (n : ℕ) (plain : List Entry) (play : IsPlainPlay i ask script plain) → (rest : List Asked) × (asked_by i ask script play.turns ≡ asked_by i ask script n ++ rest)
  front_of_asked n plain play = by (cases_lt n play.turns)
    where
      by : (n < play.turns) ⊎ (play.turns ≤ n) → (rest : List Asked) × (asked_by i ask script play.turns ≡ asked_by i ask script n ++ rest)
      by (inl less) = (asked_of (stage_after i ask script n) (play.turns - n), later_than n play.turns (omega (arith, less)))
      by (inr most) = ([], sym (ends_at play.turns n most play.over) ∙ sym (append-nil (asked_by i ask script n)))

  -- and all of it where nobody can take a turn
  pub whole_asked : (n : ℕ) (plain : List Entry) → next_turn (workload_of script) (stage_after i ask script n) ≡ None → (play : IsPlainPlay i ask script plain)
      → asked_by i ask script play.turns ≡ asked_by i ask script n
  whole_asked n plain over play = by (cases_lt n play.turns)
    where
      by : (n < play.turns) ⊎ (play.turns ≤ n) → asked_by i ask script play.turns ≡ asked_by i ask script n
      by (inl less) = ends_at n play.turns (omega (arith, less)) over
      by (inr most) = sym (ends_at play.turns n most play.over)
