-- What carrying a decision out does.
use Rattle.std.specs.Prelude.{ℕ, ◌≡◌, ◌+◌, ◌<◌, ◌≤◌, List, [], ◌∷◌, ◌++◌, None, Some, IsSome}
use Rattle.std.specs.declared.option.Option.{Option}
use Rattle.sg_facts.specs.sg_base.declared.reply.Reply.{Reply}
use Rattle.sg_facts.specs.sg_base.declared.reply.Reply.TheVariants.{Ok, Refused}
use Rattle.sg_facts.specs.sg_base.Stops.{asked_after}
use Rattle.sg_facts.specs.declared.outcome.Outcome.{Outcome}
use Rattle.sg_facts.specs.declared.outcome.Outcome.TheVariants.{Replied, Blocks, Stopped, NoMemory}
use Rattle.sg_facts.specs.Invoke.{Points}
use Rattle.sg_slots.specs.declared.decision.Decision.{Decision}
use Rattle.sg_slots.specs.declared.decision.Decision.TheVariants.{Refuse, Block, Make, Enlist, Set, Keep, Remove}
use Rattle.sg_slots.specs.Slots.{Held, entry_at, set_entry, without}

-- a word, or none
abbrev pub words_of : Option ℕ → List ℕ
words_of None = []
words_of (Some word) = word ∷ []

-- an Ok with a descriptor and a word, or none
abbrev pub ok_reply : ℕ → Option ℕ → Reply
ok_reply desc word = Ok (record { desc = desc; words = words_of word; bytes = [] })

-- a reply alone, or want of memory
abbrev pub AnswersOnly : Reply → Outcome → Type 0
AnswersOnly reply (Replied other None) = other ≡ reply
AnswersOnly reply (Replied other (Some patch)) = ⊥
AnswersOnly reply NoMemory = Unit {0}
AnswersOnly reply Blocks = ⊥
AnswersOnly reply Stopped = ⊥

module _ {E : Type 0} where
  -- the reply that belongs to a decision; None where the caller waits
  abbrev pub reply_to : Held E → Decision E → Option Reply
  reply_to held (Refuse code) = Some (Refused code)
  reply_to held Block = None
  reply_to held (Make e word) = Some (ok_reply (held.given + 1) word)
  reply_to held (Enlist e word) = Some (ok_reply (held.given + 1) word)
  reply_to held (Set e word) = Some (ok_reply 0 word)
  reply_to held (Keep desc word) = Some (ok_reply desc word)
  reply_to held Remove = Some (ok_reply 0 None)

  -- what slots hold after a decision on an id was carried out
  abbrev pub held_after : Held E → ℕ → Decision E → Held E
  held_after held id (Refuse code) = held
  held_after held id Block = held
  held_after held id (Make e word) = record { entries = held.entries ++ (held.given + 1, e) ∷ []; given = held.given + 1 }
  held_after held id (Enlist e word) = record { entries = held.entries ++ (held.given + 1, e) ∷ []; given = held.given + 1 }
  held_after held id (Set e word) = record { entries = set_entry held.entries id e; given = held.given }
  held_after held id (Keep desc word) = held
  held_after held id Remove = record { entries = without held.entries id; given = held.given }

  -- the number of parts of a decision
  abbrev pub parts_in : Decision E → ℕ
  parts_in (Refuse code) = 0
  parts_in Block = 0
  parts_in (Make e word) = 2
  parts_in (Enlist e word) = 3
  parts_in (Set e word) = 1
  parts_in (Keep desc word) = 0
  parts_in Remove = 1

  -- the decision was carried out: its reply, its change, and each of its parts asked
  pub record IsDone (old : Held E) (id : ℕ) (d : Decision E) (points : Points) (reply : Reply) (new : Held E) (later : Points) : Type 0 where
    pub answered : reply_to old d ≡ Some reply
    pub changed : new ≡ held_after old id d
    pub asked : later.asked ≡ asked_after points.asked (parts_in d)
    pub struck : later.struck ≡ points.struck

  -- a part of it struck, which was the last that was asked
  pub record IsCut (d : Decision E) (points later : Points) : Type 0 where
    pub first : points.asked < later.asked
    pub last : later.asked ≤ points.asked + parts_in d
    pub struck : later.struck ≡ points.struck ++ later.asked ∷ []

  -- nothing changed, and no point was asked
  pub record IsSame (old : Held E) (points : Points) (new : Held E) (later : Points) : Type 0 where
    pub same : new ≡ old
    pub unasked : later ≡ points

  -- what carrying a decision on an id out does, by its outcome
  abbrev pub Carries : Held E → ℕ → Decision E → Points → Outcome → Held E → Points → Type 0
  Carries old id d points (Replied reply None) new later = IsDone old id d points reply new later
  Carries old id d points (Replied reply (Some patch)) new later = ⊥
  Carries old id d points Blocks new later = (reply_to old d ≡ None) × IsSame old points new later
  Carries old id d points Stopped new later = IsCut d points later
  Carries old id d points NoMemory new later = IsSame old points new later

  -- a decision that sets or ends a descriptor is about one that is there
  abbrev pub IsAbout : Held E → ℕ → Decision E → Type 0
  IsAbout held id (Set e word) = IsSome (entry_at held.entries id)
  IsAbout held id Remove = IsSome (entry_at held.entries id)
  IsAbout held id _ = Unit {0}

  -- what adding an entry under the next id, in two parts, does, by its outcome
  abbrev pub Adds : List (ℕ × E) → ℕ → E → Reply → Points → Outcome → List (ℕ × E) → ℕ → Points → Type 0
  Adds old given e reply points (Replied other None) new last later =
      (other ≡ reply) × (new ≡ old ++ (given + 1, e) ∷ []) × (last ≡ given + 1) × (later.asked ≡ asked_after points.asked 2) × (later.struck ≡ points.struck)
  Adds old given e reply points (Replied other (Some patch)) new last later = ⊥
  Adds old given e reply points Blocks new last later = ⊥
  Adds old given e reply points Stopped new last later =
      (points.asked < later.asked) × (later.asked ≤ points.asked + 2) × (later.struck ≡ points.struck ++ later.asked ∷ [])
  Adds old given e reply points NoMemory new last later = (new ≡ old) × (last ≡ given) × (later ≡ points)
