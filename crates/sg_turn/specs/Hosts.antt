-- What the events of a host add to its log.
use Rattle.std.specs.Prelude.{◌≡◌, ℕ, ◌⊎◌, List, [], ◌∷◌, ◌++◌}
use Rattle.sg_facts.specs.sg_base.declared.call.Call.{Call}
use Rattle.sg_facts.specs.sg_base.declared.reply.Reply.{Reply}
use Rattle.sg_turn.specs.declared.log.LogMark.{LogMark}
use Rattle.sg_turn.specs.declared.log.LogMarkKind.TheVariants.{Entry, Answer, Leave}
use Rattle.sg_turn.specs.declared.host.Stepped.{Stepped}
use Rattle.sg_turn.specs.declared.host.Stepped.TheVariants.{GoesOn, Answered}
use Rattle.sg_turn.specs.Told.{mark_by, standing_in, left, asking, has_reply}

-- nothing was added, or the entry of the client's call
abbrev pub AddsEntryAtMost : ℕ → List LogMark → List LogMark → Type 0
AddsEntryAtMost client old new =
    (new ≡ old) ⊎ ((call : Call) × (reply : Reply) × (standing_in client old ≡ asking call) × (new ≡ old ++ mark_by client (Entry call reply) ∷ []))

-- a reply was handed over, after the entry of its call or at once with it
abbrev pub AddsAnswer : ℕ → Reply → List LogMark → List LogMark → Type 0
AddsAnswer client reply old new =
    ((call : Call) × (standing_in client old ≡ has_reply call reply) × (new ≡ old ++ mark_by client Answer ∷ []))
    ⊎ ((call : Call) × (standing_in client old ≡ asking call) × (new ≡ old ++ mark_by client (Entry call reply) ∷ mark_by client Answer ∷ []))

-- what a step adds, by what it answers
abbrev pub AddsStep : ℕ → List LogMark → Stepped → List LogMark → Type 0
AddsStep client old GoesOn new = AddsEntryAtMost client old new
AddsStep client old (Answered reply) new = AddsAnswer client reply old new

-- a client has left, by this event or before
abbrev pub AddsLeave : ℕ → List LogMark → List LogMark → Type 0
AddsLeave client old new = (new ≡ old ++ mark_by client Leave ∷ []) ⊎ ((standing_in client old ≡ left) × (new ≡ old))
