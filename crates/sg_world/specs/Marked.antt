-- What the marks of a world tell: its entries, its withdrawn calls, and how far each client has come.
use Rattle.std.specs.Prelude.{ℕ, ◌≡◌, ◌+◌, ◌==◌, Bool, true, false, List, [], ◌∷◌, None, Some, filter, if◌then◌else◌, map}
use Rattle.std.specs.declared.option.Option.{Option}
use Rattle.sg_clients.specs.WorldView.{Seat, WorldView, is_offered}
use Rattle.sg_clients.specs.declared.mark.Mark.{Mark}
use Rattle.sg_clients.specs.declared.mark.MarkKind.{MarkKind}
use Rattle.sg_clients.specs.declared.mark.MarkKind.TheVariants.{Offer, Entry, Answer, Withdraw, Leave}
use Rattle.sg_clients.specs.declared.phase.Phase.{Phase}
use Rattle.sg_clients.specs.declared.phase.Phase.TheVariants.{Idle, Receipted, Left}

-- whether a mark is that of an entry
abbrev pub is_entry_mark : MarkKind → Bool
is_entry_mark Entry = true
is_entry_mark Offer = false
is_entry_mark Answer = false
is_entry_mark Withdraw = false
is_entry_mark Leave = false

-- whether a mark is that of a withdrawn call
abbrev pub is_withdrawal_mark : MarkKind → Bool
is_withdrawal_mark Withdraw = true
is_withdrawal_mark Offer = false
is_withdrawal_mark Entry = false
is_withdrawal_mark Answer = false
is_withdrawal_mark Leave = false

-- the clients of the marks of some kinds, in their order
abbrev pub marked_as : (MarkKind → Bool) → List Mark → List ℕ
marked_as test marks = map (λ m. m.client) (filter (λ m. test m.kind) marks)

-- the later of two things that happened, or the earlier where nothing happened later
abbrev pub or_later : Option MarkKind → Option MarkKind → Option MarkKind
or_later before None = before
or_later before (Some kind) = Some kind

-- what happened to a client last
abbrev pub last_kind : List Mark → ℕ → Option MarkKind
last_kind [] client = None
last_kind (m ∷ marks) client = or_later (if m.client == client then Some m.kind else None) (last_kind marks client)

-- a phase is that of a client to which this happened last
abbrev pub IsPhaseAfter : Option MarkKind → Phase → Type 0
IsPhaseAfter None phase = phase ≡ Idle
IsPhaseAfter (Some Offer) phase = is_offered phase ≡ true
IsPhaseAfter (Some Entry) phase = phase ≡ Receipted
IsPhaseAfter (Some Answer) phase = phase ≡ Idle
IsPhaseAfter (Some Withdraw) phase = phase ≡ Idle
IsPhaseAfter (Some Leave) phase = phase ≡ Left

-- the seats of the clients from a number on are in the phases that the marks tell
abbrev pub AreTold : List Mark → ℕ → List Seat → Type 0
AreTold marks client [] = Unit {0}
AreTold marks client (s ∷ seats) = IsPhaseAfter (last_kind marks client) s.phase × AreTold marks (client + 1) seats

-- the marks of entries are those of the history, one by one, those of withdrawals those of the withdrawn calls, and the last mark of a
-- client tells its phase
pub record TellsAll (w : WorldView) : Type 0 where
  pub entries : marked_as is_entry_mark w.marks ≡ map (λ e. e.call.client) w.history
  pub withdrawals : marked_as is_withdrawal_mark w.marks ≡ map (λ x. x.call.client) w.withdrawn
  pub phases : AreTold w.marks 1 w.seats
