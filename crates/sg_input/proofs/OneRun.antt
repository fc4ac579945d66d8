-- An input with a printed run is one thing.
use Rattle.std.proofs.Common.{◌≡◌, ℕ, List, IfOk, sym, ◌∙◌, ap}
use Rattle.std.specs.Prelude.{Ok, Err}
use Rattle.std.specs.declared.result.Result.{Result}
use Rattle.sg_facts.specs.sg_base.Room.{Roomy}
use Rattle.sg_facts.specs.sg_base.declared.memory.NoMemory.{NoMemory}
use Rattle.sg_facts.specs.Facts.{Facts}
use Rattle.sg_facts.specs.Interface.{Declared}
use Rattle.sg_facts.specs.declared.entry.Entry.{Entry}
use Rattle.sg_entries.proofs.Unique.{one_reading}
use Rattle.sg_entries.specs.Entry.{shows_named}
use Rattle.sg_entries.specs.declared.error.EntriesError.{EntriesError}
use Rattle.sg_entries.specs.declared.error.EntriesError.TheVariants.{NoMemory as no_room, Fault}
use Rattle.sg_entries.specs.declared.error.EntriesKind.{EntriesKind}
use Rattle.sg_input.specs.declared.read.Read.{Read}
use Rattle.sg_input.specs.declared.read.Read.TheVariants.{Ready, Refused}
use Rattle.sg_input.specs.Inputs.{IsHistoryOf, IsRunInputOf, IsRunReady, IsSameRun, Judging, most_run}
use Rattle.sg_input.specs.Inside.Said.{run_line}
use Rattle.sg_input.proofs.OneInput.{IsOneJudging, never_read, one_line, one_read}

abbrev Answer : Type 0
Answer = Result (List Entry) EntriesError

read_well : (history : List Entry) → ◌≡◌ {A = Answer} (Ok history) (Err no_room) → ⊥
read_well history e = absurd cc

read_ill : (kind : EntriesKind) (at : ℕ) → ◌≡◌ {A = Answer} (Err (Fault kind at)) (Err no_room) → ⊥
read_ill kind at e = absurd cc

-- a text prints one history, or has one fault first
one_history : (services : List Facts) (i : Declared) (text : List ℕ) (one other : Read (List Entry)) → IsHistoryOf services i text one → IsHistoryOf services i text other → one ≡ other
one_history services i text (Ready one) (Ready other) r s =
    let same : ◌≡◌ {A = Answer} (Ok one) (Ok other) = one_reading (shows_named services i) i text (Ok one) (Ok other) r s (read_well one) (read_well other) in
    let histories : one ≡ other = cc same in
    ap Ready histories
one_history services i text (Ready history) (Refused line) r (kind, at, s, is) =
    let same : ◌≡◌ {A = Answer} (Ok history) (Err (Fault kind at)) = one_reading (shows_named services i) i text (Ok history) (Err (Fault kind at)) r s (read_well history) (read_ill kind at) in absurd cc
one_history services i text (Refused line) (Ready history) (kind, at, s, is) r =
    let same : ◌≡◌ {A = Answer} (Ok history) (Err (Fault kind at)) = one_reading (shows_named services i) i text (Ok history) (Err (Fault kind at)) r s (read_well history) (read_ill kind at) in absurd cc
one_history services i text (Refused line) (Refused line') (kind, at, r, is) (kind', at', s, is') =
    let same : ◌≡◌ {A = Answer} (Err (Fault kind at)) (Err (Fault kind' at')) =
    one_reading (shows_named services i) i text (Err (Fault kind at)) (Err (Fault kind' at')) r s (read_ill kind at) (read_ill kind' at') in
    let kinds : kind ≡ kind' = cc same in
    let places : at ≡ at' = cc same in
    ap Refused (is ∙ ap (λ k. run_line text k at) kinds ∙ ap (run_line text kind') places ∙ sym is')

module _ (judging : Judging) (alone : IsOneJudging judging) (input : List ℕ) where
  -- an input isn't refused and ready
  pub never_ready : (line : List ℕ) (i : Declared) (history : List Entry) → IsRunInputOf judging input (Refused line) → IsRunReady judging input i history → ⊥
  never_ready line i history = never_read most_run judging alone input (IsHistoryOf judging.services) (one_history judging.services) line i history

  -- it is ready with one interface and one history
  pub one_ready : (i j : Declared) (history history' : List Entry) → IsRunReady judging input i history → IsRunReady judging input j history' → (i ≡ j) × (history ≡ history')
  one_ready i j history history' = one_read most_run judging alone input (IsHistoryOf judging.services) (one_history judging.services) i j history history'

  pub one_input : (one other : Read (Declared × Roomy Entry)) → IsRunInputOf judging input one → IsRunInputOf judging input other → IsSameRun one other
  one_input (Refused line) (Refused line') a b = one_line most_run judging alone input (IsHistoryOf judging.services) (one_history judging.services) line line' a b
  one_input (Refused line) (Ready (i, history)) a b = never_ready line i history.items a b
  one_input (Ready (i, history)) (Refused line) a b = never_ready line i history.items b a
  one_input (Ready (i, history)) (Ready (j, history')) a b = one_ready i j history.items history'.items a b

  -- where it is answered at all, it is that one
  pub only : (answer : Result (Read (Declared × Roomy Entry)) NoMemory) → IfOk answer (IsRunInputOf judging input)
      → (other : Read (Declared × Roomy Entry)) → IsRunInputOf judging input other → IfOk answer (λ v. IsSameRun v other)
  only (Ok v) is other said = one_input v other is said
  only (Err e) is other said = tt
