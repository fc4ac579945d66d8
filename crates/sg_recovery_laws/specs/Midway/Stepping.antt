-- One more call of a walk is replayed.
use Rattle.std.specs.Prelude.{ℕ, suc, ◌≡◌, ◌==◌, ◌||◌, ◌&&◌, Bool, if◌then◌else◌, List, [], ◌∷◌, None, Some, length}
use Rattle.std.specs.Str.{bytes_eq}
use Rattle.std.specs.declared.option.Option.{Option}
use Rattle.sg_facts.specs.sg_base.declared.call.Call.{Call}
use Rattle.sg_facts.specs.declared.outcome.Patch.{Patch}
use Rattle.sg_facts.specs.Facts.{Facts, fun_at}
use Rattle.sg_facts.specs.sg_base.declared.reply.Good.{Good}
use Rattle.sg_facts.specs.sg_base.declared.reply.Reply.TheVariants.{Ok}
use Rattle.sg_facts.specs.declared.row.Row.{Row}
use Rattle.sg_facts.specs.declared.tables.WalkLine.{WalkLine}
use Rattle.sg_facts.specs.Interface.{Declared}
use Rattle.sg_facts.specs.Kinds.{MayAsk}
use Rattle.sg_facts.specs.Laws.{names_after, next_call}
use Rattle.sg_facts.specs.Legal.{Table}
use Rattle.sg_facts.specs.Object.{Object, after}
use Rattle.sg_recovery_laws.specs.Midway.Progress.{IsInRecovery, Told, begun, complete}

-- what is told of a row whose walk has come so far
abbrev pub so_far : List ℕ → ℕ → Told
so_far [] n = complete
so_far (f ∷ rest) n = begun n

-- what is told after it
abbrev pub told_after : (ℕ → Told) → ℕ → List ℕ → List ℕ → ℕ → Told
told_after told id done rest other = if other == id then so_far rest (suc (length done)) else told other

-- the next replayed call of a row may be asked, is answered Ok, and brings the row one step on
pub record IsStepped (i : Declared) (ask : Table) (walks : List WalkLine) (names : List (ℕ × ℕ)) (told : ℕ → Told) (present : List ℕ → Bool) (o held : Object) (r : Row) (done rest : List ℕ) (fun : ℕ) : Type 0 where
  pub may_ask : MayAsk i.facts held (next_call i.facts names r done fun)
  pub good : Good
  pub answered : ask held (next_call i.facts names r done fun) ≡ Some (Ok good)
  pub under_way : IsInRecovery i walks (names_after names r done good) (told_after told r.id done rest) present o (after i.facts held (next_call i.facts names r done fun) (Ok good))

-- what is told after an answered call: what it makes is whole
abbrev pub told_with : Facts → Call → Good → (ℕ → Told) → ℕ → Told
told_with facts call good told other = if (fun_at facts.funs call.fun).creation && (other == good.desc) then complete else told other

-- which files are present after a patch
abbrev pub present_with : Option Patch → (List ℕ → Bool) → List ℕ → Bool
present_with None present path = present path
present_with (Some p) present path = present path || bytes_eq p.key path
