-- What is done with the pages, by its outcome.
use Rattle.std.specs.Prelude.{ℕ, ◌≡◌, ◌+◌, ◌<◌, ◌≤◌, true, not, if◌then◌else◌, [], ◌∷◌, ◌++◌, None, Some, filter}
use Rattle.std.specs.declared.option.Option.{Option}
use Rattle.std.specs.List.{list_any}
use Rattle.sg_facts.specs.sg_base.declared.call.Call.{Call}
use Rattle.sg_facts.specs.sg_base.declared.reply.Code.TheVariants.{NotFound, Occupied}
use Rattle.sg_facts.specs.sg_base.declared.reply.Reply.{Reply}
use Rattle.sg_facts.specs.sg_base.declared.reply.Reply.TheVariants.{Ok, Refused}
use Rattle.sg_facts.specs.sg_base.Stops.{asked_after}
use Rattle.sg_facts.specs.declared.outcome.Outcome.{Outcome}
use Rattle.sg_facts.specs.declared.outcome.Outcome.TheVariants.{Replied, Blocks, Stopped, NoMemory}
use Rattle.sg_facts.specs.Invoke.{Points}
use Rattle.sg_facts.specs.Track.{ends_with, is_live}
use Rattle.sg_slots.specs.Slots.{Held, rows_of}
use Rattle.sg_mm.specs.declared.page.Page.{Page}
use Rattle.sg_mm.specs.MmFacts.{mm_facts}
use Rattle.sg_mm.specs.MmRow.{page_body}
use Rattle.sg_mm.specs.MmTable.{is_at, number_at}

-- all was done: the reply, the change, and each part asked
pub record IsDone (parts : ℕ) (answer : Reply) (after : Held Page) (points : Points) (reply : Reply) (new : Held Page) (later : Points) : Type 0 where
  pub answered : reply ≡ answer
  pub changed : new ≡ after
  pub asked : later.asked ≡ asked_after points.asked parts
  pub struck : later.struck ≡ points.struck

-- a part struck, the last that was asked
pub record IsBrokenOff (parts : ℕ) (points later : Points) : Type 0 where
  pub first : points.asked < later.asked
  pub last : later.asked ≤ points.asked + parts
  pub struck : later.struck ≡ points.struck ++ later.asked ∷ []

-- memory was wanting: nothing changed, and no point was asked
pub record IsSame (old : Held Page) (points : Points) (new : Held Page) (later : Points) : Type 0 where
  pub same : new ≡ old
  pub unasked : later ≡ points

-- a change in so many parts, with its answer
abbrev pub Does : ℕ → Reply → Held Page → Held Page → Points → Outcome → Held Page → Points → Type 0
Does parts answer old after points (Replied reply None) new later = IsDone parts answer after points reply new later
Does parts answer old after points (Replied reply (Some patch)) new later = ⊥
Does parts answer old after points Blocks new later = ⊥
Does parts answer old after points Stopped new later = IsBrokenOff parts points later
Does parts answer old after points NoMemory new later = IsSame old points new later

-- an Ok with a descriptor
abbrev pub ok_about : ℕ → Reply
ok_about desc = Ok (record { desc = desc; words = []; bytes = [] })

-- ---- a new page

-- two parts for a page of its own, three for one below another
abbrev pub new_parts : Option ℕ → ℕ
new_parts None = 2
new_parts (Some parent) = 3

-- a page, where there is another that it is below
abbrev pub hung : Page → Option ℕ → Page
hung page None = page
hung page (Some parent) = record page { parent = parent }

-- a page that another is to be below is there
abbrev pub MayHang : Held Page → Option ℕ → Type 0
MayHang held None = Unit {0}
MayHang held (Some parent) = is_live (rows_of page_body held.entries) parent ≡ true

-- a page more, under the next id
abbrev pub held_with : Held Page → Page → Held Page
held_with held page = record { entries = held.entries ++ (held.given + 1, page) ∷ []; given = held.given + 1 }

-- the reply to a new page: where its place is taken it is refused
abbrev pub new_reply : Held Page → Page → Reply
new_reply held page = if list_any (is_at page.space page.addr) (rows_of page_body held.entries) then Refused Occupied else ok_about (held.given + 1)

-- what is held after that
abbrev pub after_new : Held Page → Page → Option ℕ → Held Page
after_new held page below = if list_any (is_at page.space page.addr) (rows_of page_body held.entries) then held else held_with held (hung page below)

-- the parts that it took
abbrev pub parts_of_new : Held Page → Page → Option ℕ → ℕ
parts_of_new held page below = if list_any (is_at page.space page.addr) (rows_of page_body held.entries) then 0 else new_parts below

-- the page that mman_get_page makes
abbrev pub got_page : Call → Page
got_page call = record { made = 1; creator = call.client; parent = 0; space = call.client; addr = number_at call 0 }

-- the page that mman_alias_page makes, before it hangs below another
abbrev pub alias_page : Call → Page
alias_page call = record { made = 2; creator = call.client; parent = 0; space = number_at call 0; addr = number_at call 1 }

-- ---- the end of pages

-- what is held when a page has ended with all below it
abbrev pub held_without : Held Page → ℕ → Held Page
held_without held id = record { entries = filter (λ e. not (ends_with mm_facts (rows_of page_body held.entries) id e.0)) held.entries; given = held.given }

-- ---- what is found

-- the reply that tells a page, or that there is none
abbrev pub found_reply : Option ℕ → Reply
found_reply None = Refused NotFound
found_reply (Some id) = ok_about id
