-- What is done with the pages is what the table says.
use Rattle.std.proofs.Common.{◌≡◌, ℕ, ◌+◌, true, false, cond, None, Some, refl, sym, ◌∙◌, ap, subst, arith}
use Rattle.std.specs.List.{list_any}
use Rattle.std.specs.Option.{is_some}
use Rattle.std.specs.declared.option.Option.{Option}
use Rattle.std.specs.declared.result.Result.{Result}
use Rattle.std.specs.declared.result.Result.TheVariants.{Ok, Err}
use Rattle.std.specs.Result.{is_err, OnOk}
use Rattle.std.specs.BTreeMap.{BTreeMap}
use Rattle.std.specs.BTreeSet.{BTreeSet}
use Rattle.sg_facts.specs.sg_base.declared.reply.Code.TheVariants.{Occupied}
use Rattle.sg_facts.specs.sg_base.declared.reply.Reply.{Reply}
use Rattle.sg_facts.specs.sg_base.declared.reply.Reply.TheVariants.{Refused}
use Rattle.sg_facts.specs.sg_base.Stops.{asked_after}
use Rattle.sg_facts.specs.declared.outcome.Outcome.{Outcome}
use Rattle.sg_facts.specs.declared.outcome.Outcome.TheVariants.{Replied}
use Rattle.sg_facts.specs.declared.outcome.Patch.{Patch}
use Rattle.sg_facts.specs.Invoke.{Points}
use Rattle.sg_slots.specs.Slots.{Held}
use Rattle.sg_mm.specs.declared.child.Child.{Child}
use Rattle.sg_mm.specs.declared.page.Page.{Page}
use Rattle.sg_mm.specs.declared.page.PageKey.{PageKey}
use Rattle.sg_mm.specs.Inside.MmDoes.{Does, IsDone, after_new, held_with, hung, new_parts, new_reply, ok_about, parts_of_new}
use Rattle.sg_mm.specs.Inside.MmIndex.{AreIndexed, id_in}
use Rattle.sg_mm.specs.MmTable.{is_at}
use Rattle.sg_mm.proofs.Indexed.{rows, taken}

-- what is said of a result that is an Ok
pub if_done : {A B : Type 0} (r : Result A B) (P : Type 0) → is_err r ≡ false → OnOk r P → P
if_done (Ok a) P is holds = holds
if_done (Err e) P is holds = absurd (cc is)

-- no part was asked
none_asked : (a : ℕ) → a ≡ asked_after a 0
none_asked a = omega arith

-- a reply comes with the change
pub changed_so : (parts : ℕ) (answer : Reply) (old after : Held Page) (points : Points) (reply : Reply) (patch : Option Patch) (new : Held Page) (later : Points)
    → Does parts answer old after points (Replied reply patch) new later → new ≡ after
changed_so parts answer old after points reply None new later does = does.changed
changed_so parts answer old after points reply (Some patch) new later does = absurd does

-- the place of a page is taken where the index has an id for it
pub taken_by : (held : Held Page) (places : BTreeMap PageKey ℕ) (children : BTreeSet Child) (place : PageKey) (page : Page) → AreIndexed held places children → place.space ≡ page.space → place.addr ≡ page.addr
    → is_some (id_in places place) ≡ list_any (is_at page.space page.addr) (rows held.entries)
taken_by held places children place page are space addr =
    taken held places children place are ∙ ap (λ s. list_any (is_at s place.addr) (rows held.entries)) space ∙ ap (λ a. list_any (is_at page.space a) (rows held.entries)) addr

module _ (held : Held Page) (page : Page) (below : Option ℕ) (points : Points) where
  -- a page whose place is taken is refused
  pub refused : list_any (is_at page.space page.addr) (rows held.entries) ≡ true → IsDone (parts_of_new held page below) (new_reply held page) (after_new held page below) points (Refused Occupied) held points
  refused is =
      subst (λ b. IsDone (cond b 0 (new_parts below)) (cond b (Refused Occupied) (ok_about (held.given + 1))) (cond b held (held_with held (hung page below))) points (Refused Occupied) held points) (sym is)
      (record { answered = refl; changed = refl; asked = none_asked points.asked; struck = refl })

  -- a page whose place is free is made
  pub made : (outcome : Outcome) (new : Held Page) (later : Points) → list_any (is_at page.space page.addr) (rows held.entries) ≡ false
      → Does (new_parts below) (ok_about (held.given + 1)) held (held_with held (hung page below)) points outcome new later
      → Does (parts_of_new held page below) (new_reply held page) held (after_new held page below) points outcome new later
  made outcome new later is does =
      subst (λ b. Does (cond b 0 (new_parts below)) (cond b (Refused Occupied) (ok_about (held.given + 1))) held (cond b held (held_with held (hung page below))) points outcome new later) (sym is) does

-- points, one after the other
pub asked_twice : (a : ℕ) → asked_after (asked_after a 1) 1 ≡ asked_after a 2
asked_twice a = omega arith

pub asked_thrice : (a : ℕ) → asked_after (asked_after (asked_after a 1) 1) 1 ≡ asked_after a 3
asked_thrice a = omega arith
