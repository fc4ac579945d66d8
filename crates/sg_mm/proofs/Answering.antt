-- What the service does with a call is what its table says.
use Rattle.std.proofs.Common.{◌≡◌, ℕ, ◌+◌, Bool, true, false, cond, not, List, [], ◌∷◌, ◌++◌, None, Some, refl, sym, ◌∙◌, ap, subst, arith}
use Rattle.std.specs.List.{list_any}
use Rattle.sg_facts.specs.sg_base.declared.value.Value.{Value}
use Rattle.sg_facts.specs.sg_base.declared.value.Value.TheVariants.{Word, Text}
use Rattle.sg_facts.specs.sg_base.declared.call.Call.{Call}
use Rattle.sg_facts.specs.sg_base.declared.reply.Code.TheVariants.{Occupied}
use Rattle.sg_facts.specs.sg_base.declared.reply.Reply.{Reply}
use Rattle.sg_facts.specs.sg_base.declared.reply.Reply.TheVariants.{Ok, Refused}
use Rattle.sg_facts.specs.sg_base.Stops.{asked_after}
use Rattle.sg_facts.specs.declared.outcome.Outcome.{Outcome}
use Rattle.sg_facts.specs.declared.outcome.Outcome.TheVariants.{Replied, Blocks, Stopped, NoMemory}
use Rattle.sg_facts.specs.declared.row.Row.{Row}
use Rattle.sg_facts.specs.Facts.{fun_at}
use Rattle.sg_facts.specs.Invoke.{Invokes, Points, parts_of}
use Rattle.sg_facts.specs.Kinds.{kinds_fit}
use Rattle.sg_facts.specs.Object.{Object, after, patch_of}
use Rattle.sg_facts.specs.Track.{arg_at, ends_with}
use Rattle.sg_slots.specs.Slots.{Held, object_of}
use Rattle.sg_mm.specs.declared.page.Page.{Page}
use Rattle.sg_mm.specs.Inside.MmDoes.{Does, IsBrokenOff, after_new, alias_page, got_page, held_with, held_without, hung, new_reply, ok_about, parts_of_new}
use Rattle.sg_mm.specs.MmFacts.{mm_facts}
use Rattle.sg_mm.specs.MmRow.{page_body}
use Rattle.sg_mm.specs.MmTable.{is_at, mm_parts, mm_table, number_at}
use Rattle.sg_mm.proofs.Indexed.{rows, rows-left, rows-more}

-- the object that pages stand for
abbrev object : Held Page → Object
object held = object_of page_body held

-- what was done is what a call asks for
abbrev Done : Held Page → Call → Points → Outcome → Held Page → Points → Type 0
Done held call points outcome new later = Invokes mm_facts mm_table mm_parts (object held) call points outcome (object new) later

-- no part of a refusal strikes
never_cut : (points later : Points) → IsBrokenOff 0 points later → ⊥
never_cut points later cut = omega (arith, cut.first, cut.last)

module _ (held done : Held Page) (call : Call) (reply : Reply) (points : Points)
    (asks : mm_table (object held) call ≡ Some reply) (changes : object done ≡ after mm_facts (object held) call reply) (unwritten : patch_of mm_facts (object held) call reply ≡ None) where
  pub does_so : (outcome : Outcome) (new : Held Page) (later : Points) → Does (parts_of mm_parts call reply) reply held done points outcome new later → Done held call points outcome new later
  does_so (Replied other None) new later does = record {
    answered = asks ∙ ap (λ r. Some r) (sym does.answered);
    changed = ap object does.changed ∙ changes ∙ ap (after mm_facts (object held) call) (sym does.answered);
    written = sym (ap (patch_of mm_facts (object held) call) does.answered ∙ unwritten);
    asked = does.asked ∙ ap (λ r. asked_after points.asked (parts_of mm_parts call r)) (sym does.answered);
    struck = does.struck;
  }
  does_so (Replied other (Some patch)) new later does = absurd does
  does_so Blocks new later does = absurd does
  does_so Stopped new later does = at reply refl does
    where
      at : (r : Reply) → reply ≡ r → IsBrokenOff (parts_of mm_parts call r) points later → Done held call points Stopped new later
      at (Ok good) is cut = record { answered = (good, asks ∙ ap (λ r. Some r) is); first = cut.first; last = cut.last; struck = cut.struck }
      at (Refused code) is cut = absurd (never_cut points later cut)
  does_so NoMemory new later does = record { same = ap object does.same; unasked = does.unasked }

-- ---- arguments that are numbers

one_number : (args : List Value) → kinds_fit (fun_at mm_facts.funs 1).kinds args ≡ true → (call : Call) → call.args ≡ args → Word (number_at call 0) ≡ arg_at call 0
one_number [] fit call is = absurd (cc fit)
one_number (Text bytes ∷ args) fit call is = absurd (cc fit)
one_number (Word n ∷ args) fit call is = subst (λ values. Word (number_at (record call { args = values }) 0) ≡ arg_at (record call { args = values }) 0) (sym is) refl

two_numbers : (args : List Value) → kinds_fit (fun_at mm_facts.funs 2).kinds args ≡ true → (call : Call) → call.args ≡ args
    → (Word (number_at call 0) ≡ arg_at call 0) × (Word (number_at call 1) ≡ arg_at call 1)
two_numbers [] fit call is = absurd (cc fit)
two_numbers (Text bytes ∷ args) fit call is = absurd (cc fit)
two_numbers (Word m ∷ []) fit call is = absurd (cc fit)
two_numbers (Word m ∷ Text bytes ∷ args) fit call is = absurd (cc fit)
two_numbers (Word m ∷ Word n ∷ args) fit call is =
    subst (λ values. (Word (number_at (record call { args = values }) 0) ≡ arg_at (record call { args = values }) 0) × (Word (number_at (record call { args = values }) 1) ≡ arg_at (record call { args = values }) 1))
    (sym is) (refl, refl)

-- ---- each function

module _ (held : Held Page) (client seq desc : ℕ) (args : List Value) (points : Points) where
  abbrev call_of : ℕ → Call
  call_of fun = record { client = client; seq = seq; fun = fun; desc = desc; args = args }

  abbrev with_rows : ℕ → List Row → Object
  with_rows given rs = record { rows = rs; files = []; given = given }

  pub get_right : (outcome : Outcome) (new : Held Page) (later : Points) → kinds_fit (fun_at mm_facts.funs 1).kinds args ≡ true
      → Does (parts_of_new held (got_page (call_of 1)) None) (new_reply held (got_page (call_of 1))) held (after_new held (got_page (call_of 1)) None) points outcome new later → Done held (call_of 1) points outcome new later
  get_right outcome new later fit does = at (list_any (is_at client (number_at (call_of 1) 0)) (rows held.entries)) refl
    where
      page : Page
      page = got_page (call_of 1)

      at : (b : Bool) → list_any (is_at client (number_at (call_of 1) 0)) (rows held.entries) ≡ b → Done held (call_of 1) points outcome new later
      at true taken =
          does_so held held (call_of 1) (Refused Occupied) points (ap (λ b. cond b (Some (Refused Occupied)) (Some (ok_about (held.given + 1)))) taken) refl refl outcome new later
          (subst (λ b. Does (cond b 0 2) (cond b (Refused Occupied) (ok_about (held.given + 1))) held (cond b held (held_with held page)) points outcome new later) taken does)
      at false free =
          does_so held (held_with held page) (call_of 1) (ok_about (held.given + 1)) points (ap (λ b. cond b (Some (Refused Occupied)) (Some (ok_about (held.given + 1)))) free)
          (ap (with_rows (held.given + 1)) (rows-more held.entries (held.given + 1, page)
          ∙ ap (λ v. rows held.entries ++ record { id = held.given + 1; made = 1; creator = client; parent = 0; state = 1; fields = Word client ∷ v ∷ [] } ∷ []) (one_number args fit (call_of 1) refl)))
          refl outcome new later
          (subst (λ b. Does (cond b 0 2) (cond b (Refused Occupied) (ok_about (held.given + 1))) held (cond b held (held_with held page)) points outcome new later) free does)

  pub alias_right : (outcome : Outcome) (new : Held Page) (later : Points) → kinds_fit (fun_at mm_facts.funs 2).kinds args ≡ true
      → Does (parts_of_new held (alias_page (call_of 2)) (Some desc)) (new_reply held (alias_page (call_of 2))) held (after_new held (alias_page (call_of 2)) (Some desc)) points outcome new later
      → Done held (call_of 2) points outcome new later
  alias_right outcome new later fit does = at (list_any (is_at (number_at (call_of 2) 0) (number_at (call_of 2) 1)) (rows held.entries)) refl
    where
      page : Page
      page = hung (alias_page (call_of 2)) (Some desc)

      row_of : Value → Value → Row
      row_of v w = record { id = held.given + 1; made = 2; creator = client; parent = desc; state = 2; fields = v ∷ w ∷ [] }

      at : (b : Bool) → list_any (is_at (number_at (call_of 2) 0) (number_at (call_of 2) 1)) (rows held.entries) ≡ b → Done held (call_of 2) points outcome new later
      at true taken =
          does_so held held (call_of 2) (Refused Occupied) points (ap (λ b. cond b (Some (Refused Occupied)) (Some (ok_about (held.given + 1)))) taken) refl refl outcome new later
          (subst (λ b. Does (cond b 0 3) (cond b (Refused Occupied) (ok_about (held.given + 1))) held (cond b held (held_with held page)) points outcome new later) taken does)
      at false free =
          let numbers = two_numbers args fit (call_of 2) refl in
          does_so held (held_with held page) (call_of 2) (ok_about (held.given + 1)) points (ap (λ b. cond b (Some (Refused Occupied)) (Some (ok_about (held.given + 1)))) free)
          (ap (with_rows (held.given + 1)) (rows-more held.entries (held.given + 1, page)
          ∙ ap (λ v. rows held.entries ++ row_of v (Word (number_at (call_of 2) 1)) ∷ []) numbers.0 ∙ ap (λ w. rows held.entries ++ row_of (arg_at (call_of 2) 0) w ∷ []) numbers.1))
          refl outcome new later
          (subst (λ b. Does (cond b 0 3) (cond b (Refused Occupied) (ok_about (held.given + 1))) held (cond b held (held_with held page)) points outcome new later) free does)

  pub release_right : (outcome : Outcome) (new : Held Page) (later : Points) → Does 2 (ok_about 0) held (held_without held desc) points outcome new later → Done held (call_of 3) points outcome new later
  release_right outcome new later does =
      does_so held (held_without held desc) (call_of 3) (ok_about 0) points refl
      (ap (with_rows held.given) (rows-left (λ n. not (ends_with mm_facts (rows held.entries) desc n)) held.entries)) refl outcome new later does
