-- The tables have the walk of each reachable row; and what a narrower interface lets pass, that of the whole service does.
use Rattle.std.proofs.Common.{◌≡◌, ℕ, suc, ◌+◌, Bool, true, false, cond, not, List, [], ◌∷◌, None, Some, length, refl, sym, ◌∙◌, ap, subst, arith}
use Rattle.std.specs.Prelude.{◌==◌, ◌&&◌, if◌then◌else◌, nat_le}
use Rattle.std.specs.List.{Contains}
use Rattle.std.specs.declared.option.Option.{Option}
use Rattle.std.proofs.lemmas.Bool.Decides.{nat_tests}
use Rattle.std.proofs.lemmas.List.Elements.{Contains-append_right}
use Rattle.sg_facts.specs.sg_base.declared.call.Call.{Call}
use Rattle.sg_facts.specs.sg_base.declared.reply.Code.TheVariants.{NoDesc, NoParent, BadState, HasChildren, Full}
use Rattle.sg_facts.specs.declared.row.Row.{Row}
use Rattle.sg_facts.specs.declared.shape.Effect.{Effect}
use Rattle.sg_facts.specs.declared.tables.WalkLine.{WalkLine}
use Rattle.sg_facts.specs.Facts.{Field, Fun, fun_at, takes_desc, takes_parent}
use Rattle.sg_facts.specs.Fields.{number_of}
use Rattle.sg_facts.specs.Fits.{Fits}
use Rattle.sg_facts.specs.Guard.{guard}
use Rattle.sg_facts.specs.Inside.Guards.{in_state, may_be_parent, may_use, refusal}
use Rattle.sg_facts.specs.Limits.{most_live}
use Rattle.sg_facts.specs.Held.{set_of}
use Rattle.sg_facts.specs.Interface.{Declared}
use Rattle.sg_facts.specs.Laws.{whole}
use Rattle.sg_facts.specs.Object.{Object}
use Rattle.sg_facts.specs.Tables.{AreTables, walk_of}
use Rattle.sg_facts.specs.Inside.Walking.{is_for, none_set}
use Rattle.sg_facts.specs.Track.{row_at}
use Rattle.sg_facts.specs.Inside.Rows.{has_child}
use Rattle.sg_facts.specs.Walks.{IsReachable, IsWalkOf, effect_on, made, may_lead, may_leave, moved}
use Rattle.sg_hist.specs.Reading.{walk_in}
use Rattle.sg_recovery_laws.proofs.Objects.Guarded.{both_true}

-- ---- sets of fields by their numbers

lead_length : (es : List (ℕ × Effect)) (x : ℕ) (olds news : List Bool) → may_lead es x olds news ≡ true → length news ≡ length olds
lead_length es x [] [] is = refl
lead_length es x [] (n ∷ news) is = absurd (cc is)
lead_length es x (o ∷ olds) [] is = absurd (cc is)
lead_length es x (o ∷ olds) (n ∷ news) is = ap suc (lead_length es (x + 1) olds news (both_true (may_leave (effect_on es x) o n) (may_lead es (x + 1) olds news) is).1)

none_length : (fs : List Field) → length (none_set fs) ≡ length fs
none_length [] = refl
none_length (f ∷ fs) = ap suc (none_length fs)

pub reach_length : (i : Declared) (by state : ℕ) (set : List Bool) → IsReachable i by state set → length set ≡ length i.facts.fields
reach_length i by state set (made fun s is makes leads) = lead_length (fun_at i.facts.funs fun).effects 0 (none_set i.facts.fields) s leads ∙ none_length i.facts.fields
reach_length i by state set (moved b fun st old new reach moves ends leads) = lead_length (fun_at i.facts.funs fun).effects 0 old new leads ∙ reach_length i b st old reach

pub number_one : (a b : List Bool) → length a ≡ length b → number_of a ≡ number_of b → a ≡ b
number_one [] [] same is = refl
number_one [] (y ∷ b) same is = absurd (omega (arith, same))
number_one (x ∷ a) [] same is = absurd (omega (arith, same))
number_one (true ∷ a) (true ∷ b) same is = ap (λ l. true ∷ l) (number_one a b (omega (arith, same)) (omega (arith, is)))
number_one (false ∷ a) (false ∷ b) same is = ap (λ l. false ∷ l) (number_one a b (omega (arith, same)) (omega (arith, is)))
number_one (true ∷ a) (false ∷ b) same is = absurd (omega (arith, is))
number_one (false ∷ a) (true ∷ b) same is = absurd (omega (arith, is))

-- ---- the line of a row

record IsLine (lines : List WalkLine) (by state mask : ℕ) (walk : List ℕ) : Type 0 where
  line : WalkLine
  listed : Contains lines line
  its : is_for by state mask line ≡ true
  walk_is : line.walk ≡ walk

line_of : (lines : List WalkLine) (by state mask : ℕ) (walk : List ℕ) → walk_of lines by state mask ≡ Some walk → IsLine lines by state mask walk
line_of [] by state mask walk is = absurd (cc is)
line_of (line ∷ lines) by state mask walk is = at (is_for by state mask line) refl is (line_of lines by state mask walk)
  where
    at : (b : Bool) → is_for by state mask line ≡ b → cond b (Some line.walk) (walk_of lines by state mask) ≡ Some walk → (walk_of lines by state mask ≡ Some walk → IsLine lines by state mask walk)
        → IsLine (line ∷ lines) by state mask walk
    at true its is rest = record { line = line; listed = (0, omega arith, refl); its = its; walk_is = cc is }
    at false its is rest =
        let l = rest is in
        record { line = l.line; listed = Contains-append_right (line ∷ []) lines l.line l.listed; its = l.its; walk_is = l.walk_is }

-- a reachable row has its walk
pub walk_is : (i : Declared) (lines : List WalkLine) (r : Row) → AreTables i lines → IsReachable i r.made r.state (set_of r)
    → (walk : List ℕ) × (walk_in lines (Some r) ≡ Some walk) × IsWalkOf i walk r.made r.state (set_of r)
walk_is i lines r tables reach =
    let w = tables.all r.made r.state (set_of r) reach in
    let l = line_of lines r.made r.state (number_of (set_of r)) w.0 w.1 in
    let e = tables.each l.line l.listed in
    let two = both_true ((l.line.made == r.made) && (l.line.state == r.state)) (l.line.mask == number_of (set_of r)) l.its in
    let one = both_true (l.line.made == r.made) (l.line.state == r.state) two.0 in
    let by : l.line.made ≡ r.made = let is = one.0 in grind (arith, nat_tests, is) in
    let state : l.line.state ≡ r.state = let is = one.1 in grind (arith, nat_tests, is) in
    let mask : l.line.mask ≡ number_of (set_of r) = let is = two.1 in grind (arith, nat_tests, is) in
    let set : e.0 ≡ set_of r = number_one e.0 (set_of r) (reach_length i l.line.made l.line.state e.0 e.2 ∙ sym (reach_length i r.made r.state (set_of r) reach)) (e.1 ∙ mask) in (
      w.0,
      w.1,
      subst (λ ws. IsWalkOf i ws r.made r.state (set_of r)) l.walk_is
          (subst (λ s. IsWalkOf i l.line.walk r.made r.state s) set (subst (λ s. IsWalkOf i l.line.walk r.made s e.0) state (subst (λ b. IsWalkOf i l.line.walk b l.line.state e.0) by e.3))),
    )

-- ---- a narrower interface

pub passes_whole : (i : Declared) (o : Object) (call : Call) → Fits i → guard i o call ≡ None → guard (whole i.facts) o call ≡ None
passes_whole i o call fits passes = by_query (fun_at i.facts.funs call.fun).query refl
  where
    f : Fun
    f = fun_at i.facts.funs call.fun

    pair : (row : Option Row) → in_state i row call.fun ≡ true → in_state (whole i.facts) row call.fun ≡ true
    pair None is = absurd (cc is)
    pair (Some r) is = fits.moves r.state call.fun is

    cascade : (p c d u s t : Bool) → (s' : Bool) → (s ≡ true → s' ≡ true)
        → (if p then Some NoParent else if c then Some Full else if d && not u then Some NoDesc else if d && not s then Some BadState else if t then Some HasChildren else None) ≡ None
        → (if p then Some NoParent else if c then Some Full else if d && not u then Some NoDesc else if d && not s' then Some BadState else if t then Some HasChildren else None) ≡ None
    cascade true c d u s t s' so is = absurd (cc is)
    cascade false true d u s t s' so is = absurd (cc is)
    cascade false false true false s t s' so is = absurd (cc is)
    cascade false false true true false t s' so is = absurd (cc is)
    cascade false false true true true t s' so is = ap (λ b. if not b then Some BadState else if t then Some HasChildren else None) (so refl) ∙ is
    cascade false false false u s t s' so is = is

    by_query : (b : Bool) → (fun_at i.facts.funs call.fun).query ≡ b → guard (whole i.facts) o call ≡ None
    by_query true query = ap (λ b. cond b None (refusal (whole i.facts) (fun_at i.facts.funs call.fun) o call)) query
    by_query false row =
        ap (λ b. cond b None (refusal (whole i.facts) (fun_at i.facts.funs call.fun) o call)) row
        ∙ cascade (takes_parent (fun_at i.facts.funs call.fun) && not (may_be_parent i.facts.parents (row_at o.rows call.desc) call.desc call.client))
        ((fun_at i.facts.funs call.fun).creation && nat_le most_live (length o.rows)) (takes_desc (fun_at i.facts.funs call.fun)) (may_use i.facts (row_at o.rows call.desc) call.client)
        (in_state i (row_at o.rows call.desc) call.fun) ((fun_at i.facts.funs call.fun).terminal && not i.facts.subtree && has_child o.rows call.desc)
        (in_state (whole i.facts) (row_at o.rows call.desc) call.fun) (pair (row_at o.rows call.desc))
        (sym (ap (λ b. cond b None (refusal i (fun_at i.facts.funs call.fun) o call)) row) ∙ passes)
