-- What is done with the pages is what the table says.
use Rattle.std.proofs.Common.{◌≡◌, ℕ, true, None, Some, sym, subst}
use Rattle.sg_facts.specs.sg_base.declared.call.Call.{Call}
use Rattle.sg_facts.specs.declared.outcome.Outcome.{Outcome}
use Rattle.sg_facts.specs.Facts.{fun_at}
use Rattle.sg_facts.specs.Invoke.{Invokes, Points}
use Rattle.sg_facts.specs.Kinds.{kinds_fit}
use Rattle.sg_slots.specs.Slots.{Held, object_of}
use Rattle.sg_slots.proofs.Deciding.{with_fun}
use Rattle.sg_mm.specs.declared.page.Page.{Page}
use Rattle.sg_mm.specs.Inside.MmDoes.{Does, after_new, new_reply, parts_of_new}
use Rattle.sg_mm.specs.MmFacts.{mm_facts}
use Rattle.sg_mm.specs.MmRow.{page_body}
use Rattle.sg_mm.specs.MmTable.{mm_parts, mm_table}
use Rattle.sg_mm.proofs.Answering.{alias_right, get_right, release_right}
use Rattle.sg_mm.proofs.service.MmServiceService.invoke.Goals as goal

-- what is right for a function is right for a call of it
of_fun : (held new : Held Page) (call : Call) (fun : ℕ) (points later : Points) (outcome : Outcome) → call.fun ≡ fun
    → Invokes mm_facts mm_table mm_parts (object_of page_body held) (with_fun call fun) points outcome (object_of page_body new) later
    → Invokes mm_facts mm_table mm_parts (object_of page_body held) call points outcome (object_of page_body new) later
of_fun held new call fun points later outcome is right =
    subst (λ f. Invokes mm_facts mm_table mm_parts (object_of page_body held) (with_fun call f) points outcome (object_of page_body new) later) (sym is) right

pub returns-in-1-clause-outcome : goal.returns-in-1-clause-outcome
returns-in-1-clause-outcome g c =
    let call = c.args.call.now in
    let held = c.args.self.now.pages in
    let new = c.make.new.self in
    let points : Points = record { asked = g.T.Stops.asked c.args.stops.now; struck = g.T.Stops.struck c.args.stops.now } in
    let later : Points = record { asked = g.T.Stops.asked c.make.new.stops; struck = g.T.Stops.struck c.make.new.stops } in
    let fit = subst (λ f. kinds_fit (fun_at mm_facts.funs f).kinds call.args ≡ true) c.in-1.is c.requires.is_call.fits.args in
    let does = subst (λ page. Does (parts_of_new held page None) (new_reply held page) held (after_new held page None) points c.make.result new later) c.got_page.ensures c.make.ensures.outcome in
    of_fun held new call 1 points later c.make.result c.in-1.is (get_right held call.client call.seq call.desc call.args points c.make.result new later fit does)

pub returns-in-2-clause-outcome : goal.returns-in-2-clause-outcome
returns-in-2-clause-outcome g c =
    let call = c.args.call.now in
    let held = c.args.self.now.pages in
    let new = c.make-in-2.new.self in
    let points : Points = record { asked = g.T.Stops.asked c.args.stops.now; struck = g.T.Stops.struck c.args.stops.now } in
    let later : Points = record { asked = g.T.Stops.asked c.make-in-2.new.stops; struck = g.T.Stops.struck c.make-in-2.new.stops } in
    let fit = subst (λ f. kinds_fit (fun_at mm_facts.funs f).kinds call.args ≡ true) c.in-2.is c.requires.is_call.fits.args in
    let does = subst (λ page. Does (parts_of_new held page (Some call.desc)) (new_reply held page) held (after_new held page (Some call.desc)) points c.make-in-2.result new later)
    c.alias_page.ensures c.make-in-2.ensures.outcome in
    of_fun held new call 2 points later c.make-in-2.result c.in-2.is (alias_right held call.client call.seq call.desc call.args points c.make-in-2.result new later fit does)

pub returns-in-3-clause-outcome : goal.returns-in-3-clause-outcome
returns-in-3-clause-outcome g c =
    let call = c.args.call.now in
    let held = c.args.self.now.pages in
    let new = c.release.new.self in
    let points : Points = record { asked = g.T.Stops.asked c.args.stops.now; struck = g.T.Stops.struck c.args.stops.now } in
    let later : Points = record { asked = g.T.Stops.asked c.release.new.stops; struck = g.T.Stops.struck c.release.new.stops } in
    of_fun held new call 3 points later c.release.result c.in-3.is (release_right held call.client call.seq call.desc call.args points c.release.result new later c.release.ensures.outcome)
