-- The engine is one call further in a walk, or its service has stopped.
use Rattle.std.proofs.Common.{◌≡◌, ℕ, ◌≤◌, cond, None, Some, refl, sym, ◌∙◌, ap, arith, subst, option_copied}
use Rattle.std.specs.Prelude.{◌==◌}
use Rattle.sg_facts.specs.sg_base.declared.reply.Reply.TheVariants.{Ok}
use Rattle.sg_facts.specs.Invoke.{Points}
use Rattle.sg_facts.specs.Object.{after}
use Rattle.sg_facts.specs.Track.{row_at}
use Rattle.sg_facts.specs.declared.trace.Tag.TheVariants.{Walk}
use Rattle.sg_name.specs.Names.{named_at, real_of}
use Rattle.sg_replay.specs.Engined.{AreGiven, AreInWalks}
use Rattle.sg_replay.specs.Missing.{is_whole}
use Rattle.sg_replay.specs.Replaying.{name_after, real_after, walk_length}
use Rattle.sg_replay.specs.Serving.{real_call}
use Rattle.sg_replay.proofs.Stepped.{after_in_walk, given_more, given_set, known_of, makes_first, next_step, real_of_shown, reply_moved, shown_of, step_apart, step_given, stop_moved, walks_set}
use Rattle.sg_replay.proofs.AllWhole.{other_whole}
use Rattle.sg_replay.proofs.engine.Engine.replay.Goals as goal

pub set-requires-clause-apart : goal.set-requires-clause-apart
set-requires-clause-apart g c =
    let view = c.self.view_is in
    let kept = c.in_ok-reserve-2.ensures.known in
    let may = c.requires in
    let shown = shown_of view c.args.id c.args.k (option_copied c.row.result) c.in_ok-shown.shown may.shown c.self.invariant.is.service c.row.ensures c.in_ok-shown.ensures.call may.ready.its in
    let real = real_of_shown view kept c.in_ok-real.ensures shown in
    let notes = c.in-Replied.ensures.outcome may.held (c.in_ok-reserve.ensures.running ∙ ap (λ x. x.cell.running) view ∙ may.up) in
    let step = next_step view may real notes.answers.answered c.in-Ok.is kept c.self.invariant.is.given c.get.ensures.apart in
    λ other its_real has its.
    step_apart step c.in_ok-shown.last c.get.result c.get.ensures.named other its_real (ap real_of (sym c.named_after-named.ensures) ∙ has) its

pub invariant_of-self-in-Ok : goal.invariant_of-self-in-Ok
invariant_of-self-in-Ok g c =
    let facts = g.S.Service.facts in
    let view = c.self.view_is in
    let known = c.reserve-2.new.self.known in
    let kept = c.in_ok-reserve-2.ensures.known in
    let may = c.requires in
    let shown = shown_of view c.args.id c.args.k (option_copied c.row.result) c.in_ok-shown.shown may.shown c.self.invariant.is.service c.row.ensures c.in_ok-shown.ensures.call may.ready.its in
    let real = real_of_shown view kept c.in_ok-real.ensures shown in
    let notes = c.in-Replied.ensures.outcome may.held (c.in_ok-reserve.ensures.running ∙ ap (λ x. x.cell.running) view ∙ may.up) in
    let step = next_step view may real notes.answers.answered c.in-Ok.is kept c.self.invariant.is.given c.get.ensures.apart in
    let makes = makes_first view may real notes.answers.answered c.in-Ok.is in
    let told = c.named_after-named.ensures in
    let named = c.named_after-named.result in
    let later = after facts may.held c.in_ok-real.real (Ok c.in-Ok.good) in
    let its : (real : ℕ) → real_of named ≡ Some real → (1 ≤ real) × (real ≤ later.given) = λ real has. step_given step c.in_ok-shown.last facts c.in_ok-real.real c.in-Ok.good refl makes c.get.result c.get.ensures.named real (ap real_of (sym told) ∙ has) in
    record {
      is = record {
        service = c.self.invariant.is.service;
        rows = c.self.invariant.is.rows;
        ids = c.self.invariant.is.ids;
        given = subst (λ r. AreGiven r c.set.new.self.known) (sym (notes.running ∙ ap (λ r. Some (after facts may.held c.in_ok-real.real r)) c.in-Ok.is))
            (given_set known c.set.new.self.known c.args.id named c.set.ensures.names may.held later step.given (given_more facts may.held c.in_ok-real.real c.in-Ok.good) its);
        walks = walks_set known c.set.new.self.known c.args.id named c.set.ensures.names (subst AreInWalks (sym kept) c.self.invariant.is.walks)
            (λ real done is. after_in_walk (real_after c.get.result c.in-Ok.good.desc) c.args.k c.in_ok-shown.last c.in_ok-shown.ensures.short.0 c.in_ok-shown.ensures.short.1 real done (sym told ∙ is));
      };
      few = omega (arith, c.lesser-self-inside.ensures.first, c.self.invariant.few);
      whole = λ x less live.
          other_whole (named_at c.set.new.self.known x) named (named_at known x) x c.args.id c.self.inside.whole_below c.lesser-self-inside.result (c.set.ensures.names x) c.lesser-self-inside.ensures.first c.lesser-self-inside.ensures.second less
          (λ before. ap (λ l. is_whole (named_at l x)) kept ∙ c.self.invariant.whole x before live);
    }

pub returns-in-Ok-clause-outcome : goal.returns-in-Ok-clause-outcome
returns-in-Ok-clause-outcome g c = λ held shown up its.
    let e = c.args.self.now in
    let view = c.self.view_is in
    let known = c.reserve-2.new.self.known in
    let kept = c.in_ok-reserve-2.ensures.known in
    let known_is = known_of view kept in
    let shown_is = shown_of view c.args.id c.args.k (option_copied c.row.result) c.in_ok-shown.shown shown c.self.invariant.is.service c.row.ensures c.in_ok-shown.ensures.call its in
    let notes = c.in-Replied.ensures.outcome held (c.in_ok-reserve.ensures.running ∙ ap (λ x. x.cell.running) view ∙ up) in
    let points : Points = record { asked = g.T.Stops.asked c.args.stops.now; struck = g.T.Stops.struck c.args.stops.now } in
    let later : Points = record { asked = g.T.Stops.asked c.invoke.new.stops; struck = g.T.Stops.struck c.invoke.new.stops } in
    let desc = c.in-Ok.good.desc in
    let last_is = c.in_ok-shown.ensures.last ∙ ap (λ x. walk_length x.tables.walks (option_copied c.row.result)) view
    ∙ ap (walk_length e.tables.walks) (c.row.ensures ∙ ap (λ x. row_at x.tracked.rows c.args.id) view) in
    let named_is = c.named_after-named.ensures
    ∙ ap (λ n. name_after (real_after n desc) c.args.k c.in_ok-shown.last) (c.get.ensures.named ∙ ap (λ n. named_at n c.args.id) known_is)
    ∙ ap (name_after (real_after (named_at e.names.known c.args.id) desc) c.args.k) last_is in
    record {
      good = c.in-Ok.good;
      patch = c.in-Replied.patch;
      notes = reply_moved g.S.Service.facts g.S.Service.ask g.S.Service.parts held c.reserve.new.self e.cell (Walk c.args.id c.args.k c.args.client) c.in_ok-shown.shown shown c.in_ok-real.real (real_call e shown) points c.invoke.new.self later
          (c.in_ok-reserve.ensures.run ∙ ap (λ x. x.cell.run) view) shown_is (real_of_shown view kept c.in_ok-real.ensures shown_is) c.in-Replied.reply (Ok c.in-Ok.good) c.in-Replied.patch c.in-Ok.is notes;
      names = λ x. c.set.ensures.names x ∙ ap (λ n. cond (x == c.args.id) n (named_at known x)) named_is
          ∙ ap (λ n. cond (x == c.args.id) (name_after (real_after (named_at e.names.known c.args.id) desc) c.args.k (walk_length e.tables.walks (row_at e.tracked.rows c.args.id))) (named_at n x)) known_is;
    }

pub invariant_of-self-in-Stopped : goal.invariant_of-self-in-Stopped
invariant_of-self-in-Stopped g c =
    let running : c.invoke.new.self.running ≡ None = (c.in-Stopped.ensures.outcome c.requires.held (c.in_ok-reserve.ensures.running ∙ ap (λ e. e.cell.running) c.self.view_is ∙ c.requires.up)).running in
    let known : c.reserve-2.new.self.known ≡ c.self.inside.names.known = c.in_ok-reserve-2.ensures.known in
    record {
      is = record {
        service = c.self.invariant.is.service;
        rows = c.self.invariant.is.rows;
        ids = c.self.invariant.is.ids;
        given = subst (λ r. AreGiven r c.reserve-2.new.self.known) (sym running) tt;
        walks = subst AreInWalks (sym known) c.self.invariant.is.walks;
      };
      few = c.self.invariant.few;
      whole = λ id less live. ap (λ known. is_whole (named_at known id)) known ∙ c.self.invariant.whole id less live;
    }

pub returns-in-Stopped-clause-outcome : goal.returns-in-Stopped-clause-outcome
returns-in-Stopped-clause-outcome g c = λ held shown up its.
    let e = c.args.self.now in
    let view = c.self.view_is in
    let kept = c.in_ok-reserve-2.ensures.known in
    let shown_is = shown_of view c.args.id c.args.k (option_copied c.row.result) c.in_ok-shown.shown shown c.self.invariant.is.service c.row.ensures c.in_ok-shown.ensures.call its in
    let notes = c.in-Stopped.ensures.outcome held (c.in_ok-reserve.ensures.running ∙ ap (λ x. x.cell.running) view ∙ up) in
    let points : Points = record { asked = g.T.Stops.asked c.args.stops.now; struck = g.T.Stops.struck c.args.stops.now } in
    let later : Points = record { asked = g.T.Stops.asked c.invoke.new.stops; struck = g.T.Stops.struck c.invoke.new.stops } in
    record {
      notes = stop_moved g.S.Service.facts g.S.Service.ask g.S.Service.parts held c.reserve.new.self e.cell (Walk c.args.id c.args.k c.args.client) c.in_ok-shown.shown shown c.in_ok-real.real (real_call e shown) points c.invoke.new.self later
          (c.in_ok-reserve.ensures.run ∙ ap (λ x. x.cell.run) view) shown_is (real_of_shown view kept c.in_ok-real.ensures shown_is) notes;
      names = λ x. ap (λ n. named_at n x) (known_of view kept);
    }
