-- A call that the guard lets pass may be asked, and its answer tracked.
use Rattle.std.proofs.Common.{◌≡◌, None, sym, ◌∙◌, ap, subst}
use Rattle.sg_facts.specs.Guard.{guard}
use Rattle.sg_facts.specs.Kinds.{MayAsk}
use Rattle.sg_world_laws.specs.sg_recovery_laws.Objects.Serving.{IsService}
use Rattle.sg_verify.proofs.Judged.{is_setting, may_ask_it, may_track_it}
use Rattle.sg_verify.specs.Inside.Judging.{setting_for}
use Rattle.sg_verify.proofs.replica.Replica.answer.Goals as goal

pub invoke-requires : goal.invoke-requires
invoke-requires g c =
    let s = g.met.S.Service in
    let tables = c.args.tables.now in
    let law : IsService g.S.Service.facts g.S.Service.ask g.S.Service.sound
    = record { keeps = s.answers_and_keeps; alike = s.answers_alike; goes = s.walk_goes_on; blocked = s.blocked_stays; shape = s.shape_allows; counts = s.counts_slowly } in
    let set = is_setting g.S.Service.facts g.S.Service.ask g.S.Service.sound g.S.Service.parts tables law c.lines.ensures.are c.requires.service in
    let o = g.S.Service.object c.self.inside.service in
    let guarded : guard tables.iface o c.args.call.now ≡ None = ap (λ i. guard i o c.args.call.now) (sym c.interface.ensures.same) ∙ sym (c.in_default.ensures o (sym c.self.invariant.0)) in
    subst (λ f. MayAsk f o c.args.call.now) c.requires.service
    (may_ask_it (setting_for g.S.Service.ask g.S.Service.sound g.S.Service.parts tables) set c.requires.settled.0 c.requires.settled.2 c.args.call.now c.requires.made o
    (c.self.view_is ∙ c.requires.settled.1) guarded)

pub track-requires : goal.track-requires
track-requires g c =
    let s = g.met.S.Service in
    let tables = c.args.tables.now in
    let law : IsService g.S.Service.facts g.S.Service.ask g.S.Service.sound
    = record { keeps = s.answers_and_keeps; alike = s.answers_alike; goes = s.walk_goes_on; blocked = s.blocked_stays; shape = s.shape_allows; counts = s.counts_slowly } in
    let set = is_setting g.S.Service.facts g.S.Service.ask g.S.Service.sound g.S.Service.parts tables law c.lines.ensures.are c.requires.service in
    let o = g.S.Service.object c.self.inside.service in
    let guarded : guard tables.iface o c.args.call.now ≡ None = ap (λ i. guard i o c.args.call.now) (sym c.interface.ensures.same) ∙ sym (c.in_default.ensures o (sym c.self.invariant.0)) in
    let outcome = c.in-Replied.ensures.outcome in
    may_track_it (setting_for g.S.Service.ask g.S.Service.sound g.S.Service.parts tables) set c.requires.settled.0 c.requires.settled.2 c.args.call.now c.requires.made o
    (c.self.view_is ∙ c.requires.settled.1) guarded c.in-Replied.reply outcome.answered c.reserve.new.self
    (c.reserve.ensures.rows ∙ c.self.invariant.0) (c.reserve.ensures.given ∙ c.self.invariant.1) c.in_ok-reserve.ensures.ok
