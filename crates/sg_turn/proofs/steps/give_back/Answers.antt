use Rattle.std.proofs.Common.{◌∷◌, Some, refl, ap, ◌∙◌, rules}
use Rattle.atomic_table.specs.Table.{rest}
use Rattle.sg_turn.specs.Logs.{face_by}
use Rattle.sg_turn.specs.Inside.Steps.{with_state}
use Rattle.sg_turn.specs.declared.view.SeatState.TheVariants.{Idle}
use Rattle.sg_turn.proofs.Keeps.{counts_at, serves_at, counted_to, held_with}
use Rattle.sg_turn.proofs.steps.give_back.Goals as goal

pub fetch_add-requires : goal.fetch_add-requires
fetch_add-requires g c =
    let face = face_by g.V.Kept.log g.V.Kept.events in
    let old = c.args.place.now.me in
    let e = c.exchange.ensures in
    let h = held_with old.0.state c.requires.holds in
    let me = e.3 ∙ ap (λ l. (old.0, (0, Some c.args.value) ∷ rest l)) c.requires.slot in
    (search rules, search rules, counts_at face (face c.args.steps.now.key.value) _ _ _ old.0 h.0 c.args.value me h.1 c.requires.joined c.requires.log.more c.requires.log.log c.requires.log.own c.requires.events)

pub fetch_add-served-requires : goal.fetch_add-served-requires
fetch_add-served-requires g c =
    let face = face_by g.V.Kept.log g.V.Kept.events in
    let old = c.args.place.now.me in
    let e = c.exchange.ensures in
    let h = held_with old.0.state c.requires.holds in
    let me = e.3 ∙ ap (λ l. (old.0, (0, Some c.args.value) ∷ rest l)) c.requires.slot in
    let after = counted_to face (face c.args.steps.now.key.value) 0 _ old.0 h.0 c.args.value 0 _ me h.1 c.fetch_add.ensures.2 in
    (search rules, search rules, serves_at face (face c.args.steps.now.key.value) _ _ _ _ h.0 c.args.value after refl refl)

pub returns-clause-me : goal.returns-clause-me
returns-clause-me g c =
    let face = face_by g.V.Kept.log g.V.Kept.events in
    let old = c.args.place.now.me in
    let e = c.exchange.ensures in
    let h = held_with old.0.state c.requires.holds in
    let me = e.3 ∙ ap (λ l. (old.0, (0, Some c.args.value) ∷ rest l)) c.requires.slot in
    let after = counted_to face (face c.args.steps.now.key.value) 0 _ old.0 h.0 c.args.value 0 _ me h.1 c.fetch_add.ensures.2 in
    c.fetch_add-served.ensures.2 ∙ ap (λ m. (with_state m.0 Idle, rest m.1)) after
