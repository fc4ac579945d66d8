-- The call is offered as it is resolved by what the client was given.
use Rattle.std.proofs.Common.{◌≡◌, ◌∙◌, ◌+◌, ◌-◌, ◌<◌, ◌^◌, true, ap, arith, sym, subst}
use Rattle.sg_facts.specs.Interface.{declares}
use Rattle.sg_facts.specs.Kinds.{FitsKinds}
use Rattle.sg_multi.specs.Members.{view_in}
use Rattle.sg_multi.specs.sg_sim.sg_plain.Playing.Given.{GaveIds}
use Rattle.sg_multi.specs.sg_sim.sg_plain.Playing.Turns.{is_free_phase}
use Rattle.sg_multi.specs.sg_sim.sg_play.NextCall.{IsResolved}
use Rattle.sg_multi.specs.sg_sim.sg_clients.WorldView.{IsFree, Seat, seat_of}
use Rattle.sg_multi.specs.Merged.{entries_in, own_in}
use Rattle.sg_multi.proofs.Turning.{at_place, client_there, declared_here, fits_here, free_is, gave_own, member_within, numbered_here, offered_asks, offered_at, seat_is, seats_there, some_member}
use Rattle.sg_multi.proofs.running.Running.offer.Goals as goal

pub phase-requires-clause-some : goal.phase-requires-clause-some
phase-requires-clause-some g c =
    let r = c.args.self.now in
    some_member r.members c.args.script.now r.given r.order.items c.requires.keeps.keeps c.args.client c.requires.first c.requires.last c.args.call.now c.requires.next

pub phase-requires-clause-there : goal.phase-requires-clause-there
phase-requires-clause-there g c =
    let r = c.args.self.now in
    member_within r.members c.args.script.now r.given r.order.items c.requires.keeps.keeps c.args.client c.requires.first c.requires.last c.args.call.now c.requires.next

pub phase-requires-clause-client : goal.phase-requires-clause-client
phase-requires-clause-client g c = λ m there.
    let r = c.args.self.now in
    seats_there r.members c.args.script.now r.given r.order.items c.requires.keeps.keeps c.args.client c.requires.first c.requires.last (c.args.call.now.member - 1) m there

pub member_of-requires-clause-some : goal.member_of-requires-clause-some
member_of-requires-clause-some g c =
    let r = c.args.self.now in
    some_member r.members c.args.script.now r.given r.order.items c.requires.keeps.keeps c.args.client c.requires.first c.requires.last c.args.call.now c.requires.next

pub member_of-requires-clause-there : goal.member_of-requires-clause-there
member_of-requires-clause-there g c =
    let r = c.args.self.now in
    member_within r.members c.args.script.now r.given r.order.items c.requires.keeps.keeps c.args.client c.requires.first c.requires.last c.args.call.now c.requires.next

pub of-requires : goal.of-requires
of-requires g c =
    let r = c.args.self.now in
    record { client = client_there r.members c.args.script.now r.given r.order.items c.requires.keeps.keeps c.args.client c.requires.first c.requires.last }

pub overflow_sub-place : goal.overflow_sub-place
overflow_sub-place g c =
    let r = c.args.self.now in
    omega (arith, c.from-place.ensures, some_member r.members c.args.script.now r.given r.order.items c.requires.keeps.keeps c.args.client c.requires.first c.requires.last c.args.call.now c.requires.next)

pub offer-requires-clause-there : goal.offer-requires-clause-there
offer-requires-clause-there g c =
    let r = c.args.self.now in
    omega (arith, c.from-place.ensures, some_member r.members c.args.script.now r.given r.order.items c.requires.keeps.keeps c.args.client c.requires.first c.requires.last c.args.call.now c.requires.next, member_within r.members c.args.script.now r.given r.order.items c.requires.keeps.keeps c.args.client c.requires.first c.requires.last c.args.call.now c.requires.next)

pub offer-requires-clause-client : goal.offer-requires-clause-client
offer-requires-clause-client g c = λ x at.
    let r = c.args.self.now in
    seats_there r.members c.args.script.now r.given r.order.items c.requires.keeps.keeps c.args.client c.requires.first c.requires.last (c.from-place.result - 1) x at

pub offer-requires-clause-free : goal.offer-requires-clause-free
offer-requires-clause-free g c =
    let r = c.args.self.now in
    let m = c.member_of.result.now in
    let there = c.member_of.ensures in
    let own = entries_in (own_in c.args.client c.requires.keeps.keeps.merged) in
    let made = c.in_ok-next.next in
    let free : is_free_phase (seat_of (view_in m) c.args.client).phase ≡ true
    = subst (λ p. is_free_phase p ≡ true) (c.phase.ensures ∙ ap (λ (s : Seat). s.phase) (seat_is r.members (c.args.call.now.member - 1) m c.args.client there)) (sym c.is_free.ensures ∙ c.if-not-is_free.false) in
    let resolved : IsResolved m.world.tables.iface.facts own c.args.call.now.call made
    = c.in_ok-next.ensures.call own (subst (GaveIds own) (sym c.of.ensures) (gave_own r.members c.args.script.now r.given r.order.items c.requires.keeps.keeps c.args.client c.requires.first c.requires.last c.args.call.now c.requires.next m there free)) in
    at_place (λ x. IsFree (seat_of (view_in x) c.args.client).phase) r.members c.from-place.result c.args.call.now.member m c.from-place.ensures there (free_is (seat_of (view_in m) c.args.client).phase free)

pub offer-requires-clause-numbered : goal.offer-requires-clause-numbered
offer-requires-clause-numbered g c =
    let r = c.args.self.now in
    let m = c.member_of.result.now in
    let there = c.member_of.ensures in
    let own = entries_in (own_in c.args.client c.requires.keeps.keeps.merged) in
    let made = c.in_ok-next.next in
    let free : is_free_phase (seat_of (view_in m) c.args.client).phase ≡ true
    = subst (λ p. is_free_phase p ≡ true) (c.phase.ensures ∙ ap (λ (s : Seat). s.phase) (seat_is r.members (c.args.call.now.member - 1) m c.args.client there)) (sym c.is_free.ensures ∙ c.if-not-is_free.false) in
    let resolved : IsResolved m.world.tables.iface.facts own c.args.call.now.call made
    = c.in_ok-next.ensures.call own (subst (GaveIds own) (sym c.of.ensures) (gave_own r.members c.args.script.now r.given r.order.items c.requires.keeps.keeps c.args.client c.requires.first c.requires.last c.args.call.now c.requires.next m there free)) in
    at_place (λ x. (seat_of (view_in x) c.args.client).seq + 1 < 2 ^ 32) r.members c.from-place.result c.args.call.now.member m c.from-place.ensures there (numbered_here r.members c.args.script.now r.given r.order.items c.requires.keeps.keeps c.args.client c.requires.first c.requires.last c.args.call.now c.requires.next m there free made resolved c.in_ok-next.ensures.words)

pub offer-requires-clause-declared : goal.offer-requires-clause-declared
offer-requires-clause-declared g c =
    let r = c.args.self.now in
    let m = c.member_of.result.now in
    let there = c.member_of.ensures in
    let own = entries_in (own_in c.args.client c.requires.keeps.keeps.merged) in
    let made = c.in_ok-next.next in
    let free : is_free_phase (seat_of (view_in m) c.args.client).phase ≡ true
    = subst (λ p. is_free_phase p ≡ true) (c.phase.ensures ∙ ap (λ (s : Seat). s.phase) (seat_is r.members (c.args.call.now.member - 1) m c.args.client there)) (sym c.is_free.ensures ∙ c.if-not-is_free.false) in
    let resolved : IsResolved m.world.tables.iface.facts own c.args.call.now.call made
    = c.in_ok-next.ensures.call own (subst (GaveIds own) (sym c.of.ensures) (gave_own r.members c.args.script.now r.given r.order.items c.requires.keeps.keeps c.args.client c.requires.first c.requires.last c.args.call.now c.requires.next m there free)) in
    at_place (λ x. declares x.world.tables.iface made.fun ≡ true) r.members c.from-place.result c.args.call.now.member m c.from-place.ensures there (declared_here r.members c.args.script.now r.given r.order.items c.requires.keeps.keeps c.args.client c.requires.first c.requires.last c.args.call.now c.requires.next m there free made resolved c.in_ok-next.ensures.words)

pub offer-requires-clause-fits : goal.offer-requires-clause-fits
offer-requires-clause-fits g c =
    let r = c.args.self.now in
    let m = c.member_of.result.now in
    let there = c.member_of.ensures in
    let own = entries_in (own_in c.args.client c.requires.keeps.keeps.merged) in
    let made = c.in_ok-next.next in
    let free : is_free_phase (seat_of (view_in m) c.args.client).phase ≡ true
    = subst (λ p. is_free_phase p ≡ true) (c.phase.ensures ∙ ap (λ (s : Seat). s.phase) (seat_is r.members (c.args.call.now.member - 1) m c.args.client there)) (sym c.is_free.ensures ∙ c.if-not-is_free.false) in
    let resolved : IsResolved m.world.tables.iface.facts own c.args.call.now.call made
    = c.in_ok-next.ensures.call own (subst (GaveIds own) (sym c.of.ensures) (gave_own r.members c.args.script.now r.given r.order.items c.requires.keeps.keeps c.args.client c.requires.first c.requires.last c.args.call.now c.requires.next m there free)) in
    at_place (λ x. FitsKinds x.world.tables.iface.facts (record { client = c.args.client; seq = (seat_of (view_in x) c.args.client).seq + 1; fun = made.fun; desc = made.desc; args = made.args })) r.members c.from-place.result c.args.call.now.member m c.from-place.ensures there (fits_here r.members c.args.script.now r.given r.order.items c.requires.keeps.keeps c.args.client c.requires.first c.requires.last c.args.call.now c.requires.next m there free made resolved c.in_ok-next.ensures.words)

pub returns-clause-keeps : goal.returns-clause-keeps
returns-clause-keeps g c =
    let r = c.args.self.now in
    let m = c.member_of.result.now in
    let there = c.member_of.ensures in
    let own = entries_in (own_in c.args.client c.requires.keeps.keeps.merged) in
    let made = c.in_ok-next.next in
    let free : is_free_phase (seat_of (view_in m) c.args.client).phase ≡ true
    = subst (λ p. is_free_phase p ≡ true) (c.phase.ensures ∙ ap (λ (s : Seat). s.phase) (seat_is r.members (c.args.call.now.member - 1) m c.args.client there)) (sym c.is_free.ensures ∙ c.if-not-is_free.false) in
    let resolved : IsResolved m.world.tables.iface.facts own c.args.call.now.call made
    = c.in_ok-next.ensures.call own (subst (GaveIds own) (sym c.of.ensures) (gave_own r.members c.args.script.now r.given r.order.items c.requires.keeps.keeps c.args.client c.requires.first c.requires.last c.args.call.now c.requires.next m there free)) in
    let still = offered_at r.members c.args.script.now r.given r.order.items c.requires.keeps.keeps c.args.client c.requires.first c.requires.last c.args.call.now c.requires.next m there free made resolved c.in_ok-next.ensures.words c.from-place.result c.from-place.ensures c.offer.new.self c.offer.result c.offer.ensures.ok c.offer.ensures.err in
    record { keeps = still.kept; last_there = c.requires.keeps.last_there; sets_up = still.sets_up c.requires.keeps.sets_up; asked = still.asked c.requires.keeps.asked; begins = still.begins c.requires.keeps.begins; follows = still.follows r.passed r.last c.requires.keeps.follows }

pub returns-clause-same : goal.returns-clause-same
returns-clause-same g c =
    let r = c.args.self.now in
    let m = c.member_of.result.now in
    let there = c.member_of.ensures in
    let own = entries_in (own_in c.args.client c.requires.keeps.keeps.merged) in
    let made = c.in_ok-next.next in
    let free : is_free_phase (seat_of (view_in m) c.args.client).phase ≡ true
    = subst (λ p. is_free_phase p ≡ true) (c.phase.ensures ∙ ap (λ (s : Seat). s.phase) (seat_is r.members (c.args.call.now.member - 1) m c.args.client there)) (sym c.is_free.ensures ∙ c.if-not-is_free.false) in
    let resolved : IsResolved m.world.tables.iface.facts own c.args.call.now.call made
    = c.in_ok-next.ensures.call own (subst (GaveIds own) (sym c.of.ensures) (gave_own r.members c.args.script.now r.given r.order.items c.requires.keeps.keeps c.args.client c.requires.first c.requires.last c.args.call.now c.requires.next m there free)) in
    (offered_at r.members c.args.script.now r.given r.order.items c.requires.keeps.keeps c.args.client c.requires.first c.requires.last c.args.call.now c.requires.next m there free made resolved c.in_ok-next.ensures.words c.from-place.result c.from-place.ensures c.offer.new.self c.offer.result c.offer.ensures.ok c.offer.ensures.err).same

pub returns-clause-players : goal.returns-clause-players
returns-clause-players g c =
    let r = c.args.self.now in
    let m = c.member_of.result.now in
    let there = c.member_of.ensures in
    let own = entries_in (own_in c.args.client c.requires.keeps.keeps.merged) in
    let made = c.in_ok-next.next in
    let free : is_free_phase (seat_of (view_in m) c.args.client).phase ≡ true
    = subst (λ p. is_free_phase p ≡ true) (c.phase.ensures ∙ ap (λ (s : Seat). s.phase) (seat_is r.members (c.args.call.now.member - 1) m c.args.client there)) (sym c.is_free.ensures ∙ c.if-not-is_free.false) in
    let resolved : IsResolved m.world.tables.iface.facts own c.args.call.now.call made
    = c.in_ok-next.ensures.call own (subst (GaveIds own) (sym c.of.ensures) (gave_own r.members c.args.script.now r.given r.order.items c.requires.keeps.keeps c.args.client c.requires.first c.requires.last c.args.call.now c.requires.next m there free)) in
    (offered_at r.members c.args.script.now r.given r.order.items c.requires.keeps.keeps c.args.client c.requires.first c.requires.last c.args.call.now c.requires.next m there free made resolved c.in_ok-next.ensures.words c.from-place.result c.from-place.ensures c.offer.new.self c.offer.result c.offer.ensures.ok c.offer.ensures.err).players

pub returns-clause-asked : goal.returns-clause-asked
returns-clause-asked g c =
    let r = c.args.self.now in
    let m = c.member_of.result.now in
    let there = c.member_of.ensures in
    let own = entries_in (own_in c.args.client c.requires.keeps.keeps.merged) in
    let made = c.in_ok-next.next in
    let free : is_free_phase (seat_of (view_in m) c.args.client).phase ≡ true
    = subst (λ p. is_free_phase p ≡ true) (c.phase.ensures ∙ ap (λ (s : Seat). s.phase) (seat_is r.members (c.args.call.now.member - 1) m c.args.client there)) (sym c.is_free.ensures ∙ c.if-not-is_free.false) in
    let resolved : IsResolved m.world.tables.iface.facts own c.args.call.now.call made
    = c.in_ok-next.ensures.call own (subst (GaveIds own) (sym c.of.ensures) (gave_own r.members c.args.script.now r.given r.order.items c.requires.keeps.keeps c.args.client c.requires.first c.requires.last c.args.call.now c.requires.next m there free)) in
    offered_asks r.members c.args.script.now r.given r.order.items c.requires.keeps.keeps c.args.client c.requires.first c.requires.last c.args.call.now c.requires.next m there free made resolved c.in_ok-next.ensures.words c.from-place.result c.from-place.ensures c.offer.new.self c.offer.result c.offer.ensures.ok
