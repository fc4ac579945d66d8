-- The next call of the script is offered.
use Rattle.std.proofs.Common.{cond, length, ◌+◌, ◌<◌, ◌≡◌, Some, refl, true, ap, sym, subst, ◌∙◌}
use Rattle.sg_plain.specs.sg_hist.Clients.{calls_of}
use Rattle.sg_plain.specs.Calls.{call_after}
use Rattle.sg_play.specs.Turning.{with_call, with_offer}
use Rattle.sg_plain.specs.Playing.Callers.{is_setting_up}
use Rattle.sg_plain.specs.Playing.Plays.{IsPlaying}
use Rattle.sg_plain.specs.Playing.Turns.{is_free_phase}
use Rattle.sg_plain.specs.sg_clients.WorldView.{seat_in}
use Rattle.sg_world.specs.Worlded.{Worlded}
use Rattle.sg_play.proofs.Offering.{all_given, either_way, next_here, none_left, none_so, offered_playing, offered_setup, ok_so, some_so}
use Rattle.sg_play.proofs.turn.offer_next.Goals as goal

pub returns-in_default-clause-ok : goal.returns-in_default-clause-ok
returns-in_default-clause-ok g c =
    let i = c.args.world.now.tables.iface in
    let script = c.args.script.now in
    let w = c.args.world.now.view in
    let client = c.args.client in
    let free : is_free_phase (seat_in w.seats client).phase ≡ true = ap is_free_phase (sym c.phase.ensures.phase) ∙ sym c.is_free.ensures ∙ c.if-not-is_free.false in
    let gave = all_given i script w.history w.seats c.requires.playing.0 client c.requires.client.0 c.requires.client.1 c.requires.playing.2 free c.args.given.now c.requires.playing.1 in
    let none = none_left i script w.history w.seats c.requires.playing.0 client c.requires.client.0 c.requires.client.1 c.requires.playing.2 free c.args.given.now gave
    (c.in_ok-next.ensures.none (none_so c.in_ok-next.next c.in_default.not-Some)) in
    let is : with_offer i.facts script w client ≡ w
    = ap (λ b. cond b (with_call w client (call_after i.facts script w.history client (length (calls_of w.history client)))) w) free ∙ ap (with_call w client) none in
    sym is

pub offer-requires-clause-numbered : goal.offer-requires-clause-numbered
offer-requires-clause-numbered g c =
    let i = c.args.world.now.tables.iface in
    let script = c.args.script.now in
    let w = c.args.world.now.view in
    let client = c.args.client in
    let free : is_free_phase (seat_in w.seats client).phase ≡ true = ap is_free_phase (sym c.phase.ensures.phase) ∙ sym c.is_free.ensures ∙ c.if-not-is_free.false in
    let gave = all_given i script w.history w.seats c.requires.playing.0 client c.requires.client.0 c.requires.client.1 c.requires.playing.2 free c.args.given.now c.requires.playing.1 in
    let next = next_here i script w.history w.seats c.requires.playing.0 client c.requires.client.0 c.requires.client.1 c.requires.playing.2 free c.interface.result.now c.interface.ensures.interface
    c.in-Some.call.fun c.in-Some.call.desc c.in-Some.call.args (some_so _ c.in_ok-next.next c.in-Some.call c.in-Some.is (c.in_ok-next.ensures.some (calls_of w.history client) gave)) in
    subst (λ n. n + 1 < 4294967296) (sym (c.requires.playing.2.callers.each client c.requires.client.0 c.requires.client.1).count) next.numbered

pub offer-requires-clause-declared : goal.offer-requires-clause-declared
offer-requires-clause-declared g c =
    let i = c.args.world.now.tables.iface in
    let script = c.args.script.now in
    let w = c.args.world.now.view in
    let client = c.args.client in
    let free : is_free_phase (seat_in w.seats client).phase ≡ true = ap is_free_phase (sym c.phase.ensures.phase) ∙ sym c.is_free.ensures ∙ c.if-not-is_free.false in
    let gave = all_given i script w.history w.seats c.requires.playing.0 client c.requires.client.0 c.requires.client.1 c.requires.playing.2 free c.args.given.now c.requires.playing.1 in
    let next = next_here i script w.history w.seats c.requires.playing.0 client c.requires.client.0 c.requires.client.1 c.requires.playing.2 free c.interface.result.now c.interface.ensures.interface
    c.in-Some.call.fun c.in-Some.call.desc c.in-Some.call.args (some_so _ c.in_ok-next.next c.in-Some.call c.in-Some.is (c.in_ok-next.ensures.some (calls_of w.history client) gave)) in
    next.declared

pub offer-requires-clause-fits : goal.offer-requires-clause-fits
offer-requires-clause-fits g c =
    let i = c.args.world.now.tables.iface in
    let script = c.args.script.now in
    let w = c.args.world.now.view in
    let client = c.args.client in
    let free : is_free_phase (seat_in w.seats client).phase ≡ true = ap is_free_phase (sym c.phase.ensures.phase) ∙ sym c.is_free.ensures ∙ c.if-not-is_free.false in
    let gave = all_given i script w.history w.seats c.requires.playing.0 client c.requires.client.0 c.requires.client.1 c.requires.playing.2 free c.args.given.now c.requires.playing.1 in
    let next = next_here i script w.history w.seats c.requires.playing.0 client c.requires.client.0 c.requires.client.1 c.requires.playing.2 free c.interface.result.now c.interface.ensures.interface
    c.in-Some.call.fun c.in-Some.call.desc c.in-Some.call.args (some_so _ c.in_ok-next.next c.in-Some.call c.in-Some.is (c.in_ok-next.ensures.some (calls_of w.history client) gave)) in
    next.fits

pub offer-requires-clause-words : goal.offer-requires-clause-words
offer-requires-clause-words g c =
    let i = c.args.world.now.tables.iface in
    let script = c.args.script.now in
    let w = c.args.world.now.view in
    let client = c.args.client in
    let free : is_free_phase (seat_in w.seats client).phase ≡ true = ap is_free_phase (sym c.phase.ensures.phase) ∙ sym c.is_free.ensures ∙ c.if-not-is_free.false in
    let gave = all_given i script w.history w.seats c.requires.playing.0 client c.requires.client.0 c.requires.client.1 c.requires.playing.2 free c.args.given.now c.requires.playing.1 in
    let next = next_here i script w.history w.seats c.requires.playing.0 client c.requires.client.0 c.requires.client.1 c.requires.playing.2 free c.interface.result.now c.interface.ensures.interface
    c.in-Some.call.fun c.in-Some.call.desc c.in-Some.call.args (some_so _ c.in_ok-next.next c.in-Some.call c.in-Some.is (c.in_ok-next.ensures.some (calls_of w.history client) gave)) in
    next.words

pub returns-clause-playing : goal.returns-clause-playing
returns-clause-playing g c = λ all is.
    let i = c.args.world.now.tables.iface in
    let script = c.args.script.now in
    let w = c.args.world.now.view in
    let client = c.args.client in
    let free : is_free_phase (seat_in w.seats client).phase ≡ true = ap is_free_phase (sym c.phase.ensures.phase) ∙ sym c.is_free.ensures ∙ c.if-not-is_free.false in
    let gave = all_given i script w.history w.seats c.requires.playing.0 client c.requires.client.0 c.requires.client.1 c.requires.playing.2 free c.args.given.now c.requires.playing.1 in
    let next = next_here i script w.history w.seats c.requires.playing.0 client c.requires.client.0 c.requires.client.1 c.requires.playing.2 free c.interface.result.now c.interface.ensures.interface
    c.in-Some.call.fun c.in-Some.call.desc c.in-Some.call.args (some_so _ c.in_ok-next.next c.in-Some.call c.in-Some.is (c.in_ok-next.ensures.some (calls_of w.history client) gave)) in
    let Plays : Worlded → Type 0 = λ x. IsPlaying i script x.view.history x.view.seats all in
    either_way _ _ c.offer.result c.offer.ensures.ok c.offer.ensures.err
    (λ now. subst Plays (sym now) (offered_playing i script w.history w.seats all client c.requires.client.0 c.requires.client.1 is free _ (next.next w.history refl) c.requires.setup))
    (λ now. subst Plays (sym now) is)

pub returns-clause-setup : goal.returns-clause-setup
returns-clause-setup g c =
    let i = c.args.world.now.tables.iface in
    let script = c.args.script.now in
    let w = c.args.world.now.view in
    let client = c.args.client in
    let free : is_free_phase (seat_in w.seats client).phase ≡ true = ap is_free_phase (sym c.phase.ensures.phase) ∙ sym c.is_free.ensures ∙ c.if-not-is_free.false in
    let gave = all_given i script w.history w.seats c.requires.playing.0 client c.requires.client.0 c.requires.client.1 c.requires.playing.2 free c.args.given.now c.requires.playing.1 in
    let next = next_here i script w.history w.seats c.requires.playing.0 client c.requires.client.0 c.requires.client.1 c.requires.playing.2 free c.interface.result.now c.interface.ensures.interface
    c.in-Some.call.fun c.in-Some.call.desc c.in-Some.call.args (some_so _ c.in_ok-next.next c.in-Some.call c.in-Some.is (c.in_ok-next.ensures.some (calls_of w.history client) gave)) in
    let Waits : Worlded → Type 0 = λ x. is_setting_up script x.view.seats ≡ true → client ≡ 1 in
    either_way _ _ c.offer.result c.offer.ensures.ok c.offer.ensures.err
    (λ now. subst Waits (sym now)
    (λ on. c.requires.setup (sym (offered_setup i script w.history w.seats c.requires.playing.0 client c.requires.client.0 c.requires.client.1 c.requires.playing.2 free _ (next.next w.history refl)) ∙ on)))
    (λ now. subst Waits (sym now) c.requires.setup)

pub returns-clause-ok : goal.returns-clause-ok
returns-clause-ok g c =
    let i = c.args.world.now.tables.iface in
    let script = c.args.script.now in
    let w = c.args.world.now.view in
    let client = c.args.client in
    let free : is_free_phase (seat_in w.seats client).phase ≡ true = ap is_free_phase (sym c.phase.ensures.phase) ∙ sym c.is_free.ensures ∙ c.if-not-is_free.false in
    let gave = all_given i script w.history w.seats c.requires.playing.0 client c.requires.client.0 c.requires.client.1 c.requires.playing.2 free c.args.given.now c.requires.playing.1 in
    let next = next_here i script w.history w.seats c.requires.playing.0 client c.requires.client.0 c.requires.client.1 c.requires.playing.2 free c.interface.result.now c.interface.ensures.interface
    c.in-Some.call.fun c.in-Some.call.desc c.in-Some.call.args (some_so _ c.in_ok-next.next c.in-Some.call c.in-Some.is (c.in_ok-next.ensures.some (calls_of w.history client) gave)) in
    let is : with_offer i.facts script w client ≡ with_call w client (Some (record { client = client; seq = (seat_in w.seats client).seq + 1; fun = c.in-Some.call.fun; desc = c.in-Some.call.desc; args = c.in-Some.call.args }))
    = ap (λ b. cond b (with_call w client (call_after i.facts script w.history client (length (calls_of w.history client)))) w) free ∙ ap (with_call w client) (next.next w.history refl) in
    ok_so _ _ c.offer.result (λ now. ap (λ (x : Worlded). x.view) now ∙ sym is) c.offer.ensures.ok
