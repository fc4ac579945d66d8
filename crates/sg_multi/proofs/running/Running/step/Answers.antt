-- The member is noted where the client has an entry more.
use Rattle.std.proofs.Common.{◌≡◌, ◌∙◌, ◌≤◌, ◌-◌, List, false, true, length, map, ap, arith, nat_lt, sym, subst}
use Rattle.std.specs.Prelude.{option_map}
use Rattle.sg_multi.specs.Members.{Membered, view_in}
use Rattle.sg_multi.specs.sg_sim.Inside.Givens.{lists_of}
use Rattle.sg_multi.specs.sg_sim.sg_plain.Playing.Turns.{is_free_phase}
use Rattle.sg_multi.specs.sg_sim.sg_script.declared.multi.MultiCall.{MultiCall}
use Rattle.sg_multi.specs.sg_sim.sg_clients.WorldView.{Seat, seat_of}
use Rattle.sg_multi.specs.Inside.Keeps.{is_multi_setting_up}
use Rattle.sg_multi.specs.Inside.Turns.{KeepsRunning}
use Rattle.sg_multi.specs.Inside.Whose.{next_of, seat_at}
use Rattle.sg_multi.specs.Played.{stubs_in}
use Rattle.sg_multi.proofs.Turning.{as_many, client_noted, client_there, its_next, members_noted, noted_keeps, on_err, reserved_keeps, reserved_turn, room_noted, seat_is, seats_there, stepped_asked, stepped_at, stepped_begins, stepped_follows, stepped_same, stepped_seats, stepped_sets_up, wanted_at}
use Rattle.sg_multi.proofs.running.Running.step.Goals as goal

pub reserve-requires : goal.reserve-requires
reserve-requires g c =
    let r = c.args.self.now in
    client_there r.members c.args.script.now r.given r.order.items c.requires.keeps.keeps c.args.client c.requires.first c.requires.last

pub returns-in_err-reserve-clause-keeps : goal.returns-in_err-reserve-clause-keeps
returns-in_err-reserve-clause-keeps g c =
    let r = c.args.self.now in
    let q = c.reserve.new.self in
    let s = c.args.script.now in
    let keeps : KeepsRunning s q = reserved_keeps s r q c.reserve.ensures.members c.reserve.ensures.lists c.reserve.ensures.items c.reserve.ensures.passed c.reserve.ensures.last c.requires.keeps in
    on_err (KeepsRunning s q) c.from_residual.result keeps

pub returns-in_err-reserve-clause-same : goal.returns-in_err-reserve-clause-same
returns-in_err-reserve-clause-same g c =
    ap (map stubs_in) c.reserve.ensures.members

pub member_of-requires-clause-there : goal.member_of-requires-clause-there
member_of-requires-clause-there g c =
    subst (λ (l : List Membered). c.args.member ≤ length l) (sym c.reserve.ensures.members) c.requires.there

pub entries_of-before-requires : goal.entries_of-before-requires
entries_of-before-requires g c =
    let r = c.args.self.now in
    let q = c.reserve.new.self in
    let s = c.args.script.now in
    let keeps : KeepsRunning s q = reserved_keeps s r q c.reserve.ensures.members c.reserve.ensures.lists c.reserve.ensures.items c.reserve.ensures.passed c.reserve.ensures.last c.requires.keeps in
    record { client = seats_there q.members s q.given q.order.items keeps.keeps c.args.client c.requires.first c.requires.last (c.args.member - 1) c.member_of.result.now c.member_of.ensures }

pub overflow_sub-place : goal.overflow_sub-place
overflow_sub-place g c =
    omega (arith, c.from-place.ensures, c.requires.some)

pub step-requires-clause-there : goal.step-requires-clause-there
step-requires-clause-there g c =
    omega (arith, c.from-place.ensures, c.requires.some, c.requires.there, ap (λ (l : List Membered). length l) c.reserve.ensures.members)

pub step-requires-clause-client : goal.step-requires-clause-client
step-requires-clause-client g c =
    let r = c.args.self.now in
    let q = c.reserve.new.self in
    let s = c.args.script.now in
    let keeps : KeepsRunning s q = reserved_keeps s r q c.reserve.ensures.members c.reserve.ensures.lists c.reserve.ensures.items c.reserve.ensures.passed c.reserve.ensures.last c.requires.keeps in
    λ x at. seats_there q.members s q.given q.order.items keeps.keeps c.args.client c.requires.first c.requires.last (c.from-place.result - 1) x at

pub returns-in_err-did-clause-keeps : goal.returns-in_err-did-clause-keeps
returns-in_err-did-clause-keeps g c =
    let r = c.args.self.now in
    let q = c.reserve.new.self in
    let s = c.args.script.now in
    let keeps : KeepsRunning s q = reserved_keeps s r q c.reserve.ensures.members c.reserve.ensures.lists c.reserve.ensures.items c.reserve.ensures.passed c.reserve.ensures.last c.requires.keeps in
    let m = c.member_of.result.now in
    let lists = lists_of q.given in
    let later = c.step.new.self in
    let still = wanted_at q.members s (lists_of q.given) q.order.items keeps.keeps c.args.client c.requires.first c.requires.last c.args.member c.from-place.result c.requires.some c.from-place.ensures m c.member_of.ensures later c.in_err-did.ensures.err in
    on_err (KeepsRunning s (record q { members = later })) c.from_residual-in_err-did.result (record { keeps = still.kept; last_there = keeps.last_there; sets_up = still.sets_up keeps.sets_up; asked = still.asked keeps.asked; begins = still.begins keeps.begins; follows = still.follows q.passed q.last keeps.follows })

pub returns-in_err-did-clause-same : goal.returns-in_err-did-clause-same
returns-in_err-did-clause-same g c =
    let r = c.args.self.now in
    let q = c.reserve.new.self in
    let s = c.args.script.now in
    let keeps : KeepsRunning s q = reserved_keeps s r q c.reserve.ensures.members c.reserve.ensures.lists c.reserve.ensures.items c.reserve.ensures.passed c.reserve.ensures.last c.requires.keeps in
    let m = c.member_of.result.now in
    let lists = lists_of q.given in
    let later = c.step.new.self in
    (wanted_at q.members s (lists_of q.given) q.order.items keeps.keeps c.args.client c.requires.first c.requires.last c.args.member c.from-place.result c.requires.some c.from-place.ensures m c.member_of.ensures later c.in_err-did.ensures.err).same ∙ ap (map stubs_in) c.reserve.ensures.members

pub member_of-requires-2-clause-there : goal.member_of-requires-2-clause-there
member_of-requires-2-clause-there g c =
    let r = c.args.self.now in
    let q = c.reserve.new.self in
    let s = c.args.script.now in
    let keeps : KeepsRunning s q = reserved_keeps s r q c.reserve.ensures.members c.reserve.ensures.lists c.reserve.ensures.items c.reserve.ensures.passed c.reserve.ensures.last c.requires.keeps in
    let m = c.member_of.result.now in
    let lists = lists_of q.given in
    let later = c.step.new.self in
    omega (arith, c.requires.there, as_many q.members later (stepped_same q.members s (lists_of q.given) q.order.items keeps.keeps c.args.client c.requires.first c.requires.last c.args.member c.from-place.result c.requires.some c.from-place.ensures m c.member_of.ensures later c.in_ok-did.did c.in_ok-did.ensures.did), ap (λ (l : List Membered). length l) c.reserve.ensures.members)

pub entries_of-after-requires : goal.entries_of-after-requires
entries_of-after-requires g c =
    let r = c.args.self.now in
    let q = c.reserve.new.self in
    let s = c.args.script.now in
    let keeps : KeepsRunning s q = reserved_keeps s r q c.reserve.ensures.members c.reserve.ensures.lists c.reserve.ensures.items c.reserve.ensures.passed c.reserve.ensures.last c.requires.keeps in
    let m = c.member_of.result.now in
    let lists = lists_of q.given in
    let later = c.step.new.self in
    record { client = stepped_seats q.members s (lists_of q.given) q.order.items keeps.keeps c.args.client c.requires.first c.requires.last c.args.member c.from-place.result c.requires.some c.from-place.ensures m c.member_of.ensures later c.in_ok-did.did c.in_ok-did.ensures.did c.member_of-2.result.now c.member_of-2.ensures }

pub note_entry-requires : goal.note_entry-requires
note_entry-requires g c =
    c.in_ok-reserve.ensures.order

pub note_reply-requires-clause-client : goal.note_reply-requires-clause-client
note_reply-requires-clause-client g c =
    let r = c.args.self.now in
    let q = c.reserve.new.self in
    let s = c.args.script.now in
    let keeps : KeepsRunning s q = reserved_keeps s r q c.reserve.ensures.members c.reserve.ensures.lists c.reserve.ensures.items c.reserve.ensures.passed c.reserve.ensures.last c.requires.keeps in
    client_noted c.args.client c.note_entry.ensures.rest (client_there q.members s q.given q.order.items keeps.keeps c.args.client c.requires.first c.requires.last)

pub note_reply-requires-clause-room : goal.note_reply-requires-clause-room
note_reply-requires-clause-room g c =
    room_noted c.args.client c.note_entry.ensures.rest c.in_ok-reserve.ensures.given

pub returns-clause-turned : goal.returns-clause-turned
returns-clause-turned g c = λ taken turn.
    let r = c.args.self.now in
    let q = c.reserve.new.self in
    let s = c.args.script.now in
    let keeps : KeepsRunning s q = reserved_keeps s r q c.reserve.ensures.members c.reserve.ensures.lists c.reserve.ensures.items c.reserve.ensures.passed c.reserve.ensures.last c.requires.keeps in
    let m = c.member_of.result.now in
    let x = c.member_of-2.result.now in
    let lists = lists_of q.given in
    let later = c.step.new.self in
    let setup : is_multi_setting_up s lists ≡ true → c.args.client ≡ 1 = λ on. c.requires.setup (subst (λ l. is_multi_setting_up s l ≡ true) c.reserve.ensures.lists on) in
    let written = its_next (next_of s lists c.args.client) c.args.member (ap (λ l. option_map (λ (y : MultiCall). y.member) (next_of s l c.args.client)) c.reserve.ensures.lists ∙ c.requires.next) in
    let busy : is_free_phase (seat_of (view_in m) c.args.client).phase ≡ false
    = ap (λ (y : Seat). is_free_phase y.phase) (sym (seat_is q.members (c.args.member - 1) m c.args.client c.member_of.ensures)) ∙ ap (λ ms. is_free_phase (seat_at ms (c.args.member - 1) c.args.client).phase) c.reserve.ensures.members ∙ c.requires.busy in
    let kept = stepped_at q.members s lists q.order.items keeps.keeps c.args.client c.requires.first c.requires.last c.args.member c.from-place.result c.requires.some c.from-place.ensures m c.member_of.ensures later setup c.entries_of-before.ensures.told c.in_ok-did.did x c.member_of-2.ensures c.entries_of-after.ensures.told c.in_ok-did.ensures.did in
    let follows = stepped_follows q.members s lists q.order.items keeps.keeps c.args.client c.requires.first c.requires.last c.args.member c.from-place.result c.requires.some c.from-place.ensures m c.member_of.ensures later
    written.0 written.1 written.2 busy c.entries_of-before.ensures.told c.in_ok-did.did x c.member_of-2.ensures c.entries_of-after.ensures.told c.in_ok-did.ensures.did kept q.passed q.last taken
    (reserved_turn s r q c.args.client taken c.reserve.ensures.members c.reserve.ensures.lists c.reserve.ensures.passed c.reserve.ensures.last turn keeps.keeps.merged) keeps.follows in
    let sets_up = stepped_sets_up q.members s lists q.order.items keeps.keeps c.args.client c.requires.first c.requires.last c.args.member c.from-place.result c.requires.some c.from-place.ensures m c.member_of.ensures later
    setup c.in_ok-did.did c.in_ok-did.ensures.did keeps.sets_up in
    let begins = stepped_begins q.members s lists q.order.items keeps.keeps c.args.client c.requires.first c.requires.last c.args.member c.from-place.result c.requires.some c.from-place.ensures m c.member_of.ensures later
    written.0 written.1 written.2 busy c.entries_of-before.ensures.told c.in_ok-did.did x c.member_of-2.ensures c.in_ok-did.ensures.did kept q.passed q.last taken
    (reserved_turn s r q c.args.client taken c.reserve.ensures.members c.reserve.ensures.lists c.reserve.ensures.passed c.reserve.ensures.last turn keeps.keeps.merged) keeps.follows keeps.begins in
    let asked = stepped_asked q.members s lists q.order.items keeps.keeps c.args.client c.requires.first c.requires.last c.args.member c.from-place.result c.requires.some c.from-place.ensures m c.member_of.ensures later
    c.entries_of-before.ensures.told c.in_ok-did.did x c.member_of-2.ensures c.in_ok-did.ensures.did kept keeps.asked in
    noted_keeps s q later c.note_entry.new.self c.note_reply.new.self c.args.client c.args.member c.in_ok-did.did c.handed.result (nat_lt c.entries_of-before.result c.entries_of-after.result)
    (seat_of (view_in m) c.args.client).seq (seat_of (view_in x) c.args.client).seq
    (ap (λ n. nat_lt n c.entries_of-after.result) c.entries_of-before.ensures.seq ∙ ap (nat_lt (seat_of (view_in m) c.args.client).seq) c.entries_of-after.ensures.seq)
    c.handed.ensures c.note_entry.ensures.items c.note_entry.ensures.rest c.note_reply.ensures.lists c.note_reply.ensures.rest c.requires.last taken (record { keeps = kept; sets_up = sets_up; asked = asked; begins = begins; follows = follows })

pub returns-clause-same : goal.returns-clause-same
returns-clause-same g c =
    let r = c.args.self.now in
    let q = c.reserve.new.self in
    let s = c.args.script.now in
    let keeps : KeepsRunning s q = reserved_keeps s r q c.reserve.ensures.members c.reserve.ensures.lists c.reserve.ensures.items c.reserve.ensures.passed c.reserve.ensures.last c.requires.keeps in
    let m = c.member_of.result.now in
    let lists = lists_of q.given in
    let later = c.step.new.self in
    members_noted c.note_entry.ensures.rest c.note_reply.ensures.rest
    ∙ stepped_same q.members s (lists_of q.given) q.order.items keeps.keeps c.args.client c.requires.first c.requires.last c.args.member c.from-place.result c.requires.some c.from-place.ensures m c.member_of.ensures later c.in_ok-did.did c.in_ok-did.ensures.did ∙ ap (map stubs_in) c.reserve.ensures.members
