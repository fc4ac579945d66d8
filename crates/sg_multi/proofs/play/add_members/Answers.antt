-- One member more.
use Rattle.std.proofs.Common.{◌≡◌, ◌∙◌, ℕ, ◌+◌, ◌<◌, ◌≤◌, ◌∷◌, [], List, Some, length, ap, arith, slice_get, subst, sym, length-append}
use Rattle.sg_facts.specs.Limits.{last_client}
use Rattle.sg_multi.specs.Members.{Membered}
use Rattle.sg_multi.specs.sg_edge.Stops.{AscendsAbove}
use Rattle.sg_multi.specs.Serving.{IsOfServed}
use Rattle.sg_multi.specs.Beginning.{AreNew}
use Rattle.sg_multi.specs.declared.play.MemberTables.{MemberTables}
use Rattle.sg_multi.proofs.Beginning.{last_within}
use Rattle.sg_multi.proofs.Ending.{each_at}
use Rattle.sg_multi.proofs.Growing.{new_more}
use Rattle.sg_multi.proofs.Merging.{length_mapped}
use Rattle.sg_multi.proofs.Turning.{read_there}
use Rattle.sg_multi.proofs.play.add_members.Goals as goal

pub tables-init : goal.tables-init
tables-init g c =
    (ap (λ (l : List Membered). length l) c.requires.none, λ k t plan m its stop there. let none : Some m ≡ slice_get [] k = sym there ∙ ap (λ l. slice_get l k) c.requires.none in absurd (cc none))

pub bounds-stops-place : goal.bounds-stops-place
bounds-stops-place g c =
    omega (arith, c.tables-test.true, c.requires.playable.members, length_mapped (λ (x : MemberTables). x.tables.iface) c.args.tables.now, ap (λ (l : List (List ℕ)). length l) c.as_slice-stops.ensures)

pub add_member-requires-clause-service : goal.add_member-requires-clause-service
add_member-requires-clause-service g c =
    let tables = c.args.tables.now in
    let t = c.index-tables-place.result in
    let p = c.index-stops-place.result in
    let there : slice_get tables c.tables.place ≡ Some t = read_there tables c.tables.place t c.tables-test.true ∙ ap (λ (x : MemberTables). Some x) (sym c.index-tables-place.is) in
    let within : c.tables.place < length c.as_slice-stops.result.now
    = omega (arith, c.tables-test.true, c.requires.playable.members, length_mapped (λ (x : MemberTables). x.tables.iface) tables, ap (λ (l : List (List ℕ)). length l) c.as_slice-stops.ensures) in
    let points : slice_get c.args.script.now.stops c.tables.place ≡ Some p
    = ap (λ l. slice_get l c.tables.place) (sym c.as_slice-stops.ensures) ∙ read_there c.as_slice-stops.result.now c.tables.place p within ∙ ap (λ (x : List ℕ). Some x) (sym c.index-stops-place.is) in
    each_at (λ (x : MemberTables). IsOfServed x.tables.iface x.service) tables c.tables.place t c.requires.services there

pub add_member-requires-clause-there : goal.add_member-requires-clause-there
add_member-requires-clause-there g c = omega (arith, c.tables-test.true, c.requires.few)

pub add_member-requires-clause-picked : goal.add_member-requires-clause-picked
add_member-requires-clause-picked g c =
    let tables = c.args.tables.now in
    let t = c.index-tables-place.result in
    let there : slice_get tables c.tables.place ≡ Some t = read_there tables c.tables.place t c.tables-test.true ∙ ap (λ (x : MemberTables). Some x) (sym c.index-tables-place.is) in
    c.requires.picked c.tables.place t there

pub add_member-requires-clause-few : goal.add_member-requires-clause-few
add_member-requires-clause-few g c = subst (λ n. n ≤ last_client) (sym c.requires.clients) (last_within 0 c.args.script.now.clients c.requires.playable.clients)

pub add_member-requires-clause-ascend : goal.add_member-requires-clause-ascend
add_member-requires-clause-ascend g c =
    let tables = c.args.tables.now in
    let t = c.index-tables-place.result in
    let p = c.index-stops-place.result in
    let there : slice_get tables c.tables.place ≡ Some t = read_there tables c.tables.place t c.tables-test.true ∙ ap (λ (x : MemberTables). Some x) (sym c.index-tables-place.is) in
    let within : c.tables.place < length c.as_slice-stops.result.now
    = omega (arith, c.tables-test.true, c.requires.playable.members, length_mapped (λ (x : MemberTables). x.tables.iface) tables, ap (λ (l : List (List ℕ)). length l) c.as_slice-stops.ensures) in
    let points : slice_get c.args.script.now.stops c.tables.place ≡ Some p
    = ap (λ l. slice_get l c.tables.place) (sym c.as_slice-stops.ensures) ∙ read_there c.as_slice-stops.result.now c.tables.place p within ∙ ap (λ (x : List ℕ). Some x) (sym c.index-stops-place.is) in
    each_at (AscendsAbove 0) c.args.script.now.stops c.tables.place p c.requires.playable.stops points

pub tables-preserved : goal.tables-preserved
tables-preserved g c =
    let tables = c.args.tables.now in
    let t = c.index-tables-place.result in
    let p = c.index-stops-place.result in
    let there : slice_get tables c.tables.place ≡ Some t = read_there tables c.tables.place t c.tables-test.true ∙ ap (λ (x : MemberTables). Some x) (sym c.index-tables-place.is) in
    let within : c.tables.place < length c.as_slice-stops.result.now
    = omega (arith, c.tables-test.true, c.requires.playable.members, length_mapped (λ (x : MemberTables). x.tables.iface) tables, ap (λ (l : List (List ℕ)). length l) c.as_slice-stops.ensures) in
    let points : slice_get c.args.script.now.stops c.tables.place ≡ Some p
    = ap (λ l. slice_get l c.tables.place) (sym c.as_slice-stops.ensures) ∙ read_there c.as_slice-stops.result.now c.tables.place p within ∙ ap (λ (x : List ℕ). Some x) (sym c.index-stops-place.is) in
    let added = c.in_ok-add_member.ensures in
    let old = c.tables.members in
    let before = c.tables.invariant in (
      ap (λ (l : List Membered). length l) added.1 ∙ length-append old (added.0 ∷ []) ∙ ap (λ n. n + 1) before.0,
      subst (AreNew tables c.args.script.now.stops c.args.clients) (sym added.1) (new_more tables c.args.script.now.stops c.args.clients old c.tables.place t p added.0 before.0 there points added.2 before.1),
    )

pub returns : goal.returns
returns g c = record { count = omega (arith, c.tables.invariant.0, c.tables-test.false, c.tables.auto.place-end); each = c.tables.invariant.1 }
