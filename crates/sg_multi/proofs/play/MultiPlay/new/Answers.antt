-- Nothing was done in the worlds of a new play.
use Rattle.std.proofs.Common.{◌∙◌, [], replicate, ap, arith, inl, refl, subst}
use Rattle.sg_multi.specs.sg_sim.Inside.Givens.{lists_of}
use Rattle.sg_multi.specs.sg_sim.sg_plain.Calls.{most_client}
use Rattle.sg_multi.specs.sg_sim.sg_clients.WorldView.{WorldView}
use Rattle.sg_multi.specs.sg_sim.sg_play.sg_hist.Recovered.{struck_in}
use Rattle.sg_multi.specs.Beginning.{AreNewMembers}
use Rattle.sg_multi.proofs.Asking.{asked_new}
use Rattle.sg_multi.proofs.Beginning.{kept_new, stubs_are, view_new}
use Rattle.sg_multi.proofs.Following.{new_follows}
use Rattle.sg_multi.proofs.SettingUp.{sets_up_new}
use Rattle.sg_multi.proofs.Turning.{parts_same}
use Rattle.sg_multi.proofs.play.MultiPlay.new.Goals as goal

pub members_of-requires-clause-clients : goal.members_of-requires-clause-clients
members_of-requires-clause-clients g c = c.most_client-clients.ensures ∙ ap most_client c.as_slice.ensures

pub invariant_of-result : goal.invariant_of-result
invariant_of-result g c =
    let count = c.most_client-clients.ensures ∙ ap most_client c.as_slice.ensures in
    let worlds = c.in_ok-worlds.worlds in
    let new = subst (λ n. AreNewMembers c.args.members.now c.args.script.stops n worlds) count c.in_ok-worlds.ensures in
    let given = c.in_ok-given.ensures ∙ ap (λ n. replicate n []) count in
    let kept = kept_new c.args.members.now c.args.script worlds c.requires.services c.requires.playable new in
    let nothing = view_new c.args.members.now c.args.script worlds c.requires.services c.requires.playable new in
    let parts = parts_same c.args.script worlds worlds (replicate (most_client c.args.script.clients) []) (lists_of c.in_ok-given.given) [] c.new-order.result.items 0 0 refl given c.new-order.ensures
    (record {
      keeps = kept;
      sets_up = sets_up_new worlds c.args.script (replicate (most_client c.args.script.clients) []) (most_client c.args.script.clients) nothing;
      asked = asked_new worlds c.args.script kept.merged (most_client c.args.script.clients) nothing;
      begins = inl (λ q x there. ap (λ (v : WorldView). struck_in v.run) (nothing q x there));
      follows = new_follows worlds c.args.script nothing kept;
    }) in
    record { keeps = parts.keeps; last_there = omega arith; sets_up = parts.sets_up; asked = parts.asked; begins = parts.begins; follows = parts.follows }

pub returns-clause-members : goal.returns-clause-members
returns-clause-members g c =
    let count = c.most_client-clients.ensures ∙ ap most_client c.as_slice.ensures in
    let worlds = c.in_ok-worlds.worlds in
    stubs_are c.args.members.now c.args.script worlds c.requires.services c.requires.playable (subst (λ n. AreNewMembers c.args.members.now c.args.script.stops n worlds) count c.in_ok-worlds.ensures)

pub returns-clause-new : goal.returns-clause-new
returns-clause-new g c =
    subst (λ n. AreNewMembers c.args.members.now c.args.script.stops n c.in_ok-worlds.worlds) (c.most_client-clients.ensures ∙ ap most_client c.as_slice.ensures) c.in_ok-worlds.ensures
