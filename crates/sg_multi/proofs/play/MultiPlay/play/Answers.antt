-- What the play came to is told of the members that it was made of.
use Rattle.std.proofs.Common.{◌≡◌, ◌∙◌, List, map, ap, subst}
use Rattle.std.specs.Prelude.{IfOk}
use Rattle.sg_multi.specs.sg_sim.sg_play.sg_hist.Recovered.{Stubs}
use Rattle.sg_multi.specs.sg_sim.sg_script.declared.multi.MultiScript.{MultiScript}
use Rattle.sg_multi.specs.Played.{IsMultiPlayed, stubs_in}
use Rattle.sg_multi.specs.Playing.{MultiPlaying}
use Rattle.sg_multi.proofs.play.MultiPlay.play.Goals as goal

pub invariant_of-self : goal.invariant_of-self
invariant_of-self g c = c.come_to_end.ensures.keeps

pub invariant_of-self-2 : goal.invariant_of-self-2
invariant_of-self-2 g c = c.come_to_end.ensures.keeps

pub returns-clause-played : goal.returns-clause-played
returns-clause-played g c =
    let members : map stubs_in c.come_to_end.new.running.members ≡ map stubs_in c.args.self.now.members = c.come_to_end.ensures.same ∙ ap (λ (p : MultiPlaying). map stubs_in p.members) c.self.view_is in
    let script : c.self.inside.script ≡ c.args.self.now.script = ap (λ (p : MultiPlaying). p.script) c.self.view_is in
    subst (λ (s : MultiScript). IfOk c.ended.result (IsMultiPlayed (map stubs_in c.args.self.now.members) s)) script
    (subst (λ (l : List Stubs). IfOk c.ended.result (IsMultiPlayed l c.self.inside.script)) members c.ended.ensures.played)

pub returns-clause-members : goal.returns-clause-members
returns-clause-members g c = c.come_to_end.ensures.same ∙ ap (λ (p : MultiPlaying). map stubs_in p.members) c.self.view_is

pub returns-in_err-come_to_end-clause-members : goal.returns-in_err-come_to_end-clause-members
returns-in_err-come_to_end-clause-members g c = c.come_to_end.ensures.same ∙ ap (λ (p : MultiPlaying). map stubs_in p.members) c.self.view_is
