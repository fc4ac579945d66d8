-- In whichever world it is.
use Rattle.sg_multi.proofs.Arms.{did_in}
use Rattle.sg_multi.proofs.member.MemberServiceWorld.step.Goals as goal
use Rattle.sg_multi.proofs.member.MemberServiceWorld.step.Goals.{in-Locks, in-Events, in-Pages, in-Files, in-Threads, in-Timers, in-First, in-Second, in-Third, in-Fourth, in-Fifth, in-Sixth}

pub returns-clause-did : goal.returns-clause-did
returns-clause-did g c =
    elim c.match-self.branch [
      | in-Locks w ↦ did_in c.args.client c.args.self.now c.self.inside c.match-self.self-inside c.self.view_is w.in-Locks.is w.self-inside-is w.result-is w.step.ensures.did
      | in-Events w ↦ did_in c.args.client c.args.self.now c.self.inside c.match-self.self-inside c.self.view_is w.in-Events.is w.self-inside-is w.result-is w.step-in-Events.ensures.did
      | in-Pages w ↦ did_in c.args.client c.args.self.now c.self.inside c.match-self.self-inside c.self.view_is w.in-Pages.is w.self-inside-is w.result-is w.step-in-Pages.ensures.did
      | in-Files w ↦ did_in c.args.client c.args.self.now c.self.inside c.match-self.self-inside c.self.view_is w.in-Files.is w.self-inside-is w.result-is w.step-in-Files.ensures.did
      | in-Threads w ↦ did_in c.args.client c.args.self.now c.self.inside c.match-self.self-inside c.self.view_is w.in-Threads.is w.self-inside-is w.result-is w.step-in-Threads.ensures.did
      | in-Timers w ↦ did_in c.args.client c.args.self.now c.self.inside c.match-self.self-inside c.self.view_is w.in-Timers.is w.self-inside-is w.result-is w.step-in-Timers.ensures.did
      | in-First w ↦ did_in c.args.client c.args.self.now c.self.inside c.match-self.self-inside c.self.view_is w.in-First.is w.self-inside-is w.result-is w.step-in-First.ensures.did
      | in-Second w ↦ did_in c.args.client c.args.self.now c.self.inside c.match-self.self-inside c.self.view_is w.in-Second.is w.self-inside-is w.result-is w.step-in-Second.ensures.did
      | in-Third w ↦ did_in c.args.client c.args.self.now c.self.inside c.match-self.self-inside c.self.view_is w.in-Third.is w.self-inside-is w.result-is w.step-in-Third.ensures.did
      | in-Fourth w ↦ did_in c.args.client c.args.self.now c.self.inside c.match-self.self-inside c.self.view_is w.in-Fourth.is w.self-inside-is w.result-is w.step-in-Fourth.ensures.did
      | in-Fifth w ↦ did_in c.args.client c.args.self.now c.self.inside c.match-self.self-inside c.self.view_is w.in-Fifth.is w.self-inside-is w.result-is w.step-in-Fifth.ensures.did
      | in-Sixth w ↦ did_in c.args.client c.args.self.now c.self.inside c.match-self.self-inside c.self.view_is w.in-Sixth.is w.self-inside-is w.result-is w.step-in-Sixth.ensures.did
    ]
