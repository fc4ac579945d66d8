-- Runs of a script with other stops.
use Rattle.std.proofs.Common.{◌≡◌, ◌≢◌, ◌↔◌, ◌∙◌, Bool, IsTrue, List, [], ◌∷◌, nat_lt, refl, subst, ℕ}
use Rattle.sg_facts.specs.Interface.{Declared}
use Rattle.sg_facts.specs.Trace.{run_of}
use Rattle.sg_report.specs.sg_hist.declared.ended.Ended.{Ended}
use Rattle.sg_shared.specs.Runs.{IsRunInOrder}
use Rattle.sg_shared.specs.sg_sim.sg_plain.Answering.{Answering}
use Rattle.sg_shared.specs.sg_sim.sg_plain.Playing.Playable.{IsPlayable}
use Rattle.sg_shared.specs.sg_sim.sg_script.declared.script.Script.{Script}
use Rattle.sg_explore.specs.declared.outcomes.Outcome.{Outcome}
use Rattle.sg_explore.specs.declared.exploring.Explored.{Explored}
use Rattle.sg_explore.specs.Explored.{IsExplored, IsTried}
use Rattle.sg_explore.specs.Inside.Adding.{Adds, IsOutcomeOf}
use Rattle.sg_explore.specs.Inside.Sums.{Sums, outcome_of, sums_from, sums_text, sums_with}
use Rattle.sg_explore.specs.Tried.{stops_tried}
use Rattle.sg_explore.proofs.Adding.{adds_one}
use Rattle.sg_explore.proofs.Summing.{text_tells, waits_tells}

-- a script may be played with any stops in place of its own
pub playable_with : (i : Declared) (script : Script) (stops : List ℕ) → IsPlayable i script → IsPlayable i (record script { stops = stops })
playable_with i script stops may = record { fit = may.fit; few = may.few; clients = may.clients; setup = may.setup; turns = may.turns }

-- what is kept of a run is kept of one that was tried
pub kept_of : (i : Declared) (service : Answering) (script : Script) (plain played ended : Ended) (stops list : List ℕ) (o : Outcome)
    → list ≡ stops → IsRunInOrder i service (record script { stops = list }) played → ended ≡ played
    → o ≡ outcome_of (record { stops = stops; ended = ended; differs = o.differs })
    → IsTrue o.differs ↔ (ended.history.items ≢ plain.history.items)
    → IsOutcomeOf (IsTried i service script plain) stops o
kept_of i service script plain played ended stops list o is run same kept differs = record {
  run = record { stops = stops; ended = played; differs = o.differs };
  its = refl;
  is = (
    subst (λ s. IsRunInOrder i service (record script { stops = s }) played) is run,
    subst (λ (e : Ended). IsTrue o.differs ↔ (e.history.items ≢ plain.history.items)) same differs,
  );
  kept = subst (λ (e : Ended). o ≡ outcome_of (record { stops = stops; ended = e; differs = o.differs })) same kept;
}

-- a run is added with all of it
pub adds_first : (i : Declared) (service : Answering) (script : Script) (plain played : Ended) (stops list : List ℕ) (differs : Bool) (before now : Sums)
    → list ≡ stops → IsRunInOrder i service (record script { stops = list }) played
    → now ≡ sums_with before (record { stops = stops; ended = played; differs = differs })
    → IsTrue differs ↔ (played.history.items ≢ plain.history.items)
    → Adds (IsTried i service script plain) (stops ∷ []) before now
adds_first i service script plain played stops list differs before now is run sums tells =
    adds_one (IsTried i service script plain) (record { stops = stops; ended = played; differs = differs }) stops before now refl
    (subst (λ s. IsRunInOrder i service (record script { stops = s }) played) is run, tells) sums

-- what was added is what is found
pub explored_so : (i : Declared) (service : Answering) (script : Script) (most : ℕ) (plain : Ended) (found : Explored) (s : Sums)
    → IsRunInOrder i service (record script { stops = [] }) plain
    → Adds (IsTried i service script plain) (stops_tried (run_of plain.trace).points most) (sums_from plain) s
    → found.text ≡ sums_text i.facts (run_of plain.trace).points s → found.waits ≡ nat_lt 0 s.blocked
    → IsExplored i service script most found
explored_so i service script most plain found s its added text waits = record {
  plain = plain;
  its = its;
  others = added.others;
  tried = added.tried;
  each = added.each;
  text = text ∙ text_tells i.facts plain added.others s added.sums;
  waits = waits ∙ waits_tells plain added.others s added.sums;
}
