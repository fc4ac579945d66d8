-- An input that is ready is of one of the services, and its script may be played.
use Rattle.std.proofs.Common.{◌≡◌, ℕ, suc, Bool, true, false, List, [], ◌∷◌, Some, cond, sym, ap, subst, arith}
use Rattle.std.specs.List.{Contains}
use Rattle.std.specs.Str.{bytes_eq}
use Rattle.sg_load.specs.sg_check_statements.Says.{service_of}
use Rattle.sg_edge.specs.Stops.{AscendsAbove}
use Rattle.sg_multi.specs.sg_facts.Facts.{Facts}
use Rattle.sg_multi.specs.sg_facts.Interface.{Declared}
use Rattle.sg_judge.proofs.sg_input.OfServices.{among}
use Rattle.sg_judge.specs.sg_input.Inputs.{IsInterface, IsReady}
use Rattle.sg_load.specs.sg_plain.Playing.Playable.{IsPlayable}
use Rattle.sg_judge.specs.sg_input.sg_script.declared.script.Script.{Script}
use Rattle.sg_load.proofs.sg_plain.Flawless.Flawless.{script_playable, script_stops}
use Rattle.sg_top.specs.Answer.{judging, services}
use Rattle.sg_top.specs.Inside.Plays.{IsPlayed}

-- ---- services

-- facts that are found by a name are among those where they are found
found_from : (name : List ℕ) (s facts : Facts) (list : List Facts) → (service_of list name ≡ Some facts → Contains list facts)
    → (b : Bool) → cond b (Some s) (service_of list name) ≡ Some facts → Contains (s ∷ list) facts
found_from name s facts list later true is = let it : s ≡ facts = cc in (0, omega arith, it)
found_from name s facts list later false is = let rest = later is in let within = rest.1 in (suc rest.0, omega (arith, within), rest.2)

found : (name : List ℕ) (facts : Facts) (list : List Facts) → service_of list name ≡ Some facts → Contains list facts
found name facts [] is = absurd (cc is)
found name facts (s ∷ list) is = found_from name s facts list (found name facts list) (bytes_eq s.name name) is

-- ---- inputs

pub interface_service : (text : List ℕ) (i : Declared) → IsInterface services text i → IsPlayed i.facts
interface_service text i (tree, parses, accepted) =
    subst IsPlayed (sym (ap (λ v. v.facts) accepted.declared)) (found tree.facts.service.bytes accepted.facts services (among services tree tree.facts.service.bytes accepted.facts accepted.service))

pub ready_playable : (bytes : List ℕ) (i : Declared) (script : Script) → IsReady judging bytes i script → IsPlayable i script
ready_playable bytes i script ready = script_playable i ready.second script ready.reads

pub ready_stops : (bytes : List ℕ) (i : Declared) (script : Script) → IsReady judging bytes i script → AscendsAbove 0 script.stops
ready_stops bytes i script ready = script_stops i ready.second script ready.reads
