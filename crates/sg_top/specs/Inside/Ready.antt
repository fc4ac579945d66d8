-- Inputs that are ready, with the service of their interface.
use Rattle.std.specs.Prelude.{ℕ, List}
use Rattle.sg_judge.specs.sg_input.Inputs.{IsInputOf, IsReady, IsRunInputOf, IsRunReady}
use Rattle.sg_judge.specs.sg_input.Judged.{MayBeJudged}
use Rattle.sg_judge.specs.sg_input.declared.read.Read.{Read}
use Rattle.sg_judge.specs.sg_input.declared.read.Read.TheVariants.{Ready, Refused}
use Rattle.sg_judge.specs.AnyInputs.{IsAcceptedAs}
use Rattle.sg_judge.specs.declared.interface.AnyInterface.{AnyInterface}
use Rattle.sg_top.specs.Answer.{judging, services}
use Rattle.sg_top.specs.Inside.Plays.{IsServedAs}
use Rattle.sg_top.specs.declared.ready.ReadyInput.{ReadyInput}
use Rattle.sg_top.specs.declared.ready.ReadyRun.{ReadyRun}

-- some text is accepted with this interface
abbrev pub IsAccepted : AnyInterface → Type 0
IsAccepted any = (text : List ℕ) × IsAcceptedAs services text any.accepted any.own

-- an input is ready with this interface and script, and the interface is of this service
pub record IsReadyInput (bytes : List ℕ) (r : ReadyInput) : Type 0 where
  pub ready : IsReady judging bytes r.accepted r.script
  pub served : IsServedAs ready.interface r.accepted r.served

-- an input is ready so, or it is refused with this line
abbrev pub IsServedInput : List ℕ → Read ReadyInput → Type 0
IsServedInput bytes (Ready r) = IsReadyInput bytes r
IsServedInput bytes (Refused line) = IsInputOf judging bytes (Refused line)

-- the same with a history that may be judged
pub record IsReadyRun (bytes : List ℕ) (r : ReadyRun) : Type 0 where
  pub ready : IsRunReady judging bytes r.accepted r.history.items
  pub served : IsServedAs ready.interface r.accepted r.served
  pub may : MayBeJudged (Ready (r.accepted, r.history))

abbrev pub IsServedRun : List ℕ → Read ReadyRun → Type 0
IsServedRun bytes (Ready r) = IsReadyRun bytes r
IsServedRun bytes (Refused line) = IsRunInputOf judging bytes (Refused line)
