-- What an input is, whatever the version of its interface.
use Rattle.std.specs.Prelude.{ℕ, ◌≡◌, ◌⊎◌, List, None, Some, map}
use Rattle.std.specs.List.{AllZip}
use Rattle.std.specs.declared.option.Option.{Option}
use Rattle.sg_explain.specs.sg_facts.Facts.{Facts}
use Rattle.sg_explain.specs.sg_facts.Interface.{Declared}
use Rattle.sg_explain.specs.sg_facts.declared.entry.Entry.{Entry}
use Rattle.sg_explain.specs.sg_facts.sg_base.Room.{Roomy}
use Rattle.sg_explain.specs.sg_input.Inputs.{IsInputOf, IsInterface, IsReady, IsRunInputOf, IsRunReady, Judging, judged_by}
use Rattle.sg_explain.specs.sg_input.MultiInputs.{IsMultiInputOf, IsMultiReady}
use Rattle.sg_explain.specs.sg_input.declared.read.Read.{Read}
use Rattle.sg_explain.specs.sg_input.declared.read.Read.TheVariants.{Ready, Refused}
use Rattle.sg_explain.specs.sg_input.sg_print.sg_parse.declared.tree.Tree.{Tree}
use Rattle.sg_explain.specs.sg_input.sg_script.declared.multi.MultiScript.{MultiScript}
use Rattle.sg_explain.specs.sg_input.sg_script.declared.script.Script.{Script}
use Rattle.sg_own.specs.Faults.{IsOwnAccepted, IsOwnFault}
use Rattle.sg_own.specs.declared.fault.OwnKind.{OwnKind}
use Rattle.sg_own.specs.sg_describe.DescribedText.{described_of_text}
use Rattle.sg_own.specs.sg_described.Described.{described_of}
use Rattle.sg_own.specs.sg_described.declared.description.Description.{Description}
use Rattle.sg_judge.specs.declared.interface.AnyInterface.{AnyInterface}
use Rattle.sg_judge.specs.Names.{own_name}
use Rattle.sg_judge.specs.Said.{IsOfServices, IsOwnText}

-- ---- how texts are judged

-- a text is accepted, with this interface: it describes a service of its own, or it is of one of these
abbrev pub IsAnyInterface : List Facts → List ℕ → Declared → Type 0
IsAnyInterface services text i =
    ((tree : Tree) × IsOwnText text tree × IsOwnAccepted tree i)
    ⊎ (IsOfServices text × IsInterface services text i)

-- this is wrong with a text, by its name, at a place
abbrev pub IsAnyFlaw : List Facts → List ℕ → List ℕ → ℕ → Type 0
IsAnyFlaw services text name at =
    ((tree : Tree) × (kind : OwnKind) × IsOwnText text tree × IsOwnFault tree kind at × (name ≡ own_name kind))
    ⊎ (IsOfServices text × (judged_by services).flaw text name at)

-- a text that describes a service of its own is judged by itself, any other against these services
abbrev pub any_judging : List Facts → Judging
any_judging services = record { services = services; accepts = IsAnyInterface services; flaw = IsAnyFlaw services }

-- ---- the service of an interface

-- a text is accepted with this interface: it is of one of these services, or its service is this one, which it describes
abbrev pub IsAcceptedAs : List Facts → List ℕ → Declared → Option Description → Type 0
IsAcceptedAs services text i None = IsOfServices text × IsInterface services text i
IsAcceptedAs services text i (Some d) = (tree : Tree) × IsOwnText text tree × IsOwnAccepted tree i × (described_of d ≡ described_of_text tree)

-- of what is ready the interface alone
abbrev pub interfaces_in : {A : Type 0} → Read (AnyInterface × A) → Read (Declared × A)
interfaces_in (Ready (any, read)) = Ready (any.accepted, read)
interfaces_in (Refused line) = Refused line

-- ---- scripts

-- an input is ready with this interface and script, and the interface is accepted so
pub record IsReadyAs (services : List Facts) (input : List ℕ) (any : AnyInterface) (script : Script) : Type 0 where
  pub ready : IsReady (any_judging services) input any.accepted script
  pub served : IsAcceptedAs services ready.interface any.accepted any.own

-- an input is ready so, or it is refused with this line
abbrev pub IsAnyInputOf : List Facts → List ℕ → Read (AnyInterface × Script) → Type 0
IsAnyInputOf services input (Ready (any, script)) = IsReadyAs services input any script
IsAnyInputOf services input (Refused line) = IsInputOf (any_judging services) input (Refused line)

-- ---- printed runs

-- an input is ready with this interface and history, and the interface is accepted so
pub record IsRunReadyAs (services : List Facts) (input : List ℕ) (any : AnyInterface) (history : List Entry) : Type 0 where
  pub ready : IsRunReady (any_judging services) input any.accepted history
  pub served : IsAcceptedAs services ready.interface any.accepted any.own

-- an input is ready so, or it is refused with this line
abbrev pub IsAnyRunInputOf : List Facts → List ℕ → Read (AnyInterface × Roomy Entry) → Type 0
IsAnyRunInputOf services input (Ready (any, history)) = IsRunReadyAs services input any history.items
IsAnyRunInputOf services input (Refused line) = IsRunInputOf (any_judging services) input (Refused line)

-- ---- several services

-- the interfaces of members
abbrev pub interfaces_of : List AnyInterface → List Declared
interfaces_of members = map (λ m. m.accepted) members

-- of what is ready the interfaces alone
abbrev pub members_in : {A : Type 0} → Read (List AnyInterface × A) → Read (List Declared × A)
members_in (Ready (members, read)) = Ready (interfaces_of members, read)
members_in (Refused line) = Refused line

-- an input is ready with these members and this script, and the interface of each is accepted so
pub record IsMultiReadyAs (services : List Facts) (input : List ℕ) (members : List AnyInterface) (script : MultiScript) : Type 0 where
  pub ready : IsMultiReady (any_judging services) input (interfaces_of members) script
  pub served : AllZip (λ text m. IsAcceptedAs services text m.accepted m.own) ready.texts members

-- an input is ready so, or it is refused with this line
abbrev pub IsAnyMultiInputOf : List Facts → List ℕ → Read (List AnyInterface × MultiScript) → Type 0
IsAnyMultiInputOf services input (Ready (members, script)) = IsMultiReadyAs services input members script
IsAnyMultiInputOf services input (Refused line) = IsMultiInputOf (any_judging services) input (Refused line)
