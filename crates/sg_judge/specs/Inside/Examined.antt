-- What comes of a text, before anything is said of it, and of an input up to its last text.
use Rattle.std.specs.Prelude.{ℕ, ◌≡◌, List, ◌∷◌, ◌++◌, None, Ok}
use Rattle.std.specs.List.{AllZip}
use Rattle.sg_explain.specs.sg_facts.Facts.{Facts}
use Rattle.sg_explain.specs.sg_input.Inputs.{AreTexts, IsRefusedText}
use Rattle.sg_explain.specs.sg_input.Inside.Parted.{IsRefusedFront}
use Rattle.sg_explain.specs.sg_input.MultiInputs.{AreMembers, IsNoMember, member_flaw}
use Rattle.sg_explain.specs.sg_input.sg_print.sg_parse.Grammar.Parses.{Parses}
use Rattle.sg_explain.specs.sg_input.sg_print.sg_parse.declared.tree.Tree.{Tree}
use Rattle.sg_explain.specs.sg_input.declared.read.Read.{Read}
use Rattle.sg_explain.specs.sg_input.declared.read.Read.TheVariants.{Ready, Refused}
use Rattle.sg_own.specs.OwnInterfaces.{IsOwnInterface}
use Rattle.sg_own.specs.declared.checking.OwnInterface.{OwnInterface}
use Rattle.sg_judge.specs.AnyInputs.{IsAcceptedAs, IsAnyFlaw, any_judging, interfaces_of}
use Rattle.sg_judge.specs.Said.{IsOwnRefusal}
use Rattle.sg_judge.specs.declared.examining.Examined.{Examined}
use Rattle.sg_judge.specs.declared.examining.Examined.TheVariants.{Accepted, Flawed}
use Rattle.sg_judge.specs.declared.interface.AnyInterface.{AnyInterface}
use Rattle.sg_judge.specs.declared.inputs.AnyParts.{AnyParts}

-- a text that describes a service of its own is accepted with this interface, or refused with this line
abbrev pub IsOwnExamined : List ℕ → Tree → Read OwnInterface → Type 0
IsOwnExamined text tree (Ready own) = IsOwnInterface tree own
IsOwnExamined text tree (Refused line) = IsOwnRefusal text tree line

-- the name of a text's service stands at this place
abbrev pub IsServicePlace : List ℕ → ℕ → Type 0
IsServicePlace text at = (tree : Tree) × Parses text (Ok tree) × (at ≡ tree.facts.service.at)

-- a text is accepted with this interface, and the name of its service stands there; or this is wrong with it
abbrev pub IsExaminedAs : List Facts → List ℕ → Examined → Type 0
IsExaminedAs services text (Accepted any at) = IsAcceptedAs services text any.accepted any.own × IsServicePlace text at
IsExaminedAs services text (Flawed name at) = IsAnyFlaw services text name.now at

-- ---- one service

-- a text is accepted with this interface, or refused with this line
abbrev pub IsAnyRead : List Facts → List ℕ → Read AnyInterface → Type 0
IsAnyRead services text (Ready any) = IsAcceptedAs services text any.accepted any.own
IsAnyRead services text (Refused line) = IsRefusedText (any_judging services) text line

-- a line refuses an input whatever its second text is; or its interface is accepted, and this is its second text
abbrev pub AreAnyParts : ℕ → List Facts → List ℕ → Read AnyParts → Type 0
AreAnyParts most services input (Refused line) = IsRefusedFront most (any_judging services) input line
AreAnyParts most services input (Ready parts) =
    (interface : List ℕ) × AreTexts most input interface parts.second.now × IsAcceptedAs services interface parts.any.accepted parts.any.own

-- ---- several

-- what comes of a text after these members: it is one more of them, or this line refuses it
abbrev pub IsMemberOf : List Facts → List AnyInterface → List ℕ → Read AnyInterface → Type 0
IsMemberOf services members text (Ready any) = IsAcceptedAs services text any.accepted any.own × (member_flaw (interfaces_of members) any.accepted ≡ None)
IsMemberOf services members text (Refused line) = IsNoMember (any_judging services) (interfaces_of members) text line

-- texts are accepted as these members
pub record AreAnyMembers (services : List Facts) (texts : List (List ℕ)) (members : List AnyInterface) : Type 0 where
  pub are : AreMembers (any_judging services) texts (interfaces_of members)
  pub served : AllZip (λ text m. IsAcceptedAs services text m.accepted m.own) texts members

-- what comes of texts: they are, or this line refuses one of them after those before it
abbrev pub IsGathered : List Facts → List (List ℕ) → Read (List AnyInterface) → Type 0
IsGathered services texts (Ready members) = AreAnyMembers services texts members
IsGathered services texts (Refused line) =
    (front behind : List (List ℕ)) × (text : List ℕ) × (texts ≡ front ++ text ∷ behind)
    × (members : List AnyInterface) × AreMembers (any_judging services) front (interfaces_of members) × IsNoMember (any_judging services) (interfaces_of members) text line
