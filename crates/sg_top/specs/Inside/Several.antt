-- The members of a play over several services, and who waits at its end.
use Rattle.std.specs.Prelude.{ℕ, ◌≡◌, Bool, true, false, List}
use Rattle.std.specs.List.{AllZip, list_any}
use Rattle.sg_multi.specs.sg_facts.Tables.{AreTables}
use Rattle.sg_judge.specs.AnyInputs.{IsAcceptedAs}
use Rattle.sg_judge.specs.declared.interface.AnyInterface.{AnyInterface}
use Rattle.sg_multi.specs.declared.ended.MultiEnd.{MultiEnd}
use Rattle.sg_multi.specs.declared.ended.MultiEnd.TheVariants.{Done, Blocked}
use Rattle.sg_multi.specs.declared.play.MemberTables.{MemberTables}
use Rattle.sg_top.specs.Answer.{services}
use Rattle.sg_top.specs.Inside.Plays.{IsServedAs}

-- a member is of an interface: of the service of its text, with its tables
pub record IsMemberOf (any : AnyInterface) (member : MemberTables) : Type 0 where
  pub iface : member.tables.iface ≡ any.accepted
  pub served : (text : List ℕ) → IsAcceptedAs services text any.accepted any.own → IsServedAs text any.accepted member.service
  pub walks : AreTables any.accepted member.tables.walks

-- there is one for each interface
abbrev pub AreMembersOf : List AnyInterface → List MemberTables → Type 0
AreMembersOf interfaces members = AllZip IsMemberOf interfaces members

-- whether a client waits at its end
abbrev pub is_waiting : MultiEnd → Bool
is_waiting end = elim end [ Done ↦ false | Blocked member call ↦ true ]

-- whether some client does
abbrev pub some_waits : List (ℕ × MultiEnd) → Bool
some_waits ends = list_any (λ e. is_waiting e.1) ends
