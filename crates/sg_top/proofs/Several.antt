-- An input for several services is of services that are played, its script may be played over them, and what the play promises is what the
-- headline says of it.
use Rattle.std.proofs.Common.{◌≡◌, ℕ, zero, suc, ◌+◌, ◌<◌, ◌≤◌, Bool, List, [], ◌∷◌, ◌++◌, length, map, take, slice_index_or, arith, refl, sym, ◌∙◌, ap, subst}
use Rattle.std.proofs.lemmas.List.{take_all, take_more}
use Rattle.std.specs.List.{AllZip}
use Rattle.sg_multi.specs.sg_facts.Facts.{Facts}
use Rattle.sg_multi.specs.sg_facts.Interface.{Declared}
use Rattle.sg_multi.specs.sg_facts.Tables.{Compiled}
use Rattle.sg_multi.specs.sg_facts.sg_base.Lists.{Each}
use Rattle.sg_judge.specs.AnyInputs.{IsAcceptedAs, IsAnyMultiInputOf, IsMultiReadyAs, any_judging, interfaces_of}
use Rattle.sg_judge.specs.declared.interface.AnyInterface.{AnyInterface}
use Rattle.sg_judge.specs.sg_input.MultiInputs.{IsMultiInputOf, IsMultiReady}
use Rattle.sg_judge.specs.sg_input.declared.read.Read.{Read}
use Rattle.sg_judge.specs.sg_input.declared.read.Read.TheVariants.{Ready, Refused}
use Rattle.sg_judge.specs.sg_input.sg_script.declared.multi.MultiScript.{MultiScript}
use Rattle.sg_load.specs.Services.{played_services}
use Rattle.sg_multi.specs.Members.{setting_by}
use Rattle.sg_multi.specs.Playable.{IsMultiPlayable}
use Rattle.sg_multi.specs.Played.{IsMultiPlayed, MultiCame, stubs_by}
use Rattle.sg_multi.specs.Report.{multi_text_of}
use Rattle.sg_multi.specs.Serving.{IsOfServed, answering_at, most_places, serving}
use Rattle.sg_multi.specs.declared.play.MemberTables.{MemberTables}
use Rattle.sg_multi.specs.declared.served.Served.{Served}
use Rattle.sg_multi.specs.sg_sim.sg_world_laws.Setting.{stubs_of}
use Rattle.sg_multi.proofs.Flawless.{multi_playable}
use Rattle.sg_top.specs.Answer.{IsMultiOutput, judging, multi_status, services}
use Rattle.sg_top.specs.Headline.{AreMembersBy, IsMember}
use Rattle.sg_top.specs.Inside.Ready.{IsAccepted}
use Rattle.sg_top.specs.Inside.Several.{AreMembersOf, IsMemberOf}
use Rattle.sg_top.specs.declared.output.Ran.{Ran}
use Rattle.sg_top.specs.declared.output.Ran.TheVariants.{Several}
use Rattle.sg_top.specs.declared.status.Status.{Status}

-- ---- inputs

-- an input that is ready, whose facts are shown under another name
pub several_for : (bytes : List ℕ) (facts : List Facts) (made : Read (List AnyInterface × MultiScript)) (interfaces : List AnyInterface) (script : MultiScript) → facts ≡ services
    → made ≡ Ready (interfaces, script) → IsAnyMultiInputOf facts bytes made → IsMultiReadyAs services bytes interfaces script
several_for bytes facts made interfaces script known is all =
    let ready : IsMultiReadyAs facts bytes interfaces script = subst (IsAnyMultiInputOf facts bytes) is all in
    subst (λ f. IsMultiReadyAs f bytes interfaces script) known ready

-- one that is refused, whose facts and line are shown under other names
pub not_several : (bytes : List ℕ) (facts : List Facts) (made : Read (List AnyInterface × MultiScript)) (line written : List ℕ) → facts ≡ services → made ≡ Refused line → written ≡ line
    → IsAnyMultiInputOf facts bytes made → IsMultiInputOf judging bytes (Refused written)
not_several bytes facts made line written known is same all =
    let bad : IsMultiInputOf (any_judging facts) bytes (Refused line) = subst (IsAnyMultiInputOf facts bytes) is all in
    subst (λ l. IsMultiInputOf judging bytes (Refused l)) (sym same) (subst (λ f. IsMultiInputOf (any_judging f) bytes (Refused line)) known bad)

-- ---- accepted texts

-- texts are accepted with these interfaces
abbrev AreAccepted : List (List ℕ) → List AnyInterface → Type 0
AreAccepted texts interfaces = AllZip (λ text (m : AnyInterface). IsAcceptedAs services text m.accepted m.own) texts interfaces

each_accepted : (texts : List (List ℕ)) (interfaces : List AnyInterface) → AreAccepted texts interfaces → Each IsAccepted interfaces
each_accepted [] [] are = tt
each_accepted [] (i ∷ interfaces) are = absurd are
each_accepted (t ∷ texts) [] are = tt
each_accepted (t ∷ texts) (i ∷ interfaces) (is, are) = ((t, is), each_accepted texts interfaces are)

-- so are those of an input that is ready
pub members_accepted : (bytes : List ℕ) (interfaces : List AnyInterface) (script : MultiScript) → IsMultiReadyAs services bytes interfaces script → Each IsAccepted interfaces
members_accepted bytes interfaces script ready = each_accepted ready.ready.texts interfaces ready.served

-- ---- members

-- the members of interfaces, where both lists are shown under other names
pub shown_members : (interfaces shown : List AnyInterface) (members lent : List MemberTables) → shown ≡ interfaces → lent ≡ members → AreMembersOf shown members → AreMembersOf interfaces lent
shown_members interfaces shown members lent same is are = subst (λ l. AreMembersOf l lent) same (subst (AreMembersOf shown) (sym is) are)

served_so : (text : List ℕ) (i : AnyInterface) (t : MemberTables) → IsAcceptedAs services text i.accepted i.own → IsMemberOf i t → IsOfServed t.tables.iface t.service
served_so text i t accepted is = subst (λ (j : Declared). IsOfServed j t.service) (sym is.iface) (is.served text accepted).of

each_served : (texts : List (List ℕ)) (interfaces : List AnyInterface) (members : List MemberTables) → AreAccepted texts interfaces → AreMembersOf interfaces members
    → Each (λ (t : MemberTables). IsOfServed t.tables.iface t.service) members
each_served texts [] [] accepted are = tt
each_served texts [] (t ∷ members) accepted are = absurd are
each_served texts (i ∷ interfaces) [] accepted are = tt
each_served [] (i ∷ interfaces) (t ∷ members) accepted are = absurd accepted
each_served (text ∷ texts) (i ∷ interfaces) (t ∷ members) (one, accepted) (is, are) = (served_so text i t one is, each_served texts interfaces members accepted are)

-- the tables of the members are those of their services, which can be recovered
pub members_served : (bytes : List ℕ) (interfaces : List AnyInterface) (script : MultiScript) (members : List MemberTables) → IsMultiReadyAs services bytes interfaces script
    → AreMembersOf interfaces members → Each (λ (t : MemberTables). IsOfServed t.tables.iface t.service) members
members_served bytes interfaces script members ready are = each_served ready.ready.texts interfaces members ready.served are

member_interfaces : (interfaces : List AnyInterface) (members : List MemberTables) → AreMembersOf interfaces members
    → map (λ (t : MemberTables). t.tables.iface) members ≡ interfaces_of interfaces
member_interfaces [] [] are = refl
member_interfaces [] (t ∷ members) are = absurd are
member_interfaces (i ∷ interfaces) [] are = absurd are
member_interfaces (i ∷ interfaces) (t ∷ members) (is, are) = cc (is.iface, member_interfaces interfaces members are)

-- the script may be played over them
pub members_playable : (bytes : List ℕ) (interfaces : List AnyInterface) (script : MultiScript) (members : List MemberTables) → IsMultiReadyAs services bytes interfaces script
    → AreMembersOf interfaces members → IsMultiPlayable (map (λ (t : MemberTables). t.tables.iface) members) script
members_playable bytes interfaces script members ready are =
    let few : length (interfaces_of interfaces) ≤ 6 = ready.ready.accepted.few in
    subst (λ l. IsMultiPlayable l script) (sym (member_interfaces interfaces members are))
    (multi_playable (interfaces_of interfaces) ready.ready.last script (omega (arith, few)) ready.ready.reads)

as_many : (interfaces : List AnyInterface) (members : List MemberTables) → AreMembersOf interfaces members → length members ≡ length (interfaces_of interfaces)
as_many [] [] are = refl
as_many [] (t ∷ members) are = absurd are
as_many (i ∷ interfaces) [] are = absurd are
as_many (i ∷ interfaces) (t ∷ members) (is, are) = ap suc (as_many interfaces members are)

-- there are no more than places
pub members_few : (bytes : List ℕ) (interfaces : List AnyInterface) (script : MultiScript) (members : List MemberTables) → IsMultiReadyAs services bytes interfaces script
    → AreMembersOf interfaces members → length members ≤ most_places
members_few bytes interfaces script members ready are =
    let few : length (interfaces_of interfaces) ≤ 6 = ready.ready.accepted.few in
    let same = as_many interfaces members are in
    omega (arith, few, same)

member_added : (interfaces : List AnyInterface) (members : List MemberTables) (i : AnyInterface) (t : MemberTables) → AreMembersOf interfaces members → IsMemberOf i t
    → AreMembersOf (interfaces ++ i ∷ []) (members ++ t ∷ [])
member_added [] [] i t are is = (is, tt)
member_added [] (m ∷ members) i t are is = absurd are
member_added (j ∷ interfaces) [] i t are is = absurd are
member_added (j ∷ interfaces) (m ∷ members) i t (one, are) is = (one, member_added interfaces members i t are is)

-- the members of the first interfaces, and one more
pub members_more : (interfaces : List AnyInterface) (k : ℕ) (members new : List MemberTables) (i : AnyInterface) (t : MemberTables) → k < length interfaces
    → AreMembersOf (take k interfaces) members → i ≡ slice_index_or interfaces k i → IsMemberOf i t → new ≡ members ++ t ∷ []
    → AreMembersOf (take (k + 1) interfaces) new
members_more interfaces k members new i t within are there is pushed =
    subst (λ l. AreMembersOf l new) (sym (take_more interfaces k i within))
    (subst (AreMembersOf (take k interfaces ++ slice_index_or interfaces k i ∷ [])) (sym pushed)
    (member_added (take k interfaces) members (slice_index_or interfaces k i) t are (subst (λ j. IsMemberOf j t) there is)))

-- those of all
pub members_all : (interfaces : List AnyInterface) (k : ℕ) (members : List MemberTables) → length interfaces ≤ k → AreMembersOf (take k interfaces) members
    → AreMembersOf interfaces members
members_all interfaces k members long are = subst (λ l. AreMembersOf l members) (take_all k interfaces long) are

-- what an interface of the list has
pub each_at : (P : AnyInterface → Type 0) (interfaces : List AnyInterface) (k : ℕ) (d : AnyInterface) → Each P interfaces → k < length interfaces → P (slice_index_or interfaces k d)
each_at P [] k d all within = absurd (omega (arith, within))
each_at P (i ∷ interfaces) zero d (one, all) within = one
each_at P (i ∷ interfaces) (suc k) d (one, all) within = each_at P interfaces k d all (omega (arith, within))

-- ---- by what the runs of members are judged

stubs_so : (served : Served) (tables : Compiled)
    → stubs_of (setting_by (serving served) tables) ≡ record { interface = tables.iface; ask = (answering_at served).ask; parts = (answering_at served).parts; walks = tables.walks }
stubs_so served tables = refl

is_member : (text : List ℕ) (i : AnyInterface) (t : MemberTables) → IsAcceptedAs services text i.accepted i.own → IsMemberOf i t → IsMember played_services text i.accepted (stubs_by t)
is_member text i t accepted is =
    let served = is.served text accepted in
    record {
      service = answering_at t.service;
      is_served = served.answers;
      its = sym served.of.its;
      walks = t.tables.walks;
      tables = is.walks;
      is = stubs_so t.service t.tables
          ∙ ap (λ (j : Declared). record { interface = j; ask = (answering_at t.service).ask; parts = (answering_at t.service).parts; walks = t.tables.walks }) is.iface;
    }

are_members : (texts : List (List ℕ)) (interfaces : List AnyInterface) (members : List MemberTables) → AreAccepted texts interfaces → AreMembersOf interfaces members
    → AreMembersBy played_services texts (interfaces_of interfaces) (map stubs_by members)
are_members [] [] [] accepted are = tt
are_members (text ∷ texts) [] members accepted are = absurd accepted
are_members [] (i ∷ interfaces) members accepted are = absurd accepted
are_members texts [] (t ∷ members) accepted are = absurd are
are_members texts (i ∷ interfaces) [] accepted are = absurd are
are_members (text ∷ texts) (i ∷ interfaces) (t ∷ members) (one, accepted) (is, are) = (is_member text i t one is, are_members texts interfaces members accepted are)

-- ---- what is made of an input that is ready and was played

-- the facts that its text is printed by are those of the interfaces
facts_are : (interfaces : List AnyInterface) (members : List MemberTables) → AreMembersOf interfaces members
    → map (λ (t : MemberTables). t.tables.iface.facts) members ≡ map (λ (i : Declared). i.facts) (interfaces_of interfaces)
facts_are [] [] are = refl
facts_are [] (t ∷ members) are = absurd are
facts_are (i ∷ interfaces) [] are = absurd are
facts_are (i ∷ interfaces) (t ∷ members) (is, are) = cc (ap (λ (j : Declared). j.facts) is.iface, facts_are interfaces members are)

pub several_output : (bytes : List ℕ) (interfaces : List AnyInterface) (script : MultiScript) (members : List MemberTables) (with_trace : Bool) (came : MultiCame) (ran : Ran) (status : Status)
    (written : List ℕ) → IsMultiReadyAs services bytes interfaces script → AreMembersOf interfaces members → (play : IsMultiPlayed (map stubs_by members) script came)
    → ran ≡ Several came → status ≡ multi_status came.ends → written ≡ multi_text_of (map (λ (t : MemberTables). t.tables.iface.facts) members) play.merged came with_trace
    → IsMultiOutput bytes with_trace ran status written
several_output bytes interfaces script members with_trace came ran status written ready are play is its_status text =
    subst (λ r. IsMultiOutput bytes with_trace r status written) (sym is) (
      its_status,
      record {
        interfaces = interfaces_of interfaces;
        script = script;
        ready = ready.ready;
        members = map stubs_by members;
        are = are_members ready.ready.texts interfaces members ready.served are;
        play = play;
        output = text ∙ ap (λ facts. multi_text_of facts play.merged came with_trace) (facts_are interfaces members are);
      },
    )
