-- An input for several services is one thing: it is divided in one way, and each of its texts has one reading.
use Rattle.std.proofs.Common.{◌≡◌, ◌≢◌, inl, inr, ℕ, false, List, [], ◌∷◌, ◌++◌, refl, sym, ◌∙◌, ap, subst}
use Rattle.std.specs.Prelude.{Ok, Err}
use Rattle.std.specs.declared.result.Result.{Result}
use Rattle.std.specs.List.{AllZip}
use Rattle.sg_facts.specs.Interface.{Declared}
use Rattle.sg_script.specs.declared.fault.ScriptError.{ScriptError}
use Rattle.sg_script.specs.declared.fault.ScriptError.TheVariants.{NoMemory as no_room, Fault}
use Rattle.sg_script.specs.declared.fault.ScriptFault.{ScriptFault}
use Rattle.sg_script.specs.declared.multi.MultiScript.{MultiScript}
use Rattle.sg_script.proofs.Unique.{one_multi_reading}
use Rattle.sg_input.specs.declared.read.Read.{Read}
use Rattle.sg_input.specs.declared.read.Read.TheVariants.{Ready, Refused}
use Rattle.sg_input.specs.Inputs.{Judging}
use Rattle.sg_input.specs.MultiInputs.{AreMembers, AreMultiTexts, AreParts, IsMultiInputOf, IsMultiReady, IsMultiRefused, IsMultiScriptOf, IsNoMember, are_short}
use Rattle.sg_input.specs.Inside.Parted.{HasNoDivider}
use Rattle.sg_input.specs.Inside.Said.{script_line}
use Rattle.sg_input.proofs.Gathering.{not_gathered, one_gathered, one_members}
use Rattle.sg_input.proofs.OneCut.{one_cut}
use Rattle.sg_input.proofs.OneInput.{IsOneJudging}

-- ---- the texts

-- the same texts and the same script
record SameTexts (texts texts' : List (List ℕ)) (script script' : List ℕ) : Type 0 where
  texts_are : texts ≡ texts'
  script_is : script ≡ script'

one_parts : (input : List ℕ) (texts texts' : List (List ℕ)) (script script' : List ℕ) → AreParts input texts script → AreParts input texts' script' → SameTexts texts texts' script script'
one_parts input [] [] script script' a b = record { texts_are = refl; script_is = a.1 ∙ sym b.1 }
one_parts input [] (t ∷ ts) script script' a b = absurd (a.0 t b.0 b.1.divides)
one_parts input (t ∷ ts) [] script script' a b = absurd (b.0 t a.0 a.1.divides)
one_parts input (t ∷ ts) (t' ∷ ts') script script' a b =
    let both = one_cut input t a.0 t' b.0 a.1 b.1 in
    let rest = one_parts a.0 ts ts' script script' a.2 (subst (λ r. AreParts r ts' script') (sym both.1) b.2) in
    record { texts_are = ap (λ x. x ∷ ts) both.0 ∙ ap (λ l. t' ∷ l) rest.texts_are; script_is = rest.script_is }

-- what is divided has a divider
divided : (input : List ℕ) (texts : List (List ℕ)) (script : List ℕ) → HasNoDivider input → AreParts input texts script → texts ≢ [] → ⊥
divided input [] script none parts some = some refl
divided input (t ∷ ts) script none parts some = none t parts.0 parts.1.divides

-- ---- scripts

abbrev Answer : Type 0
Answer = Result MultiScript ScriptError

read_well : (script : MultiScript) → ◌≡◌ {A = Answer} (Ok script) (Err no_room) → ⊥
read_well script e = absurd cc

read_ill : (fault : ScriptFault) → ◌≡◌ {A = Answer} (Err (Fault fault)) (Err no_room) → ⊥
read_ill fault e = absurd cc

-- a text is one script, or has one fault first
one_script : (members : List Declared) (text : List ℕ) (one other : Read MultiScript) → IsMultiScriptOf members text one → IsMultiScriptOf members text other → one ≡ other
one_script members text (Ready one) (Ready other) r s =
    let same : ◌≡◌ {A = Answer} (Ok one) (Ok other) = one_multi_reading members text (Ok one) (Ok other) r s (read_well one) (read_well other) in
    let scripts : one ≡ other = cc same in
    ap Ready scripts
one_script members text (Ready script) (Refused line) r (fault, s, is) =
    let same : ◌≡◌ {A = Answer} (Ok script) (Err (Fault fault)) = one_multi_reading members text (Ok script) (Err (Fault fault)) r s (read_well script) (read_ill fault) in absurd cc
one_script members text (Refused line) (Ready script) (fault, s, is) r =
    let same : ◌≡◌ {A = Answer} (Ok script) (Err (Fault fault)) = one_multi_reading members text (Ok script) (Err (Fault fault)) r s (read_well script) (read_ill fault) in absurd cc
one_script members text (Refused line) (Refused line') (one, r, is) (other, s, is') =
    let same : ◌≡◌ {A = Answer} (Err (Fault one)) (Err (Fault other)) = one_multi_reading members text (Err (Fault one)) (Err (Fault other)) r s (read_ill one) (read_ill other) in
    let faults : one ≡ other = cc same in
    ap Refused (is ∙ ap (script_line text) faults ∙ sym is')

-- ---- an input

module _ (judging : Judging) (alone : IsOneJudging judging) (input : List ℕ) where
  same_texts : (texts texts' : List (List ℕ)) (script script' : List ℕ) → AreMultiTexts input texts script → AreMultiTexts input texts' script' → SameTexts texts texts' script script'
  same_texts texts texts' script script' a b = one_parts input texts texts' script script' a.parts b.parts

  not_long : (texts texts' : List (List ℕ)) (script script' : List ℕ) → AreParts input texts script → are_short texts script ≡ false → AreMultiTexts input texts' script' → ⊥
  not_long texts texts' script script' parts long short =
      let same = one_parts input texts texts' script script' parts short.parts in
      cc (sym long ∙ ap (λ l. are_short l script) same.texts_are ∙ ap (are_short texts') same.script_is ∙ short.short)

  -- all its texts are accepted, and one of them is refused
  not_bad : (texts front behind : List (List ℕ)) (text script script' line : List ℕ) (all members : List Declared) → AreMultiTexts input texts script → AreMembers judging texts all
      → AreMultiTexts input (front ++ text ∷ behind) script' → AreMembers judging front members → IsNoMember judging members text line → ⊥
  not_bad texts front behind text script script' line all members are accepted are' some bad =
      not_gathered judging alone front behind text line members all
      (subst (λ l. AreMembers judging l all) (same_texts texts (front ++ text ∷ behind) script script' are are').texts_are accepted) some bad

  same_members : (texts texts' : List (List ℕ)) (script script' : List ℕ) (one other : List Declared) → AreMultiTexts input texts script → AreMultiTexts input texts' script'
      → AreMembers judging texts one → AreMembers judging texts' other → one ≡ other
  same_members texts texts' script script' one other are are' a b =
      one_members judging alone texts one other a.accepted
      (subst (λ l. AllZip judging.accepts l other) (sym (same_texts texts texts' script script' are are').texts_are) b.accepted)

  -- its script is one thing
  same_script : (texts texts' : List (List ℕ)) (script script' : List ℕ) (one other : List Declared) (read read' : Read MultiScript)
      → AreMultiTexts input texts script → AreMultiTexts input texts' script' → AreMembers judging texts one → AreMembers judging texts' other
      → IsMultiScriptOf one script read → IsMultiScriptOf other script' read' → read ≡ read'
  same_script texts texts' script script' one other read read' are are' a b is is' =
      one_script one script read read' is
      (subst (λ t. IsMultiScriptOf one t read') (sym (same_texts texts texts' script script' are are').script_is)
      (subst (λ l. IsMultiScriptOf l script' read') (sym (same_members texts texts' script script' one other are are' a b)) is'))

  -- it isn't refused and ready
  never_ready : (line : List ℕ) (members : List Declared) (script : MultiScript) → IsMultiRefused judging input line → IsMultiReady judging input members script → ⊥
  never_ready line members script (inl (inl (none, said))) ready = divided input ready.texts ready.last none ready.are.parts ready.are.divided
  never_ready line members script (inl (inr (inl (texts, last, parts, some, long, said)))) ready = not_long texts ready.texts last ready.last parts long ready.are
  never_ready line members script (inl (inr (inr (front, behind, text, last, are, some, accepted, bad)))) ready =
      not_bad ready.texts front behind text ready.last last line members some ready.are ready.accepted are accepted bad
  never_ready line members script (inr (texts, last, are, some, accepted, reads)) ready =
      let same : ◌≡◌ {A = Read MultiScript} (Refused line) (Ready script) =
      same_script texts ready.texts last ready.last some members (Refused line) (Ready script) are ready.are accepted ready.accepted reads ready.reads in absurd cc

  -- it is refused with one line
  one_line : (line line' : List ℕ) → IsMultiRefused judging input line → IsMultiRefused judging input line' → line ≡ line'
  one_line line line' (inl (inl (none, said))) (inl (inl (none', said'))) = said ∙ sym said'
  one_line line line' (inl (inl (none, said))) (inl (inr (inl (texts, last, parts, some, long, said')))) = absurd (divided input texts last none parts some)
  one_line line line' (inl (inl (none, said))) (inl (inr (inr (front, behind, text, last, are, some, accepted, bad)))) =
      absurd (divided input (front ++ text ∷ behind) last none are.parts are.divided)
  one_line line line' (inl (inl (none, said))) (inr (texts, last, are, some, accepted, reads)) = absurd (divided input texts last none are.parts are.divided)
  one_line line line' (inl (inr (inl (texts, last, parts, some, long, said)))) (inl (inl (none, said'))) = absurd (divided input texts last none parts some)
  one_line line line' (inl (inr (inl (texts, last, parts, some, long, said)))) (inl (inr (inl (texts', last', parts', some', long', said')))) = said ∙ sym said'
  one_line line line' (inl (inr (inl (texts, last, parts, some, long, said)))) (inl (inr (inr (front, behind, text, last', are, members, accepted, bad)))) =
      absurd (not_long texts (front ++ text ∷ behind) last last' parts long are)
  one_line line line' (inl (inr (inl (texts, last, parts, some, long, said)))) (inr (texts', last', are, members, accepted, reads)) =
      absurd (not_long texts texts' last last' parts long are)
  one_line line line' (inl (inr (inr (front, behind, text, last, are, some, accepted, bad)))) (inl (inl (none, said'))) =
      absurd (divided input (front ++ text ∷ behind) last none are.parts are.divided)
  one_line line line' (inl (inr (inr (front, behind, text, last', are, members, accepted, bad)))) (inl (inr (inl (texts, last, parts, some, long, said)))) =
      absurd (not_long texts (front ++ text ∷ behind) last last' parts long are)
  one_line line line' (inl (inr (inr (front, behind, text, last, are, members, accepted, bad)))) (inl (inr (inr (front', behind', text', last', are', members', accepted', bad')))) =
      one_gathered judging alone front behind front' behind' text text' line line' members members'
      (same_texts (front ++ text ∷ behind) (front' ++ text' ∷ behind') last last' are are').texts_are accepted accepted' bad bad'
  one_line line line' (inl (inr (inr (front, behind, text, last, are, members, accepted, bad)))) (inr (texts', last', are', all, accepted', reads)) =
      absurd (not_bad texts' front behind text last' last line all members are' accepted' are accepted bad)
  one_line line line' (inr (texts, last, are, some, accepted, reads)) (inl (inl (none, said'))) = absurd (divided input texts last none are.parts are.divided)
  one_line line line' (inr (texts', last', are, members, accepted, reads)) (inl (inr (inl (texts, last, parts, some, long, said)))) =
      absurd (not_long texts texts' last last' parts long are)
  one_line line line' (inr (texts', last', are', all, accepted', reads)) (inl (inr (inr (front, behind, text, last, are, members, accepted, bad)))) =
      absurd (not_bad texts' front behind text last' last line' all members are' accepted' are accepted bad)
  one_line line line' (inr (texts, last, are, members, accepted, reads)) (inr (texts', last', are', members', accepted', reads')) =
      let same : ◌≡◌ {A = Read MultiScript} (Refused line) (Refused line') =
      same_script texts texts' last last' members members' (Refused line) (Refused line') are are' accepted accepted' reads reads' in cc same

  -- it is ready with one list of members and one script
  one_ready : (members members' : List Declared) (script script' : MultiScript) → IsMultiReady judging input members script → IsMultiReady judging input members' script'
      → ◌≡◌ {A = Read (List Declared × MultiScript)} (Ready (members, script)) (Ready (members', script'))
  one_ready members members' script script' a b =
      let own : members ≡ members' = same_members a.texts b.texts a.last b.last members members' a.are b.are a.accepted b.accepted in
      let same : ◌≡◌ {A = Read MultiScript} (Ready script) (Ready script') =
      same_script a.texts b.texts a.last b.last members members' (Ready script) (Ready script') a.are b.are a.accepted b.accepted a.reads b.reads in
      ap (λ l. Ready (l, script)) own ∙ ap (λ s. Ready (members', s)) (cc same)

  pub one_multi_input : (one other : Read (List Declared × MultiScript)) → IsMultiInputOf judging input one → IsMultiInputOf judging input other → one ≡ other
  one_multi_input (Refused line) (Refused line') a b = ap Refused (one_line line line' a b)
  one_multi_input (Refused line) (Ready (members, script)) a b = absurd (never_ready line members script a b)
  one_multi_input (Ready (members, script)) (Refused line) a b = absurd (never_ready line members script b a)
  one_multi_input (Ready (members, script)) (Ready (members', script')) a b = one_ready members members' script script' a b
