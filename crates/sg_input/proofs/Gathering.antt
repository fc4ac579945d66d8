-- The interfaces of an input for several services: one more of them, what comes of a text after them, and that they are one.
use Rattle.std.proofs.Common.{◌≡◌, inl, inr, ℕ, ◌+◌, ◌≤◌, Bool, true, false, List, [], ◌∷◌, ◌++◌, None, Some, length, refl, sym, ◌∙◌, ap, subst, arith, length-append}
use Rattle.std.specs.Prelude.{if◌then◌else◌, codes, nat_le}
use Rattle.std.specs.List.{AllPairs, AllZip}
use Rattle.std.specs.declared.option.Option.{Option}
use Rattle.sg_facts.specs.Interface.{Declared}
use Rattle.sg_input.specs.sg_parse.declared.tree.Tree.{Tree}
use Rattle.sg_input.specs.Inputs.{Judging}
use Rattle.sg_input.specs.MultiInputs.{AreMembers, IsNoMember, has_service, member_flaw, member_line, most_services}
use Rattle.sg_input.proofs.Apart.{Differ, apart_more, apart_there}
use Rattle.sg_input.proofs.OneInput.{IsOneJudging, one_tree}

-- ---- what keeps an interface from being a member

-- nothing does, where its service has no member and there are fewer than there may be
no_flaw : (members : List Declared) (i : Declared) → has_service members i ≡ false → length members + 1 ≤ most_services → member_flaw members i ≡ None
no_flaw members i none few = by (has_service members i) (nat_le most_services (length members)) none (grind (arith, few))
  where
    by : (has full : Bool) → has ≡ false → full ≡ false → ◌≡◌ {A = Option (List ℕ)} (if has then Some (codes "DuplicateService") else if full then Some (codes "Limit") else None) None
    by true full h f = absurd (cc h)
    by false true h f = absurd (cc f)
    by false false h f = refl

-- where nothing does, its service has no member
record MayJoin (members : List Declared) (i : Declared) : Type 0 where
  none : has_service members i ≡ false
  few : length members + 1 ≤ most_services

may_join : (members : List Declared) (i : Declared) → member_flaw members i ≡ None → MayJoin members i
may_join members i is = by (has_service members i) (nat_le most_services (length members)) refl refl is
  where
    by : (has full : Bool) → has_service members i ≡ has → nat_le most_services (length members) ≡ full
        → ◌≡◌ {A = Option (List ℕ)} (if has then Some (codes "DuplicateService") else if full then Some (codes "Limit") else None) None → MayJoin members i
    by true full h f same = absurd (cc same)
    by false true h f same = absurd (cc same)
    by false false h f same = record { none = h; few = grind (arith, f) }

-- ---- one more

-- one pair more
pub zip_more : {A B : Type 0} (R : A → B → Type 0) (xs : List A) (ys : List B) (x : A) (y : B) → AllZip R xs ys → R x y → AllZip R (xs ++ x ∷ []) (ys ++ y ∷ [])
zip_more R [] [] x y all one = (one, tt)
zip_more R [] (b ∷ ys) x y all one = absurd all
zip_more R (a ∷ xs) [] x y all one = absurd all
zip_more R (a ∷ xs) (b ∷ ys) x y all one = (all.0, zip_more R xs ys x y all.1 one)

module _ (judging : Judging) where
  pub one_more_member : (texts : List (List ℕ)) (members : List Declared) (text : List ℕ) (i : Declared) → AreMembers judging texts members → judging.accepts text i
      → member_flaw members i ≡ None → AreMembers judging (texts ++ text ∷ []) (members ++ i ∷ [])
  one_more_member texts members text i are one flawless =
      let may = may_join members i flawless in
      let more = length-append members (i ∷ []) in
      record {
        accepted = zip_more judging.accepts texts members text i are.accepted one;
        apart = apart_more members i are.apart may.none;
        few = omega (arith, may.few, more);
      }

-- ---- one thing comes of texts

-- those of the texts before one, and its own
record SplitAt (judging : Judging) (front : List (List ℕ)) (text : List ℕ) (members : List Declared) : Type 0 where
  first : List Declared
  own : Declared
  rest : List Declared
  are : members ≡ first ++ own ∷ rest
  accepted : AllZip judging.accepts front first
  is : judging.accepts text own

split_at : (judging : Judging) (front behind : List (List ℕ)) (text : List ℕ) (members : List Declared) → AllZip judging.accepts (front ++ text ∷ behind) members
    → SplitAt judging front text members
split_at judging [] behind text [] all = absurd all
split_at judging [] behind text (m ∷ members) all = record { first = []; own = m; rest = members; are = refl; accepted = tt; is = all.0 }
split_at judging (t ∷ front) behind text [] all = absurd all
split_at judging (t ∷ front) behind text (m ∷ members) all =
    let s = split_at judging front behind text members all.1 in
    record { first = m ∷ s.first; own = s.own; rest = s.rest; are = ap (λ l. m ∷ l) s.are; accepted = (all.0, s.accepted); is = s.is }

module _ (judging : Judging) (alone : IsOneJudging judging) where
  pub one_members : (texts : List (List ℕ)) (one other : List Declared) → AllZip judging.accepts texts one → AllZip judging.accepts texts other → one ≡ other
  one_members [] [] [] a b = refl
  one_members [] [] (j ∷ other) a b = absurd b
  one_members [] (i ∷ one) other a b = absurd a
  one_members (t ∷ texts) [] other a b = absurd a
  one_members (t ∷ texts) (i ∷ one) [] a b = absurd b
  one_members (t ∷ texts) (i ∷ one) (j ∷ other) a b = ap (λ x. x ∷ one) (alone.one t i j a.0 b.0) ∙ ap (λ l. j ∷ l) (one_members texts one other a.1 b.1)

  -- a text that is accepted, and that nothing keeps from being one more, isn't refused after these
  no_member : (members : List Declared) (text line : List ℕ) (i : Declared) → judging.accepts text i → member_flaw members i ≡ None → IsNoMember judging members text line → ⊥
  no_member members text line i is none (inl (name, at, bad, said)) = alone.apart text i name at is bad
  no_member members text line i is none (inr (tree, j, name, parses, accepted, flaw, said)) =
      let same : j ≡ i = alone.one text j i accepted is in
      let wrong : Some name ≡ None = sym flaw ∙ ap (member_flaw members) same ∙ none in cc wrong

  -- texts that are all accepted as members aren't refused at one of them
  pub not_gathered : (front behind : List (List ℕ)) (text line : List ℕ) (members all : List Declared) → AreMembers judging (front ++ text ∷ behind) all
      → AreMembers judging front members → IsNoMember judging members text line → ⊥
  not_gathered front behind text line members all are some bad =
      let s = split_at judging front behind text all are.accepted in
      let same : members ≡ s.first = one_members front members s.first some.accepted s.accepted in
      let long : length all ≡ length s.first + length (s.own ∷ s.rest) = ap (λ (l : List Declared). length l) s.are ∙ length-append s.first (s.own ∷ s.rest) in
      no_member s.first text line s.own s.is
      (no_flaw s.first s.own (apart_there s.first s.own s.rest (subst (AllPairs Differ) s.are are.apart)) (omega (arith, long, are.few)))
      (subst (λ l. IsNoMember judging l text line) same bad)

  -- a text is refused with one line
  one_no_member : (members : List Declared) (text one other : List ℕ) → IsNoMember judging members text one → IsNoMember judging members text other → one ≡ other
  one_no_member members text one other (inl (name, at, bad, said)) (inl (name', at', bad', said')) =
      let same = alone.flaw text name name' at at' bad bad' in
      said ∙ ap (member_line (length members + 1) text at) same.0 ∙ ap (λ n. member_line (length members + 1) text n name') same.1 ∙ sym said'
  one_no_member members text one other (inl (name, at, bad, said)) (inr (tree, j, flaw, parses, accepted, has, said')) = absurd (alone.apart text j name at accepted bad)
  one_no_member members text one other (inr (tree, j, flaw, parses, accepted, has, said)) (inl (name, at, bad, said')) = absurd (alone.apart text j name at accepted bad)
  one_no_member members text one other (inr (tree, j, name, parses, accepted, has, said)) (inr (tree', j', name', parses', accepted', has', said')) =
      let same : tree ≡ tree' = one_tree text tree tree' parses parses' in
      let own : j ≡ j' = alone.one text j j' accepted accepted' in
      let names : Some name ≡ Some name' = sym has ∙ ap (member_flaw members) own ∙ has' in
      said ∙ ap (λ (t : Tree). member_line (length members + 1) text t.facts.service.at name) same
      ∙ ap (member_line (length members + 1) text tree'.facts.service.at) (cc names) ∙ sym said'

-- two ways to take a list apart: at one place, or one before the other
data Compared (front front' : List (List ℕ)) (text text' : List ℕ) : Type 0 where
  at_one : front ≡ front' → text ≡ text' → Compared front front' text text'
  before : (more : List (List ℕ)) → front' ≡ front ++ text ∷ more → Compared front front' text text'
  after : (more : List (List ℕ)) → front ≡ front' ++ text' ∷ more → Compared front front' text text'

compared : (front front' behind behind' : List (List ℕ)) (text text' : List ℕ) → front ++ text ∷ behind ≡ front' ++ text' ∷ behind' → Compared front front' text text'
compared [] [] behind behind' text text' same = at_one refl (let one : text ≡ text' = cc same in one)
compared [] (t ∷ front') behind behind' text text' same = before front' (ap (λ x. x ∷ front') (let one : t ≡ text = cc same in one))
compared (t ∷ front) [] behind behind' text text' same = after front (ap (λ x. x ∷ front) (let one : t ≡ text' = cc same in one))
compared (t ∷ front) (t' ∷ front') behind behind' text text' same =
    let one : t ≡ t' = cc same in
    let rest : front ++ text ∷ behind ≡ front' ++ text' ∷ behind' = cc same in
    longer one (compared front front' behind behind' text text' rest)
  where
    longer : t ≡ t' → Compared front front' text text' → Compared (t ∷ front) (t' ∷ front') text text'
    longer one (at_one is here) = at_one (ap (λ x. x ∷ front) one ∙ ap (λ l. t' ∷ l) is) here
    longer one (before more is) = before more (ap (λ x. x ∷ front') (sym one) ∙ ap (λ l. t ∷ l) is)
    longer one (after more is) = after more (ap (λ x. x ∷ front) one ∙ ap (λ l. t' ∷ l) is)

-- the first text that is refused is one, and so is its line
pub one_gathered : (judging : Judging) (alone : IsOneJudging judging) (front behind front' behind' : List (List ℕ)) (text text' line line' : List ℕ) (members members' : List Declared)
    → front ++ text ∷ behind ≡ front' ++ text' ∷ behind' → AreMembers judging front members → AreMembers judging front' members'
    → IsNoMember judging members text line → IsNoMember judging members' text' line' → line ≡ line'
one_gathered judging alone front behind front' behind' text text' line line' members members' same are are' bad bad' = by (compared front front' behind behind' text text' same)
  where
    by : Compared front front' text text' → line ≡ line'
    by (at_one is here) =
        let own : members ≡ members' = one_members judging alone front members members' are.accepted (subst (λ l. AllZip judging.accepts l members') (sym is) are'.accepted) in
        one_no_member judging alone members' text' line line' (subst (λ l. IsNoMember judging l text' line) own (subst (λ t. IsNoMember judging members t line) here bad)) bad'
    by (before more is) = absurd (not_gathered judging alone front more text line members members' (subst (λ l. AreMembers judging l members') is are') are bad)
    by (after more is) = absurd (not_gathered judging alone front' more text' line' members' members (subst (λ l. AreMembers judging l members) is are) are' bad')
