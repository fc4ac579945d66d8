-- What comes once at most in parts in which nothing is wrong: the setup, and the stops for each member; and the turns that they give.
use Rattle.std.proofs.Common.{◌≡◌, ℕ, ◌+◌, ◌<◌, Bool, true, false, cond, List, [], ◌∷◌, ◌++◌, length, map, None, Some, refl, sym, ◌∙◌, ap, subst, arith, append-nil}
use Rattle.std.specs.Prelude.{◌==◌, filter, nat_le}
use Rattle.std.specs.declared.option.Option.{Option}
use Rattle.std.specs.Option.{option_map_or}
use Rattle.std.proofs.lemmas.Bool.Decides.{nat_tests}
use Rattle.std.specs.List.{flat_map, list_all, list_any}
use Rattle.sg_edge.specs.Stops.{AscendsAbove}
use Rattle.sg_facts.specs.Interface.{Declared}
use Rattle.sg_script.specs.sg_script_parse.sg_lex.Lexeme.{Spelling}
use Rattle.sg_script.specs.sg_script_parse.declared.tree.Part.{Part}
use Rattle.sg_script.specs.sg_script_parse.declared.tree.Part.TheVariants.{Setup, Client, Schedule, Stop}
use Rattle.sg_script.specs.declared.fault.ScriptKind.TheVariants.{BadClient, NotAscending, Twice}
use Rattle.sg_script.specs.Numbers.{counts_as}
use Rattle.sg_script.specs.Scripts.{calls_of_setup, is_stop_of, stop_member, stops_of}
use Rattle.sg_script.specs.Inside.Parts.{comes_again, inner_flaws, is_setup, part_place, stops_in, turns_of}
use Rattle.sg_script.specs.Flaws.{calls_flaws, calls_in, client_flaws, flaws_after, flaws_of, part_flaws, stops_flaws}
use Rattle.sg_script.proofs.Held.{back_none, after_none, both, front_none, inner_none, is_true, not_flawed}
use Rattle.sg_script.proofs.Parts.{by_part}
use Rattle.sg_plain.proofs.Flawless.Clients.{any_last, any_more}
use Rattle.sg_plain.proofs.Flawless.Parts.{left}

some_false : (b : Bool) → b ≡ true → b ≡ false → ⊥
some_false b is isn't = cc (sym is ∙ isn't)

-- the next part doesn't come again
first_none : (members : List Declared) (setup : ℕ) (front : List Part) (p : Part) (parts : List Part) → flaws_after members setup front (p ∷ parts) ≡ [] → comes_again members front p ≡ false
first_none members setup front p parts none =
    not_flawed (comes_again members front p) Twice (part_place p)
    (front_none _ (inner_flaws members setup (length (flat_map calls_in front)) p) (sym (by_part members setup front p) ∙ front_none (part_flaws members setup front p) (flaws_after members setup (front ++ p ∷ []) parts) none))

-- ---- parts of a kind of which there is one at most

-- what the parts of a kind have, and no other part has; the kind is one of which a second part is a flaw
module _ {A : Type 0} (members : List Declared) (setup : ℕ) (kind : Part → Bool) (has : Part → List A)
    (others : (p : Part) → kind p ≡ false → has p ≡ [])
    (single : (front : List Part) (p : Part) → kind p ≡ true → comes_again members front p ≡ false → list_any kind front ≡ false) where
  no_more : (front parts : List Part) → list_any kind front ≡ true → flaws_after members setup front parts ≡ [] → flat_map has parts ≡ []
  no_more front [] there none = refl
  no_more front (p ∷ parts) there none =
      ap (λ l. l ++ flat_map has parts) (by (kind p) refl) ∙ no_more (front ++ p ∷ []) parts (any_more kind front p there) (after_none members setup front p parts none)
    where
      by : (b : Bool) → kind p ≡ b → has p ≡ []
      by true is = absurd (some_false (list_any kind front) there (single front p is (first_none members setup front p parts none)))
      by false is = others p is

  -- so what holds of nothing, and of what a part of that kind has, holds of all that they have
  of_one : (P : List A → Type 0) → P [] → ((before : ℕ) (p : Part) → kind p ≡ true → inner_flaws members setup before p ≡ [] → P (has p)) → (front parts : List Part)
      → flaws_after members setup front parts ≡ [] → P (flat_map has parts)
  of_one P empty good front [] none = empty
  of_one P empty good front (p ∷ parts) none = by (kind p) refl (of_one P empty good (front ++ p ∷ []) parts (after_none members setup front p parts none))
    where
      by : (b : Bool) → kind p ≡ b → P (flat_map has parts) → P (has p ++ flat_map has parts)
      by true is rest =
          subst P (sym (ap (λ l. has p ++ l) (no_more (front ++ p ∷ []) parts (any_last kind front p is) (after_none members setup front p parts none)) ∙ append-nil (has p)))
          (good (length (flat_map calls_in front)) p is (inner_none members setup front p parts none))
      by false is rest = subst (λ l. P (l ++ flat_map has parts)) (sym (others p is)) rest

-- ---- the setup

-- nothing is wrong with its calls, counted from one on
abbrev pub IsFlawlessSetup : List Declared → List Part → Type 0
IsFlawlessSetup members parts = (nth : ℕ) × (calls_flaws members true nth 1 (flat_map calls_of_setup parts) ≡ [])

pub setup_flawless : (members : List Declared) (parts : List Part) → flaws_of members parts ≡ [] → IsFlawlessSetup members parts
setup_flawless members parts none =
    of_one members (length (flat_map calls_of_setup parts)) is_setup calls_of_setup no_calls once (λ calls. (nth : ℕ) × (calls_flaws members true nth 1 calls ≡ [])) (1, refl) its [] parts none
  where
    no_calls : (p : Part) → is_setup p ≡ false → calls_of_setup p ≡ []
    no_calls (Setup at calls) isn't = absurd (cc isn't)
    no_calls (Client at n calls) isn't = refl
    no_calls (Schedule at numbers) isn't = refl
    no_calls (Stop at service numbers) isn't = refl

    once : (front : List Part) (p : Part) → is_setup p ≡ true → comes_again members front p ≡ false → list_any is_setup front ≡ false
    once front (Setup at calls) is first = first
    once front (Client at n calls) is first = absurd (cc is)
    once front (Schedule at numbers) is first = absurd (cc is)
    once front (Stop at service numbers) is first = absurd (cc is)

    its : (before : ℕ) (p : Part) → is_setup p ≡ true → inner_flaws members (length (flat_map calls_of_setup parts)) before p ≡ [] → (nth : ℕ) × (calls_flaws members true nth 1 (calls_of_setup p) ≡ [])
    its before (Setup at calls) is inner = (before + 1, inner)
    its before (Client at n calls) is inner = absurd (cc is)
    its before (Schedule at numbers) is inner = absurd (cc is)
    its before (Stop at service numbers) is inner = absurd (cc is)

-- ---- the stops for a member

above_before : (n before : ℕ) → nat_le n before ≡ false → before < n
above_before n before isn't = grind (arith, nat_tests)

stops_ascend : (nth before : ℕ) (numbers : List Spelling) → stops_flaws nth before numbers ≡ [] → AscendsAbove before (map (λ (n : Spelling). counts_as n.bytes) numbers)
stops_ascend nth before [] none = tt
stops_ascend nth before (n ∷ numbers) none =
    let first = front_none _ _ (front_none _ _ (front_none _ _ none)) in
    (above_before (counts_as n.bytes) before (not_flawed _ NotAscending n.at first), stops_ascend (nth + 1) (counts_as n.bytes) numbers (back_none _ _ none))

-- the stops that a part has for a member
abbrev stops_for : List Declared → ℕ → Part → List Spelling
stops_for members m p = cond (is_stop_of members m p) (stops_in p) []

stops_in_them : (members : List Declared) (m : ℕ) (parts : List Part) → flat_map (stops_for members m) parts ≡ flat_map stops_in (filter (is_stop_of members m) parts)
stops_in_them members m [] = refl
stops_in_them members m (p ∷ parts) = by (is_stop_of members m p) (stops_in_them members m parts)
  where
    by : (b : Bool) → flat_map (stops_for members m) parts ≡ flat_map stops_in (filter (is_stop_of members m) parts)
        → cond b (stops_in p) [] ++ flat_map (stops_for members m) parts ≡ flat_map stops_in (cond b (p ∷ filter (is_stop_of members m) parts) (filter (is_stop_of members m) parts))
    by true rest = ap (λ l. stops_in p ++ l) rest
    by false rest = rest

pub stops_ascending : (members : List Declared) (parts : List Part) → flaws_of members parts ≡ [] → (m : ℕ) → AscendsAbove 0 (stops_of (filter (is_stop_of members m) parts))
stops_ascending members parts none m =
    subst (λ l. AscendsAbove 0 (map (λ (n : Spelling). counts_as n.bytes) l)) (stops_in_them members m parts)
    (of_one members (length (flat_map calls_of_setup parts)) (is_stop_of members m) (stops_for members m) no_stops once (λ l. AscendsAbove 0 (map (λ (n : Spelling). counts_as n.bytes) l)) tt its [] parts none)
  where
    no_stops : (p : Part) → is_stop_of members m p ≡ false → stops_for members m p ≡ []
    no_stops p isn't = ap (λ b. cond b (stops_in p) []) isn't

    once : (front : List Part) (p : Part) → is_stop_of members m p ≡ true → comes_again members front p ≡ false → list_any (is_stop_of members m) front ≡ false
    once front (Setup at calls) is first = absurd (cc is)
    once front (Client at n calls) is first = absurd (cc is)
    once front (Schedule at numbers) is first = absurd (cc is)
    once front (Stop at service numbers) is first = by (stop_member members service) is first
      where
        by : (o : Option ℕ) → option_map_or (λ n. n == m) o false ≡ true → option_map_or (λ n. list_any (is_stop_of members n) front) o false ≡ false → list_any (is_stop_of members m) front ≡ false
        by None is first = absurd (cc is)
        by (Some n) is first = let same : n ≡ m = grind (arith, nat_tests) in subst (λ v. list_any (is_stop_of members v) front ≡ false) same first

    its : (before : ℕ) (p : Part) → is_stop_of members m p ≡ true → inner_flaws members (length (flat_map calls_of_setup parts)) before p ≡ []
        → AscendsAbove 0 (map (λ (n : Spelling). counts_as n.bytes) (stops_for members m p))
    its before (Setup at calls) is inner = absurd (cc is)
    its before (Client at n calls) is inner = absurd (cc is)
    its before (Schedule at numbers) is inner = absurd (cc is)
    its before (Stop at service numbers) is inner =
        subst (λ b. AscendsAbove 0 (map (λ (n : Spelling). counts_as n.bytes) (cond b numbers []))) (sym is) (stops_ascend 1 0 numbers (back_none _ (stops_flaws 1 0 numbers) inner))

-- ---- turns

turns_from_one : (numbers rest : List Spelling) → flat_map client_flaws numbers ≡ [] → list_all (λ client. nat_le 1 client) (map (λ (n : Spelling). counts_as n.bytes) rest) ≡ true
    → list_all (λ client. nat_le 1 client) (map (λ (n : Spelling). counts_as n.bytes) (numbers ++ rest)) ≡ true
turns_from_one [] rest none all = all
turns_from_one (n ∷ numbers) rest none all =
    both (nat_le 1 (counts_as n.bytes)) _ (left _ _ (is_true _ (not_flawed _ BadClient n.at (front_none _ _ (front_none (client_flaws n) (flat_map client_flaws numbers) none)))))
    (turns_from_one numbers rest (back_none (client_flaws n) (flat_map client_flaws numbers) none) all)

pub all_turns : (members : List Declared) (setup : ℕ) (front parts : List Part) → flaws_after members setup front parts ≡ []
    → list_all (λ client. nat_le 1 client) (map (λ (n : Spelling). counts_as n.bytes) (flat_map turns_of parts)) ≡ true
all_turns members setup front [] none = refl
all_turns members setup front (Schedule at numbers ∷ parts) none =
    turns_from_one numbers (flat_map turns_of parts) (inner_none members setup front (Schedule at numbers) parts none) (all_turns members setup (front ++ Schedule at numbers ∷ []) parts (after_none members setup front (Schedule at numbers) parts none))
all_turns members setup front (Stop at service numbers ∷ parts) none = all_turns members setup (front ++ Stop at service numbers ∷ []) parts (after_none members setup front (Stop at service numbers) parts none)
all_turns members setup front (Client at n calls ∷ parts) none = all_turns members setup (front ++ Client at n calls ∷ []) parts (after_none members setup front (Client at n calls) parts none)
all_turns members setup front (Setup at calls ∷ parts) none = all_turns members setup (front ++ Setup at calls ∷ []) parts (after_none members setup front (Setup at calls) parts none)
