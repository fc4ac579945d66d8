-- The clients of a script's parts in which nothing is wrong, one part after the other.
use Rattle.std.proofs.Common.{◌≡◌, ◌⊎◌, inl, inr, ℕ, ◌+◌, ◌<◌, ◌≤◌, Bool, true, false, List, [], ◌∷◌, ◌++◌, cond, length, map, refl, sym, ◌∙◌, ap, subst, arith, append_assoc, length-append, append-nil}
use Rattle.std.proofs.lemmas.Grind.{flat_map-append}
use Rattle.std.proofs.lemmas.List.{length-map}
use Rattle.std.specs.Prelude.{◌&&◌, ◌||◌, ◌==◌, nat_le, nat_lt}
use Rattle.std.proofs.lemmas.Bool.Decides.{nat_tests}
use Rattle.std.specs.List.{flat_map, fold, list_any}
use Rattle.sg_facts.specs.sg_base.Lists.{Each}
use Rattle.sg_facts.specs.Interface.{Declared}
use Rattle.sg_facts.specs.Limits.{last_client}
use Rattle.sg_plain.specs.Calls.{calls_with_setup, part_of}
use Rattle.sg_plain.specs.Playing.Playable.{AreClients}
use Rattle.sg_script.specs.sg_script_parse.declared.tree.WrittenCall.{WrittenCall}
use Rattle.sg_script.specs.sg_script_parse.declared.tree.Part.{Part}
use Rattle.sg_script.specs.sg_script_parse.declared.tree.Part.TheVariants.{Setup, Client, Schedule, Stop}
use Rattle.sg_script.specs.declared.fault.ScriptKind.TheVariants.{BadClient, Twice}
use Rattle.sg_script.specs.Numbers.{counts_as, is_known_client}
use Rattle.sg_script.specs.Scripts.{calls_of_setup, clients_of, placed}
use Rattle.sg_script.specs.Inside.Parts.{comes_again, is_of_client, with_client}
use Rattle.sg_script.specs.Flaws.{calls_before, calls_flaws, calls_in, client_flaws, flaws_after, flaws_of, part_flaws}
use Rattle.sg_script.proofs.Held.{back_none, after_none, counted, front_none, inner_none, is_true, not_flawed, part_few}
use Rattle.sg_plain.proofs.Flawless.Parts.{left, right}

-- ---- how many calls clients have, and which numbers

-- how many calls clients have
abbrev pub all_calls : {C : Type 0} → List (ℕ × List C) → ℕ
all_calls [] = 0
all_calls (c ∷ clients) = length c.1 + all_calls clients

placed_all : {C : Type 0} (P : ℕ × List C → Type 0) (n : ℕ) (calls : List C) (clients : List (ℕ × List C))
    → P (n, calls) → Each P clients → Each P (placed n calls clients)
placed_all P n calls [] good all = (good, tt)
placed_all P n calls (c ∷ clients) good all = by (nat_lt c.0 n) (placed_all P n calls clients good all.1)
  where
    by : (b : Bool) → Each P (placed n calls clients) → Each P (cond b (c ∷ placed n calls clients) ((n, calls) ∷ c ∷ clients))
    by true rest = (all.0, rest)
    by false rest = (good, all)

placed_total : {C : Type 0} (n : ℕ) (calls : List C) (clients : List (ℕ × List C)) → all_calls (placed n calls clients) ≡ length calls + all_calls clients
placed_total n calls [] = refl
placed_total n calls (c ∷ clients) = by (nat_lt c.0 n) (placed_total n calls clients)
  where
    by : (b : Bool) → all_calls (placed n calls clients) ≡ length calls + all_calls clients → all_calls (cond b (c ∷ placed n calls clients) ((n, calls) ∷ c ∷ clients)) ≡ length calls + all_calls (c ∷ clients)
    by true rest = omega (arith, rest)
    by false rest = refl

placed_has : {C : Type 0} (m n : ℕ) (calls : List C) (clients : List (ℕ × List C)) → list_any (λ c. c.0 == m) (placed n calls clients) ≡ true → ((n == m) ≡ true) ⊎ (list_any (λ c. c.0 == m) clients ≡ true)
placed_has m n calls [] has = by (n == m) refl has
  where
    by : (b : Bool) → (n == m) ≡ b → b || false ≡ true → ((n == m) ≡ true) ⊎ (false ≡ true)
    by true is has = inl is
    by false is has = absurd (cc has)
placed_has m n calls (c ∷ clients) has = by (nat_lt c.0 n) has (λ rest. placed_has m n calls clients rest)
  where
    or_more : (x y : Bool) → x || y ≡ true → (x ≡ true) ⊎ (y ≡ true)
    or_more true y is = inl refl
    or_more false y is = inr is

    more : (list_any (λ c. c.0 == m) clients ≡ true) → list_any (λ c. c.0 == m) (c ∷ clients) ≡ true
    more is = ap (λ b. (c.0 == m) || b) is ∙ last (c.0 == m)
      where
        last : (b : Bool) → (b || true) ≡ true
        last true = refl
        last false = refl

    first : (c.0 == m) ≡ true → list_any (λ c. c.0 == m) (c ∷ clients) ≡ true
    first is = ap (λ b. b || list_any (λ c. c.0 == m) clients) is

    of_first : ((c.0 == m) ≡ true) ⊎ (list_any (λ c. c.0 == m) (placed n calls clients) ≡ true) → (list_any (λ c. c.0 == m) (placed n calls clients) ≡ true → ((n == m) ≡ true) ⊎ (list_any (λ c. c.0 == m) clients ≡ true))
        → ((n == m) ≡ true) ⊎ (list_any (λ c. c.0 == m) (c ∷ clients) ≡ true)
    of_first (inl is) rest = inr (first is)
    of_first (inr is) rest = of_rest (rest is)
      where
        of_rest : ((n == m) ≡ true) ⊎ (list_any (λ c. c.0 == m) clients ≡ true) → ((n == m) ≡ true) ⊎ (list_any (λ c. c.0 == m) (c ∷ clients) ≡ true)
        of_rest (inl is) = inl is
        of_rest (inr is) = inr (more is)

    by : (b : Bool) → list_any (λ c. c.0 == m) (cond b (c ∷ placed n calls clients) ((n, calls) ∷ c ∷ clients)) ≡ true → (list_any (λ c. c.0 == m) (placed n calls clients) ≡ true → ((n == m) ≡ true) ⊎ (list_any (λ c. c.0 == m) clients ≡ true))
        → ((n == m) ≡ true) ⊎ (list_any (λ c. c.0 == m) (c ∷ clients) ≡ true)
    by true has rest = of_first (or_more (c.0 == m) (list_any (λ c. c.0 == m) (placed n calls clients)) has) rest
    by false has rest = or_more (n == m) (list_any (λ c. c.0 == m) (c ∷ clients)) has

placed_ascends : {C : Type 0} (above n : ℕ) (calls : List C) (clients : List (ℕ × List C)) → AreClients above clients → above < n → n ≤ last_client → list_any (λ c. c.0 == n) clients ≡ false
    → AreClients above (placed n calls clients)
placed_ascends above n calls [] are more most absent = (more, most, tt)
placed_ascends above n calls (c ∷ clients) are more most absent = by (nat_lt c.0 n) refl (c.0 == n) refl absent (λ less none. placed_ascends c.0 n calls clients are.2 less most none)
  where
    less : nat_lt c.0 n ≡ true → c.0 < n
    less is = grind (arith, nat_tests)

    above_it : nat_lt c.0 n ≡ false → (c.0 == n) ≡ false → n < c.0
    above_it isn't differs = grind (arith, nat_tests)

    by : (b : Bool) → nat_lt c.0 n ≡ b → (same : Bool) → (c.0 == n) ≡ same → same || list_any (λ c. c.0 == n) clients ≡ false
        → (c.0 < n → list_any (λ c. c.0 == n) clients ≡ false → AreClients c.0 (placed n calls clients)) → AreClients above (cond b (c ∷ placed n calls clients) ((n, calls) ∷ c ∷ clients))
    by b is true same absent rest = absurd (cc absent)
    by true is false same absent rest = (are.0, are.1, rest (less is) absent)
    by false is false same absent rest = (more, most, (above_it is same, are.1, are.2))

-- what holds of the calls of each client, and of none, holds of the calls of a client's part
pub of_part : {C : Type 0} (P : ℕ × List C → Type 0) (client : ℕ) (clients : List (ℕ × List C)) → P (client, []) → Each P clients → P (client, part_of client clients)
of_part P client [] empty all = empty
of_part P client (c ∷ clients) empty all = by (c.0 == client) refl (of_part P client clients empty all.1)
  where
    its : (c.0 == client) ≡ true → c.0 ≡ client
    its is = grind (arith, nat_tests)

    by : (b : Bool) → (c.0 == client) ≡ b → P (client, part_of client clients) → P (client, cond b c.1 (part_of client clients))
    by true is rest = subst (λ m. P (m, c.1)) (its is) all.0
    by false is rest = rest

-- a client has no more calls than all of them
few_of : {C : Type 0} (client : ℕ) (clients : List (ℕ × List C)) → length (part_of client clients) ≤ all_calls clients
few_of client [] = omega arith
few_of client (c ∷ clients) = by (c.0 == client) (few_of client clients)
  where
    by : (b : Bool) → length (part_of client clients) ≤ all_calls clients → length (cond b c.1 (part_of client clients)) ≤ all_calls (c ∷ clients)
    by true rest = omega arith
    by false rest = omega (arith, rest)

-- what parts up to a place come to, where the calls of each client are as they have to be
pub record IsRead {C : Type 0} (IsGood : ℕ × List C → Type 0) (front : List Part) (clients : List (ℕ × List C)) : Type 0 where
  pub ascend : AreClients 0 clients
  pub good : Each IsGood clients
  pub from_parts : (m : ℕ) → list_any (λ c. c.0 == m) clients ≡ true → list_any (is_of_client m) front ≡ true
  pub few : length (flat_map calls_of_setup front) + all_calls clients ≤ length (flat_map calls_in front)

pub any_more : (test : Part → Bool) (front : List Part) (p : Part) → list_any test front ≡ true → list_any test (front ++ p ∷ []) ≡ true
any_more test [] p has = absurd (cc has)
any_more test (x ∷ front) p has = by (test x) has (λ rest. any_more test front p rest)
  where
    by : (b : Bool) → b || list_any test front ≡ true → (list_any test front ≡ true → list_any test (front ++ p ∷ []) ≡ true) → b || list_any test (front ++ p ∷ []) ≡ true
    by true has more = refl
    by false has more = more has

pub any_last : (test : Part → Bool) (front : List Part) (p : Part) → test p ≡ true → list_any test (front ++ p ∷ []) ≡ true
any_last test [] p is = ap (λ b. b || false) is
any_last test (x ∷ front) p is = ap (λ b. test x || b) (any_last test front p is) ∙ last (test x)
  where
    last : (b : Bool) → (b || true) ≡ true
    last true = refl
    last false = refl

pub setups_counted : (front : List Part) (p : Part) → length (flat_map calls_of_setup (front ++ p ∷ [])) ≡ length (flat_map calls_of_setup front) + length (calls_of_setup p)
setups_counted front p =
    ap length (flat_map-append calls_of_setup front (p ∷ []) ∙ ap (λ v. flat_map calls_of_setup front ++ v) (append-nil (calls_of_setup p)))
    ∙ length-append (flat_map calls_of_setup front) (calls_of_setup p)

-- calls of written ones, whose clients are good where their parts have no flaw
module _ {C : Type 0} (members : List Declared) (setup : ℕ) (make : WrittenCall → C) (IsGood : ℕ × List C → Type 0)
    (calls_good : (n nth : ℕ) (calls : List WrittenCall) → calls_flaws members false nth (calls_before setup n + 1) calls ≡ [] → IsGood (n, map make calls)) where
  part_read : (front : List Part) (p : Part) (clients : List (ℕ × List C)) → part_flaws members setup front p ≡ [] → IsRead IsGood front clients
      → IsRead IsGood (front ++ p ∷ []) (with_client make p clients)
  part_read front (Setup at calls) clients none is = record {
    ascend = is.ascend;
    good = is.good;
    from_parts = λ m has. any_more (is_of_client m) front (Setup at calls) (is.from_parts m has);
    few = omega (arith, is.few, counted front (Setup at calls), setups_counted front (Setup at calls));
  }
  part_read front (Schedule at numbers) clients none is = record {
    ascend = is.ascend;
    good = is.good;
    from_parts = λ m has. any_more (is_of_client m) front (Schedule at numbers) (is.from_parts m has);
    few = omega (arith, is.few, counted front (Schedule at numbers), setups_counted front (Schedule at numbers));
  }
  part_read front (Stop at service numbers) clients none is = record {
    ascend = is.ascend;
    good = is.good;
    from_parts = λ m has. any_more (is_of_client m) front (Stop at service numbers) (is.from_parts m has);
    few = omega (arith, is.few, counted front (Stop at service numbers), setups_counted front (Stop at service numbers));
  }
  part_read front (Client at n calls) clients none is =
      let number = counts_as n.bytes in
      let inner : client_flaws n ++ calls_flaws members false (length (flat_map calls_in front) + 1) (calls_before setup number + 1) calls ≡ [] = back_none _ _ none in
      let known : is_known_client number ≡ true = is_true _ (not_flawed _ BadClient n.at (front_none _ _ (front_none (client_flaws n) _ inner))) in
      let first : comes_again members front (Client at n calls) ≡ false = not_flawed _ Twice at (front_none _ _ none) in
      let new : list_any (is_of_client number) front ≡ false = ap (λ b. b && list_any (is_of_client number) front) (sym known) ∙ first in
      record {
        ascend = placed_ascends 0 number (map make calls) clients is.ascend (from_one number (left _ _ known)) (to_last number (right (nat_le 1 number) _ known)) (absent number new);
        good = placed_all IsGood number (map make calls) clients (calls_good number (length (flat_map calls_in front) + 1) calls (back_none (client_flaws n) _ inner)) is.good;
        from_parts = λ m has. came m (placed_has m number (map make calls) clients has);
        few = omega (arith, is.few, counted front (Client at n calls), setups_counted front (Client at n calls), placed_total number (map make calls) clients, length-map calls make);
      }
    where
      from_one : (m : ℕ) → nat_le 1 m ≡ true → 0 < m
      from_one m is = grind (arith, nat_tests)

      to_last : (m : ℕ) → nat_le m last_client ≡ true → m ≤ last_client
      to_last m is = grind (arith, nat_tests)

      absent : (m : ℕ) → list_any (is_of_client m) front ≡ false → list_any (λ c. c.0 == m) clients ≡ false
      absent m none = by (list_any (λ c. c.0 == m) clients) refl
        where
          by : (b : Bool) → list_any (λ c. c.0 == m) clients ≡ b → b ≡ false
          by true has = absurd (cc (sym (is.from_parts m has) ∙ none))
          by false has = refl

      came : (m : ℕ) → ((counts_as n.bytes == m) ≡ true) ⊎ (list_any (λ c. c.0 == m) clients ≡ true) → list_any (is_of_client m) (front ++ Client at n calls ∷ []) ≡ true
      came m (inl is_own) = any_last (is_of_client m) front (Client at n calls) is_own
      came m (inr has) = any_more (is_of_client m) front (Client at n calls) (is.from_parts m has)

  pub parts_read : (front parts : List Part) (clients : List (ℕ × List C)) → flaws_after members setup front parts ≡ [] → IsRead IsGood front clients
      → IsRead IsGood (front ++ parts) (fold (λ clients p. with_client make p clients) clients parts)
  parts_read front [] clients none is = subst (λ f. IsRead IsGood f clients) (sym (append-nil front)) is
  parts_read front (p ∷ parts) clients none is =
      subst (λ f. IsRead IsGood f (fold (λ clients p. with_client make p clients) (with_client make p clients) parts)) (append_assoc front (p ∷ []) parts)
      (parts_read (front ++ p ∷ []) parts (with_client make p clients) (after_none members setup front p parts none) (part_read front p clients (front_none (part_flaws members setup front p) _ none) is))

pub all_counted : (members : List Declared) (setup : ℕ) (front parts : List Part) → length (flat_map calls_in front) ≤ 65536 → flaws_after members setup front parts ≡ [] → length (flat_map calls_in (front ++ parts)) ≤ 65536
all_counted members setup front [] few none = subst (λ f. length (flat_map calls_in f) ≤ 65536) (sym (append-nil front)) few
all_counted members setup front (p ∷ parts) few none =
    subst (λ f. length (flat_map calls_in f) ≤ 65536) (append_assoc front (p ∷ []) parts)
    (all_counted members setup (front ++ p ∷ []) parts (subst (λ v. v ≤ 65536) (sym (counted front p)) (part_few members setup (length (flat_map calls_in front)) p few (inner_none members setup front p parts none)))
    (after_none members setup front p parts none))

-- all clients of flawless parts
module _ {C : Type 0} (members : List Declared) (make : WrittenCall → C) (parts : List Part) (none : flaws_of members parts ≡ []) where
  pub clients_read : (IsGood : ℕ × List C → Type 0)
      → ((n nth : ℕ) (calls : List WrittenCall) → calls_flaws members false nth (calls_before (length (flat_map calls_of_setup parts)) n + 1) calls ≡ [] → IsGood (n, map make calls))
      → IsRead IsGood parts (clients_of make parts)
  clients_read IsGood calls_good =
      parts_read members (length (flat_map calls_of_setup parts)) make IsGood calls_good [] parts [] none (record { ascend = tt; good = tt; from_parts = λ m has. absurd (cc has); few = omega arith })

  -- each has no more calls than a script
  pub calls_few : (client : ℕ) → length (calls_with_setup (map make (flat_map calls_of_setup parts)) (clients_of make parts) client) ≤ 65536
  calls_few client = by (client == 1)
    where
      read : IsRead (λ c. Unit {0}) parts (clients_of make parts)
      read = clients_read (λ c. Unit {0}) (λ n nth calls none. tt)

      most : length (flat_map calls_in parts) ≤ 65536
      most = all_counted members (length (flat_map calls_of_setup parts)) [] parts (omega arith) none

      by : (b : Bool) → length (cond b (map make (flat_map calls_of_setup parts)) [] ++ part_of client (clients_of make parts)) ≤ 65536
      by true = omega (arith, read.few, most, few_of client (clients_of make parts), length-map (flat_map calls_of_setup parts) make, length-append (map make (flat_map calls_of_setup parts)) (part_of client (clients_of make parts)))
      by false = omega (arith, read.few, most, few_of client (clients_of make parts))
