-- Where each client's calls are numbered one after the other, the descriptor that a call was given is its own entry's.
use Rattle.std.proofs.Common.{◌≡◌, ℕ, ◌+◌, ◌≤◌, Bool, true, false, cond, ◌||◌, ◌&&◌, List, [], ◌∷◌, ◌++◌, Some, find, length, refl, sym, ◌∙◌, ap, subst, append_assoc, arith}
use Rattle.std.specs.Prelude.{◌==◌}
use Rattle.std.specs.List.{list_any}
use Rattle.std.proofs.lemmas.Bool.Decides.{nat_tests}
use Rattle.sg_facts.specs.sg_base.Lists.{Each}
use Rattle.sg_facts.specs.declared.entry.Entry.{Entry}
use Rattle.sg_report.specs.sg_hist.Clients.{AreNumbered, calls_of}
use Rattle.sg_report.specs.sg_hist.Reading.{desc_in, id_given}
use Rattle.sg_report.specs.sg_hist.Inside.Reads.{desc_of}
use Rattle.sg_facts.proofs.Replaying.Found.{same_test}
use Rattle.sg_world_laws.proofs.Entered.{numbers_below}
use Rattle.sg_cost.proofs.Few.Lists.{both_true, find_after}

-- whether an entry is of the call of a number of a client
abbrev is_numbered : ℕ → ℕ → Entry → Bool
is_numbered client seq e = (e.call.client == client) && (e.call.seq == seq)

-- the entries before one are numbered
pub numbered_front : (acc front rest : List Entry) → AreNumbered acc (front ++ rest) → AreNumbered acc front
numbered_front acc [] rest numbered = tt
numbered_front acc (e ∷ front) rest numbered = (numbered.0, numbered_front (acc ++ e ∷ []) front rest numbered.1)

-- and it has the next number
pub numbered_here : (acc front : List Entry) (e : Entry) (rest : List Entry) → AreNumbered acc (front ++ e ∷ rest) → e.call.seq ≡ length (calls_of (acc ++ front) e.call.client) + 1
numbered_here acc [] e rest numbered = numbered.0 ∙ ap (λ l. length (calls_of l e.call.client) + 1) (sym (nil acc))
  where
    nil : (l : List Entry) → l ++ [] ≡ l
    nil [] = refl
    nil (x ∷ l) = ap (λ l. x ∷ l) (nil l)
numbered_here acc (x ∷ front) e rest numbered =
    numbered_here (acc ++ x ∷ []) front e rest numbered.1 ∙ ap (λ l. length (calls_of l e.call.client) + 1) (append_assoc acc (x ∷ []) front)

-- none of some entries has a number above theirs
none_above : (client most seq : ℕ) (es : List Entry) → Each (λ x. x.call.client ≡ client → x.call.seq ≤ most) es → seq ≡ most + 1 → list_any (is_numbered client seq) es ≡ false
none_above client most seq [] each next = refl
none_above client most seq (x ∷ es) each next = by (is_numbered client seq x) refl (none_above client most seq es each.1 next)
  where
    by : (b : Bool) → is_numbered client seq x ≡ b → list_any (is_numbered client seq) es ≡ false → (b || list_any (is_numbered client seq) es) ≡ false
    by true is rest =
        let two = both_true (x.call.client == client) (x.call.seq == seq) is in
        let its : x.call.client ≡ client = let t = two.0 in grind (arith, nat_tests, t) in
        let number : x.call.seq ≡ seq = let t = two.1 in grind (arith, nat_tests, t) in
        let few = each.0 its in
        absurd (omega (arith, few, number, next))
    by false is rest = rest

own_is : (history front : List Entry) (e : Entry) (rest : List Entry) → AreNumbered [] history → history ≡ front ++ e ∷ rest → id_given history e.call.client e.call.seq ≡ desc_of e.reply
own_is history front e rest numbered is =
    let all = subst (AreNumbered []) is numbered in
    let none = none_above e.call.client (length (calls_of front e.call.client)) e.call.seq front (numbers_below [] front e.call.client (numbered_front [] front (e ∷ rest) all)) (numbered_here [] front e rest all) in
    ap (λ h. desc_in (find (is_numbered e.call.client e.call.seq) h)) is
    ∙ ap desc_in (find_after (is_numbered e.call.client e.call.seq) front (e ∷ rest) none)
    ∙ ap (λ b. desc_in (cond b (Some e) (find (is_numbered e.call.client e.call.seq) rest))) (ap (λ a. a && (e.call.seq == e.call.seq)) (same_test e.call.client e.call.client refl) ∙ same_test e.call.seq e.call.seq refl)

given_later : (history front hs : List Entry) → AreNumbered [] history → history ≡ front ++ hs → Each (λ e. id_given history e.call.client e.call.seq ≡ desc_of e.reply) hs
given_later history front [] numbered is = tt
given_later history front (e ∷ hs) numbered is =
    (own_is history front e hs numbered is, given_later history (front ++ e ∷ []) hs numbered (is ∙ sym (append_assoc front (e ∷ []) hs)))

pub given_own : (history : List Entry) → AreNumbered [] history → Each (λ e. id_given history e.call.client e.call.seq ≡ desc_of e.reply) history
given_own history numbered = given_later history [] history numbered refl
