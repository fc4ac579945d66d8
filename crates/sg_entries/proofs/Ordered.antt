-- The flaws of entries stand in their order.
use Rattle.std.proofs.Common.{◌≡◌, inl, inr, ℕ, suc, ◌+◌, ◌-◌, ◌<◌, ◌≤◌, Bool, true, false, cond, List, [], ◌∷◌, ◌++◌, None, Some, length, length-append, map, refl, sym, ◌∙◌, ap, subst, append_assoc, arith}
use Rattle.std.specs.Prelude.{◌==◌, codes}
use Rattle.std.specs.List.{flat_map, slice_split}
use Rattle.std.specs.declared.option.Option.{Option}
use Rattle.std.proofs.lemmas.Grind.{flat_map-append}
use Rattle.sg_entries.proofs.Spelt.{written}
use Rattle.sg_entries.proofs.Within.{each_both}
use Rattle.sg_entries.specs.Flaws.{Flaw, entry_flaws, flaw_if, flaws_from, number_flaws, text_flaws}
use Rattle.sg_entries.specs.Inside.Making.{IsFirst}
use Rattle.sg_entries.specs.Inside.Flaws.{answer_flaws, arg_flaws, client_flaws, fun_flaws, in_line, optional_flaws, too_many_entries, word_flaws}
use Rattle.sg_entries.specs.Lines.{begins_entry, entry_lines, entry_lines_of, front_lines, placed}
use Rattle.sg_entries.specs.Inside.Cutting.{line_feed, lines_from}
use Rattle.sg_entries.specs.Order.{IsNotAfter}
use Rattle.sg_entries.specs.Reads.{AreEntries}
use Rattle.sg_entries.specs.declared.error.EntriesKind.{EntriesKind}
use Rattle.sg_entries.specs.declared.error.EntriesKind.TheVariants.{BadArgs, BadClient, Limit}
use Rattle.sg_entries.specs.Entry.{IsEntry, answer_pieces, arg_pieces}
use Rattle.sg_entries.specs.Inside.Forms.{args_pieces, bytes_pieces, desc_pieces, next_arg_pieces, word_pieces}
use Rattle.sg_entries.specs.Pieces.{ArePlaced, EntryPiece, IsPositive, fixed, number, piece_bytes}
use Rattle.sg_entries.specs.Inside.Classes.{IsName, IsNumber}
use Rattle.sg_entries.specs.sg_lex.Lexeme.{Spelling}
use Rattle.sg_entries.specs.declared.tree.WrittenAnswer.{WrittenAnswer}
use Rattle.sg_entries.specs.declared.tree.WrittenAnswer.TheVariants.{Refused, Ok as good}
use Rattle.sg_entries.specs.declared.tree.WrittenArg.{WrittenArg}
use Rattle.sg_entries.specs.declared.tree.WrittenArg.TheVariants.{Number, Text}
use Rattle.sg_entries.specs.declared.tree.WrittenEntry.{WrittenEntry}
use Rattle.sg_facts.specs.Interface.{Declared}
use Rattle.sg_facts.specs.sg_base.Lists.{Each}
use Rattle.sg_script.specs.Scripts.{declared_fun}

-- ---- flaws between two places

-- each flaw comes before all that stand after it
abbrev pub IsSorted : List Flaw → Type 0
IsSorted [] = Unit {0}
IsSorted (f ∷ flaws) = Each (IsNotAfter f) flaws × IsSorted flaws

-- a flaw stands from one place on, before another
abbrev pub IsBetween : ℕ → ℕ → Flaw → Type 0
IsBetween from to f = (from ≤ f.at) × (f.at < to)

-- flaws in their order, from one place on, before another
pub record Lie (from to : ℕ) (flaws : List Flaw) : Type 0 where
  pub onward : from ≤ to
  pub between : Each (IsBetween from to) flaws
  pub sorted : IsSorted flaws

each_as : {A : Type 0} (P Q : A → Type 0) → ((a : A) → P a → Q a) → (xs : List A) → Each P xs → Each Q xs
each_as P Q goes [] h = tt
each_as P Q goes (x ∷ xs) h = (goes x h.0, each_as P Q goes xs h.1)

lie_none : (from to : ℕ) → from ≤ to → Lie from to []
lie_none from to le = record { onward = le; between = tt; sorted = tt }

lie_if : (from to at : ℕ) (b : Bool) (kind : EntriesKind) → from ≤ at → at < to → Lie from to (flaw_if b kind at)
lie_if from to at true kind first last = record { onward = omega (arith, first, last); between = ((first, last), tt); sorted = (tt, tt) }
lie_if from to at false kind first last = record { onward = omega (arith, first, last); between = tt; sorted = tt }

lie_wider : (from to start end : ℕ) (flaws : List Flaw) → start ≤ from → to ≤ end → Lie from to flaws → Lie start end flaws
lie_wider from to start end flaws first last lie = record {
  onward = (let le = lie.onward in omega (arith, le, first, last));
  between = each_as (IsBetween from to) (IsBetween start end) (λ f is. (let a = is.0 in omega (arith, a, first), let b = is.1 in omega (arith, b, last))) flaws lie.between;
  sorted = lie.sorted;
}

sorted_more : (mid : ℕ) (xs ys : List Flaw) → Each (λ f. f.at < mid) xs → Each (λ f. mid ≤ f.at) ys → IsSorted xs → IsSorted ys → IsSorted (xs ++ ys)
sorted_more mid [] ys below above s t = t
sorted_more mid (x ∷ xs) ys below above s t =
    (each_both (IsNotAfter x) xs ys s.0 (each_as (λ f. mid ≤ f.at) (IsNotAfter x) (λ f le. inl (let lt = below.0 in omega (arith, lt, le))) ys above), sorted_more mid xs ys below.1 above s.1 t)

-- flaws after others
lie_more : (from mid to : ℕ) (xs ys : List Flaw) → Lie from mid xs → Lie mid to ys → Lie from to (xs ++ ys)
lie_more from mid to xs ys x y = record {
  onward = (let a = x.onward in let b = y.onward in omega (arith, a, b));
  between = each_both (IsBetween from to) xs ys (lie_wider from mid from to xs (omega arith) y.onward x).between (lie_wider mid to from to ys x.onward (omega arith) y).between;
  sorted = sorted_more mid xs ys (each_as (IsBetween from mid) (λ f. f.at < mid) (λ f is. is.1) xs x.between) (each_as (IsBetween mid to) (λ f. mid ≤ f.at) (λ f is. is.0) ys y.between) x.sorted y.sorted;
}

-- ---- pieces

placed_front : (place : ℕ) (xs ys : List EntryPiece) → ArePlaced place (xs ++ ys) → ArePlaced place xs
placed_front place [] ys are = tt
placed_front place (x ∷ xs) ys are = (are.0, placed_front (place + length (piece_bytes x)) xs ys are.1)

placed_back : (place : ℕ) (xs ys : List EntryPiece) → ArePlaced place (xs ++ ys) → ArePlaced (place + length (written xs)) ys
placed_back place [] ys are = let same : place ≡ place + 0 = omega arith in subst (λ p. ArePlaced p ys) same are
placed_back place (x ∷ xs) ys are =
    let sum : length (written (x ∷ xs)) ≡ length (piece_bytes x) + length (written xs) = length-append (piece_bytes x) (written xs) in
    let same : place + length (piece_bytes x) + length (written xs) ≡ place + length (written (x ∷ xs)) = omega (arith, sum) in
    subst (λ p. ArePlaced p ys) same (placed_back (place + length (piece_bytes x)) xs ys are.1)

-- the length of pieces after others
pub long : (xs ys : List EntryPiece) → length (written (xs ++ ys)) ≡ length (written xs) + length (written ys)
long xs ys = ap length (flat_map-append piece_bytes xs ys) ∙ length-append (written xs) (written ys)

positive_some : (bytes : List ℕ) → IsPositive bytes → 1 ≤ length bytes
positive_some [] is = absurd is
positive_some (b ∷ bytes) is = omega arith

number_some : (bytes : List ℕ) → IsNumber bytes → 1 ≤ length bytes
number_some bytes (inl zero) = let one = ap length zero in omega (arith, one)
number_some bytes (inr is) = positive_some bytes is

name_some : (bytes : List ℕ) → IsName bytes → 1 ≤ length bytes
name_some [] is = absurd is
name_some (b ∷ bytes) is = omega arith

-- ---- arguments

arg_lie : (place : ℕ) (a : WrittenArg) → ArePlaced place (arg_pieces a) → Lie place (place + length (written (arg_pieces a))) (arg_flaws a)
arg_lie place (Number n) are =
    let at = are.0.1 in
    let some = number_some n.bytes are.0.0 in
    let sum : length (written (number n ∷ [])) ≡ length n.bytes + 0 = length-append n.bytes [] in
    lie_if place (place + length (written (number n ∷ []))) n.at _ Limit (omega (arith, at)) (omega (arith, at, some, sum))
arg_lie place (Text t) are =
    let at : t.at ≡ place + 1 = are.1.0.1 in
    lie_if place _ (t.at - 1) _ Limit (omega (arith, at)) (omega (arith, at))

next_args_lie : (place : ℕ) (args : List WrittenArg) → ArePlaced place (flat_map next_arg_pieces args) → Lie place (place + length (written (flat_map next_arg_pieces args))) (flat_map arg_flaws args)
next_args_lie place [] are = lie_none place (place + 0) (omega arith)
next_args_lie place (a ∷ args) are =
    let later = flat_map next_arg_pieces args in
    let own = arg_lie (place + 2) a (placed_front (place + 2) (arg_pieces a) later are.1) in
    let rest = next_args_lie (place + 2 + length (written (arg_pieces a))) args (placed_back (place + 2) (arg_pieces a) later are.1) in
    let sum = long (arg_pieces a) later in
    let two : length (written (next_arg_pieces a ++ later)) ≡ suc (suc (length (written (arg_pieces a ++ later)))) = refl in
    lie_wider (place + 2) (place + 2 + length (written (arg_pieces a)) + length (written later)) place (place + length (written (next_arg_pieces a ++ later))) (arg_flaws a ++ flat_map arg_flaws args)
    (omega arith) (omega (arith, sum, two)) (lie_more (place + 2) (place + 2 + length (written (arg_pieces a))) _ (arg_flaws a) (flat_map arg_flaws args) own rest)

args_lie : (place : ℕ) (args : List WrittenArg) → ArePlaced place (args_pieces args) → Lie place (place + length (written (args_pieces args))) (flat_map arg_flaws args)
args_lie place [] are = lie_none place (place + 0) (omega arith)
args_lie place (a ∷ args) are =
    let later = flat_map next_arg_pieces args in
    let own = arg_lie place a (placed_front place (arg_pieces a) later are) in
    let rest = next_args_lie (place + length (written (arg_pieces a))) args (placed_back place (arg_pieces a) later are) in
    let sum = long (arg_pieces a) later in
    lie_wider place (place + length (written (arg_pieces a)) + length (written later)) place (place + length (written (arg_pieces a ++ later))) (arg_flaws a ++ flat_map arg_flaws args)
    (omega arith) (omega (arith, sum)) (lie_more place (place + length (written (arg_pieces a))) _ (arg_flaws a) (flat_map arg_flaws args) own rest)

-- ---- answers

desc_lie : (place : ℕ) (desc : Option Spelling) → ArePlaced place (desc_pieces desc) → Lie place (place + length (written (desc_pieces desc))) (optional_flaws word_flaws desc)
desc_lie place None are = lie_none place (place + 0) (omega arith)
desc_lie place (Some d) are =
    let at : d.at ≡ place + 2 = are.1.0.1 in
    let some = positive_some d.bytes are.1.0.0 in
    let sum : length (d.bytes ++ []) ≡ length d.bytes + 0 = length-append d.bytes [] in
    let two : length (written (desc_pieces (Some d))) ≡ suc (suc (length (d.bytes ++ []))) = refl in
    lie_if place (place + length (written (desc_pieces (Some d)))) d.at _ Limit (omega (arith, at)) (omega (arith, at, some, sum, two))

words_lie : (place : ℕ) (words : List Spelling) → ArePlaced place (flat_map word_pieces words) → Lie place (place + length (written (flat_map word_pieces words))) (flat_map word_flaws words)
words_lie place [] are = lie_none place (place + 0) (omega arith)
words_lie place (w ∷ words) are =
    let at : w.at ≡ place + 1 = are.1.0.1 in
    let some = number_some w.bytes are.1.0.0 in
    let rest = words_lie (place + 1 + length w.bytes) words are.1.1 in
    let sum : length (w.bytes ++ written (flat_map word_pieces words)) ≡ length w.bytes + length (written (flat_map word_pieces words)) = length-append w.bytes (written (flat_map word_pieces words)) in
    let one : length (written (flat_map word_pieces (w ∷ words))) ≡ suc (length (w.bytes ++ written (flat_map word_pieces words))) = refl in
    lie_wider place (place + 1 + length w.bytes + length (written (flat_map word_pieces words))) place (place + length (written (flat_map word_pieces (w ∷ words)))) (word_flaws w ++ flat_map word_flaws words)
    (omega arith) (omega (arith, sum, one))
    (lie_more place (place + 1 + length w.bytes) _ (word_flaws w) (flat_map word_flaws words) (lie_if place (place + 1 + length w.bytes) w.at _ Limit (omega (arith, at)) (omega (arith, at, some))) rest)

bytes_lie : (place : ℕ) (bytes : Option Spelling) → ArePlaced place (bytes_pieces bytes) → Lie place (place + length (written (bytes_pieces bytes))) (optional_flaws text_flaws bytes)
bytes_lie place None are = lie_none place (place + 0) (omega arith)
bytes_lie place (Some t) are =
    let at : t.at ≡ place + 1 + 1 = are.1.1.0.1 in
    let two : length (written (bytes_pieces (Some t))) ≡ suc (suc (length (t.bytes ++ 0x22 ∷ []))) = refl in
    lie_if place (place + length (written (bytes_pieces (Some t)))) (t.at - 1) _ Limit (omega (arith, at)) (omega (arith, at, two))

answer_lie : (place : ℕ) (answer : WrittenAnswer) → ArePlaced place (answer_pieces answer) → Lie place (place + length (written (answer_pieces answer))) (answer_flaws answer)
answer_lie place (Refused code) are = lie_none place _ (omega arith)
answer_lie place (good desc words bytes) are =
    let d = desc_pieces desc in
    let w = flat_map word_pieces words in
    let b = bytes_pieces bytes in
    let front = placed_front (place + 2) (d ++ w) b are.1 in
    let own = desc_lie (place + 2) desc (placed_front (place + 2) d w front) in
    let all = words_lie (place + 2 + length (written d)) words (placed_back (place + 2) d w front) in
    let last = bytes_lie (place + 2 + length (written (d ++ w))) bytes (placed_back (place + 2) (d ++ w) b are.1) in
    let dw = long d w in
    let dwb = long (d ++ w) b in
    let two : length (written (answer_pieces (good desc words bytes))) ≡ suc (suc (length (written (d ++ w ++ b)))) = refl in
    lie_wider (place + 2) (place + 2 + length (written (d ++ w)) + length (written b)) place (place + length (written (answer_pieces (good desc words bytes))))
    (optional_flaws word_flaws desc ++ flat_map word_flaws words ++ optional_flaws text_flaws bytes) (omega arith) (omega (arith, dwb, two))
    (lie_more (place + 2) (place + 2 + length (written (d ++ w))) _ (optional_flaws word_flaws desc ++ flat_map word_flaws words) (optional_flaws text_flaws bytes)
    (lie_wider (place + 2) (place + 2 + length (written d) + length (written w)) (place + 2) (place + 2 + length (written (d ++ w))) (optional_flaws word_flaws desc ++ flat_map word_flaws words) (omega arith) (omega (arith, dw))
    (lie_more (place + 2) (place + 2 + length (written d)) _ (optional_flaws word_flaws desc) (flat_map word_flaws words) own all)) last)

-- ---- entries

-- what is wrong at the name
name_lie : (i : Declared) (e : WrittenEntry) (from to : ℕ) (fun : Option ℕ) (b : Bool) → from ≤ e.name.at → e.name.at < to → Lie from to (fun_flaws i e fun ++ flaw_if b Limit e.name.at)
name_lie i e from to None true first last = record { onward = omega (arith, first, last); between = ((first, last), ((first, last), tt)); sorted = ((inr (refl, omega arith), tt), (tt, tt)) }
name_lie i e from to None false first last = record { onward = omega (arith, first, last); between = ((first, last), tt); sorted = (tt, tt) }
name_lie i e from to (Some fun) b first last = by _
  where
    two : (c b : Bool) → Lie from to (flaw_if c BadArgs e.name.at ++ flaw_if b Limit e.name.at)
    two true true = record { onward = omega (arith, first, last); between = ((first, last), ((first, last), tt)); sorted = ((inr (refl, omega arith), tt), (tt, tt)) }
    two true false = record { onward = omega (arith, first, last); between = ((first, last), tt); sorted = (tt, tt) }
    two false b = lie_if from to e.name.at b Limit first last

    by : (c : Bool) → Lie from to (flaw_if c BadArgs e.name.at ++ flaw_if b Limit e.name.at)
    by c = two c b

-- the flaws of an entry, within its line
pub entry_lie : (shows : List ℕ → Bool) (i : Declared) (nth : ℕ) (line : List ℕ) (e : WrittenEntry) → IsEntry shows line e → Lie 0 (length line + 1) (entry_flaws i nth e)
entry_lie shows i nth line e is =
    let are = is.0.0 in
    let own = client_flaws e.client in
    let seqs = number_flaws 32 e.seq in
    let funs = fun_flaws i e (declared_fun i e.name.bytes) in
    let many = flaw_if (nth == too_many_entries) Limit e.name.at in
    let inner = flat_map arg_flaws e.args in
    let last = answer_flaws e.answer in
    let c = e.client.bytes in
    let q = e.seq.bytes in
    let n = e.name.bytes in
    let args = args_pieces e.args in
    let tail = fixed (codes ")") ∷ fixed (codes " = ") ∷ answer_pieces e.answer in
    let client_at : e.client.at ≡ 1 = are.1.0.1 in
    let client_some = number_some c are.1.0.0 in
    let seq_at : e.seq.at ≡ 1 + length c + 1 = are.1.1.1.0.1 in
    let seq_some = number_some q are.1.1.1.0.0 in
    let name_at : e.name.at ≡ 1 + length c + 1 + length q + 1 = are.1.1.1.1.1.0.1 in
    let name_is = name_some n are.1.1.1.1.1.0.0 in
    let place = 1 + length c + 1 + length q + 1 + length n + 1 in
    let rest : ArePlaced place (args ++ tail) = are.1.1.1.1.1.1.1 in
    let args_lies = args_lie place e.args (placed_front place args tail rest) in
    let answer_lies = answer_lie (place + length (written args) + 1 + 3) e.answer (placed_back place args tail rest).1.1 in
    let sum = long args tail in
    let ends : length (written tail) ≡ suc (suc (suc (suc (length (written (answer_pieces e.answer)))))) = refl in
    let after_name = length-append n (codes "(" ++ written (args ++ tail)) in
    let after_seq = length-append q (codes " " ++ (n ++ (codes "(" ++ written (args ++ tail)))) in
    let after_client = length-append c (codes "." ++ (q ++ (codes " " ++ (n ++ (codes "(" ++ written (args ++ tail)))))) in
    let whole : length line ≡ suc (length (c ++ (codes "." ++ (q ++ (codes " " ++ (n ++ (codes "(" ++ written (args ++ tail)))))))) = ap length is.1 in
    let one : length (codes "." ++ (q ++ (codes " " ++ (n ++ (codes "(" ++ written (args ++ tail)))))) ≡ suc (length (q ++ (codes " " ++ (n ++ (codes "(" ++ written (args ++ tail)))))) = refl in
    let two : length (codes " " ++ (n ++ (codes "(" ++ written (args ++ tail)))) ≡ suc (length (n ++ (codes "(" ++ written (args ++ tail)))) = refl in
    let three : length (codes "(" ++ written (args ++ tail)) ≡ suc (length (written (args ++ tail))) = refl in
    let total : length line ≡ place + length (written args) + 1 + 3 + length (written (answer_pieces e.answer)) = omega (arith, whole, after_client, one, after_seq, two, after_name, three, sum, ends) in
    let first = lie_more 0 (1 + length c) (1 + length c + 1 + length q) own seqs (lie_if 0 (1 + length c) e.client.at _ BadClient (omega (arith, client_at)) (omega (arith, client_at, client_some)))
    (lie_if (1 + length c) (1 + length c + 1 + length q) e.seq.at _ Limit (omega (arith, seq_at)) (omega (arith, seq_at, seq_some))) in
    let named = name_lie i e (1 + length c + 1 + length q) place (declared_fun i e.name.bytes) (nth == too_many_entries) (omega (arith, name_at)) (omega (arith, name_at, name_is)) in
    let call : Lie 0 place (own ++ seqs ++ funs ++ many) = subst (Lie 0 place) (sym (append_assoc (own ++ seqs) funs many)) (lie_more 0 (1 + length c + 1 + length q) place (own ++ seqs) (funs ++ many) first named) in
    let brackets = lie_more 0 place (place + length (written args)) (own ++ seqs ++ funs ++ many) inner call args_lies in
    lie_more 0 (place + length (written args)) (length line + 1) (own ++ seqs ++ funs ++ many ++ inner) last brackets
    (lie_wider (place + length (written args) + 1 + 3) (place + length (written args) + 1 + 3 + length (written (answer_pieces e.answer))) (place + length (written args)) (length line + 1) last
    (omega arith) (omega (arith, total)) answer_lies)

-- ---- lines

shifted : (l : Spelling) (from to : ℕ) (flaws : List Flaw) → Each (IsBetween from to) flaws → Each (IsBetween (l.at + from) (l.at + to)) (map (in_line l) flaws)
shifted l from to [] are = tt
shifted l from to (f ∷ flaws) are = ((let a = are.0.0 in omega (arith, a), let b = are.0.1 in omega (arith, b)), shifted l from to flaws are.1)

after_shifted : (l : Spelling) (f : Flaw) (flaws : List Flaw) → Each (IsNotAfter f) flaws → Each (IsNotAfter (in_line l f)) (map (in_line l) flaws)
after_shifted l f [] are = tt
after_shifted l f (g ∷ flaws) are = (one are.0, after_shifted l f flaws are.1)
  where
    one : IsNotAfter f g → IsNotAfter (in_line l f) (in_line l g)
    one (inl lt) = inl (omega (arith, lt))
    one (inr same) = inr (ap (λ n. l.at + n) same.0, same.1)

sorted_shifted : (l : Spelling) (flaws : List Flaw) → IsSorted flaws → IsSorted (map (in_line l) flaws)
sorted_shifted l [] s = tt
sorted_shifted l (f ∷ flaws) s = (after_shifted l f flaws s.0, sorted_shifted l flaws s.1)

lie_shifted : (l : Spelling) (from to : ℕ) (flaws : List Flaw) → Lie from to flaws → Lie (l.at + from) (l.at + to) (map (in_line l) flaws)
lie_shifted l from to flaws lie = record {
  onward = (let le = lie.onward in omega (arith, le));
  between = shifted l from to flaws lie.between;
  sorted = sorted_shifted l flaws lie.sorted;
}

-- lines stand one after the other from a place on
abbrev AreAfter : ℕ → List Spelling → Type 0
AreAfter from [] = Unit {0}
AreAfter from (l ∷ lines) = (from ≤ l.at) × AreAfter (l.at + length l.bytes + 1) lines

-- where they end
abbrev end_of : ℕ → List Spelling → ℕ
end_of from [] = from
end_of from (l ∷ lines) = end_of (l.at + length l.bytes + 1) lines

flaws_lie : (shows : List ℕ → Bool) (i : Declared) (nth from : ℕ) (lines : List Spelling) (entries : List WrittenEntry) → AreAfter from lines → AreEntries shows lines entries → Lie from (end_of from lines) (flaws_from i nth lines entries)
flaws_lie shows i nth from [] [] after are = lie_none from from (omega arith)
flaws_lie shows i nth from [] (e ∷ entries) after are = absurd are
flaws_lie shows i nth from (l ∷ lines) [] after are = absurd are
flaws_lie shows i nth from (l ∷ lines) (e ∷ entries) after are =
    let own = lie_shifted l 0 (length l.bytes + 1) (entry_flaws i nth e) (entry_lie shows i nth l.bytes e are.0) in
    let first = after.0 in
    lie_more from (l.at + length l.bytes + 1) (end_of (l.at + length l.bytes + 1) lines) (map (in_line l) (entry_flaws i nth e)) (flaws_from i (nth + 1) lines entries)
    (lie_wider (l.at + 0) (l.at + (length l.bytes + 1)) from (l.at + length l.bytes + 1) (map (in_line l) (entry_flaws i nth e)) (omega (arith, first)) (omega arith) own)
    (flaws_lie shows i (nth + 1) (l.at + length l.bytes + 1) lines entries after.1 are.1)

placed_after : (at : ℕ) (parts : List (List ℕ)) → AreAfter at (placed at parts)
placed_after at [] = tt
placed_after at (part ∷ parts) = (omega arith, placed_after (at + length part + 1) parts)

after_sooner : (from sooner : ℕ) (lines : List Spelling) → sooner ≤ from → AreAfter from lines → AreAfter sooner lines
after_sooner from sooner [] le after = tt
after_sooner from sooner (l ∷ lines) le after = (let first = after.0 in omega (arith, first, le), after.1)

front_after : (from : ℕ) (lines : List Spelling) → AreAfter from lines → AreAfter from (front_lines lines)
front_after from [] after = tt
front_after from (l ∷ lines) after = by (begins_entry l.bytes) (front_after (l.at + length l.bytes + 1) lines after.1)
  where
    by : (b : Bool) → AreAfter (l.at + length l.bytes + 1) (front_lines lines) → AreAfter from (cond b (l ∷ front_lines lines) [])
    by true later = (after.0, later)
    by false later = tt

entry_lines_after : (from : ℕ) (lines : List Spelling) → AreAfter from lines → AreAfter from (entry_lines lines)
entry_lines_after from [] after = tt
entry_lines_after from (l ∷ lines) after = by (begins_entry l.bytes) (entry_lines_after (l.at + length l.bytes + 1) lines after.1)
  where
    by : (b : Bool) → AreAfter (l.at + length l.bytes + 1) (entry_lines lines) → AreAfter from (cond b (l ∷ front_lines lines) (entry_lines lines))
    by true later = (after.0, front_after (l.at + length l.bytes + 1) lines after.1)
    by false later = let first = after.0 in after_sooner (l.at + length l.bytes + 1) from (entry_lines lines) (omega (arith, first)) later

-- the first flaw of a text comes before all others
pub first_before : (shows : List ℕ → Bool) (i : Declared) (bytes : List ℕ) (entries : List WrittenEntry) (f : Flaw) → AreEntries shows (entry_lines_of bytes) entries → IsFirst (flaws_from i 1 (entry_lines_of bytes) entries) f
    → Each (IsNotAfter f) (flaws_from i 1 (entry_lines_of bytes) entries)
first_before shows i bytes entries f are first =
    let lines = entry_lines_of bytes in
    let after = entry_lines_after 0 (lines_from 0 bytes) (placed_after 0 (slice_split (λ b. b == line_feed) bytes)) in
    let lie = flaws_lie shows i 1 0 lines entries after are in
    let sorted : IsSorted (f ∷ first.others) = subst IsSorted first.is lie.sorted in
    let all : Each (IsNotAfter f) (f ∷ first.others) = (inr (refl, omega arith), sorted.0) in
    subst (Each (IsNotAfter f)) (sym first.is) all
