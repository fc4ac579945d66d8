-- What an entry without a flaw stands for may be made.
use Rattle.std.proofs.Common.{◌≡◌, ◌⊎◌, inl, inr, ℕ, zero, suc, ◌+◌, ◌-◌, ◌^◌, ◌<◌, ◌≤◌, Bool, true, false, cond, not, List, [], ◌∷◌, ◌++◌, None, Some, Ok, Err, IfOk, length, get_or, map, refl, sym, ◌∙◌, ap, subst, arith}
use Rattle.std.specs.Prelude.{◌==◌, ◌&&◌, ◌||◌, nat_le, unwrap_or}
use Rattle.std.specs.Str.{bytes_eq}
use Rattle.std.specs.List.{flat_map}
use Rattle.std.specs.declared.option.Option.{Option}
use Rattle.std.specs.declared.result.Result.{Result}
use Rattle.std.proofs.lemmas.Bool.Decides.{nat_tests}
use Rattle.std.proofs.lemmas.Option.{unwrap_or-slice_get}
use Rattle.std.proofs.lemmas.Slice.Eq.{bytes_eq-Decides}
use Rattle.sg_entries.proofs.Halves.{not_too_many, unmapped}
use Rattle.sg_entries.specs.Flaws.{entry_flaws, flaw_if, flaws_from, number_flaws, values_fit}
use Rattle.sg_entries.specs.Inside.Flaws.{answer_flaws, arg_flaws, client_flaws, fun_flaws, in_line, too_many_entries}
use Rattle.sg_entries.specs.Lines.{entry_lines_of}
use Rattle.sg_entries.specs.Reads.{AreEntries, IsReadOf, entries_read}
use Rattle.sg_entries.specs.Inside.Parsing.{IsHistory}
use Rattle.sg_entries.specs.Standing.{args_in, entry_of, id_in, number_of, value_of}
use Rattle.sg_entries.specs.Inside.Standing.{fun_of}
use Rattle.sg_entries.specs.declared.error.EntriesError.{EntriesError}
use Rattle.sg_entries.specs.declared.error.EntriesKind.{EntriesKind}
use Rattle.sg_entries.specs.declared.error.EntriesKind.TheVariants.{BadArgs, BadClient, Limit}
use Rattle.sg_entries.specs.Parses.{EntryParses}
use Rattle.sg_entries.specs.sg_lex.Lexeme.{Spelling}
use Rattle.sg_entries.specs.declared.tree.WrittenArg.{WrittenArg}
use Rattle.sg_entries.specs.declared.tree.WrittenArg.TheVariants.{Number, Text as text}
use Rattle.sg_entries.specs.declared.tree.WrittenEntry.{WrittenEntry}
use Rattle.sg_facts.specs.Facts.{Fun, fun_at, no_fun, takes_desc, takes_parent}
use Rattle.sg_facts.specs.Interface.{Declared, declares}
use Rattle.sg_facts.specs.Kinds.{AreWords, kinds_fit}
use Rattle.sg_facts.specs.Limits.{last_client, most_script_calls}
use Rattle.sg_facts.specs.declared.entry.Entry.{Entry}
use Rattle.sg_facts.specs.declared.shape.Kind.{Kind}
use Rattle.sg_facts.specs.sg_base.Lists.{Each}
use Rattle.sg_facts.specs.sg_base.Room.{Roomy}
use Rattle.sg_facts.specs.sg_base.declared.value.Value.{Value}
use Rattle.sg_facts.specs.sg_base.declared.value.Value.TheVariants.{Word, Text}
use Rattle.sg_report.specs.Report.{takes_id}
use Rattle.sg_script.specs.Numbers.{is_known_client}
use Rattle.sg_script.specs.Scripts.{declared_from, declared_fun}
use Rattle.sg_report.specs.sg_hist.Clients.{MayBeMade}

-- ---- lists without elements

pub front_none : {A : Type 0} (xs ys : List A) → xs ++ ys ≡ [] → xs ≡ []
front_none [] ys e = refl
front_none (x ∷ xs) ys e = absurd cc

pub back_none : {A : Type 0} (xs ys : List A) → xs ++ ys ≡ [] → ys ≡ []
back_none [] ys e = e
back_none (x ∷ xs) ys e = absurd cc

pub not_flawed : (b : Bool) (kind : EntriesKind) (at : ℕ) → flaw_if b kind at ≡ [] → b ≡ false
not_flawed true kind at e = absurd cc
not_flawed false kind at e = refl

pub is_true : (b : Bool) → not b ≡ false → b ≡ true
is_true true e = refl
is_true false e = absurd cc

-- a number without a flaw is one of so many bits
pub fits_bits : (bits : ℕ) (n : Spelling) → number_flaws bits n ≡ [] → number_of n < 2 ^ bits
fits_bits bits n none = let no = not_flawed (nat_le (2 ^ bits) (number_of n)) Limit n.at none in grind (arith, nat_tests, no)

-- ---- the parts of an entry without a flaw

pub record IsFlawless (i : Declared) (e : WrittenEntry) : Type 0 where
  pub client : is_known_client (number_of e.client) ≡ true
  pub seq : number_of e.seq < 2 ^ 32
  pub fun : fun_flaws i e (declared_fun i e.name.bytes) ≡ []
  pub args : flat_map arg_flaws e.args ≡ []
  pub answer : answer_flaws e.answer ≡ []

pub flawless_parts : (i : Declared) (nth : ℕ) (e : WrittenEntry) → entry_flaws i nth e ≡ [] → IsFlawless i e
flawless_parts i nth e none =
    let own = client_flaws e.client in
    let seqs = number_flaws 32 e.seq in
    let funs = fun_flaws i e (declared_fun i e.name.bytes) in
    let many = flaw_if (nth == too_many_entries) Limit e.name.at in
    let inner = flat_map arg_flaws e.args in
    let last = answer_flaws e.answer in
    let to_args = front_none (own ++ seqs ++ funs ++ many ++ inner) last none in
    let to_funs = front_none (own ++ seqs ++ funs) many (front_none (own ++ seqs ++ funs ++ many) inner to_args) in
    let to_seqs = front_none (own ++ seqs) funs to_funs in
    record {
      client = is_true _ (not_flawed _ BadClient e.client.at (front_none own seqs to_seqs));
      seq = fits_bits 32 e.seq (back_none own seqs to_seqs);
      fun = back_none (own ++ seqs) funs to_funs;
      args = back_none (own ++ seqs ++ funs ++ many) inner to_args;
      answer = back_none (own ++ seqs ++ funs ++ many ++ inner) last none;
    }

-- ---- a function by its name

right : (a b : Bool) → a && b ≡ true → b ≡ true
right true b e = e
right false b e = absurd cc

left : (a b : Bool) → a && b ≡ true → a ≡ true
left true b e = refl
left false b e = absurd cc

pick : (b : Bool) (n f : ℕ) (rest : Option ℕ) → cond b (Some n) rest ≡ Some f → ((b ≡ true) × (n ≡ f)) ⊎ (rest ≡ Some f)
pick true n f rest e = inl (refl, let g : n ≡ f = cc in g)
pick false n f rest e = inr e

-- a function that is found by its name is one of the service's, declared, and of that name
pub record IsFound (i : Declared) (name : List ℕ) (n : ℕ) (funs : List Fun) (f : ℕ) : Type 0 where
  pub first : n ≤ f
  pub last : f < n + length funs
  pub declared : declares i f ≡ true
  pub called : (get_or funs (f - n) no_fun).name ≡ name

found : (i : Declared) (name : List ℕ) (n : ℕ) (funs : List Fun) (f : ℕ) → declared_from i name n funs ≡ Some f → IsFound i name n funs f
found i name n [] f e = absurd cc
found i name n (g ∷ funs) f e = by (pick (bytes_eq g.name name && declares i n) n f (declared_from i name (n + 1) funs) e) (found i name (n + 1) funs f)
  where
    by : ((bytes_eq g.name name && declares i n ≡ true) × (n ≡ f)) ⊎ (declared_from i name (n + 1) funs ≡ Some f) → (declared_from i name (n + 1) funs ≡ Some f → IsFound i name (n + 1) funs f)
        → IsFound i name n (g ∷ funs) f
    by (inl (is, same)) later = record {
      first = omega (arith, same);
      last = (let more : length (g ∷ funs) ≡ suc (length funs) = refl in omega (arith, same, more));
      declared = subst (λ v. declares i v ≡ true) same (right (bytes_eq g.name name) (declares i n) is);
      called = (
          let none : f - n ≡ 0 = omega (arith, same) in
          ap (λ k. (get_or (g ∷ funs) k no_fun).name) none ∙ (bytes_eq-Decides g.name name).0 (left (bytes_eq g.name name) (declares i n) is));
    }
    by (inr more) later =
        let l = later more in
        let first = l.first in
        let last = l.last in
        record {
          first = omega (arith, first);
          last = (let longer : length (g ∷ funs) ≡ suc (length funs) = refl in omega (arith, last, longer));
          declared = l.declared;
          called = (
              let next : f - n ≡ suc (f - (n + 1)) = omega (arith, first) in
              ap (λ k. (get_or (g ∷ funs) k no_fun).name) next ∙ l.called);
        }

-- the function of a number from 1
fun_get : (funs : List Fun) (f : ℕ) → 1 ≤ f → get_or funs (f - 1) no_fun ≡ fun_at funs f
fun_get funs zero first = absurd (omega (arith, first))
fun_get funs (suc n) first =
    let same : suc n - 1 ≡ n = omega arith in
    ap (λ k. get_or funs k no_fun) same ∙ sym (unwrap_or-slice_get funs n no_fun)

-- ---- the call

-- the function of an entry without a flaw
pub record HasFun (i : Declared) (e : WrittenEntry) : Type 0 where
  pub first : 1 ≤ fun_of i e
  pub last : fun_of i e ≤ length i.facts.funs
  pub declared : declares i (fun_of i e) ≡ true
  pub is : declared_fun i e.name.bytes ≡ Some (fun_of i e)
  pub called : (fun_at i.facts.funs (fun_of i e)).name ≡ e.name.bytes
  pub fits : values_fit (takes_id i.facts (fun_of i e)) (fun_at i.facts.funs (fun_of i e)).kinds (map value_of e.args) ≡ true

pub has_fun : (i : Declared) (e : WrittenEntry) → fun_flaws i e (declared_fun i e.name.bytes) ≡ [] → HasFun i e
has_fun i e none = at (declared_fun i e.name.bytes) refl none
  where
    at : (f : Option ℕ) → declared_fun i e.name.bytes ≡ f → fun_flaws i e f ≡ [] → HasFun i e
    at None is none = absurd cc
    at (Some f) is none =
        let own : fun_of i e ≡ f = ap (λ v. unwrap_or v 0) is in
        let l = found i e.name.bytes 1 i.facts.funs f is in
        let first = l.first in
        let last = l.last in
        record {
          first = omega (arith, own, first);
          last = omega (arith, own, last);
          declared = subst (λ v. declares i v ≡ true) (sym own) l.declared;
          is = is ∙ ap Some (sym own);
          called = ap (λ v. (fun_at i.facts.funs v).name) own ∙ ap (λ g. g.name) (sym (fun_get i.facts.funs f first)) ∙ l.called;
          fits = subst (λ v. values_fit (takes_id i.facts v) (fun_at i.facts.funs v).kinds (map value_of e.args) ≡ true) (sym own) (is_true _ (not_flawed _ BadArgs e.name.at none));
        }

pub args_words : (args : List WrittenArg) → flat_map arg_flaws args ≡ [] → AreWords (map value_of args)
args_words [] none = tt
args_words (Number n ∷ args) none = (fits_bits 64 n (front_none (number_flaws 64 n) (flat_map arg_flaws args) none), args_words args (back_none (number_flaws 64 n) (flat_map arg_flaws args) none))
args_words (text t ∷ args) none = args_words args (back_none (arg_flaws (text t)) (flat_map arg_flaws args) none)

rest_words : (takes : Bool) (values : List Value) → AreWords values → AreWords (args_in takes values)
rest_words false values are = are
rest_words true [] are = are
rest_words true (Word n ∷ values) are = are.1
rest_words true (Text t ∷ values) are = are

rest_fits : (takes : Bool) (kinds : List Kind) (values : List Value) → values_fit takes kinds values ≡ true → kinds_fit kinds (args_in takes values) ≡ true
rest_fits false kinds values fits = fits
rest_fits true kinds [] fits = absurd cc
rest_fits true kinds (Word n ∷ values) fits = fits
rest_fits true kinds (Text t ∷ values) fits = absurd cc

no_id : (desc parent : Bool) (values : List Value) → desc ≡ false → parent ≡ false → id_in (desc || parent) values ≡ 0
no_id false false values d p = refl
no_id true parent values d p = absurd cc
no_id false true values d p = absurd cc

-- the call of an entry without a flaw may be made
pub made_of : (i : Declared) (e : WrittenEntry) → IsFlawless i e → MayBeMade i (entry_of i e).call
made_of i e f =
    let has = has_fun i e f.fun in
    let fun = fun_of i e in
    let client = f.client in
    record {
      is_clients = record {
        is_call = record {
          first = has.first;
          last = has.last;
          fits = record {
            args = rest_fits (takes_id i.facts fun) (fun_at i.facts.funs fun).kinds (map value_of e.args) has.fits;
            desc = no_id (takes_desc (fun_at i.facts.funs fun)) (takes_parent (fun_at i.facts.funs fun)) (map value_of e.args);
          };
        };
        words = rest_words (takes_id i.facts fun) (map value_of e.args) (args_words e.args f.args);
        client_first = grind (arith, nat_tests, left (nat_le 1 (number_of e.client)) (nat_le (number_of e.client) last_client) client);
        client_last = grind (arith, nat_tests, right (nat_le 1 (number_of e.client)) (nat_le (number_of e.client) last_client) client);
      };
      declared = has.declared;
    }

-- ---- the history

-- a fact of each entry without a flaw holds of each entry of a history
pub each_entry : (shows : List ℕ → Bool) (i : Declared) (P : Entry → Type 0) → ((line : List ℕ) (e : WrittenEntry) → EntryParses shows line (Ok e) → IsFlawless i e → P (entry_of i e)) → (nth : ℕ) (lines : List Spelling) (entries : List WrittenEntry)
    → AreEntries shows lines entries → flaws_from i nth lines entries ≡ [] → Each P (map (entry_of i) entries)
each_entry shows i P holds nth [] [] are none = tt
each_entry shows i P holds nth [] (e ∷ entries) are none = absurd are
each_entry shows i P holds nth (l ∷ lines) [] are none = absurd are
each_entry shows i P holds nth (l ∷ lines) (e ∷ entries) are none =
    let own : entry_flaws i nth e ≡ [] = unmapped (in_line l) (entry_flaws i nth e) (front_none (map (in_line l) (entry_flaws i nth e)) (flaws_from i (nth + 1) lines entries) none) in
    let later = back_none (map (in_line l) (entry_flaws i nth e)) (flaws_from i (nth + 1) lines entries) none in
    (holds l.bytes e are.0 (flawless_parts i nth e own), each_entry shows i P holds (nth + 1) lines entries are.1 later)

pub calls_made : (shows : List ℕ → Bool) (i : Declared) (bytes : List ℕ) (history : List Entry) → IsHistory shows i bytes history → Each (λ e. MayBeMade i e.call) history
calls_made shows i bytes history is =
    subst (Each (λ e. MayBeMade i e.call)) (sym is.3)
    (each_entry shows i (λ e. MayBeMade i e.call) (λ line e parses f. made_of i e f) 1 (entry_lines_of bytes) is.0 is.1 is.2)

-- ---- how many there are

too_many : (nth : ℕ) → nth == too_many_entries ≡ false → nth ≤ too_many_entries → nth + 1 ≤ too_many_entries
too_many nth e le = grind (arith, nat_tests, e, le)

few_from : (shows : List ℕ → Bool) (i : Declared) (nth : ℕ) (lines : List Spelling) (entries : List WrittenEntry) → AreEntries shows lines entries → flaws_from i nth lines entries ≡ [] → nth ≤ too_many_entries
    → nth + length (map (entry_of i) entries) ≤ too_many_entries
few_from shows i nth [] [] are none le = omega (arith, le)
few_from shows i nth [] (e ∷ entries) are none le = absurd are
few_from shows i nth (l ∷ lines) [] are none le = absurd are
few_from shows i nth (l ∷ lines) (e ∷ entries) are none le =
    let own : entry_flaws i nth e ≡ [] = unmapped (in_line l) (entry_flaws i nth e) (front_none (map (in_line l) (entry_flaws i nth e)) (flaws_from i (nth + 1) lines entries) none) in
    let later = back_none (map (in_line l) (entry_flaws i nth e)) (flaws_from i (nth + 1) lines entries) none in
    let more = too_many nth (not_too_many i nth e own) le in
    let rest : nth + 1 + length (map (entry_of i) entries) ≤ too_many_entries = few_from shows i (nth + 1) lines entries are.1 later more in
    omega (arith, rest)

pub entries_few : (shows : List ℕ → Bool) (i : Declared) (bytes : List ℕ) (history : List Entry) → IsHistory shows i bytes history → length history ≤ most_script_calls
entries_few shows i bytes history is =
    let many = few_from shows i 1 (entry_lines_of bytes) is.0 is.1 is.2 (omega arith) in
    let same = ap length is.3 in
    omega (arith, many, same)

-- a fact of each history that a text has holds of what is read
pub of_read : (shows : List ℕ → Bool) (i : Declared) (bytes : List ℕ) (P : List Entry → Type 0) → ((history : List Entry) → IsHistory shows i bytes history → P history) → (r : Result (Roomy Entry) EntriesError)
    → IsReadOf shows i bytes (entries_read r) → IfOk r (λ h. P h.items)
of_read shows i bytes P holds (Ok h) is = holds h.items is
of_read shows i bytes P holds (Err e) is = tt
