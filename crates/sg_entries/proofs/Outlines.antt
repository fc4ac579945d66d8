-- What is first wrong with an entry as its outline tells is what is first wrong with it.
use Rattle.std.proofs.Common.{◌≡◌, ℕ, ◌+◌, Bool, true, false, List, [], ◌∷◌, ◌++◌, None, Some, length, map, Ok, Err, inl, inr, refl, sym, ◌∙◌, ap, subst, arith}
use Rattle.std.specs.Prelude.{◌==◌, cond, not}
use Rattle.std.specs.declared.option.Option.{Option}
use Rattle.std.specs.List.{count_by, flat_map}
use Rattle.std.proofs.lemmas.Bool.{cases_Bool, eqb-false}
use Rattle.std.proofs.lemmas.List.{length-map}
use Rattle.std.proofs.lemmas.List.Recursion.{is_count_by}
use Rattle.sg_entries.proofs.Halves.{IsReadUpTo, flawed}
use Rattle.sg_entries.specs.Flaws.{Flaw, entry_flaws, flaw_if, number_flaws, values_fit}
use Rattle.sg_entries.specs.Inside.Making.{IsFirst, IsMade}
use Rattle.sg_entries.specs.Inside.Flaws.{answer_flaws, arg_flaws, client_flaws, fun_flaws, in_line, too_many_entries}
use Rattle.sg_entries.specs.Inside.Outlines.{bracket_count, count_flaws, is_value, outline_flaws}
use Rattle.sg_entries.specs.Inside.Parsing.{HasEntries}
use Rattle.sg_entries.specs.Reads.{IsReadOf}
use Rattle.sg_entries.specs.Standing.{value_of}
use Rattle.sg_entries.specs.declared.error.EntriesError.{EntriesError}
use Rattle.sg_entries.specs.declared.error.EntriesError.TheVariants.{NoMemory, Fault}
use Rattle.sg_entries.specs.declared.error.EntriesKind.TheVariants.{BadArgs, Limit}
use Rattle.sg_entries.specs.Parses.{OutlineParses, outline_of}
use Rattle.sg_entries.specs.sg_lex.Lexeme.{Spelling}
use Rattle.sg_entries.specs.declared.tree.EntryOutline.{EntryOutline}
use Rattle.sg_entries.specs.declared.tree.WrittenEntry.{WrittenEntry}
use Rattle.sg_facts.specs.Allowed.{count_args}
use Rattle.sg_facts.specs.Facts.{fun_at}
use Rattle.sg_facts.specs.Interface.{Declared}
use Rattle.sg_facts.specs.Kinds.{kinds_fit}
use Rattle.sg_facts.specs.declared.entry.Entry.{Entry}
use Rattle.sg_facts.specs.declared.shape.Kind.{Kind}
use Rattle.sg_facts.specs.declared.shape.Kind.TheVariants.{Desc, Parent, Word as IsWord, Text as IsText}
use Rattle.sg_facts.specs.sg_base.declared.value.Value.{Value}
use Rattle.sg_facts.specs.sg_base.declared.value.Value.TheVariants.{Word, Text}
use Rattle.sg_report.specs.Report.{takes_id}
use Rattle.sg_script.specs.Scripts.{declared_fun}

-- ---- numbers of arguments

-- the parameters beside descriptor and parent
pub counted : (kinds : List Kind) → count_args kinds ≡ count_by is_value kinds
counted = is_count_by count_args is_value refl step
  where
    step : (kind : Kind) (kinds : List Kind) → count_args (kind ∷ kinds) ≡ cond (is_value kind) (1 + count_args kinds) (count_args kinds)
    step Desc kinds = refl
    step Parent kinds = refl
    step IsWord kinds = refl
    step IsText kinds = refl

-- values that fit are as many as the parameters beside descriptor and parent
kinds_many : (kinds : List Kind) (values : List Value) → kinds_fit kinds values ≡ true → length values ≡ count_args kinds
kinds_many [] [] fit = refl
kinds_many [] (v ∷ values) fit = absurd (let f : false ≡ true = fit in cc)
kinds_many (Desc ∷ kinds) values fit = kinds_many kinds values fit
kinds_many (Parent ∷ kinds) values fit = kinds_many kinds values fit
kinds_many (IsWord ∷ kinds) [] fit = absurd (let f : false ≡ true = fit in cc)
kinds_many (IsWord ∷ kinds) (Word n ∷ values) fit = let many = kinds_many kinds values fit in omega (arith, many)
kinds_many (IsWord ∷ kinds) (Text bytes ∷ values) fit = absurd (let f : false ≡ true = fit in cc)
kinds_many (IsText ∷ kinds) [] fit = absurd (let f : false ≡ true = fit in cc)
kinds_many (IsText ∷ kinds) (Word n ∷ values) fit = absurd (let f : false ≡ true = fit in cc)
kinds_many (IsText ∷ kinds) (Text bytes ∷ values) fit = let many = kinds_many kinds values fit in omega (arith, many)

values_many : (takes : Bool) (kinds : List Kind) (values : List Value) → values_fit takes kinds values ≡ true → length values ≡ bracket_count takes kinds
values_many false kinds values fit = let many = kinds_many kinds values fit in omega (arith, many)
values_many true kinds [] fit = absurd (let f : false ≡ true = fit in cc)
values_many true kinds (Text bytes ∷ values) fit = absurd (let f : false ≡ true = fit in cc)
values_many true kinds (Word n ∷ values) fit = let many = kinds_many kinds values fit in omega (arith, many)

-- more or fewer don't fit
unfit : (takes : Bool) (kinds : List Kind) (values : List Value) → length values == bracket_count takes kinds ≡ false → values_fit takes kinds values ≡ false
unfit takes kinds values other =
    elim (cases_Bool (values_fit takes kinds values)) as (λ x. values_fit takes kinds values ≡ false) [
      | inl fit ↦ absurd (eqb-false (length values) (bracket_count takes kinds) other (values_many takes kinds values fit))
      | inr fails ↦ fails
    ]

-- ---- the first flaw

count_first : (i : Declared) (e : WrittenEntry) (fun : Option ℕ) (f : Flaw) → IsFirst (count_flaws i (outline_of e) fun) f → IsFirst (fun_flaws i e fun) f
count_first i e None f first = first
count_first i e (Some fun) f first = by (length e.args == bracket_count takes kinds) refl first
  where
    takes : Bool
    takes = takes_id i.facts fun

    kinds : List Kind
    kinds = (fun_at i.facts.funs fun).kinds

    by : (same : Bool) → length e.args == bracket_count takes kinds ≡ same → IsFirst (flaw_if (not same) BadArgs e.name.at) f → IsFirst (fun_flaws i e (Some fun)) f
    by true is first = absurd (let none : [] ≡ f ∷ first.others = first.is in cc)
    by false is first =
        let other : length (map value_of e.args) == bracket_count takes kinds ≡ false = ap (λ n. n == bracket_count takes kinds) (length-map e.args value_of) ∙ is in
        subst (λ fits. IsFirst (flaw_if (not fits) BadArgs e.name.at) f) (sym (unfit takes kinds (map value_of e.args) other)) first

first_more : (xs ys : List Flaw) (f : Flaw) → IsFirst xs f → IsFirst (xs ++ ys) f
first_more xs ys f first = record { others = first.others ++ ys; is = ap (λ l. l ++ ys) first.is }

first_then : (xs ys zs : List Flaw) (f : Flaw) → (IsFirst ys f → IsFirst zs f) → IsFirst (xs ++ ys) f → IsFirst (xs ++ zs) f
first_then [] ys zs f go first = go first
first_then (x ∷ xs) ys zs f go first =
    let is : x ∷ (xs ++ ys) ≡ f ∷ first.others = first.is in
    let head : x ≡ f = cc is in
    record { others = xs ++ zs; is = ap (λ y. y ∷ (xs ++ zs)) head }

pub outline_first : (i : Declared) (nth : ℕ) (e : WrittenEntry) (f : Flaw) → IsFirst (outline_flaws i (outline_of e)) f → IsFirst (entry_flaws i nth e) f
outline_first i nth e f first =
    let fun = declared_fun i e.name.bytes in
    let front = client_flaws e.client ++ number_flaws 32 e.seq in
    let own = front ++ fun_flaws i e fun in
    let many = flaw_if (nth == too_many_entries) Limit e.name.at in
    let inner = flat_map arg_flaws e.args in
    first_more (own ++ many ++ inner) (answer_flaws e.answer) f
    (first_more (own ++ many) inner f
    (first_more own many f
    (first_then front (count_flaws i (outline_of e) fun) (fun_flaws i e fun) f (count_first i e fun f) first)))

-- ---- in a text

-- a first flaw, by its place in its line
record Unplaced (l : Spelling) (flaws : List Flaw) (f : Flaw) : Type 0 where
  flaw : Flaw
  first : IsFirst flaws flaw
  is : f ≡ in_line l flaw

unplaced : (l : Spelling) (flaws : List Flaw) (f : Flaw) → IsFirst (map (in_line l) flaws) f → Unplaced l flaws f
unplaced l [] f first = absurd (let none : [] ≡ f ∷ first.others = first.is in cc)
unplaced l (x ∷ xs) f first =
    let is : in_line l x ∷ map (in_line l) xs ≡ f ∷ first.others = first.is in
    let head : f ≡ in_line l x = cc is in
    record { flaw = x; first = record { others = xs; is = refl }; is = head }

placed_first : (i : Declared) (nth : ℕ) (l : Spelling) (e : WrittenEntry) (f : Flaw) → IsFirst (map (in_line l) (outline_flaws i (outline_of e))) f
    → IsFirst (map (in_line l) (entry_flaws i nth e)) f
placed_first i nth l e f first =
    let g = unplaced l (outline_flaws i (outline_of e)) f first in
    let whole = outline_first i nth e g.flaw g.first in
    subst (IsFirst (map (in_line l) (entry_flaws i nth e))) (sym g.is)
    (record { others = map (in_line l) whole.others; is = ap (map (in_line l)) whole.is })

-- the outline of the next entry has the first flaw, and so this is answered
pub stops_early : (shows : List ℕ → Bool) (i : Declared) (text : List ℕ) (l : Spelling) (left : List Spelling) (history : List Entry) (o : EntryOutline) (error : EntriesError) → IsReadUpTo shows i text (l ∷ left) history
    → OutlineParses shows l.bytes (Ok o) → HasEntries shows text → IsMade {A = Unit {0}} (map (in_line l) (outline_flaws i o)) tt (Err error) → IsReadOf shows i text (Err error)
stops_early shows i text l left history o NoMemory r parses all is = tt
stops_early shows i text l left history o (Fault kind at) r parses all is =
    let e = parses.0 in
    let first = subst (λ o. IsFirst (map (in_line l) (outline_flaws i o)) (record { kind = kind; at = at })) parses.2 is in
    inr (flawed shows i text l left history e r parses.1 kind at all (placed_first i (length history + 1) l e (record { kind = kind; at = at }) first))
