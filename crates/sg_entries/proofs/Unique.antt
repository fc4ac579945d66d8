-- A text has one answer, want of memory aside.
use Rattle.std.proofs.Common.{Bool, ◌≡◌, ◌≢◌, ◌⊎◌, inl, inr, ℕ, ◌+◌, List, [], ◌∷◌, ◌++◌, map, Ok, Err, refl, sym, ◌∙◌, ap, subst}
use Rattle.std.specs.declared.result.Result.{Result}
use Rattle.sg_entries.proofs.Halves.{IsFlawed, rest_of}
use Rattle.sg_entries.specs.Flaws.{Flaw, flaws_from}
use Rattle.sg_entries.specs.Lines.{entry_lines_of}
use Rattle.sg_entries.specs.Reads.{AreEntries, IsReadOf}
use Rattle.sg_entries.specs.Inside.Parsing.{IsHistory, IsNoEntry}
use Rattle.sg_entries.specs.Standing.{entry_of}
use Rattle.sg_entries.specs.declared.error.EntriesError.{EntriesError}
use Rattle.sg_entries.specs.declared.error.EntriesError.TheVariants.{NoMemory, Fault}
use Rattle.sg_entries.specs.declared.error.EntriesKind.{EntriesKind}
use Rattle.sg_entries.proofs.OneAnswer.{one_tree, only_answer}
use Rattle.sg_entries.specs.Parses.{EntryParses}
use Rattle.sg_entries.specs.sg_lex.Lexeme.{Spelling}
use Rattle.sg_entries.specs.declared.syntax.EntrySyntax.{EntrySyntax}
use Rattle.sg_entries.specs.declared.syntax.EntrySyntax.TheVariants.{NoMemory as no_memory, Syntax as syntax}
use Rattle.sg_entries.specs.declared.tree.WrittenEntry.{WrittenEntry}
use Rattle.sg_facts.specs.Interface.{Declared}
use Rattle.sg_facts.specs.declared.entry.Entry.{Entry}

-- ---- one line

abbrev Answer : Type 0
Answer = Result WrittenEntry EntrySyntax

one_answer : (shows : List ℕ → Bool) (line : List ℕ) (one other : Answer) → EntryParses shows line one → EntryParses shows line other → one ≢ Err no_memory → other ≢ Err no_memory → one ≡ other
one_answer shows line one other h g n m = sym (only_answer shows line one h n) ∙ only_answer shows line other g m

failed : (place : ℕ) → ◌≡◌ {A = Answer} (Err (syntax place)) (Err no_memory) → ⊥
failed place e = absurd cc

parsed : (e : WrittenEntry) → ◌≡◌ {A = Answer} (Ok e) (Err no_memory) → ⊥
parsed e is = absurd cc

one_place : (shows : List ℕ → Bool) (line : List ℕ) (here there : ℕ) → EntryParses shows line (Err (syntax here)) → EntryParses shows line (Err (syntax there)) → here ≡ there
one_place shows line here there h g =
    let same : ◌≡◌ {A = Answer} (Err (syntax here)) (Err (syntax there)) = one_answer shows line (Err (syntax here)) (Err (syntax there)) h g (failed here) (failed there) in cc same

not_both : (shows : List ℕ → Bool) (line : List ℕ) (e : WrittenEntry) (place : ℕ) → EntryParses shows line (Ok e) → EntryParses shows line (Err (syntax place)) → ⊥
not_both shows line e place h g =
    let same : ◌≡◌ {A = Answer} (Ok e) (Err (syntax place)) = one_answer shows line (Ok e) (Err (syntax place)) h g (parsed e) (failed place) in absurd cc

-- ---- lines

one_list : (shows : List ℕ → Bool) (lines : List Spelling) (one other : List WrittenEntry) → AreEntries shows lines one → AreEntries shows lines other → one ≡ other
one_list shows [] [] [] h g = refl
one_list shows [] [] (e ∷ other) h g = absurd g
one_list shows [] (e ∷ one) other h g = absurd h
one_list shows (l ∷ lines) [] other h g = absurd h
one_list shows (l ∷ lines) (e ∷ one) [] h g = absurd g
one_list shows (l ∷ lines) (e ∷ one) (d ∷ other) h g = ap (λ x. x ∷ one) (one_tree shows l.bytes e d h.0 g.0) ∙ ap (λ xs. d ∷ xs) (one_list shows lines one other h.1 g.1)

-- a line that is none isn't among lines that are entries'
not_among : (shows : List ℕ → Bool) (before rest : List Spelling) (l : Spelling) (entries : List WrittenEntry) (place : ℕ) → AreEntries shows (before ++ l ∷ rest) entries → EntryParses shows l.bytes (Err (syntax place)) → ⊥
not_among shows before rest l entries place are fails = first (rest_of shows before (l ∷ rest) entries are)
  where
    first : (others : List WrittenEntry) × AreEntries shows (l ∷ rest) others → ⊥
    first ([], none) = none
    first (e ∷ others, also) = not_both shows l.bytes e place also.0 fails

-- the first line that is none is one line
one_line : (shows : List ℕ → Bool) (front before : List Spelling) (l m : Spelling) (rest others : List Spelling) (one other : List WrittenEntry) (here there : ℕ) → front ++ l ∷ rest ≡ before ++ m ∷ others
    → AreEntries shows front one → AreEntries shows before other → EntryParses shows l.bytes (Err (syntax here)) → EntryParses shows m.bytes (Err (syntax there)) → l ≡ m
one_line shows [] [] l m rest others one other here there is h g fails also = cc is
one_line shows [] (k ∷ before) l m rest others one [] here there is h g fails also = absurd g
one_line shows [] (k ∷ before) l m rest others one (e ∷ other) here there is h g fails also =
    let same : l ≡ k = cc is in absurd (not_both shows k.bytes e here g.0 (subst (λ x. EntryParses shows x.bytes (Err (syntax here))) same fails))
one_line shows (k ∷ front) before l m rest others [] other here there is h g fails also = absurd h
one_line shows (k ∷ front) [] l m rest others (e ∷ one) other here there is h g fails also =
    let same : k ≡ m = cc is in absurd (not_both shows k.bytes e there h.0 (subst (λ x. EntryParses shows x.bytes (Err (syntax there))) (sym same) also))
one_line shows (k ∷ front) (j ∷ before) l m rest others (e ∷ one) [] here there is h g fails also = absurd g
one_line shows (k ∷ front) (j ∷ before) l m rest others (e ∷ one) (d ∷ other) here there is h g fails also =
    let tails : front ++ l ∷ rest ≡ before ++ m ∷ others = cc is in
    one_line shows front before l m rest others one other here there tails h.1 g.1 fails also

-- ---- faults

same_fault : (kind other : EntriesKind) (at there : ℕ) → kind ≡ other → at ≡ there → Fault kind at ≡ Fault other there
same_fault kind other at there k a = ap (λ x. Fault x at) k ∙ ap (Fault other) a

not_history : (shows : List ℕ → Bool) (i : Declared) (text : List ℕ) (history : List Entry) (kind : EntriesKind) (at : ℕ) → IsHistory shows i text history → IsNoEntry shows text kind at ⊎ IsFlawed shows i text kind at → ⊥
not_history shows i text history kind at good (inl bad) =
    not_among shows bad.0 bad.2 bad.1 good.0 bad.4 (subst (λ lines. AreEntries shows lines good.0) bad.5 good.1) bad.7
not_history shows i text history kind at good (inr bad) =
    let same = one_list shows (entry_lines_of text) good.0 bad.0 good.1 bad.2 in
    let both : record { kind = kind; at = at } ∷ bad.1 ≡ [] = sym bad.3 ∙ ap (flaws_from i 1 (entry_lines_of text)) (sym same) ∙ good.2 in
    absurd cc

one_fault : (shows : List ℕ → Bool) (i : Declared) (text : List ℕ) (kind other : EntriesKind) (at there : ℕ) → IsNoEntry shows text kind at ⊎ IsFlawed shows i text kind at → IsNoEntry shows text other there ⊎ IsFlawed shows i text other there
    → Fault kind at ≡ Fault other there
one_fault shows i text kind other at there (inl a) (inl b) =
    let line = one_line shows a.0 b.0 a.1 b.1 a.2 b.2 a.3 b.3 a.4 b.4 (sym a.5 ∙ b.5) a.6 b.6 a.7 b.7 in
    let place = one_place shows b.1.bytes a.4 b.4 (subst (λ l. EntryParses shows l.bytes (Err (syntax a.4))) line a.7) b.7 in
    same_fault kind other at there (a.8 ∙ sym b.8) (a.9 ∙ ap (λ l. l.at + a.4) line ∙ ap (λ p. b.1.at + p) place ∙ sym b.9)
one_fault shows i text kind other at there (inl a) (inr b) =
    absurd (not_among shows a.0 a.2 a.1 b.0 a.4 (subst (λ lines. AreEntries shows lines b.0) a.5 b.2) a.7)
one_fault shows i text kind other at there (inr a) (inl b) =
    absurd (not_among shows b.0 b.2 b.1 a.0 b.4 (subst (λ lines. AreEntries shows lines a.0) b.5 a.2) b.7)
one_fault shows i text kind other at there (inr a) (inr b) =
    let same = one_list shows (entry_lines_of text) a.0 b.0 a.2 b.2 in
    let first : Flaw = record { kind = kind; at = at } in
    let second : Flaw = record { kind = other; at = there } in
    let both : first ∷ a.1 ≡ second ∷ b.1 = sym a.3 ∙ ap (flaws_from i 1 (entry_lines_of text)) same ∙ b.3 in
    let head : first ≡ second = cc both in
    same_fault kind other at there (ap (λ f. f.kind) head) (ap (λ f. f.at) head)

-- two answers on one text are one
pub one_reading : (shows : List ℕ → Bool) (i : Declared) (text : List ℕ) (one other : Result (List Entry) EntriesError) → IsReadOf shows i text one → IsReadOf shows i text other → one ≢ Err NoMemory → other ≢ Err NoMemory → one ≡ other
one_reading shows i text (Ok h) (Ok g) a b n m =
    let same = one_list shows (entry_lines_of text) a.0 b.0 a.1 b.1 in
    ap Ok (a.3 ∙ ap (map (entry_of i)) same ∙ sym b.3)
one_reading shows i text (Ok h) (Err NoMemory) a b n m = absurd (m refl)
one_reading shows i text (Ok h) (Err (Fault kind at)) a b n m = absurd (not_history shows i text h kind at a b)
one_reading shows i text (Err NoMemory) other a b n m = absurd (n refl)
one_reading shows i text (Err (Fault kind at)) (Ok h) a b n m = absurd (not_history shows i text h kind at b a)
one_reading shows i text (Err (Fault kind at)) (Err NoMemory) a b n m = absurd (m refl)
one_reading shows i text (Err (Fault kind at)) (Err (Fault other there)) a b n m = ap (λ f. Err f) (one_fault shows i text kind other at there a b)

-- an answer is the one that may be given, or there was no memory
pub only : (shows : List ℕ → Bool) (i : Declared) (text : List ℕ) (one other : Result (List Entry) EntriesError) → IsReadOf shows i text one → IsReadOf shows i text other → other ≢ Err NoMemory → (one ≡ other) ⊎ (one ≡ Err NoMemory)
only shows i text (Ok h) other a b m = inl (one_reading shows i text (Ok h) other a b (λ e. absurd cc) m)
only shows i text (Err NoMemory) other a b m = inr refl
only shows i text (Err (Fault kind at)) other a b m = inl (one_reading shows i text (Err (Fault kind at)) other a b (λ e. absurd cc) m)
