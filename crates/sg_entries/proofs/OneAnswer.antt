-- What is read of a line is the one answer that a parser may give, out of memory aside.
use Rattle.std.proofs.Common.{Bool, ◌≡◌, ◌≢◌, ◌⊎◌, ℕ, ◌+◌, inl, inr, List, [], ◌∷◌, ◌++◌, length, refl, sym, ap, ◌∙◌, arith}
use Rattle.std.specs.Prelude.{Ok, Err}
use Rattle.std.specs.declared.result.Result.{Result}
use Rattle.sg_entries.specs.declared.syntax.EntrySyntax.{EntrySyntax}
use Rattle.sg_entries.specs.declared.syntax.EntrySyntax.TheVariants.{NoMemory, Syntax}
use Rattle.sg_entries.specs.declared.tree.EntryOutline.{EntryOutline}
use Rattle.sg_entries.specs.declared.tree.WrittenEntry.{WrittenEntry}
use Rattle.sg_entries.specs.Entry.{IsEntry}
use Rattle.sg_entries.specs.Parses.{EntryParses, OutlineParses, outline_of}
use Rattle.sg_lex.specs.Sentences.{IsStuck}
use Rattle.sg_entries.specs.Inside.States.{entry_start}
use Rattle.sg_entries.specs.Inside.Reads.{read_from, Ends, OutlineEnds}
use Rattle.sg_entries.proofs.Fitting.{fits_start}
use Rattle.sg_entries.proofs.ReadingEntries.{Stuck, Fails, sound, complete, faults, only_fault}
use Rattle.sg_entries.proofs.Whole.{entry_of, line_of}

stuck_of : (shows : List ℕ → Bool) (front rest : List ℕ) → Stuck (entry_start shows) 0 front rest → IsStuck (IsEntry shows) front rest
stuck_of shows front [] h = λ tree is. h tree (line_of shows tree front is)
stuck_of shows front (b ∷ rest) h = λ begins. h begins.0 begins.1 (line_of shows begins.1 ((front ++ b ∷ []) ++ begins.0) begins.2)

of_stuck : (shows : List ℕ → Bool) (front rest : List ℕ) → IsStuck (IsEntry shows) front rest → Stuck (entry_start shows) 0 front rest
of_stuck shows front [] h = λ tree l. h tree (entry_of shows tree front l)
of_stuck shows front (b ∷ rest) h = λ more tree l. h (more, tree, entry_of shows tree ((front ++ b ∷ []) ++ more) l)

fails_of : (shows : List ℕ → Bool) (line : List ℕ) (place : ℕ) → Fails (entry_start shows) 0 line place → EntryParses shows line (Err (Syntax place))
fails_of shows line place f =
    let at : place ≡ length f.front = (let e = f.place_of in omega arith) in
    (f.front, f.rest, f.all, at, (f.begin.0, f.begin.1, entry_of shows f.begin.1 (f.front ++ f.begin.0) f.begin.2), stuck_of shows f.front f.rest f.stuck)

-- what is read may be answered
may_of : (shows : List ℕ → Bool) (line : List ℕ) (answer : Result WrittenEntry EntrySyntax) → read_from (entry_start shows) 0 line ≡ answer → EntryParses shows line answer
may_of shows line (Ok tree) e = entry_of shows tree line (sound line (entry_start shows) tree 0 e)
may_of shows line (Err NoMemory) e = tt
may_of shows line (Err (Syntax place)) e = fails_of shows line place (faults line (entry_start shows) place 0 (fits_start shows) e)

pub may_answer : (shows : List ℕ → Bool) (line : List ℕ) → EntryParses shows line (read_from (entry_start shows) 0 line)
may_answer shows line = may_of shows line (read_from (entry_start shows) 0 line) refl

-- nothing else may be
pub only_answer : (shows : List ℕ → Bool) (line : List ℕ) (other : Result WrittenEntry EntrySyntax) → EntryParses shows line other → other ≢ Err NoMemory → read_from (entry_start shows) 0 line ≡ other
only_answer shows line (Ok tree) h n = complete line (entry_start shows) tree 0 (fits_start shows) (line_of shows tree line h)
only_answer shows line (Err NoMemory) h n = absurd (n refl)
only_answer shows line (Err (Syntax place)) h n =
    let begin = h.4 in
    let e : 0 + length h.0 ≡ place = (let g = h.3 in omega arith) in
    ap (read_from (entry_start shows) 0) h.2
    ∙ only_fault h.0 h.1 (entry_start shows) 0 (fits_start shows) begin.0 begin.1 (line_of shows begin.1 (h.0 ++ begin.0) begin.2) (of_stuck shows h.0 h.1 h.5)
    ∙ ap (λ x. Err (Syntax x)) e

-- ---- of a parser whose answer is what is read, or out of memory

pub may : (shows : List ℕ → Bool) (line : List ℕ) (answer : Result WrittenEntry EntrySyntax) → Ends (read_from (entry_start shows) 0 line) answer (λ tree. tree) → EntryParses shows line answer
may shows line (Ok tree) h = may_of shows line (Ok tree) h
may shows line (Err NoMemory) h = tt
may shows line (Err (Syntax place)) h = may_of shows line (Err (Syntax place)) (h (λ e. cc))

pub only : (shows : List ℕ → Bool) (line : List ℕ) (answer other : Result WrittenEntry EntrySyntax) → Ends (read_from (entry_start shows) 0 line) answer (λ tree. tree)
    → EntryParses shows line other → other ≢ Err NoMemory → (answer ≡ other) ⊎ (answer ≡ Err NoMemory)
only shows line (Ok tree) other h p n = inl (sym h ∙ only_answer shows line other p n)
only shows line (Err NoMemory) other h p n = inr refl
only shows line (Err (Syntax place)) other h p n = inl (sym (h (λ e. cc)) ∙ only_answer shows line other p n)

-- a line is that of one entry
pub one_tree : (shows : List ℕ → Bool) (line : List ℕ) (one other : WrittenEntry) → IsEntry shows line one → IsEntry shows line other → one ≡ other
one_tree shows line one other h g =
    let e : Ends (read_from (entry_start shows) 0 line) (Ok one) (λ tree. other) = only_answer shows line (Ok other) g (λ e. cc) in
    same one other (sym (only_answer shows line (Ok one) h (λ e. cc)) ∙ e)
  where
    answer : WrittenEntry → Result WrittenEntry EntrySyntax
    answer tree = Ok tree

    same : (one other : WrittenEntry) → Ok one ≡ answer other → one ≡ other
    same one other e = cc

-- ---- of a parser whose answer is the outline of what is read, or out of memory

abbrev Read : Type 0
Read = Result WrittenEntry EntrySyntax

same_error : (one other : EntrySyntax) → ◌≡◌ {A = Read} (Err one) (Err other) → one ≡ other
same_error one other e = cc

not_both : (tree : WrittenEntry) (error : EntrySyntax) → ◌≡◌ {A = Read} (Ok tree) (Err error) → ⊥
not_both tree error e = cc

pub may_outline : (shows : List ℕ → Bool) (line : List ℕ) (answer : Result EntryOutline EntrySyntax) → OutlineEnds (read_from (entry_start shows) 0 line) answer → OutlineParses shows line answer
may_outline shows line (Ok outline) h = (h.0, may_of shows line (Ok h.0) h.1, h.2)
may_outline shows line (Err NoMemory) h = tt
may_outline shows line (Err (Syntax place)) h = may_of shows line (Err (Syntax place)) (h (λ e. cc))

pub only_outline : (shows : List ℕ → Bool) (line : List ℕ) (answer other : Result EntryOutline EntrySyntax) → OutlineEnds (read_from (entry_start shows) 0 line) answer
    → OutlineParses shows line other → other ≢ Err NoMemory → (answer ≡ other) ⊎ (answer ≡ Err NoMemory)
only_outline shows line (Err NoMemory) other h p n = inr refl
only_outline shows line answer (Err NoMemory) h p n = absurd (n refl)
only_outline shows line (Ok outline) (Ok other) h p n =
    let same = one_tree shows line h.0 p.0 (may_of shows line (Ok h.0) h.1) p.1 in
    inl (ap Ok (h.2 ∙ ap outline_of same ∙ sym p.2))
only_outline shows line (Ok outline) (Err (Syntax place)) h p n =
    absurd (not_both h.0 (Syntax place) (sym h.1 ∙ only_answer shows line (Err (Syntax place)) p (λ e. cc)))
only_outline shows line (Err (Syntax place)) (Ok other) h p n =
    absurd (not_both p.0 (Syntax place) (sym (only_answer shows line (Ok p.0) p.1 (λ e. cc)) ∙ h (λ e. cc)))
only_outline shows line (Err (Syntax place)) (Err (Syntax other)) h p n =
    inl (ap Err (same_error (Syntax place) (Syntax other) (sym (h (λ e. cc)) ∙ only_answer shows line (Err (Syntax other)) p (λ e. cc))))
