-- What is read is the one answer: the entry of the line, or the place of its fault.
use Rattle.std.proofs.Common.{◌≡◌, ◌≢◌, ℕ, ◌+◌, List, [], ◌∷◌, ◌++◌, length, refl, sym, ap, subst, ◌∙◌, arith}
use Rattle.std.specs.Prelude.{None, Some, Ok, Err}
use Rattle.std.specs.declared.option.Option.{Option}
use Rattle.std.specs.declared.result.Result.{Result}
use Rattle.std.specs.Option.{option_map_or}
use Rattle.sg_entries.specs.declared.syntax.EntrySyntax.{EntrySyntax}
use Rattle.sg_entries.specs.declared.syntax.EntrySyntax.TheVariants.{NoMemory, Syntax}
use Rattle.sg_entries.specs.declared.tree.WrittenEntry.{WrittenEntry}
use Rattle.sg_entries.specs.Inside.States.{EntryState, step, entry_at}
use Rattle.sg_entries.specs.Inside.Reads.{ended, read_from}
use Rattle.sg_entries.proofs.Basics.{some_is, none_some}
use Rattle.sg_entries.proofs.Lang.{Lang, Fits}
use Rattle.sg_entries.proofs.Steps.{step_sound, stepped, end_sound, end_made}
use Rattle.sg_entries.proofs.Fitting.{fits_next, ending}

-- ---- one byte

pub read_step : (s next : EntryState) (at b : ℕ) (bs : List ℕ) → step s at b ≡ Some next → read_from s at (b ∷ bs) ≡ read_from next (at + 1) bs
unfolding read_from
read_step s next at b bs e = ap (λ v. option_map_or (λ next. read_from next (at + 1) bs) v (Err (Syntax at))) e

pub read_stuck : (s : EntryState) (at b : ℕ) (bs : List ℕ) → step s at b ≡ None → read_from s at (b ∷ bs) ≡ Err (Syntax at)
unfolding read_from
read_stuck s at b bs e = ap (λ v. option_map_or (λ next. read_from next (at + 1) bs) v (Err (Syntax at))) e

pub read_end : (s : EntryState) (at : ℕ) → read_from s at [] ≡ ended at (entry_at s)
unfolding read_from
read_end s at = refl

-- an entry and a fault, as answers
abbrev good : WrittenEntry → Result WrittenEntry EntrySyntax
good e = Ok e

abbrev bad : EntrySyntax → Result WrittenEntry EntrySyntax
bad e = Err e

ok_is : (x y : WrittenEntry) → good x ≡ good y → x ≡ y
ok_is x y e = cc

place_is : (x y : ℕ) → bad (Syntax x) ≡ bad (Syntax y) → x ≡ y
place_is x y e = cc

-- ---- entries

-- the cases of a step
by_step : (Y : EntryState → ℕ → ℕ → Type 0) (s : EntryState) (at b : ℕ) → (step s at b ≡ None → Y s at b) → ((next : EntryState) → step s at b ≡ Some next → Y s at b) → Y s at b
by_step Y s at b f g = by (step s at b) refl
  where
    by : (o : Option EntryState) → step s at b ≡ o → Y s at b
    by None e = f e
    by (Some next) e = g next e

-- the cases of the end
by_end : (Y : EntryState → Type 0) (s : EntryState) → (entry_at s ≡ None → Y s) → ((v : WrittenEntry) → entry_at s ≡ Some v → Y s) → Y s
by_end Y s f g = by (entry_at s) refl
  where
    by : (o : Option WrittenEntry) → entry_at s ≡ o → Y s
    by None e = f e
    by (Some v) e = g v e

pub sound : (bs : List ℕ) (s : EntryState) (v : WrittenEntry) (at : ℕ) → read_from s at bs ≡ Ok v → Lang s v at bs
sound [] s v at h =
    by_end (λ s. read_from s at [] ≡ Ok v → Lang s v at []) s
    (λ e h. absurd (let g : bad (Syntax at) ≡ good v = ap (ended at) (sym e) ∙ sym (read_end s at) ∙ h in cc))
    (λ w e h. end_sound s v at (e ∙ ap Some (ok_is w v (ap (ended at) (sym e) ∙ sym (read_end s at) ∙ h)))) h
sound (b ∷ bs) s v at h =
    by_step (λ s at b. read_from s at (b ∷ bs) ≡ Ok v → Lang s v at (b ∷ bs)) s at b
    (λ e h. absurd (let g : bad (Syntax at) ≡ good v = sym (read_stuck s at b bs e) ∙ h in cc))
    (λ next e h. step_sound s next v at b bs e (sound bs next v (at + 1) (sym (read_step s next at b bs e) ∙ h))) h

pub complete : (bs : List ℕ) (s : EntryState) (v : WrittenEntry) (at : ℕ) → Fits s → Lang s v at bs → read_from s at bs ≡ Ok v
complete [] s v at f l = read_end s at ∙ ap (ended at) (end_made s v at l)
complete (b ∷ bs) s v at f l =
    let r = stepped s v at b bs f l in
    read_step s r.next at b bs r.is ∙ complete bs r.next v (at + 1) (fits_next s r.next at b f r.is) r.reads

-- ---- faults

-- no line goes on so
abbrev pub Stuck : EntryState → ℕ → List ℕ → List ℕ → Type 0
Stuck s at front [] = (v : WrittenEntry) → Lang s v at front → ⊥
Stuck s at front (b ∷ rest) = (more : List ℕ) (v : WrittenEntry) → Lang s v at ((front ++ b ∷ []) ++ more) → ⊥

pub record Fails (s : EntryState) (at : ℕ) (bs : List ℕ) (place : ℕ) : Type 0 where
  pub front : List ℕ
  pub rest : List ℕ
  pub all : bs ≡ front ++ rest
  pub place_of : place ≡ at + length front
  pub begin : (more : List ℕ) × (v : WrittenEntry) × Lang s v at (front ++ more)
  pub stuck : Stuck s at front rest

stuck_later : (rest : List ℕ) (s next : EntryState) (at b : ℕ) (front : List ℕ) → Fits s → step s at b ≡ Some next → Stuck next (at + 1) front rest → Stuck s at (b ∷ front) rest
stuck_later [] s next at b front f e h = λ v l.
    let r = stepped s v at b front f l in
    h v (subst (λ x. Lang x v (at + 1) front) (some_is r.next next (sym r.is ∙ e)) r.reads)
stuck_later (c ∷ rest) s next at b front f e h = λ more v l.
    let r = stepped s v at b ((front ++ c ∷ []) ++ more) f l in
    h more v (subst (λ x. Lang x v (at + 1) ((front ++ c ∷ []) ++ more)) (some_is r.next next (sym r.is ∙ e)) r.reads)

stuck_sooner : (rest : List ℕ) (s next : EntryState) (at b : ℕ) (front : List ℕ) → step s at b ≡ Some next → Stuck s at (b ∷ front) rest → Stuck next (at + 1) front rest
stuck_sooner [] s next at b front e h = λ v l. h v (step_sound s next v at b front e l)
stuck_sooner (c ∷ rest) s next at b front e h = λ more v l. h more v (step_sound s next v at b ((front ++ c ∷ []) ++ more) e l)

pub faults : (bs : List ℕ) (s : EntryState) (place at : ℕ) → Fits s → read_from s at bs ≡ Err (Syntax place) → Fails s at bs place
faults [] s place at f h =
    by_end (λ s. Fits s → read_from s at [] ≡ Err (Syntax place) → Fails s at [] place) s
    (λ e f h. record {
      front = [];
      rest = [];
      all = refl;
      place_of = (let g = place_is at place (ap (ended at) (sym e) ∙ sym (read_end s at) ∙ h) in omega arith);
      begin = ending s at f;
      stuck = λ v l. none_some ⊥ v (sym e ∙ end_made s v at l);
    })
    (λ w e f h. absurd (let g : good w ≡ bad (Syntax place) = ap (ended at) (sym e) ∙ sym (read_end s at) ∙ h in cc)) f h
faults (b ∷ bs) s place at f h =
    by_step (λ s at b. Fits s → read_from s at (b ∷ bs) ≡ Err (Syntax place) → Fails s at (b ∷ bs) place) s at b
    (λ e f h. record {
      front = [];
      rest = b ∷ bs;
      all = refl;
      place_of = (let g = place_is at place (sym (read_stuck s at b bs e) ∙ h) in omega arith);
      begin = ending s at f;
      stuck = λ more v l. (let r = stepped s v at b more f l in none_some ⊥ r.next (sym e ∙ r.is));
    })
    (λ next e f h.
    let r = faults bs next place (at + 1) (fits_next s next at b f e) (sym (read_step s next at b bs e) ∙ h) in
    record {
      front = b ∷ r.front;
      rest = r.rest;
      all = ap (λ v. b ∷ v) r.all;
      place_of = (let g = r.place_of in omega arith);
      begin = (r.begin.0, r.begin.1, step_sound s next r.begin.1 at b (r.front ++ r.begin.0) e r.begin.2);
      stuck = stuck_later r.rest s next at b r.front f e r.stuck;
    }) f h

pub only_fault : (front rest : List ℕ) (s : EntryState) (at : ℕ) → Fits s → (more : List ℕ) (v : WrittenEntry) → Lang s v at (front ++ more) → Stuck s at front rest
    → read_from s at (front ++ rest) ≡ Err (Syntax (at + length front))
only_fault [] [] s at f more v l h =
    by_end (λ s. ((v : WrittenEntry) → Lang s v at [] → ⊥) → read_from s at [] ≡ Err (Syntax (at + 0))) s
    (λ e h. read_end s at ∙ ap (ended at) e ∙ ap (λ x. Err (Syntax x)) (let g : at ≡ at + 0 = omega arith in g))
    (λ w e h. absurd (h w (end_sound s w at e))) h
only_fault [] (b ∷ rest) s at f more v l h =
    by_step (λ s at b. Fits s → ((more : List ℕ) (v : WrittenEntry) → Lang s v at (b ∷ more) → ⊥) → read_from s at (b ∷ rest) ≡ Err (Syntax (at + 0))) s at b
    (λ e f h. read_stuck s at b rest e ∙ ap (λ x. Err (Syntax x)) (let g : at ≡ at + 0 = omega arith in g))
    (λ next e f h. let r = ending next (at + 1) (fits_next s next at b f e) in absurd (h r.0 r.1 (step_sound s next r.1 at b r.0 e r.2))) f h
only_fault (c ∷ front) rest s at f more v l h =
    let r = stepped s v at c (front ++ more) f l in
    let e : (at + 1) + length front ≡ at + length (c ∷ front) = omega arith in
    read_step s r.next at c (front ++ rest) r.is
    ∙ only_fault front rest r.next (at + 1) (fits_next s r.next at c f r.is) more v r.reads (stuck_sooner rest s r.next at c front r.is h)
    ∙ ap (λ x. Err (Syntax x)) e

-- reading is never out of memory
pub reads_no_memory : (bs : List ℕ) (s : EntryState) (at : ℕ) → read_from s at bs ≢ Err NoMemory
reads_no_memory [] s at h =
    by_end (λ s. read_from s at [] ≡ Err NoMemory → ⊥) s
    (λ e h. let g : bad (Syntax at) ≡ bad NoMemory = ap (ended at) (sym e) ∙ sym (read_end s at) ∙ h in cc)
    (λ w e h. let g : good w ≡ bad NoMemory = ap (ended at) (sym e) ∙ sym (read_end s at) ∙ h in cc) h
reads_no_memory (b ∷ bs) s at h =
    by_step (λ s at b. read_from s at (b ∷ bs) ≡ Err NoMemory → ⊥) s at b
    (λ e h. let g : bad (Syntax at) ≡ bad NoMemory = sym (read_stuck s at b bs e) ∙ h in cc)
    (λ next e h. reads_no_memory bs next (at + 1) (sym (read_step s next at b bs e) ∙ h)) h
