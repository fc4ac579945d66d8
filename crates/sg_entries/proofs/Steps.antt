-- A step of a state goes on to just the lines that the state reads, and the end to its entry.
use Rattle.std.proofs.Common.{◌≡◌, ℕ, zero, suc, ◌+◌, inl, inr, ◌==◌, List, [], ◌∷◌, ◌++◌, refl, sym, ap, subst, ◌∙◌, append_assoc, eqb-true}
use Rattle.std.specs.Prelude.{None, Some}
use Rattle.std.specs.declared.option.Option.{Option}
use Rattle.std.specs.Option.{option_map}
use Rattle.std.proofs.lemmas.List.{append-nil}
use Rattle.std.proofs.lemmas.Bool.{cases_Bool}
use Rattle.sg_facts.specs.sg_base.declared.reply.Code.{Code}
use Rattle.sg_lex.specs.Inside.Marks.{close_bracket_byte, comma_byte}
use Rattle.sg_entries.specs.declared.tree.WrittenArg.{WrittenArg}
use Rattle.sg_entries.specs.declared.tree.WrittenEntry.{WrittenEntry}
use Rattle.sg_facts.specs.sg_base.Codes.{code_name}
use Rattle.sg_entries.specs.Pieces.{fixed}
use Rattle.sg_entries.specs.Entry.{arg_pieces}
use Rattle.sg_entries.specs.Inside.CodeWords.{code_of, begins_code}
use Rattle.sg_entries.specs.Inside.States.{EntryState, done, first, orelse, run, listed, coded, argument, comma_rest, step, entry_at}
use Rattle.sg_entries.proofs.Basics.{some_is, none_some, if_then, if_else, chosen}
use Rattle.sg_entries.proofs.Words.{word_begun, word_read, read_word}
use Rattle.sg_entries.proofs.Front.{Goes, join, cut, over, fixed_cut, fixed_join, fixed_none, none_fixed}
use Rattle.sg_entries.proofs.Lang.{Lang, Listed, Fits}
use Rattle.sg_entries.proofs.Parts.{byte_to, byte_from, argument_to, argument_from}

-- ---- arguments

-- after a comma: a further argument
comma_to : (args : List WrittenArg) (k : List WrittenArg → EntryState) (v : WrittenEntry) (at : ℕ) (bs : List ℕ) → Lang (comma_rest args k) v (at + 1) bs
    → Lang (listed args k) v at (comma_byte ∷ bs)
comma_to args k v at bs h =
    let go : WrittenArg → EntryState = λ a. listed (args ++ a ∷ []) k in
    let spaced = over (fixed (0x20 ∷ []) ∷ []) (Lang (argument go) v) (λ x xs. (a : WrittenArg) × Goes (arg_pieces a) (Lang (go a) v) x xs) (at + 1) bs (argument_to go v)
    (byte_to 0x20 (argument go) v (at + 1) bs h) in
    let a = spaced.holds.0 in
    let more = spaced.holds.1.holds.0 in
    let R : ℕ → List ℕ → Type 0 = Listed more (λ all. Lang (k all) v) (args ++ a ∷ []) in
    let g : Goes (arg_pieces a) R _ spaced.rest = record { placed = spaced.holds.1.placed; rest = spaced.holds.1.rest; all = spaced.holds.1.all; holds = spaced.holds.1.holds.1 } in
    let s : Goes (fixed (0x20 ∷ []) ∷ []) (Goes (arg_pieces a) R) (at + 1) bs = record { placed = spaced.placed; rest = spaced.rest; all = spaced.all; holds = g } in
    (a ∷ more, join (fixed (comma_byte ∷ 0x20 ∷ []) ∷ []) (arg_pieces a) R at (comma_byte ∷ bs) (fixed_join comma_byte (0x20 ∷ []) (Goes (arg_pieces a) R) at bs s))

comma_from : (a : WrittenArg) (more args : List WrittenArg) (k : List WrittenArg → EntryState) (v : WrittenEntry) (at : ℕ) (bs : List ℕ)
    → Listed (a ∷ more) (λ all. Lang (k all) v) args at bs → (cs : List ℕ) × (bs ≡ comma_byte ∷ cs) × Lang (comma_rest args k) v (at + 1) cs
comma_from a more args k v at bs h =
    let R : ℕ → List ℕ → Type 0 = Listed more (λ all. Lang (k all) v) (args ++ a ∷ []) in
    let go : WrittenArg → EntryState = λ a. listed (args ++ a ∷ []) k in
    let c = fixed_cut comma_byte (0x20 ∷ []) (Goes (arg_pieces a) R) at bs (cut (fixed (comma_byte ∷ 0x20 ∷ []) ∷ []) (arg_pieces a) R at bs h) in (
      c.0,
      c.1,
      byte_from 0x20 (argument go) v (Goes (arg_pieces a) R) (at + 1) c.0 c.2
          (λ x xs g. argument_from go v a R x xs g (λ y ys l. (more, l))),
    )

closed_to : (args : List WrittenArg) (k : List WrittenArg → EntryState) (v : WrittenEntry) (at : ℕ) (bs : List ℕ) → Lang (k args) v (at + 1) bs
    → Lang (listed args k) v at (close_bracket_byte ∷ bs)
closed_to args k v at bs h = ([], fixed_join close_bracket_byte [] (Lang (k args) v) at bs (none_fixed (Lang (k args) v) (at + 1) bs h))

-- ---- a step is sound

pub step_sound : (s next : EntryState) (v : WrittenEntry) (at b : ℕ) (bs : List ℕ) → step s at b ≡ Some next → Lang next v (at + 1) bs → Lang s v at (b ∷ bs)
unfolding step
step_sound (done e) next v at b bs h l = none_some _ next h
step_sound (first p g) next v at b bs h l =
    chosen (Lang (first p g) v at (b ∷ bs)) (p b) (g at b) None next h
    (λ t e. (t, subst (λ x. Lang x v (at + 1) bs) (sym e) l)) (λ _ e. none_some _ next e)
step_sound (orelse p g s) next v at b bs h l =
    chosen (Lang (orelse p g s) v at (b ∷ bs)) (p b) (g at b) (step s at b) next h
    (λ t e. inl (t, subst (λ x. Lang x v (at + 1) bs) (sym e) l)) (λ _ e. inr (step_sound s next v at b bs e l))
step_sound (run p from read k) next v at b bs h l =
    chosen (Lang (run p from read k) v at (b ∷ bs)) (p b) (run p from (read ++ b ∷ []) k) (step (k (record { bytes = read; at = from })) at b) next h
    (λ t e. let g = subst (λ x. Lang x v (at + 1) bs) (sym e) l in (suc g.0, (t, g.1)))
    (λ _ e. (zero, step_sound (k (record { bytes = read; at = from })) next v at b bs e l))
step_sound (listed args k) next v at b bs h l =
    chosen (Lang (listed args k) v at (b ∷ bs)) (b == comma_byte) (comma_rest args k) _ next h
    (λ t e. subst (λ x. Lang (listed args k) v at (x ∷ bs)) (sym (eqb-true b comma_byte t))
    (comma_to args k v at bs (subst (λ x. Lang x v (at + 1) bs) (sym e) l)))
    (λ _ e. chosen (Lang (listed args k) v at (b ∷ bs)) (b == close_bracket_byte) (k args) None next e
    (λ t e. subst (λ x. Lang (listed args k) v at (x ∷ bs)) (sym (eqb-true b close_bracket_byte t))
    (closed_to args k v at bs (subst (λ x. Lang x v (at + 1) bs) (sym e) l)))
    (λ _ e. none_some _ next e))
step_sound (coded read k) next v at b bs h l =
    chosen (Lang (coded read k) v at (b ∷ bs)) (begins_code (read ++ b ∷ [])) (coded (read ++ b ∷ []) k) None next h
    (λ _ e. let g = subst (λ x. Lang x v (at + 1) bs) (sym e) l in (g.0, sym (append_assoc read (b ∷ []) bs) ∙ g.1, g.2))
    (λ _ e. none_some _ next e)

-- ---- a step is made where there is a line

pub record Stepped (s : EntryState) (v : WrittenEntry) (at b : ℕ) (bs : List ℕ) : Type 0 where
  pub next : EntryState
  pub is : step s at b ≡ Some next
  pub reads : Lang next v (at + 1) bs

pub stepped : (s : EntryState) (v : WrittenEntry) (at b : ℕ) (bs : List ℕ) → Fits s → Lang s v at (b ∷ bs) → Stepped s v at b bs
unfolding step
stepped (done e) v at b bs f l = absurd (let g = l.0 in cc)
stepped (first p g) v at b bs f l = record { next = g at b; is = if_then (p b) (Some (g at b)) None l.0; reads = l.1 }
stepped (orelse p g s) v at b bs f (inl l) = record { next = g at b; is = if_then (p b) (Some (g at b)) (step s at b) l.0; reads = l.1 }
stepped (orelse p g s) v at b bs f (inr l) =
    let r = stepped s v at b bs f.1 l in
    elim (cases_Bool (p b)) as (λ x. Stepped (orelse p g s) v at b bs) [
      | inl t ↦ none_some _ r.next (sym (f.2 at b t) ∙ r.is)
      | inr t ↦ record { next = r.next; is = if_else (p b) (Some (g at b)) (step s at b) t ∙ r.is; reads = r.reads }
    ]
stepped (run p from read k) v at b bs f (zero, l) =
    let s = k (record { bytes = read; at = from }) in
    let fs = f (record { bytes = read; at = from }) in
    let r = stepped (k (record { bytes = read; at = from })) v at b bs fs.0 l in
    elim (cases_Bool (p b)) as (λ x. Stepped (run p from read k) v at b bs) [
      | inl t ↦ none_some _ r.next (sym (fs.1 at b t) ∙ r.is)
      | inr t ↦ record { next = r.next; is = if_else (p b) (Some (run p from (read ++ b ∷ []) k)) (step s at b) t ∙ r.is; reads = r.reads }
    ]
stepped (run p from read k) v at b bs f (suc n, l) =
    record { next = run p from (read ++ b ∷ []) k; is = if_then (p b) _ _ l.0; reads = (n, l.1) }
stepped (listed args k) v at b bs f ([], l) =
    let c = fixed_cut close_bracket_byte [] (Lang (k args) v) at (b ∷ bs) l in
    let e : b ≡ close_bracket_byte = let h = c.1 in cc in
    let es : bs ≡ c.0 = let h = c.1 in cc in
    record {
      next = k args;
      is = subst (λ x. step (listed args k) at x ≡ Some (k args)) (sym e) refl;
      reads = subst (Lang (k args) v (at + 1)) (sym es) (fixed_none (Lang (k args) v) (at + 1) c.0 c.2);
    }
stepped (listed args k) v at b bs f (a ∷ more, l) =
    let c = comma_from a more args k v at (b ∷ bs) l in
    let e : b ≡ comma_byte = let h = c.1 in cc in
    let es : bs ≡ c.0 = let h = c.1 in cc in
    record {
      next = comma_rest args k;
      is = subst (λ x. step (listed args k) at x ≡ Some (comma_rest args k)) (sym e) refl;
      reads = subst (Lang (comma_rest args k) v (at + 1)) (sym es) c.2;
    }
stepped (coded read k) v at b bs f l =
    let e : (read ++ b ∷ []) ++ bs ≡ code_name l.0 = append_assoc read (b ∷ []) bs ∙ l.1 in
    record {
      next = coded (read ++ b ∷ []) k;
      is = if_then (begins_code (read ++ b ∷ [])) _ None (word_begun (read ++ b ∷ []) bs l.0 e);
      reads = (l.0, e, l.2);
    }

-- ---- the end

pub end_sound : (s : EntryState) (v : WrittenEntry) (at : ℕ) → entry_at s ≡ Some v → Lang s v at []
unfolding entry_at
end_sound (done e) v at h = (refl, some_is e v h)
end_sound (first p g) v at h = none_some _ v h
end_sound (orelse p g s) v at h = end_sound s v at h
end_sound (run p from read k) v at h = (zero, end_sound (k (record { bytes = read; at = from })) v at h)
end_sound (listed args k) v at h = none_some _ v h
end_sound (coded read k) v at h = by (code_of read) refl h
  where
    by : (o : Option Code) → code_of read ≡ o → option_map k o ≡ Some v → Lang (coded read k) v at []
    by None e h = none_some _ v h
    by (Some code) e h = (code, append-nil read ∙ word_read read code e, some_is (k code) v h)

pub end_made : (s : EntryState) (v : WrittenEntry) (at : ℕ) → Lang s v at [] → entry_at s ≡ Some v
unfolding entry_at
end_made (done e) v at l = ap Some l.1
end_made (first p g) v at l = absurd l
end_made (orelse p g s) v at l = end_made s v at l
end_made (run p from read k) v at (zero, l) = end_made (k (record { bytes = read; at = from })) v at l
end_made (run p from read k) v at (suc n, l) = absurd l
end_made (listed args k) v at ([], l) =
    let c = fixed_cut close_bracket_byte [] (Lang (k args) v) at [] l in absurd (let h = c.1 in cc)
end_made (listed args k) v at (a ∷ more, l) =
    let c = comma_from a more args k v at [] l in absurd (let h = c.1 in cc)
end_made (coded read k) v at l =
    ap (option_map k) (ap code_of (sym (append-nil read) ∙ l.1) ∙ read_word l.0) ∙ ap Some l.2
