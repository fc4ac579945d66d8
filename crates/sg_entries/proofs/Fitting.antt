-- The states of a line fit: each can be ended, and its choices exclude one another.
use Rattle.std.proofs.Common.{◌≡◌, ℕ, zero, suc, ◌+◌, inl, inr, ◌==◌, Bool, true, false, if◌then◌else◌, List, [], ◌∷◌, ◌++◌, refl, sym, ap, subst, ◌∙◌, eqb-true, eq-eqb}
use Rattle.std.specs.Prelude.{None, Some, codes}
use Rattle.std.specs.declared.option.Option.{Option}
use Rattle.std.specs.Char.{is_ascii_digit}
use Rattle.std.proofs.lemmas.Bool.{cases_Bool}
use Rattle.sg_facts.specs.sg_base.declared.reply.Code.TheVariants.{NoDesc}
use Rattle.sg_facts.specs.sg_base.Text.{is_text_byte}
use Rattle.sg_lex.specs.Bytes.{is_in_word}
use Rattle.sg_lex.specs.Inside.Marks.{open_bracket_byte, close_bracket_byte, comma_byte}
use Rattle.sg_entries.specs.declared.tree.WrittenArg.{WrittenArg}
use Rattle.sg_entries.specs.declared.tree.WrittenArg.TheVariants.{Number as number_arg, Text as text_arg}
use Rattle.sg_entries.specs.declared.tree.WrittenAnswer.{WrittenAnswer}
use Rattle.sg_entries.specs.declared.tree.WrittenAnswer.TheVariants.{Refused, Ok}
use Rattle.sg_entries.specs.declared.tree.WrittenEntry.{WrittenEntry}
use Rattle.sg_lex.specs.Lexeme.{Spelling}
use Rattle.sg_facts.specs.sg_base.Codes.{code_name}
use Rattle.sg_entries.specs.Inside.Forms.{quote_byte}
use Rattle.sg_entries.specs.Inside.CodeWords.{begins_code}
use Rattle.sg_entries.specs.Inside.States.{EntryState, done, first, orelse, run, listed, coded, byte, bytes, positive, number, name, text_rest, text, argument, bracketed, comma_rest, words, words_and_bytes, given, answered, call_rest, client_rest, entry_start, step}
use Rattle.sg_entries.proofs.Basics.{none_some, if_else, chosen, not_both}
use Rattle.sg_entries.proofs.Words.{begun_word}
use Rattle.sg_entries.proofs.Front.{fixed_join, none_fixed}
use Rattle.sg_entries.proofs.Lang.{Lang, Blind, Fits}

-- ---- no step by a byte of a class

blind_at : (b : ℕ) (s : EntryState) → ((at : ℕ) → step s at b ≡ None) → Blind (λ c. c == b) s
blind_at b s h at c t = subst (λ x. step s at x ≡ None) (sym (eqb-true c b t)) (h at)

blind_byte : (p : ℕ → Bool) (b : ℕ) (s : EntryState) → p b ≡ false → Blind p (byte b s)
unfolding step
blind_byte p b s f at c t =
    elim (cases_Bool (c == b)) as (λ x. step (byte b s) at c ≡ None) [
      | inl e ↦ not_both _ (p c) t (ap p (eqb-true c b e) ∙ f)
      | inr e ↦ if_else (c == b) (Some s) None e
    ]

blind_else : (p : ℕ → Bool) (b : ℕ) (g : ℕ → ℕ → EntryState) (s : EntryState) → p b ≡ false → Blind p s → Blind p (orelse (λ c. c == b) g s)
unfolding step
blind_else p b g s f h at c t =
    elim (cases_Bool (c == b)) as (λ x. step (orelse (λ c. c == b) g s) at c ≡ None) [
      | inl e ↦ not_both _ (p c) t (ap p (eqb-true c b e) ∙ f)
      | inr e ↦ if_else (c == b) (Some (g at c)) (step s at c) e ∙ h at c t
    ]

blind_done : (p : ℕ → Bool) (e : WrittenEntry) → Blind p (done e)
unfolding step
blind_done p e at c t = refl

blind_listed : (args : List WrittenArg) (k : List WrittenArg → EntryState) → Blind is_ascii_digit (listed args k)
unfolding step
blind_listed args k at c t =
    elim (cases_Bool (c == comma_byte)) as (λ x. step (listed args k) at c ≡ None) [
      | inl e ↦ not_both _ (is_ascii_digit c) t (ap is_ascii_digit (eqb-true c comma_byte e))
      | inr e ↦ if_else (c == comma_byte) _ _ e ∙ (elim (cases_Bool (c == close_bracket_byte)) as (λ x. (if c == close_bracket_byte then Some (k args) else None) ≡ None) [
        | inl g ↦ not_both _ (is_ascii_digit c) t (ap is_ascii_digit (eqb-true c close_bracket_byte g))
        | inr g ↦ if_else (c == close_bracket_byte) (Some (k args)) None g
      ])
    ]

-- ---- parts

pub fits_byte : (b : ℕ) (s : EntryState) → Fits s → Fits (byte b s)
fits_byte b s f = ((b, eq-eqb b b refl), λ at c t. f)

pub fits_bytes : (ds : List ℕ) (s : EntryState) → Fits s → Fits (bytes ds s)
fits_bytes [] s f = f
fits_bytes (d ∷ ds) s f = fits_byte d (bytes ds s) (fits_bytes ds s f)

fits_positive : (k : Spelling → EntryState) → ((n : Spelling) → Fits (k n) × Blind is_ascii_digit (k n)) → Fits (positive k)
fits_positive k h = ((0x31, refl), λ at c t. h)

fits_number : (k : Spelling → EntryState) → ((n : Spelling) → Fits (k n) × Blind is_ascii_digit (k n)) → Fits (number k)
unfolding step
fits_number k h = (λ at c t. (h (record { bytes = c ∷ []; at = at })).0, fits_positive k h, blind_at 0x30 (positive k) (λ at. refl))

fits_name : (k : Spelling → EntryState) → ((n : Spelling) → Fits (k n) × Blind is_in_word (k n)) → Fits (name k)
fits_name k h = ((0x61, refl), λ at c t. h)

fits_text_rest : (at : ℕ) (k : Spelling → EntryState) → ((t : Spelling) → Fits (k t)) → Fits (text_rest at k)
fits_text_rest at k h t = (fits_byte quote_byte (k t) (h t), blind_byte is_text_byte quote_byte (k t) refl)

fits_text : (k : Spelling → EntryState) → ((t : Spelling) → Fits (k t)) → Fits (text k)
fits_text k h = ((quote_byte, refl), λ at c t. fits_text_rest (at + 1) k h)

fits_argument : (k : WrittenArg → EntryState) → ((a : WrittenArg) → Fits (k a) × Blind is_ascii_digit (k a)) → Fits (argument k)
unfolding step
fits_argument k h = (
  λ at c t. fits_text_rest (at + 1) (λ t. k (text_arg t)) (λ t. (h (text_arg t)).0),
  fits_number (λ n. k (number_arg n)) (λ n. h (number_arg n)),
  blind_at quote_byte (number (λ n. k (number_arg n))) (λ at. refl),
)

fits_comma : (args : List WrittenArg) (k : List WrittenArg → EntryState) → ((all : List WrittenArg) → Fits (k all)) → Fits (comma_rest args k)
fits_comma args k h =
    fits_byte 0x20 (argument (λ a. listed (args ++ a ∷ []) k)) (fits_argument (λ a. listed (args ++ a ∷ []) k) (λ a. (h, blind_listed (args ++ a ∷ []) k)))

fits_bracketed : (k : List WrittenArg → EntryState) → ((all : List WrittenArg) → Fits (k all)) → Fits (bracketed k)
unfolding step
fits_bracketed k h = (
  λ at c t. h [],
  fits_argument (λ a. listed (a ∷ []) k) (λ a. (h, blind_listed (a ∷ []) k)),
  blind_at close_bracket_byte (argument (λ a. listed (a ∷ []) k)) (λ at. refl),
)

-- ---- answers

fits_words : (n : ℕ) (desc : Option Spelling) (read : List Spelling) (k : WrittenAnswer → WrittenEntry)
    → Fits (words n desc read k) × Blind is_ascii_digit (words n desc read k)
unfolding words
fits_words zero desc read k = (tt, blind_done is_ascii_digit (k (Ok desc read None)))
fits_words (suc n) desc read k =
    let d = done (k (Ok desc read None)) in (
      (λ at c t. fits_number (λ w. words n desc (read ++ w ∷ []) k) (λ w. fits_words n desc (read ++ w ∷ []) k), tt, blind_done (λ c. c == 0x20) (k (Ok desc read None))),
      blind_else is_ascii_digit 0x20 (λ place c. number (λ w. words n desc (read ++ w ∷ []) k)) d refl (blind_done is_ascii_digit (k (Ok desc read None))),
    )

fits_words_and_bytes : (n : ℕ) (desc : Option Spelling) (read : List Spelling) (k : WrittenAnswer → WrittenEntry) → Fits (words_and_bytes n desc read k)
unfolding step words_and_bytes
fits_words_and_bytes zero desc read k = fits_text (λ t. done (k (Ok desc read (Some t)))) (λ t. tt)
fits_words_and_bytes (suc n) desc read k =
    let go : Spelling → EntryState = λ w. byte 0x20 (words_and_bytes n desc (read ++ w ∷ []) k) in (
      λ at c t. fits_text_rest (at + 1) (λ t. done (k (Ok desc read (Some t)))) (λ t. tt),
      fits_number go (λ w. (fits_byte 0x20 (words_and_bytes n desc (read ++ w ∷ []) k) (fits_words_and_bytes n desc (read ++ w ∷ []) k), blind_byte is_ascii_digit 0x20 _ refl)),
      blind_at quote_byte (number go) (λ at. refl),
    )

fits_given : (shown : Bool) (k : WrittenAnswer → WrittenEntry) → Fits (given shown k)
unfolding step given words words_and_bytes
fits_given true k =
    let go : Spelling → EntryState = λ d. byte 0x20 (words_and_bytes 4 (Some d) [] k) in
    let each : (d : Spelling) → Fits (go d) × Blind is_ascii_digit (go d) =
    λ d. (fits_byte 0x20 (words_and_bytes 4 (Some d) [] k) (fits_words_and_bytes 4 (Some d) [] k), blind_byte is_ascii_digit 0x20 (words_and_bytes 4 (Some d) [] k) refl) in
    fits_byte 0x20 (orelse (λ c. c == 0x23) (λ place c. positive go) (words_and_bytes 4 None [] k))
    (λ at c t. fits_positive go each, fits_words_and_bytes 4 None [] k, blind_at 0x23 (words_and_bytes 4 None [] k) (λ at. refl))
fits_given false k =
    let go : Spelling → EntryState = λ w. words 3 None (w ∷ []) k in (
      λ at c t. (λ at c t. fits_positive (λ d. words 4 (Some d) [] k) (λ d. fits_words 4 (Some d) [] k), fits_number go (λ w. fits_words 3 None (w ∷ []) k), blind_at 0x23 (number go) (λ at. refl)),
      tt,
      blind_done (λ c. c == 0x20) (k (Ok None [] None)),
    )

fits_answered : (shown : Bool) (k : WrittenAnswer → WrittenEntry) → Fits (answered shown k)
unfolding step
fits_answered shown k =
    let coded_one = coded [] (λ code. k (Refused code)) in (
      λ at c t. fits_byte 0x6B (given shown k) (fits_given shown k),
      fits_bytes (codes "refused ") coded_one (NoDesc, code_name NoDesc, refl),
      blind_at 0x6F (bytes (codes "refused ") coded_one) (λ at. refl),
    )

-- ---- entries

fits_call : (shows : List ℕ → Bool) (client seq function : Spelling) → Fits (call_rest shows client seq function)
fits_call shows client seq function =
    let end : List WrittenArg → WrittenAnswer → WrittenEntry =
    λ args answer. record { client = client; seq = seq; name = function; args = args; answer = answer } in
    let go : List WrittenArg → EntryState = λ args. bytes (codes " = ") (answered (shows function.bytes) (end args)) in
    fits_byte open_bracket_byte (bracketed go) (fits_bracketed go (λ args. fits_bytes (codes " = ") (answered (shows function.bytes) (end args)) (fits_answered (shows function.bytes) (end args))))

fits_client : (shows : List ℕ → Bool) (client : Spelling) → Fits (client_rest shows client)
fits_client shows client =
    fits_byte 0x2E (number (λ seq. byte 0x20 (name (call_rest shows client seq))))
    (fits_number (λ seq. byte 0x20 (name (call_rest shows client seq)))
    (λ seq. (
      fits_byte 0x20 (name (call_rest shows client seq)) (fits_name (call_rest shows client seq) (λ function. (fits_call shows client seq function, blind_byte is_in_word open_bracket_byte _ refl))),
      blind_byte is_ascii_digit 0x20 _ refl,
    )))

pub fits_start : (shows : List ℕ → Bool) → Fits (entry_start shows)
fits_start shows = fits_byte 0x63 (number (client_rest shows)) (fits_number (client_rest shows) (λ client. (fits_client shows client, blind_byte is_ascii_digit 0x2E _ refl)))

-- ---- after a step

pub fits_next : (s next : EntryState) (at b : ℕ) → Fits s → step s at b ≡ Some next → Fits next
unfolding step
fits_next (done e) next at b f h = none_some _ next h
fits_next (first p g) next at b f h = chosen (Fits next) (p b) (g at b) None next h (λ t e. subst Fits e (f.1 at b t)) (λ _ e. none_some _ next e)
fits_next (orelse p g s) next at b f h =
    chosen (Fits next) (p b) (g at b) (step s at b) next h (λ t e. subst Fits e (f.0 at b t)) (λ _ e. fits_next s next at b f.1 e)
fits_next (run p from read k) next at b f h =
    chosen (Fits next) (p b) (run p from (read ++ b ∷ []) k) (step (k (record { bytes = read; at = from })) at b) next h
    (λ t e. subst Fits e f)
    (λ _ e. fits_next (k (record { bytes = read; at = from })) next at b (f (record { bytes = read; at = from })).0 e)
fits_next (listed args k) next at b f h =
    chosen (Fits next) (b == comma_byte) (comma_rest args k) _ next h
    (λ t e. subst Fits e (fits_comma args k f))
    (λ _ e. chosen (Fits next) (b == close_bracket_byte) (k args) None next e (λ t e. subst Fits e (f args)) (λ _ e. none_some _ next e))
fits_next (coded read k) next at b f h =
    chosen (Fits next) (begins_code (read ++ b ∷ [])) (coded (read ++ b ∷ []) k) None next h
    (λ t e. let w = begun_word (read ++ b ∷ []) t in subst Fits e (w.code, w.rest, w.is))
    (λ _ e. none_some _ next e)

-- ---- a line that ends

pub ending : (s : EntryState) (at : ℕ) → Fits s → (bs : List ℕ) × (v : WrittenEntry) × Lang s v at bs
ending (done e) at f = ([], e, (refl, refl))
ending (first p g) at f = let b = f.0.0 in let r = ending (g at b) (at + 1) (f.1 at b f.0.1) in (b ∷ r.0, r.1, (f.0.1, r.2))
ending (orelse p g s) at f = let r = ending s at f.1 in (r.0, r.1, on r.0 r.1 r.2)
  where
    on : (bs : List ℕ) (v : WrittenEntry) → Lang s v at bs → Lang (orelse p g s) v at bs
    on [] v l = l
    on (b ∷ bs) v l = inr l
ending (run p from read k) at f =
    let r = ending (k (record { bytes = read; at = from })) at (f (record { bytes = read; at = from })).0 in (r.0, r.1, (zero, r.2))
ending (listed args k) at f =
    let r = ending (k args) (at + 1) (f args) in
    (close_bracket_byte ∷ r.0, r.1, ([], fixed_join close_bracket_byte [] (Lang (k args) r.1) at r.0 (none_fixed (Lang (k args) r.1) (at + 1) r.0 r.2)))
ending (coded read k) at f = (f.1, k f.0, (f.0, f.2, refl))
