-- The answers are the one reading of a text.
use Rattle.std.proofs.Common.{ℕ, zero, suc, ◌+◌, ◌-◌, ◌≤◌, ◌≡◌, List, [], ◌∷◌, ◌++◌, Ok, length, take, drop, refl, sym, ap, ◌∙◌, subst, arith}
use Rattle.std.proofs.lemmas.List.{take-append-drop, length-take-le, drop-drop, drop_at, take_at, length-append, length-drop}
use Rattle.sg_lex.specs.declared.front.Front.{Front}
use Rattle.sg_lex.specs.declared.front.Front.TheVariants.{Ended, Gap, Token, Fault}
use Rattle.sg_lex.specs.Fronts.{front_of}
use Rattle.sg_lex.specs.Table.{IsToken, AtMost, BeginsNothing}
use Rattle.sg_lex.specs.Tokens.{Answer, later_answers, answers_of}
use Rattle.sg_lex.specs.Inside.Fronts.{answers_at}
use Rattle.sg_lex.specs.Reading.{IsReading, ends, passes, gives, faults, AreSlices}
use Rattle.sg_lex.proofs.Fronts.{HasBytes, has_bytes}
use Rattle.sg_lex.proofs.Firsts.{not_empty, no_empty_token}
use Rattle.sg_lex.proofs.Forward.{token_front, gap_front}
use Rattle.sg_lex.proofs.Meanings.{Means, means_front}
use Rattle.sg_lex.proofs.Steps.{answers_after, answers_step}

-- ---- the answers are a reading

-- what is read after a first part of a text, where that part has bytes
after_part : (n at b : ℕ) (bs : List ℕ) → 1 ≤ n → n ≤ length (b ∷ bs)
    → ((m place : ℕ) → m ≤ length bs → IsReading (place + m) (drop m bs) (later_answers m place bs))
    → IsReading (at + length (take n (b ∷ bs))) (drop n (b ∷ bs)) (later_answers (n - 1) (at + 1) bs)
after_part zero at b bs l f ih = absurd (omega arith)
after_part (suc n) at b bs l f ih =
    let less : suc n - 1 ≡ n = omega arith in
    let long : length (take (suc n) (b ∷ bs)) ≡ suc n = length-take-le (suc n) (b ∷ bs) f in
    let place : (at + 1) + n ≡ at + length (take (suc n) (b ∷ bs)) = omega arith in
    rw less (subst (λ m. IsReading m (drop n bs) (later_answers n (at + 1) bs)) place (ih n (at + 1) (omega arith)))

reads_front : (front : Front) (at b : ℕ) (bs : List ℕ) → Means (b ∷ bs) front → HasBytes front
    → ((m place : ℕ) → m ≤ length bs → IsReading (place + m) (drop m bs) (later_answers m place bs))
    → IsReading at (b ∷ bs) (answers_at front at (b ∷ bs) (λ n. later_answers n (at + 1) bs))
reads_front Ended at b bs m h ih = absurd (not_empty b bs (sym m))
reads_front (Gap n) at b bs m h ih =
    subst (λ xs. IsReading at xs (later_answers (n - 1) (at + 1) bs)) (take-append-drop n (b ∷ bs))
    (passes at (take n (b ∷ bs)) (drop n (b ∷ bs)) (later_answers (n - 1) (at + 1) bs) m.1 (after_part n at b bs h m.0 ih))
reads_front (Token kind n) at b bs m h ih =
    let answers : List Answer = later_answers (n - 1) (at + 1) bs in
    let text : List ℕ = b ∷ bs in
    let long : length (take n text) ≡ n = length-take-le n text m.0 in
    let most : AtMost (length (take n text)) (take n text ++ drop n text)
    = subst (λ xs. AtMost (length (take n text)) xs) (sym (take-append-drop n text)) (subst (λ k. AtMost k text) (sym long) m.2) in
    subst (λ xs. IsReading at xs (Ok (record { kind = kind; bytes = take n text; at = at }) ∷ answers)) (take-append-drop n text)
    (gives at kind (take n text) (drop n text) answers m.1 most (after_part n at b bs h m.0 ih))
reads_front Fault at b bs m h ih = faults at (b ∷ bs) m.0 m.1

reads_after : (n at : ℕ) (text : List ℕ) → n ≤ length text → IsReading (at + n) (drop n text) (later_answers n at text)
reads_after zero at [] l = ends (at + 0)
reads_after (suc n) at [] l = absurd (omega arith)
reads_after zero at (b ∷ bs) l =
    let place : at ≡ at + 0 = omega arith in
    subst (λ m. IsReading m (b ∷ bs) (later_answers 0 at (b ∷ bs))) place
    (reads_front (front_of (b ∷ bs)) at b bs (means_front (b ∷ bs)) (has_bytes (b ∷ bs)) (λ m place l. reads_after m place bs l))
reads_after (suc n) at (b ∷ bs) l =
    let place : (at + 1) + n ≡ at + suc n = omega arith in
    subst (λ m. IsReading m (drop n bs) (later_answers n (at + 1) bs)) place (reads_after n (at + 1) bs (omega arith))

pub reads : (text : List ℕ) → IsReading 0 text (answers_of text)
reads text = reads_after 0 0 text (omega arith)

-- ---- and the only one

fault_front : (text : List ℕ) (front : Front) → Means text front → (text ≡ [] → ⊥) → BeginsNothing text → front ≡ Fault
fault_front text Ended m occupied none = absurd (occupied m)
fault_front text (Gap n) m occupied none = absurd (none.no_gap (take n text) (drop n text) (sym (take-append-drop n text)) m.1)
fault_front text (Token kind n) m occupied none =
    absurd (none.no_token kind (take n text) (drop n text) (sym (take-append-drop n text)) m.1)
fault_front text Fault m occupied none = refl

pub only_reading : {at : ℕ} {text : List ℕ} {answers : List Answer} → IsReading at text answers → answers ≡ later_answers 0 at text
only_reading (ends at) = refl
only_reading (passes at gap behind answers g r) =
    let rest : answers ≡ later_answers 0 (at + length gap) behind = only_reading r in
    let step : later_answers 0 at (gap ++ behind) ≡ later_answers 0 (at + length gap) (drop (length gap) (gap ++ behind))
    = answers_step at (gap ++ behind) ∙ ap (λ f. answers_after f at (gap ++ behind)) (gap_front gap behind g) in
    rest ∙ sym (step ∙ ap (λ xs. later_answers 0 (at + length gap) xs) (drop_at gap behind (length gap) refl))
only_reading (gives at kind bytes behind answers t most r) =
    let rest : answers ≡ later_answers 0 (at + length bytes) behind = only_reading r in
    let n : ℕ = length bytes in
    let step : later_answers 0 at (bytes ++ behind)
    ≡ Ok (record { kind = kind; bytes = take n (bytes ++ behind); at = at }) ∷ later_answers 0 (at + n) (drop n (bytes ++ behind))
    = answers_step at (bytes ++ behind) ∙ ap (λ f. answers_after f at (bytes ++ behind)) (token_front kind bytes behind t most) in
    rw rest (sym (step
    ∙ (ap (λ xs. Ok (record { kind = kind; bytes = xs; at = at }) ∷ later_answers 0 (at + n) (drop n (bytes ++ behind))) (take_at bytes behind n refl)
    ∙ ap (λ xs. Ok (record { kind = kind; bytes = bytes; at = at }) ∷ later_answers 0 (at + n) xs) (drop_at bytes behind n refl))))
only_reading (faults at text occupied none) =
    sym (answers_step at text ∙ ap (λ f. answers_after f at text) (fault_front text (front_of text) (means_front text) occupied none))

-- ---- and its tokens are slices

record IsPart (whole : List ℕ) (at : ℕ) (part behind : List ℕ) : Type 0 where
  rest : behind ≡ drop (at + length part) whole
  within : at + length part ≤ length whole
  same : part ≡ take (length part) (drop at whole)

part_of : (whole : List ℕ) (at : ℕ) (part behind : List ℕ) → part ++ behind ≡ drop at whole → at ≤ length whole → IsPart whole at part behind
part_of whole at part behind e l =
    let n : ℕ = length part in
    let long : length part + length behind ≡ length whole - at
    = sym (length-append part behind) ∙ (ap length e ∙ length-drop at whole) in
    record {
      rest = sym (drop_at part behind n refl) ∙ (ap (drop n) e ∙ drop-drop n at whole);
      within = omega arith;
      same = sym (take_at part behind n refl) ∙ ap (take n) e;
    }

has_length : (bs : List ℕ) → (bs ≡ [] → ⊥) → 1 ≤ length bs
has_length [] h = absurd (h refl)
has_length (b ∷ bs) h = omega arith

pub slices : {at : ℕ} {text : List ℕ} {answers : List Answer} → IsReading at text answers → (whole : List ℕ) (from : ℕ)
    → text ≡ drop at whole → from ≤ at → at ≤ length whole → AreSlices whole from answers
slices (ends at) whole from e l m = tt
slices (passes at gap behind answers g r) whole from e l m =
    let part : IsPart whole at gap behind = part_of whole at gap behind e m in
    slices r whole from part.rest (omega arith) part.within
slices (gives at kind bytes behind answers t most r) whole from e l m =
    let part : IsPart whole at bytes behind = part_of whole at bytes behind e m in (
      l,
      has_length bytes (λ h. no_empty_token kind (subst (IsToken kind) h t)),
      part.within,
      part.same,
      slices r whole (at + length bytes) part.rest (omega arith) part.within,
    )
slices (faults at text occupied none) whole from e l m =
    let some : 1 ≤ length text = has_length text occupied in
    let long : length text ≡ length whole - at = ap length e ∙ length-drop at whole in
    (l, omega arith, refl)
