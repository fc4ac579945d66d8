-- Files stay, and their spans stay apart, when one of them gets another span.
use Rattle.std.proofs.Common.{◌≡◌, ℕ, ◌+◌, ◌*◌, ◌≤◌, Bool, true, false, cond, List, ◌++◌, None, Some, length, drop, refl, sym, ◌∙◌, ap, subst, inl, inr, arith}
use Rattle.std.specs.Prelude.{◌≢◌, max, min}
use Rattle.std.specs.Str.{bytes_eq}
use Rattle.std.specs.declared.option.Option.{Option}
use Rattle.std.proofs.lemmas.List.{length-drop, length-take-le}
use Rattle.sg_facts.specs.declared.outcome.Patch.{Patch}
use Rattle.sg_facts.specs.Limits.{most_file, most_written}
use Rattle.sg_facts.specs.Object.{over}
use Rattle.sg_store.specs.Spans.{Filed, FitsPatch, GrowsTwice, HasRoomIn, IsApart, Span, bytes_in, buffer_part, patched_at, span_at, span_bytes, span_room, span_stand, stand_in}
use Rattle.sg_store.specs.Inside.Buffers.{IsFrontOf, HasCopy}
use Rattle.sg_store.specs.Inside.Places.{AreSpans, IsInBuffer}
use Rattle.sg_store.proofs.Paths.{told, two_paths}
use Rattle.sg_store.proofs.Parts.{length_over, part_before, part_after, part_front, part_written}

-- a path gets a span, and all others keep theirs
abbrev pub IsSet : List Span → List Span → List ℕ → Span → Type 0
IsSet old new key s = (k : List ℕ) → span_at new k ≡ cond (bytes_eq k key) (Some s) (span_at old k)

module _ (old new : List Span) (key : List ℕ) (s : Span) (set : IsSet old new key s) where
  at_key : (k : List ℕ) → bytes_eq k key ≡ true → span_at new k ≡ Some s
  at_key k is = set k ∙ ap (λ b. cond b (Some s) (span_at old k)) is

  at_other : (k : List ℕ) → bytes_eq k key ≡ false → span_at new k ≡ span_at old k
  at_other k is = set k ∙ ap (λ b. cond b (Some s) (span_at old k)) is

  pub set_there : span_at new key ≡ Some s
  set_there = elim (told key key) [ inl same ↦ at_key key same.0 | inr apart ↦ absurd (apart.1 refl) ]

  -- spans stay within the buffer and apart
  pub spans_set : (buffer buffer' : List ℕ) → AreSpans buffer old → length buffer ≤ length buffer' → IsInBuffer buffer' s
      → ((k : List ℕ) (t : Span) → k ≢ key → span_at old k ≡ Some t → IsApart s t) → AreSpans buffer' new
  spans_set buffer buffer' are longer within apart = record { within = all_within; apart = all_apart }
    where
      wider : (t : Span) → IsInBuffer buffer t → IsInBuffer buffer' t
      wider t w = record { len = w.len; end = omega (arith, w.end, longer); most = w.most }

      all_within : (k : List ℕ) (t : Span) → span_at new k ≡ Some t → IsInBuffer buffer' t
      all_within k t is = elim (told k key) [
        | inl same ↦ let one : s ≡ t = (let both : Some s ≡ Some t = sym (at_key k same.0) ∙ is in cc both) in subst (IsInBuffer buffer') one within
        | inr other ↦ wider t (are.within k t (sym (at_other k other.0) ∙ is))
      ]

      turned : (t u : Span) → IsApart t u → IsApart u t
      turned t u (inl before) = inr before
      turned t u (inr behind) = inl behind

      all_apart : (a b : List ℕ) (t u : Span) → a ≢ b → span_at new a ≡ Some t → span_at new b ≡ Some u → IsApart t u
      all_apart a b t u differ is is' = elim (told a key) [
        | inl same ↦
            let one : s ≡ t = (let both : Some s ≡ Some t = sym (at_key a same.0) ∙ is in cc both) in
            subst (λ x. IsApart x u) one (elim (told b key) [
              | inl same' ↦ absurd (differ (same.1 ∙ sym same'.1))
              | inr other ↦ apart b u other.1 (sym (at_other b other.0) ∙ is')
            ])
        | inr other ↦ elim (told b key) [
          | inl same ↦
              let one : s ≡ u = (let both : Some s ≡ Some u = sym (at_key b same.0) ∙ is' in cc both) in
              subst (IsApart t) one (turned s t (apart a t other.1 (sym (at_other a other.0) ∙ is)))
          | inr other' ↦ are.apart a b t u differ (sym (at_other a other.0) ∙ is) (sym (at_other b other'.0) ∙ is')
        ]
      ]

  -- the bytes of each file, where those of the one and of the others are told
  pub files_set : (buffer : List ℕ) (bytes : List ℕ → List ℕ) → buffer_part buffer s.from s.len ≡ bytes key
      → ((k : List ℕ) → k ≢ key → bytes_eq k key ≡ false → span_bytes buffer (span_at old k) ≡ bytes k) → (k : List ℕ) → span_bytes buffer (span_at new k) ≡ bytes k
  files_set buffer bytes here others k = elim (told k key) [
    | inl same ↦ ap (span_bytes buffer) (at_key k same.0) ∙ here ∙ ap bytes (sym same.1)
    | inr other ↦ ap (span_bytes buffer) (at_other k other.0) ∙ others k other.1 other.0
  ]

  -- place and room of each file, where those of the one stay
  pub stands_set : span_stand (span_at old key) ≡ Some (s.from, s.room) → (k : List ℕ) → stand_in new k ≡ stand_in old k
  stands_set same k = elim (told k key) [
    | inl one ↦ ap span_stand (at_key k one.0) ∙ sym same ∙ ap (stand_in old) (sym one.1)
    | inr other ↦ ap span_stand (at_other k other.0)
  ]

  -- place and room of each other file
  pub others_set : (k : List ℕ) → k ≢ key → stand_in new k ≡ stand_in old k
  others_set k other = elim (told k key) [ inl same ↦ absurd (other same.1) | inr apart ↦ ap span_stand (at_other k apart.0) ]

  -- each room stays or comes to twice as much, where that of the one does
  pub twice_set : 2 * span_room (span_at old key) ≤ s.room → (k : List ℕ) → GrowsTwice old new k
  twice_set more k = elim (told k key) [
    | inl same ↦ inr (subst (λ n. 2 * span_room (span_at old k) ≤ span_room n) (sym (at_key k same.0)) (subst (λ p. 2 * span_room (span_at old p) ≤ s.room) (sym same.1) more))
    | inr other ↦ inl (ap span_room (at_other k other.0))
  ]

  -- no room is lost
  pub rooms_set : span_room (span_at old key) ≤ s.room → (k : List ℕ) → span_room (span_at old k) ≤ span_room (span_at new k)
  rooms_set more k = elim (told k key) [
    | inl same ↦ subst (λ n. span_room (span_at old k) ≤ span_room n) (sym (at_key k same.0)) (subst (λ p. span_room (span_at old p) ≤ s.room) (sym same.1) more)
    | inr other ↦ subst (λ n. span_room (span_at old k) ≤ span_room n) (sym (at_other k other.0)) (let same : span_room (span_at old k) ≤ span_room (span_at old k) = omega arith in same)
  ]

-- files that keep their bytes and their room have room still
pub room_stays : (f g : Filed) → ((k : List ℕ) → bytes_in g k ≡ bytes_in f k) → ((k : List ℕ) → span_room (span_at f.spans k) ≤ span_room (span_at g.spans k)) → (k : List ℕ) → HasRoomIn f k → HasRoomIn g k
room_stays f g same more k has = subst (λ bytes. min (length bytes + most_written) most_file ≤ span_room (span_at g.spans k)) (sym (same k)) (omega (arith, has, more k))

-- a span's file is as long as the span says
pub length_part : (buffer : List ℕ) (s : Span) → IsInBuffer buffer s → length (buffer_part buffer s.from s.len) ≡ s.len
length_part buffer s w = length-take-le s.len (drop s.from buffer) (omega (arith, length-drop s.from buffer, w.len, w.end))

-- what stands in spans stays when the buffer grows
pub bytes_front : (buffer more : List ℕ) (spans : List Span) (k : List ℕ) → AreSpans buffer spans → span_bytes (buffer ++ more) (span_at spans k) ≡ span_bytes buffer (span_at spans k)
bytes_front buffer more spans k are = at (span_at spans k) (are.within k)
  where
    at : (o : Option Span) → ((s : Span) → o ≡ Some s → IsInBuffer buffer s) → span_bytes (buffer ++ more) o ≡ span_bytes buffer o
    at None within = refl
    at (Some s) within = let w = within s refl in part_front buffer more s.from s.len (omega (arith, w.len, w.end))

-- a file has room where its span has
pub room_there : (f : Filed) (key : List ℕ) (s : Span) → span_at f.spans key ≡ Some s → IsInBuffer f.buffer s → min (s.len + most_written) most_file ≤ s.room → HasRoomIn f key
room_there f key s there within enough =
    subst (λ o. min (length (span_bytes f.buffer o) + most_written) most_file ≤ span_room o) (sym there)
    (subst (λ n. min (n + most_written) most_file ≤ s.room) (sym (length_part f.buffer s within)) enough)

-- ---- a file that moves to the end

module _ (buffer new : List ℕ) (old spans : List Span) (key : List ℕ) (s moved : Span) (are : AreSpans buffer old) (there : span_at old key ≡ Some s) (set : IsSet old spans key moved)
    (grew : IsFrontOf buffer new) (copied : HasCopy buffer s.from s.len moved.room new) (from : moved.from ≡ length buffer) (len : moved.len ≡ s.len) (more : s.room ≤ moved.room) where
  pub moved_within : IsInBuffer new moved
  moved_within =
      let w = are.within key s there in
      record { len = omega (arith, w.len, len, more); end = omega (arith, copied.end, from); most = omega (arith, w.most, len) }

  pub moved_spans : AreSpans new spans
  moved_spans =
      spans_set old spans key moved set buffer new are (omega (arith, copied.end)) moved_within
      (λ k t other is. inr (let w = are.within k t is in omega (arith, w.end, from)))

  pub moved_files : (k : List ℕ) → span_bytes new (span_at spans k) ≡ span_bytes buffer (span_at old k)
  moved_files =
      files_set old spans key moved set new (λ k. span_bytes buffer (span_at old k))
      (ap (λ n. buffer_part new n moved.len) from ∙ ap (buffer_part new (length buffer)) len ∙ copied.copy ∙ sym (ap (span_bytes buffer) there))
      (λ k other apart. ap (λ b. span_bytes b (span_at old k)) grew.1 ∙ bytes_front buffer grew.0 old k are)

  pub moved_rooms : (k : List ℕ) → span_room (span_at old k) ≤ span_room (span_at spans k)
  moved_rooms = rooms_set old spans key moved set (subst (λ o. span_room o ≤ moved.room) (sym there) more)

-- ---- a file that is patched

-- a patch fits a span
pub record FitsSpan (s : Span) (p : Patch) : Type 0 where
  pub within : p.from ≤ s.len
  pub end : p.from + length p.bytes ≤ s.room
  pub most : p.from + length p.bytes ≤ most_file

pub fits_span : (f : Filed) (p : Patch) (s : Span) → FitsPatch f p → span_at f.spans p.key ≡ Some s → IsInBuffer f.buffer s → FitsSpan s p
fits_span f p s fits there within =
    let len : length (bytes_in f p.key) ≡ s.len = ap (λ o. length (span_bytes f.buffer o)) there ∙ length_part f.buffer s within in
    let room : min (length (bytes_in f p.key) + most_written) most_file ≤ s.room = subst (λ o. min (length (bytes_in f p.key) + most_written) most_file ≤ span_room o) there fits.room in
    record { within = omega (arith, fits.within, len); end = omega (arith, fits.within, fits.bytes, fits.end, len, room); most = fits.end }

module _ (buffer : List ℕ) (old spans : List Span) (p : Patch) (s written : Span) (are : AreSpans buffer old) (there : span_at old p.key ≡ Some s) (set : IsSet old spans p.key written)
    (fits : FitsSpan s p) (from : written.from ≡ s.from) (len : written.len ≡ max s.len (p.from + length p.bytes)) (room : written.room ≡ s.room) where
  abbrev new : List ℕ
  new = over buffer (s.from + p.from) p.bytes

  own : IsInBuffer buffer s
  own = are.within p.key s there

  long : length new ≡ length buffer
  long = let w = own in length_over buffer p.bytes (s.from + p.from) (omega (arith, w.end, fits.end))

  pub written_spans : AreSpans new spans
  written_spans =
      let w = own in
      spans_set old spans p.key written set buffer new are (omega (arith, long))
      (record { len = omega (arith, w.len, fits.end, len, room); end = omega (arith, w.end, from, room, long); most = omega (arith, w.most, fits.most, len) })
      (λ k t other is. elim (are.apart p.key k s t (λ same. other (sym same)) there is) [ inl before ↦ inl (omega (arith, before, from, room)) | inr behind ↦ inr (omega (arith, behind, from)) ])

  beside : (k : List ℕ) → k ≢ p.key → span_bytes new (span_at old k) ≡ span_bytes buffer (span_at old k)
  beside k other = at (span_at old k) refl
    where
      at : (o : Option Span) → span_at old k ≡ o → span_bytes new o ≡ span_bytes buffer o
      at None is = refl
      at (Some t) is =
          let w = own in
          let v = are.within k t is in
          elim (are.apart p.key k s t (λ same. other (sym same)) there is) [
            | inl before ↦ part_after buffer p.bytes (s.from + p.from) t.from t.len (omega (arith, before, fits.end)) (omega (arith, w.end, fits.end))
            | inr behind ↦ part_before buffer p.bytes (s.from + p.from) t.from t.len (omega (arith, behind, v.len)) (omega (arith, w.end, fits.end))
          ]

  pub written_files : (k : List ℕ) → span_bytes new (span_at spans k) ≡ patched_at (Some p) k (span_bytes buffer (span_at old k))
  written_files =
      files_set old spans p.key written set new (λ k. patched_at (Some p) k (span_bytes buffer (span_at old k)))
      (let w = own in
      ap (λ n. buffer_part new n written.len) from ∙ part_written buffer p.bytes s.from s.len p.from written.len fits.within (omega (arith, w.len, w.end)) len
      ∙ ap (λ b. over b p.from p.bytes) (sym (ap (span_bytes buffer) there)) ∙ sym (at_own (bytes_eq p.key p.key) refl))
      (λ k other apart. beside k other ∙ sym (ap (λ b. cond b (over (span_bytes buffer (span_at old k)) p.from p.bytes) (span_bytes buffer (span_at old k))) apart))
    where
      at_own : (b : Bool) → bytes_eq p.key p.key ≡ b → cond b (over (span_bytes buffer (span_at old p.key)) p.from p.bytes) (span_bytes buffer (span_at old p.key)) ≡ over (span_bytes buffer (span_at old p.key)) p.from p.bytes
      at_own true is = refl
      at_own false is = absurd (two_paths p.key p.key is refl)
