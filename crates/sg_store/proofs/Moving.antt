-- What a move of a file, and a patch of it, do to all files.
use Rattle.std.proofs.Common.{◌≡◌, ℕ, ◌+◌, ◌*◌, ◌<◌, ◌≤◌, List, Some, length, refl, sym, ◌∙◌, ap, subst, arith}
use Rattle.std.specs.Prelude.{◌≢◌, max, min}
use Rattle.sg_facts.specs.declared.outcome.Patch.{Patch}
use Rattle.sg_facts.specs.Limits.{most_file, most_written}
use Rattle.sg_facts.specs.Object.{over}
use Rattle.sg_store.specs.declared.places.FilePlace.{FilePlace}
use Rattle.sg_store.specs.Spans.{Filed, FitsPatch, GrowsTwice, HasRoomIn, Span, bytes_in, patched_at, span_at, span_bytes, span_room, span_stand, stand_in}
use Rattle.sg_store.specs.Inside.Buffers.{IsFrontOf, HasCopy}
use Rattle.sg_store.specs.Inside.Places.{AreSpans, HasSpan, span_of}
use Rattle.sg_store.proofs.Spots.{IsSet, fits_span, length_part, moved_files, moved_rooms, moved_spans, moved_within, others_set, room_stays, room_there, set_there, stands_set, twice_set, written_files, written_spans}

-- the files stay, one of them with room
pub record Moves (old new : Filed) (key : List ℕ) : Type 0 where
  pub spans : AreSpans new.buffer new.spans
  pub files : (k : List ℕ) → bytes_in new k ≡ bytes_in old k
  pub rooms : (k : List ℕ) → HasRoomIn old k → HasRoomIn new k
  pub room : HasRoomIn new key
  pub twice : (k : List ℕ) → GrowsTwice old.spans new.spans k
  pub others : (k : List ℕ) → k ≢ key → stand_in new.spans k ≡ stand_in old.spans k

moves_own : (f g : Filed) (key : List ℕ) (s moved : Span) → AreSpans f.buffer f.spans → span_at f.spans key ≡ Some s → IsSet f.spans g.spans key moved → IsFrontOf f.buffer g.buffer
    → HasCopy f.buffer s.from s.len moved.room g.buffer → moved.from ≡ length f.buffer → moved.len ≡ s.len → 2 * s.room ≤ moved.room → min (moved.len + most_written) most_file ≤ moved.room
    → Moves f g key
moves_own f g key s moved are there set grew copied from len twice enough =
    let more : s.room ≤ moved.room = omega (arith, twice) in
    let files = moved_files f.buffer g.buffer f.spans g.spans key s moved are there set grew copied from len more in
    let within = moved_within f.buffer g.buffer f.spans g.spans key s moved are there set grew copied from len more in
    record {
      spans = moved_spans f.buffer g.buffer f.spans g.spans key s moved are there set grew copied from len more;
      files = files;
      rooms = room_stays f g files (moved_rooms f.buffer g.buffer f.spans g.spans key s moved are there set grew copied from len more);
      room = room_there g key moved (set_there f.spans g.spans key moved set) within enough;
      twice = twice_set f.spans g.spans key moved set (subst (λ o. 2 * span_room o ≤ moved.room) (sym there) twice);
      others = others_set f.spans g.spans key moved set;
    }

-- a file moves to the end of the buffer
pub moves : (f now g : Filed) (key key' : List ℕ) (place : FilePlace) (end room : ℕ) → f ≡ now → AreSpans f.buffer f.spans → HasSpan now.spans key place → key' ≡ key
    → IsSet f.spans g.spans key' (span_of key' (record { from = end; len = place.len; room = room })) → IsFrontOf f.buffer g.buffer → HasCopy f.buffer place.from place.len room g.buffer
    → end ≡ length f.buffer → 2 * place.room ≤ room → min (place.len + most_written) most_file ≤ room → Moves now g key
moves f now g key key' place end room view are there same set grew copied is more enough =
    subst (λ x. Moves x g key) view (moves_own f g key (span_of key place) (span_of key (record { from = end; len = place.len; room = room })) are
    (subst (λ x. span_at x.spans key ≡ Some (span_of key place)) (sym view) there)
    (subst (λ p. IsSet f.spans g.spans p (span_of p (record { from = end; len = place.len; room = room }))) same set) grew copied is refl more enough)

-- ---- who has room enough isn't moved

room_of : (f : Filed) (key : List ℕ) (place : FilePlace) → AreSpans f.buffer f.spans → span_at f.spans key ≡ Some (span_of key place) → HasRoomIn f key → min (place.len + most_written) most_file ≤ place.room
room_of f key place are there has =
    let s = span_of key place in
    subst (λ n. min (n + most_written) most_file ≤ place.room) (length_part f.buffer s (are.within key s there))
    (subst (λ o. min (length (span_bytes f.buffer o) + most_written) most_file ≤ span_room o) there has)

-- a file that has room is another than one that has too little
pub other_than_small : (f now : Filed) (key key' : List ℕ) (place : FilePlace) (needed : ℕ) → f ≡ now → AreSpans f.buffer f.spans → key' ≡ key → Some (span_of key' place) ≡ span_at f.spans key'
    → needed ≡ min (place.len + most_written) most_file → place.room < needed → (k : List ℕ) → HasRoomIn now k → k ≢ key
other_than_small f now key key' place needed view are key_is there is small k has same =
    let own : HasRoomIn f key' = subst (λ x. HasRoomIn x key') (sym view) (subst (HasRoomIn now) (same ∙ sym key_is) has) in
    let enough = room_of f key' place are (sym there) own in
    omega (arith, small, is, enough)

-- the files after a patch
pub record Writes (old new : Filed) (p : Patch) : Type 0 where
  pub spans : AreSpans new.buffer new.spans
  pub files : (k : List ℕ) → bytes_in new k ≡ patched_at (Some p) k (bytes_in old k)
  pub stands : (k : List ℕ) → stand_in new.spans k ≡ stand_in old.spans k

-- a patch is written into its file
pub writes : (f now g : Filed) (p : Patch) (key : List ℕ) (place : FilePlace) (bytes : List ℕ) (len : ℕ) → f ≡ now → AreSpans f.buffer f.spans → FitsPatch now p → key ≡ p.key → bytes ≡ p.bytes
    → Some (span_of key place) ≡ span_at f.spans key → IsSet f.spans g.spans key (span_of key (record { from = place.from; len = len; room = place.room }))
    → g.buffer ≡ over f.buffer (place.from + p.from) bytes → len ≡ max place.len (p.from + length bytes) → Writes now g p
writes f now g p key place bytes len view are fits same same' there set written is =
    let s = span_of p.key place in
    let longer = span_of p.key (record { from = place.from; len = len; room = place.room }) in
    let there' : span_at f.spans p.key ≡ Some s = subst (λ k. span_at f.spans k ≡ Some (span_of k place)) same (sym there) in
    let set' = subst (λ k. IsSet f.spans g.spans k (span_of k (record { from = place.from; len = len; room = place.room }))) same set in
    let fits' = fits_span f p s (subst (λ x. FitsPatch x p) (sym view) fits) there' (are.within p.key s there') in
    let is' : len ≡ max place.len (p.from + length p.bytes) = is ∙ ap (λ b. max place.len (p.from + length b)) same' in
    let written' : g.buffer ≡ over f.buffer (place.from + p.from) p.bytes = written ∙ ap (over f.buffer (place.from + p.from)) same' in
    subst (λ x. Writes x g p) view (record {
      spans = subst (λ b. AreSpans b g.spans) (sym written') (written_spans f.buffer f.spans g.spans p s longer are there' set' fits' refl is' refl);
      files = λ k. ap (λ b. bytes_in (record { buffer = b; spans = g.spans }) k) written' ∙ written_files f.buffer f.spans g.spans p s longer are there' set' fits' refl is' refl k;
      stands = stands_set f.spans g.spans p.key longer set' (ap span_stand there');
    })
