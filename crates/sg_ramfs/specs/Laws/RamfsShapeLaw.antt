-- The shape of the file service, and its answers, keep to what every shape allows; and its places count slowly.
use Rattle.std.proofs.Common.{◌≡◌, ℕ, zero, suc, ◌+◌, ◌<◌, ◌≤◌, Bool, true, false, cond, List, [], ◌∷◌, ◌++◌, None, Some, length, map, max, refl, subst, arith}
use Rattle.std.specs.Prelude.{◌==◌, ◌||◌, if◌then◌else◌}
use Rattle.std.proofs.lemmas.Bool.Decides.{nat_tests}
use Rattle.std.specs.declared.option.Option.{Option}
use Rattle.sg_facts.specs.sg_base.declared.value.Value.{Value}
use Rattle.sg_facts.specs.sg_base.declared.call.Call.{Call}
use Rattle.sg_facts.specs.sg_base.declared.reply.Code.{Code}
use Rattle.sg_facts.specs.sg_base.declared.reply.Good.{Good}
use Rattle.sg_facts.specs.sg_base.declared.reply.Reply.{Reply}
use Rattle.sg_facts.specs.sg_base.declared.reply.Reply.TheVariants.{Ok, Refused}
use Rattle.sg_facts.specs.declared.row.Row.{Row}
use Rattle.sg_facts.specs.Allowed.{is_replayed, wants_word}
use Rattle.sg_facts.specs.Counted.{most_counted, most_in}
use Rattle.sg_facts.specs.Facts.{fun_at}
use Rattle.sg_facts.specs.Guard.{is_guards}
use Rattle.sg_facts.specs.Laws.{CountsSlowly, ShapeAllows, most_set, slow}
use Rattle.sg_facts.specs.Limits.{most_file}
use Rattle.sg_facts.specs.Object.{Object, after}
use Rattle.sg_facts.specs.Sound.{AreFields, AreRows, IsRow}
use Rattle.sg_facts.specs.Track.{arg_at, field_at, new_row, word_of}
use Rattle.sg_facts.specs.Inside.Rows.{row_after}
use Rattle.sg_facts.proofs.RowLists.{both}
use Rattle.sg_ramfs.specs.RamfsFacts.{ramfs_facts}
use Rattle.sg_ramfs.specs.Inside.RamfsReplies.{IsGiven, always_answered, is_given}
use Rattle.sg_ramfs.specs.RamfsSound.{IsPlaced, IsRamfsSound}
use Rattle.sg_ramfs.specs.Laws.RamfsSoundLaw.{ramfs_answers_and_keeps}
use Rattle.sg_ramfs.specs.RamfsTable.{ramfs_table}

-- ---- the shape

not_guards : (wants : Bool) (answer : Option Reply) → IsGiven wants answer → (code : Code) → answer ≡ Some (Refused code) → is_guards code ≡ false
not_guards wants None given code is = absurd given
not_guards wants (Some (Ok good)) given code is = absurd (cc is)
not_guards true (Some (Refused cause)) given code is = let one : cause ≡ code = cc is in subst (λ c. is_guards c ≡ false) one given
not_guards false (Some (Refused cause)) given code is = let one : cause ≡ code = cc is in subst (λ c. is_guards c ≡ false) one given

with_word : (wants : Bool) (answer : Option Reply) → IsGiven wants answer → wants ≡ true → (good : Good) → answer ≡ Some (Ok good) → 0 < length good.words
with_word wants None given wanted good is = absurd given
with_word false answer given wanted good is = absurd (cc wanted)
with_word true (Some (Refused cause)) given wanted good is = absurd (cc is)
with_word true (Some (Ok told)) given wanted good is = let one : told ≡ good = cc is in subst (λ g. 0 < length g.words) one given

-- the file service has a shape that is allowed, no call blocks, no refusal is the guard's,
-- and an Ok has a word where a field takes one
pub ramfs_shape_allows : ShapeAllows ramfs_facts ramfs_table
ramfs_shape_allows = record {
  shape = refl;
  blocks = λ o call is. absurd (always_answered o call is);
  refuses = λ o call code is. not_guards (wants_word (fun_at ramfs_facts.funs call.fun)) (ramfs_table o call) (is_given o call) code is;
  words = λ o call good is wants. with_word (wants_word (fun_at ramfs_facts.funs call.fun)) (ramfs_table o call) (is_given o call) wants good is;
}

-- ---- counted words

-- the place of a row is its one counted word
place_counts : (fields : List Value) → AreFields ramfs_facts.fields fields → word_of (field_at fields 1) ≤ most_file → most_in ramfs_facts 0 fields ≤ slow
place_counts [] are few = absurd are
place_counts (v ∷ []) are few = absurd are.1
place_counts (v ∷ w ∷ x ∷ fields) are few = absurd are.1.1
place_counts (v ∷ w ∷ []) are few =
    let is : most_in ramfs_facts 0 (v ∷ w ∷ []) ≡ max 0 (max (word_of w) 0) = refl in
    omega (arith, is, few)

-- what is sound has no word near the end
sound_counts : (rows among : List Row) (low high : ℕ) → AreRows (λ r. IsRow ramfs_facts among r × IsPlaced among r) low high rows → most_counted ramfs_facts rows ≤ slow
sound_counts [] among low high are = omega arith
sound_counts (r ∷ rows) among low high are =
    let own = place_counts r.fields are.2.0.fields are.2.1.offset in
    let rest = sound_counts rows among r.id high are.3 in
    omega (arith, own, rest)

calls_slowly : (o : Object) → IsRamfsSound o → most_counted ramfs_facts o.rows ≤ slow
calls_slowly o sound = sound_counts o.rows o.rows 0 o.given (both (IsRow ramfs_facts o.rows) (IsPlaced o.rows) 0 o.given o.rows sound.general.rows sound.placed)

-- a new row has its place at 0
made_counts : (rows : List Row) (new : Row) → most_in ramfs_facts 0 new.fields ≤ 0 → most_counted ramfs_facts (rows ++ new ∷ []) ≤ most_counted ramfs_facts rows
made_counts [] new none = omega (arith, none)
made_counts (r ∷ rows) new none = let rest = made_counts rows new none in omega (arith, rest)

-- a place that is sought is the argument, whatever stood there
sought_counts : (fields : List Value) (call : Call) (good : Good) (most : ℕ) → word_of (arg_at call 0) ≤ most → most_in ramfs_facts 0 fields ≤ most
    → most_in ramfs_facts 0 (row_after ramfs_facts (record call { fun = 4 }) good (record { id = 0; made = 0; creator = 0; parent = 0; state = 0; fields = fields })).fields ≤ most
sought_counts [] call good most arg was = was
sought_counts (v ∷ []) call good most arg was = was
sought_counts (v ∷ w ∷ fields) call good most arg was =
    let before : most_in ramfs_facts 0 (v ∷ w ∷ fields) ≡ max 0 (max (word_of w) (most_in ramfs_facts 2 fields)) = refl in
    let now : most_in ramfs_facts 0 (row_after ramfs_facts (record call { fun = 4 }) good (record { id = 0; made = 0; creator = 0; parent = 0; state = 0; fields = v ∷ w ∷ fields })).fields
    ≡ max 0 (max (word_of (arg_at call 0)) (most_in ramfs_facts 2 fields)) = refl in
    omega (arith, before, now, arg, was)

-- no function is replayed that the service hasn't
none_more : (n : ℕ) → is_replayed ramfs_facts (suc (suc (suc (suc (suc (suc n)))))) ≡ true → ⊥
none_more n replayed = at (4 == suc (suc (suc (suc (suc (suc n)))))) refl replayed
  where
    at : (b : Bool) → (4 == suc (suc (suc (suc (suc (suc n)))))) ≡ b → (b || false) ≡ true → ⊥
    at true is replayed = let same : 4 ≡ suc (suc (suc (suc (suc (suc n))))) = grind (arith, nat_tests, is) in omega (arith, same)
    at false is replayed = cc replayed

module _ (client seq desc : ℕ) (args : List Value) where
  abbrev call_of : ℕ → Call
  call_of fun = record { client = client; seq = seq; fun = fun; desc = desc; args = args }

  all_sought : (rows : List Row) (good : Good) (most : ℕ) → word_of (arg_at (call_of 4) 0) ≤ most → most_counted ramfs_facts rows ≤ most
      → most_counted ramfs_facts (map (λ r. if r.id == desc then row_after ramfs_facts (call_of 4) good r else r) rows) ≤ most
  all_sought [] good most arg was = was
  all_sought (r ∷ rows) good most arg was =
      at (r.id == desc) (all_sought rows good most arg (omega (arith, was))) (sought_counts r.fields (call_of 4) good most arg (omega (arith, was)))
    where
      further : List Row
      further = map (λ x. if x.id == desc then row_after ramfs_facts (call_of 4) good x else x) rows

      at : (b : Bool) → most_counted ramfs_facts further ≤ most → most_in ramfs_facts 0 (row_after ramfs_facts (call_of 4) good r).fields ≤ most
          → most_counted ramfs_facts (cond b (row_after ramfs_facts (call_of 4) good r) r ∷ further) ≤ most
      at true rest own = omega (arith, rest, own)
      at false rest own = omega (arith, rest, was)

  replays_at : (fun : ℕ) (o : Object) (good : Good) → is_replayed ramfs_facts fun ≡ true
      → most_counted ramfs_facts (after ramfs_facts o (call_of fun) (Ok good)).rows ≤ max (max slow (most_set ramfs_facts (call_of fun) (fun_at ramfs_facts.funs fun).effects)) (most_counted ramfs_facts o.rows + 1)
  replays_at zero o good replayed = absurd (cc replayed)
  replays_at (suc zero) o good replayed =
      let made = made_counts o.rows (new_row ramfs_facts (call_of 1) good) (omega arith) in
      omega (arith, made)
  replays_at (suc (suc zero)) o good replayed = absurd (cc replayed)
  replays_at (suc (suc (suc zero))) o good replayed = absurd (cc replayed)
  replays_at (suc (suc (suc (suc zero)))) o good replayed =
      let arg : most_set ramfs_facts (call_of 4) (fun_at ramfs_facts.funs 4).effects ≡ max (word_of (arg_at (call_of 4) 0)) 0 = refl in
      let sought = all_sought o.rows good (max (word_of (arg_at (call_of 4) 0)) (most_counted ramfs_facts o.rows)) (omega arith) (omega arith) in
      omega (arith, arg, sought)
  replays_at (suc (suc (suc (suc (suc zero))))) o good replayed = absurd (cc replayed)
  replays_at (suc (suc (suc (suc (suc (suc n)))))) o good replayed = absurd (none_more n replayed)

-- the counted words of the file service, the places in open files, rise slowly
pub ramfs_counts_slowly : CountsSlowly ramfs_facts ramfs_table IsRamfsSound
ramfs_counts_slowly = record {
  calls = λ o call good sound passes is.
      let keeps = ramfs_answers_and_keeps.keeps o call good sound passes is in
      let few = calls_slowly (after ramfs_facts o call (Ok good)) keeps in
      omega (arith, few);
  replays = λ held call good may replayed is. replays_at call.client call.seq call.desc call.args call.fun held good replayed;
}
