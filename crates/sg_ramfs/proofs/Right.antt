-- What is done with a call is what the table says.
use Rattle.std.proofs.Common.{◌≡◌, ℕ, ◌+◌, ◌<◌, ◌≤◌, Bool, true, false, cond, not, List, [], ◌∷◌, ◌++◌, None, Some, IfSome, length, min, map, filter, take, drop, refl, sym, ◌∙◌, ap, subst, arith}
use Rattle.std.specs.Prelude.{◌==◌, ◌||◌, if◌then◌else◌, nat_lt, slice_get, unwrap_or}
use Rattle.std.specs.Option.{option_map}
use Rattle.std.specs.declared.option.Option.{Option}
use Rattle.std.proofs.lemmas.Bool.Decides.{nat_tests}
use Rattle.std.proofs.lemmas.List.{length-take}
use Rattle.sg_facts.specs.sg_base.declared.value.Value.{Value}
use Rattle.sg_facts.specs.sg_base.declared.value.Value.TheVariants.{Word, Text}
use Rattle.sg_facts.specs.sg_base.declared.call.Call.{Call}
use Rattle.sg_facts.specs.sg_base.declared.reply.Code.TheVariants.{TooBig, BadName}
use Rattle.sg_facts.specs.sg_base.declared.reply.Good.{Good}
use Rattle.sg_facts.specs.sg_base.declared.reply.Reply.{Reply}
use Rattle.sg_facts.specs.sg_base.declared.reply.Reply.TheVariants.{Ok, Refused}
use Rattle.sg_facts.specs.sg_base.Reply.{FitsReplyRoom}
use Rattle.sg_facts.specs.sg_base.Stops.{asked_after}
use Rattle.sg_facts.specs.declared.outcome.Outcome.{Outcome}
use Rattle.sg_facts.specs.declared.outcome.Outcome.TheVariants.{Replied, Blocks, Stopped, NoMemory}
use Rattle.sg_facts.specs.Facts.{fun_at}
use Rattle.sg_facts.specs.Invoke.{FitsRoom, Invokes, Points, parts_of}
use Rattle.sg_facts.specs.Kinds.{kinds_fit}
use Rattle.sg_facts.specs.Legal.{done}
use Rattle.sg_facts.specs.Limits.{most_path, most_file}
use Rattle.sg_facts.specs.Object.{Object, after, file_at, first_text, patch_of, path_of, place_of}
use Rattle.sg_facts.specs.Track.{arg_at, word_of}
use Rattle.sg_facts.specs.Inside.Rows.{row_after}
use Rattle.sg_slots.specs.declared.decision.Decision.{Decision}
use Rattle.sg_slots.specs.declared.decision.Decision.TheVariants.{Refuse, Block, Make, Enlist, Set, Keep, Remove}
use Rattle.sg_slots.specs.Carry.{Carries, IsCut, held_after, ok_reply, parts_in, reply_to}
use Rattle.sg_slots.specs.Slots.{Held, entry_at, row_with}
use Rattle.sg_slots.proofs.Rows.{rows_of-more, rows_of-set, rows_of-without}
use Rattle.sg_ramfs.specs.declared.open_file.OpenFile.{OpenFile}
use Rattle.sg_ramfs.specs.declared.plan.ReadPlan.{ReadPlan}
use Rattle.sg_ramfs.specs.Inside.RamfsDecision.{on_open, on_read, on_seek, with_bytes, CarriesBytes}
use Rattle.sg_ramfs.specs.RamfsFacts.{ramfs_facts}
use Rattle.sg_ramfs.specs.Inside.RamfsAnswer.{tread, most_read, read_answer}
use Rattle.sg_ramfs.specs.RamfsObject.{object_with}
use Rattle.sg_ramfs.specs.RamfsRow.{file_body}
use Rattle.sg_ramfs.specs.RamfsTable.{is_bad_name, moved, ramfs_parts, ramfs_table}
use Rattle.sg_ramfs.specs.Inside.RamfsTree.{IsTree, tree_rows}
use Rattle.sg_ramfs.proofs.Trees.{file_row}

module _ (held : Held OpenFile) (files : List (List ℕ × List ℕ)) (call : Call) where
  abbrev o : Object
  o = object_with held files

  -- the decision is the right one, where its reply carries bytes
  pub record IsRight (d : Decision OpenFile) (bytes : List ℕ) : Type 0 where
    pub answered : ramfs_table o call ≡ option_map (λ r. with_bytes r bytes) (reply_to held d)
    pub changed : IfSome (reply_to held d) (λ r. object_with (held_after held call.desc d) files ≡ after ramfs_facts o call (with_bytes r bytes))
    pub parted : IfSome (reply_to held d) (λ r. parts_in d ≡ parts_of ramfs_parts call (with_bytes r bytes))
    pub unwritten : (reply : Reply) → patch_of ramfs_facts o call reply ≡ None
    pub room : IfSome (reply_to held d) (λ r. FitsReplyRoom (with_bytes r bytes))

  -- what a call may do, by its outcome
  abbrev pub Does : Points → Outcome → Held OpenFile → List (List ℕ × List ℕ) → Points → Type 0
  Does points outcome new files' later = Invokes ramfs_facts ramfs_table ramfs_parts o call points outcome (object_with new files') later × FitsRoom o outcome

  -- a decision with parts is answered by an Ok
  answers_ok : (d : Decision OpenFile) → 0 < parts_in d → (good : Good) × (reply_to held d ≡ Some (Ok good))
  answers_ok (Refuse code) parts = absurd (omega (arith, parts))
  answers_ok Block parts = absurd (omega (arith, parts))
  answers_ok (Make f word) parts = (_, refl)
  answers_ok (Enlist f word) parts = (_, refl)
  answers_ok (Set f word) parts = (_, refl)
  answers_ok (Keep desc word) parts = absurd (omega (arith, parts))
  answers_ok Remove parts = (_, refl)

  -- so what is carried out is what the call may do
  module _ (d : Decision OpenFile) (bytes : List ℕ) (right : IsRight d bytes) (points : Points) where
    replied : (reply plain : Reply) (new : Held OpenFile) (later : Points) → CarriesBytes held call.desc d bytes points (Replied reply None) new later → Does points (Replied reply None) new files later
    replied reply plain new later carried =
        let is = carried.1.answered in
        let changed : object_with (held_after held call.desc d) files ≡ after ramfs_facts o call (with_bytes carried.0 bytes) =
        subst (λ x. IfSome x (λ r. object_with (held_after held call.desc d) files ≡ after ramfs_facts o call (with_bytes r bytes))) is right.changed in
        let parted : parts_in d ≡ parts_of ramfs_parts call (with_bytes carried.0 bytes) = subst (λ x. IfSome x (λ r. parts_in d ≡ parts_of ramfs_parts call (with_bytes r bytes))) is right.parted in
        let room : FitsReplyRoom (with_bytes carried.0 bytes) = subst (λ x. IfSome x (λ r. FitsReplyRoom (with_bytes r bytes))) is right.room in (
          record {
            answered = right.answered ∙ ap (option_map (λ r. with_bytes r bytes)) is ∙ ap Some (sym carried.2);
            changed = ap (λ h. object_with h files) carried.1.changed ∙ changed ∙ ap (after ramfs_facts o call) (sym carried.2);
            written = sym (right.unwritten reply);
            asked = carried.1.asked ∙ ap (asked_after points.asked) (parted ∙ ap (parts_of ramfs_parts call) (sym carried.2));
            struck = carried.1.struck;
          },
          (subst FitsReplyRoom (sym carried.2) room, tt),
        )

    stopped : (new : Held OpenFile) (later : Points) → IsCut d points later → Does points Stopped new files later
    stopped new later cut =
        let good = answers_ok d (let first = cut.first in let last = cut.last in omega (arith, first, last)) in
        let parted : parts_in d ≡ ramfs_parts call.fun = subst (λ x. IfSome x (λ r. parts_in d ≡ parts_of ramfs_parts call (with_bytes r bytes))) good.1 right.parted in (
          record {
            answered = (record good.0 { bytes = bytes }, right.answered ∙ ap (option_map (λ r. with_bytes r bytes)) good.1);
            first = cut.first;
            last = let last = cut.last in omega (arith, last, parted);
            struck = cut.struck;
          },
          tt,
        )

    pub carried_out : (outcome : Outcome) (new : Held OpenFile) (later : Points) → CarriesBytes held call.desc d bytes points outcome new later → Does points outcome new files later
    carried_out (Replied reply None) new later carried = replied reply reply new later carried
    carried_out (Replied reply (Some patch)) new later carried = absurd carried
    carried_out Blocks new later carried =
        ((right.answered ∙ ap (option_map (λ r. with_bytes r bytes)) carried.0, record { same = ap (λ h. object_with h files) carried.1.same; unasked = carried.1.unasked }), tt)
    carried_out Stopped new later carried = stopped new later carried
    carried_out NoMemory new later carried = (record { same = ap (λ h. object_with h files) carried.same; unasked = carried.unasked }, tt)

  -- a decision's own reply has no bytes
  no_bytes : (d : Decision OpenFile) (reply : Reply) → reply_to held d ≡ Some reply → reply ≡ with_bytes reply []
  no_bytes (Refuse code) reply is = let one : Refused code ≡ reply = cc is in subst (λ r. r ≡ with_bytes r []) one refl
  no_bytes Block reply is = absurd (cc is)
  no_bytes (Make f word) reply is = let one : ok_reply (held.given + 1) word ≡ reply = cc is in subst (λ r. r ≡ with_bytes r []) one refl
  no_bytes (Enlist f word) reply is = let one : ok_reply (held.given + 1) word ≡ reply = cc is in subst (λ r. r ≡ with_bytes r []) one refl
  no_bytes (Set f word) reply is = let one : ok_reply 0 word ≡ reply = cc is in subst (λ r. r ≡ with_bytes r []) one refl
  no_bytes (Keep desc word) reply is = let one : ok_reply desc word ≡ reply = cc is in subst (λ r. r ≡ with_bytes r []) one refl
  no_bytes Remove reply is = let one : ok_reply 0 None ≡ reply = cc is in subst (λ r. r ≡ with_bytes r []) one refl

  pub plainly : (d : Decision OpenFile) (points : Points) (outcome : Outcome) (new : Held OpenFile) (later : Points) → Carries held call.desc d points outcome new later → CarriesBytes held call.desc d [] points outcome new later
  plainly d points (Replied reply None) new later carried = (reply, carried, no_bytes d reply carried.answered)
  plainly d points (Replied reply (Some patch)) new later carried = absurd carried
  plainly d points Blocks new later carried = carried
  plainly d points Stopped new later carried = carried
  plainly d points NoMemory new later carried = carried

-- ---- functions

-- a new name is the argument
name_is : (args : List Value) → kinds_fit (fun_at ramfs_facts.funs 1).kinds args ≡ true → Text (first_text args) ≡ unwrap_or (slice_get args 0) (Word 0)
name_is [] fit = absurd (cc fit)
name_is (Word n ∷ args) fit = absurd (cc fit)
name_is (Text bytes ∷ args) fit = refl

-- a place that is sought is a word
place_is : (args : List Value) → kinds_fit (fun_at ramfs_facts.funs 4).kinds args ≡ true → unwrap_or (slice_get args 0) (Word 0) ≡ Word (word_of (unwrap_or (slice_get args 0) (Word 0)))
place_is [] fit = absurd (cc fit)
place_is (Text bytes ∷ args) fit = absurd (cc fit)
place_is (Word n ∷ args) fit = refl

module _ (held : Held OpenFile) (files : List (List ℕ × List ℕ)) (client seq desc : ℕ) (args : List Value) where
  abbrev pub call_of : ℕ → Call
  call_of fun = record { client = client; seq = seq; fun = fun; desc = desc; args = args }

  abbrev its_object : Object
  its_object = object_with held files

  abbrev pub path : List ℕ
  path = path_of (tree_rows held) desc

  abbrev pub file : List ℕ
  file = file_at files path

  -- functions that write no file
  none_split : (reply : Reply) → patch_of ramfs_facts its_object (call_of 1) reply ≡ None
  none_split (Ok good) = refl
  none_split (Refused code) = refl

  none_read : (reply : Reply) → patch_of ramfs_facts its_object (call_of 2) reply ≡ None
  none_read (Ok good) = refl
  none_read (Refused code) = refl

  none_seek : (reply : Reply) → patch_of ramfs_facts its_object (call_of 4) reply ≡ None
  none_seek (Ok good) = refl
  none_seek (Refused code) = refl

  none_release : (reply : Reply) → patch_of ramfs_facts its_object (call_of 5) reply ≡ None
  none_release (Ok good) = refl
  none_release (Refused code) = refl

  pub split_right : kinds_fit (fun_at ramfs_facts.funs 1).kinds args ≡ true → IsRight held files (call_of 1) (on_open held (call_of 1)) []
  split_right fit = at (is_bad_name name) (nat_lt most_path (length (path ++ 47 ∷ name))) refl refl
    where
      name : List ℕ
      name = first_text args

      asked : (bad long : Bool) → is_bad_name name ≡ bad → nat_lt most_path (length (path ++ 47 ∷ name)) ≡ long
          → ramfs_table its_object (call_of 1) ≡ cond bad (Some (Refused BadName)) (cond long (Some (Refused TooBig)) (done (held.given + 1)))
      asked bad long bad_is long_is =
          ap (λ b. cond b (Some (Refused BadName)) (cond (nat_lt most_path (length (path ++ 47 ∷ name))) (Some (Refused TooBig)) (done (held.given + 1)))) bad_is
          ∙ ap (λ b. cond bad (Some (Refused BadName)) (cond b (Some (Refused TooBig)) (done (held.given + 1)))) long_is

      at : (bad long : Bool) → is_bad_name name ≡ bad → nat_lt most_path (length (path ++ 47 ∷ name)) ≡ long
          → IsRight held files (call_of 1) (cond bad (Refuse BadName) (cond long (Refuse TooBig) (Make (record { creator = client; parent = desc; name = first_text args; place = 0 }) None))) []
      at true long bad_is long_is = record { answered = asked true long bad_is long_is; changed = refl; parted = refl; unwritten = none_split; room = tt }
      at false true bad_is long_is = record { answered = asked false true bad_is long_is; changed = refl; parted = refl; unwritten = none_split; room = tt }
      at false false bad_is long_is = record {
        answered = asked false false bad_is long_is;
        changed = ap (λ rows. record { rows = rows; files = files; given = held.given + 1 })
            (rows_of-more file_body held.entries (held.given + 1) (record { creator = client; parent = desc; name = first_text args; place = 0 })
            ∙ ap (λ v. tree_rows held ++ record { id = held.given + 1; made = 1; creator = client; parent = desc; state = 1; fields = v ∷ Word 0 ∷ [] } ∷ []) (name_is args fit));
        parted = refl;
        unwritten = none_split;
        room = (omega arith, omega arith);
      }

  module _ (tree : IsTree held) (f : OpenFile) (there : entry_at held.entries desc ≡ Some f) where
    -- an open file is set to what its row becomes
    pub moves : (fun : ℕ) (good : Good) (place : ℕ) → row_after ramfs_facts (call_of fun) good (row_with desc (file_body f)) ≡ row_with desc (file_body (record f { place = place })) → (word : Option ℕ)
        → tree_rows (held_after held desc (Set (record f { place = place }) word)) ≡ map (λ r. if r.id == desc then row_after ramfs_facts (call_of fun) good r else r) (tree_rows held)
    moves fun good place turns word = rows_of-set file_body 0 held.given desc (row_after ramfs_facts (call_of fun) good) held.entries f (record f { place = place }) tree.ids there turns

    pub read_right : IsRight held files (call_of 2) (on_read f file (word_of (arg_at (call_of 2) 0))).decision (on_read f file (word_of (arg_at (call_of 2) 0))).bytes
    read_right = at (nat_lt most_read n) refl
      where
        n : ℕ
        n = word_of (arg_at (call_of 2) 0)

        found : List ℕ
        found = take n (drop f.place file)

        plan : Bool → ReadPlan
        plan much = cond much (record { decision = Refuse TooBig; bytes = [] }) (record { decision = Set (record f { place = f.place + length found }) (Some (length found)); bytes = found })

        asked : (much : Bool) → nat_lt most_read n ≡ much → ramfs_table its_object (call_of 2) ≡ cond much (Some (Refused TooBig)) (moved (length found) found)
        asked much is = ap (λ row. read_answer file (place_of tread row) n) (file_row held desc f there) ∙ ap (λ b. cond b (Some (Refused TooBig)) (moved (length found) found)) is

        at : (much : Bool) → nat_lt most_read n ≡ much → IsRight held files (call_of 2) (plan much).decision (plan much).bytes
        at true is = record { answered = asked true is; changed = refl; parted = refl; unwritten = none_read; room = tt }
        at false is =
            let few : length found ≡ min n (length (drop f.place file)) = length-take n (drop f.place file) in
            let most : n ≤ 256 = grind (arith, nat_tests, is) in
            record {
              answered = asked false is;
              changed = ap (λ rows. record { rows = rows; files = files; given = held.given }) (moves 2 (record { desc = 0; words = length found ∷ []; bytes = found }) (f.place + length found) refl (Some (length found)));
              parted = refl;
              unwritten = none_read;
              room = (omega arith, omega (arith, few, most));
            }

    pub seek_right : kinds_fit (fun_at ramfs_facts.funs 4).kinds args ≡ true → IsRight held files (call_of 4) (on_seek f (word_of (arg_at (call_of 4) 0))) []
    seek_right fit = at (nat_lt most_file place) refl
      where
        place : ℕ
        place = word_of (arg_at (call_of 4) 0)

        at : (big : Bool) → nat_lt most_file place ≡ big → IsRight held files (call_of 4) (cond big (Refuse TooBig) (Set (record f { place = place }) None)) []
        at true is = record { answered = ap (λ b. cond b (Some (Refused TooBig)) (done 0)) is; changed = refl; parted = refl; unwritten = none_seek; room = tt }
        at false is = record {
          answered = ap (λ b. cond b (Some (Refused TooBig)) (done 0)) is;
          changed = ap (λ rows. record { rows = rows; files = files; given = held.given })
              (moves 4 (record { desc = 0; words = []; bytes = [] }) place (ap (λ v. row_with desc (record (file_body f) { fields = Text f.name ∷ v ∷ [] })) (place_is args fit)) None);
          parted = refl;
          unwritten = none_seek;
          room = (omega arith, omega arith);
        }

  pub release_right : IsTree held → IsRight held files (call_of 5) Remove []
  release_right tree = record {
    answered = refl;
    changed = ap (λ rows. record { rows = rows; files = files; given = held.given })
        (rows_of-without file_body 0 held.given desc held.entries tree.ids ∙ (λ i. filter (λ r. not (or_false (r.id == desc) i)) (tree_rows held)));
    parted = refl;
    unwritten = none_release;
    room = (omega arith, omega arith);
  }
    where
      or_false : (b : Bool) → b ≡ (b || false)
      or_false true = refl
      or_false false = refl
