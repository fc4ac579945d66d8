-- What is done with a write is what the table says.
use Rattle.std.proofs.Common.{◌≡◌, ℕ, ◌+◌, ◌≤◌, Bool, true, false, cond, List, [], ◌∷◌, None, Some, length, map, refl, sym, ◌∙◌, ap, subst, arith}
use Rattle.std.specs.Prelude.{◌==◌, if◌then◌else◌, nat_lt}
use Rattle.std.specs.declared.option.Option.{Option}
use Rattle.std.proofs.lemmas.Bool.Decides.{nat_tests}
use Rattle.sg_facts.specs.sg_base.declared.value.Value.{Value}
use Rattle.sg_facts.specs.sg_base.declared.call.Call.{Call}
use Rattle.sg_facts.specs.sg_base.declared.reply.Code.{Code}
use Rattle.sg_facts.specs.sg_base.declared.reply.Code.TheVariants.{Gap, TooBig}
use Rattle.sg_facts.specs.sg_base.declared.reply.Good.{Good}
use Rattle.sg_facts.specs.sg_base.declared.reply.Reply.{Reply}
use Rattle.sg_facts.specs.sg_base.declared.reply.Reply.TheVariants.{Ok, Refused}
use Rattle.sg_facts.specs.sg_base.Stops.{asked_after}
use Rattle.sg_facts.specs.declared.outcome.Outcome.{Outcome}
use Rattle.sg_facts.specs.declared.outcome.Outcome.TheVariants.{Replied, Blocks, Stopped, NoMemory}
use Rattle.sg_facts.specs.declared.outcome.Patch.{Patch}
use Rattle.sg_facts.specs.Invoke.{FitsFile, IfPatch, Points}
use Rattle.sg_facts.specs.Limits.{most_file}
use Rattle.sg_facts.specs.Object.{Object, first_text, patch_of, place_of}
use Rattle.sg_facts.specs.Inside.Rows.{patch_at, patched, row_after}
use Rattle.sg_slots.specs.Carry.{IsSame}
use Rattle.sg_slots.specs.Slots.{Held, entry_at}
use Rattle.sg_ramfs.specs.declared.open_file.OpenFile.{OpenFile}
use Rattle.sg_ramfs.specs.declared.plan.WritePlan.TheVariants.{Refuse as RefuseWrite}
use Rattle.sg_ramfs.specs.Inside.RamfsDecision.{on_write, put_at, IsCutShort, IsMoved, WritesFile}
use Rattle.sg_ramfs.specs.RamfsFacts.{ramfs_facts}
use Rattle.sg_ramfs.specs.Inside.RamfsAnswer.{twrite, write_answer}
use Rattle.sg_ramfs.specs.RamfsObject.{object_with}
use Rattle.sg_ramfs.specs.RamfsTable.{moved as moved_by, ramfs_table}
use Rattle.sg_ramfs.specs.Inside.RamfsTree.{IsTree, tree_rows}
use Rattle.sg_ramfs.proofs.Right.{Does, call_of, file, moves, path}
use Rattle.sg_ramfs.proofs.Trees.{file_nested, file_row}

module _ (held : Held OpenFile) (files : List (List ℕ × List ℕ)) (client seq desc : ℕ) (args : List Value) (tree : IsTree held) (f : OpenFile) (there : entry_at held.entries desc ≡ Some f) (points : Points) where
  abbrev o : Object
  o = object_with held files

  abbrev call : Call
  call = call_of held files client seq desc args 3

  abbrev old : List ℕ
  old = file held files client seq desc args

  abbrev its_path : List ℕ
  its_path = path held files client seq desc args

  abbrev DoesIt : Outcome → Held OpenFile → List (List ℕ × List ℕ) → Points → Type 0
  DoesIt outcome new files' later = Does held files call points outcome new files' later

  -- nothing changes
  stays : (new : Held OpenFile) (files' : List (List ℕ × List ℕ)) (later : Points) → IsSame held points new later → files' ≡ files → DoesIt NoMemory new files' later
  stays new files' later same files_same = (record { same = ap (λ h. object_with h files') same.same ∙ ap (object_with held) files_same; unasked = same.unasked }, tt)

  refused : (code : Code) → ramfs_table o call ≡ Some (Refused code) → (outcome : Outcome) (new : Held OpenFile) (files' : List (List ℕ × List ℕ)) (later : Points)
      → WritesFile held files desc (RefuseWrite code) points outcome new files' later → DoesIt outcome new files' later
  refused code asked (Replied reply None) new files' later is =
      subst (λ r. DoesIt (Replied r None) new files' later) (sym is.0) (
        record {
          answered = asked;
          changed = ap (λ h. object_with h files') is.1.same ∙ ap (object_with held) is.2;
          written = refl;
          asked = ap (λ p. p.asked) is.1.unasked ∙ none_asked points.asked;
          struck = ap (λ p. p.struck) is.1.unasked;
        },
        (tt, tt),
      )
    where
      none_asked : (n : ℕ) → n ≡ asked_after n 0
      none_asked n = omega arith
  refused code asked (Replied reply (Some patch)) new files' later is = absurd is
  refused code asked Blocks new files' later is = absurd is
  refused code asked Stopped new files' later is = absurd is
  refused code asked NoMemory new files' later is = stays new files' later is.0 is.1

  module _ (bytes : List ℕ) (its : first_text args ≡ bytes) (few : length bytes ≤ 256) (begins : f.place ≤ length old) (ends : f.place + length bytes ≤ most_file) where
    abbrev good : Good
    good = record { desc = 0; words = length bytes ∷ []; bytes = [] }

    asked : ramfs_table o call ≡ Some (Ok good)
    asked =
        ap (λ row. write_answer old (place_of twrite row) (first_text args)) (file_row held desc f there) ∙ ap (write_answer old f.place) its
        ∙ ap (λ b. cond b (Some (Refused Gap)) (cond (nat_lt most_file (f.place + length bytes)) (Some (Refused TooBig)) (moved_by (length bytes) []))) not_after
        ∙ ap (λ b. cond b (Some (Refused TooBig)) (moved_by (length bytes) [])) not_big
      where
        not_after : nat_lt (length old) f.place ≡ false
        not_after = grind (arith, nat_tests, begins)

        not_big : nat_lt most_file (f.place + length bytes) ≡ false
        not_big = grind (arith, nat_tests, ends)

    -- what is written
    patch_is : patch_of ramfs_facts o call (Ok good) ≡ patch_at its_path f.place bytes
    patch_is = ap (λ row. patch_at its_path (place_of twrite row) (first_text args)) (file_row held desc f there) ∙ ap (patch_at its_path f.place) its

    cut : (new : Held OpenFile) (files' : List (List ℕ × List ℕ)) (later : Points) → IsCutShort points later → DoesIt Stopped new files' later
    cut new files' later is = (record { answered = (good, asked); first = is.first; last = is.last; struck = is.struck }, tt)

    done : (reply : Reply) (patch : Option Patch) (new : Held OpenFile) (files' : List (List ℕ × List ℕ)) (later : Points) → IsMoved held desc (record f { place = f.place + length bytes }) (length bytes) points reply new later
        → patch ≡ patch_at its_path f.place bytes → files' ≡ patched files (patch_at its_path f.place bytes) → IfPatch o patch → DoesIt (Replied reply patch) new files' later
    done reply patch new files' later moved patch_same files_same fits =
        subst (λ r. DoesIt (Replied r patch) new files' later) (sym moved.answered) (
          record {
            answered = asked;
            changed = ap (λ h. object_with h files') moved.changed
                ∙ ap (λ rows. record { rows = rows; files = files'; given = held.given }) (moves held files client seq desc args tree f there 3 good (f.place + length bytes) refl (Some (length bytes)))
                ∙ ap (λ fs. record { rows = map (λ r. if r.id == desc then row_after ramfs_facts call good r else r) (tree_rows held); files = fs; given = held.given }) (files_same ∙ ap (patched files) (sym patch_is));
            written = patch_same ∙ sym patch_is;
            asked = moved.asked;
            struck = moved.struck;
          },
          ((omega arith, omega arith), fits),
        )

    -- a plan for these bytes is carried out
    puts : (outcome : Outcome) (new : Held OpenFile) (files' : List (List ℕ × List ℕ)) (later : Points) → (some : List ℕ) → bytes ≡ some → WritesFile held files desc (put_at its_path f some) points outcome new files' later → DoesIt outcome new files' later
    puts (Replied reply None) new files' later [] is written =
        let moved = subst (λ b. IsMoved held desc (record f { place = f.place + length b }) (length b) points reply new later) (sym is) written.0 in
        done reply None new files' later moved (sym (ap (patch_at its_path f.place) is)) (written.1 ∙ sym (ap (λ b. patched files (patch_at its_path f.place b)) is)) tt
    puts (Replied reply (Some patch)) new files' later [] is written = absurd written
    puts Blocks new files' later [] is written = absurd written
    puts Stopped new files' later [] is written = cut new files' later written
    puts NoMemory new files' later [] is written = stays new files' later written.0 written.1
    puts (Replied reply None) new files' later (b ∷ some) is written = absurd written
    puts (Replied reply (Some patch)) new files' later (b ∷ some) is written =
        let moved = subst (λ l. IsMoved held desc (record f { place = f.place + length l }) (length l) points reply new later) (sym is) written.0 in
        let fits : FitsFile o patch = subst (FitsFile o) (sym written.1) (record {
          key = (file_nested held desc f tree there).1;
          bytes = subst (λ l. length l ≤ 256) is few;
          within = begins;
          end = subst (λ l. f.place + length l ≤ most_file) is ends;
        }) in
        done reply (Some patch) new files' later moved (ap Some written.1 ∙ sym (ap (patch_at its_path f.place) is)) (written.2 ∙ sym (ap (λ l. patched files (patch_at its_path f.place l)) is)) fits
    puts Blocks new files' later (b ∷ some) is written = absurd written
    puts Stopped new files' later (b ∷ some) is written = cut new files' later written
    puts NoMemory new files' later (b ∷ some) is written = stays new files' later written.0 written.1

  pub write_does : length (first_text args) ≤ 256 → (outcome : Outcome) (new : Held OpenFile) (files' : List (List ℕ × List ℕ)) (later : Points)
      → WritesFile held files desc (on_write f its_path old (first_text args)) points outcome new files' later → DoesIt outcome new files' later
  write_does few outcome new files' later = at (nat_lt (length old) f.place) (nat_lt most_file (f.place + length bytes)) refl refl
    where
      bytes : List ℕ
      bytes = first_text args

      answer : (behind big : Bool) → nat_lt (length old) f.place ≡ behind → nat_lt most_file (f.place + length bytes) ≡ big
          → ramfs_table o call ≡ cond behind (Some (Refused Gap)) (cond big (Some (Refused TooBig)) (moved_by (length bytes) []))
      answer behind big after_is big_is =
          ap (λ row. write_answer old (place_of twrite row) bytes) (file_row held desc f there)
          ∙ ap (λ b. cond b (Some (Refused Gap)) (cond (nat_lt most_file (f.place + length bytes)) (Some (Refused TooBig)) (moved_by (length bytes) []))) after_is
          ∙ ap (λ b. cond behind (Some (Refused Gap)) (cond b (Some (Refused TooBig)) (moved_by (length bytes) []))) big_is

      at : (behind big : Bool) → nat_lt (length old) f.place ≡ behind → nat_lt most_file (f.place + length bytes) ≡ big
          → WritesFile held files desc (cond behind (RefuseWrite Gap) (cond big (RefuseWrite TooBig) (put_at its_path f bytes))) points outcome new files' later → DoesIt outcome new files' later
      at true big after_is big_is written = refused Gap (answer true big after_is big_is) outcome new files' later written
      at false true after_is big_is written = refused TooBig (answer false true after_is big_is) outcome new files' later written
      at false false after_is big_is written =
          puts bytes refl few (grind (arith, nat_tests, after_is)) (grind (arith, nat_tests, big_is)) outcome new files' later bytes refl written
