-- What is done with a call is right.
use Rattle.std.proofs.Common.{◌≡◌, ℕ, ◌+◌, ◌≤◌, Bool, true, false, cond, List, [], ◌∷◌, ◌++◌, length, map, take, None, Some, refl, sym, ◌∙◌, ap}
use Rattle.std.specs.Prelude.{◌&&◌, replicate}
use Rattle.std.specs.List.{list_any}
use Rattle.std.specs.Option.{option_map}
use Rattle.std.specs.declared.option.Option.{Option}
use Rattle.sg_described.specs.sg_facts.sg_base.declared.value.Value.TheVariants.{Word}
use Rattle.sg_described.specs.sg_facts.sg_base.declared.call.Call.{Call}
use Rattle.sg_described.specs.sg_facts.sg_base.declared.reply.Good.{Good}
use Rattle.sg_described.specs.sg_facts.sg_base.declared.reply.Reply.{Reply}
use Rattle.sg_described.specs.sg_facts.sg_base.declared.reply.Reply.TheVariants.{Ok, Refused as IsRefused}
use Rattle.sg_described.specs.sg_facts.Facts.{fun_at, is_text_kind, state_after, takes_parent, writes}
use Rattle.sg_described.specs.sg_facts.Fields.{empty_field}
use Rattle.sg_described.specs.sg_facts.Limits.{most_fields}
use Rattle.sg_described.specs.sg_facts.Object.{Object, first_text, patch_of, path_of, place_of}
use Rattle.sg_described.specs.sg_facts.Track.{fields_after, new_row, row_at}
use Rattle.sg_described.specs.sg_facts.Inside.Rows.{patch_at}
use Rattle.sg_described.specs.sg_slots.declared.decision.Decision.{Decision}
use Rattle.sg_described.specs.sg_slots.declared.decision.Decision.TheVariants.{Make, Set, Remove}
use Rattle.sg_described.specs.sg_slots.Carry.{words_of}
use Rattle.sg_described.specs.sg_slots.Decide.{Decides}
use Rattle.sg_described.specs.sg_slots.Slots.{AreIds, Held, entry_at, object_of, row_with, rows_of}
use Rattle.sg_described.proofs.sg_slots.Deciding.{block_right, refuse_right, remove_right, set_word_right}
use Rattle.sg_described.proofs.sg_slots.Rows.{row_at-rows_of, rows_of-more}
use Rattle.sg_described.specs.declared.description.Verdict.{Verdict}
use Rattle.sg_described.specs.declared.description.Verdict.TheVariants.{Refuse, Wait, Give}
use Rattle.sg_described.specs.Described.{Described, rules_at}
use Rattle.sg_described.specs.Meaning.{answer_in, answer_of, described_parts, described_table, said, verdict_of, words_in}
use Rattle.sg_described.specs.Safe.{IsPlain}
use Rattle.sg_described.proofs.Keeping.Answering.{IsPlainFun, plain_fun}
use Rattle.sg_described.proofs.Keeping.Basics.{clash}
use Rattle.sg_described.proofs.Keeping.Effects.{fields_same}
use Rattle.sg_described.proofs.Keeping.ShapeLaw.{give_is_plain}
use Rattle.sg_described.proofs.Keeping.SoundLaw.{after_is}
use Rattle.sg_interpret.specs.declared.answer.Answer.{Answer}
use Rattle.sg_interpret.specs.declared.answer.Answer.TheVariants.{Refused, Waits, Done}
use Rattle.sg_interpret.specs.declared.answer.Left.{Left}
use Rattle.sg_interpret.specs.declared.entry.DescribedEntry.{DescribedEntry}
use Rattle.sg_interpret.specs.DescribedRow.{described_body}
use Rattle.sg_interpret.specs.Inside.Answers.{IsAnswer, Leaves}
use Rattle.sg_interpret.specs.Inside.Deciding.{on_entry, on_making}
use Rattle.sg_interpret.specs.Inside.Views.{env_at}
use Rattle.sg_interpret.proofs.Emptying.{empty_row}

module _ (d : Described) (is_plain : IsPlain d) (held : Held DescribedEntry) (call : Call) (low : 1 ≤ call.fun) (high : call.fun ≤ length d.facts.funs) where
  abbrev IsRight : Decision DescribedEntry → Type 0
  IsRight decision = Decides d.facts (described_table d) (described_parts d) (described_body d) held call decision

  plain : IsPlainFun d call.fun (fun_at d.facts.funs call.fun)
  plain = plain_fun d is_plain call.fun low high

  no_file : writes (fun_at d.facts.funs call.fun) ≡ false
  no_file = ap (λ b. b && list_any is_text_kind (fun_at d.facts.funs call.fun).kinds) plain.no_file

  abbrev o : Object
  o = object_of (described_body d) held

  unwritten : (reply : Reply) → patch_of d.facts o call reply ≡ None
  unwritten (IsRefused code) = refl
  unwritten (Ok good) = ap (λ b. cond b (patch_at (path_of o.rows call.desc) (place_of (fun_at d.facts.funs call.fun) (row_at o.rows call.desc)) (first_text call.args)) None) no_file

  -- ---- a call that makes a descriptor

  module _ (makes : (fun_at d.facts.funs call.fun).creation ≡ true) where
    abbrev none_yet : List ℕ
    none_yet = take (length d.most) (replicate most_fields 0)

    table_new : described_table d o call ≡ answer_in d call.fun (o.given + 1) (env_at call call.fun none_yet)
    table_new =
        ap (λ b. answer_of d call b o.given (row_at o.rows call.desc)) makes
        ∙ ap (λ fields. answer_in d call.fun (o.given + 1) (record { client = call.client; args = call.args; state = call.fun; fields = fields })) (sym (empty_row d is_plain))

    make_right : (left : Left) → Leaves d call call.fun none_yet left → IsRight (Make (record { made = call.fun; creator = call.client; state = left.state; fields = left.fields }) left.word)
    make_right left leaves =
        let entry : DescribedEntry = record { made = call.fun; creator = call.client; state = left.state; fields = left.fields } in
        let good : Good = said (held.given + 1) (words_of left.word) in
        let es = (fun_at d.facts.funs call.fun).effects in
        let fields_are : map Word (take (length d.most) left.fields) ≡ fields_after call good es (map empty_field d.facts.fields)
        = leaves.fields_are ∙ fields_same call call (said 0 (words_of left.word)) good refl refl refl es (map Word none_yet) ∙ ap (fields_after call good es) (empty_row d is_plain) in
        let parent : 0 ≡ cond (takes_parent (fun_at d.facts.funs call.fun)) call.desc 0 = sym (ap (λ b. cond b call.desc 0) plain.no_parent) in
        let row : row_with (held.given + 1) (described_body d entry) ≡ new_row d.facts call good
        = ap (λ n. record { id = held.given + 1; made = call.fun; creator = call.client; parent = n; state = left.state; fields = map Word (take (length d.most) left.fields) }) parent
        ∙ ap (λ n. record { id = held.given + 1; made = call.fun; creator = call.client; parent = cond (takes_parent (fun_at d.facts.funs call.fun)) call.desc 0; state = n; fields = map Word (take (length d.most) left.fields) }) leaves.state_is
        ∙ ap (λ l. record { id = held.given + 1; made = call.fun; creator = call.client; parent = cond (takes_parent (fun_at d.facts.funs call.fun)) call.desc 0; state = state_after d.facts call.fun call.fun; fields = l }) fields_are in
        record {
          about = tt;
          answered = table_new ∙ leaves.answered (o.given + 1);
          changed = ap (λ rows. record { rows = rows; files = []; given = held.given + 1 }) (rows_of-more (described_body d) held.entries (held.given + 1) entry ∙ ap (λ r. rows_of (described_body d) held.entries ++ r ∷ []) row)
              ∙ sym (after_is d.facts o call good true (fun_at d.facts.funs call.fun).terminal plain.no_query plain.no_file makes refl);
          parted = ap (λ b. cond b 2 1) (sym makes);
          unwritten = unwritten;
        }

    pub making_right : (answer : Answer) → IsAnswer d call call.fun none_yet answer → IsRight (on_making call answer)
    making_right (Refused code) is = refuse_right d.facts (described_table d) (described_parts d) (described_body d) held call no_file code (table_new ∙ is (o.given + 1))
    making_right Waits is = block_right d.facts (described_table d) (described_parts d) (described_body d) held call no_file (table_new ∙ is (o.given + 1))
    making_right (Done left) is = make_right left is

  -- ---- a call on a descriptor

  module _ (makes : (fun_at d.facts.funs call.fun).creation ≡ false) (ids : AreIds 0 held.given held.entries) (entry : DescribedEntry) (there : entry_at held.entries call.desc ≡ Some entry) where
    abbrev fields : List ℕ
    fields = take (length d.most) entry.fields

    table_on : described_table d o call ≡ answer_in d call.fun 0 (env_at call entry.state fields)
    table_on =
        ap (λ b. answer_of d call b o.given (row_at o.rows call.desc)) makes
        ∙ ap (answer_of d call false o.given) (row_at-rows_of (described_body d) held.entries call.desc ∙ ap (option_map (λ e. row_with call.desc (described_body d e))) there)

    one_part : described_parts d call.fun ≡ 1
    one_part = ap (λ b. cond b 2 1) makes

    -- who ends a descriptor gives no word
    ends_plain : (v : Option Verdict) → verdict_of (env_at call entry.state fields) (rules_at d call.fun) ≡ v → (fun_at d.facts.funs call.fun).terminal ≡ true → words_in (env_at call entry.state fields) v ≡ []
    ends_plain None is ends = refl
    ends_plain (Some (Give t)) is ends = clash (fun_at d.facts.funs call.fun).terminal ends (give_is_plain d is_plain call.fun low high (env_at call entry.state fields) t is)
    ends_plain (Some Wait) is ends = refl
    ends_plain (Some (Refuse code)) is ends = refl

    leaves_right : (ends : Bool) → (fun_at d.facts.funs call.fun).terminal ≡ ends → (left : Left) → Leaves d call entry.state fields left
        → IsRight (cond ends Remove (Set (record { made = entry.made; creator = entry.creator; state = left.state; fields = left.fields }) left.word))
    leaves_right true ends left leaves =
        remove_right d.facts (described_table d) (described_parts d) (described_body d) held call no_file ids entry there plain.no_query makes one_part
        (table_on ∙ leaves.answered 0 ∙ ap (λ l. Some (Ok (said 0 l))) (leaves.word_is ∙ ends_plain (verdict_of (env_at call entry.state fields) (rules_at d call.fun)) refl ends)) ends is_plain.alone
    leaves_right false ends left leaves =
        let new : DescribedEntry = record { made = entry.made; creator = entry.creator; state = left.state; fields = left.fields } in
        set_word_right d.facts (described_table d) (described_parts d) (described_body d) held call no_file ids entry there plain.no_query makes one_part left.word new
        (table_on ∙ leaves.answered 0) ends
        (ap (λ n. record { id = call.desc; made = entry.made; creator = entry.creator; parent = 0; state = n; fields = fields_after call (said 0 (words_of left.word)) (fun_at d.facts.funs call.fun).effects (map Word fields) }) (sym leaves.state_is)
        ∙ ap (λ l. record { id = call.desc; made = entry.made; creator = entry.creator; parent = 0; state = left.state; fields = l }) (sym leaves.fields_are))

    pub change_right : (ends : Bool) → (fun_at d.facts.funs call.fun).terminal ≡ ends → (answer : Answer) → IsAnswer d call entry.state fields answer → IsRight (on_entry entry ends answer)
    change_right ends is_end (Refused code) is = refuse_right d.facts (described_table d) (described_parts d) (described_body d) held call no_file code (table_on ∙ is 0)
    change_right ends is_end Waits is = block_right d.facts (described_table d) (described_parts d) (described_body d) held call no_file (table_on ∙ is 0)
    change_right ends is_end (Done left) is = leaves_right ends is_end left is
