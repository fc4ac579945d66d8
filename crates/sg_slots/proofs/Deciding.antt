-- When a decision is right: what is shown of any service of single rows that writes no file.
use Rattle.std.proofs.Common.{◌≡◌, ℕ, ◌+◌, Bool, true, false, cond, not, List, [], ◌∷◌, ◌++◌, None, Some, map, filter, refl, sym, ◌∙◌, ap, subst}
use Rattle.std.specs.Prelude.{◌==◌, ◌&&◌, ◌||◌, if◌then◌else◌}
use Rattle.std.specs.declared.option.Option.{Option}
use Rattle.std.specs.Option.{is_some}
use Rattle.sg_facts.specs.sg_base.declared.call.Call.{Call}
use Rattle.sg_facts.specs.sg_base.declared.reply.Code.{Code}
use Rattle.sg_facts.specs.sg_base.declared.reply.Good.{Good}
use Rattle.sg_facts.specs.sg_base.declared.reply.Reply.{Reply}
use Rattle.sg_facts.specs.sg_base.declared.reply.Reply.TheVariants.{Ok, Refused}
use Rattle.sg_facts.specs.declared.row.Row.{Row}
use Rattle.sg_facts.specs.Facts.{Facts, fun_at, writes}
use Rattle.sg_facts.specs.Track.{row_at, new_row, ends_with, is_ancestor}
use Rattle.sg_facts.specs.Inside.Rows.{row_after, patch_at, patched}
use Rattle.sg_facts.specs.Object.{Object, after, patch_of, path_of, place_of, first_text}
use Rattle.sg_facts.specs.Legal.{Table}
use Rattle.sg_slots.specs.declared.decision.Decision.{Decision}
use Rattle.sg_slots.specs.declared.decision.Decision.TheVariants.{Refuse, Block, Set, Remove}
use Rattle.sg_slots.specs.Carry.{words_of}
use Rattle.sg_slots.specs.Slots.{Held, Body, AreIds, entry_at, object_of, rows_of, row_with}
use Rattle.sg_slots.specs.Decide.{Decides}
use Rattle.sg_slots.proofs.Rows.{rows_of-set, rows_of-without}

or_false : (b : Bool) → (b || false) ≡ b
or_false true = refl
or_false false = refl

-- an Ok without descriptor and bytes, with a word or none
abbrev pub said : Option ℕ → Good
said word = record { desc = 0; words = words_of word; bytes = [] }

-- an Ok without descriptor, words and bytes
abbrev pub plain : Good
plain = record { desc = 0; words = []; bytes = [] }

module _ (facts : Facts) (o : Object) (call : Call) where
  -- a function that writes no file leaves no patch
  unwritten : writes (fun_at facts.funs call.fun) ≡ false → (reply : Reply) → patch_of facts o call reply ≡ None
  unwritten none (Refused code) = refl
  unwritten none (Ok good) =
      ap (λ b. cond b (patch_at (path_of o.rows call.desc) (place_of (fun_at facts.funs call.fun) (row_at o.rows call.desc)) (first_text call.args)) None) none

  -- the object after an Ok, by whether its function asks, makes, ends and writes
  abbrev turned : Good → Bool → Bool → Bool → Bool → Object
  turned good asks makes ends writes_file = record {
    rows = cond asks o.rows (cond makes (o.rows ++ new_row facts call good ∷ [])
        (cond ends (filter (λ r. not (ends_with facts o.rows call.desc r.id)) o.rows) (map (λ r. if r.id == call.desc then row_after facts call good r else r) o.rows)));
    files = patched o.files (cond writes_file (patch_at (path_of o.rows call.desc) (place_of (fun_at facts.funs call.fun) (row_at o.rows call.desc)) (first_text call.args)) None);
    given = cond makes (o.given + 1) o.given;
  }

  after_one : (good : Good) (ends : Bool) → (fun_at facts.funs call.fun).query ≡ false → (fun_at facts.funs call.fun).creation ≡ false → (fun_at facts.funs call.fun).terminal ≡ ends
      → writes (fun_at facts.funs call.fun) ≡ false → after facts o call (Ok good) ≡ turned good false false ends false
  after_one good ends no_query no_creation is_end no_file =
      ap (λ b. turned good b (fun_at facts.funs call.fun).creation (fun_at facts.funs call.fun).terminal (writes (fun_at facts.funs call.fun))) no_query
      ∙ ap (λ b. turned good false b (fun_at facts.funs call.fun).terminal (writes (fun_at facts.funs call.fun))) no_creation
      ∙ ap (λ b. turned good false false b (writes (fun_at facts.funs call.fun))) is_end ∙ ap (turned good false false ends) no_file

module _ {E : Type 0} (facts : Facts) (ask : Table) (parts : ℕ → ℕ) (body : E → Body) (held : Held E) (call : Call) (no_file : writes (fun_at facts.funs call.fun) ≡ false) where
  -- a refusal
  pub refuse_right : (code : Code) → ask (object_of body held) call ≡ Some (Refused code) → Decides facts ask parts body held call (Refuse code)
  refuse_right code answered = record { about = tt; answered = answered; changed = refl; parted = refl; unwritten = unwritten facts (object_of body held) call no_file }

  -- a wait
  pub block_right : ask (object_of body held) call ≡ None → Decides facts ask parts body held call Block
  block_right answered = record { about = tt; answered = answered; changed = tt; parted = tt; unwritten = unwritten facts (object_of body held) call no_file }

  module _ (ids : AreIds 0 held.given held.entries) (old : E) (there : entry_at held.entries call.desc ≡ Some old)
      (no_query : (fun_at facts.funs call.fun).query ≡ false) (no_creation : (fun_at facts.funs call.fun).creation ≡ false) (one_part : parts call.fun ≡ 1) where
    abbrev with_rows : List Row → Object
    with_rows rows = record { rows = rows; files = []; given = held.given }

    -- a change of the entry that makes of its row what the function makes of it, with a word or none
    pub set_word_right : (word : Option ℕ) (new : E) → ask (object_of body held) call ≡ Some (Ok (said word)) → (fun_at facts.funs call.fun).terminal ≡ false
        → row_after facts call (said word) (row_with call.desc (body old)) ≡ row_with call.desc (body new) → Decides facts ask parts body held call (Set new word)
    set_word_right word new answered no_end turns = record {
      about = ap is_some there;
      answered = answered;
      changed = ap with_rows (rows_of-set body 0 held.given call.desc (row_after facts call (said word)) held.entries old new ids there turns)
          ∙ sym (after_one facts (object_of body held) call (said word) false no_query no_creation no_end no_file);
      parted = sym one_part;
      unwritten = unwritten facts (object_of body held) call no_file;
    }

    -- a change of the entry without a word
    pub set_right : ask (object_of body held) call ≡ Some (Ok plain) → (new : E) → (fun_at facts.funs call.fun).terminal ≡ false
        → row_after facts call plain (row_with call.desc (body old)) ≡ row_with call.desc (body new) → Decides facts ask parts body held call (Set new None)
    set_right answered new no_end turns = set_word_right None new answered no_end turns

    -- it ends its own row alone
    own_row : (rows : List Row) → facts.subtree ≡ false → filter (λ r. not (ends_with facts rows call.desc r.id)) rows ≡ filter (λ r. not (r.id == call.desc)) rows
    own_row rows alone =
        ap (λ b. filter (λ r. not ((r.id == call.desc) || (b && is_ancestor rows call.desc r.id))) rows) alone ∙ (λ i. filter (λ r. not (or_false (r.id == call.desc) i)) rows)

    -- an end of the descriptor, where ends reach no other row
    pub remove_right : ask (object_of body held) call ≡ Some (Ok plain) → (fun_at facts.funs call.fun).terminal ≡ true → facts.subtree ≡ false → Decides facts ask parts body held call Remove
    remove_right answered is_end alone = record {
      about = ap is_some there;
      answered = answered;
      changed = ap with_rows (rows_of-without body 0 held.given call.desc held.entries ids ∙ sym (own_row (rows_of body held.entries) alone))
          ∙ sym (after_one facts (object_of body held) call plain true no_query no_creation is_end no_file);
      parted = sym one_part;
      unwritten = unwritten facts (object_of body held) call no_file;
    }

-- a call with another function
abbrev pub with_fun : Call → ℕ → Call
with_fun call fun = record { client = call.client; seq = call.seq; fun = fun; desc = call.desc; args = call.args }

-- what is right for a function is right for a call of it
pub by_fun : {E : Type 0} (facts : Facts) (ask : Table) (parts : ℕ → ℕ) (body : E → Body) (held : Held E) (call : Call) (fun : ℕ) (made right : Decision E) → call.fun ≡ fun → made ≡ right
    → Decides facts ask parts body held (with_fun call fun) right → Decides facts ask parts body held call made
by_fun facts ask parts body held call fun made right is same is_right =
    subst (λ f. Decides facts ask parts body held (with_fun call f) made) (sym is) (subst (Decides facts ask parts body held (with_fun call fun)) (sym same) is_right)
