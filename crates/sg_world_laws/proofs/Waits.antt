-- Who waits goes on to wait where an answered call doesn't wake it.

-- what may block neither makes nor ends a descriptor
use Rattle.std.proofs.Common.{Bool, None, Option, Some, ap, cond, false, length, not, refl, true, ℕ, ◌&&◌, ◌==◌, ◌||◌, ◌∙◌, ◌≡◌, ◌≤◌}
use Rattle.std.specs.List.{list_all}
use Rattle.std.specs.Prelude.{nat_le}
use Rattle.sg_facts.specs.sg_base.declared.call.Call.{Call}
use Rattle.sg_facts.specs.sg_base.declared.reply.Code.{Code}
use Rattle.sg_facts.specs.sg_base.declared.reply.Reply.{Reply}
use Rattle.sg_facts.specs.sg_base.declared.reply.Reply.TheVariants.{Ok, Refused}
use Rattle.sg_facts.specs.Allowed.{implies, is_allowed, is_text_field, keeps_private, keeps_to, leaves_own, replays_all, sets_once}
use Rattle.sg_facts.specs.Facts.{Facts, fun_at, takes_desc, takes_parent}
use Rattle.sg_facts.specs.Guard.{guard}
use Rattle.sg_facts.specs.Inside.Guards.{refusal}
use Rattle.sg_facts.specs.Interface.{Declared}
use Rattle.sg_facts.specs.Laws.{Passes, leaves_blocked}
use Rattle.sg_facts.specs.Legal.{Table, answer}
use Rattle.sg_facts.specs.Inside.Rows.{refused_or}
use Rattle.sg_facts.specs.Object.{Object, after}
use Rattle.sg_facts.specs.Track.{ends_with}
use Rattle.sg_recovery_laws.proofs.Objects.Blocked.{passes_on, row_stays}
use Rattle.sg_recovery_laws.proofs.Objects.Guarded.{acts, first_four, keeps}
use Rattle.sg_recovery_laws.proofs.Objects.Serves.{desc_row}
use Rattle.sg_recovery_laws.specs.Objects.Serving.{IsAnsweredAt, IsLegalObject, IsService}
use Rattle.sg_clients.specs.WorldView.{wakes_seat}
use Rattle.sg_facts.proofs.Replaying.Steps.{both_true, each_fun}

-- what every function keeps to: who uses a file, and who may block
pub keeps_parts : (facts : Facts) (n : ℕ) → is_allowed facts ≡ true → 1 ≤ n → n ≤ length facts.funs
    → (implies (fun_at facts.funs n).uses_file (facts.resc_data && takes_desc (fun_at facts.funs n)) ≡ true)
    × (implies (fun_at facts.funs n).block (not (fun_at facts.funs n).creation && not (fun_at facts.funs n).terminal) ≡ true)
keeps_parts facts n allowed first last =
    let few = nat_le (length facts.fields) 8 in
    let all = list_all (keeps_to facts) facts.funs in
    let f = fun_at facts.funs n in
    let front = (both_true (few && keeps_private facts && all) (replays_all facts (length facts.funs)) (first_four facts allowed)).0 in
    let each : all ≡ true = (both_true (few && keeps_private facts) all front).1 in
    let its : keeps_to facts (fun_at facts.funs n) ≡ true = each_fun (keeps_to facts) facts.funs n each first last in
    let a = implies f.query (not (takes_desc f) && not (takes_parent f)) in
    let b = implies f.uses_file (facts.resc_data && takes_desc f) in
    let c = f.creation || list_all (λ e. not (is_text_field facts.fields e.0)) f.effects in
    let d = sets_once f.effects in
    let blk = implies f.block (not f.creation && not f.terminal) in
    let five = (both_true (a && b && c && d && blk) (leaves_own facts.funs f.leaves) its).0 in
    let four = both_true (a && b && c && d) blk five in
    let two = (both_true (a && b) c (both_true (a && b && c) d four.0).0).0 in ((both_true a b two).1, four.1)

pub block_keeps : (facts : Facts) (n : ℕ) → is_allowed facts ≡ true → 1 ≤ n → n ≤ length facts.funs → (fun_at facts.funs n).block ≡ true → ((fun_at facts.funs n).creation ≡ false) × ((fun_at facts.funs n).terminal ≡ false)
block_keeps facts n allowed first last blocks =
    let f = fun_at facts.funs n in turn f.block f.creation f.terminal blocks (keeps_parts facts n allowed first last).1
  where
    turn : (b c t : Bool) → b ≡ true → implies b (not c && not t) ≡ true → (c ≡ false) × (t ≡ false)
    turn true false false is all = (refl, refl)
    turn true true t is all = absurd (cc all)
    turn true false true is all = absurd (cc all)
    turn false c t is all = absurd (cc is)

pub waits_both : (g : Option Code) (a : Option Reply) → refused_or g a ≡ None → (g ≡ None) × (a ≡ None)
waits_both None a is = (refl, is)
waits_both (Some code) a is = absurd (cc is)

unwoken_leaves : (w s t e : Bool) → ((w && s) || (t && e)) ≡ false → (implies w (not s) && implies t (not e)) ≡ true
unwoken_leaves true true t e is = absurd (cc is)
unwoken_leaves true false true true is = absurd (cc is)
unwoken_leaves true false true false is = refl
unwoken_leaves true false false e is = refl
unwoken_leaves false s true true is = absurd (cc is)
unwoken_leaves false s true false is = refl
unwoken_leaves false s false e is = refl

module _ (i : Declared) (ask : Table) (sound : Object → Type 0) (law : IsService i.facts ask sound) (o : Object) (call x : Call) (ok : IsLegalObject i.facts sound o) (x_passes : Passes i.facts o x) where
  pub still_waits : (reply : Reply) → IsAnsweredAt i.facts ask o call reply → answer i ask o x ≡ None → wakes_seat i.facts o.rows call reply x ≡ false → answer i ask (after i.facts o call reply) x ≡ None
  still_waits (Refused code) answered waits unwoken = waits
  still_waits (Ok g) answered waits unwoken =
      let both = waits_both (guard i o x) (ask o x) waits in
      let leaves : leaves_blocked i.facts o call x ≡ true
      = unwoken_leaves (fun_at i.facts.funs call.fun).wakeup (call.desc == x.desc) (fun_at i.facts.funs call.fun).terminal (ends_with i.facts o.rows call.desc x.desc) unwoken in
      let still : ask (after i.facts o call (Ok g)) x ≡ None = law.blocked.blocked o x call g ok.is_sound x_passes both.1 answered.passes answered.answered leaves in
      let keeps = block_keeps i.facts x.fun law.shape.shape x_passes.is_call.first x_passes.is_call.last (law.shape.blocks o x both.1) in
      ap (λ c. refused_or c (ask (after i.facts o call (Ok g)) x)) (passes (fun_at i.facts.funs x.fun).query refl both.0 both.1 leaves keeps) ∙ still
    where
      passes : (q : Bool) → (fun_at i.facts.funs x.fun).query ≡ q → guard i o x ≡ None → ask o x ≡ None → leaves_blocked i.facts o call x ≡ true → ((fun_at i.facts.funs x.fun).creation ≡ false) × ((fun_at i.facts.funs x.fun).terminal ≡ false)
          → guard i (after i.facts o call (Ok g)) x ≡ None
      passes true query guarded none leaves keeps = ap (λ b. cond b None (refusal i (fun_at i.facts.funs x.fun) (after i.facts o call (Ok g)) x)) query
      passes false row guarded none leaves keeps =
          let acting = acts i.facts x.fun law.shape.shape x_passes.is_call.first x_passes.is_call.last in
          let on = acting.on keeps.0 row in
          let r = desc_row i.facts ask sound law o x x_passes on.0 row in
          let state = law.blocked.state o x call g ok.is_sound x_passes none answered.passes answered.answered leaves in
          let s = row_stays i.facts o call x g r.0 r.1 leaves state in
          passes_on i o (after i.facts o call (Ok g)) x (λ plain. on.1) keeps.0 keeps.1 r.0 s.0 r.1 s.1 s.2 s.3 guarded
