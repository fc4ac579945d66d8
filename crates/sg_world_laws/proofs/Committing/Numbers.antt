-- The numbers of the running service after a served call: no recovery is further from its end than before.
use Rattle.std.proofs.Common.{◌≡◌, ℕ, ◌+◌, ◌≤◌, Bool, true, false, cond, List, ◌∷◌, Some, length, refl, sym, ◌∙◌, ap, subst, arith}
use Rattle.std.specs.Prelude.{◌||◌, max}
use Rattle.std.specs.declared.option.Option.{Option}
use Rattle.sg_facts.specs.sg_base.declared.call.Call.{Call}
use Rattle.sg_facts.specs.sg_base.declared.reply.Reply.{Reply}
use Rattle.sg_facts.specs.sg_base.declared.reply.Reply.TheVariants.{Ok, Refused}
use Rattle.sg_world_laws.specs.Committing.Serving.{IsServedCall}
use Rattle.sg_world_laws.proofs.Committing.Later.{apart_ok, apart_refused, moved, past, sound_all, told_by}
use Rattle.sg_world_laws.proofs.Committing.Counting.{served_counted, sum_after, sum_live, sum_most}
use Rattle.sg_facts.specs.declared.entry.Entry.{Entry}
use Rattle.sg_facts.specs.declared.outcome.Patch.{Patch}
use Rattle.sg_facts.specs.declared.row.Row.{Row}
use Rattle.sg_facts.specs.declared.trace.Item.{Item}
use Rattle.sg_facts.specs.Alike.{HasAlike, SameReply, Serves, under_names}
use Rattle.sg_facts.specs.Counted.{most_counted}
use Rattle.sg_facts.specs.Facts.{Facts, fun_at}
use Rattle.sg_facts.specs.Laws.{slow}
use Rattle.sg_facts.specs.Needs.{is_needed}
use Rattle.sg_facts.specs.Object.{Object, after, object_of}
use Rattle.sg_facts.specs.Inside.Rows.{object_from}
use Rattle.sg_facts.specs.Sound.{IsSound}
use Rattle.sg_facts.specs.Trace.{Boot}
use Rattle.sg_facts.specs.Track.{is_ancestor, is_live, row_at, rows_after}
use Rattle.sg_facts.proofs.RowLists.{id_of_row}
use Rattle.sg_recovery_laws.specs.Midway.Numbers.{AreNumbers, left_of, sum_told, unbegun}
use Rattle.sg_recovery_laws.specs.Midway.Progress.{Told, complete}
use Rattle.sg_recovery_laws.specs.Midway.Stepping.{told_with}
use Rattle.sg_recovery_laws.proofs.Midway.Numbers.{few_rows}
use Rattle.sg_recovery_laws.proofs.Midway.Served.{same_words}
use Rattle.sg_recovery_laws.proofs.Objects.Guarded.{ActsOnOne, acts}
use Rattle.sg_recovery_laws.proofs.Objects.Serves.{desc_row}
use Rattle.sg_recovery_laws.proofs.Objects.Steady.{ascends}
use Rattle.sg_recovery_laws.proofs.Objects.Waiting.{after_same}
use Rattle.sg_clients.specs.WorldView.{WorldView, held_in}
use Rattle.sg_facts.proofs.Replaying.Found.{same_test}
use Rattle.sg_world_laws.specs.Keeping.{KeepsPromise, Stands, Stub, standing}
use Rattle.sg_world_laws.specs.Setting.{IsSetting, Setting}
use Rattle.sg_world_laws.proofs.Asked.{serves_call}
use Rattle.sg_world_laws.proofs.Orders.{all_drawn, good_now, sound_es, time_es}

module _ (z : Setting) (set : IsSetting z) (w : WorldView) (b : Boot) (boots : List Boot) (v : Object) (stub : Stub) (k : KeepsPromise z (standing w b boots (Some v)) stub)
    (call : Call) (item : Item) (reply other : Reply) (patch : Option Patch) (s : IsServedCall z (standing w b boots (Some v)) stub v call item reply other patch) where
  abbrev up : Stands z (standing w b boots (Some v)) stub v
  up = k.stands

  abbrev o : Object
  o = object_of z.iface.facts w.history

  abbrev ws : List Entry
  ws = held_in (length (b ∷ boots)) w.seats

  abbrev facts : Facts
  facts = z.iface.facts

  abbrev behind : Object
  behind = object_from z.iface.facts (object_of z.iface.facts w.history) (held_in (length (b ∷ boots)) w.seats)

  given_later : behind.given ≡ o.given
  given_later = (after_same facts z.ask z.sound set.law o ws call.client (good_now z set w b boots (Some v) stub k)
      (time_es z set w b boots (Some v) stub k ws (all_drawn z set w b boots (Some v) stub k)) k.waiting s.let_in.none_by).2

  acts_it : ActsOnOne facts (fun_at facts.funs call.fun)
  acts_it = acts facts call.fun set.law.shape.shape s.let_in.passes.is_call.first s.let_in.passes.is_call.last

  -- the row that the call is on is whole in the service
  on_row : (fun_at facts.funs call.fun).query ≡ false → (fun_at facts.funs call.fun).creation ≡ false → (r : Row) × (row_at o.rows call.desc ≡ Some r) × HasAlike stub.names v r
  on_row row makes =
      let r = desc_row facts z.ask z.sound set.law o call s.let_in.passes (acts_it.on makes row).0 row in
      let id : r.0.id ≡ call.desc = id_of_row o.rows call.desc r.0 r.1 in
      let serves : Serves facts stub.names o v call = serves_call z set w b boots v stub k call s.let_in s.all in
      (r.0, r.1, serves.needed r.0 (ap (row_at o.rows) id ∙ r.1) (its_own r.0 id))
    where
      its_own : (r : Row) → r.id ≡ call.desc → is_needed facts o.rows call r ≡ true
      its_own r same = ap (λ t. (fun_at facts.funs call.fun).all || t || is_ancestor o.rows r.id call.desc) (same_test r.id call.desc same) ∙ at (fun_at facts.funs call.fun).all
        where
          at : (a : Bool) → (a || true || is_ancestor o.rows r.id call.desc) ≡ true
          at true = refl
          at false = refl

  module _ (told' : ℕ → Told) (entries : ℕ) (more : length w.history ≤ entries) where
    by : (r p : Reply) → z.ask o call ≡ Some r → SameReply stub.names (fun_at facts.funs call.fun).creation (Some r) (Some p)
        → IsSound facts (after facts behind call r) → IsSound facts (after facts v (under_names stub.names call) p)
        → ((id : ℕ) → is_live (after facts behind call r).rows id ≡ true → told' id ≡ told_by facts call r stub.told id)
        → AreNumbers facts told' entries (after facts behind call r) (after facts v (under_names stub.names call) p)
    by (Refused code) (Refused real) is same sound sound_v told_is =
        let numbers = up.numbers in
        let a = sum_live unbegun stub.told told' behind.rows told_is in
        let c = sum_live left_of stub.told told' behind.rows told_is in
        record { given = omega (arith, numbers.given, a); counted = omega (arith, numbers.counted, c, more) }
    by (Refused code) (Ok h) is same sound sound_v told_is = absurd (apart_refused stub.names (fun_at facts.funs call.fun).creation code h same)
    by (Ok g) (Refused real) is same sound sound_v told_is = absurd (apart_ok stub.names (fun_at facts.funs call.fun).creation g real same)
    by (Ok g) (Ok h) is same sound sound_v told_is =
        let numbers = up.numbers in
        let words : h.words ≡ g.words = (same_words stub.names (fun_at facts.funs call.fun).creation g h same).0 in
        let slowly = set.law.counts.calls o call g (good_now z set w b boots (Some v) stub k).is_sound s.let_in.passes is in
        let most = k.object.counted in
        let counted : most_counted facts (rows_after facts v.rows (under_names stub.names call) h) ≤ max (most_counted facts v.rows) (slow + length w.history + 1)
        = served_counted facts stub.names o v call g h words acts_it sound_v (max (most_counted facts v.rows) (slow + length w.history + 1)) (omega arith) (omega (arith, slowly, most)) on_row in
        let few = few_rows 0 (after facts behind call (Ok g)).given (rows_after facts behind.rows call g) (ascends facts (after facts behind call (Ok g)) sound) (omega arith) in
        let eight = sum_most told' (rows_after facts behind.rows call g) in
        let left = less left_of refl in
        let unb = less unbegun refl in
        let old = numbers.counted in
        let grown = more_given (fun_at facts.funs call.fun).creation in
        record {
          given = both_given (fun_at facts.funs call.fun).creation unb;
          counted = omega (arith, counted, few, eight, left, old, grown, more);
        }
      where
        less : (f : Told → ℕ) → f complete ≡ 0 → sum_told f told' (rows_after facts behind.rows call g) ≤ sum_told f stub.told behind.rows
        less f none =
            let same_sum = sum_live f (told_with facts call g stub.told) told' (rows_after facts behind.rows call g) told_is in
            let le = sum_after f none facts stub.told behind call g (sound_es z set w b boots (Some v) stub k ws (all_drawn z set w b boots (Some v) stub k))
            (λ makes. ((acts_it.makes makes).0, set.law.keeps.next o call g is makes ∙ ap (λ n. n + 1) (sym given_later))) in
            omega (arith, same_sum, le)

        more_given : (c : Bool) → behind.given ≤ cond c (behind.given + 1) behind.given
        more_given true = omega arith
        more_given false = omega arith

        both_given : (c : Bool) → sum_told unbegun told' (rows_after facts behind.rows call g) ≤ sum_told unbegun stub.told behind.rows
            → cond c (v.given + 1) v.given + sum_told unbegun told' (rows_after facts behind.rows call g) ≤ cond c (behind.given + 1) behind.given
        both_given true le = let numbers = up.numbers in omega (arith, numbers.given, le)
        both_given false le = let numbers = up.numbers in omega (arith, numbers.given, le)

    -- what is told of live rows tells of the numbers
    pub numbers_served : ((id : ℕ) → is_live (object_from z.iface.facts (after z.iface.facts (object_of z.iface.facts w.history) call reply) (held_in (length (b ∷ boots)) w.seats)).rows id ≡ true
        → told' id ≡ told_by z.iface.facts call reply stub.told id)
        → AreNumbers z.iface.facts told' entries (object_from z.iface.facts (after z.iface.facts (object_of z.iface.facts w.history) call reply) (held_in (length (b ∷ boots)) w.seats))
        (after z.iface.facts v (under_names stub.names call) other)
    numbers_served told_is =
        let way = past z set w b boots v stub k call item reply other patch s in
        subst (λ x. AreNumbers facts told' entries x (after facts v (under_names stub.names call) other)) (sym way)
        (by reply other s.replied.answered s.replied.same (subst (IsSound facts) way (sound_all z set w b boots v stub k call item reply other patch s))
        (moved z set w b boots v stub k call item reply other patch s).in_recovery.holds.held_sound
        (λ id live. told_is id (ap (λ x. is_live x.rows id) way ∙ live)))
