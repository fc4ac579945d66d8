-- Which answered calls of locks may be tracked.
use Rattle.std.proofs.Common.{◌≡◌, ℕ, ◌+◌, ◌<◌, ◌≤◌, [], Some, sym, ◌∙◌, ap, subst, arith}
use Rattle.std.specs.Prelude.{◌^◌}
use Rattle.std.specs.Option.{option_map}
use Rattle.test_tables.specs.sg_facts.sg_base.declared.value.Value.TheVariants.{Word}
use Rattle.test_tables.specs.sg_facts.Track.{field_at}
use Rattle.test_tables.specs.sg_facts.Inside.Rows.{cleared}
use Rattle.test_tables.specs.sg_lock.LockFacts.{lock_facts}
use Rattle.sg_track.specs.Drafts.{IsDraftWord}
use Rattle.sg_track.specs.Tracked.{MayTrack, Tracked}
use Rattle.test_tracker.specs.Answered.{HasOwner, asked}
use Rattle.test_histories.specs.Written.{ok_at}

pub may_make : (t : Tracked) (client id : ℕ) → 1 ≤ t.spare → t.given + 1 ≡ id → MayTrack lock_facts t (asked client 1 0 []) (ok_at id)
may_make t client id room next = record {
  makes = λ is. record { place = record { room = room; parent = λ takes. cc; next = sym next }; few = omega arith; values = λ row. tt };
  changes = λ query makes. cc makes;
}

pub may_take : (t : Tracked) (client id : ℕ) → client < 2 ^ 64 → MayTrack lock_facts t (asked client 2 id []) (ok_at 0)
may_take t client id fits = record { makes = λ is. cc is; changes = λ query makes ends r there. (λ within. fits, tt) }

pub may_release : (t : Tracked) (client id owner : ℕ) → HasOwner t.rows id owner → MayTrack lock_facts t (asked client 3 id []) (ok_at 0)
may_release t client id owner has = record {
  makes = λ is. cc is;
  changes = λ query makes ends r there.
      let found : Some (field_at r.fields 0) ≡ Some (Word owner) = ap (option_map (λ x. field_at x.fields 0)) (sym there) ∙ has in
      let number : field_at r.fields 0 ≡ Word owner = cc found in
      (λ within. subst (λ v. IsDraftWord (cleared v)) (sym number) (omega arith), tt);
}

pub may_free : (t : Tracked) (client id : ℕ) → MayTrack lock_facts t (asked client 4 id []) (ok_at 0)
may_free t client id = record { makes = λ is. cc is; changes = λ query makes ends. cc ends }
