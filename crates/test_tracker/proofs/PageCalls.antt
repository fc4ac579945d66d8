-- Which answered calls of pages may be tracked.
use Rattle.std.proofs.Common.{◌≡◌, ℕ, ◌+◌, ◌<◌, ◌≤◌, Bool, true, false, ◌||◌, List, [], ◌∷◌, refl, sym, ◌∙◌, ap, arith}
use Rattle.std.specs.Prelude.{◌^◌, ◌==◌}
use Rattle.test_tables.specs.sg_facts.sg_base.declared.value.Value.{Value}
use Rattle.test_tables.specs.sg_facts.sg_base.declared.value.Value.TheVariants.{Word}
use Rattle.test_tables.specs.sg_facts.Track.{is_live}
use Rattle.test_tables.specs.sg_mm.MmFacts.{mm_facts}
use Rattle.sg_track.specs.Tracked.{MayTrack, Tracked}
use Rattle.test_tracker.specs.Answered.{asked}
use Rattle.test_histories.specs.Written.{ok_at}

pub may_get : (t : Tracked) (client addr id : ℕ) → client < 2 ^ 64 → addr < 2 ^ 64 → 1 ≤ t.spare → t.given + 1 ≡ id
    → MayTrack mm_facts t (asked client 1 0 (Word addr ∷ [])) (ok_at id)
may_get t client addr id client_fits addr_fits room next = record {
  makes = λ is. record {
    place = record { room = room; parent = λ takes. cc; next = sym next };
    few = omega arith;
    values = λ row. (λ within. client_fits, (λ within. addr_fits, tt));
  };
  changes = λ query makes. cc makes;
}

either : (b : Bool) → (b || true) ≡ true
either true = refl
either false = refl

pub may_alias : (t : Tracked) (client parent space addr id : ℕ) → space < 2 ^ 64 → addr < 2 ^ 64 → 1 ≤ t.spare → t.given + 1 ≡ id → is_live t.rows parent ≡ true
    → MayTrack mm_facts t (asked client 2 parent (Word space ∷ Word addr ∷ [])) (ok_at id)
may_alias t client parent space addr id space_fits addr_fits room next live = record {
  makes = λ is. record {
    place = record { room = room; parent = λ takes. ap (λ b. (parent == 0) || b) live ∙ either (parent == 0); next = sym next };
    few = omega arith;
    values = λ row. (λ within. space_fits, (λ within. addr_fits, tt));
  };
  changes = λ query makes. cc makes;
}

pub may_release : (t : Tracked) (client id : ℕ) → MayTrack mm_facts t (asked client 3 id []) (ok_at 0)
may_release t client id = record { makes = λ is. cc is; changes = λ query makes ends. cc ends }

pub may_find : (t : Tracked) (client id : ℕ) (args : List Value) → MayTrack mm_facts t (asked client 4 0 args) (ok_at id)
may_find t client id args = record { makes = λ is. cc is; changes = λ query. cc query }
