-- An entry more of a history may be tracked, and then the rows are those of the next front.
use Rattle.std.proofs.Common.{◌≡◌, ℕ, suc, ◌+◌, ◌<◌, ◌≤◌, List, [], ◌∷◌, drop, length, sym, ◌∙◌, ap, take, arith}
use Rattle.std.specs.Prelude.{slice_index_or}
use Rattle.sg_cost.proofs.Indexed.{divided, one_more}
use Rattle.sg_cost.specs.Inside.Fronts.{IsFront, MayBeTracked}
use Rattle.sg_facts.specs.Facts.{Facts}
use Rattle.sg_facts.specs.Object.{after, empty_object, object_of}
use Rattle.sg_facts.specs.Inside.Rows.{given_after, track}
use Rattle.sg_facts.specs.declared.entry.Entry.{Entry}
use Rattle.sg_needs.specs.sg_track.Tracked.{MayTrack, Tracked}
use Rattle.sg_world_laws.proofs.Drawn.{object_after}

module _ (facts : Facts) (history : List Entry) (n : ℕ) (e : Entry) (at : n < length history) (own : e ≡ slice_index_or history n e) (old : Tracked) (front : IsFront facts history n old) where
  pub may_next : MayBeTracked facts history → (t : Tracked) → t.rows ≡ old.rows → t.given ≡ old.given → 1 ≤ t.spare → MayTrack facts t e.call e.reply
  may_next may t rows given =
      may (take n history) e (drop (suc n) history) (divided history n e at own) t (record { rows = rows ∙ front.rows_of.rows; given = given ∙ front.rows_of.given })

  pub front_next : (new : Tracked) → new.rows ≡ track facts old.rows e.call e.reply → new.given ≡ given_after facts old.given e.call e.reply → IsFront facts history (n + 1) new
  front_next new rows given =
      let next : object_of facts (take (n + 1) history) ≡ after facts (object_of facts (take n history)) e.call e.reply
      = ap (object_of facts) (one_more history n e at own) ∙ object_after facts empty_object (take n history) (e ∷ []) in
      record {
        few = omega (arith, at);
        rows_of = record {
          rows = rows ∙ ap (λ rs. track facts rs e.call e.reply) front.rows_of.rows ∙ ap (λ o. o.rows) (sym next);
          given = given ∙ ap (λ g. given_after facts g e.call e.reply) front.rows_of.given ∙ ap (λ o. o.given) (sym next);
        };
      }
