-- A service in the middle of a recovery, with one file more.
use Rattle.std.proofs.Common.{Bool, List, [], ap, false, inl, inr, refl, subst, sym, true, ℕ, ◌||◌, ◌∙◌, ◌∷◌, ◌≡◌, ◌≢◌, ◌⊎◌}
use Rattle.std.specs.Str.{bytes_eq}
use Rattle.sg_facts.specs.Alike.{HasAlike}
use Rattle.sg_facts.specs.Held.{EachHeld, ParentIsWhole}
use Rattle.sg_facts.specs.Interface.{Declared}
use Rattle.sg_facts.specs.Object.{Object, file_at, set_file}
use Rattle.sg_facts.specs.declared.row.Row.{Row}
use Rattle.sg_facts.specs.declared.tables.WalkLine.{WalkLine}
use Rattle.sg_facts.proofs.Replaying.Files.{are_files_set, told as one_path}
use Rattle.sg_recovery_laws.proofs.Objects.Files.{set_other, set_own}
use Rattle.sg_recovery_laws.specs.Midway.Progress.{HasFile, IsInRecovery, Told}
use Rattle.sg_recovery_laws.proofs.Midway.Rest.{so_far_same}

module _ (i : Declared) (walks : List WalkLine) (names : List (ℕ × ℕ)) (told : ℕ → Told) (present : List ℕ → Bool) (o held : Object) (key : List ℕ) (recovers : IsInRecovery i walks names told present o held)
    (absent : present key ≡ false) where
  whole_still : (r : Row) → HasAlike names held r → HasAlike names (record held { files = set_file held.files key (file_at o.files key) }) r
  whole_still r has = record { row = has.row; there = has.there; alike = has.alike }

  each_still : (ws : List Row) → EachHeld i names o held ws → EachHeld i names o (record held { files = set_file held.files key (file_at o.files key) }) ws
  each_still [] each = tt
  each_still (w ∷ ws) each = (record { row = each.0.row; live = each.0.live; held_for = each.0.held_for; parent = parent each.0.row each.0.parent }, each_still ws each.1)
    where
      parent : (r : Row) → ParentIsWhole names o held r → ParentIsWhole names o (record held { files = set_file held.files key (file_at o.files key) }) r
      parent r (inl none) = inl none
      parent r (inr has) = inr (record { row = has.row; of = has.of; whole = whole_still has.row has.whole })

  file_now : (path : List ℕ) → HasFile (present path || bytes_eq key path) path o (record held { files = set_file held.files key (file_at o.files key) })
  file_now path = by (one_path key path)
    where
      same : (t : Bool) → t ≡ false → (t || true) ≡ true
      same t is = ap (λ x. x || true) is

      other : (t : Bool) → (t || false) ≡ t
      other true = refl
      other false = refl

      stays : (t : Bool) → key ≢ path → HasFile t path o held → HasFile t path o (record held { files = set_file held.files key (file_at o.files key) })
      stays true apart has = set_other held.files key (file_at o.files key) path apart ∙ has
      stays false apart has = set_other held.files key (file_at o.files key) path apart ∙ has

      by : ((bytes_eq key path ≡ true) × (key ≡ path)) ⊎ ((bytes_eq key path ≡ false) × (key ≢ path)) → HasFile (present path || bytes_eq key path) path o (record held { files = set_file held.files key (file_at o.files key) })
      by (inl one) =
          subst (λ t. HasFile t path o (record held { files = set_file held.files key (file_at o.files key) }))
          (sym (ap (λ x. present path || x) one.0 ∙ same (present path) (ap present (sym one.1) ∙ absent)))
          (subst (λ p. file_at (set_file held.files key (file_at o.files key)) p ≡ file_at o.files p) one.1 (set_own held.files key (file_at o.files key)))
      by (inr apart) =
          subst (λ t. HasFile t path o (record held { files = set_file held.files key (file_at o.files key) })) (sym (ap (λ x. present path || x) apart.0 ∙ other (present path)))
          (stays (present path) apart.1 (recovers.files path))

  -- it has the file, and goes on to stand for the object
  pub with_file_more : IsInRecovery i walks names told (λ path. present path || bytes_eq key path) o (record held { files = set_file held.files key (file_at o.files key) })
  with_file_more = record {
    holds = record {
      names_are = recovers.holds.names_are;
      given = recovers.holds.given;
      held_sound = record { rows = recovers.holds.held_sound.rows; files = are_files_set held.files key (file_at o.files key) recovers.holds.held_sound.files };
      each = each_still held.rows recovers.holds.each;
    };
    rows = λ r there. so_far_same i walks names held (record held { files = set_file held.files key (file_at o.files key) }) r (told r.id) (λ w found. found) (recovers.rows r there);
    files = file_now;
  }
