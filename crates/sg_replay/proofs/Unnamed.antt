-- Names on the way up from an id.
use Rattle.std.proofs.Common.{◌≡◌, ℕ, ◌<◌, Bool, true, false, cond, ◌&&◌, List, [], ◌∷◌, None, Some, is_some, refl, sym, ◌∙◌, ap, arith}
use Rattle.std.specs.Prelude.{◌==◌, slice_get}
use Rattle.std.specs.List.{list_any}
use Rattle.std.specs.Option.{option_map}
use Rattle.std.specs.declared.option.Option.{Option}
use Rattle.std.proofs.lemmas.Bool.Decides.{nat_tests}
use Rattle.sg_facts.specs.declared.row.Row.{Row}
use Rattle.sg_facts.specs.Track.{ancestors, is_live, row_at}
use Rattle.sg_name.specs.Names.{named_at}
use Rattle.sg_name.specs.declared.named.Named.{Named}
use Rattle.sg_name.specs.declared.named.Named.TheVariants.{Unnamed}
use Rattle.sg_name.specs.declared.named.Standing.{Standing}
use Rattle.sg_needs.specs.sg_track.Kept.{ends_below}
use Rattle.sg_needs.specs.sg_track.Tracked.{AreTracked}
use Rattle.sg_needs.proofs.sg_track.Above.{ends_nowhere, up_from}
use Rattle.sg_needs.proofs.sg_track.KeptLists.{live_if}
use Rattle.sg_replay.specs.Inside.Ends.{AreUnnamed, is_named}
use Rattle.sg_replay.proofs.AllWhole.{live_before}
use Rattle.sg_replay.proofs.Committed.{AreGone}

-- an id with a name doesn't end where those that end have none
pub named_stays : (named : Named) (ends : Bool) → (ends ≡ true → named ≡ Unnamed) → is_named named ≡ true → ends ≡ false
named_stays named false none some = refl
named_stays named true none some = absurd (let wrong : true ≡ false = sym some ∙ ap is_named (none refl) in cc wrong)

-- an id and its ancestors have another among them where the id ends with it
pub from_some : (rows : List Row) (above id : ℕ) → above < id → list_any (λ a. a == above) (up_from rows id) ≡ ends_below rows above id
from_some rows above id more =
    let test : (id == 0) ≡ false = grind (arith, nat_tests, more) in
    ap (λ b. list_any (λ a. a == above) (cond b [] (id ∷ ancestors rows id))) test

-- where the names of the first rows that end are gone, those of the ids before the next that end are
pub before_next : (given : ℕ) (rows : List Row) → AreTracked given rows → (gone : ℕ) (old : List (ℕ × Standing)) (at id : ℕ) (known : List (ℕ × Standing))
    → option_map (λ r. r.id) (slice_get rows at) ≡ Some id → AreGone rows gone old at known → AreUnnamed rows known gone id
before_next given rows tracked gone old at id known here so_far x more less ends = by (is_live rows x) refl
  where
    nothing : (o : Option Row) → is_some o ≡ false → o ≡ None
    nothing None is = refl
    nothing (Some r) is = absurd (cc is)

    by : (b : Bool) → is_live rows x ≡ b → named_at known x ≡ Unnamed
    by true is =
        so_far x ∙ ap (λ b. cond (b && ends_below rows gone x) Unnamed (named_at old x)) (live_before 0 given rows tracked at id here x less is)
        ∙ ap (λ b. cond b Unnamed (named_at old x)) ends
    by false is =
        let apart : (x == gone) ≡ false = grind (arith, nat_tests, more) in
        let stays = ends_nowhere 0 given rows tracked gone x (nothing (row_at rows x) (live_if rows x ∙ is)) apart in
        absurd (let wrong : true ≡ false = sym ends ∙ stays in cc wrong)
