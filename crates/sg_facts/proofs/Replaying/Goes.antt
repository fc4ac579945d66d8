-- Walks go on, where a service rebuilds what is asked of it.
use Rattle.std.proofs.Common.{◌≡◌, ℕ, ◌^◌, true, List, [], ◌∷◌, ◌++◌, Some, refl, sym, ◌∙◌, ap, subst}
use Rattle.sg_facts.specs.declared.row.Row.{Row}
use Rattle.sg_facts.specs.Alike.{named}
use Rattle.sg_facts.specs.Allowed.{is_allowed}
use Rattle.sg_facts.specs.Counted.{CountedBelow}
use Rattle.sg_facts.specs.Facts.{Facts}
use Rattle.sg_facts.specs.Held.{IsAt, ParentIsWhole, set_of}
use Rattle.sg_facts.specs.Interface.{Declared}
use Rattle.sg_facts.specs.Laws.{AnswersAndKeeps, GoesOn, WalkGoesOn, next_call}
use Rattle.sg_facts.specs.Legal.{Table}
use Rattle.sg_facts.specs.Object.{Object}
use Rattle.sg_facts.specs.Track.{row_at}
use Rattle.sg_facts.specs.Walks.{IsWalkOf, spot_of}
use Rattle.sg_facts.specs.Replaying.Replays.{IsHalfway, AnswersReplays}
use Rattle.sg_facts.proofs.Replaying.Apart.{apart}
use Rattle.sg_facts.proofs.Replaying.Creating.{created}
use Rattle.sg_facts.proofs.Replaying.Onward.{stepped}
use Rattle.sg_facts.proofs.Replaying.Steps.{begins, first_of, next_of, some_restored}

module _ (i : Declared) (ask : Table) (sound : Object → Type 0) (allowed : is_allowed i.facts ≡ true) (keeps : AnswersAndKeeps i.facts ask sound) (rebuilds : AnswersReplays i.facts ask sound)
    (names : List (ℕ × ℕ)) (o held : Object) (r : Row) (half : IsHalfway i sound names o held) (there : row_at o.rows r.id ≡ Some r) (parent : ParentIsWhole names o held r) where
  goes_first : (rest : List ℕ) (fun : ℕ) → fun ≡ r.made → IsWalkOf i (fun ∷ rest) r.made r.state (set_of r) → named names r.id ≡ 0 → GoesOn i ask names o held r [] fun
  goes_first rest fun is walk fresh =
      let its : IsWalkOf i (r.made ∷ rest) r.made r.state (set_of r) = subst (λ f. IsWalkOf i (f ∷ rest) r.made r.state (set_of r)) is walk in
      let given = rebuilds.creations i refl names o held r rest half there fresh parent its in
      let s = some_restored (spot_of i (r.made ∷ rest)) r.state (set_of r) its.restored in
      let b = begins i r.made (first_of i s.0 r.made rest s.1).0 in
      subst (λ f. GoesOn i ask names o held r [] f) (sym is)
      (created i ask names o held r rest allowed half.fits (keeps.general o half.is_sound) half.holds half.counted half.given there fresh parent its given
      (keeps.next held (next_call i.facts names r [] r.made) given.good given.answered b.makes))

  goes_next : (first : ℕ) (done rest : List ℕ) (fun : ℕ) → IsWalkOf i ((first ∷ done) ++ fun ∷ rest) r.made r.state (set_of r) → IsAt i names held r (first ∷ done) → GoesOn i ask names o held r (first ∷ done) fun
  goes_next first done rest fun walk at =
      let s = some_restored (spot_of i ((first ∷ done) ++ fun ∷ rest)) r.state (set_of r) walk.restored in
      let n = next_of i at.2.spot s.0 first done rest fun at.2.led s.1 in
      stepped i ask names o held r at.0 first done rest fun allowed half.fits (keeps.general o half.is_sound) half.holds half.counted half.given there at.1 at.2 walk
      (λ c alike there_c is. apart i names o held r at.0 c first done rest fun allowed half.fits (keeps.general o half.is_sound) there at.1 walk at.2 alike there_c is)
      (rebuilds.steps i refl names o held r at.0 first done rest fun half there at.1 walk at.2 n.may)

  goes : (done rest : List ℕ) (fun : ℕ) → IsWalkOf i (done ++ fun ∷ rest) r.made r.state (set_of r) → IsAt i names held r done → GoesOn i ask names o held r done fun
  goes [] rest fun walk at = goes_first rest fun walk.begins walk at
  goes (first ∷ done) rest fun walk at = goes_next first done rest fun walk at

-- a service whose shape is allowed, which answers, and rebuilds what is asked of it, lets walks go on
pub walk_goes_on : (facts : Facts) (ask : Table) (sound : Object → Type 0) → is_allowed facts ≡ true → AnswersAndKeeps facts ask sound → AnswersReplays facts ask sound → WalkGoesOn facts ask sound
walk_goes_on facts ask sound allowed keeps rebuilds = record {
  goes_on = λ i names o held r done rest fun is fits its reach holds counted few there walk at parent.
      goes i ask sound (ap is_allowed is ∙ allowed) (subst (λ f. AnswersAndKeeps f ask sound) (sym is) keeps) (subst (λ f. AnswersReplays f ask sound) (sym is) rebuilds) names o held r
      (record { fits = fits; is_sound = its; holds = holds; counted = subst (λ f. CountedBelow (2 ^ 63) f held.rows) (sym is) counted; given = few }) there parent done rest fun walk at;
}
