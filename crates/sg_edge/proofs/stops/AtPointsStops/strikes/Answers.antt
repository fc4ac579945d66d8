-- The next listed number joins the strikes exactly where it is asked.
use Rattle.std.proofs.Common.{◌≡◌, ◌+◌, ◌++◌, [], ◌∷◌, Some, refl, sym, ◌∙◌, ap, subst, arith, length, length-append}
use Rattle.std.specs.Prelude.{slice_get}
use Rattle.sg_edge.specs.Stops.{up_to, struck_of}
use Rattle.sg_base.specs.Stops.{struck_after}
use Rattle.sg_edge.proofs.Planned.{joins, passes}
use Rattle.sg_edge.proofs.stops.AtPointsStops.strikes.Goals as goal

pub invariant_of-self : goal.invariant_of-self
invariant_of-self c =
    let s = c.self.inside in
    let at = subst (λ k. slice_get s.points k ≡ Some (s.asked + 1)) c.self.invariant.1 (c.if-listed.ensures.there.0 refl) in
    let more = joins s.asked 0 s.points c.self.invariant.0 at in
    (c.self.invariant.0, omega (arith, c.self.invariant.1, ap length more, length-append (up_to s.asked s.points) ((s.asked + 1) ∷ [])))

pub returns-then-listed-clause-struck : goal.returns-then-listed-clause-struck
returns-then-listed-clause-struck c =
    let s = c.self.inside in
    let at = subst (λ k. slice_get s.points k ≡ Some (s.asked + 1)) c.self.invariant.1 (c.if-listed.ensures.there.0 refl) in
    let more = joins s.asked 0 s.points c.self.invariant.0 at in
    more ∙ ap (λ v. struck_of v ++ (s.asked + 1) ∷ []) c.self.view_is ∙ ap (struck_after (struck_of c.args.self.now) (s.asked + 1)) (sym c.if-listed.true)

pub invariant_of-self-else-listed : goal.invariant_of-self-else-listed
invariant_of-self-else-listed c =
    let s = c.self.inside in
    let same = passes s.asked 0 s.points c.self.invariant.0
    (λ is. let no = c.if-listed.ensures.there.1 (subst (λ k. slice_get s.points k ≡ Some (s.asked + 1)) (sym c.self.invariant.1) is) in cc no) in
    (c.self.invariant.0, omega (arith, c.self.invariant.1, ap length same))

pub returns-else-listed-clause-struck : goal.returns-else-listed-clause-struck
returns-else-listed-clause-struck c =
    let s = c.self.inside in
    let same = passes s.asked 0 s.points c.self.invariant.0
    (λ is. let no = c.if-listed.ensures.there.1 (subst (λ k. slice_get s.points k ≡ Some (s.asked + 1)) (sym c.self.invariant.1) is) in cc no) in
    same ∙ ap struck_of c.self.view_is ∙ ap (struck_after (struck_of c.args.self.now) (s.asked + 1)) (sym c.if-listed.false)
