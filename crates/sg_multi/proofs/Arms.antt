-- What a step does in the world of a member it does in the member.
use Rattle.std.proofs.Common.{◌≡◌, ◌∙◌, ℕ, sym, ap, subst}
use Rattle.std.specs.Prelude.{IfOk}
use Rattle.std.specs.declared.result.Result.{Result}
use Rattle.sg_interpret.specs.declared.describes.Describes.{Ghosts}
use Rattle.sg_multi.specs.Members.{Membered, membered, setting_in, view_in}
use Rattle.sg_multi.specs.declared.member.AnyWorld.{AnyWorld}
use Rattle.sg_multi.specs.declared.member.Member.TheInside.{Inside}
use Rattle.sg_sim.specs.sg_world.Steps.{AnswersLast, HasStepped}
use Rattle.sg_sim.specs.sg_world.declared.did.Did.{Did}

-- a client's step comes to this
abbrev pub Comes : ℕ → Membered → Membered → Did → Type 0
Comes client old new did = HasStepped (setting_in old) (view_in old) client did (view_in new) × AnswersLast (view_in new) client did

pub did_in : {N : Type 0} {g : Ghosts N} (client : ℕ) (old : Membered) (inside later : Inside N g) {a b : AnyWorld N g} {E : Type 0} {r s : Result Did E} → membered inside.world ≡ old → inside.world ≡ a
    → later ≡ record { world = b } → r ≡ s → IfOk s (Comes client (membered a) (membered b)) → IfOk r (Comes client old (membered later.world))
did_in {N = N} {g = g} client old inside later {a = a} {b = b} {s = s} was its is same stepped =
    subst (λ x. IfOk x (Comes client old (membered later.world))) (sym same)
    (subst (λ (x : Inside N g). IfOk s (Comes client old (membered x.world))) (sym is)
    (subst (λ x. IfOk s (Comes client x (membered b))) (sym (ap membered its) ∙ was) stepped))
