-- What the guard lets pass.
use Rattle.std.proofs.Common.{◌≡◌, ℕ, Bool, true, false, cond, not, None, Some, length, refl, sym, ◌∙◌, ap}
use Rattle.std.specs.Prelude.{◌&&◌, nat_le}
use Rattle.sg_facts.specs.sg_base.declared.call.Call.{Call}
use Rattle.sg_facts.specs.sg_base.declared.reply.Code.{Code}
use Rattle.sg_facts.specs.sg_base.declared.reply.Code.TheVariants.{NoDesc, NoParent, BadState, HasChildren, Full}
use Rattle.sg_facts.specs.declared.row.Row.{Row}
use Rattle.sg_facts.specs.Facts.{Facts, fun_at, takes_desc, takes_parent}
use Rattle.sg_facts.specs.Inside.Guards.{in_state, may_be_parent, may_use, refusal}
use Rattle.sg_facts.specs.Inside.Rows.{has_child}
use Rattle.sg_facts.specs.Interface.{has_pair}
use Rattle.sg_facts.specs.Laws.{Passes, whole}
use Rattle.sg_facts.specs.Limits.{most_live}
use Rattle.sg_facts.specs.Object.{Object}
use Rattle.sg_facts.specs.Track.{row_at}
use Rattle.sg_described.proofs.Keeping.Basics.{not_out}

no_cause : (a b c d e : Bool) → cond a (Some NoParent) (cond b (Some Full) (cond c (Some NoDesc) (cond d (Some BadState) (cond e (Some HasChildren) None)))) ≡ None → d ≡ false
no_cause true b c d e is = absurd (cc is)
no_cause false true c d e is = absurd (cc is)
no_cause false false true d e is = absurd (cc is)
no_cause false false false true e is = absurd (cc is)
no_cause false false false false e is = refl

-- a function that passes may be called in the row's state
pub in_its_state : (facts : Facts) (o : Object) (call : Call) (r : Row) → Passes facts o call → (fun_at facts.funs call.fun).query ≡ false → takes_desc (fun_at facts.funs call.fun) ≡ true
    → row_at o.rows call.desc ≡ Some r → has_pair facts.moves r.state call.fun ≡ true
in_its_state facts o call r passes asks takes found =
    let f = fun_at facts.funs call.fun in
    let out = no_cause (takes_parent f && not (may_be_parent facts.parents (row_at o.rows call.desc) call.desc call.client)) (f.creation && nat_le most_live (length o.rows))
    (takes_desc f && not (may_use facts (row_at o.rows call.desc) call.client)) (takes_desc f && not (in_state (whole facts) (row_at o.rows call.desc) call.fun))
    (f.terminal && not facts.subtree && has_child o.rows call.desc) (ap (λ b. cond b None (refusal (whole facts) f o call)) (sym asks) ∙ passes.guarded) in
    not_out (has_pair facts.moves r.state call.fun)
    (ap (λ row. true && not (in_state (whole facts) row call.fun)) (sym found) ∙ ap (λ b. b && not (in_state (whole facts) (row_at o.rows call.desc) call.fun)) (sym takes) ∙ out)
