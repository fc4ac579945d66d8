-- The call is resolved by the descriptors that were given.
use Rattle.std.proofs.Common.{◌∙◌, ◌+◌, length, ap, sym, subst, refl}
use Rattle.std.specs.Option.{option_copied}
use Rattle.std.specs.Prelude.{slice_get}
use Rattle.sg_facts.specs.Facts.{fun_at}
use Rattle.sg_plain.specs.Calls.{script_calls}
use Rattle.sg_play.specs.NextCall.{IsNextCall}
use Rattle.sg_play.proofs.Offering.{as_many_given, next_is}
use Rattle.sg_play.proofs.calls.next_call.Goals as goal

pub returns-clause-some : goal.returns-clause-some
returns-clause-some c = λ own gave.
    let written = c.in-Some.call.now in
    let i = c.args.interface.now in
    let there = ap (slice_get (script_calls c.args.script.now c.args.client)) (sym (as_many_given own c.args.given.now gave)) ∙ sym c.script_call.ensures ∙ ap option_copied c.in-Some.is in
    let next = c.in_ok-resolve.ensures.call own gave in
    let made = c.in_ok-resolve.field-0 in
    subst (λ f. IsNextCall i c.args.script.now own (record { client = c.args.client; seq = length own + 1; fun = f; desc = made.desc; args = made.args })) (sym next.fun)
    (next_is i c.args.script.now c.requires own c.args.client written there (fun_at i.facts.funs written.fun).kinds made.desc made.args refl next.desc next.args c.in_ok-resolve.ensures.words)
