-- The arguments are those of the function's kinds, by the descriptors that were given.
use Rattle.std.proofs.Common.{◌∙◌, ap, refl}
use Rattle.sg_plain.specs.Script.{desc_among, values_of}
use Rattle.sg_play.proofs.calls.resolve.Goals as goal

pub returns-clause-call : goal.returns-clause-call
returns-clause-call c = λ own gave. record {
  fun = refl;
  desc = c.desc_among-desc.ensures own gave ∙ ap (desc_among own c.fun.result.kinds.now) c.as_slice.ensures ∙ ap (λ f. desc_among own f.kinds c.args.call.now.args) c.fun.ensures;
  args = c.in_ok-args.ensures.values own gave ∙ ap (values_of own c.fun.result.kinds.now) c.as_slice-2.ensures ∙ ap (λ f. values_of own f.kinds c.args.call.now.args) c.fun.ensures;
}
