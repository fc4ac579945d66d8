-- The first effect fits, and the others on what it leaves.
use Rattle.std.proofs.Common.{map}
use Rattle.sg_described.specs.sg_facts.sg_base.declared.value.Value.TheVariants.{Word}
use Rattle.sg_described.specs.sg_slots.Carry.{words_of}
use Rattle.sg_described.specs.Meaning.{said}
use Rattle.sg_interpret.proofs.Applying.{all_fit}
use Rattle.sg_interpret.proofs.effects.+do_effects.Goals as goal

pub returns-in-Some-clause-fit : goal.returns-in-Some-clause-fit
returns-in-Some-clause-fit t c =
    all_fit c.args.most.now c.args.call.now (said 0 (words_of c.args.word)) c.args.effects.now _ (map Word c.args.fields.now) (map Word c.set_field.new.fields) (Word c.field.result) _ c.most_of.result c.do_effects.result
    c.in-len1-up.len_at_least c.requires c.field.ensures c.most_of.ensures c.in-Some.ensures.0 c.in-Some.ensures.1 c.set_field.ensures.set c.do_effects.ensures.fit
