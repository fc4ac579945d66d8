-- There is no text among words.
use Rattle.std.proofs.Common.{◌∙◌, ap}
use Rattle.sg_facts.specs.Object.{first_text}
use Rattle.sg_ramfs.proofs.NoText.{no_text}
use Rattle.sg_ramfs.proofs.plan.first_text.Goals as goal

pub returns-in-Words-clause-value : goal.returns-in-Words-clause-value
returns-in-Words-clause-value c = no_text c.in-Words.field-0.now ∙ ap first_text c.in-Words.ensures
