-- What a run prints is read to its history, for an interface of one of the services.
use Rattle.sg_judge.proofs.sg_input.sg_entries.Backwards.{has_history}
use Rattle.sg_judge.proofs.sg_input.sg_entries.Spelt.{named_tells}
use Rattle.sg_judge.specs.sg_input.sg_entries.Entry.{shows_named}
use Rattle.sg_top.specs.Answer.{services}
use Rattle.sg_top.proofs.Fitting.{interface_service}
use Rattle.sg_top.proofs.Named.{names_of}
use Rattle.sg_top.proofs.laws.printed_runs_are_read.Goals as goal

pub returns : goal.returns
returns c = λ text run i history (tree, parses, accepted) prints.
    has_history (shows_named services i) i run history (named_tells services i) (names_of i (interface_service text i (tree, parses, accepted)) accepted.fits) prints
