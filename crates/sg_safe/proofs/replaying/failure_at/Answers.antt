-- What is known of the call is known of its row and its arguments.
use Rattle.sg_known.specs.Seen.{args_in, known_in}
use Rattle.sg_known.specs.Surveys.{subject_of}
use Rattle.sg_safe.specs.Inside.Seen.{shown}
use Rattle.sg_safe.proofs.Seeing.{call_seen}
use Rattle.sg_safe.proofs.replaying.failure_at.Goals as goal

pub obstacle-requires-clause-known : goal.obstacle-requires-clause-known
obstacle-requires-clause-known c =
    let d = subject_of c.args.survey.now in
    call_seen d c.args.fun (shown d c.args.spot) (known_in c.args.seen.now) (args_in c.args_known-seen.result) c.requires.row c.args_known-seen.ensures
