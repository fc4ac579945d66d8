-- By computing, and function by function.
use Rattle.test_own.proofs.SameEvents.{event_answers, event_is_safe}
use Rattle.test_own.proofs.same.own_events.Goals as goal

pub returns-clause-safe : goal.returns-clause-safe
returns-clause-safe c = event_is_safe

pub returns-clause-answers : goal.returns-clause-answers
returns-clause-answers c = event_answers
