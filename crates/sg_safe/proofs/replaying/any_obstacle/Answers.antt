-- The first of the three that there is.
use Rattle.std.proofs.Common.{◌≡◌, true, length, map, sym, ap, subst}
use Rattle.std.specs.Prelude.{nat_lt}
use Rattle.std.specs.List.{list_all}
use Rattle.sg_known.specs.sg_described.Described.{rule_of}
use Rattle.sg_known.specs.Seen.{known_in, pairs_of}
use Rattle.sg_known.specs.Surveys.{subject_of}
use Rattle.sg_safe.specs.Inside.Seen.{shown}
use Rattle.sg_safe.proofs.Plainly.{effects_within}
use Rattle.sg_safe.proofs.Seeing.{obstacle_is}
use Rattle.sg_safe.proofs.replaying.any_obstacle.Goals as goal

pub first_unheld-requires-clause-within : goal.first_unheld-requires-clause-within
first_unheld-requires-clause-within c =
    let d = subject_of c.args.survey.now in
    subst (λ es. list_all (λ e. nat_lt e.0 (length d.facts.fields)) es ≡ true) (sym (ap (λ f. f.effects) c.fun.ensures)) (effects_within d c.requires.plain c.args.fun)

pub returns : goal.returns
returns c =
    let d = subject_of c.args.survey.now in
    obstacle_is d c.args.fun (shown d c.args.spot) (known_in c.args.seen.now) (pairs_of c.fun.result.effects.now) (map rule_of c.rules-rules.result.now)
    c.state_left-state.result c.greatest_word.result c.first_unheld.result c.first_stop.result c.first_past-past.result c.or.result c.or-2.result
    c.requires.known (ap (λ f. f.effects) c.fun.ensures) c.rules-rules.ensures
    c.state_left-state.ensures c.greatest_word.ensures c.first_unheld.ensures c.first_stop.ensures c.first_past-past.ensures c.or.ensures c.or-2.ensures
