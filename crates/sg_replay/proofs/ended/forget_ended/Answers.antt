-- The names that go are those of the ids that were live and aren't any more.
use Rattle.std.proofs.Common.{ap, cond, sym, ◌∙◌}
use Rattle.sg_name.specs.declared.named.Named.TheVariants.{Unnamed}
use Rattle.sg_name.specs.Names.{named_at}
use Rattle.sg_replay.specs.Inside.Ends.{is_ended}
use Rattle.sg_replay.proofs.Committed.{ended_left, none_left}
use Rattle.sg_replay.proofs.ended.forget_ended.Goals as goal

pub returns-then-ends_rows-clause-names : goal.returns-then-ends_rows-clause-names
returns-then-ends_rows-clause-names c = λ id.
    c.forget_with.ensures.names id
    ∙ ap (λ i. cond (is_ended i.facts.subtree c.args.rows.now.rows c.args.call.now.desc id) Unnamed (named_at c.args.names.now.known id)) c.interface.view_is
    ∙ ended_left c.args.interface.now.facts c.args.rows.now.rows c.args.call.now c.args.reply.now id (named_at c.args.names.now.known id) (sym c.ends_rows.ensures ∙ c.if-ends_rows.true)

pub returns-else-ends_rows-clause-names : goal.returns-else-ends_rows-clause-names
returns-else-ends_rows-clause-names c = λ id.
    none_left c.args.interface.now.facts c.args.rows.now.rows c.args.call.now c.args.reply.now id (named_at c.args.names.now.known id) (sym c.ends_rows.ensures ∙ c.if-ends_rows.false)
