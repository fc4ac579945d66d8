-- A walk is put where none is.
use Rattle.std.proofs.Common.{◌≡◌, None, Some, sym, ◌∙◌, subst}
use Rattle.std.specs.Prelude.{if◌then◌else◌}
use Rattle.std.specs.Option.{option_or}
use Rattle.sg_walk.specs.LeastWalks.{same_key, walk_at}
use Rattle.sg_walk.proofs.WalkTables.{put_new}
use Rattle.sg_walk.proofs.walks.Walks.put.Goals as goal

pub returns-clause-ok : goal.returns-clause-ok
returns-clause-ok c = λ m s k.
    subst (λ l. walk_at c.insert.new.self.entries m s k ≡ option_or (walk_at l m s k) (if same_key (c.args.made, c.args.state, c.args.mask) (m, s, k) then Some c.args.walk else None)) c.self.view_is
    (put_new c.self.inside.walks.entries c.args.made c.args.state c.args.mask c.args.walk m s k (walk_at c.insert.new.self.entries m s k)
    (sym c.contains_key.ensures ∙ c.if-contains_key.false) (c.in_ok-insert.ensures.updates.0 (m, s, k)))
