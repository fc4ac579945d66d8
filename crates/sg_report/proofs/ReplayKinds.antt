-- Which items are replays is told by their kinds.
use Rattle.std.proofs.Common.{◌≡◌, true, Some, None, ap, refl, ◌∙◌}
use Rattle.std.specs.Option.{option_map}
use Rattle.std.specs.declared.option.Option.{Option}
use Rattle.sg_facts.specs.ItemKinds.{is_replay_kind, item_kind, outcome_kind, tag_kind}
use Rattle.sg_facts.specs.declared.kinds.ItemKind.{ItemKind}
use Rattle.sg_facts.specs.declared.outcome.Outcome.{Outcome}
use Rattle.sg_facts.specs.declared.outcome.Outcome.TheVariants.{Replied, Blocks, Stopped, NoMemory}
use Rattle.sg_facts.specs.declared.trace.Item.{Item}
use Rattle.sg_facts.specs.declared.trace.Tag.{Tag}
use Rattle.sg_facts.specs.declared.trace.Tag.TheVariants.{Walk, Load, Client}
use Rattle.sg_report.specs.Inside.Pieces.{is_replay_for}

-- an item of a kind
pub record HasKind (found : Option Item) (kind : ItemKind) : Type 0 where
  pub item : Item
  pub there : found ≡ Some item
  pub same : item_kind item ≡ kind

-- where a kind was told, there is an item of it
pub has_kind : (found : Option Item) (kind : ItemKind) → option_map item_kind found ≡ Some kind → HasKind found kind
has_kind None kind told = absurd (cc told)
has_kind (Some item) kind told = record { item = item; there = refl; same = cc told }

by_kind : (tag : Tag) (outcome : Outcome) → is_replay_for (λ id. true) tag outcome ≡ is_replay_kind (record { tag = tag_kind tag; gave = outcome_kind outcome })
by_kind (Walk id k client) (Replied reply patch) = refl
by_kind (Walk id k client) Blocks = refl
by_kind (Walk id k client) Stopped = refl
by_kind (Walk id k client) NoMemory = refl
by_kind (Load key client) outcome = refl
by_kind (Client client seq) outcome = refl

-- an item is a replay where its kind is
pub replay_by_kind : (found : Option Item) (kind : ItemKind) (has : HasKind found kind) → is_replay_for (λ id. true) has.item.tag has.item.outcome ≡ is_replay_kind kind
replay_by_kind found kind has = by_kind has.item.tag has.item.outcome ∙ ap is_replay_kind has.same
