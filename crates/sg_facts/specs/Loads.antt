-- The item of a load, by its parts.
use Rattle.std.specs.Prelude.{ℕ, [], Some}
use Rattle.sg_facts.specs.declared.outcome.Outcome.TheVariants.{Replied}
use Rattle.sg_facts.specs.declared.outcome.Patch.{Patch}
use Rattle.sg_facts.specs.declared.trace.Item.{Item}
use Rattle.sg_facts.specs.declared.trace.Tag.TheVariants.{Load}
use Rattle.sg_base.specs.declared.reply.Reply.TheVariants.{Ok}

-- a load of a file, for a client, with the number of points asked: a patch of the whole file
pub record NotedLoad : Type 0 where
  pub client : ℕ
  pub points : ℕ
  pub file : Patch

-- its item: a call of no function, and an Ok without words that patches the file
abbrev pub load_item : NotedLoad → Item
load_item load = record {
  tag = Load load.file.key load.client;
  shown = record { client = load.client; seq = 0; fun = 0; desc = 0; args = [] };
  real = 0;
  points = load.points;
  outcome = Replied (Ok (record { desc = 0; words = []; bytes = [] })) (Some load.file);
}
