-- What is kept of the parts of a script that were judged.
use Rattle.std.specs.Prelude.{ℕ, ◌≡◌, ◌≤◌, ◌<◌, false, List, length, slice_index_or}
use Rattle.std.specs.List.{flat_map, list_any}
use Rattle.sg_facts.specs.Interface.{Declared}
use Rattle.sg_script_parse.specs.declared.tree.Part.{Part}
use Rattle.sg_script.specs.declared.front.SeenParts.{SeenParts}
use Rattle.sg_script.specs.Flaws.{calls_in}
use Rattle.sg_script.specs.Inside.Parts.{is_of_client, is_schedule, is_setup}
use Rattle.sg_script.specs.Scripts.{is_stop_of, most_members}

-- what is kept of these parts, in a script for these members: whether there was a setup or a schedule among them, which clients had a
-- part, which members had a `stop`, and how many calls they have
pub record IsFront (members : List Declared) (front : SeenParts) (parts : List Part) : Type 0 where
  pub setup : front.setup ≡ list_any is_setup parts
  pub clients : (k : ℕ) → k ≤ 64 → slice_index_or front.clients k false ≡ list_any (is_of_client k) parts
  pub schedule : front.schedule ≡ list_any is_schedule parts
  pub stops : (m : ℕ) → m < most_members → slice_index_or front.stops m false ≡ list_any (is_stop_of members m) parts
  pub calls : front.calls ≡ length (flat_map calls_in parts)
