-- Which room is enough for what one item holds.
use Rattle.std.specs.Prelude.{◌≤◌}
use Rattle.sg_facts.specs.sg_base.Spare.{HasReplyRoom}
use Rattle.sg_facts.specs.Limits.{most_path, most_written}
use Rattle.sg_boot.specs.declared.room.ItemRoom.{ItemRoom}

-- for a reply, a key and the bytes of a patch
pub record HasItemRoom (room : ItemRoom) : Type 0 where
  pub reply : HasReplyRoom room.reply
  pub key : most_path ≤ room.key
  pub bytes : most_written ≤ room.bytes
