-- Nobody is blocked at the file service.
use Rattle.sg_facts.specs.Laws.{BlockedStays}
use Rattle.sg_ramfs.specs.RamfsFacts.{ramfs_facts}
use Rattle.sg_ramfs.specs.RamfsSound.{IsRamfsSound}
use Rattle.sg_ramfs.specs.RamfsTable.{ramfs_table}
use Rattle.sg_ramfs.specs.Inside.RamfsReplies.{always_answered}

-- who is blocked at the file service stays blocked: nobody ever is
pub ramfs_blocked_stays : BlockedStays ramfs_facts ramfs_table IsRamfsSound
ramfs_blocked_stays = record {
  blocked = λ o other call good sound passes blocked passes_too is leaves. absurd (always_answered o other blocked);
  state = λ o other call good sound passes blocked passes_too is leaves. absurd (always_answered o other blocked);
}
