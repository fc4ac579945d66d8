use Rattle.test_recovery.proofs.LockFaults.{reply_without_an_item-wrong}
use Rattle.test_recovery.proofs.locks.reply_without_an_item.Goals as goal

pub returns : goal.returns
returns c = record { wrong = reply_without_an_item-wrong }
