-- So many clients have no receipt.
use Rattle.std.proofs.Common.{◌≡◌, None}
use Rattle.std.specs.Prelude.{replicate}
use Rattle.sg_store.proofs.receipts.no_receipts.Given as goal

abbrev pub invariant-clients : goal.invariant-clients
invariant-clients l = l.receipts.items ≡ replicate l.counter None
