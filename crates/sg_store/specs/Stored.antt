-- What contracts see of the storage.
use Rattle.std.specs.Prelude.{ℕ, zero, suc, List, None, slice_get, unwrap_or}
use Rattle.std.specs.declared.option.Option.{Option}
use Rattle.sg_facts.specs.declared.row.Row.{Row}
use Rattle.sg_store.specs.declared.receipts.Receipt.{Receipt}
use Rattle.sg_store.specs.Spans.{Filed, HasRoomIn, Span, bytes_in}
use Rattle.sg_track.specs.Tracked.{Tracked}

-- the number of clients, the last receipt of each, the rows in ascending ids, how many ids were given, for how many more
-- rows there is room, the buffer of the files, and where each file stands in it
pub record Stored : Type 0 where
  pub clients : ℕ
  pub receipts : List (Option Receipt)
  pub rows : List Row
  pub given : ℕ
  pub spare : ℕ
  pub buffer : List ℕ
  pub spans : List Span

-- the receipt of a client among all; clients are numbered from 1
abbrev pub receipt_in : List (Option Receipt) → ℕ → Option Receipt
receipt_in receipts zero = None
receipt_in receipts (suc at) = unwrap_or (slice_get receipts at) None

-- the last receipt of a client
abbrev pub receipt_at : Stored → ℕ → Option Receipt
receipt_at s client = receipt_in s.receipts client

-- the tracked rows
abbrev pub tracked_in : Stored → Tracked
tracked_in s = record { rows = s.rows; given = s.given; spare = s.spare }

-- the files
abbrev pub files_in : Stored → Filed
files_in s = record { buffer = s.buffer; spans = s.spans }

-- the bytes of a file; one that was never written has none
abbrev pub bytes_of : Stored → List ℕ → List ℕ
bytes_of s key = bytes_in (files_in s) key

-- a file has room for a patch more
abbrev pub HasRoom : Stored → List ℕ → Type 0
HasRoom s key = HasRoomIn (files_in s) key
