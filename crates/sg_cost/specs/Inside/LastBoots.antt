-- The last boots in which the service was asked calls.
use Rattle.std.specs.Prelude.{ℕ, ◌≡◌, ◌+◌, ◌==◌, Bool, true, ◌&&◌, nat_le, if◌then◌else◌, List, [], ◌∷◌, unwrap_or}
use Rattle.std.specs.List.{list_any}
use Rattle.std.specs.Map.{lookup}
use Rattle.sg_facts.specs.Trace.{Boot}
use Rattle.sg_facts.specs.declared.entry.Entry.{Entry}
use Rattle.sg_facts.specs.declared.trace.Item.{Item}
use Rattle.sg_facts.specs.sg_base.declared.reply.Reply.{Reply}
use Rattle.sg_facts.specs.sg_base.declared.reply.Reply.TheVariants.{Ok, Refused}
use Rattle.sg_report.specs.sg_hist.Reading.{is_tagged}

-- whether two pairs of a client and a number of a call are the same
abbrev pub same_call : ℕ × ℕ → ℕ × ℕ → Bool
same_call a b = (a.0 == b.0) && (a.1 == b.1)

-- the boot that is kept for the call of a number of a client, 0 for none
abbrev pub kept_boot : List ((ℕ × ℕ) × ℕ) → ℕ → ℕ → ℕ
kept_boot kept client seq = unwrap_or (lookup (same_call (client, seq)) kept) 0

-- whether some item is of the call of a number of a client
abbrev pub has_call : ℕ → ℕ → List Item → Bool
has_call client seq items = list_any (λ item. is_tagged client seq item.tag) items

-- the number of the last boot, counted from 1, with an item of the call, 0 where none has
abbrev pub last_boot : List Boot → ℕ → ℕ → ℕ
last_boot [] client seq = 0
last_boot (b ∷ boots) client seq =
    if last_boot boots client seq == 0 then (if has_call client seq b.items then 1 else 0) else last_boot boots client seq + 1

-- the boots that are kept for calls are the last ones of these boots
abbrev pub AreLastBoots : List ((ℕ × ℕ) × ℕ) → List Boot → Type 0
AreLastBoots kept boots = (client seq : ℕ) → kept_boot kept client seq ≡ last_boot boots client seq

-- whether an answer may count before a boot, where this is the last boot of its call: that is one of so many first ones, or it is a
-- refusal, which changes nothing
abbrev pub counts_by : ℕ → ℕ → Reply → Bool
counts_by boot first (Ok good) = nat_le 1 boot && nat_le boot first
counts_by boot first (Refused code) = true

-- whether an entry may count before the boots after so many first ones
abbrev pub is_over : List ((ℕ × ℕ) × ℕ) → ℕ → Entry → Bool
is_over kept first e = counts_by (kept_boot kept e.call.client e.call.seq) first e.reply
