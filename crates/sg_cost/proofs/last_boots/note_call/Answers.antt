-- The boot of the call is noted, and the others stay.
use Rattle.std.proofs.Common.{◌≡◌, ℕ, Bool, true, false, cond, Some, refl, ◌∙◌, ap}
use Rattle.std.specs.Prelude.{unwrap_or}
use Rattle.std.specs.Map.{lookup}
use Rattle.std.specs.declared.option.Option.{Option}
use Rattle.sg_cost.specs.Inside.LastBoots.{kept_boot, same_call}
use Rattle.sg_cost.proofs.last_boots.note_call.Goals as goal

read : (b : Bool) (n : ℕ) (old : Option ℕ) → unwrap_or (cond b (Some n) old) 0 ≡ cond b n (unwrap_or old 0)
read true n old = refl
read false n old = refl

pub returns : goal.returns
returns c = λ client seq.
    ap (λ found. unwrap_or found 0) (c.in-Ok.ensures.updates.0 (client, seq))
    ∙ read (same_call (c.args.client, c.args.seq) (client, seq)) c.args.number (lookup (same_call (client, seq)) c.reserve.new.self.entries)
    ∙ ap (λ entries. cond (same_call (c.args.client, c.args.seq) (client, seq)) c.args.number (kept_boot entries client seq)) c.in_ok-reserve.ensures.entries
