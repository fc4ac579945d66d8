-- Whether there is room for one more row.
use Rattle.std.proofs.Common.{◌≡◌, ◌≤◌, Bool, true, false, refl, arith}
use Rattle.sg_track.specs.Kept.{spare_of}

-- where there is room for one, it is ready
pub is_ready : (ready : Bool) → 1 ≤ spare_of ready → ready ≡ true
is_ready true some = refl
is_ready false some = absurd (omega (arith, some))

pub unready : false ≡ true → ⊥
unready is = cc is
