-- The world keeps what it keeps where the service stops: nothing is held then, and nothing stands in the service.
use Rattle.std.proofs.Common.{List, None, [], ap, arith, length, refl, subst, suc, sym, ℕ, ◌++◌, ◌∙◌, ◌∷◌, ◌≡◌, ◌≢◌, ◌≤◌}
use Rattle.sg_facts.specs.sg_base.Lists.{Each}
use Rattle.sg_boot.proofs.Keeping.{kept_struck}
use Rattle.sg_facts.specs.Trace.{Boot, Run}
use Rattle.sg_facts.specs.declared.entry.Entry.{Entry}
use Rattle.sg_facts.specs.declared.trace.Item.{Item}
use Rattle.sg_recovery_laws.proofs.Onward.{struck_stays}
use Rattle.sg_recovery_laws.specs.sg_hist.Growing.{IsRecovering, struck}
use Rattle.sg_recovery_laws.specs.sg_hist.Reading.{last_items, older_items}
use Rattle.sg_clients.specs.WorldView.{WorldView, held_replies, unanswered}
use Rattle.sg_recovery_laws.specs.LastItem.LastPlace.{HaveItems}
use Rattle.sg_recovery_laws.proofs.sg_track.Ascending.{later}
use Rattle.sg_world_laws.specs.Keeping.{AreDrawn, KeepsPromise, Stub}
use Rattle.sg_world_laws.specs.Setting.{Setting, stubs_of}

pub none_drawn : (es : List Entry) → AreDrawn [] es → es ≡ []
none_drawn [] drawn = refl
none_drawn (e ∷ es) drawn = absurd (omega (arith, drawn.few))

pub no_drawn : (ws : List Entry) → AreDrawn ws []
no_drawn ws = record { each = tt; apart = tt; few = omega arith }

-- ---- the last boot, stopped

pub last_struck : (boots : List Boot) (stop : ℕ) → last_items (struck boots stop) ≡ last_items boots
last_struck [] stop = refl
last_struck (b ∷ []) stop = refl
last_struck (b ∷ c ∷ []) stop = refl
last_struck (b ∷ c ∷ d ∷ boots) stop = last_struck (c ∷ d ∷ boots) stop

pub older_struck : (before : List Item) (boots : List Boot) (stop : ℕ) → older_items before (struck boots stop) ≡ older_items before boots
older_struck before [] stop = refl
older_struck before (b ∷ []) stop = refl
older_struck before (b ∷ c ∷ []) stop = refl
older_struck before (b ∷ c ∷ d ∷ boots) stop = older_struck (before ++ b.items) (c ∷ d ∷ boots) stop

pub length_struck : (boots : List Boot) (stop : ℕ) → length (struck boots stop) ≡ length boots
length_struck [] stop = refl
length_struck (b ∷ []) stop = refl
length_struck (b ∷ c ∷ boots) stop = ap suc (length_struck (c ∷ boots) stop)

-- a run that is stopped has the items of the world, or one more: that of the call within which it stopped
pub record IsCutOff (z : Setting) (w : WorldView) (run : Run) : Type 0 where
  pub begun : run.boots ≢ []
  pub long : length run.boots ≡ length w.run.boots
  pub items : HaveItems (older_items [] run.boots ++ last_items run.boots) w.history
  pub recovers : IsRecovering (stubs_of z) (w.history ++ []) run (unanswered w)

module _ (z : Setting) (w : WorldView) (stub later : Stub) (k : KeepsPromise z w stub) (run : Run) (cut : IsCutOff z w run) (stop points : ℕ) where
  -- the service stops at a point, after this run
  pub stopped : KeepsPromise z (record w { run = record { boots = struck run.boots stop; points = points }; running = None }) later
  stopped = record {
    legal = k.legal;
    calls = k.calls;
    object = k.object;
    seats = record { each = k.seats.each; numbered = k.seats.numbered; total = k.seats.total; few = k.seats.few; boots_few = subst (λ n. Each (λ s. s.boot ≤ n) w.seats) (sym (length_struck run.boots stop ∙ cut.long)) k.seats.boots_few };
    waiting = tt;
    enter = tt;
    items = subst (λ l. HaveItems l w.history) (sym (ap (λ l. l ++ last_items (struck run.boots stop)) (older_struck [] run.boots stop) ∙ ap (λ l. older_items [] run.boots ++ l) (last_struck run.boots stop))) cut.items;
    held_items = tt;
    recovering = λ es drawn. subst (λ l. IsRecovering (stubs_of z) (w.history ++ l) (record { boots = struck run.boots stop; points = points }) (unanswered w)) (sym (none_drawn es drawn))
        (struck_stays (stubs_of z) (w.history ++ []) run.boots run.points points stop (unanswered w) cut.recovers);
    cell = kept_struck z.iface.facts run.boots stop cut.begun;
    stands = tt;
  }

-- at the point before a use, or after a commit
pub stopped_between : (z : Setting) (w : WorldView) (stub later : Stub) → KeepsPromise z w stub → (stop points : ℕ) → KeepsPromise z (record w { run = record { boots = struck w.run.boots stop; points = points }; running = None }) later
stopped_between z w stub later k stop points =
    stopped z w stub later k w.run
    (record { begun = k.cell.begun; long = refl; items = k.items; recovers = k.recovering [] (no_drawn (held_replies w)) }) stop points
