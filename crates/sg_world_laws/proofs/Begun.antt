-- A world in which nothing was done keeps what worlds keep.

-- a client that did nothing yet
use Rattle.std.proofs.Common.{Bool, List, [], ap, arith, false, flat_map, if◌then◌else◌, inl, length, refl, subst, sym, ℕ, ◌++◌, ◌+◌, ◌∙◌, ◌∷◌, ◌≡◌, ◌≤◌}
use Rattle.std.proofs.Math.ListN.{set}
use Rattle.sg_facts.specs.sg_base.Lists.{Each}
use Rattle.sg_boot.proofs.Keeping.{kept_booted}
use Rattle.sg_facts.specs.Limits.{last_client}
use Rattle.sg_facts.specs.Object.{empty_object}
use Rattle.sg_facts.specs.Inside.Rows.{object_from}
use Rattle.sg_recovery_laws.specs.Midway.Numbers.{AreNumbers}
use Rattle.sg_recovery_laws.specs.Midway.Progress.{fresh}
use Rattle.sg_recovery_laws.specs.Objects.Waiting.{AreWaiting}
use Rattle.sg_recovery_laws.proofs.Onward.{nothing_yet}
use Rattle.sg_recovery_laws.specs.sg_hist.Growing.{IsInLast, IsRecovering}
use Rattle.sg_clients.specs.WorldView.{Seat, held_in, held_replies, is_held_in, no_seat, offered_by, unanswered, new_world}
use Rattle.sg_world_laws.proofs.Booted.{begins}
use Rattle.sg_world_laws.proofs.Struck.{none_drawn}
use Rattle.sg_world_laws.specs.Keeping.{AreDrawn, KeepsPromise, MayEnter}
use Rattle.sg_world_laws.specs.Seats.{AreSeated, IsSeated, all_seqs}
use Rattle.sg_world_laws.specs.Setting.{IsSetting, Setting, stubs_of}

abbrev pub AreNew : List Seat → Type 0
AreNew seats = Each (λ s. s ≡ no_seat) seats

new_held : (boot : ℕ) (seats : List Seat) → AreNew seats → held_in boot seats ≡ []
new_held boot [] new = refl
new_held boot (s ∷ seats) new = ap (λ x. if is_held_in boot x then record { call = x.call; reply = x.reply } ∷ held_in boot seats else held_in boot seats) new.0 ∙ new_held boot seats new.1

new_offered : (seats : List Seat) → AreNew seats → flat_map offered_by seats ≡ []
new_offered [] new = refl
new_offered (s ∷ seats) new = ap (λ x. offered_by x ++ flat_map offered_by seats) new.0 ∙ new_offered seats new.1

new_seated : (z : Setting) (client : ℕ) (seats : List Seat) → AreNew seats → AreSeated z [] [] client seats
new_seated z client [] new = tt
new_seated z client (s ∷ seats) new = (subst (IsSeated z [] client) (sym new.0) own, tt, new_seated z (client + 1) seats new.1)
  where
    own : IsSeated z [] client no_seat
    own = record {
      its = λ isn't. absurd (cc isn't);
      next = λ isn't. absurd (cc isn't);
      may = λ isn't. absurd (cc isn't);
      waits = λ isn't. absurd (cc isn't);
      receipt = λ isn't. absurd (cc isn't);
      count = refl;
      few = omega arith;
    }

new_seqs : (seats : List Seat) → AreNew seats → all_seqs seats ≡ 0
new_seqs [] new = refl
new_seqs (s ∷ seats) new = let own : s.seq ≡ 0 = ap (λ x. x.seq) new.0 in let rest = new_seqs seats new.1 in omega (arith, own, rest)

new_boots : (seats : List Seat) → AreNew seats → Each (λ s. s.boot ≤ 1) seats
new_boots [] new = tt
new_boots (s ∷ seats) new = (subst (λ x. x.boot ≤ 1) (sym new.0) (omega arith), new_boots seats new.1)

pub new_keeps : (z : Setting) (set : IsSetting z) (seats : List Seat) (present : List ℕ → Bool) → AreNew seats → length seats ≤ last_client → ((path : List ℕ) → present path ≡ false)
    → KeepsPromise z (new_world seats) (record { names = []; told = λ id. fresh; present = present })
new_keeps z set seats present new few absent = record {
  legal = tt;
  calls = tt;
  object = record { good = record { is_sound = set.law.keeps.empty; own = λ alone id r there. absurd (cc there) }; counted = omega arith; given = omega arith };
  seats = record { each = new_seated z 1 seats new; numbered = tt; total = new_seqs seats new; few = few; boots_few = new_boots seats new };
  waiting = subst (AreWaiting z.iface.facts z.ask empty_object) (sym none) tt;
  enter = subst (Each (MayEnter z [])) (sym none) tt;
  items = tt;
  held_items = subst (Each (IsInLast (new_world seats).run)) (sym none) tt;
  recovering = λ es drawn. subst (λ l. IsRecovering (stubs_of z) l (new_world seats).run (unanswered (new_world seats))) (sym (none_drawn es (subst (λ l. AreDrawn l es) none drawn)))
      (subst (IsRecovering (stubs_of z) [] (new_world seats).run) (sym (ap (λ l. l ++ []) (new_offered seats new))) (nothing_yet (stubs_of z)));
  cell = kept_booted z.iface.facts [];
  stands = record {
    numbers = subst (λ l. AreNumbers z.iface.facts (λ id. fresh) 0 (object_from z.iface.facts empty_object l) empty_object) (sym none) (record { given = omega arith; counted = omega arith });
    named_live = λ id. inl refl;
    in_recovery = begins z.iface z.walks (object_from z.iface.facts empty_object (held_replies (new_world seats))) present absent (set.law.keeps.general empty_object set.law.keeps.empty);
    read = λ es drawn. record { names_are = λ id known. refl; whole = λ id live. refl; calls = λ id live. refl; files = λ path. sym (absent path) };
    unnamed = λ es drawn id above. refl;
    rebuilt = λ eager some. absurd (some none);
  };
}
  where
    none : held_in 1 seats ≡ []
    none = new_held 1 seats new
