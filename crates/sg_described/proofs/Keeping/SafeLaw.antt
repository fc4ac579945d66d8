-- What the test of a description tells.
use Rattle.std.proofs.Common.{◌≡◌, ℕ, Bool, true, false, cond, not, length, refl, arith}
use Rattle.std.specs.Prelude.{◌==◌, ◌&&◌, nat_le}
use Rattle.std.specs.List.{list_all}
use Rattle.sg_facts.specs.Allowed.{is_allowed, is_never}
use Rattle.sg_described.specs.Described.{Described}
use Rattle.sg_described.specs.DescribedLaws.{KeepsLaws}
use Rattle.sg_described.specs.Meaning.{last_word}
use Rattle.sg_described.specs.NeverZero.{all_from}
use Rattle.sg_described.specs.Safe.{IsPlain, IsSafe, are_plain_rules, counts_slowly, described_nothing, is_plain, is_plain_fun, is_plain_move, is_safe, made_safe, replays_slowly}
use Rattle.sg_described.specs.Waiting.{waits_well}
use Rattle.sg_described.specs.Walking.{begins_well, most_more, spots_of, walks_well}
use Rattle.sg_described.proofs.Keeping.AlikeLaw.{described_answers_alike}
use Rattle.sg_described.proofs.Keeping.Basics.{both_true, no_it, same_of}
use Rattle.sg_described.proofs.Keeping.BlockedLaw.{described_blocked_stays}
use Rattle.sg_described.proofs.Keeping.CountLaw.{described_counts_slowly}
use Rattle.sg_described.proofs.Keeping.ShapeLaw.{described_shape_allows}
use Rattle.sg_described.proofs.Keeping.SoundLaw.{described_answers_and_keeps}
use Rattle.sg_described.proofs.Keeping.WalkLaw.{described_walk_goes_on}

pub plain_tells : (d : Described) → is_plain d ≡ true → IsPlain d
plain_tells d is =
    let a10 = both_true _ (all_from (are_plain_rules d) 1 d.facts.funs) is in
    let a9 = both_true _ (all_from (is_plain_fun d) 1 d.facts.funs) a10.0 in
    let a8 = both_true _ (list_all (is_plain_move d) d.facts.moves) a9.0 in
    let a7 = both_true _ (nat_le (length d.answers) (length d.facts.funs)) a8.0 in
    let a6 = both_true _ (list_all (λ m. nat_le m last_word) d.most) a7.0 in
    let a5 = both_true _ (length d.most == length d.facts.fields) a6.0 in
    let a4 = both_true _ (list_all (λ f. not f.text) d.facts.fields) a5.0 in
    let a3 = both_true _ (not d.facts.resc_data) a4.0 in
    let a2 = both_true _ (not d.facts.subtree) a3.0 in
    let a1 = both_true (is_allowed d.facts) (is_never d.facts.parents) a2.0 in
    record {
      allowed = a1.0;
      no_parents = a1.1;
      alone = no_it d.facts.subtree a2.1;
      fileless = no_it d.facts.resc_data a3.1;
      words = a4.1;
      fields = same_of (length d.most) (length d.facts.fields) a5.1;
      most = a6.1;
      answers = a7.1;
      moves = a8.1;
      funs = a9.1;
      rules = a10.1;
    }

pub safe_tells : (d : Described) → is_safe d ≡ true → IsSafe d
safe_tells d is =
    let a5 = both_true _ (list_all (walks_well d) (spots_of d)) is in
    let a4 = both_true _ (all_from (begins_well d) 1 d.facts.funs) a5.0 in
    let a3 = both_true _ (all_from (waits_well d) 1 d.facts.funs) a4.0 in
    let a2 = both_true _ (all_from (replays_slowly d) 1 d.facts.funs) a3.0 in
    let a1 = both_true (is_plain d) (all_from (counts_slowly d) 0 d.most) a2.0 in
    record { plain = plain_tells d a1.0; counts = a1.1; recounts = a2.1; waits = a3.1; begins = a4.1; walks = a5.1 }

pub keeps_laws : (d : Described) → IsSafe d → KeepsLaws d
keeps_laws d safe = record {
  answers_and_keeps = described_answers_and_keeps d safe.plain;
  answers_alike = described_answers_alike d safe.plain;
  walk_goes_on = described_walk_goes_on d safe.plain safe.begins most_more (omega arith) safe.walks;
  blocked_stays = described_blocked_stays d safe.plain safe.waits;
  shape_allows = described_shape_allows d safe.plain;
  counts_slowly = described_counts_slowly d safe.plain safe.counts safe.recounts;
}

-- a description that is made safe is safe
pub made_is_safe : (d : Described) → IsSafe (made_safe d)
made_is_safe d = at (is_safe d) refl
  where
    at : (b : Bool) → is_safe d ≡ b → IsSafe (cond b d described_nothing)
    at true is = safe_tells d is
    at false is = safe_tells described_nothing refl

pub made_keeps_laws : (d : Described) → KeepsLaws (made_safe d)
made_keeps_laws d = keeps_laws (made_safe d) (made_is_safe d)
