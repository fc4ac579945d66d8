-- Held replies in any order: which are drawn, what object they come to, and that one that is committed leaves the others as they were.
use Rattle.std.proofs.Common.{◌≡◌, suc, ◌≤◌, List, [], ◌∷◌, ◌++◌, length, refl, sym, ◌∙◌, ap, arith}
use Rattle.std.specs.Prelude.{◌≢◌}
use Rattle.std.specs.List.{Contains}
use Rattle.sg_facts.specs.sg_base.Lists.{Each}
use Rattle.sg_facts.specs.declared.entry.Entry.{Entry}
use Rattle.sg_facts.specs.Facts.{Facts}
use Rattle.sg_facts.specs.Legal.{Table}
use Rattle.sg_facts.specs.Object.{Object, after}
use Rattle.sg_facts.specs.Inside.Rows.{object_from}
use Rattle.sg_recovery_laws.proofs.Lists.{each_append, each_contains, each_map, each_split}
use Rattle.sg_world_laws.specs.Keeping.{ClientsDiffer, AreDrawn}
use Rattle.sg_recovery_laws.specs.Objects.Serving.{HasTime, IsLegalObject, IsService}
use Rattle.sg_recovery_laws.specs.Objects.Waiting.{AreWaiting, IsWaiting, NoneBy}
use Rattle.sg_recovery_laws.proofs.Objects.Waiting.{acting_is, hidden_is, less_time, past_waiting, time_after, waiting_after}
use Rattle.sg_recovery_laws.proofs.Objects.Steady.{after_good}

-- the object after two lists
pub object_after : (facts : Facts) (o : Object) (xs ys : List Entry) → object_from facts o (xs ++ ys) ≡ object_from facts (object_from facts o xs) ys
object_after facts o [] ys = refl
object_after facts o (x ∷ xs) ys = object_after facts (after facts o x.call x.reply) xs ys

-- what each of them meets, drawn ones meet
waiting_each : (facts : Facts) (ask : Table) (o : Object) (ws : List Entry) → AreWaiting facts ask o ws → Each (IsWaiting facts ask o) ws
waiting_each facts ask o [] all = tt
waiting_each facts ask o (w ∷ ws) all = (all.0, waiting_each facts ask o ws all.2)

from_each : (facts : Facts) (ask : Table) (o : Object) (es : List Entry) → Each (IsWaiting facts ask o) es → ClientsDiffer es → AreWaiting facts ask o es
from_each facts ask o [] each apart = tt
from_each facts ask o (e ∷ es) each apart = (each.0, apart.0, from_each facts ask o es each.1 apart.1)

pub drawn_waiting : (facts : Facts) (ask : Table) (o : Object) (ws es : List Entry) → AreWaiting facts ask o ws → AreDrawn ws es → AreWaiting facts ask o es
drawn_waiting facts ask o ws es all drawn =
    from_each facts ask o es (each_map (Contains ws) (IsWaiting facts ask o) es (λ e has. each_contains (IsWaiting facts ask o) ws e (waiting_each facts ask o ws all) has) drawn.each) drawn.apart

-- the reply of one client among them
pub none_apart : (pre post : List Entry) (p : Entry) → ClientsDiffer (pre ++ p ∷ post) → NoneBy p.call.client pre × NoneBy p.call.client post
none_apart [] post p apart = (tt, apart.0)
none_apart (x ∷ pre) post p apart =
    let rest = none_apart pre post p apart.1 in
    let own = each_split (λ e. e.call.client ≢ x.call.client) pre (p ∷ post) apart.0 in
    ((λ same. own.1.0 (sym same), rest.0), rest.1)

pub waiting_apart : (facts : Facts) (ask : Table) (o : Object) (ws : List Entry) → AreWaiting facts ask o ws → ClientsDiffer ws
waiting_apart facts ask o [] all = tt
waiting_apart facts ask o (w ∷ ws) all = (all.1, waiting_apart facts ask o ws all.2)

pub waiting_split : (facts : Facts) (ask : Table) (o : Object) (pre post : List Entry) → AreWaiting facts ask o (pre ++ post) → AreWaiting facts ask o pre
waiting_split facts ask o [] post all = tt
waiting_split facts ask o (x ∷ pre) post all = (all.0, (each_split (λ e. e.call.client ≢ x.call.client) pre post all.1).0, waiting_split facts ask o pre post all.2)

pub waiting_one : (facts : Facts) (ask : Table) (o : Object) (pre post : List Entry) (p : Entry) → AreWaiting facts ask o (pre ++ p ∷ post) → IsWaiting facts ask o p
waiting_one facts ask o [] post p all = all.0
waiting_one facts ask o (x ∷ pre) post p all = waiting_one facts ask o pre post p all.2

pub waiting_without : (facts : Facts) (ask : Table) (o : Object) (pre post : List Entry) (p : Entry) → AreWaiting facts ask o (pre ++ p ∷ post) → AreWaiting facts ask o (pre ++ post)
waiting_without facts ask o [] post p all = all.2
waiting_without facts ask o (x ∷ pre) post p all =
    let own = each_split (λ e. e.call.client ≢ x.call.client) pre (p ∷ post) all.1 in
    (all.0, each_append (λ e. e.call.client ≢ x.call.client) pre post own.0 own.1.1, waiting_without facts ask o pre post p all.2)

module _ (facts : Facts) (ask : Table) (sound : Object → Type 0) (law : IsService facts ask sound) (o : Object) (pre post : List Entry) (p : Entry) (ok : IsLegalObject facts sound o)
    (time : HasTime facts (suc (suc (length (pre ++ p ∷ post)))) o) (all : AreWaiting facts ask o (pre ++ p ∷ post)) where
  -- one that is committed first leaves the object after all as it was
  pub committed_same : object_from facts (after facts o p.call p.reply) (pre ++ post) ≡ object_from facts o (pre ++ p ∷ post)
  committed_same =
      let own = waiting_one facts ask o pre post p all in
      let hidden = hidden_is facts p.call.fun own.hidden in
      let apart = none_apart pre post p (waiting_apart facts ask o (pre ++ p ∷ post) all) in
      let few : length pre ≤ length (pre ++ p ∷ post) = n_le pre in
      let later = time_after facts ask sound law (suc (length (pre ++ p ∷ post))) o p.call p.reply ok own.answered time in
      let pres = waiting_split facts ask o pre (p ∷ post) all in
      object_after facts (after facts o p.call p.reply) pre post
      ∙ ap (λ x. object_from facts x post) (past_waiting facts ask sound law o p.call p.reply pre ok (after_good facts ask sound law o p.call p.reply ok own.answered)
      (acting_is facts ask sound law o p.call p.reply hidden.alone own.answered) apart.0
      (less_time facts ask sound law (suc (suc (length (pre ++ p ∷ post)))) (suc (length pre)) o (omega (arith, few)) time)
      (less_time facts ask sound law (suc (length (pre ++ p ∷ post))) (length pre) (after facts o p.call p.reply) (omega (arith, few)) later) pres
      (waiting_after facts ask sound law o p.call p.reply pre ok own.answered (less_time facts ask sound law (suc (length (pre ++ p ∷ post))) 0 (after facts o p.call p.reply) (omega arith) later) apart.0 pres))
      ∙ sym (object_after facts o pre (p ∷ post))
    where
      n_le : (xs : List Entry) → length xs ≤ length (xs ++ p ∷ post)
      n_le [] = omega arith
      n_le (x ∷ xs) = let n = n_le xs in omega (arith, n)

  -- and the others held
  pub committed_waiting : AreWaiting facts ask (after facts o p.call p.reply) (pre ++ post)
  committed_waiting =
      let own = waiting_one facts ask o pre post p all in
      let apart = none_apart pre post p (waiting_apart facts ask o (pre ++ p ∷ post) all) in
      let later = time_after facts ask sound law (suc (length (pre ++ p ∷ post))) o p.call p.reply ok own.answered time in
      waiting_after facts ask sound law o p.call p.reply (pre ++ post) ok own.answered (less_time facts ask sound law (suc (length (pre ++ p ∷ post))) 0 (after facts o p.call p.reply) (omega arith) later)
      (each_append (λ e. e.call.client ≢ p.call.client) pre post apart.0 apart.1) (waiting_without facts ask o pre post p all)
