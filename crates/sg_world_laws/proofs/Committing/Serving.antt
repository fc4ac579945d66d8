-- A call that is let in, and finds what it needs, may be asked of the running service, and what the service replies is the answer at the
-- object of the history.
use Rattle.std.proofs.Common.{◌≡◌, ℕ, ◌+◌, ◌<◌, Bool, true, false, cond, List, [], ◌∷◌, None, Some, length, refl, sym, ◌∙◌, ap, subst, inl, inr, ◌⊎◌, arith}
use Rattle.std.specs.Prelude.{◌==◌, ◌||◌, ◌&&◌}
use Rattle.std.specs.declared.option.Option.{Option}
use Rattle.std.proofs.lemmas.Bool.Decides.{eqb_tells, nat_tests}
use Rattle.sg_facts.specs.sg_base.declared.call.Call.{Call}
use Rattle.sg_facts.specs.sg_base.declared.reply.Good.{Good}
use Rattle.sg_facts.specs.sg_base.declared.reply.Reply.{Reply}
use Rattle.sg_facts.specs.sg_base.declared.reply.Reply.TheVariants.{Ok, Refused}
use Rattle.sg_world_laws.specs.Committing.Telling.{IsToldBy}
use Rattle.sg_facts.specs.declared.entry.Entry.{Entry}
use Rattle.sg_facts.specs.declared.outcome.Outcome.TheVariants.{Replied}
use Rattle.sg_facts.specs.declared.outcome.Patch.{Patch}
use Rattle.sg_facts.specs.declared.row.Row.{Row}
use Rattle.sg_facts.specs.declared.shape.Parents.{Parents}
use Rattle.sg_facts.specs.declared.shape.Parents.TheVariants.{Never, Same, Cross}
use Rattle.sg_facts.specs.declared.trace.Item.{Item}
use Rattle.sg_facts.specs.declared.trace.Tag.TheVariants.{Client}
use Rattle.sg_facts.specs.Alike.{HasAlike, SameReply, Serves, named, under_names}
use Rattle.sg_facts.specs.Facts.{Fun, fun_at, takes_desc, takes_parent}
use Rattle.sg_facts.specs.Inside.Guards.{is_own, is_there, may_be_parent}
use Rattle.sg_facts.specs.Held.{whole, partly, EachHeld, IsHeldFor}
use Rattle.sg_facts.specs.Kinds.{MayAsk, may_be_root}
use Rattle.sg_facts.specs.Laws.{whole as whole_interface}
use Rattle.sg_facts.specs.Needs.{is_needed}
use Rattle.sg_facts.specs.Object.{Object, object_of, patch_of}
use Rattle.sg_facts.specs.Inside.Rows.{object_from, has_child}
use Rattle.sg_facts.specs.Sound.{IsRow}
use Rattle.sg_facts.specs.Trace.{Boot}
use Rattle.sg_facts.specs.Track.{is_ancestor, is_live, row_at}
use Rattle.sg_facts.proofs.RowLists.{id_of_row, live_of_row}
use Rattle.sg_recovery_laws.proofs.Midway.Back.{named_or_none}
use Rattle.sg_recovery_laws.proofs.Midway.Numbers.{counted_below}
use Rattle.sg_recovery_laws.proofs.Midway.Served.{HasReply, reply_of}
use Rattle.sg_recovery_laws.specs.sg_hist.Reading.{service_call}
use Rattle.sg_recovery_laws.specs.sg_hist.Recovered.{IsByTable}
use Rattle.sg_recovery_laws.specs.Objects.Waiting.{AreWaiting}
use Rattle.sg_recovery_laws.proofs.Objects.Answered.{child_same}
use Rattle.sg_recovery_laws.proofs.Objects.Guarded.{ActsOnOne, acts, keeps, let_pass, own_desc}
use Rattle.sg_recovery_laws.proofs.Objects.Serves.{desc_row}
use Rattle.sg_recovery_laws.proofs.Objects.Steady.{ascends}
use Rattle.sg_recovery_laws.proofs.Objects.Waiting.{after_same, hidden_is}
use Rattle.sg_clients.specs.WorldView.{WorldView, held_in}
use Rattle.sg_facts.proofs.Replaying.Found.{above, same_test}
use Rattle.sg_world_laws.specs.Keeping.{KeepsPromise, Stands, Stub, standing}
use Rattle.sg_world_laws.specs.Setting.{IsSetting, Setting}
use Rattle.sg_world_laws.specs.Turns.{HasAll, IsLetIn, IsRepliedItem}
use Rattle.sg_world_laws.proofs.Asked.{serves_call}
use Rattle.sg_world_laws.proofs.Orders.{all_drawn, far_now, good_es, good_now, time_es}

-- a row's parent has a child
parent_has : (rows : List Row) (id parent : ℕ) (r : Row) → row_at rows id ≡ Some r → r.parent ≡ parent → has_child rows parent ≡ true
parent_has [] id parent r there its = absurd (cc there)
parent_has (x ∷ rows) id parent r there its = at (x.id == id) there (parent_has rows id parent r)
  where
    or_true : (a : Bool) → (a || true) ≡ true
    or_true true = refl
    or_true false = refl

    at : (b : Bool) → cond b (Some x) (row_at rows id) ≡ Some r → (row_at rows id ≡ Some r → r.parent ≡ parent → has_child rows parent ≡ true) → ((x.parent == parent) || has_child rows parent) ≡ true
    at true is rest = let one : x ≡ r = cc is in ap (λ b. b || has_child rows parent) (same_test x.parent parent (ap (λ y. y.parent) one ∙ its))
    at false is rest = ap (λ b. (x.parent == parent) || b) (rest is its) ∙ or_true (x.parent == parent)

-- an Ok by its fields
abbrev good_of : ℕ → List ℕ → List ℕ → Good
good_of desc words bytes = record { desc = desc; words = words; bytes = bytes }

module _ (z : Setting) (set : IsSetting z) (w : WorldView) (b : Boot) (boots : List Boot) (v : Object) (stub : Stub) (k : KeepsPromise z (standing w b boots (Some v)) stub)
    (call : Call) (let_in : IsLetIn z (standing w b boots (Some v)) call) (all : HasAll z (standing w b boots (Some v)) stub call) where
  abbrev up : Stands z (standing w b boots (Some v)) stub v
  up = k.stands

  abbrev o : Object
  o = object_of z.iface.facts w.history

  abbrev ws : List Entry
  ws = held_in (length (b ∷ boots)) w.seats

  abbrev f : Fun
  f = fun_at z.iface.facts.funs call.fun

  -- the object after the held replies
  abbrev behind : Object
  behind = object_from z.iface.facts (object_of z.iface.facts w.history) (held_in (length (b ∷ boots)) w.seats)

  serves : Serves z.iface.facts stub.names (object_of z.iface.facts w.history) v call
  serves = serves_call z set w b boots v stub k call let_in all

  acts_it : ActsOnOne z.iface.facts (fun_at z.iface.facts.funs call.fun)
  acts_it = acts z.iface.facts call.fun set.law.shape.shape let_in.passes.is_call.first let_in.passes.is_call.last

  its_own : (r : Row) → r.id ≡ call.desc → is_needed z.iface.facts o.rows call r ≡ true
  its_own r same = ap (λ t. f.all || t || is_ancestor o.rows r.id call.desc) (same_test r.id call.desc same) ∙ at f.all
    where
      at : (a : Bool) → (a || true || is_ancestor o.rows r.id call.desc) ≡ true
      at true = refl
      at false = refl

  its_alike : (r : Row) → row_at o.rows call.desc ≡ Some r → HasAlike stub.names v r
  its_alike r of = let id : r.id ≡ call.desc = id_of_row o.rows call.desc r of in serves.needed r (ap (row_at o.rows) id ∙ of) (its_own r id)

  live_there : (r : Row) → row_at o.rows call.desc ≡ Some r → is_live v.rows (named stub.names call.desc) ≡ true
  live_there r of =
      let id : r.id ≡ call.desc = id_of_row o.rows call.desc r of in
      let has = its_alike r of in
      ap (λ n. is_live v.rows (named stub.names n)) (sym id) ∙ live_of_row v.rows (named stub.names r.id) has.row has.there

  named_there : (r : Row) → row_at o.rows call.desc ≡ Some r → named stub.names call.desc ≡ 0 → ⊥
  named_there r of none =
      let id : r.id ≡ call.desc = id_of_row o.rows call.desc r of in
      let has = its_alike r of in
      let low = above (IsRow z.iface.facts v.rows) 0 v.given (named stub.names r.id) v.rows has.row serves.held_sound.rows has.there in
      let its = id_of_row v.rows (named stub.names r.id) has.row has.there in
      let name : named stub.names r.id ≡ named stub.names call.desc = ap (named stub.names) id in
      absurd (omega (arith, low, its, name, none))

  not_so : (t : Bool) → (t ≡ true → ⊥) → t ≡ false
  not_so true isn't = absurd (isn't refl)
  not_so false isn't = refl

  no_query : takes_desc f ≡ true → f.query ≡ false
  no_query takes = not_so f.query (λ query. let none = ((keeps z.iface.facts call.fun set.law.shape.shape let_in.passes.is_call.first let_in.passes.is_call.last).query query).0 in cc (takes, none))

  -- ---- it may be asked

  desc_there : takes_desc f ≡ true → is_live v.rows (named stub.names call.desc) ≡ true
  desc_there takes = let r = desc_row z.iface.facts z.ask z.sound set.law o call let_in.passes takes (no_query takes) in live_there r.0 r.1

  parent_there : takes_parent f ≡ true → (is_live v.rows (named stub.names call.desc) || (may_be_root z.iface.facts.parents && (named stub.names call.desc == 0))) ≡ true
  parent_there takes = by_query f.query refl
    where
      or_true : (a : Bool) → (a || true) ≡ true
      or_true true = refl
      or_true false = refl

      either : (a c : Bool) → (a || c) ≡ true → (a ≡ true) ⊎ (c ≡ true)
      either true c is = inl refl
      either false c is = inr is

      own : (x : Option Row) → row_at o.rows call.desc ≡ x → is_own x call.client ≡ true → is_live v.rows (named stub.names call.desc) ≡ true
      own None of is = absurd (cc is)
      own (Some r) of is = live_there r of

      there : (x : Option Row) → row_at o.rows call.desc ≡ x → is_there x ≡ true → is_live v.rows (named stub.names call.desc) ≡ true
      there None of is = absurd (cc is)
      there (Some r) of is = live_there r of

      live : (m : Bool) → is_live v.rows (named stub.names call.desc) ≡ true → (is_live v.rows (named stub.names call.desc) || m) ≡ true
      live m is = ap (λ a. a || m) is

      at : (p : Parents) → may_be_parent p (row_at o.rows call.desc) call.desc call.client ≡ true
          → (is_live v.rows (named stub.names call.desc) || (may_be_root p && (named stub.names call.desc == 0))) ≡ true
      at Never may = live false (there (row_at o.rows call.desc) refl may)
      at Cross may = live false (there (row_at o.rows call.desc) refl may)
      at Same may = elim (either (call.desc == 0) (is_own (row_at o.rows call.desc) call.client) may) [
        | inl root ↦
            let none : call.desc ≡ 0 = grind (arith, nat_tests, root) in
            ap (λ a. is_live v.rows (named stub.names call.desc) || a) (same_test (named stub.names call.desc) 0 (ap (named stub.names) none ∙ serves.names_are.none))
            ∙ or_true (is_live v.rows (named stub.names call.desc))
        | inr is ↦ live (named stub.names call.desc == 0) (own (row_at o.rows call.desc) refl is)
      ]

      by_query : (q : Bool) → f.query ≡ q → (is_live v.rows (named stub.names call.desc) || (may_be_root z.iface.facts.parents && (named stub.names call.desc == 0))) ≡ true
      by_query true query = absurd (let none = ((keeps z.iface.facts call.fun set.law.shape.shape let_in.passes.is_call.first let_in.passes.is_call.last).query query).1 in cc (takes, none))
      by_query false row = at z.iface.facts.parents ((let_pass (whole_interface z.iface.facts) o call row let_in.passes.guarded).parent takes)

  -- its row has no child after the held replies either
  no_children : f.query ≡ false → f.creation ≡ false → f.terminal ≡ true → z.iface.facts.subtree ≡ false → has_child behind.rows call.desc ≡ false
  no_children row makes ends alone = by_held ws refl k.waiting
    where
      by_held : (l : List Entry) → l ≡ ws → AreWaiting z.iface.facts z.ask o l → has_child (object_from z.iface.facts o l).rows call.desc ≡ false
      by_held [] is waiting = (let_pass (whole_interface z.iface.facts) o call row let_in.passes.guarded).children ends alone
      by_held (p ∷ l) is waiting =
          let hidden = hidden_is z.iface.facts p.call.fun waiting.0.hidden in
          let good = good_now z set w b boots (Some v) stub k in
          let later = good_es z set w b boots (Some v) stub k ws (all_drawn z set w b boots (Some v) stub k) in
          let own = own_desc (whole_interface z.iface.facts) o call hidden.alone (let_pass (whole_interface z.iface.facts) o call row let_in.passes.guarded) (acts_it.on makes row).0 in
          let same = (after_same z.iface.facts z.ask z.sound set.law o ws call.client good (time_es z set w b boots (Some v) stub k ws (all_drawn z set w b boots (Some v) stub k)) k.waiting let_in.none_by).0 in
          ap (λ x. has_child (object_from z.iface.facts o x).rows call.desc) is
          ∙ child_same call.client o.rows behind.rows o.given behind.given call.desc (ascends z.iface.facts o (set.law.keeps.general o good.is_sound))
          (ascends z.iface.facts behind (set.law.keeps.general behind later.is_sound)) (good.own hidden.alone) (later.own hidden.alone) same own
          ∙ (let_pass (whole_interface z.iface.facts) o call row let_in.passes.guarded).children ends alone

  -- nor has its row in the service: each of the service's rows is for a row there
  no_children_there : (r : Row) → row_at o.rows call.desc ≡ Some r → has_child behind.rows call.desc ≡ false → (rows : List Row) → EachHeld z.iface stub.names behind v rows
      → has_child rows (named stub.names call.desc) ≡ false
  no_children_there r of none [] each = refl
  no_children_there r of none (x ∷ rows) each = two (isn't) (no_children_there r of none rows each.1)
    where
      two : {a c : Bool} → a ≡ false → c ≡ false → (a || c) ≡ false
      two {a = false} {c = false} p q = refl
      two {a = true} p q = absurd (cc p)
      two {a = false} {c = true} p q = absurd (cc q)

      parent_is : (y : Row) → IsHeldFor z.iface stub.names y x → x.parent ≡ named stub.names y.parent
      parent_is y (whole a) = a.parent
      parent_is y (partly done rest walk p) = p.parent

      isn't : (x.parent == named stub.names call.desc) ≡ false
      isn't = not_so (x.parent == named stub.names call.desc) (λ is.
          let same : named stub.names each.0.row.parent ≡ named stub.names call.desc = sym (parent_is each.0.row each.0.held_for) ∙ (grind (arith, nat_tests, is)) in
          elim (serves.names_are.apart each.0.row.parent call.desc same) [
            | inl zero_it ↦ named_there r of (sym same ∙ zero_it)
            | inr one ↦ let has = parent_has behind.rows each.0.row.id call.desc each.0.row each.0.live one in absurd (cc (has, none))
          ])

  children_there : f.query ≡ false → f.terminal ≡ true → z.iface.facts.subtree ≡ false → has_child v.rows (named stub.names call.desc) ≡ false
  children_there row ends alone = by_creation f.creation refl
    where
      by_creation : (c : Bool) → f.creation ≡ c → has_child v.rows (named stub.names call.desc) ≡ false
      by_creation true makes = absurd (let none = (acts_it.makes makes).1 in cc (ends, none))
      by_creation false makes =
          let r = desc_row z.iface.facts z.ask z.sound set.law o call let_in.passes (acts_it.on makes row).0 row in
          no_children_there r.0 r.1 (no_children row makes ends alone) v.rows up.in_recovery.holds.each

  given_later : behind.given ≡ o.given
  given_later = (after_same z.iface.facts z.ask z.sound set.law o ws call.client (good_now z set w b boots (Some v) stub k)
      (time_es z set w b boots (Some v) stub k ws (all_drawn z set w b boots (Some v) stub k)) k.waiting let_in.none_by).2

  -- the running service may be asked it under its ids
  pub may_ask : MayAsk z.iface.facts v (under_names stub.names call)
  may_ask =
      let far = far_now z set w b boots (Some v) stub k in
      let numbers = up.numbers in
      let most = k.object.given in
      record {
        is_call = record {
          first = let_in.passes.is_call.first;
          last = let_in.passes.is_call.last;
          fits = record {
            args = let_in.passes.is_call.fits.args;
            desc = λ no_desc no_parent. ap (named stub.names) (let_in.passes.is_call.fits.desc no_desc no_parent) ∙ serves.names_are.none;
          };
        };
        within = record {
          client_first = let_in.passes.within.client_first;
          client_last = let_in.passes.within.client_last;
          counted = counted_below z.iface.facts stub.told (length w.history) behind v up.numbers (omega (arith, given_later, most)) (omega (arith, far));
          given = omega (arith, numbers.given, given_later, most, far);
        };
        desc = desc_there;
        parent = parent_there;
        children = children_there;
      }

  -- ---- what it replies

  -- some reply at the object of the history says the same
  pub replied : (other : Reply) → z.ask v (under_names stub.names call) ≡ Some other → HasReply z.iface.facts z.ask stub.names (object_of z.iface.facts w.history) v call other
  replied other is = reply_of z.iface.facts z.ask stub.names o v call other (set.law.alike.alike stub.names o v call (good_now z set w b boots (Some v) stub k).is_sound let_in.passes serves) is

  -- what it makes has its next id
  pub next_there : (good : Good) → z.ask v (under_names stub.names call) ≡ Some (Ok good) → (fun_at z.iface.facts.funs call.fun).creation ≡ true → good.desc ≡ v.given + 1
  next_there good is makes = set.law.keeps.next v (under_names stub.names call) good is makes

  -- and any other descriptor stands for an id
  pub back_there : (good : Good) → z.ask v (under_names stub.names call) ≡ Some (Ok good) → (fun_at z.iface.facts.funs call.fun).creation ≡ false
      → (good.desc ≡ 0) ⊎ ((id : ℕ) × (0 < good.desc) × (named stub.names id ≡ good.desc))
  back_there good is makes = let r = replied (Ok good) is in by r.reply (subst (λ c. SameReply stub.names c (Some r.reply) (Some (Ok good))) makes r.same)
    where
      positive : (n : ℕ) → (n ≡ 0 → ⊥) → 0 < n
      positive n isn't = omega (arith, isn't)

      by : (reply : Reply) → SameReply stub.names false (Some reply) (Some (Ok good)) → (good.desc ≡ 0) ⊎ ((id : ℕ) × (0 < good.desc) × (named stub.names id ≡ good.desc))
      by (Refused code) s = absurd s
      by (Ok g) s = elim (eqb_tells good.desc 0) [
        | inl none ↦ inl none.1
        | inr some ↦ inr (g.desc, positive good.desc some.1, sym s.2)
      ]

  same_good : (g t : Good) → g.desc ≡ t.desc → g.words ≡ t.words → g.bytes ≡ t.bytes → g ≡ t
  same_good g t desc words bytes = ap (λ d. good_of d g.words g.bytes) desc ∙ ap (λ l. good_of t.desc l g.bytes) words ∙ ap (λ l. good_of t.desc t.words l) bytes

  -- a reply that says the same is the one that is told
  reply_is : (reply other told : Reply) → z.ask o call ≡ Some reply → z.ask v (under_names stub.names call) ≡ Some other → (c : Bool) → f.creation ≡ c
      → SameReply stub.names c (Some reply) (Some other) → IsToldBy stub.names c (o.given + 1) other told → reply ≡ told
  reply_is (Ok g) (Ok h) (Ok t) is is_v true makes s tells =
      let next = set.law.keeps.next o call g is makes in
      ap (λ x. Ok x) (same_good g t (next ∙ sym tells.2) (sym s.0 ∙ sym tells.0) (sym s.1 ∙ sym tells.1))
  reply_is (Ok g) (Ok h) (Ok t) is is_v false makes s tells = ap (λ x. Ok x) (same_good g t (desc tells.2) (sym s.0 ∙ sym tells.0) (sym s.1 ∙ sym tells.1))
    where
      none_is : named stub.names g.desc ≡ 0 → g.desc ≡ 0
      none_is none = named_or_none z.iface.facts z.ask z.sound set.law.alike stub.names o v call (good_now z set w b boots (Some v) stub k).is_sound
          (set.law.keeps.general o (good_now z set w b boots (Some v) stub k).is_sound) let_in.passes serves up.in_recovery.holds.given makes all.desc g h is is_v none

      desc : ((h.desc ≡ 0) × (t.desc ≡ 0)) ⊎ ((0 < h.desc) × (named stub.names t.desc ≡ h.desc)) → g.desc ≡ t.desc
      desc (inl none) = none_is (sym s.2 ∙ none.0) ∙ sym none.1
      desc (inr some) = elim (serves.names_are.apart g.desc t.desc (sym s.2 ∙ sym some.1)) [
        | inl none ↦ let one = some.0 in let two = s.2 in absurd (omega (arith, one, two, none))
        | inr one ↦ one
      ]
  reply_is (Refused c) (Refused d) (Refused e) is is_v true makes s tells = ap (λ x. Refused x) (sym s ∙ sym tells)
  reply_is (Refused c) (Refused d) (Refused e) is is_v false makes s tells = ap (λ x. Refused x) (sym s ∙ sym tells)
  reply_is (Ok g) (Refused d) told is is_v true makes s tells = absurd s
  reply_is (Ok g) (Refused d) told is is_v false makes s tells = absurd s
  reply_is (Refused c) (Ok h) told is is_v true makes s tells = absurd s
  reply_is (Refused c) (Ok h) told is is_v false makes s tells = absurd s
  reply_is (Ok g) (Ok h) (Refused e) is is_v c makes s tells = absurd tells
  reply_is (Refused c) (Refused d) (Ok t) is is_v q makes s tells = absurd tells

  -- what is told under the clients' ids is the answer at the object of the history
  pub told_is : (other told : Reply) → z.ask v (under_names stub.names call) ≡ Some other
      → IsToldBy stub.names (fun_at z.iface.facts.funs call.fun).creation ((object_of z.iface.facts w.history).given + 1) other told
      → (z.ask (object_of z.iface.facts w.history) call ≡ Some told) × SameReply stub.names (fun_at z.iface.facts.funs call.fun).creation (Some told) (Some other)
  told_is other told is tells =
      let r = replied other is in
      let one = reply_is r.reply other told r.answered is f.creation refl r.same tells in
      (r.answered ∙ ap (λ x. Some x) one, subst (λ x. SameReply stub.names f.creation (Some x) (Some other)) one r.same)

  -- so the item of a call that was served, with its told reply, is a replied one
  pub replied_item : (item : Item) (told other : Reply) (patch : Option Patch) → item.tag ≡ Client call.client call.seq → item.shown ≡ call → item.real ≡ named stub.names call.desc
      → item.outcome ≡ Replied other patch → z.ask v (under_names stub.names call) ≡ Some other → patch ≡ patch_of z.iface.facts v (under_names stub.names call) other
      → IsToldBy stub.names (fun_at z.iface.facts.funs call.fun).creation ((object_of z.iface.facts w.history).given + 1) other told
      → IsRepliedItem z (standing w b boots (Some v)) stub v call item told other patch
  replied_item item told other patch tag shown real outcome is written tells =
      let answer = told_is other told is tells in
      let call_is : service_call item ≡ under_names stub.names call
      = ap (λ n. record item.shown { desc = n }) real ∙ ap (λ (c : Call). record c { desc = named stub.names call.desc }) shown in
      record {
        asked = record {
          tag = tag;
          shown = shown;
          real = real;
          table = subst (λ c. IsByTable z.iface.facts z.ask v c item.outcome) (sym call_is) (subst (λ x. IsByTable z.iface.facts z.ask v (under_names stub.names call) x) (sym outcome) (is, written));
        };
        outcome = outcome;
        answered = answer.0;
        answered_there = is;
        same = answer.1;
      }
