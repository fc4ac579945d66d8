-- An engine after one call more of a walk.
use Rattle.std.proofs.Common.{◌≡◌, ◌⊎◌, ℕ, ◌+◌, ◌<◌, ◌≤◌, Bool, true, false, cond, List, None, Some, refl, sym, ◌∙◌, ap, subst, arith, nat_eq, inl, inr}
use Rattle.std.specs.Prelude.{◌==◌}
use Rattle.std.specs.Map.{lookup}
use Rattle.std.specs.Option.{option_map}
use Rattle.std.specs.declared.option.Option.{Option}
use Rattle.std.proofs.lemmas.Bool.Decides.{eqb_tells}
use Rattle.sg_facts.specs.sg_base.declared.call.Call.{Call}
use Rattle.sg_facts.specs.sg_base.declared.reply.Good.{Good}
use Rattle.sg_facts.specs.sg_base.declared.reply.Reply.{Reply}
use Rattle.sg_facts.specs.sg_base.declared.reply.Reply.TheVariants.{Ok}
use Rattle.sg_facts.specs.declared.outcome.Outcome.TheVariants.{Replied, Stopped}
use Rattle.sg_facts.specs.declared.outcome.Patch.{Patch}
use Rattle.sg_facts.specs.declared.row.Row.{Row}
use Rattle.sg_facts.specs.declared.tables.WalkLine.{WalkLine}
use Rattle.sg_facts.specs.declared.trace.Tag.{Tag}
use Rattle.sg_facts.specs.Alike.{under_names}
use Rattle.sg_facts.specs.Facts.{Facts, fun_at}
use Rattle.sg_facts.specs.Invoke.{Points}
use Rattle.sg_facts.specs.Legal.{Table}
use Rattle.sg_facts.specs.Object.{Object, after}
use Rattle.sg_facts.specs.Track.{row_at}
use Rattle.sg_facts.specs.Walks.{most_calls}
use Rattle.sg_boot.specs.Cells.{Celled}
use Rattle.sg_boot.specs.Invoking.{NotesReply, NotesStop, item_of_call, with_item, with_stop}
use Rattle.sg_name.specs.Names.{IsOneToOne, name_by, name_of, named_at, real_at, real_of}
use Rattle.sg_name.specs.declared.named.Named.{Named}
use Rattle.sg_name.specs.declared.named.Named.TheVariants.{Unnamed, Partial, Live}
use Rattle.sg_name.specs.declared.named.Standing.{Standing}
use Rattle.sg_replay.specs.Engined.{AreGiven, AreInWalks, Engined}
use Rattle.sg_replay.specs.Missing.{is_whole, next_number}
use Rattle.sg_replay.specs.Replaying.{MayReplay, name_after, real_after, replay_of}
use Rattle.sg_replay.specs.Serving.{pairs_of, real_call}

-- the ids given after an answer
pub given_more : (facts : Facts) (held : Object) (call : Call) (good : Good) → held.given ≤ (after facts held call (Ok good)).given
given_more facts held call good = at (fun_at facts.funs call.fun).creation
  where
    at : (b : Bool) → held.given ≤ cond b (held.given + 1) held.given
    at true = omega arith
    at false = omega arith

pub given_next : (facts : Facts) (held : Object) (call : Call) (good : Good) → (fun_at facts.funs call.fun).creation ≡ true → (after facts held call (Ok good)).given ≡ held.given + 1
given_next facts held call good makes = ap (λ b. cond b (held.given + 1) held.given) makes

-- ---- names and service ids

-- the service id of an id is that in its name
by_done : (done : Option ℕ) (real : ℕ) → Some real ≡ real_of (name_by done real)
by_done None real = refl
by_done (Some n) real = refl

pub real_named : (known : List (ℕ × Standing)) (id : ℕ) → real_at known id ≡ real_of (named_at known id)
real_named known id = at (lookup (nat_eq id) known)
  where
    at : (found : Option Standing) → option_map (λ s. s.real) found ≡ real_of (name_of found)
    at None = refl
    at (Some s) = by_done s.done s.real

-- a name after a call has the service id that the call leaves
pub real_of_after : (real k last : ℕ) → real_of (name_after real k last) ≡ Some real
real_of_after real k last = at (k == last)
  where
    at : (b : Bool) → real_of (cond b (Live real) (Partial real k)) ≡ Some real
    at true = refl
    at false = refl

one_real : (a b : ℕ) → Some a ≡ Some b → a ≡ b
one_real a b is = cc is

-- an id's row isn't whole, and the next call of its walk gave a descriptor, the first the service's next id; each service id is
-- one that the service had given, and of one id
pub record IsNextStep (known : List (ℕ × Standing)) (held : Object) (id k desc : ℕ) : Type 0 where
  pub given : AreGiven (Some held) known
  pub apart : IsOneToOne known
  pub partly : is_whole (named_at known id) ≡ false
  pub next : k ≡ next_number (named_at known id)
  pub new : k ≡ 1 → desc ≡ held.given + 1

module _ {known : List (ℕ × Standing)} {held : Object} {id k desc : ℕ} (step : IsNextStep known held id k desc) (last : ℕ) where
  -- which service id the id has after a call: that which it has, or that which the service gives
  abbrev Has : ℕ → Type 0
  Has real = (real_at known id ≡ Some real) ⊎ ((k ≡ 1) × (real ≡ desc))

  has_at : (named : Named) → named ≡ named_at known id → Has (real_after named desc)
  has_at Unnamed is = inr (step.next ∙ ap next_number (sym is), refl)
  has_at (Partial real done) is = inl (real_named known id ∙ ap real_of (sym is))
  has_at (Live real) is = absurd (let whole : true ≡ false = ap is_whole is ∙ step.partly in cc whole)

  -- no other id has it
  pub step_apart : (named : Named) → named ≡ named_at known id → (other real : ℕ) → real_of (name_after (real_after named desc) k last) ≡ Some real → real_at known other ≡ Some real → other ≡ id
  step_apart named is other real told its =
      let real_is : real_after named desc ≡ real = one_real (real_after named desc) real (sym (real_of_after (real_after named desc) k last) ∙ told) in
      at (has_at named is) real_is
    where
      at : Has (real_after named desc) → real_after named desc ≡ real → other ≡ id
      at (inl old) same = step.apart other id real its (old ∙ ap Some same)
      at (inr made) same =
          let low = (step.given other real its).1 in
          let high : real ≡ held.given + 1 = sym same ∙ made.1 ∙ step.new made.0 in
          absurd (omega (arith, low, high))

  -- and it is an id that the service has given then
  pub step_given : (facts : Facts) (call : Call) (good : Good) → good.desc ≡ desc → (k ≡ 1 → (fun_at facts.funs call.fun).creation ≡ true)
      → (named : Named) → named ≡ named_at known id → (real : ℕ) → real_of (name_after (real_after named desc) k last) ≡ Some real
      → (1 ≤ real) × (real ≤ (after facts held call (Ok good)).given)
  step_given facts call good gives makes named is real told =
      let real_is : real_after named desc ≡ real = one_real (real_after named desc) real (sym (real_of_after (real_after named desc) k last) ∙ told) in
      at (has_at named is) real_is
    where
      at : Has (real_after named desc) → real_after named desc ≡ real → (1 ≤ real) × (real ≤ (after facts held call (Ok good)).given)
      at (inl old) same =
          let within = step.given id real (old ∙ ap Some same) in
          let more = given_more facts held call good in
          (within.0, omega (arith, within.1, more))
      at (inr made) same =
          let is_next : real ≡ held.given + 1 = sym same ∙ made.1 ∙ step.new made.0 in
          let more = given_next facts held call good (makes made.0) in
          (omega (arith, is_next), omega (arith, is_next, more))

-- ---- names after a call

module _ (old new : List (ℕ × Standing)) (id : ℕ) (named : Named) (set : (x : ℕ) → named_at new x ≡ cond (x == id) named (named_at old x)) where
  real_set : (x real : ℕ) → real_at new x ≡ Some real → ((x ≡ id) × (real_of named ≡ Some real)) ⊎ (real_at old x ≡ Some real)
  real_set x real is = at (eqb_tells x id)
    where
      told : real_of (cond (x == id) named (named_at old x)) ≡ Some real
      told = ap real_of (sym (set x)) ∙ sym (real_named new x) ∙ is

      at : (((x == id) ≡ true) × (x ≡ id)) ⊎ (((x == id) ≡ false) × (x ≡ id → ⊥)) → ((x ≡ id) × (real_of named ≡ Some real)) ⊎ (real_at old x ≡ Some real)
      at (inl same) = inl (same.1, ap (λ b. real_of (cond b named (named_at old x))) (sym same.0) ∙ told)
      at (inr other) = inr (real_named old x ∙ ap (λ b. real_of (cond b named (named_at old x))) (sym other.0) ∙ told)

  -- service ids stay given where the service has given no less, and the new one too
  pub given_set : (held held' : Object) → AreGiven (Some held) old → held.given ≤ held'.given → ((real : ℕ) → real_of named ≡ Some real → (1 ≤ real) × (real ≤ held'.given)) → AreGiven (Some held') new
  given_set held held' given more its = λ x real is. at x real (real_set x real is)
    where
      at : (x real : ℕ) → ((x ≡ id) × (real_of named ≡ Some real)) ⊎ (real_at old x ≡ Some real) → (1 ≤ real) × (real ≤ held'.given)
      at x real (inl one) = its real one.1
      at x real (inr other) = ((given x real other).0, let low = (given x real other).1 in omega (arith, low, more))

  -- and each walk stays unfinished
  pub walks_set : AreInWalks old → ((real done : ℕ) → named ≡ Partial real done → done < most_calls) → AreInWalks new
  walks_set walks its = λ x real done is. at x real done is (eqb_tells x id)
    where
      at : (x real done : ℕ) → named_at new x ≡ Partial real done → (((x == id) ≡ true) × (x ≡ id)) ⊎ (((x == id) ≡ false) × (x ≡ id → ⊥)) → done < most_calls
      at x real done is (inl same) = its real done (ap (λ b. cond b named (named_at old x)) (sym same.0) ∙ sym (set x) ∙ is)
      at x real done is (inr other) = walks x real done (ap (λ b. cond b named (named_at old x)) (sym other.0) ∙ sym (set x) ∙ is)

-- a name after a call is in the middle of its walk, or whole
pub after_in_walk : (real k last : ℕ) → k ≤ last → last ≤ most_calls → (r done : ℕ) → name_after real k last ≡ Partial r done → done < most_calls
after_in_walk real k last few most r done is = at (eqb_tells k last) is
  where
    at : (((k == last) ≡ true) × (k ≡ last)) ⊎ (((k == last) ≡ false) × (k ≡ last → ⊥)) → cond (k == last) (Live real) (Partial real k) ≡ Partial r done → done < most_calls
    at (inl same) is = absurd (let both : Live real ≡ Partial r done = ap (λ b. cond b (Live real) (Partial real k)) (sym same.0) ∙ is in cc both)
    at (inr other) is =
        let both : Partial real k ≡ Partial r done = ap (λ b. cond b (Live real) (Partial real k)) (sym other.0) ∙ is in
        let done_is : k ≡ done = cc both in
        omega (arith, done_is, few, most, other.1)

-- ---- what was noted

module _ (facts : Facts) (ask : Table) (parts : ℕ → ℕ) (held : Object) (c0 c1 : Celled) (tag : Tag) (shown shown' real real' : Call) (points : Points) (cell : Celled) (later : Points) (run : c0.run ≡ c1.run) (same : shown ≡ shown') (under : real ≡ real') where
  pub reply_moved : (reply reply' : Reply) (patch : Option Patch) → reply ≡ reply' → NotesReply facts ask parts held c0 tag shown real points reply patch cell later → NotesReply facts ask parts held c1 tag shown' real' points reply' patch cell later
  reply_moved reply reply' patch told notes =
      let a = subst (λ s. NotesReply facts ask parts held c0 tag s real points reply patch cell later) same notes in
      let b = subst (λ r. NotesReply facts ask parts held c0 tag shown' r points reply patch cell later) under a in
      let c = subst (λ r. NotesReply facts ask parts held c0 tag shown' real' points r patch cell later) told b in
      record { answers = c.answers; running = c.running; run = c.run ∙ ap (λ r. with_item r (item_of_call tag shown' real'.desc later.asked (Replied reply' patch)) later.asked) run }

  pub stop_moved : NotesStop ask parts held c0 tag shown real points cell later → NotesStop ask parts held c1 tag shown' real' points cell later
  stop_moved notes =
      let a = subst (λ s. NotesStop ask parts held c0 tag s real points cell later) same notes in
      let b = subst (λ r. NotesStop ask parts held c0 tag shown' r points cell later) under a in
      record { stops = b.stops; counted = b.counted; running = b.running; run = b.run ∙ ap (λ r. with_stop (with_item r (item_of_call tag shown' real'.desc later.asked Stopped) later.asked) later.asked) run }

-- the call of a walk is one
pub same_call : (facts facts' : Facts) (walks walks' : List WalkLine) (row row' : Option Row) (k : ℕ) (a b : Call) → replay_of facts walks row k ≡ Some a → facts ≡ facts' → walks ≡ walks' → row ≡ row' → replay_of facts' walks' row' k ≡ Some b → a ≡ b
same_call facts facts' walks walks' row row' k a b is f w r its =
    let moved : replay_of facts walks row k ≡ replay_of facts' walks' row' k = ap (λ x. replay_of x walks row k) f ∙ ap (λ x. replay_of facts' x row k) w ∙ ap (λ x. replay_of facts' walks' x k) r in
    let both : Some a ≡ Some b = sym is ∙ moved ∙ its in
    cc both

-- one call has one answer
pub same_good : (ask : Table) (held : Object) (real real' : Call) (reply : Reply) (good good' : Good) → ask held real ≡ Some reply → reply ≡ Ok good → real ≡ real' → ask held real' ≡ Some (Ok good') → good ≡ good'
same_good ask held real real' reply good good' is told same its =
    let both : Some (Ok good) ≡ Some (Ok good') = ap Some (sym told) ∙ sym is ∙ ap (ask held) same ∙ its in
    cc both

-- ---- what the parts of an engine tell of it

module _ {parts e : Engined} (view : parts ≡ e) where
  -- names that stay are the engine's
  pub known_of : {known : List (ℕ × Standing)} → known ≡ parts.names.known → known ≡ e.names.known
  known_of same = same ∙ ap (λ x. x.names.known) view

  -- the call of the walk of an id's row is one
  pub shown_of : {facts : Facts} (id k : ℕ) (row : Option Row) (a b : Call) → parts.tables.iface.facts ≡ facts → row ≡ row_at parts.tracked.rows id
      → replay_of parts.tables.iface.facts parts.tables.walks row k ≡ Some a → replay_of facts e.tables.walks (row_at e.tracked.rows id) k ≡ Some b → a ≡ b
  shown_of {facts = facts} id k row a b service there is its =
      same_call parts.tables.iface.facts facts parts.tables.walks e.tables.walks row (row_at e.tracked.rows id) k a b is service (ap (λ x. x.tables.walks) view)
      (there ∙ ap (λ x. row_at x.tracked.rows id) view) its

  -- it is asked under the service's ids
  pub real_of_shown : {known : List (ℕ × Standing)} {a b real : Call} → known ≡ parts.names.known → real ≡ under_names (pairs_of known) a → a ≡ b → real ≡ real_call e b
  real_of_shown {a = a} same under shown = under ∙ ap (λ n. under_names (pairs_of n) a) (known_of same) ∙ ap (real_call e) shown

  module _ {facts : Facts} {ask : Table} {id k : ℕ} (may : MayReplay facts ask e id k) {real : Call} {reply : Reply} {good : Good} (under : real ≡ real_call e may.shown)
      (answers : ask may.held real ≡ Some reply) (told : reply ≡ Ok good) where
    -- what the service gave is what it had to
    pub good_of : good ≡ may.ready.good
    good_of = same_good ask may.held real (real_call e may.shown) reply good may.ready.good answers told under may.ready.answered

    pub next_step : {known : List (ℕ × Standing)} → known ≡ parts.names.known → AreGiven parts.cell.running parts.names.known → IsOneToOne known → IsNextStep known may.held id k good.desc
    next_step {known} same given apart = record {
      given = subst (λ r. AreGiven r known) (ap (λ x. x.cell.running) view ∙ may.up) (subst (AreGiven parts.cell.running) (sym same) given);
      apart = apart;
      partly = ap (λ n. is_whole (named_at n id)) (known_of same) ∙ may.partly;
      next = may.next ∙ sym (ap (λ n. next_number (named_at n id)) (known_of same));
      new = λ one. ap (λ x. x.desc) good_of ∙ (may.ready.first one).1;
    }

    -- the first call is of a creation
    pub makes_first : k ≡ 1 → (fun_at facts.funs real.fun).creation ≡ true
    makes_first one = ap (λ x. (fun_at facts.funs x.fun).creation) under ∙ (may.ready.first one).0
