-- What is served, replayed and committed of the first lock.
use Rattle.std.proofs.Common.{◌≡◌, ℕ, ◌+◌, ◌≤◌, ◌<◌, Bool, true, false, List, [], ◌∷◌, None, Some, length, refl, sym, ◌∙◌, ap, subst, inl, arith}
use Rattle.std.specs.Prelude.{◌^◌, IsSome}
use Rattle.std.specs.Option.{is_some}
use Rattle.std.specs.declared.option.Option.{Option}
use Rattle.std.specs.declared.result.Result.TheVariants.{Ok as Done}
use Rattle.test_tables.specs.sg_facts.sg_base.declared.call.Call.{Call}
use Rattle.test_tables.specs.sg_facts.sg_base.declared.reply.Good.{Good}
use Rattle.test_tables.specs.sg_facts.sg_base.declared.reply.Reply.{Reply}
use Rattle.test_tables.specs.sg_facts.sg_base.declared.reply.Reply.TheVariants.{Ok, Refused}
use Rattle.test_tables.specs.sg_facts.declared.outcome.Patch.{Patch}
use Rattle.test_tables.specs.sg_facts.declared.row.Row.{Row}
use Rattle.test_tables.specs.sg_facts.Alike.{under_names}
use Rattle.test_tables.specs.sg_facts.Invoke.{Points}
use Rattle.test_tables.specs.sg_facts.Kinds.{MayAsk}
use Rattle.test_tables.specs.sg_facts.Interface.{Declared}
use Rattle.test_tables.specs.sg_facts.Needs.{Needs, wanted}
use Rattle.test_tables.specs.sg_facts.Object.{Object, after, empty_object, patch_of}
use Rattle.test_tables.specs.sg_facts.Inside.Rows.{given_after, track}
use Rattle.test_tables.specs.sg_facts.Track.{row_at}
use Rattle.sg_replay.specs.sg_hist.Inside.Parts.{call_in}
use Rattle.test_tables.specs.sg_lock.LockFacts.{lock_facts}
use Rattle.test_tables.specs.sg_lock.LockTable.{lock_parts, lock_table}
use Rattle.sg_replay.specs.sg_name.Names.{named_at}
use Rattle.sg_replay.specs.sg_name.declared.named.Standing.{Standing}
use Rattle.sg_replay.proofs.Naming.{named_in_pairs, real_or_zero}
use Rattle.sg_replay.specs.declared.advance.Advanced.{Advanced}
use Rattle.sg_replay.specs.declared.advance.Advanced.TheVariants.{Replayed, Loaded, Struck}
use Rattle.sg_replay.specs.Committing.{MayCommitAt}
use Rattle.sg_replay.specs.Engined.{Engined}
use Rattle.sg_replay.specs.Missing.{missing}
use Rattle.sg_replay.specs.Replaying.{IsReplayable, MayAdvance, Replays, ReplaysOne, length_of, name_after, real_after, replay_of, walk_length}
use Rattle.sg_replay.specs.Serving.{IsReplyTold, MayServe, TellsReply, pairs_of, real_call}
use Rattle.sg_replay.specs.declared.todo.Todo.{Todo}
use Rattle.sg_replay.specs.declared.todo.Todo.TheVariants.{Walk as ToWalk}
use Rattle.sg_replay.specs.sg_store.Stored.{tracked_in}
use Rattle.sg_replay.specs.sg_track.Tracked.{MayTrack, Tracked}
use Rattle.test_histories.specs.Written.{call_of, ok_at}
use Rattle.test_replay.specs.Turns.{HasFirst, IsFresh, IsRebuilt, WalksLocks, first_lock, one_lock}

-- client 1 makes the first lock, and client 2 takes it
abbrev pub make_call : Call
make_call = call_of 1 1 1 0 []

abbrev pub take_call : Call
take_call = call_of 2 1 2 1 []

-- the call that makes it again
abbrev pub again_call : Call
again_call = call_of 1 0 1 0 []

-- ---- what the service is asked

-- nothing has a service id in a fresh boot
unnamed_call : (e : Engined) (call : Call) → IsFresh e → real_call e call ≡ record call { desc = 0 }
unnamed_call e call fresh = ap (λ known. under_names (pairs_of known) call) fresh.unnamed

-- a lock may be made in an empty service
may_make : (seq : ℕ) → MayAsk lock_facts empty_object (call_of 1 seq 1 0 [])
may_make seq = record {
  is_call = record { first = omega arith; last = omega arith; fits = record { args = refl; desc = λ takes has. refl } };
  within = record { client_first = omega arith; client_last = omega arith; counted = omega arith; given = omega arith };
  desc = λ takes. absurd (cc takes);
  parent = λ takes. absurd (cc takes);
  children = λ row ends. absurd (cc ends);
}

-- the first lock may be taken
may_take : MayAsk lock_facts one_lock take_call
may_take = record {
  is_call = record { first = omega arith; last = omega arith; fits = record { args = refl; desc = λ takes. absurd (cc takes) } };
  within = record { client_first = omega arith; client_last = omega arith; counted = omega arith; given = omega arith };
  desc = λ takes. refl;
  parent = λ takes. absurd (cc takes);
  children = λ row ends. absurd (cc ends);
}

-- the descriptor of an answer
abbrev desc_in : Option Reply → ℕ
desc_in None = 0
desc_in (Some (Ok good)) = good.desc
desc_in (Some (Refused code)) = 0

-- the first lock has its own id
same_take : (e : Engined) → IsRebuilt e → real_call e take_call ≡ take_call
same_take e rebuilt = ap (λ id. record take_call { desc = id }) (named_in_pairs e.names.known 1 ∙ ap real_or_zero rebuilt.named)

-- ---- a lock is made

pub may_serve_make : (e : Engined) (call : Call) → call ≡ make_call → IsFresh e → e.tracked.given ≡ 0 → 1 ≤ e.cell.room → 1 ≤ e.names.spare → MayServe lock_facts lock_table e call
may_serve_make e call is fresh given room name_room = subst (λ c. MayServe lock_facts lock_table e c) (sym is) (record {
  held = empty_object;
  up = fresh.up;
  may = subst (λ c. MayAsk lock_facts empty_object c) (sym (unnamed_call e make_call fresh)) (may_make 1);
  room = room;
  name_room = name_room;
  ids = subst (λ n. n + 1 < 2 ^ 64) (sym given) (omega arith);
  next = λ good answers makes. sym (ap desc_in answers);
  back = λ good answers makes. absurd (cc makes);
})

-- a new descriptor is told under the next id
told_new : (known : List (ℕ × Standing)) (next : ℕ) (good : Good) (told : Reply) → IsReplyTold known true next (Ok good) told
    → told ≡ Ok (record { desc = next; words = good.words; bytes = good.bytes })
told_new known next good (Ok told) (words, bytes, desc) =
    ap (λ w. Ok (record { desc = told.desc; words = w; bytes = told.bytes })) words ∙ ap (λ b. Ok (record { desc = told.desc; words = good.words; bytes = b })) bytes
    ∙ ap (λ d. Ok (record { desc = d; words = good.words; bytes = good.bytes })) desc
told_new known next good (Refused code) tells = absurd tells

-- what is told of the first lock
pub told_make : (old new : Engined) (call : Call) (points later : Points) (told : Reply) (patch : Option Patch) → call ≡ make_call → old.tracked.given ≡ 0
    → TellsReply lock_facts lock_table lock_parts empty_object old call points told patch new later → (told ≡ ok_at 1) × (patch ≡ None)
told_make old new call points later told patch is given tells =
    let t = subst (λ c. TellsReply lock_facts lock_table lock_parts empty_object old c points told patch new later) is tells in
    let reply : ok_at 1 ≡ t.reply = cc t.notes.answers.answered in
    let its : told ≡ ok_at (old.tracked.given + 1) = told_new old.names.known (old.tracked.given + 1) (record { desc = 1; words = []; bytes = [] }) told (subst (λ r. IsReplyTold old.names.known true (old.tracked.given + 1) r told) (sym reply) t.tells) in
    (its ∙ ap (λ n. ok_at (n + 1)) given, t.notes.answers.written ∙ sym (ap (λ r. patch_of lock_facts empty_object (real_call old make_call) r) reply))

may_track_make : (t : Tracked) → 1 ≤ t.spare → t.given ≡ 0 → MayTrack lock_facts t make_call (ok_at 1)
may_track_make t room given = record {
  makes = λ makes. record { place = record { room = room; parent = λ takes. absurd (cc takes); next = sym (ap (λ n. n + 1) given) }; few = omega arith; values = λ row. tt };
  changes = λ query makes. absurd (cc makes);
}

pub may_commit_make : (e : Engined) (call : Call) (told : Reply) (patch : Option Patch) → call ≡ make_call → (told ≡ ok_at 1) × (patch ≡ None)
    → 1 ≤ e.tracked.spare → e.tracked.given ≡ 0 → 1 ≤ e.stored.spare → e.stored.given ≡ 0 → 1 ≤ e.stored.clients → MayCommitAt lock_facts e call told patch
may_commit_make e call told patch is its room given stored_room stored_given clients =
    subst (λ c. MayCommitAt lock_facts e c told patch) (sym is) (subst (λ r. MayCommitAt lock_facts e make_call r patch) (sym its.0) (subst (λ p. MayCommitAt lock_facts e make_call (ok_at 1) p) (sym its.1) (record {
      tracks = may_track_make e.tracked room given;
      stores = record {
        visible = λ visible. record {
          first = omega arith;
          last = clients;
          follows = record { tracks = λ global. may_track_make (tracked_in e.stored) stored_room stored_given; names = λ private. absurd (cc private) };
          fits = tt;
        };
        hidden = λ hidden. refl;
      };
      marked = tt;
    })))

-- where nothing was tracked, the first lock is then
pub first_made : (rows : List Row) (given : ℕ) (call : Call) (told : Reply) → rows ≡ [] → given ≡ 0 → call ≡ make_call → told ≡ ok_at 1
    → (track lock_facts rows call told ≡ first_lock ∷ []) × (given_after lock_facts given call told ≡ 1)
first_made rows given call told none zero is its = (
  ap (λ r. track lock_facts r call told) none ∙ ap (λ c. track lock_facts [] c told) is ∙ ap (λ r. track lock_facts [] make_call r) its,
  ap (λ n. given_after lock_facts n call told) zero ∙ ap (λ c. given_after lock_facts 0 c told) is ∙ ap (λ r. given_after lock_facts 0 make_call r) its,
)

-- and the service that told it goes on
pub goes_on : (old e new : Engined) (call : Call) (points later : Points) (told : Reply) (patch : Option Patch)
    → TellsReply lock_facts lock_table lock_parts empty_object old call points told patch e later → new.cell ≡ e.cell → IsSome new.cell.running
goes_on old e new call points later told patch tells same = ap is_some (ap (λ c. c.running) same ∙ tells.notes.running)

-- ---- it is rebuilt

-- what the take needs is the first lock, whether every row is rebuilt first or not
abbrev first_needed : Needs
first_needed = record { ids = 1 ∷ []; file = None }

needs_first : (i : Declared) → wanted (record i { facts = lock_facts }) one_lock take_call ≡ first_needed
needs_first i = at i.eager
  where
    at : (eager : Bool) → wanted (record i { facts = lock_facts; eager = eager }) one_lock take_call ≡ first_needed
    at true = refl
    at false = refl

-- what is missing for the take is the creation
pub missing_first : (i : Declared) (e : Engined) (o : Object) (needed : Needs) (call : Call) → i.facts ≡ lock_facts → call ≡ take_call → IsFresh e → HasFirst e → o.rows ≡ e.tracked.rows
    → needed ≡ wanted i o call → missing e needed ≡ Some (ToWalk 1 1)
missing_first i e o needed call facts is fresh first rows its =
    ap (λ n. missing e n) (its ∙ ap (λ c. wanted i o c) is ∙ ap (λ r. wanted i (record { rows = r; files = o.files; given = o.given }) take_call) (rows ∙ first.rows)
    ∙ ap (λ f. wanted (record i { facts = f }) one_lock take_call) facts ∙ needs_first i)
    ∙ ap (λ known. missing (record e { names = record e.names { known = known } }) first_needed) fresh.unnamed

-- the creation of the walk may be replayed
pub may_rebuild : (e : Engined) → WalksLocks e.tables → IsFresh e → HasFirst e → IsReplayable lock_facts lock_table e empty_object 1 1 again_call
may_rebuild e walks fresh first = record {
  its = ap (λ rows. replay_of lock_facts e.tables.walks (row_at rows 1) 1) first.rows ∙ ap (λ walk. call_in lock_facts first_lock 1 walk) walks.walk;
  fields = λ r there.
      let its : Some first_lock ≡ Some r = ap (λ rows. row_at rows 1) (sym first.rows) ∙ there in
      let same : first_lock ≡ r = cc its in
      subst (λ row. length row.fields ≤ 8) same (omega arith);
  may = subst (λ c. MayAsk lock_facts empty_object c) (sym (unnamed_call e again_call fresh)) (may_make 0);
  good = record { desc = 1; words = []; bytes = [] };
  answered = refl;
  first = λ is. (refl, refl);
}

pub may_advance : (e : Engined) (needed : Needs) (todo : Todo) → WalksLocks e.tables → IsFresh e → HasFirst e → missing e needed ≡ Some todo → missing e needed ≡ Some (ToWalk 1 1)
    → MayAdvance lock_facts lock_table e needed.file todo
may_advance e needed todo walks fresh first due its =
    let same : ToWalk 1 1 ≡ todo = cc (sym its ∙ due) in
    subst (λ t. MayAdvance lock_facts lock_table e needed.file t) same (record {
      held = empty_object;
      up = fresh.up;
      ids = needed.ids;
      due = its;
      walk = λ id k is.
          let ids : 1 ≡ id = cc is in
          let ks : 1 ≡ k = cc is in
          (again_call, subst (λ n. IsReplayable lock_facts lock_table e empty_object n k again_call) ids (subst (λ n. IsReplayable lock_facts lock_table e empty_object 1 n again_call) ks (may_rebuild e walks fresh first)));
      load = λ is. absurd (cc is);
    })

-- then the service has the first lock under its own id
pub rebuilt_by : (old new : Engined) (client : ℕ) (points later : Points) → WalksLocks old.tables → IsFresh old → HasFirst old
    → Replays lock_facts lock_table lock_parts empty_object old 1 1 client again_call points new later → IsRebuilt new
rebuilt_by old new client points later walks fresh first r =
    let good : record { desc = 1; words = []; bytes = [] } ≡ r.good = cc r.notes.answers.answered in
    record {
      up = r.notes.running ∙ sym (ap (λ g. Some (after lock_facts empty_object (real_call old again_call) (Ok g))) good) ∙ ap (λ c. Some (after lock_facts empty_object c (ok_at 1))) (unnamed_call old again_call fresh);
      named = r.names 1
          ∙ ap (λ known. name_after (real_after (named_at known 1) r.good.desc) 1 (walk_length old.tables.walks (row_at old.tracked.rows 1))) fresh.unnamed
          ∙ sym (ap (λ g. name_after g.desc 1 (walk_length old.tables.walks (row_at old.tracked.rows 1))) good)
          ∙ ap (λ rows. name_after 1 1 (walk_length old.tables.walks (row_at rows 1))) first.rows
          ∙ ap (λ walk. name_after 1 1 (length_of walk)) walks.walk;
    }

-- what one step for it has done
pub rebuilt_if : (old new : Engined) (client : ℕ) (points later : Points) (done : Advanced) → WalksLocks old.tables → IsFresh old → HasFirst old
    → ReplaysOne lock_facts lock_table lock_parts empty_object old 1 1 client again_call points (Done done) new later → done ≡ Replayed → IsRebuilt new
rebuilt_if old new client points later Replayed walks fresh first r is = rebuilt_by old new client points later walks fresh first r
rebuilt_if old new client points later Loaded walks fresh first r is = absurd (cc is)
rebuilt_if old new client points later Struck walks fresh first r is = absurd (cc is)

-- ---- it is taken

pub may_serve_take : (e : Engined) (call : Call) → call ≡ take_call → IsRebuilt e → e.tracked.given ≡ 1 → 1 ≤ e.cell.room → 1 ≤ e.names.spare → MayServe lock_facts lock_table e call
may_serve_take e call is rebuilt given room name_room = subst (λ c. MayServe lock_facts lock_table e c) (sym is) (record {
  held = one_lock;
  up = rebuilt.up;
  may = subst (λ c. MayAsk lock_facts one_lock c) (sym (same_take e rebuilt)) may_take;
  room = room;
  name_room = name_room;
  ids = subst (λ n. n + 1 < 2 ^ 64) (sym given) (omega arith);
  next = λ good answers makes. absurd (cc makes);
  back = λ good answers makes. inl (sym (ap desc_in (sym (ap (λ c. lock_table one_lock c) (same_take e rebuilt)) ∙ answers)));
})

-- a take writes nothing, whatever is answered
wrote_none : (o : Object) (desc : ℕ) (reply : Reply) → patch_of lock_facts o (call_of 2 1 2 desc []) reply ≡ None
wrote_none o desc (Ok good) = refl
wrote_none o desc (Refused code) = refl

may_track_take : (t : Tracked) (reply : Reply) → MayTrack lock_facts t take_call reply
may_track_take t (Ok good) = record { makes = λ makes. absurd (cc makes); changes = λ query makes ends r there. (λ within. omega arith, tt) }
may_track_take t (Refused code) = tt

pub may_commit_take : (old e new : Engined) (call : Call) (points later : Points) (told : Reply) (patch : Option Patch) → call ≡ take_call
    → TellsReply lock_facts lock_table lock_parts one_lock old call points told patch new later → 2 ≤ e.stored.clients → MayCommitAt lock_facts e call told patch
may_commit_take old e new call points later told patch is tells clients =
    let t = subst (λ c. TellsReply lock_facts lock_table lock_parts one_lock old c points told patch new later) is tells in
    let none : patch ≡ None = t.notes.answers.written ∙ wrote_none one_lock (real_call old take_call).desc t.reply in
    subst (λ c. MayCommitAt lock_facts e c told patch) (sym is) (subst (λ p. MayCommitAt lock_facts e take_call told p) (sym none) (record {
      tracks = may_track_take e.tracked told;
      stores = record {
        visible = λ visible. record {
          first = omega arith;
          last = clients;
          follows = record { tracks = λ global. may_track_take (tracked_in e.stored) told; names = λ private. absurd (cc private) };
          fits = tt;
        };
        hidden = λ hidden. refl;
      };
      marked = tt;
    }))
