-- What the service may be asked, and what it does then.
use Rattle.std.proofs.Common.{◌≡◌, ℕ, ◌^◌, ◌<◌, ◌≤◌, Bool, true, false, cond, List, [], ◌∷◌, ◌++◌, None, Some, IfSome, IsSome, length, max, refl, sym, ◌∙◌, ap, subst, arith}
use Rattle.std.specs.Prelude.{◌==◌, ◌||◌, nat_eq, nat_lt}
use Rattle.std.specs.declared.option.Option.{Option}
use Rattle.std.proofs.lemmas.Bool.Decides.{nat_tests}
use Rattle.sg_facts.specs.sg_base.declared.call.Call.{Call}
use Rattle.sg_facts.specs.sg_base.declared.reply.Code.TheVariants.{BadName, TooBig}
use Rattle.sg_facts.specs.declared.outcome.Outcome.{Outcome}
use Rattle.sg_facts.specs.Counted.{most_counted, most_in}
use Rattle.sg_facts.specs.Facts.{fun_at, takes_desc, takes_parent}
use Rattle.sg_facts.specs.Invoke.{FitsRoom, Invokes, Points}
use Rattle.sg_facts.specs.Kinds.{MayAsk}
use Rattle.sg_facts.specs.Limits.{most_path}
use Rattle.sg_facts.specs.Object.{file_at, first_text, path_of}
use Rattle.sg_facts.specs.Track.{arg_at, is_live, word_of}
use Rattle.sg_facts.proofs.RowLists.{row_of_live}
use Rattle.sg_slots.specs.declared.decision.Decision.TheVariants.{Make, Refuse, Remove}
use Rattle.sg_slots.specs.Carry.{Carries}
use Rattle.sg_slots.specs.Slots.{Held, entry_at, rows_of}
use Rattle.sg_slots.proofs.Deciding.{with_fun}
use Rattle.sg_slots.proofs.Rows.{is_live-rows_of}
use Rattle.sg_facts.proofs.Replaying.Found.{within}
use Rattle.sg_ramfs.specs.declared.open_file.OpenFile.{OpenFile}
use Rattle.sg_ramfs.specs.Inside.RamfsDecision.{on_open, on_read, on_seek, on_write, CarriesBytes, WritesFile}
use Rattle.sg_ramfs.specs.RamfsFacts.{ramfs_facts}
use Rattle.sg_ramfs.specs.RamfsObject.{Served, object_with, ramfs_object}
use Rattle.sg_ramfs.specs.RamfsRow.{file_body}
use Rattle.sg_ramfs.specs.RamfsTable.{is_bad_name, ramfs_parts, ramfs_table}
use Rattle.sg_ramfs.specs.Inside.RamfsTree.{FitsTree, IsNested, IsTree, tree_rows}
use Rattle.sg_ramfs.proofs.Right.{Does, carried_out, plainly, read_right, release_right, seek_right, split_right}
use Rattle.sg_ramfs.proofs.RightWrites.{write_does}

-- a parent is none, or one whose id was given
pub parent_given : (held : Held OpenFile) (id : ℕ) → IsTree held → (is_live (tree_rows held) id || (id == 0)) ≡ true → id ≤ held.given
parent_given held id tree may = at (is_live (tree_rows held) id) (id == 0) refl refl may
  where
    at : (live root : Bool) → is_live (tree_rows held) id ≡ live → (id == 0) ≡ root → (live || root) ≡ true → id ≤ held.given
    at true root is root_is may =
        let row = row_of_live (tree_rows held) id is in
        let high = within (IsNested (tree_rows held)) 0 held.given id (tree_rows held) row.0 tree.nested row.1 in
        omega (arith, high, row.2)
    at false true is root_is may = let none : id ≡ 0 = grind (arith, nat_tests, root_is) in omega (arith, none)
    at false false is root_is may = absurd (cc may)

-- so a new descriptor can be made below it
pub split_fits : (held : Held OpenFile) (call : Call) → call.desc ≤ held.given → FitsTree held call.desc (on_open held call)
split_fits held call given = at (is_bad_name name) (nat_lt most_path (length (path_of (tree_rows held) call.desc ++ 47 ∷ name))) refl
  where
    name : List ℕ
    name = first_text call.args

    at : (bad long : Bool) → nat_lt most_path (length (path_of (tree_rows held) call.desc ++ 47 ∷ name)) ≡ long
        → FitsTree held call.desc (cond bad (Refuse BadName) (cond long (Refuse TooBig) (Make (record { creator = call.client; parent = call.desc; name = first_text call.args; place = 0 }) None)))
    at true long is = tt
    at false true is = tt
    at false false is = (given, grind (arith, nat_tests, is))

-- the place of an open file is one of the counted words
place_counted : (files : List (ℕ × OpenFile)) (id : ℕ) (f : OpenFile) → entry_at files id ≡ Some f → f.place ≤ most_counted ramfs_facts (rows_of file_body files)
place_counted [] id f there = absurd (cc there)
place_counted (e ∷ files) id f there = at (nat_eq id e.0) there (place_counted files id f)
  where
    own : most_in ramfs_facts 0 (file_body e.1).fields ≡ max 0 (max e.1.place 0)
    own = refl

    at : (b : Bool) → cond b (Some e.1) (entry_at files id) ≡ Some f → (entry_at files id ≡ Some f → f.place ≤ most_counted ramfs_facts (rows_of file_body files)) → f.place ≤ most_counted ramfs_facts (rows_of file_body (e ∷ files))
    at true there rest =
        let one : e.1 ≡ f = cc there in
        let place : e.1.place ≡ f.place = ap (λ x. x.place) one in
        omega (arith, own, place)
    at false there rest = let further = rest there in omega (arith, further)

module _ (held : Held OpenFile) (files : List (List ℕ × List ℕ)) (call : Call) (may : MayAsk ramfs_facts (object_with held files) call) where
  -- the descriptor of a call is open
  its_file : takes_desc (fun_at ramfs_facts.funs call.fun) ≡ true → IsSome (entry_at held.entries call.desc)
  its_file takes = sym (is_live-rows_of file_body held.entries call.desc) ∙ may.desc takes

  -- its place is far from the end of numbers
  its_place : IfSome (entry_at held.entries call.desc) (λ f. f.place < 2 ^ 63)
  its_place = at (entry_at held.entries call.desc) refl
    where
      at : (found : Option OpenFile) → entry_at held.entries call.desc ≡ found → IfSome found (λ f. f.place < 2 ^ 63)
      at None is = tt
      at (Some f) is =
          let most = place_counted held.entries call.desc f is in
          let few = may.within.counted in
          omega (arith, most, few)

  -- what a call may do, if its function is the one
  module _ (fun : ℕ) (is : call.fun ≡ fun) (points : Points) (outcome : Outcome) (new : Held OpenFile) (files' : List (List ℕ × List ℕ)) (later : Points) where
    by_fun : Does held files (with_fun call fun) points outcome new files' later → Does held files call points outcome new files' later
    by_fun does = subst (λ n. Does held files (with_fun call n) points outcome new files' later) (sym is) does

    may_too : MayAsk ramfs_facts (object_with held files) (with_fun call fun)
    may_too = subst (λ n. MayAsk ramfs_facts (object_with held files) (with_fun call n)) is may

  module _ (points : Points) (outcome : Outcome) (new : Held OpenFile) (later : Points) where
    split_does : call.fun ≡ 1 → Carries held call.desc (on_open held call) points outcome new later → Does held files call points outcome new files later
    split_does is carried =
        let right = split_right held files call.client call.seq call.desc call.args (may_too 1 is points outcome new files later).is_call.fits.args in
        by_fun 1 is points outcome new files later (carried_out held files (with_fun call 1) (on_open held (with_fun call 1)) [] right points outcome new later
        (plainly held files (with_fun call 1) (on_open held (with_fun call 1)) points outcome new later carried))

    module _ (tree : IsTree held) where
      -- the open file of a descriptor
      found : IsSome (entry_at held.entries call.desc) → (f : OpenFile) × (entry_at held.entries call.desc ≡ Some f)
      found some = at (entry_at held.entries call.desc) refl some
        where
          at : (there : Option OpenFile) → entry_at held.entries call.desc ≡ there → IsSome there → (f : OpenFile) × (entry_at held.entries call.desc ≡ Some f)
          at None is some = absurd (cc some)
          at (Some f) is some = (f, is)

      read_does : call.fun ≡ 2 → IsSome (entry_at held.entries call.desc)
          → ((f : OpenFile) → entry_at held.entries call.desc ≡ Some f → CarriesBytes held call.desc (on_read f (file_at files (path_of (tree_rows held) call.desc)) (word_of (arg_at call 0))).decision
          (on_read f (file_at files (path_of (tree_rows held) call.desc)) (word_of (arg_at call 0))).bytes points outcome new later)
          → Does held files call points outcome new files later
      read_does is some carried =
          let f = found some in
          let right = read_right held files call.client call.seq call.desc call.args tree f.0 f.1 in
          by_fun 2 is points outcome new files later (carried_out held files (with_fun call 2) _ _ right points outcome new later (carried f.0 f.1))

      seek_does : call.fun ≡ 4 → IsSome (entry_at held.entries call.desc)
          → ((f : OpenFile) → entry_at held.entries call.desc ≡ Some f → Carries held call.desc (on_seek f (word_of (arg_at call 0))) points outcome new later) → Does held files call points outcome new files later
      seek_does is some carried =
          let f = found some in
          let right = seek_right held files call.client call.seq call.desc call.args tree f.0 f.1 (may_too 4 is points outcome new files later).is_call.fits.args in
          by_fun 4 is points outcome new files later (carried_out held files (with_fun call 4) _ [] right points outcome new later (plainly held files (with_fun call 4) _ points outcome new later (carried f.0 f.1)))

      release_does : call.fun ≡ 5 → Carries held call.desc Remove points outcome new later → Does held files call points outcome new files later
      release_does is carried =
          by_fun 5 is points outcome new files later (carried_out held files (with_fun call 5) Remove [] (release_right held files call.client call.seq call.desc call.args tree) points outcome new later
          (plainly held files (with_fun call 5) Remove points outcome new later carried))

      writes_do : (files' : List (List ℕ × List ℕ)) → call.fun ≡ 3 → IsSome (entry_at held.entries call.desc) → length (first_text call.args) ≤ 256
          → ((f : OpenFile) → entry_at held.entries call.desc ≡ Some f
          → WritesFile held files call.desc (on_write f (path_of (tree_rows held) call.desc) (file_at files (path_of (tree_rows held) call.desc)) (first_text call.args)) points outcome new files' later)
          → Does held files call points outcome new files' later
      writes_do files' is some few written =
          let f = found some in
          by_fun 3 is points outcome new files' later (write_does held files call.client call.seq call.desc call.args tree f.0 f.1 points few outcome new files' later (written f.0 f.1))

-- ---- the same as a value of the service sees it

module _ (held : Held OpenFile) (files : List (List ℕ × List ℕ)) (s : Served) (view : record { tree = held; files = files } ≡ s) (call : Call) (asked : MayAsk ramfs_facts (ramfs_object s) call) where
  may_ask : MayAsk ramfs_facts (object_with held files) call
  may_ask = subst (λ x. MayAsk ramfs_facts (ramfs_object x) call) (sym view) asked

  -- a function that is called on a descriptor finds it open, at a place that is far from the end of numbers
  pub there : (fun : ℕ) → call.fun ≡ fun → takes_desc (fun_at ramfs_facts.funs fun) ≡ true → IsSome (entry_at held.entries call.desc)
  there fun is takes = its_file held files call may_ask (ap (λ n. takes_desc (fun_at ramfs_facts.funs n)) is ∙ takes)

  pub place_there : IfSome (entry_at held.entries call.desc) (λ f. f.place < 2 ^ 63)
  place_there = its_place held files call may_ask

  -- a parent is open, or none
  pub parent_there : call.fun ≡ 1 → (is_live (tree_rows held) call.desc || (call.desc == 0)) ≡ true
  parent_there is = may_ask.parent (ap (λ n. takes_parent (fun_at ramfs_facts.funs n)) is)

  module _ (points : Points) (outcome : Outcome) (new : Held OpenFile) (later : Points) where
    -- what the service does with a call that it may be asked
    abbrev pub Serves : List (List ℕ × List ℕ) → Type 0
    Serves files' = Invokes ramfs_facts ramfs_table ramfs_parts (ramfs_object s) call points outcome (object_with new files') later × FitsRoom (ramfs_object s) outcome

    seen : (files' : List (List ℕ × List ℕ)) → Does held files call points outcome new files' later → Serves files'
    seen files' does = subst (λ x. Invokes ramfs_facts ramfs_table ramfs_parts (ramfs_object x) call points outcome (object_with new files') later × FitsRoom (ramfs_object x) outcome) view does

    pub split_serves : call.fun ≡ 1 → Carries held call.desc (on_open held call) points outcome new later → Serves files
    split_serves is carried = seen files (split_does held files call may_ask points outcome new later is carried)

    pub read_serves : IsTree held → call.fun ≡ 2
        → ((f : OpenFile) → entry_at held.entries call.desc ≡ Some f → CarriesBytes held call.desc (on_read f (file_at files (path_of (tree_rows held) call.desc)) (word_of (arg_at call 0))).decision
        (on_read f (file_at files (path_of (tree_rows held) call.desc)) (word_of (arg_at call 0))).bytes points outcome new later) → Serves files
    read_serves tree is carried = seen files (read_does held files call may_ask points outcome new later tree is (there 2 is refl) carried)

    pub write_serves : (files' : List (List ℕ × List ℕ)) → IsTree held → call.fun ≡ 3 → length (first_text call.args) ≤ 256
        → ((f : OpenFile) → entry_at held.entries call.desc ≡ Some f
        → WritesFile held files call.desc (on_write f (path_of (tree_rows held) call.desc) (file_at files (path_of (tree_rows held) call.desc)) (first_text call.args)) points outcome new files' later) → Serves files'
    write_serves files' tree is few written = seen files' (writes_do held files call may_ask points outcome new later tree files' is (there 3 is refl) few written)

    pub seek_serves : IsTree held → call.fun ≡ 4
        → ((f : OpenFile) → entry_at held.entries call.desc ≡ Some f → Carries held call.desc (on_seek f (word_of (arg_at call 0))) points outcome new later) → Serves files
    seek_serves tree is carried = seen files (seek_does held files call may_ask points outcome new later tree is (there 4 is refl) carried)

    pub release_serves : IsTree held → call.fun ≡ 5 → Carries held call.desc Remove points outcome new later → Serves files
    release_serves tree is carried = seen files (release_does held files call may_ask points outcome new later tree is carried)
