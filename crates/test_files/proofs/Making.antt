-- What may be asked of descriptors that were asked little, and what it leaves.
use Rattle.std.proofs.Common.{◌≡◌, ℕ, ◌+◌, ◌^◌, ◌<◌, ◌≤◌, Bool, true, false, cond, List, [], ◌∷◌, None, Some, Bor, refl, sym, ◌∙◌, arith}
use Rattle.std.specs.Prelude.{◌==◌, ◌||◌}
use Rattle.std.specs.declared.option.Option.{Option}
use Rattle.std.specs.Option.{option_map, option_copied, is_some}
use Rattle.test_asking.specs.sg_facts.sg_base.declared.value.Value.TheVariants.{Text}
use Rattle.test_asking.specs.sg_facts.sg_base.declared.call.Call.{Call}
use Rattle.test_asking.specs.sg_facts.sg_base.declared.reply.Reply.{Reply}
use Rattle.test_asking.specs.sg_facts.sg_base.declared.reply.Reply.TheVariants.{Ok, Refused}
use Rattle.test_asking.specs.sg_facts.declared.row.Row.{Row}
use Rattle.test_asking.specs.sg_facts.Kinds.{MayAsk}
use Rattle.test_asking.specs.sg_facts.Object.{Object, after}
use Rattle.test_asking.specs.sg_facts.Track.{row_at, is_live}
use Rattle.test_asking.proofs.sg_facts.RowLists.{live_of_row}
use Rattle.sg_ramfs.specs.RamfsFacts.{ramfs_facts}
use Rattle.sg_ramfs.specs.Laws.RamfsShapeLaw.{ramfs_counts_slowly}
use Rattle.sg_ramfs.specs.RamfsTable.{ramfs_table}
use Rattle.test_files.specs.Few.{AreFew, making_of, may_be_below}

either : (a b : Bool) → (a || b) ≡ true → (b || a) ≡ true
either true true is = refl
either true false is = refl
either false true is = refl
either false false is = absurd (cc is)

module _ (calls : ℕ) (o : Object) (few : calls < 2 ^ 32) (small : AreFew calls o) (parent : ℕ) (name : List ℕ) (there : may_be_below o parent ≡ true) where
  pub may_make : MayAsk ramfs_facts o (making_of parent name)
  may_make = record {
    is_call = record { first = omega arith; last = omega arith; fits = record { args = refl; desc = λ no_desc no_parent. absurd (cc no_parent) } };
    within = record { client_first = omega arith; client_last = omega arith; counted = omega (arith, few, small.counted); given = omega (arith, few, small.given) };
    desc = λ is. absurd (cc is);
    parent = λ is. either (parent == 0) (is_live o.rows parent) there;
    children = λ row is alone. absurd (cc is);
  }

  -- an answer leaves descriptors that were asked one call more
  pub few_after : (reply : Reply) → ramfs_table o (making_of parent name) ≡ Some reply → AreFew (calls + 1) (after ramfs_facts o (making_of parent name) reply)
  few_after (Refused code) is = record { counted = omega (arith, small.counted); given = omega (arith, small.given) }
  few_after (Ok good) is =
      let bound = ramfs_counts_slowly.replays o (making_of parent name) good may_make refl is in
      record { counted = omega (arith, bound, small.counted); given = omega (arith, small.given) }

-- a descriptor that is lent is live
pub live_where_lent : {E : Type 0} (rows : List Row) (id : ℕ) (row : E → Row) (found : Option (Bor E)) → row_at rows id ≡ option_map row (option_copied found) → is_some found ≡ true → is_live rows id ≡ true
live_where_lent rows id row None is some = absurd (cc some)
live_where_lent rows id row (Some e) is some = live_of_row rows id (row e.now) is

-- a test that holds after another
pub behind : (a b : Bool) → b ≡ true → (a || b) ≡ true
behind true true is = refl
behind true false is = refl
behind false b is = is
