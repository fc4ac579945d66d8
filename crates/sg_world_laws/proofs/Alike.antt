-- Only look-ups count: a world keeps what it keeps under stubs that tell the same.
use Rattle.std.proofs.Common.{◌≡◌, ℕ, ◌+◌, ◌*◌, ◌≤◌, Bool, true, List, [], ◌∷◌, ◌++◌, None, Some, length, filter, refl, sym, ◌∙◌, ap, subst, inl, inr}
use Rattle.std.specs.declared.option.Option.{Option}
use Rattle.sg_world_laws.specs.Keeping.{TellSame, KeepsPromise, Stands, StandsIn, Stub}
use Rattle.sg_facts.specs.declared.entry.Entry.{Entry}
use Rattle.sg_facts.specs.declared.row.Row.{Row}
use Rattle.sg_facts.specs.declared.tables.WalkLine.{WalkLine}
use Rattle.sg_facts.specs.declared.trace.Item.{Item}
use Rattle.sg_facts.specs.Alike.{named}
use Rattle.sg_facts.specs.Counted.{most_counted}
use Rattle.sg_facts.specs.Facts.{Facts}
use Rattle.sg_facts.specs.Laws.{slow}
use Rattle.sg_facts.specs.Object.{Object, object_of}
use Rattle.sg_facts.specs.Inside.Rows.{object_from}
use Rattle.sg_facts.specs.Track.{is_live}
use Rattle.sg_recovery_laws.proofs.Midway.Glue.{under_named}
use Rattle.sg_recovery_laws.specs.Midway.Numbers.{AreNumbers, left_of, sum_told, unbegun}
use Rattle.sg_recovery_laws.specs.Midway.Progress.{IsNone, TellsCalls, Told, is_complete}
use Rattle.sg_recovery_laws.specs.sg_hist.Inside.Parts.{is_walk_of}
use Rattle.sg_recovery_laws.specs.sg_hist.Reading.{last_items, older_items}
use Rattle.sg_clients.specs.WorldView.{WorldView, held_replies}
use Rattle.sg_recovery_laws.specs.LastItem.Told.{IsRead}
use Rattle.sg_world_laws.specs.Setting.{Setting}

-- what is told of each row comes to the same sum
sum_alike : (f : Told → ℕ) (told told' : ℕ → Told) → ((id : ℕ) → told' id ≡ told id) → (rows : List Row) → sum_told f told' rows ≡ sum_told f told rows
sum_alike f told told' same [] = refl
sum_alike f told told' same (r ∷ rows) = ap (λ t. f t + sum_told f told' rows) (same r.id) ∙ ap (λ n. f (told r.id) + n) (sum_alike f told told' same rows)

numbers_alike : (facts : Facts) (told told' : ℕ → Told) (entries : ℕ) (o v : Object) → ((id : ℕ) → told' id ≡ told id) → AreNumbers facts told entries o v → AreNumbers facts told' entries o v
numbers_alike facts told told' entries o v same are = record {
  given = subst (λ n. v.given + n ≤ o.given) (sym (sum_alike unbegun told told' same o.rows)) are.given;
  counted = subst (λ n. most_counted facts v.rows + n ≤ slow + entries + 128 + 8 * o.given) (sym (sum_alike left_of told told' same o.rows)) are.counted;
}

-- what is read is read also under other names of what is live, and of fewer rows
pub read_alike : (facts : Facts) (walks : List WalkLine) (history : List Entry) (older front : List Item) (names names' : List (ℕ × ℕ)) (told told' : ℕ → Told) (present present' : List ℕ → Bool) (rows rows' : List Row)
    → ((id : ℕ) → is_live rows' id ≡ true → is_live rows id ≡ true) → (named names' 0 ≡ named names 0) → ((id : ℕ) → is_live rows' id ≡ true → named names' id ≡ named names id)
    → ((id : ℕ) → is_live rows' id ≡ true → told' id ≡ told id) → ((path : List ℕ) → present' path ≡ present path)
    → IsRead facts walks history older front names told present rows → IsRead facts walks history older front names' told' present' rows'
read_alike facts walks history older front names names' told told' present present' rows rows' fewer zero_names same_names same_told same_present read = record {
  names_are = λ x known. read.names_are x (was x known) ∙ sym (its x known);
  whole = λ x live. read.whole x (fewer x live) ∙ ap is_complete (sym (same_told x live));
  calls = λ x live. subst (λ t. TellsCalls t (length (filter (λ item. is_walk_of x item.tag) front))) (sym (same_told x live)) (read.calls x (fewer x live));
  files = λ path. read.files path ∙ sym (same_present path);
}
  where
    was : (x : ℕ) → IsNone rows' x → IsNone rows x
    was x (inl none) = inl none
    was x (inr live) = inr (fewer x live)

    its : (x : ℕ) → IsNone rows' x → named names' x ≡ named names x
    its x (inl none) = ap (named names') none ∙ zero_names ∙ ap (named names) (sym none)
    its x (inr live) = same_names x live

module _ (z : Setting) (w : WorldView) (stub other : Stub) (same : TellSame stub other) where
  stands_alike : (v : Object) → Stands z w stub v → Stands z w other v
  stands_alike v up = record {
    numbers = numbers_alike z.iface.facts stub.told other.told (length w.history) (object_from z.iface.facts (object_of z.iface.facts w.history) (held_replies w)) v same.told up.numbers;
    named_live = λ id. elim (up.named_live id) [ inl none ↦ inl (same.names id ∙ none) | inr live ↦ inr live ];
    in_recovery = under_named z.iface z.walks stub.names other.names same.names (object_from z.iface.facts (object_of z.iface.facts w.history) (held_replies w)) v stub.told other.told stub.present other.present
        same.told same.present up.in_recovery;
    read = λ es drawn. read_alike z.iface.facts z.walks (w.history ++ es) (older_items [] w.run.boots) (last_items w.run.boots) stub.names other.names stub.told other.told stub.present other.present
        (object_of z.iface.facts w.history).rows (object_of z.iface.facts w.history).rows (λ id live. live) (same.names 0) (λ id live. same.names id) (λ id live. same.told id) same.present (up.read es drawn);
    unnamed = up.unnamed;
    rebuilt = λ eager some id live. same.told id ∙ up.rebuilt eager some id live;
  }

  stands_in_alike : (running : Option Object) → StandsIn z w stub running → StandsIn z w other running
  stands_in_alike None stands = tt
  stands_in_alike (Some v) stands = stands_alike v stands

  -- the world keeps what it keeps
  pub keeps_alike : KeepsPromise z w stub → KeepsPromise z w other
  keeps_alike k = record {
    legal = k.legal;
    calls = k.calls;
    object = k.object;
    seats = k.seats;
    waiting = k.waiting;
    enter = k.enter;
    items = k.items;
    held_items = k.held_items;
    recovering = k.recovering;
    cell = k.cell;
    stands = stands_in_alike w.running k.stands;
  }
