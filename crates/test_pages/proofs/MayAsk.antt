-- The service may be asked each call on pages.
use Rattle.std.proofs.Common.{◌≡◌, ℕ, ◌<◌, ◌≤◌, true, List, [], ◌∷◌, None, Some, Bor, refl, ap, arith}
use Rattle.std.specs.Prelude.{◌==◌, ◌&&◌, ◌||◌}
use Rattle.std.specs.declared.option.Option.{Option}
use Rattle.std.specs.Option.{is_some, option_copied, option_map}
use Rattle.test_asking.specs.sg_facts.sg_base.declared.value.Value.TheVariants.{Word}
use Rattle.test_asking.specs.sg_facts.declared.row.Row.{Row}
use Rattle.test_asking.specs.sg_facts.Kinds.{MayAsk, may_be_root}
use Rattle.test_asking.specs.sg_facts.Object.{Object}
use Rattle.test_asking.specs.sg_facts.Track.{is_live, row_at}
use Rattle.test_asking.proofs.sg_facts.RowLists.{live_of_row}
use Rattle.sg_mm.proofs.sg_slots.RowLaws.{none_counted}
use Rattle.sg_mm.specs.declared.page.Page.{Page}
use Rattle.sg_mm.specs.MmFacts.{mm_facts}

-- a page that is lent is live
pub live_if : (rows : List Row) (id : ℕ) (row_of : Page → Row) (lent : Option (Bor Page)) → is_some lent ≡ true → row_at rows id ≡ option_map row_of (option_copied lent) → is_live rows id ≡ true
live_if rows id row_of None is found = absurd (cc is)
live_if rows id row_of (Some page) is found = live_of_row rows id (row_of page.now) found

module _ (o : Object) (few : o.given < 2000) where
  pub may_get : (client addr : ℕ) → 1 ≤ client → client ≤ 64 → MayAsk mm_facts o (record { client = client; seq = 1; fun = 1; desc = 0; args = Word addr ∷ [] })
  may_get client addr first last = record {
    is_call = record { first = omega arith; last = omega arith; fits = record { args = refl; desc = λ no_desc no_parent. refl } };
    within = record { client_first = first; client_last = last; counted = omega (arith, none_counted mm_facts refl o.rows); given = omega (arith, few) };
    desc = λ is. absurd (cc is);
    parent = λ is. absurd (cc is);
    children = λ row is alone. absurd (cc is);
  }

  pub may_alias : (parent space addr : ℕ) → is_live o.rows parent ≡ true → MayAsk mm_facts o (record { client = 1; seq = 1; fun = 2; desc = parent; args = Word space ∷ Word addr ∷ [] })
  may_alias parent space addr live = record {
    is_call = record { first = omega arith; last = omega arith; fits = record { args = refl; desc = λ no_desc no_parent. absurd (cc no_parent) } };
    within = record { client_first = omega arith; client_last = omega arith; counted = omega (arith, none_counted mm_facts refl o.rows); given = omega (arith, few) };
    desc = λ is. absurd (cc is);
    parent = λ is. ap (λ b. b || (may_be_root mm_facts.parents && (parent == 0))) live;
    children = λ row is alone. absurd (cc is);
  }

  pub may_release : (id : ℕ) → is_live o.rows id ≡ true → MayAsk mm_facts o (record { client = 64; seq = 1; fun = 3; desc = id; args = [] })
  may_release id live = record {
    is_call = record { first = omega arith; last = omega arith; fits = record { args = refl; desc = λ no_desc no_parent. absurd (cc no_desc) } };
    within = record { client_first = omega arith; client_last = omega arith; counted = omega (arith, none_counted mm_facts refl o.rows); given = omega (arith, few) };
    desc = λ is. live;
    parent = λ is. absurd (cc is);
    children = λ row is alone. absurd (cc alone);
  }

  pub may_find : (space addr : ℕ) → MayAsk mm_facts o (record { client = 1; seq = 1; fun = 4; desc = 0; args = Word space ∷ Word addr ∷ [] })
  may_find space addr = record {
    is_call = record { first = omega arith; last = omega arith; fits = record { args = refl; desc = λ no_desc no_parent. refl } };
    within = record { client_first = omega arith; client_last = omega arith; counted = omega (arith, none_counted mm_facts refl o.rows); given = omega (arith, few) };
    desc = λ is. absurd (cc is);
    parent = λ is. absurd (cc is);
    children = λ row is alone. absurd (cc is);
  }
