-- What is printed of members.
use Rattle.std.proofs.Common.{◌≡◌, ℕ, ◌+◌, ◌-◌, List, [], ◌++◌, None, Some, map, sym, take, ◌∙◌, ap}
use Rattle.std.specs.List.{flat_map}
use Rattle.std.proofs.lemmas.List.Folds.{flat_map-map}
use Rattle.sg_facts.specs.Words.{line_end}
use Rattle.sg_facts.specs.declared.trace.Item.{Item}
use Rattle.sg_report.specs.Report.{item_text}
use Rattle.sg_report.proofs.Nexts.{flat_more}
use Rattle.std.specs.Prelude.{slice_get}
use Rattle.std.specs.Option.{option_map, option_map_or}
use Rattle.std.proofs.lemmas.Option.{slice_get-map}
use Rattle.sg_facts.specs.Facts.{Facts}
use Rattle.sg_multi.specs.Report.{by_member, renumbered, renumbered_item}
use Rattle.sg_multi.specs.declared.play.MemberTables.{MemberTables}

-- ---- by the service of the member of a number

-- where it has tables
pub by_there : (services : List MemberTables) (member : ℕ) (t : MemberTables) (print : Facts → List ℕ) → Some t ≡ slice_get services (member - 1)
    → by_member (map (λ s. s.tables.iface.facts) services) member print ≡ print t.tables.iface.facts
by_there services member t print there =
    ap (λ o. option_map_or print o []) (slice_get-map (λ (s : MemberTables). s.tables.iface.facts) services (member - 1) ∙ ap (option_map (λ (s : MemberTables). s.tables.iface.facts)) (sym there))

-- where it has none
pub by_none : (services : List MemberTables) (member : ℕ) (print : Facts → List ℕ) → None ≡ slice_get services (member - 1)
    → by_member (map (λ s. s.tables.iface.facts) services) member print ≡ []
by_none services member print there =
    ap (λ o. option_map_or print o []) (slice_get-map (λ (s : MemberTables). s.tables.iface.facts) services (member - 1) ∙ ap (option_map (λ (s : MemberTables). s.tables.iface.facts)) (sym there))

-- ---- items under other numbers

-- one more is printed
pub items_more : (facts : Facts) (number : ℕ → ℕ → ℕ) (items : List Item) (at : ℕ) (item : Item) (first old new : List ℕ) → slice_get items at ≡ Some item
    → old ≡ first ++ flat_map (λ i. item_text facts i.tag i.shown i.outcome ++ line_end) (map (renumbered_item number) (take at items))
    → new ≡ old ++ (item_text facts (renumbered number item.tag) item.shown item.outcome ++ line_end)
    → new ≡ first ++ flat_map (λ i. item_text facts i.tag i.shown i.outcome ++ line_end) (map (renumbered_item number) (take (at + 1) items))
items_more facts number items at item first old new found before adds =
    let line : Item → List ℕ = λ i. item_text facts i.tag i.shown i.outcome ++ line_end in
    let other : Item → List ℕ = λ i. line (renumbered_item number i) in
    let same : (some : List Item) → flat_map line (map (renumbered_item number) some) ≡ flat_map other some = λ some. flat_map-map line (renumbered_item number) some in
    flat_more other items at item first old new found (before ∙ ap (λ l. first ++ l) (same (take at items))) adds ∙ ap (λ l. first ++ l) (sym (same (take (at + 1) items)))
