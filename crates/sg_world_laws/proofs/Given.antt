-- What the trace gave names to, whatever stands after the history; and what stands before a refusal by the guard.

-- what holds of the items of all places holds of those of the last boot
use Rattle.std.proofs.Common.{Bool, List, Option, Some, [], ap, append-nil, cond, false, filter, find, not, refl, subst, sym, true, ℕ, ◌&&◌, ◌++◌, ◌||◌, ◌∙◌, ◌∷◌, ◌≡◌}
use Rattle.std.proofs.lemmas.List.Elements.{filter-append}
use Rattle.std.specs.List.{list_any}
use Rattle.sg_facts.specs.sg_base.Lists.{Each, When}
use Rattle.sg_facts.specs.sg_base.declared.reply.Reply.TheVariants.{Ok, Refused}
use Rattle.sg_facts.specs.Facts.{Facts, fun_at, is_visible}
use Rattle.sg_facts.specs.Object.{Object}
use Rattle.sg_facts.specs.Trace.{Boot}
use Rattle.sg_facts.specs.declared.entry.Entry.{Entry}
use Rattle.sg_facts.specs.declared.outcome.Outcome.{Outcome}
use Rattle.sg_facts.specs.declared.outcome.Outcome.TheVariants.{Blocks, NoMemory, Replied, Stopped}
use Rattle.sg_facts.specs.declared.trace.Item.{Item}
use Rattle.sg_facts.specs.declared.trace.Tag.{Tag}
use Rattle.sg_facts.specs.declared.trace.Tag.TheVariants.{Client, Load, Walk}
use Rattle.sg_recovery_laws.specs.sg_hist.Reading.{Position, desc_in, id_given, is_by_guard, is_item_of, items_of, last_items, places_from, places_in, stands_before}
use Rattle.sg_recovery_laws.specs.sg_hist.Inside.Reads.{entries_before}
use Rattle.sg_recovery_laws.specs.sg_hist.Recovered.{is_clients, is_replied}
use Rattle.sg_recovery_laws.specs.sg_hist.Inside.Parts.{IsCommitted}
use Rattle.sg_recovery_laws.proofs.Given.{HasEntry, IsGiven, committed_given, is_numbered, made_visible}
use Rattle.sg_recovery_laws.proofs.Lists.{each_map, each_split}
use Rattle.sg_recovery_laws.specs.sg_hist.Growing.{IsSameFor, IsSameId}
use Rattle.sg_clients.specs.WorldView.{WorldView, held_replies}
use Rattle.sg_world_laws.proofs.Struck.{no_drawn}
use Rattle.sg_world_laws.specs.Keeping.{KeepsPromise, Stub, standing}
use Rattle.sg_world_laws.specs.Setting.{Setting}

items_in : (Q : Item → Type 0) (older front items newer : List Item) → Each (λ p. Q p.item) (places_in older front items newer) → Each Q items
items_in Q older front [] newer all = tt
items_in Q older front (x ∷ items) newer all = (all.0, items_in Q older (front ++ x ∷ []) items newer all.1)

pub front_items : (Q : Item → Type 0) (older : List Item) (b : Boot) (boots : List Boot) → Each (λ p. Q p.item) (places_from older (b ∷ boots)) → Each Q (last_items (b ∷ boots))
front_items Q older b [] all = items_in Q older [] b.items (items_of []) (each_split (λ p. Q p.item) (places_in older [] b.items (items_of [])) [] all).0
front_items Q older b (c ∷ boots) all = front_items Q (older ++ b.items) c boots (each_split (λ p. Q p.item) (places_in older [] b.items (items_of (c ∷ boots))) (places_from (older ++ b.items) (c ∷ boots)) all).1

-- what gave a name has the id that its entry gives, whatever stands after
pub given_any : (facts : Facts) (h xs ys : List Entry) (front : List Item) → Each (IsGiven facts h) front → Each (IsSameId facts (h ++ xs) (h ++ ys)) front
given_any facts h xs ys front all = each_map (IsGiven facts h) (IsSameId facts (h ++ xs) (h ++ ys)) front one all
  where
    found : (client seq : ℕ) (l : List Entry) → list_any (is_numbered client seq) l ≡ true → find (is_numbered client seq) (l ++ ys) ≡ find (is_numbered client seq) (l ++ xs)
    found client seq [] any = absurd (cc any)
    found client seq (x ∷ l) any = at (is_numbered client seq x) any (found client seq l)
      where
        at : (q : Bool) → (q || list_any (is_numbered client seq) l) ≡ true → (list_any (is_numbered client seq) l ≡ true → find (is_numbered client seq) (l ++ ys) ≡ find (is_numbered client seq) (l ++ xs))
            → cond q (Some x) (find (is_numbered client seq) (l ++ ys)) ≡ cond q (Some x) (find (is_numbered client seq) (l ++ xs))
        at true any rest = refl
        at false any rest = rest any

    own_id : (x : Item) (client seq : ℕ) → (fun_at facts.funs x.shown.fun).creation ≡ true → (b : Bool) → is_visible facts x.shown.fun ≡ b
        → When (b && true) (list_any (is_numbered client seq) h ≡ true) → id_given (h ++ ys) client seq ≡ id_given (h ++ xs) client seq
    own_id x client seq made true is given = ap desc_in (found client seq h given)
    own_id x client seq made false is given = absurd (let e : true ≡ false = sym (made_visible facts x.shown.fun made) ∙ is in cc)

    one : (x : Item) → IsGiven facts h x → IsSameId facts (h ++ xs) (h ++ ys) x
    one x given = by x.tag x.outcome given
      where
        by : (tag : Tag) (outcome : Outcome) → When (is_clients tag && is_visible facts x.shown.fun && is_replied outcome) (HasEntry h tag)
            → IsSameFor facts (h ++ xs) (h ++ ys) x.shown.fun tag outcome
        by (Client client seq) (Replied (Ok good) patch) given = λ made. own_id x client seq made (is_visible facts x.shown.fun) refl given
        by (Client client seq) (Replied (Refused code) patch) given = tt
        by (Client client seq) Blocks given = tt
        by (Client client seq) Stopped given = tt
        by (Client client seq) NoMemory given = tt
        by (Walk id k client) outcome given = tt
        by (Load key client) outcome given = tt

-- ---- a refusal by the guard

any_same : (f g : Position → Bool) (ps : List Position) → ((p : Position) → f p ≡ g p) → list_any f ps ≡ list_any g ps
any_same f g [] so = refl
any_same f g (p ∷ ps) so = ap (λ b. b || list_any f ps) (so p) ∙ ap (λ b. g p || b) (any_same f g ps so)

-- it stands before no place
pub before_same : (h es : List Entry) (e : Entry) (p : Position) → is_by_guard e.reply ≡ true → entries_before (h ++ e ∷ es) p ≡ entries_before (h ++ es) p
before_same h es e p guards =
    filter-append (stands_before p) h (e ∷ es)
    ∙ ap (λ q. filter (stands_before p) h ++ cond q (e ∷ filter (stands_before p) es) (filter (stands_before p) es)) (ap (λ q. not q && list_any (is_item_of e) (p.older ++ p.front) && not (list_any (is_item_of e) (p.item ∷ (p.rest ++ p.newer)))) guards)
    ∙ sym (filter-append (stands_before p) h es)

-- what gave a name in the last boot belongs to an entry
pub given_now : (z : Setting) (w : WorldView) (b : Boot) (boots : List Boot) (running : Option Object) (stub : Stub) → KeepsPromise z (standing w b boots running) stub → Each (IsGiven z.iface.facts w.history) (last_items (b ∷ boots))
given_now z w b boots running stub k =
    let all = k.recovering [] (no_drawn (held_replies (standing w b boots running))) in
    subst (λ l. Each (IsGiven z.iface.facts l) (last_items (b ∷ boots))) (append-nil w.history)
    (front_items (IsGiven z.iface.facts (w.history ++ [])) [] b boots
    (each_map (IsCommitted z.iface.facts (w.history ++ [])) (λ p. IsGiven z.iface.facts (w.history ++ []) p.item) (places_from [] (b ∷ boots)) (committed_given z.iface.facts (w.history ++ [])) all.served.committed))
