-- An entry more: the history stays legal, its object settled, and the calls that were made are still among those made.
use Rattle.std.proofs.Common.{Bool, List, Ok, Some, [], ap, arith, cond, false, inl, inr, length, length-append, map, refl, subst, sym, true, ◌++◌, ◌+◌, ◌∙◌, ◌∷◌, ◌≡◌, ◌≤◌, ◌⊎◌}
use Rattle.std.proofs.lemmas.List.Elements.{Contains-append_cases, Contains-append_left, Contains-append_right}
use Rattle.std.specs.List.{Contains}
use Rattle.sg_facts.specs.sg_base.declared.call.Call.{Call}
use Rattle.sg_facts.specs.sg_base.declared.reply.Reply.{Reply}
use Rattle.sg_facts.specs.sg_base.declared.reply.Reply.TheVariants.{Ok, Refused}
use Rattle.sg_facts.proofs.RowLists.{left, more}
use Rattle.sg_facts.specs.Counted.{most_counted}
use Rattle.sg_facts.specs.Facts.{fun_at}
use Rattle.sg_facts.specs.Interface.{Declared}
use Rattle.sg_facts.specs.Laws.{slow}
use Rattle.sg_facts.specs.Legal.{LegalFrom, Table, answer}
use Rattle.sg_facts.specs.Object.{Object, after, empty_object, object_of}
use Rattle.sg_facts.specs.Inside.Rows.{given_after, object_from}
use Rattle.sg_facts.specs.declared.entry.Entry.{Entry}
use Rattle.sg_recovery_laws.specs.sg_hist.Reading.{is_by_guard}
use Rattle.sg_recovery_laws.proofs.Objects.Steady.{after_good}
use Rattle.sg_recovery_laws.specs.Objects.Serving.{IsAnsweredAt, IsLegalObject}
use Rattle.sg_recovery_laws.specs.sg_hist.Growing.{AreKept}
use Rattle.sg_recovery_laws.proofs.LastItem.Later.{guard_leaves}
use Rattle.sg_world_laws.proofs.Drawn.{object_after}
use Rattle.sg_world_laws.proofs.Orders.{legal_append}
use Rattle.sg_world_laws.specs.Keeping.{IsSettledObject}
use Rattle.sg_world_laws.specs.Setting.{IsSetting, Setting}

pub legal_push : (i : Declared) (ask : Table) (o : Object) (h : List Entry) (e : Entry) → LegalFrom i ask o h → answer i ask (object_from i.facts o h) e.call ≡ Some e.reply → LegalFrom i ask o (h ++ e ∷ [])
legal_push i ask o h e legal is = legal_append i ask o h (e ∷ []) legal (is, tt)

-- ---- the object

module _ (z : Setting) (set : IsSetting z) (h : List Entry) (e : Entry) (object : IsSettledObject z h) where
  now : object_of z.iface.facts (h ++ e ∷ []) ≡ after z.iface.facts (object_of z.iface.facts h) e.call e.reply
  now = object_after z.iface.facts empty_object h (e ∷ [])

  longer : length (h ++ e ∷ []) ≡ length h + 1
  longer = length-append h (e ∷ [])

  counted_now : (reply : Reply) → IsAnsweredAt z.iface.facts z.ask (object_of z.iface.facts h) e.call reply → most_counted z.iface.facts (after z.iface.facts (object_of z.iface.facts h) e.call reply).rows ≤ slow + length (h ++ e ∷ [])
  counted_now (Refused code) is = omega (arith, longer, object.counted)
  counted_now (Ok good) is =
      let slowly = set.law.counts.calls (object_of z.iface.facts h) e.call good object.good.is_sound is.passes is.answered in
      omega (arith, longer, slowly, object.counted)

  given_now : (reply : Reply) → given_after z.iface.facts (object_of z.iface.facts h).given e.call reply ≤ length (h ++ e ∷ [])
  given_now (Refused code) = omega (arith, longer, object.given)
  given_now (Ok good) = at (fun_at z.iface.facts.funs e.call.fun).creation
    where
      at : (b : Bool) → cond b ((object_of z.iface.facts h).given + 1) (object_of z.iface.facts h).given ≤ length (h ++ e ∷ [])
      at true = omega (arith, longer, object.given)
      at false = omega (arith, longer, object.given)

  -- it is settled after an answered call
  pub settled_after : IsAnsweredAt z.iface.facts z.ask (object_of z.iface.facts h) e.call e.reply → IsSettledObject z (h ++ e ∷ [])
  settled_after is = record {
    good = subst (IsLegalObject z.iface.facts z.sound) (sym now) (after_good z.iface.facts z.ask z.sound set.law (object_of z.iface.facts h) e.call e.reply object.good is);
    counted = subst (λ o. most_counted z.iface.facts o.rows ≤ slow + length (h ++ e ∷ [])) (sym now) (counted_now e.reply is);
    given = subst (λ o. o.given ≤ length (h ++ e ∷ [])) (sym now) (given_now e.reply);
  }

  -- and after a refusal by the guard, which leaves it as it was
  pub object_refused : is_by_guard e.reply ≡ true → object_of z.iface.facts (h ++ e ∷ []) ≡ object_of z.iface.facts h
  object_refused guards = now ∙ guard_leaves z.iface.facts (object_of z.iface.facts h) e.call e.reply guards

  pub settled_refused : is_by_guard e.reply ≡ true → IsSettledObject z (h ++ e ∷ [])
  settled_refused guards = record {
    good = subst (IsLegalObject z.iface.facts z.sound) (sym (object_refused guards)) object.good;
    counted = subst (λ o. most_counted z.iface.facts o.rows ≤ slow + length (h ++ e ∷ [])) (sym (object_refused guards)) (omega (arith, longer, object.counted));
    given = subst (λ o. o.given ≤ length (h ++ e ∷ [])) (sym (object_refused guards)) (omega (arith, longer, object.given));
  }

-- ---- the calls that were made

map_push : (h : List Entry) (e : Entry) → map (λ y. y.call) (h ++ e ∷ []) ≡ map (λ y. y.call) h ++ e.call ∷ []
map_push [] e = refl
map_push (x ∷ h) e = ap (λ l. x.call ∷ l) (map_push h e)

-- where no call is left out of those that aren't answered
pub kept_all : (h : List Entry) (u u' : List Call) → ((x : Call) → Contains u x → Contains u' x) → AreKept h u h u'
kept_all h u u' still x has = elim (Contains-append_cases (map (λ y. y.call) h) u x has) [
  | inl old ↦ Contains-append_left (map (λ y. y.call) h) u' x old
  | inr one ↦ Contains-append_right (map (λ y. y.call) h) u' x (still x one)
]

-- where an entry is appended, whose call alone is left out
pub kept_with : (h : List Entry) (e : Entry) (u u' : List Call) → ((x : Call) → Contains u x → (x ≡ e.call) ⊎ Contains u' x) → AreKept h u (h ++ e ∷ []) u'
kept_with h e u u' left x has =
    subst (λ l. Contains (l ++ u') x) (sym (map_push h e)) (elim (Contains-append_cases (map (λ y. y.call) h) u x has) [
      | inl old ↦ Contains-append_left (map (λ y. y.call) h ++ e.call ∷ []) u' x (Contains-append_left (map (λ y. y.call) h) (e.call ∷ []) x old)
      | inr one ↦ elim (left x one) [
        | inl is ↦ Contains-append_left (map (λ y. y.call) h ++ e.call ∷ []) u' x (Contains-append_right (map (λ y. y.call) h) (e.call ∷ []) x (subst (Contains (e.call ∷ [])) (sym is) (0, omega arith, refl)))
        | inr more ↦ Contains-append_right (map (λ y. y.call) h ++ e.call ∷ []) u' x more
      ]
    ])

-- where the call that is left out is that of an entry
pub kept_within : (h es : List Entry) (e : Entry) (u u' : List Call) → ((x : Call) → Contains u x → (x ≡ e.call) ⊎ Contains u' x) → AreKept ((h ++ e ∷ []) ++ es) u ((h ++ e ∷ []) ++ es) u'
kept_within h es e u u' left x has = elim (Contains-append_cases (map (λ y. y.call) ((h ++ e ∷ []) ++ es)) u x has) [
  | inl old ↦ Contains-append_left (map (λ y. y.call) ((h ++ e ∷ []) ++ es)) u' x old
  | inr one ↦ elim (left x one) [
    | inl is ↦ Contains-append_left (map (λ y. y.call) ((h ++ e ∷ []) ++ es)) u' x (subst (Contains (map (λ y. y.call) ((h ++ e ∷ []) ++ es))) (sym is) (own h))
    | inr more ↦ Contains-append_right (map (λ y. y.call) ((h ++ e ∷ []) ++ es)) u' x more
  ]
]
  where
    own : (xs : List Entry) → Contains (map (λ y. y.call) ((xs ++ e ∷ []) ++ es)) e.call
    own [] = (0, omega arith, refl)
    own (x ∷ xs) = let rest = own xs in Contains-append_right (x.call ∷ []) (map (λ y. y.call) ((xs ++ e ∷ []) ++ es)) e.call rest
