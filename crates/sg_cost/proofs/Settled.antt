-- Each entry of a legal history may be tracked over what those before it come to.
use Rattle.std.proofs.Common.{◌≡◌, ◌≤◌, List, [], ◌∷◌, ◌++◌, None, Some, append_assoc, length, length-append, refl, sym, ◌∙◌, ap, subst, arith}
use Rattle.std.specs.declared.option.Option.{Option}
use Rattle.sg_cost.specs.Costs.{IsClients, most_entries}
use Rattle.sg_cost.specs.Inside.Fronts.{AreRowsOf, MayBeTracked}
use Rattle.sg_facts.specs.Guard.{guard}
use Rattle.sg_facts.specs.Kinds.{AreWords}
use Rattle.sg_facts.specs.Legal.{IsLegal, answer}
use Rattle.sg_facts.specs.Inside.Rows.{refused_or}
use Rattle.sg_facts.specs.Object.{Object, object_of}
use Rattle.sg_facts.specs.declared.entry.Entry.{Entry}
use Rattle.sg_facts.specs.sg_base.Lists.{Each}
use Rattle.sg_facts.specs.sg_base.declared.reply.Code.{Code}
use Rattle.sg_facts.specs.sg_base.declared.reply.Reply.TheVariants.{Refused}
use Rattle.sg_needs.specs.sg_track.Tracked.{MayTrack, Tracked}
use Rattle.sg_report.specs.sg_hist.Reading.{is_by_guard}
use Rattle.sg_world_laws.proofs.Committing.Storing.{may_track_at}
use Rattle.sg_world_laws.proofs.Entering.{settled_after, settled_refused}
use Rattle.sg_world_laws.proofs.Refusing.{by_the_guard}
use Rattle.sg_world_laws.proofs.sg_recovery_laws.Midway.Tabled.{passes_whole}
use Rattle.sg_world_laws.specs.Keeping.{IsSettledObject}
use Rattle.sg_world_laws.specs.Setting.{IsSetting, Setting}
use Rattle.sg_world_laws.specs.sg_recovery_laws.Objects.Serving.{IsAnsweredAt}

module _ (z : Setting) (set : IsSetting z) where
  -- no entry
  none_settled : IsSettledObject z []
  none_settled = record { good = record { is_sound = set.law.keeps.empty; own = λ private id r there. absurd (cc there) }; counted = omega arith; given = omega arith }

  module _ (h : List Entry) (e : Entry) (settled : IsSettledObject z h) (few : length h ≤ most_entries) (made : IsClients z.iface.facts e.call) (words : AreWords e.call.args) (answered : answer z.iface z.ask (object_of z.iface.facts h) e.call ≡ Some e.reply) where
    o : Object
    o = object_of z.iface.facts h

    -- the service was asked it, or the guard refused it
    data Told : Type 0 where
      asked : IsAnsweredAt z.iface.facts z.ask (object_of z.iface.facts h) e.call e.reply → Told
      refused : (code : Code) → guard z.iface (object_of z.iface.facts h) e.call ≡ Some code → Refused code ≡ e.reply → Told

    told : Told
    told = by (guard z.iface (object_of z.iface.facts h) e.call) refl
      where
        by : (g : Option Code) → guard z.iface (object_of z.iface.facts h) e.call ≡ g → Told
        by (Some code) refuses =
            let same : Some (Refused code) ≡ Some e.reply = sym (ap (λ g. refused_or g (z.ask (object_of z.iface.facts h) e.call)) refuses) ∙ answered in
            refused code refuses (cc same)
        by None lets =
            asked (record {
              passes = record {
                is_call = made.0;
                words = words;
                within = record {
                  client_first = made.1;
                  client_last = made.2;
                  counted = let most = settled.counted in omega (arith, most, few);
                  given = let most = settled.given in omega (arith, most, few);
                };
                guarded = passes_whole z.iface (object_of z.iface.facts h) e.call set.fits lets;
              };
              answered = sym (ap (λ g. refused_or g (z.ask (object_of z.iface.facts h) e.call)) lets) ∙ answered;
            })

    track_it : Told → (t : Tracked) → AreRowsOf z.iface.facts h t → 1 ≤ t.spare → MayTrack z.iface.facts t e.call e.reply
    track_it (asked is) t rows room = may_track_at z.iface.facts z.ask z.sound set.law (object_of z.iface.facts h) e.call e.reply settled.good is t rows.rows rows.given room
    track_it (refused code is reply) t rows room = subst (MayTrack z.iface.facts t e.call) reply tt

    settle_it : Told → IsSettledObject z (h ++ e ∷ [])
    settle_it (asked is) = settled_after z set h e settled is
    settle_it (refused code is reply) = settled_refused z set h e settled (ap is_by_guard (sym reply) ∙ by_the_guard z.iface (object_of z.iface.facts h) e.call code is)

    pub tracks : (t : Tracked) → AreRowsOf z.iface.facts h t → 1 ≤ t.spare → MayTrack z.iface.facts t e.call e.reply
    tracks = track_it told

    pub settles : IsSettledObject z (h ++ e ∷ [])
    settles = settle_it told

  module _ (history : List Entry) (legal : IsLegal z.iface z.ask history) (few : length history ≤ most_entries) where
    along : (h es : List Entry) → history ≡ h ++ es → IsSettledObject z h → Each (λ e. IsClients z.iface.facts e.call) es → Each (λ e. AreWords e.call.args) es → (before : List Entry) (e : Entry) (rest : List Entry) → es ≡ before ++ e ∷ rest
        → (t : Tracked) → AreRowsOf z.iface.facts (h ++ before) t → 1 ≤ t.spare → MayTrack z.iface.facts t e.call e.reply
    along h [] is settled made words [] e rest split t rows room = absurd (cc split)
    along h [] is settled made words (x ∷ before) e rest split t rows room = absurd (cc split)
    along h (y ∷ es) is settled made words [] e rest split t rows room =
        let one : y ≡ e = cc split in
        let short = short_of h (y ∷ es) is in
        subst (λ x. MayTrack z.iface.facts t x.call x.reply) one
        (tracks h y settled short made.0 words.0 (legal h y es is) t (subst (λ l. AreRowsOf z.iface.facts l t) (nil h) rows) room)
      where
        nil : (l : List Entry) → l ++ [] ≡ l
        nil [] = refl
        nil (x ∷ l) = ap (λ l. x ∷ l) (nil l)

        short_of : (h es : List Entry) → history ≡ h ++ es → length h ≤ most_entries
        short_of h es is = let all = ap length is ∙ length-append h es in omega (arith, few, all)
    along h (y ∷ es) is settled made words (x ∷ before) e rest split t rows room =
        let one : y ≡ x = cc split in
        let others : es ≡ before ++ e ∷ rest = cc split in
        let all = ap length is ∙ length-append h (y ∷ es) in
        let next = settles h y settled (omega (arith, few, all)) made.0 words.0 (legal h y es is) in
        along (h ++ y ∷ []) es (is ∙ sym (append_assoc h (y ∷ []) es)) next made.1 words.1 before e rest others t
        (subst (λ l. AreRowsOf z.iface.facts l t) (ap (λ w. h ++ w ∷ before) (sym one) ∙ sym (append_assoc h (y ∷ []) before)) rows) room

    -- so it is of all
    pub may_be_tracked : Each (λ e. IsClients z.iface.facts e.call) history → Each (λ e. AreWords e.call.args) history → MayBeTracked z.iface.facts history
    may_be_tracked made words before e rest is t rows room = along [] history refl none_settled made words before e rest is t rows room
