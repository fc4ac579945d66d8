-- What is kept of the entries that were right, with one more.
use Rattle.std.proofs.Common.{◌≡◌, ℕ, ◌+◌, ◌<◌, ◌≤◌, List, [], ◌∷◌, ◌++◌, None, Some, length, length-append, refl, sym, ◌∙◌, ap, subst, arith}
use Rattle.std.specs.declared.option.Option.{Option}
use Rattle.sg_facts.specs.sg_base.declared.call.Call.{Call}
use Rattle.sg_facts.specs.sg_base.declared.reply.Code.{Code}
use Rattle.sg_facts.specs.sg_base.declared.reply.Reply.{Reply}
use Rattle.sg_facts.specs.sg_base.declared.reply.Reply.TheVariants.{Refused}
use Rattle.sg_world_laws.proofs.Committing.Storing.{may_track_at}
use Rattle.sg_facts.proofs.Legality.{IsLegal-from}
use Rattle.sg_facts.specs.Facts.{Facts}
use Rattle.sg_facts.specs.Guard.{guard}
use Rattle.sg_facts.specs.Kinds.{MayAsk}
use Rattle.sg_facts.specs.Laws.{Passes}
use Rattle.sg_facts.specs.Legal.{Table, answer}
use Rattle.sg_facts.specs.Inside.Rows.{refused_or}
use Rattle.sg_facts.specs.Limits.{most_script_calls}
use Rattle.sg_facts.specs.Object.{Object, after, empty_object, object_of}
use Rattle.sg_facts.specs.Tables.{AreTables, Compiled}
use Rattle.sg_facts.specs.declared.entry.Entry.{Entry}
use Rattle.sg_report.specs.sg_hist.Reading.{is_by_guard}
use Rattle.sg_world_laws.specs.sg_recovery_laws.Objects.Serving.{IsLegalObject, IsService}
use Rattle.sg_needs.specs.sg_track.Tracked.{MayTrack, Tracked}
use Rattle.sg_verify.proofs.Asking.{may_ask}
use Rattle.sg_verify.specs.Inside.Counting.{AreCounts, next_seq}
use Rattle.sg_verify.specs.Inside.Judging.{IsSettled, IsSoFar, IsWrongAfter, setting_for}
use Rattle.sg_verify.specs.Verdicts.{IsRight, IsVerdictOf}
use Rattle.sg_verify.specs.declared.verdict.Verdict.{Verdict}
use Rattle.sg_verify.specs.declared.verdict.Verdict.TheVariants.{Legal, BadSeq, BadReply}
use Rattle.sg_world_laws.proofs.Drawn.{object_after}
use Rattle.sg_world_laws.proofs.Entered.{numbered_push}
use Rattle.sg_world_laws.proofs.Entering.{legal_push, settled_after, settled_refused}
use Rattle.sg_world_laws.proofs.Onseat.{seat_passes}
use Rattle.sg_world_laws.proofs.Refusing.{by_the_guard}
use Rattle.sg_world_laws.specs.Keeping.{IsSettledObject}
use Rattle.sg_report.specs.sg_hist.Clients.{MayBeMade}
use Rattle.sg_world_laws.specs.Setting.{IsSetting, Setting}

-- a service that keeps its laws, with tables of an interface of its own
pub is_setting : (facts : Facts) (ask : Table) (sound : Object → Type 0) (parts : ℕ → ℕ) (tables : Compiled) → IsService facts ask sound → AreTables tables.iface tables.walks → tables.iface.facts ≡ facts
    → IsSetting (setting_for ask sound parts tables)
is_setting facts ask sound parts tables law are its = record { law = subst (λ f. IsService f ask sound) (sym its) law; fits = are.fits; tables = are }

-- ---- a call that the guard lets pass

module _ (z : Setting) (set : IsSetting z) (h : List Entry) (settled : IsSettled z h) (call : Call) (made : MayBeMade z.iface call) (o : Object) (its : o ≡ object_of z.iface.facts h)
    (guarded : guard z.iface o call ≡ None) where
  passes : Passes z.iface.facts o call
  passes =
      let few = settled.few in
      subst (λ x. Passes z.iface.facts x call) (sym its)
      (seat_passes z set h call settled.object (omega (arith, few)) made (ap (λ x. guard z.iface x call) (sym its) ∙ guarded))

  -- the service may be asked it
  pub may_ask_it : MayAsk z.iface.facts o call
  may_ask_it = may_ask z.iface.facts z.ask z.sound set.law o call passes

  -- and its answer be tracked
  pub may_track_it : (reply : Reply) → z.ask o call ≡ Some reply → (t : Tracked) → t.rows ≡ o.rows → t.given ≡ o.given → 1 ≤ t.spare → MayTrack z.iface.facts t call reply
  may_track_it reply answered =
      may_track_at z.iface.facts z.ask z.sound set.law o call reply (subst (IsLegalObject z.iface.facts z.sound) (sym its) settled.object.good) (record { passes = passes; answered = answered })

-- ---- an entry more

module _ (z : Setting) (set : IsSetting z) (h : List Entry) (e : Entry) (settled : IsSettled z h) (made : MayBeMade z.iface e.call)
    (answered : answer z.iface z.ask (object_of z.iface.facts h) e.call ≡ Some e.reply) where
  settled_next : IsSettledObject z (h ++ e ∷ [])
  settled_next = by (guard z.iface (object_of z.iface.facts h) e.call) refl
    where
      by : (g : Option Code) → guard z.iface (object_of z.iface.facts h) e.call ≡ g → IsSettledObject z (h ++ e ∷ [])
      by (Some code) refuses =
          let same : Some (Refused code) ≡ Some e.reply = sym (ap (λ g. refused_or g (z.ask (object_of z.iface.facts h) e.call)) refuses) ∙ answered in
          let reply : Refused code ≡ e.reply = cc same in
          settled_refused z set h e settled.object (ap is_by_guard (sym reply) ∙ by_the_guard z.iface (object_of z.iface.facts h) e.call code refuses)
      by None lets =
          let asked : z.ask (object_of z.iface.facts h) e.call ≡ Some e.reply = sym (ap (λ g. refused_or g (z.ask (object_of z.iface.facts h) e.call)) lets) ∙ answered in
          settled_after z set h e settled.object (record { passes = passes z set h settled e.call made (object_of z.iface.facts h) refl lets; answered = asked })

  pub so_far_next : (o now : Object) (counts later : List ℕ) (entries : ℕ) → IsSoFar z h o counts entries → e.call.seq ≡ next_seq h e.call.client → now ≡ after z.iface.facts o e.call e.reply
      → AreCounts later (h ++ e ∷ []) → entries < most_script_calls → IsSoFar z (h ++ e ∷ []) now later (entries + 1)
  so_far_next o now counts later entries is seq after_it counted few =
      let many = is.many in
      let longer : length (h ++ e ∷ []) ≡ length h + 1 = length-append h (e ∷ []) in
      record {
        legal = legal_push z.iface z.ask empty_object h e is.legal answered;
        numbered = numbered_push [] h e is.numbered seq;
        settled = record { object = settled_next; few = omega (arith, many, longer, few) };
        object = after_it ∙ ap (λ x. after z.iface.facts x e.call e.reply) is.object ∙ sym (object_after z.iface.facts empty_object h (e ∷ []));
        counted = counted;
        many = omega (arith, many, longer);
      }

-- ---- what is said

pub right_so_far : (z : Setting) (h : List Entry) (o : Object) (counts : List ℕ) (entries : ℕ) → IsSoFar z h o counts entries → IsRight z.iface z.ask h
right_so_far z h o counts entries is = record { legal = IsLegal-from z.iface z.ask h is.legal; numbered = is.numbered }

-- what is said of an entry is said of the history
pub said_of : (z : Setting) (h : List Entry) (e : Entry) (rest history : List Entry) (v : Verdict) → history ≡ h ++ e ∷ rest → IsRight z.iface z.ask h → IsWrongAfter z h e v → IsVerdictOf z.iface z.ask history v
said_of z h e rest history Legal is right wrong = absurd wrong
said_of z h e rest history (BadSeq at next) is right wrong = (
  record { before = h; entry = e; rest = rest; is = is; place = wrong.0; right = right },
  wrong.1,
  wrong.2,
)
said_of z h e rest history (BadReply at answered) is right wrong = (
  record { before = h; entry = e; rest = rest; is = is; place = wrong.0; right = right },
  wrong.1,
  wrong.2,
  wrong.3,
)
