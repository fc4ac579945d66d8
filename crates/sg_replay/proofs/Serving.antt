-- What serving a call does, by the service's outcome.
use Rattle.std.proofs.Common.{◌≡◌, ◌+◌, ℕ, Bool, None, Some, refl, sym, ◌∙◌, ap, subst}
use Rattle.std.specs.Prelude.{if◌then◌else◌}
use Rattle.std.specs.declared.option.Option.{Option}
use Rattle.sg_facts.specs.sg_base.declared.call.Call.{Call}
use Rattle.sg_facts.specs.sg_base.declared.reply.Good.{Good}
use Rattle.sg_facts.specs.sg_base.declared.reply.Reply.{Reply}
use Rattle.sg_facts.specs.sg_base.declared.reply.Reply.TheVariants.{Ok}
use Rattle.sg_boot.specs.Cells.{Celled}
use Rattle.sg_boot.specs.Invoking.{NotesNothing, NotesReply, NotesStop, NotesWait}
use Rattle.sg_facts.specs.declared.outcome.Patch.{Patch}
use Rattle.sg_facts.specs.declared.trace.Tag.{Tag}
use Rattle.sg_facts.specs.declared.trace.Tag.TheVariants.{Client}
use Rattle.sg_facts.specs.Facts.{Facts}
use Rattle.sg_facts.specs.Invoke.{Points}
use Rattle.sg_facts.specs.Legal.{Table}
use Rattle.sg_facts.specs.Object.{Object}
use Rattle.sg_name.specs.Names.{Naming, named_at}
use Rattle.sg_name.specs.declared.named.Named.TheVariants.{Live}
use Rattle.sg_replay.proofs.Telling.{given_told, may_tell, walks_told}
use Rattle.sg_replay.specs.Engined.{AreGiven, Engined, IsEngine}
use Rattle.sg_replay.specs.Inside.Telling.{MayTell}
use Rattle.sg_replay.specs.Serving.{IsReplyTold, KeepsNames, MayServe, TellsReply, is_named_by, makes, real_call, real_in}

-- an engine whose service and names changed
abbrev changed : Engined → Celled → Naming → Engined
changed e cell names = record e { cell = cell; names = names }

-- what follows for each object that the service holds
abbrev IfUp : Engined → (Object → Type 0) → Type 0
IfUp e P = (held : Object) → e.cell.running ≡ Some held → P held

-- the tag of a client's call
abbrev tag_of : Call → Tag
tag_of call = Client call.client call.seq

-- ---- what an engine keeps

-- an engine whose service holds what it held
kept_going : {facts : Facts} {e : Engined} (cell : Celled) → IsEngine facts e → cell.running ≡ e.cell.running → IsEngine facts (changed e cell e.names)
kept_going {e = e} cell kept same = record {
  service = kept.service;
  rows = kept.rows;
  ids = kept.ids;
  given = subst (λ r. AreGiven r e.names.known) (sym same) kept.given;
  walks = kept.walks;
}

-- an engine whose service failed
kept_failed : {facts : Facts} {e : Engined} (cell : Celled) → IsEngine facts e → cell.running ≡ None → IsEngine facts (changed e cell e.names)
kept_failed {e = e} cell kept failed = record {
  service = kept.service;
  rows = kept.rows;
  ids = kept.ids;
  given = subst (λ r. AreGiven r e.names.known) (sym failed) tt;
  walks = kept.walks;
}

-- ---- outcomes: the service is asked a call, which is copied under the service's ids

module _ {e now : Engined} (is : e ≡ now) (call : Call) {real : Call} (named : real ≡ real_call e call) where
  -- the service is up
  up_in : (held : Object) → now.cell.running ≡ Some held → e.cell.running ≡ Some held
  up_in held up = ap (λ x. x.cell.running) is ∙ up

  -- what holds of the copy holds of the call under the service's ids
  of_call : (P : Call → Type 0) → P real → P (real_call e call)
  of_call P holds = subst P named holds

  module _ {cell : Celled} {points later : Points} where
    -- the caller has to wait
    pub told_wait : {ask : Table} → IfUp e (λ held. NotesWait ask held e.cell (tag_of call) call real points cell later)
        → IfUp now (λ held. NotesWait ask held now.cell (tag_of call) call (real_call now call) points cell later × KeepsNames now (changed e cell e.names))
    told_wait {ask = ask} invoked held up =
        subst (λ x. NotesWait ask held x.cell (tag_of call) call (real_call x call) points cell later × KeepsNames x (changed e cell e.names)) is
        (of_call (λ b. NotesWait ask held e.cell (tag_of call) call b points cell later) (invoked held (up_in held up)), λ id. refl)

    pub kept_wait : {facts : Facts} {ask : Table} → IsEngine facts e → MayServe facts ask now call
        → IfUp e (λ held. NotesWait ask held e.cell (tag_of call) call real points cell later) → IsEngine facts (changed e cell e.names)
    kept_wait kept may invoked = let up = up_in may.held may.up in kept_going cell kept ((invoked may.held up).running ∙ sym up)

    -- the service stopped
    pub told_stop : {ask : Table} {parts : ℕ → ℕ} → IfUp e (λ held. NotesStop ask parts held e.cell (tag_of call) call real points cell later)
        → IfUp now (λ held. NotesStop ask parts held now.cell (tag_of call) call (real_call now call) points cell later × KeepsNames now (changed e cell e.names))
    told_stop {ask = ask} {parts = parts} invoked held up =
        subst (λ x. NotesStop ask parts held x.cell (tag_of call) call (real_call x call) points cell later × KeepsNames x (changed e cell e.names)) is
        (of_call (λ b. NotesStop ask parts held e.cell (tag_of call) call b points cell later) (invoked held (up_in held up)), λ id. refl)

    pub kept_stop : {facts : Facts} {ask : Table} {parts : ℕ → ℕ} → IsEngine facts e → MayServe facts ask now call
        → IfUp e (λ held. NotesStop ask parts held e.cell (tag_of call) call real points cell later) → IsEngine facts (changed e cell e.names)
    kept_stop kept may invoked = kept_failed cell kept (invoked may.held (up_in may.held may.up)).running

    -- the service had no memory
    pub told_nothing : IfUp e (λ held. NotesNothing e.cell points cell later)
        → IfUp now (λ held. NotesNothing now.cell points cell later × KeepsNames now (changed e cell e.names))
    told_nothing invoked held up = subst (λ x. NotesNothing x.cell points cell later × KeepsNames x (changed e cell e.names)) is (invoked held (up_in held up), λ id. refl)

    pub kept_nothing : {facts : Facts} {ask : Table} → IsEngine facts e → MayServe facts ask now call
        → IfUp e (λ held. NotesNothing e.cell points cell later) → IsEngine facts (changed e cell e.names)
    kept_nothing kept may invoked = kept_going cell kept (invoked may.held (up_in may.held may.up)).running

    -- the service replied
    module _ {facts : Facts} {ask : Table} {parts : ℕ → ℕ} {reply : Reply} {patch : Option Patch} {is_new : Bool} (kept : IsEngine facts e) (may : MayServe facts ask now call)
        (invoked : IfUp e (λ held. NotesReply facts ask parts held e.cell (tag_of call) call real points reply patch cell later)) (made : is_new ≡ makes e.tables.iface.facts call) where
      before : MayServe facts ask e call
      before = subst (λ x. MayServe facts ask x call) (sym is) may

      notes : IfUp e (λ held. NotesReply facts ask parts held e.cell (tag_of call) call (real_call e call) points reply patch cell later)
      notes held up = of_call (λ b. NotesReply facts ask parts held e.cell (tag_of call) call b points reply patch cell later) (invoked held up)

      -- whether it made a descriptor
      new_is : is_new ≡ makes facts call
      new_is = made ∙ ap (λ f. makes f call) kept.service

      given : AreGiven (Some before.held) e.names.known
      given = subst (λ r. AreGiven r e.names.known) before.up kept.given

      answered : (good : Good) → reply ≡ Ok good → ask before.held (real_call e call) ≡ Some (Ok good)
      answered good its = (notes before.held before.up).answers.answered ∙ ap (λ r. Some r) its

      -- the reply may be told
      pub reply_may_be_told : MayTell e.names is_new reply
      reply_may_be_told =
          may_tell e.names before.held is_new reply given before.name_room
          (λ good its new. before.next good (answered good its) (sym new_is ∙ new)) (λ good its old. before.back good (answered good its) (sym new_is ∙ old))

      module _ (names : Naming) {next : ℕ} (nexts : next ≡ e.stored.given + 1)
          (puts : (id : ℕ) → named_at names.known id ≡ (if is_named_by is_new next reply id then Live (real_in reply) else named_at e.names.known id)) where
        puts_made : (id : ℕ) → named_at names.known id ≡ (if is_named_by (makes facts call) next reply id then Live (real_in reply) else named_at e.names.known id)
        puts_made id = puts id ∙ ap (λ b. if is_named_by b next reply id then Live (real_in reply) else named_at e.names.known id) new_is

        pub kept_reply : IsEngine facts (changed e cell names)
        kept_reply = record {
          service = kept.service;
          rows = kept.rows;
          ids = kept.ids;
          given = subst (λ r. AreGiven r names.known) (sym (notes before.held before.up).running)
              (given_told e.names.known names.known facts before.held (real_call e call) next reply given (λ good its new. before.next good (answered good its) new) puts_made);
          walks = walks_told e.names.known names.known is_new next reply kept.walks puts;
        }

        pub told_reply : (told : Reply) → IsReplyTold e.names.known is_new next reply told
            → IfUp now (λ held. TellsReply facts ask parts held now call points told patch (changed e cell names) later)
        told_reply told tells held up =
            let its : next ≡ e.tracked.given + 1 = nexts ∙ ap (λ n. n + 1) kept.ids in
            subst (λ x. TellsReply facts ask parts held x call points told patch (changed e cell names) later) is (record {
              reply = reply;
              notes = notes held (up_in held up);
              tells = subst (λ n. IsReplyTold e.names.known (makes facts call) n reply told) its (subst (λ b. IsReplyTold e.names.known b next reply told) new_is tells);
              names = λ id. puts_made id ∙ ap (λ n. if is_named_by (makes facts call) n reply id then Live (real_in reply) else named_at e.names.known id) its;
            })
