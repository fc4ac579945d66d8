-- The parts agree after a commit.
use Rattle.std.proofs.Common.{◌≡◌, ℕ, Bool, true, cond, sym, ◌∙◌, ap, arith, subst}
use Rattle.std.specs.Prelude.{◌&&◌, not}
use Rattle.sg_facts.specs.Inside.Rows.{given_after, track}
use Rattle.sg_facts.specs.Track.{is_live}
use Rattle.sg_replay.specs.Engined.{IsEngine}
use Rattle.sg_replay.proofs.Committed.{given_grows, given_left, walks_left, was_live}
use Rattle.sg_replay.proofs.AllWhole.{stays_whole}
use Rattle.sg_name.specs.Names.{named_at}
use Rattle.sg_needs.specs.sg_track.Tracked.{MayTrack}
use Rattle.sg_replay.proofs.engine.Engine.commit.Goals as goal

pub invariant_of-self : goal.invariant_of-self
invariant_of-self g c =
    let facts = c.self.inside.tables.iface.facts in
    let call = c.args.call.now in
    let reply = c.args.reply in
    let rows = c.self.inside.rows.rows in
    let gone : ℕ → Bool = λ id. is_live rows id && not (is_live (track c.interface.result.now.facts rows call reply) id) in
    let old = c.self.inside.names.known in
    let new = c.forget_ended.new.names.known in
    let is : IsEngine g.S.Service.facts (record { tables = c.self.inside.tables; cell = c.self.inside.cell; stored = c.store.new.storage; tracked = c.track.new.self; names = c.forget_ended.new.names; present = c.mark_written.new.present }) = record {
      service = c.self.invariant.is.service;
      rows = λ is.
          c.store.ensures.rows
          ∙ ap (λ b. cond b (track facts c.self.inside.storage.rows call reply) c.self.inside.storage.rows) (ap (λ f. f.global) c.self.invariant.is.service ∙ is)
          ∙ ap (λ rows. track facts rows call reply) (c.self.invariant.is.rows is) ∙ sym c.track.ensures.rows;
      ids = c.store.ensures.given ∙ ap (λ n. given_after facts n call reply) c.self.invariant.is.ids ∙ sym c.track.ensures.given;
      given = given_left old new gone c.forget_ended.ensures.names c.self.inside.cell.running c.self.invariant.is.given;
      walks = walks_left old new gone c.forget_ended.ensures.names c.self.invariant.is.walks;
    } in
    record {
      is = is;
      few = omega (arith, c.self.invariant.few, c.track.ensures.given, given_grows facts c.self.inside.rows.given call reply);
      whole = λ x less live.
          let tracks : MayTrack facts c.self.inside.rows call reply = subst (λ f. MayTrack f c.self.inside.rows call reply) (sym c.self.invariant.is.service)
          (subst (λ e. MayTrack g.S.Service.facts e.tracked call reply) (sym c.self.view_is) c.requires.tracks) in
          let after : is_live (track facts rows call reply) x ≡ true = sym (ap (λ rows. is_live rows x) c.track.ensures.rows) ∙ live in
          let before = was_live facts c.self.inside.rows call reply tracks x (omega (arith, less, c.self.invariant.few)) after in
          stays_whole (named_at new x) (named_at old x) (is_live rows x) (is_live (track c.interface.result.now.facts rows call reply) x) (c.forget_ended.ensures.names x)
          (ap (λ i. is_live (track i.facts rows call reply) x) c.interface.ensures.same ∙ after) (c.self.invariant.whole x less before);
    }
