-- An entry that is right is one more.
use Rattle.std.proofs.Common.{◌≡◌, IfSome, Some, refl, sym, ◌∙◌, ap, subst, arith}
use Rattle.std.proofs.lemmas.Bool.Decides.{nat_tests}
use Rattle.sg_world_laws.specs.sg_recovery_laws.Objects.Serving.{IsService}
use Rattle.sg_facts.specs.Object.{after, object_of}
use Rattle.sg_facts.specs.Legal.{answer}
use Rattle.sg_verify.proofs.Judged.{is_setting, so_far_next}
use Rattle.sg_verify.specs.Inside.Judging.{setting_for}
use Rattle.sg_verify.specs.Inside.Counting.{next_seq}
use Rattle.sg_verify.proofs.judge.Judge.judge.Goals as goal

pub returns : goal.returns
returns g c = λ history is.
    let s = g.met.S.Service in
    let tables = c.args.tables.now in
    let e = c.args.entry.now in
    let law : IsService g.S.Service.facts g.S.Service.ask g.S.Service.sound
    = record { keeps = s.answers_and_keeps; alike = s.answers_alike; goes = s.walk_goes_on; blocked = s.blocked_stays; shape = s.shape_allows; counts = s.counts_slowly } in
    let set = is_setting g.S.Service.facts g.S.Service.ask g.S.Service.sound g.S.Service.parts tables law c.lines.ensures.are c.requires.service in
    let reply_is : c.in_ok-answer.answer ≡ Some e.reply = c.if-not-gives.ensures.given refl in
    let answered : answer tables.iface g.S.Service.ask (object_of tables.iface.facts history) e.call ≡ Some e.reply
    = ap (λ o. answer tables.iface g.S.Service.ask o e.call) (sym is.object) ∙ sym c.in_ok-answer.ensures.answer ∙ reply_is in
    let now : c.answer.new.self ≡ after tables.iface.facts c.args.self.now.replica e.call e.reply
    = subst (λ a. IfSome a (λ given. c.answer.new.self ≡ after tables.iface.facts c.args.self.now.replica e.call given)) reply_is c.in_ok-answer.ensures.after in
    let next = c.next-next.ensures history is.counted in
    let test = c.if-entry-next.false in
    let seq : e.call.seq ≡ next_seq history e.call.client = grind (arith, nat_tests, test, next) in
    so_far_next (setting_for g.S.Service.ask g.S.Service.sound g.S.Service.parts tables) set history e is.settled c.requires.made answered c.args.self.now.replica c.answer.new.self c.args.self.now.counts.of_client c.add.new.self.of_client
    c.args.self.now.entries is seq now (c.add.ensures history e refl is.counted) c.requires.few
