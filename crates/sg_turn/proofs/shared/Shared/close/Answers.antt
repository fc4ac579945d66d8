use Rattle.std.proofs.Common.{◌≡◌, ◌++◌, [], map, sym, ap, ◌∙◌, subst, append-nil, List}
use Rattle.sg_facts.specs.sg_base.Lists.{Each}
use Rattle.sg_turn.specs.Seats.{SeatView, knowledge_of}
use Rattle.sg_turn.proofs.Seats.{gathered_kept}
use Rattle.sg_turn.proofs.CallLaws.{of_others}
use Rattle.sg_turn.proofs.shared.Shared.close.Goals as goal

pub closing-closing-requires-clause-turn : goal.closing-closing-requires-clause-turn
closing-closing-requires-clause-turn g c =
    let its : List SeatView → Type 0 = Each (λ (p : SeatView). p.turn ≡ c.args.self.id) in
    ap (λ s. s.turn) c.last.view_is ∙ (of_others c.args.self _ _ (subst its c.in-Some.ensures.items c.requires.turns)).1 ∙ sym (ap (λ t. t.id) c.self.view_is)

pub loop-pass-init : goal.loop-pass-init
loop-pass-init g c =
    let its : List SeatView → Type 0 = Each (λ (p : SeatView). p.turn ≡ c.args.self.id) in
    let items = c.in-Some.ensures.items in
    let e = c.closing-closing.ensures in record {
      id = ap (λ v. v.id) e ∙ ap (λ t. t.id) c.self.view_is;
      start = ap (λ v. v.start) e ∙ ap (λ t. t.start) c.self.view_is;
      gathered = ap (λ v. map knowledge_of c.pop.new.self.items ++ v.gathered) e ∙ gathered_kept c.pop.new.self.items c.in-Some.last _ [] (ap knowledge_of c.last.view_is) ∙ append-nil _ ∙ ap (map knowledge_of) (sym items);
      turns = (of_others c.args.self _ _ (subst its items c.requires.turns)).0;
    }

pub gather-requires-clause-turn : goal.gather-requires-clause-turn
gather-requires-clause-turn g c =
    let its : List SeatView → Type 0 = Each (λ (p : SeatView). p.turn ≡ c.args.self.id) in
    let i = c.loop-pass.invariant in
    ap (λ s. s.turn) c.pass.view_is ∙ (of_others c.args.self _ _ (subst its c.in-Some-pop.ensures.items i.turns)).1 ∙ sym i.id

pub loop-pass-preserved : goal.loop-pass-preserved
loop-pass-preserved g c =
    let its : List SeatView → Type 0 = Each (λ (p : SeatView). p.turn ≡ c.args.self.id) in
    let i = c.loop-pass.invariant in
    let items = c.in-Some-pop.ensures.items in
    let e = c.gather.ensures in record {
      id = ap (λ v. v.id) e ∙ i.id;
      start = ap (λ v. v.start) e ∙ i.start;
      gathered = ap (λ v. map knowledge_of c.pop-in-loop-pass.new.self.items ++ v.gathered) e ∙ gathered_kept c.pop-in-loop-pass.new.self.items c.in-Some-pop.pass _ c.loop-pass.closing.gathered (ap knowledge_of c.pass.view_is)
          ∙ ap (λ l. map knowledge_of l ++ c.loop-pass.closing.gathered) (sym items) ∙ i.gathered;
      turns = (of_others c.args.self _ _ (subst its items i.turns)).0;
    }
