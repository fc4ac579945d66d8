-- The facts come one after another.
use Rattle.std.proofs.Common.{◌∙◌}
use Rattle.std.proofs.lemmas.Result.{err_from_is_err_and}
use Rattle.sg_parse.specs.Grammar.Inside.States.{head1, head2, head3, head4, head5, head6}
use Rattle.sg_parse.proofs.head.shared_facts.Goals as goal

pub returns-in_err-service : goal.returns-in_err-service
returns-in_err-service c = λ end.
    let p = err_from_is_err_and c.from_residual.result c.from_residual.ensures.1 in
    rw (p.1, p.2) (λ ne.
    c.in_err-service.ensures (head1 end) ne)

pub returns-in_err-parent : goal.returns-in_err-parent
returns-in_err-parent c = λ end.
    let p = err_from_is_err_and c.from_residual-in_err-parent.result c.from_residual-in_err-parent.ensures.1 in
    rw (p.1, p.2) (λ ne.
    c.in_ok-service.ensures (head1 end)
    ∙ c.in_err-parent.ensures (head2 end c.in_ok-service.service) ne)

pub returns-in_err-close : goal.returns-in_err-close
returns-in_err-close c = λ end.
    let p = err_from_is_err_and c.from_residual-in_err-close.result c.from_residual-in_err-close.ensures.1 in
    rw (p.1, p.2) (λ ne.
    c.in_ok-service.ensures (head1 end)
    ∙ c.in_ok-parent.ensures (head2 end c.in_ok-service.service)
    ∙ c.in_err-close.ensures (head3 end c.in_ok-service.service c.in_ok-parent.parent) ne)

pub returns-in_err-global : goal.returns-in_err-global
returns-in_err-global c = λ end.
    let p = err_from_is_err_and c.from_residual-in_err-global.result c.from_residual-in_err-global.ensures.1 in
    rw (p.1, p.2) (λ ne.
    c.in_ok-service.ensures (head1 end)
    ∙ c.in_ok-parent.ensures (head2 end c.in_ok-service.service)
    ∙ c.in_ok-close.ensures (head3 end c.in_ok-service.service c.in_ok-parent.parent)
    ∙ c.in_err-global.ensures (head4 end c.in_ok-service.service c.in_ok-parent.parent c.in_ok-close.close) ne)

pub returns-in_err-block : goal.returns-in_err-block
returns-in_err-block c = λ end.
    let p = err_from_is_err_and c.from_residual-in_err-block.result c.from_residual-in_err-block.ensures.1 in
    rw (p.1, p.2) (λ ne.
    c.in_ok-service.ensures (head1 end)
    ∙ c.in_ok-parent.ensures (head2 end c.in_ok-service.service)
    ∙ c.in_ok-close.ensures (head3 end c.in_ok-service.service c.in_ok-parent.parent)
    ∙ c.in_ok-global.ensures (head4 end c.in_ok-service.service c.in_ok-parent.parent c.in_ok-close.close)
    ∙ c.in_err-block.ensures (head5 end c.in_ok-service.service c.in_ok-parent.parent c.in_ok-close.close c.in_ok-global.global) ne)

pub returns-in_err-has_data : goal.returns-in_err-has_data
returns-in_err-has_data c = λ end.
    let p = err_from_is_err_and c.from_residual-in_err-has_data.result c.from_residual-in_err-has_data.ensures.1 in
    rw (p.1, p.2) (λ ne.
    c.in_ok-service.ensures (head1 end)
    ∙ c.in_ok-parent.ensures (head2 end c.in_ok-service.service)
    ∙ c.in_ok-close.ensures (head3 end c.in_ok-service.service c.in_ok-parent.parent)
    ∙ c.in_ok-global.ensures (head4 end c.in_ok-service.service c.in_ok-parent.parent c.in_ok-close.close)
    ∙ c.in_ok-block.ensures (head5 end c.in_ok-service.service c.in_ok-parent.parent c.in_ok-close.close c.in_ok-global.global)
    ∙ c.in_err-has_data.ensures (head6 end c.in_ok-service.service c.in_ok-parent.parent c.in_ok-close.close c.in_ok-global.global c.in_ok-block.block) ne)

pub returns-in_err-resc_data : goal.returns-in_err-resc_data
returns-in_err-resc_data c = λ end.
    let p = err_from_is_err_and c.from_residual-in_err-resc_data.result c.from_residual-in_err-resc_data.ensures.1 in
    rw (p.1, p.2) (λ ne.
    c.in_ok-service.ensures (head1 end)
    ∙ c.in_ok-parent.ensures (head2 end c.in_ok-service.service)
    ∙ c.in_ok-close.ensures (head3 end c.in_ok-service.service c.in_ok-parent.parent)
    ∙ c.in_ok-global.ensures (head4 end c.in_ok-service.service c.in_ok-parent.parent c.in_ok-close.close)
    ∙ c.in_ok-block.ensures (head5 end c.in_ok-service.service c.in_ok-parent.parent c.in_ok-close.close c.in_ok-global.global)
    ∙ c.in_ok-has_data.ensures (head6 end c.in_ok-service.service c.in_ok-parent.parent c.in_ok-close.close c.in_ok-global.global c.in_ok-block.block)
    ∙ c.in_err-resc_data.ensures (end c.in_ok-service.service c.in_ok-parent.parent c.in_ok-close.close c.in_ok-global.global c.in_ok-block.block c.in_ok-has_data.has_data) ne)

pub returns : goal.returns
returns c = λ end.
    c.in_ok-service.ensures (head1 end)
    ∙ c.in_ok-parent.ensures (head2 end c.in_ok-service.service)
    ∙ c.in_ok-close.ensures (head3 end c.in_ok-service.service c.in_ok-parent.parent)
    ∙ c.in_ok-global.ensures (head4 end c.in_ok-service.service c.in_ok-parent.parent c.in_ok-close.close)
    ∙ c.in_ok-block.ensures (head5 end c.in_ok-service.service c.in_ok-parent.parent c.in_ok-close.close c.in_ok-global.global)
    ∙ c.in_ok-has_data.ensures (head6 end c.in_ok-service.service c.in_ok-parent.parent c.in_ok-close.close c.in_ok-global.global c.in_ok-block.block)
    ∙ c.in_ok-resc_data.ensures (end c.in_ok-service.service c.in_ok-parent.parent c.in_ok-close.close c.in_ok-global.global c.in_ok-block.block c.in_ok-has_data.has_data)
