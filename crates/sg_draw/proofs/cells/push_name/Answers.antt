-- A letter more is written.
use Rattle.std.proofs.Common.{append-nil, sym, ◌∙◌, ap}
use Rattle.std.specs.Prelude.{slice_index_or}
use Rattle.sg_draw.proofs.Heads.{letter_more}
use Rattle.sg_draw.specs.Pictures.{client_name}
use Rattle.sg_draw.proofs.cells.push_name.Goals as goal

pub loop-at-init : goal.loop-at-init
loop-at-init c = sym (append-nil c.args.out.now)

pub loop-at-preserved : goal.loop-at-preserved
loop-at-preserved c =
    letter_more (client_name c.args.client) c.loop-at.at c.letter.result c.args.out.now c.loop-at.out c.push.new.self c.loop-at-test.true
    (c.letter.ensures ∙ ap (λ name. slice_index_or name c.loop-at.at 32) (c.as_slice.ensures ∙ c.in_ok-name.ensures))
    c.loop-at.invariant c.in_ok-push.ensures.ok
