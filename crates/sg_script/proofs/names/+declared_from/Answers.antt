-- None beyond the 32nd.
use Rattle.std.proofs.Common.{map, ap, arith}
use Rattle.sg_facts.specs.Facts.{fun_of_shape}
use Rattle.sg_script.proofs.Naming.{none_beyond}
use Rattle.sg_script.proofs.names.+declared_from.Goals as goal

pub returns-then-first-gt-MOST_FUNS : goal.returns-then-first-gt-MOST_FUNS
returns-then-first-gt-MOST_FUNS t c =
    none_beyond c.args.iface.now c.args.name.now c.args.first (map fun_of_shape c.args.funs.now)
    (omega (arith, ap (λ i. i.declared) c.iface.view_is)) c.if-first-gt-MOST_FUNS.true
