-- The lines of the first numbers.
use Rattle.std.proofs.Common.{[]}
use Rattle.std.specs.Prelude.{if◌then◌else◌}
use Rattle.sg_facts.specs.Facts.{fun_at}
use Rattle.sg_facts.specs.Interface.{declares}
use Rattle.sg_print.specs.TablesText.{fun_line}
use Rattle.sg_print.proofs.Numbers.{Stands}
use Rattle.sg_print.proofs.tables.put_funs.Given as goal

abbrev pub invariant-funs : goal.invariant-funs
invariant-funs l = Stands (λ n. if declares l.iface n then fun_line l.iface.facts n (fun_at l.iface.facts.funs n) else []) l.initial.out l.out l.number
