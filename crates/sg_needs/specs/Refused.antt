-- What the rows alone refuse.
use Rattle.std.specs.Prelude.{List, []}
use Rattle.std.specs.declared.option.Option.{Option}
use Rattle.sg_facts.specs.sg_base.declared.call.Call.{Call}
use Rattle.sg_facts.specs.sg_base.declared.reply.Code.{Code}
use Rattle.sg_facts.specs.declared.row.Row.{Row}
use Rattle.sg_facts.specs.Facts.{Fun}
use Rattle.sg_facts.specs.Inside.Guards.{refusal}
use Rattle.sg_facts.specs.Interface.{Declared}

-- the first cause that applies, as the rows tell it without files and ids
abbrev pub refused_by_rows : Declared → Fun → List Row → Call → Option Code
refused_by_rows i f rows call = refusal i f (record { rows = rows; files = []; given = 0 }) call
