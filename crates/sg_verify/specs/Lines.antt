-- The line of a verdict.
use Rattle.std.specs.Prelude.{ℕ, ◌-◌, List, ◌++◌, codes, length, slice_get}
use Rattle.std.specs.Fmt.{decimal}
use Rattle.std.specs.Option.{option_map_or}
use Rattle.sg_facts.specs.Facts.{Facts, fun_at}
use Rattle.sg_facts.specs.Words.{line_end}
use Rattle.sg_facts.specs.declared.entry.Entry.{Entry}
use Rattle.sg_report.specs.Report.{reply_text}
use Rattle.sg_verify.specs.declared.verdict.Verdict.{Verdict}
use Rattle.sg_verify.specs.declared.verdict.Verdict.TheVariants.{Legal, BadSeq, BadReply}

-- the line of a verdict: `legal` and the number of entries; or the place of the first wrong entry, with the number that is its client's
-- next, or with what its call is answered there: a reply as it is printed, or `blocked` where the caller has to wait
abbrev pub verdict_line_of : Facts → List Entry → Verdict → List ℕ
verdict_line_of facts history Legal = codes "legal " ++ decimal (length history) ++ line_end
verdict_line_of facts history (BadSeq at next) = codes "illegal at entry " ++ decimal at ++ codes ": seq " ++ decimal next ++ line_end
verdict_line_of facts history (BadReply at answered) =
    let fun = option_map_or (λ (e : Entry). e.call.fun) (slice_get history (at - 1)) 0 in
    codes "illegal at entry " ++ decimal at ++ codes ": "
    ++ option_map_or (reply_text (fun_at facts.funs fun)) answered (codes "blocked") ++ line_end
