-- The number of the next entry's call is kept: one more than its client's entries before it.
use Rattle.std.proofs.Common.{◌≡◌, ◌+◌, length, ◌∙◌, ap}
use Rattle.std.proofs.lemmas.Result.{on_ok_weaker}
use Rattle.sg_report.specs.sg_hist.Lent.{entry_in}
use Rattle.sg_multi.specs.Merged.{own_in}
use Rattle.sg_multi.specs.declared.numbers.CallKey.{CallKey}
use Rattle.sg_multi.proofs.NumberingCalls.{are_kept_more}
use Rattle.sg_multi.proofs.numbers.keep_next.Goals as goal

pub returns-clause-kept : goal.returns-clause-kept
returns-clause-kept c = λ before e its read found kept.
    let entry = entry_in c.in-Some.entry in
    let same : entry ≡ e.entry = let both = c.in-Some.ensures ∙ found in cc in
    let key : CallKey = record { member = c.from.result; client = entry.call.client; seq = entry.call.seq } in
    let keys : key ≡ record { member = e.member; client = e.entry.call.client; seq = e.entry.call.seq } = cc (c.from.ensures, its) in
    on_ok_weaker c.keep_number.result (λ adds. are_kept_more c.args.calls.now c.keep_number.new.calls before e key c.in_ok-number.number keys adds
    (c.in_ok-number.ensures.number ∙ ap (λ n. n + 1) (read.clients entry.call.client ∙ ap (λ x. length (own_in x.call.client before)) same)) kept) c.keep_number.ensures
