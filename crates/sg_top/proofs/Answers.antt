-- What was read, and what was written of it, make the answer.
use Rattle.std.proofs.Common.{◌≡◌, ℕ, ◌+◌, ◌<◌, ◌≤◌, ◌⊎◌, Bool, true, false, cond, List, ◌++◌, None, Some, IfSome, length, refl, sym, ◌∙◌, ap, subst, inl, inr, arith, append-nil, length-append}
use Rattle.std.specs.declared.option.Option.{Option}
use Rattle.std.specs.Io.KnownBytes.{Consumes, IsAtEnd}
use Rattle.sg_edge.specs.Edge.{Rose, ConsumesJust}
use Rattle.sg_verify.specs.sg_report.sg_hist.declared.ended.End.{End}
use Rattle.sg_multi.specs.declared.ended.MultiEnd.{MultiEnd}
use Rattle.std.specs.Result.{IfOk, OnErr}
use Rattle.std.specs.declared.result.Result.{Result}
use Rattle.std.specs.declared.result.Result.TheVariants.{Ok, Err}
use Rattle.sg_load.specs.declared.kind.ServiceKind.{ServiceKind}
use Rattle.sg_top.specs.declared.command.Command.{Command}
use Rattle.sg_top.specs.declared.output.Output.{Output}
use Rattle.sg_top.specs.declared.output.Ran.{Ran}
use Rattle.sg_top.specs.declared.output.Ran.TheVariants.{Nothing, One, Several}
use Rattle.sg_top.specs.declared.command.Shows.{Shows}
use Rattle.sg_top.specs.declared.command.Command.TheVariants.{Play, Run, Check, Compile, Upgrade, Explain, Explore, Verify, Multi, Load}
use Rattle.sg_top.specs.declared.status.Status.{Status}
use Rattle.sg_top.specs.declared.status.Status.TheVariants.{Done, Waits, OtherWords, Refused, ReadFault, WriteFault, NoMemory, Illegal}
use Rattle.sg_load.specs.sg_plain.Inside.Kept.{somebody_waits}
use Rattle.sg_top.specs.Answer.{Ends, HasRead, IsAnswer, IsMultiOutput, IsOutput, IsOwnOutput, IsRefusal, ReadsInput, ended_status, has_input, has_run, is_in_threads, is_play, most_bytes, multi_status, report_shown, too_long_output, IsPlayOutput}
use Rattle.sg_top.specs.Inside.Pieces.{IsExploration, IsIllegal, SaysIllegal, SaysRefused, verdict_status}
use Rattle.sg_verify.specs.declared.verdict.Verdict.{Verdict as Judgement}
use Rattle.sg_verify.specs.declared.verdict.Verdict.TheVariants.{Legal, BadSeq, BadReply}
use Rattle.sg_top.specs.Inside.Delivery.{IsDelivered, IsWritten}
use Rattle.sg_top.specs.Inside.Several.{some_waits}
use Rattle.sg_top.proofs.Judging.{judged_so}
use Rattle.sg_top.proofs.Refusals.{never_refused, refuses_nothing}

-- ---- what is told of a source

-- what is told of a source that was read to its end is what was read
told_whole : (P : List ℕ → Type 0) (told told' : Option (List ℕ)) (bytes : List ℕ) → Consumes told told' bytes → IsAtEnd told' → P bytes → IfSome told P
told_whole P None told' bytes consumed at_end holds = tt
told_whole P (Some b) None bytes consumed at_end holds = absurd consumed
told_whole P (Some b) (Some b') bytes consumed at_end holds = subst P (sym (consumed ∙ ap (λ l. bytes ++ l) at_end ∙ append-nil bytes)) holds

-- what is told of one that was read in part is no shorter than what was read
told_more : (P : List ℕ → Type 0) (told told' : Option (List ℕ)) (bytes : List ℕ) → Consumes told told' bytes → ((b : List ℕ) → length bytes ≤ length b → P b) → IfSome told P
told_more P None told' bytes consumed all = tt
told_more P (Some b) None bytes consumed all = absurd consumed
told_more P (Some b) (Some b') bytes consumed all =
    let l : length b ≡ length bytes + length b' = ap length consumed ∙ length-append bytes b' in
    let longer : length bytes ≤ length b = omega (arith, l) in
    all b longer

-- what `HasRead` says
abbrev Read : Command → Ends → Ends → Ran → Status → List ℕ → Type 0
Read command source source' ran status output =
    ((bytes : List ℕ) × (length bytes ≤ most_bytes command) × Consumes source.told source'.told bytes × IsAtEnd source'.told × IsOutput command bytes ran status output)
    ⊎ ((bytes : List ℕ) × (has_input command ≡ true) × (length bytes ≡ most_bytes command + 1) × Consumes source.told source'.told bytes × (ran ≡ Nothing) × (status ≡ Refused) × (output ≡ too_long_output command))
    ⊎ ((source' ≡ source) × IsOwnOutput command ran status output)

-- ---- refusals

-- more bytes than an input may have are refused
too_long : (command : Command) (bytes : List ℕ) → has_input command ≡ true → most_bytes command < length bytes → IsRefusal command bytes (too_long_output command)
too_long command bytes has long = inr (has, long, refl)

-- the status of what a command makes
abbrev IsMade : Status → Type 0
IsMade status = (status ≡ Done) ⊎ (status ≡ Waits) ⊎ (status ≡ Illegal) ⊎ (status ≡ Refused)

-- the status of what is said of a history
said_so : (said : Judgement) → (verdict_status said ≡ Done) ⊎ (verdict_status said ≡ Illegal)
said_so Legal = inl refl
said_so (BadSeq at next) = inr refl
said_so (BadReply at answered) = inr refl

said_good : (said : Judgement) → verdict_status said ≡ Refused → ⊥
said_good Legal is = cc is
said_good (BadSeq at next) is = cc is
said_good (BadReply at answered) is = cc is

-- the status of runs, by whether some client waits at the end of one
waits_so : (waits : Bool) → (cond waits Waits Done ≡ Done) ⊎ (cond waits Waits Done ≡ Waits)
waits_so true = inr refl
waits_so false = inl refl

waits_good : (waits : Bool) → cond waits Waits Done ≡ Refused → ⊥
waits_good true is = cc is
waits_good false is = cc is

-- the status of a play that came to its end
ends_so : (ends : List (ℕ × End)) → (ended_status ends ≡ Done) ⊎ (ended_status ends ≡ Waits)
ends_so ends = waits_so (somebody_waits ends)

-- the status of a play over several services that came to its end
multi_so : (ends : List (ℕ × MultiEnd)) → (multi_status ends ≡ Done) ⊎ (multi_status ends ≡ Waits)
multi_so ends = waits_so (some_waits ends)

multi_good : (ends : List (ℕ × MultiEnd)) → multi_status ends ≡ Refused → ⊥
multi_good ends is = waits_good (some_waits ends) is

ends_good : (ends : List (ℕ × End)) → ended_status ends ≡ Refused → ⊥
ends_good ends is = waits_good (somebody_waits ends) is

-- an output of an input that is refused has its refusal, and no run came to its end
refusal : (command : Command) (bytes : List ℕ) (ran : Ran) (status : Status) (output : List ℕ) → status ≡ Refused → length bytes ≤ most_bytes command
    → IsOutput command bytes ran status output → (ran ≡ Nothing) × IsRefusal command bytes output
refusal (Play shows) bytes Nothing status output two short is = (refl, inl (short, is.1))
refusal (Run trace) bytes Nothing status output two short is = (refl, inl (short, is.1))
refusal (Play shows) bytes (One e) status output two short is = absurd (ends_good e.ends (sym is.0 ∙ two))
refusal (Run trace) bytes (One e) status output two short is = absurd (ends_good e.ends (sym is.0 ∙ two))
refusal (Play shows) bytes (Several came) status output two short is = absurd is
refusal (Run trace) bytes (Several came) status output two short is = absurd is
refusal (Multi trace) bytes Nothing status output two short is = (refl, inl (short, is.1))
refusal (Multi trace) bytes (One e) status output two short is = absurd is
refusal (Multi trace) bytes (Several came) status output two short is = absurd (multi_good came.ends (sym is.0 ∙ two))
refusal Check bytes ran status output two short (none, inl accepted) = absurd (cc (two, accepted.0))
refusal Compile bytes ran status output two short (none, inl accepted) = absurd (cc (two, accepted.0))
refusal Upgrade bytes ran status output two short (none, inl accepted) = absurd (cc (two, accepted.0))
refusal Explain bytes ran status output two short (none, inl accepted) = absurd (cc (two, accepted.0))
refusal (Explore most) bytes ran status output two short (none, inl explored) = absurd (waits_good explored.found.waits (sym explored.answered ∙ two))
refusal Verify bytes ran status output two short (none, inl judged) = absurd (said_good judged.said (sym judged.answered ∙ two))
refusal Check bytes ran status output two short (none, inr refused) = (none, inl (short, refused.1))
refusal Compile bytes ran status output two short (none, inr refused) = (none, inl (short, refused.1))
refusal Upgrade bytes ran status output two short (none, inr refused) = (none, inl (short, refused.1))
refusal Explain bytes ran status output two short (none, inr refused) = (none, inl (short, refused.1))
refusal (Explore most) bytes ran status output two short (none, inr refused) = (none, inl (short, refused.1))
refusal Verify bytes ran status output two short (none, inr refused) = (none, inl (short, refused.1))
refusal (Load service number) bytes ran status output two short is = absurd is

-- an output of a command without an input is no refusal
own_good : (command : Command) (ran : Ran) (status : Status) (output : List ℕ) → IsOwnOutput command ran status output → status ≡ Refused → ⊥
own_good (Load service number) (One e) status output own two = ends_good e.ends (sym own.0 ∙ two)
own_good (Load service number) Nothing status output own two = own
own_good (Load service number) (Several came) status output own two = own
own_good (Multi trace) ran status output own two = own
own_good (Play shows) ran status output own two = own
own_good (Run trace) ran status output own two = own
own_good Check ran status output own two = own
own_good Compile ran status output own two = own
own_good Upgrade ran status output own two = own
own_good Explain ran status output own two = own
own_good (Explore most) ran status output own two = own
own_good Verify ran status output own two = own

-- its status, its run, and that it is a play's
own_is : (command : Command) (ran : Ran) (status : Status) (output : List ℕ) → IsOwnOutput command ran status output
    → IsMade status × (has_run ran ≡ true) × (is_play command ≡ true) × (has_input command ≡ false)
own_is (Load service number) (One e) status output own = (by (ends_so e.ends), refl, refl, refl)
  where
    by : (ended_status e.ends ≡ Done) ⊎ (ended_status e.ends ≡ Waits) → IsMade status
    by (inl done) = inl (own.0 ∙ done)
    by (inr waits) = inr (inl (own.0 ∙ waits))
own_is (Load service number) Nothing status output own = absurd own
own_is (Load service number) (Several came) status output own = absurd own
own_is (Multi trace) ran status output own = absurd own
own_is (Play shows) ran status output own = absurd own
own_is (Run trace) ran status output own = absurd own
own_is Check ran status output own = absurd own
own_is Compile ran status output own = absurd own
own_is Upgrade ran status output own = absurd own
own_is Explain ran status output own = absurd own
own_is (Explore most) ran status output own = absurd own
own_is Verify ran status output own = absurd own

refused_by : (command : Command) (source source' : Ends) (ran : Ran) (status : Status) (output : List ℕ) → status ≡ Refused
    → Read command source source' ran status output → (ran ≡ Nothing) × IfSome source.told (λ bytes. IsRefusal command bytes output)
refused_by command source source' ran status output two (inl (bytes, short, consumed, at_end, is)) =
    let all = refusal command bytes ran status output two short is in
    (all.0, told_whole (λ b. IsRefusal command b output) source.told source'.told bytes consumed at_end all.1)
refused_by command source source' ran status output two (inr (inl (bytes, has, count, consumed, none, is_two, line))) = (
  none,
  told_more (λ b. IsRefusal command b output) source.told source'.told bytes consumed
      (λ b longer. subst (IsRefusal command b) (sym line) (too_long command b has (omega (arith, count, longer)))),
)
refused_by command source source' ran status output two (inr (inr (same, own))) = absurd (own_good command ran status output own two)

told_refused : (command : Command) (source source' : Ends) (ran : Ran) (status : Status) (output : List ℕ) → status ≡ Refused
    → HasRead command source source' ran status output → (ran ≡ Nothing) × IfSome source.told (λ bytes. IsRefusal command bytes output)
told_refused command source source' ran status output two has = refused_by command source source' ran status output two has.read

-- ---- statuses and runs

played_status : (bytes : List ℕ) (in_threads : Bool) (shows : Shows) (ran : Ran) (status : Status) (output : List ℕ)
    → IsPlayOutput bytes in_threads shows ran status output → IsMade status
played_status bytes in_threads shows Nothing status output is = inr (inr (inr is.0))
played_status bytes in_threads shows (One e) status output is = by (ends_so e.ends)
  where
    by : (ended_status e.ends ≡ Done) ⊎ (ended_status e.ends ≡ Waits) → IsMade status
    by (inl done) = inl (is.0 ∙ done)
    by (inr waits) = inr (inl (is.0 ∙ waits))
played_status bytes in_threads shows (Several came) status output is = absurd is

multi_made : (bytes : List ℕ) (with_trace : Bool) (ran : Ran) (status : Status) (output : List ℕ) → IsMultiOutput bytes with_trace ran status output → IsMade status
multi_made bytes with_trace Nothing status output is = inr (inr (inr is.0))
multi_made bytes with_trace (One e) status output is = absurd is
multi_made bytes with_trace (Several came) status output is = by (multi_so came.ends)
  where
    by : (multi_status came.ends ≡ Done) ⊎ (multi_status came.ends ≡ Waits) → IsMade status
    by (inl done) = inl (is.0 ∙ done)
    by (inr waits) = inr (inl (is.0 ∙ waits))

output_status : (command : Command) (bytes : List ℕ) (ran : Ran) (status : Status) (output : List ℕ)
    → IsOutput command bytes ran status output → IsMade status
output_status (Play shows) bytes ran status output is = played_status bytes false shows ran status output is
output_status (Run trace) bytes ran status output is = played_status bytes true (report_shown trace) ran status output is
output_status (Multi trace) bytes ran status output is = multi_made bytes trace ran status output is
output_status Check bytes ran status output (none, inl accepted) = inl accepted.0
output_status Compile bytes ran status output (none, inl accepted) = inl accepted.0
output_status Upgrade bytes ran status output (none, inl accepted) = inl accepted.0
output_status Explain bytes ran status output (none, inl accepted) = inl accepted.0
output_status (Explore most) bytes ran status output (none, inl explored) = by (waits_so explored.found.waits)
  where
    by : (cond explored.found.waits Waits Done ≡ Done) ⊎ (cond explored.found.waits Waits Done ≡ Waits) → IsMade status
    by (inl done) = inl (explored.answered ∙ done)
    by (inr waits) = inr (inl (explored.answered ∙ waits))
output_status Verify bytes ran status output (none, inl judged) = by (said_so judged.said)
  where
    by : (verdict_status judged.said ≡ Done) ⊎ (verdict_status judged.said ≡ Illegal) → IsMade status
    by (inl done) = inl (judged.answered ∙ done)
    by (inr illegal) = inr (inr (inl (judged.answered ∙ illegal)))
output_status Check bytes ran status output (none, inr refused) = inr (inr (inr refused.0))
output_status Compile bytes ran status output (none, inr refused) = inr (inr (inr refused.0))
output_status Upgrade bytes ran status output (none, inr refused) = inr (inr (inr refused.0))
output_status Explain bytes ran status output (none, inr refused) = inr (inr (inr refused.0))
output_status (Explore most) bytes ran status output (none, inr refused) = inr (inr (inr refused.0))
output_status Verify bytes ran status output (none, inr refused) = inr (inr (inr refused.0))
output_status (Load service number) bytes ran status output is = absurd is

status_by : (command : Command) (source source' : Ends) (ran : Ran) (status : Status) (output : List ℕ)
    → Read command source source' ran status output → IsMade status
status_by command source source' ran status output (inl (bytes, short, consumed, at_end, is)) = output_status command bytes ran status output is
status_by command source source' ran status output (inr (inl (bytes, has, count, consumed, none, is_two, line))) = inr (inr (inr is_two))
status_by command source source' ran status output (inr (inr (same, own))) = (own_is command ran status output own).0

-- an output is of an input that is done, where some client waits, or that is refused
status_is : (command : Command) (source source' : Ends) (ran : Ran) (status : Status) (output : List ℕ)
    → HasRead command source source' ran status output → IsMade status
status_is command source source' ran status output has = status_by command source source' ran status output has.read

played_run : (bytes : List ℕ) (in_threads : Bool) (shows : Shows) (ran : Ran) (status : Status) (output : List ℕ) → (status ≡ Refused → ⊥)
    → IsPlayOutput bytes in_threads shows ran status output → has_run ran ≡ true
played_run bytes in_threads shows Nothing status output good is = absurd (good is.0)
played_run bytes in_threads shows (One e) status output good is = refl
played_run bytes in_threads shows (Several came) status output good is = absurd is

multi_run : (bytes : List ℕ) (with_trace : Bool) (ran : Ran) (status : Status) (output : List ℕ) → (status ≡ Refused → ⊥)
    → IsMultiOutput bytes with_trace ran status output → has_run ran ≡ true
multi_run bytes with_trace Nothing status output good is = absurd (good is.0)
multi_run bytes with_trace (One e) status output good is = absurd is
multi_run bytes with_trace (Several came) status output good is = refl

output_run : (command : Command) (bytes : List ℕ) (ran : Ran) (status : Status) (output : List ℕ) → (status ≡ Refused → ⊥) → is_play command ≡ true
    → IsOutput command bytes ran status output → has_run ran ≡ true
output_run (Play shows) bytes ran status output good play is = played_run bytes false shows ran status output good is
output_run (Run trace) bytes ran status output good play is = played_run bytes true (report_shown trace) ran status output good is
output_run (Multi trace) bytes ran status output good play is = multi_run bytes trace ran status output good is
output_run Check bytes ran status output good play is = absurd (cc play)
output_run Compile bytes ran status output good play is = absurd (cc play)
output_run Upgrade bytes ran status output good play is = absurd (cc play)
output_run Explain bytes ran status output good play is = absurd (cc play)
output_run (Explore most) bytes ran status output good play is = absurd (cc play)
output_run Verify bytes ran status output good play is = absurd (cc play)
output_run (Load service number) bytes ran status output good play is = absurd is

run_by : (command : Command) (source source' : Ends) (ran : Ran) (status : Status) (output : List ℕ) → (status ≡ Refused → ⊥) → is_play command ≡ true
    → Read command source source' ran status output → has_run ran ≡ true
run_by command source source' ran status output good play (inl (bytes, short, consumed, at_end, is)) = output_run command bytes ran status output good play is
run_by command source source' ran status output good play (inr (inl (bytes, has, count, consumed, none, is_two, line))) = absurd (good is_two)
run_by command source source' ran status output good play (inr (inr (same, own))) = (own_is command ran status output own).1

-- a play that came to its end has a run
good_run : (command : Command) (source source' : Ends) (ran : Ran) (status : Status) (output : List ℕ) → (status ≡ Refused → ⊥) → is_play command ≡ true
    → HasRead command source source' ran status output → has_run ran ≡ true
good_run command source source' ran status output good play has = run_by command source source' ran status output good play has.read

no_run : (ran : Ran) → ran ≡ Nothing → has_run ran ≡ true → ⊥
no_run Nothing none some = cc
no_run (One e) none some = cc
no_run (Several came) none some = cc

output_play : (command : Command) (bytes : List ℕ) (ran : Ran) (status : Status) (output : List ℕ)
    → IsOutput command bytes ran status output → has_run ran ≡ true → is_play command ≡ true
output_play (Play shows) bytes ran status output is some = refl
output_play (Run trace) bytes ran status output is some = refl
output_play (Multi trace) bytes ran status output is some = refl
output_play Check bytes ran status output is some = absurd (no_run ran is.0 some)
output_play Compile bytes ran status output is some = absurd (no_run ran is.0 some)
output_play Upgrade bytes ran status output is some = absurd (no_run ran is.0 some)
output_play Explain bytes ran status output is some = absurd (no_run ran is.0 some)
output_play (Explore most) bytes ran status output is some = absurd (no_run ran is.0 some)
output_play Verify bytes ran status output is some = absurd (no_run ran is.0 some)
output_play (Load service number) bytes ran status output is some = absurd is

play_by : (command : Command) (source source' : Ends) (ran : Ran) (status : Status) (output : List ℕ)
    → Read command source source' ran status output → has_run ran ≡ true → is_play command ≡ true
play_by command source source' ran status output (inl (bytes, short, consumed, at_end, is)) some = output_play command bytes ran status output is some
play_by command source source' ran status output (inr (inl (bytes, has, count, consumed, none, is_two, line))) some = absurd (no_run ran none some)
play_by command source source' ran status output (inr (inr (same, own))) some = (own_is command ran status output own).2

-- only a play has a run
run_play : (command : Command) (source source' : Ends) (ran : Ran) (status : Status) (output : List ℕ)
    → HasRead command source source' ran status output → has_run ran ≡ true → is_play command ≡ true
run_play command source source' ran status output has some = play_by command source source' ran status output has.read some

-- ---- answers

-- at most one command is said
abbrev pub IsOne : (Command → Type 0) → Type 0
IsOne said = (a b : Command) → said a → said b → a ≡ b

-- what is told of a source has what all bytes have
told_any : (P : List ℕ → Type 0) (told : Option (List ℕ)) → ((bytes : List ℕ) → P bytes) → IfSome told P
told_any P None all = tt
told_any P (Some bytes) all = all bytes

-- a status of a refusal, of a fault or of no memory will do for bytes that may be refused
pub says_refused : (command : Command) (told : Option (List ℕ)) (status : Status)
    → (status ≡ Refused) ⊎ (status ≡ ReadFault) ⊎ (status ≡ WriteFault) ⊎ (status ≡ NoMemory) → IfSome told (SaysRefused command status)
says_refused command told status is = told_any (SaysRefused command status) told (λ bytes output refusal. is)

says_by : (command : Command) (source source' : Ends) (ran : Ran) (status wanted : Status) (output : List ℕ) → (wanted ≡ Refused → ⊥)
    → Read command source source' ran wanted output → IfSome source.told (SaysRefused command status)
says_by command source source' ran status wanted output good (inl (bytes, short, consumed, at_end, is)) =
    told_whole (SaysRefused command status) source.told source'.told bytes consumed at_end
    (λ line refusal. absurd (never_refused command bytes ran wanted output line good short is refusal))
says_by command source source' ran status wanted output good (inr (inl (bytes, has, count, consumed, none, is_refused, line))) = absurd (good is_refused)
says_by command source source' ran status wanted output good (inr (inr (same, own))) =
    told_any (SaysRefused command status) source.told (λ bytes line refusal. absurd (refuses_nothing command bytes line (own_is command ran wanted output own).3 refusal))

-- where an output is no refusal, what is told isn't refused
says_good : (command : Command) (source source' : Ends) (ran : Ran) (status wanted : Status) (output : List ℕ) → (wanted ≡ Refused → ⊥)
    → HasRead command source source' ran wanted output → IfSome source.told (SaysRefused command status)
says_good command source source' ran status wanted output good has = says_by command source source' ran status wanted output good has.read

-- an output that is written whole says whether its bytes are refused
says_whole : (command : Command) (source source' : Ends) (ran : Ran) (status wanted : Status) (output : List ℕ) → status ≡ wanted
    → IsMade wanted → HasRead command source source' ran wanted output → IfSome source.told (SaysRefused command status)
says_whole command source source' ran status wanted output same (inl done) has = says_good command source source' ran status wanted output (λ is. cc (is, done)) has
says_whole command source source' ran status wanted output same (inr (inl waits)) has = says_good command source source' ran status wanted output (λ is. cc (is, waits)) has
says_whole command source source' ran status wanted output same (inr (inr (inl illegal))) has = says_good command source source' ran status wanted output (λ is. cc (is, illegal)) has
says_whole command source source' ran status wanted output same (inr (inr (inr two))) has = says_refused command source.told status (inl (same ∙ two))

-- a status of an illegal history, of a fault or of no memory will do for bytes that may print one
pub says_illegal : (command : Command) (told : Option (List ℕ)) (status : Status)
    → (status ≡ Illegal) ⊎ (status ≡ ReadFault) ⊎ (status ≡ WriteFault) ⊎ (status ≡ NoMemory) → IfSome told (SaysIllegal command status)
says_illegal command told status is = told_any (SaysIllegal command status) told (λ bytes output illegal. is)

-- bytes that are too many print no history
not_longer : (command : Command) (bytes b line : List ℕ) → length bytes ≡ most_bytes command + 1 → length bytes ≤ length b → IsIllegal command b line → ⊥
not_longer command bytes b line count longer (verifies, short, bad) =
    let most : most_bytes command ≡ most_bytes Verify = ap most_bytes verifies in absurd (omega (arith, count, longer, short, most))

judges_by : (command : Command) (source source' : Ends) (ran : Ran) (status wanted : Status) (output : List ℕ) → status ≡ wanted
    → Read command source source' ran wanted output → IfSome source.told (SaysIllegal command status)
judges_by command source source' ran status wanted output same (inl (bytes, short, consumed, at_end, is)) =
    told_whole (SaysIllegal command status) source.told source'.told bytes consumed at_end
    (λ line illegal. inl (same ∙ judged_so command bytes ran wanted output line is illegal))
judges_by command source source' ran status wanted output same (inr (inl (bytes, has, count, consumed, none, is_refused, line))) =
    told_more (SaysIllegal command status) source.told source'.told bytes consumed (λ b longer line illegal. absurd (not_longer command bytes b line count longer illegal))
judges_by command source source' ran status wanted output same (inr (inr (untouched, own))) =
    told_any (SaysIllegal command status) source.told (λ bytes line illegal. absurd (cc (ap has_input illegal.0, (own_is command ran wanted output own).3)))

-- an output that is written whole says whether its bytes print a history that isn't legal
judges_whole : (command : Command) (source source' : Ends) (ran : Ran) (status wanted : Status) (output : List ℕ) → status ≡ wanted
    → HasRead command source source' ran wanted output → IfSome source.told (SaysIllegal command status)
judges_whole command source source' ran status wanted output same has = judges_by command source source' ran status wanted output same has.read

-- a status of an output is neither that of other words nor one of a fault or of no memory
no_fault : (status wanted : Status) → status ≡ wanted → IsMade wanted
    → (status ≡ OtherWords → ⊥) × (status ≡ ReadFault → ⊥) × (status ≡ WriteFault → ⊥) × (status ≡ NoMemory → ⊥)
no_fault status wanted same (inl done) = (λ is. cc (is, same, done), λ is. cc (is, same, done), λ is. cc (is, same, done), λ is. cc (is, same, done))
no_fault status wanted same (inr (inl waits)) = (λ is. cc (is, same, waits), λ is. cc (is, same, waits), λ is. cc (is, same, waits), λ is. cc (is, same, waits))
no_fault status wanted same (inr (inr (inl illegal))) = (λ is. cc (is, same, illegal), λ is. cc (is, same, illegal), λ is. cc (is, same, illegal), λ is. cc (is, same, illegal))
no_fault status wanted same (inr (inr (inr two))) = (λ is. cc (is, same, two), λ is. cc (is, same, two), λ is. cc (is, same, two), λ is. cc (is, same, two))

-- a command without an input has no output for bytes
no_output : (command : Command) (bytes : List ℕ) (ran : Ran) (status : Status) (output : List ℕ) → has_input command ≡ false → IsOutput command bytes ran status output → ⊥
no_output (Play shows) bytes ran status output without is = cc without
no_output (Run trace) bytes ran status output without is = cc without
no_output (Multi trace) bytes ran status output without is = cc without
no_output Check bytes ran status output without is = cc without
no_output Compile bytes ran status output without is = cc without
no_output Upgrade bytes ran status output without is = cc without
no_output Explain bytes ran status output without is = cc without
no_output (Explore most) bytes ran status output without is = cc without
no_output Verify bytes ran status output without is = cc without
no_output (Load service number) bytes ran status output without is = is

read_nothing : (command : Command) (source source' : Ends) (ran : Ran) (status : Status) (output : List ℕ) → has_input command ≡ false
    → Read command source source' ran status output → (source' ≡ source)
read_nothing command source source' ran status output without (inl (bytes, short, consumed, at_end, is)) = absurd (no_output command bytes ran status output without is)
read_nothing command source source' ran status output without (inr (inl (bytes, has, count, consumed, none, is_two, line))) = absurd (cc (without, has))
read_nothing command source source' ran status output without (inr (inr (same, own))) = same

-- nothing was read where the command that is said has no input
untouched : (said : Command → Type 0) (source source' : Ends) (ran : Ran) (command c : Command) (wanted : Status) (output : List ℕ) → IsOne said → said command
    → HasRead command source source' ran wanted output → said c → has_input c ≡ false → (source' ≡ source)
untouched said source source' ran command c wanted output one is_said has said_c without =
    read_nothing command source source' ran wanted output (ap has_input (one command c is_said said_c) ∙ without) has.read

-- a count that is as it was didn't rise
no_rise : {P : Type 0} (old new : ℕ) → new ≡ old → old < new → P
no_rise old new same rose = absurd (omega (arith, same, rose))

answered : (said : Command → Type 0) (source source' sink sink' : Ends) (status : Status) (ran : Ran) (command : Command) (wanted : Status) (output : List ℕ)
    → IsOne said → said command → HasRead command source source' ran wanted output → IsWritten sink sink' output wanted status
    → source'.faults ≡ source.faults → sink.faults ≤ sink'.faults → IsMade wanted → IsAnswer said source source' sink sink' status ran
answered said source source' sink sink' status ran command wanted output one is_said has (inl (same, appended, kept)) steady writes so =
    let no = no_fault status wanted same so in
    let has_as : (s : Status) → status ≡ s → HasRead command source source' ran s output = λ s is. subst (λ w. HasRead command source source' ran w output) (sym same ∙ is) has in record {
      words = λ is. absurd (no.0 is);
      other_words = λ other. absurd (other command is_said);
      answered = λ is. (command, is_said, output, has_as status refl, appended);
      refused = λ is. let no_run = told_refused command source source' ran wanted output (sym same ∙ is) has in (no_run.0, (command, is_said, output, has_as Refused is, appended, no_run.1));
      refuses = λ c said_c. subst (λ v. IfSome source.told (SaysRefused v status)) (one command c is_said said_c) (says_whole command source source' ran status wanted output same so has);
      judges = λ c said_c. subst (λ v. IfSome source.told (SaysIllegal v status)) (one command c is_said said_c) (judges_whole command source source' ran status wanted output same has);
      read_fault = λ is. absurd (no.1 is);
      only_read_fault = λ rose. no_rise source.faults source'.faults steady rose;
      no_read = λ c said_c without. (untouched said source source' ran command c wanted output one is_said has said_c without, no.1);
      write_fault = λ is. absurd (no.2 is);
      only_write_fault = λ rose. no_rise sink.faults sink'.faults kept rose;
      no_memory = λ is. absurd (no.3 is);
      played = λ is c said_c play. good_run command source source' ran wanted output (λ two. elim is [ inl done ↦ cc (same, two, done) | inr waits ↦ cc (same, two, waits) ]) (ap is_play (one command c is_said said_c) ∙ play) has;
      only_played = λ some. (command, is_said, run_play command source source' ran wanted output has some);
      reads = omega (arith, steady);
      writes = writes;
    }
answered said source source' sink sink' status ran command wanted output one is_said has (inr cut) steady writes so = record {
  words = λ is. absurd (cc (is, cut.0));
  other_words = λ other. absurd (other command is_said);
  answered = λ is. absurd (elim is [ inl done ↦ cc (done, cut.0) | inr more ↦ elim more [ inl waits ↦ cc (waits, cut.0) | inr illegal ↦ cc (illegal, cut.0) ] ]);
  refused = λ is. absurd (cc (is, cut.0));
  refuses = λ c said_c. says_refused c source.told status (inr (inr (inl cut.0)));
  judges = λ c said_c. says_illegal c source.told status (inr (inr (inl cut.0)));
  read_fault = λ is. absurd (cc (is, cut.0));
  only_read_fault = λ rose. no_rise source.faults source'.faults steady rose;
  no_read = λ c said_c without. (untouched said source source' ran command c wanted output one is_said has said_c without, λ is. cc (is, cut.0));
  write_fault = λ is. (cut.1, (command, is_said, output, wanted, cut.2.0, has, cut.2.1, cut.2.2));
  only_write_fault = λ rose. cut.0;
  no_memory = λ is. absurd (cc (is, cut.0));
  played = λ is c said_c play. absurd (elim is [ inl done ↦ cc (done, cut.0) | inr waits ↦ cc (waits, cut.0) ]);
  only_played = λ some. (command, is_said, run_play command source source' ran wanted output has some);
  reads = omega (arith, steady);
  writes = writes;
}

-- the words are no command's
pub other_answer : (said : Command → Type 0) (source sink : Ends) (status : Status) (ran : Ran) → ((command : Command) → said command → ⊥)
    → status ≡ OtherWords → ran ≡ Nothing → IsAnswer said source source sink sink status ran
other_answer said source sink status ran nothing other none = record {
  words = λ is. (nothing, refl, refl, none);
  other_words = λ unsaid. other;
  answered = λ is. absurd (elim is [ inl done ↦ cc (done, other) | inr more ↦ elim more [ inl waits ↦ cc (waits, other) | inr illegal ↦ cc (illegal, other) ] ]);
  refused = λ is. absurd (cc (is, other));
  refuses = λ c said_c. absurd (nothing c said_c);
  judges = λ c said_c. absurd (nothing c said_c);
  read_fault = λ is. absurd (cc (is, other));
  only_read_fault = λ rose. no_rise source.faults source.faults refl rose;
  no_read = λ c said_c without. absurd (nothing c said_c);
  write_fault = λ is. absurd (cc (is, other));
  only_write_fault = λ rose. no_rise sink.faults sink.faults refl rose;
  no_memory = λ is. absurd (cc (is, other));
  played = λ is c said_c play. absurd (elim is [ inl done ↦ cc (done, other) | inr waits ↦ cc (waits, other) ]);
  only_played = λ some. absurd (no_run ran none some);
  reads = omega arith;
  writes = omega arith;
}

-- a read failed
pub read_failed : (said : Command → Type 0) (source source' sink : Ends) (status : Status) (ran : Ran) (command : Command) → IsOne said → said command → has_input command ≡ true
    → status ≡ ReadFault → ran ≡ Nothing → Rose source.faults source'.faults → source.faults ≤ source'.faults → IsAnswer said source source' sink sink status ran
read_failed said source source' sink status ran command one is_said has failed none rose reads = record {
  words = λ is. absurd (cc (is, failed));
  other_words = λ other. absurd (other command is_said);
  answered = λ is. absurd (elim is [ inl done ↦ cc (done, failed) | inr more ↦ elim more [ inl waits ↦ cc (waits, failed) | inr illegal ↦ cc (illegal, failed) ] ]);
  refused = λ is. absurd (cc (is, failed));
  refuses = λ c said_c. says_refused c source.told status (inr (inl failed));
  judges = λ c said_c. says_illegal c source.told status (inr (inl failed));
  read_fault = λ is. (none, rose, refl);
  only_read_fault = λ more. failed;
  no_read = λ c said_c without. absurd (cc (ap has_input (one command c is_said said_c), without, has));
  write_fault = λ is. absurd (cc (is, failed));
  only_write_fault = λ more. no_rise sink.faults sink.faults refl more;
  no_memory = λ is. absurd (cc (is, failed));
  played = λ is c said_c play. absurd (elim is [ inl done ↦ cc (done, failed) | inr waits ↦ cc (waits, failed) ]);
  only_played = λ some. absurd (no_run ran none some);
  reads = reads;
  writes = omega arith;
}

-- there was no memory
pub without_memory : (said : Command → Type 0) (source source' sink sink' : Ends) (status : Status) (ran : Ran) (command : Command) → IsOne said → said command
    → (has_input command ≡ false → (source' ≡ source)) → (status ≡ NoMemory) × (ran ≡ Nothing) × (sink' ≡ sink) → source'.faults ≡ source.faults → IsAnswer said source source' sink sink' status ran
without_memory said source source' sink sink' status ran command one is_said unread without steady = record {
  words = λ is. absurd (cc (is, without.0));
  other_words = λ other. absurd (other command is_said);
  answered = λ is. absurd (elim is [ inl done ↦ cc (done, without.0) | inr more ↦ elim more [ inl waits ↦ cc (waits, without.0) | inr illegal ↦ cc (illegal, without.0) ] ]);
  refused = λ is. absurd (cc (is, without.0));
  refuses = λ c said_c. says_refused c source.told status (inr (inr (inr without.0)));
  judges = λ c said_c. says_illegal c source.told status (inr (inr (inr without.0)));
  read_fault = λ is. absurd (cc (is, without.0));
  only_read_fault = λ rose. no_rise source.faults source'.faults steady rose;
  no_read = λ c said_c lacks. (unread (ap has_input (one command c is_said said_c) ∙ lacks), λ is. cc (is, without.0));
  write_fault = λ is. absurd (cc (is, without.0));
  only_write_fault = λ rose. no_rise sink.faults sink'.faults (ap (λ (e : Ends). e.faults) without.2) rose;
  no_memory = λ is. (without.1, without.2);
  played = λ is c said_c play. absurd (elim is [ inl done ↦ cc (done, without.0) | inr waits ↦ cc (waits, without.0) ]);
  only_played = λ some. absurd (no_run ran without.1 some);
  reads = omega (arith, steady);
  writes = let still = ap (λ (e : Ends). e.faults) without.2 in omega (arith, still);
}

-- an input that was read, and what was done with it, make the answer
carried_out : (said : Command → Type 0) (source source' sink sink' : Ends) (status : Status) (ran : Ran) (command : Command) (bytes : List ℕ) → IsOne said → said command → has_input command ≡ true
    → (length bytes ≤ most_bytes command) × Consumes source.told source'.told bytes × IsAtEnd source'.told → IsDelivered (IsOutput command bytes) sink sink' status ran
    → source'.faults ≡ source.faults → sink.faults ≤ sink'.faults → IsAnswer said source source' sink sink' status ran
carried_out said source source' sink sink' status ran command bytes one is_said has_one (short, consumed, at_end) (inl (output, wanted, is, written)) steady writes =
    let has : HasRead command source source' ran wanted output = record { read = inl (bytes, short, consumed, at_end, is) } in
    answered said source source' sink sink' status ran command wanted output one is_said has written steady writes (status_is command source source' ran wanted output has)
carried_out said source source' sink sink' status ran command bytes one is_said has_one taken (inr without) steady writes =
    without_memory said source source' sink sink' status ran command one is_said (λ lacks. absurd (cc (lacks, has_one))) without steady

-- an input that was read, and what was done with it, make the answer, where the bytes and the limit are shown under other names
pub whole_answer : (said : Command → Type 0) (source source' sink sink' : Ends) (status : Status) (ran : Ran) (command : Command) (bytes shown : List ℕ) (limit : ℕ)
    → shown ≡ bytes → limit ≡ most_bytes command → IsOne said → said command → has_input command ≡ true
    → (length bytes ≤ limit) × Consumes source.told source'.told bytes × IsAtEnd source'.told → IsDelivered (IsOutput command shown) sink sink' status ran
    → source'.faults ≡ source.faults → sink.faults ≤ sink'.faults → IsAnswer said source source' sink sink' status ran
whole_answer said source source' sink sink' status ran command bytes shown limit same most one is_said has_one (short, consumed, at_end) done =
    carried_out said source source' sink sink' status ran command bytes one is_said has_one (subst (λ n. length bytes ≤ n) most short, consumed, at_end)
    (subst (λ b. IsDelivered (IsOutput command b) sink sink' status ran) same done)

-- one byte more was read than an input may have, and that is refused
pub too_long_answer : (said : Command → Type 0) (source source' sink sink' : Ends) (status : Status) (ran : Ran) (command : Command) (line : List ℕ) (limit : ℕ)
    → line ≡ too_long_output command → limit ≡ most_bytes command → IsOne said → said command → has_input command ≡ true
    → ConsumesJust (limit + 1) source.told source'.told → ran ≡ Nothing → IsWritten sink sink' line Refused status
    → source'.faults ≡ source.faults → sink.faults ≤ sink'.faults → IsAnswer said source source' sink sink' status ran
too_long_answer said source source' sink sink' status ran command line limit same most one is_said has_one (bytes, count, consumed) none written steady writes =
    answered said source source' sink sink' status ran command Refused line one is_said
    (record { read = inr (inl (bytes, has_one, count ∙ ap (λ n. n + 1) most, consumed, none, refl, same)) }) written steady writes (inr (inr (inr refl)))

-- what a command without an input made, and what was written of it, make the answer; nothing was read
pub own_answer : (said : Command → Type 0) (source sink sink' : Ends) (status : Status) (ran : Ran) (command : Command) → IsOne said → said command
    → IsDelivered (IsOwnOutput command) sink sink' status ran → sink.faults ≤ sink'.faults → IsAnswer said source source sink sink' status ran
own_answer said source sink sink' status ran command one is_said (inl (output, wanted, own, written)) writes =
    answered said source source sink sink' status ran command wanted output one is_said
    (record { read = inr (inr (refl, own)) }) written refl writes (own_is command ran wanted output own).0
own_answer said source sink sink' status ran command one is_said (inr without) writes =
    without_memory said source source sink sink' status ran command one is_said (λ lacks. refl) without refl

-- ---- other words for a command

-- the answer for a command is that for the words that say it
pub said_answer : (said : Command → Type 0) (source source' sink sink' : Ends) (status : Status) (ran : Ran) (command : Command) → IsOne said → said command
    → IsAnswer (λ c. c ≡ command) source source' sink sink' status ran → IsAnswer said source source' sink sink' status ran
said_answer said source source' sink sink' status ran command one is_said a = record {
  words = λ is. absurd ((a.words is).0 command refl);
  other_words = λ other. absurd (other command is_said);
  answered = λ is. let d = a.answered is in (d.0, subst said (sym d.1) is_said, d.2, d.3, d.4);
  refused = λ is. let d = a.refused is in (d.0, (d.1.0, subst said (sym d.1.1) is_said, d.1.2, d.1.3, d.1.4, d.1.5));
  refuses = λ c said_c. a.refuses c (one c command said_c is_said);
  judges = λ c said_c. a.judges c (one c command said_c is_said);
  read_fault = a.read_fault;
  only_read_fault = a.only_read_fault;
  no_read = λ c said_c without. a.no_read c (one c command said_c is_said) without;
  write_fault = λ is. let d = a.write_fault is in (d.0, (d.1.0, subst said (sym d.1.1) is_said, d.1.2, d.1.3, d.1.4, d.1.5, d.1.6, d.1.7));
  only_write_fault = a.only_write_fault;
  no_memory = a.no_memory;
  played = λ is c said_c play. a.played is c (one c command said_c is_said) play;
  only_played = λ some. let d = a.only_played some in (d.0, subst said (sym d.1) is_said, d.2);
  reads = a.reads;
  writes = a.writes;
}

-- at most one command is a given one
pub one_given : (command : Command) → IsOne (λ c. c ≡ command)
one_given command a b is isn't = is ∙ sym isn't

-- what was read for a command was read for the words that say it
pub said_reads : (said : Command → Type 0) (told told' : Option (List ℕ)) (command : Command) → IsOne said → said command
    → ReadsInput (λ c. c ≡ command) told told' → ReadsInput said told told'
said_reads said told told' command one is_said (inl (c, is, has, consumed)) = inl (c, subst said (sym is) is_said, has, consumed)
said_reads said told told' command one is_said (inr (without, same)) = inr (λ c said_c. without c (one c command said_c is_said), same)

-- each command but a load has an input
pub with_input : (c : Command) → ((shows : Shows) × (c ≡ Play shows)) ⊎ ((c ≡ Check) ⊎ ((c ≡ Compile) ⊎ ((c ≡ Upgrade) ⊎ ((c ≡ Explain) ⊎ ((c ≡ Verify) ⊎ ((trace : Bool) × (c ≡ Multi trace))))))) → has_input c ≡ true
with_input c (inl (shows, is)) = ap has_input is
with_input c (inr (inl is)) = ap has_input is
with_input c (inr (inr (inl is))) = ap has_input is
with_input c (inr (inr (inr (inl is)))) = ap has_input is
with_input c (inr (inr (inr (inr (inl is))))) = ap has_input is
with_input c (inr (inr (inr (inr (inr (inl is)))))) = ap has_input is
with_input c (inr (inr (inr (inr (inr (inr (trace, is))))))) = ap has_input is

-- those commands are done in one thread, and so is a load
pub in_one_thread : (c : Command) → ((shows : Shows) × (c ≡ Play shows)) ⊎ ((c ≡ Check) ⊎ ((c ≡ Compile) ⊎ ((c ≡ Upgrade) ⊎ ((c ≡ Explain) ⊎ ((c ≡ Verify) ⊎ (((trace : Bool) × (c ≡ Multi trace)) ⊎ ((service : ServiceKind) × (number : ℕ) × (c ≡ Load service number)))))))) → is_in_threads c ≡ false
in_one_thread c (inl (shows, is)) = ap is_in_threads is
in_one_thread c (inr (inl is)) = ap is_in_threads is
in_one_thread c (inr (inr (inl is))) = ap is_in_threads is
in_one_thread c (inr (inr (inr (inl is)))) = ap is_in_threads is
in_one_thread c (inr (inr (inr (inr (inl is))))) = ap is_in_threads is
in_one_thread c (inr (inr (inr (inr (inr (inl is)))))) = ap is_in_threads is
in_one_thread c (inr (inr (inr (inr (inr (inr (inl (trace, is)))))))) = ap is_in_threads is
in_one_thread c (inr (inr (inr (inr (inr (inr (inr (service, number, is)))))))) = ap is_in_threads is

-- ---- deliveries

-- an end by its parts
abbrev ends_of : Option (List ℕ) → ℕ → Ends
ends_of told faults = record { told = told; faults = faults }

-- ends with the same parts are the same
same_ends : (e f : Ends) → e.told ≡ f.told → e.faults ≡ f.faults → e ≡ f
same_ends e f told faults = ap (λ t. ends_of t e.faults) told ∙ ap (ends_of f.told) faults

-- what a command made is one of these, and was delivered; or nothing was made, and nothing is written
pub delivered : {E : Type 0} (IsOne : Ran → Status → List ℕ → Type 0) (sink sink' : Ends) (status : Status) (ran : Ran) (made : Result Output E)
    → IfOk made (λ o. IsOne o.ran o.status o.text) → IfOk made (λ o. (ran ≡ o.ran) × IsWritten sink sink' o.text o.status status)
    → OnErr made ((status ≡ NoMemory) × (ran ≡ Nothing) × (sink'.told ≡ sink.told) × (sink'.faults ≡ sink.faults)) → IsDelivered IsOne sink sink' status ran
delivered IsOne sink sink' status ran (Ok o) one written unmade = inl (o.text, o.status, subst (λ e. IsOne e o.status o.text) (sym written.0) one, written.1)
delivered IsOne sink sink' status ran (Err e) one written unmade = inr (unmade.0, unmade.1, same_ends sink' sink unmade.2 unmade.3)

-- what runs with other stops found was delivered; or nothing was made, and nothing is written
pub found_output : {E : Type 0} (bytes : List ℕ) (most : ℕ) (sink sink' : Ends) (status : Status) (ran : Ran) (made : Result Output E)
    → IfOk made (λ o. o.ran ≡ Nothing) → IfOk made (λ o. IsExploration bytes most o.status o.text) → IfOk made (λ o. (ran ≡ o.ran) × IsWritten sink sink' o.text o.status status)
    → OnErr made ((status ≡ NoMemory) × (ran ≡ Nothing) × (sink'.told ≡ sink.told) × (sink'.faults ≡ sink.faults))
    → IsDelivered (IsOutput (Explore most) bytes) sink sink' status ran
found_output bytes most sink sink' status ran (Ok o) none found written unmade = inl (o.text, o.status, (written.0 ∙ none, found), written.1)
found_output bytes most sink sink' status ran (Err e) none found written unmade = inr (unmade.0, unmade.1, same_ends sink' sink unmade.2 unmade.3)
