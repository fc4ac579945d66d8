-- What the program answers: by which words, with which status, and why.
use Rattle.std.specs.Prelude.{ℕ, ◌≡◌, ◌+◌, ◌*◌, ◌<◌, ◌≤◌, ◌⊎◌, Bool, true, false, if◌then◌else◌, List, [], ◌∷◌, ◌++◌, None, Some, IfSome, length, map, take, codes, string_bytes}
use Rattle.std.specs.declared.option.Option.{Option}
use Rattle.std.specs.Io.KnownBytes.{Appends, Consumes, IsAtEnd}
use Rattle.std.specs.declared.string.String.{String}
use Rattle.std.specs.declared.alloc.Global.{Global}
use Rattle.std.specs.List.{list_any}
use Rattle.sg_multi.specs.sg_facts.Facts.{Facts}
use Rattle.sg_edge.specs.Edge.{Rose, ConsumesAtMost}
use Rattle.sg_judge.specs.AnyInputs.{any_judging}
use Rattle.sg_judge.specs.OwnExplained.{IsExplainedAny}
use Rattle.sg_judge.specs.sg_explain.Words.{too_long_words}
use Rattle.sg_explore.specs.Explored.{IsExplored}
use Rattle.sg_explore.specs.Tried.{most_paired}
use Rattle.sg_explore.specs.declared.exploring.Explored.{Explored}
use Rattle.sg_verify.specs.sg_report.sg_hist.declared.ended.End.{End}
use Rattle.sg_verify.specs.sg_report.sg_hist.declared.ended.Ended.{Ended}
use Rattle.sg_judge.specs.sg_input.declared.read.Read.{Read}
use Rattle.sg_judge.specs.sg_input.declared.read.Read.TheVariants.{Ready as ready, Refused as refused}
use Rattle.sg_judge.specs.Said.{IsChecked, IsRenewed, IsTabled}
use Rattle.sg_judge.specs.sg_input.Inputs.{IsInputOf, IsReady, IsRunInputOf, IsRunReady, Judging, most_interface, most_run, most_script}
use Rattle.sg_judge.specs.sg_input.MultiInputs.{IsMultiInputOf}
use Rattle.sg_multi.specs.Played.{MultiCame}
use Rattle.sg_multi.specs.declared.ended.MultiEnd.{MultiEnd}
use Rattle.sg_multi.specs.declared.ended.MultiEnd.TheVariants.{Done as MultiDone, Blocked as MultiBlocked}
use Rattle.sg_judge.specs.sg_input.Lines.{too_long_line}
use Rattle.sg_judge.specs.sg_input.sg_lex.Table.{IsNumber}
use Rattle.sg_load.specs.Services.{facts_by, played_services}
use Rattle.sg_load.specs.sg_plain.Answering.{Answering}
use Rattle.sg_verify.specs.sg_report.sg_hist.Recovered.{is_blocked}
use Rattle.sg_multi.specs.sg_facts.sg_base.Counts.{last_count}
use Rattle.sg_judge.specs.sg_input.sg_lex.Numbers.{value_of_digits}
use Rattle.sg_judge.specs.sg_input.sg_script.declared.script.Script.{Script}
use Rattle.sg_multi.specs.sg_facts.Interface.{Declared}
use Rattle.sg_multi.specs.sg_facts.declared.entry.Entry.{Entry}
use Rattle.sg_verify.specs.Lines.{verdict_line_of}
use Rattle.sg_verify.specs.Verdicts.{IsVerdictOf}
use Rattle.sg_verify.specs.declared.verdict.Verdict.{Verdict}
use Rattle.sg_verify.specs.declared.verdict.Verdict.TheVariants.{Legal}
use Rattle.sg_top.specs.Headline.{IsPlayOfMembers, IsRunOfLoad, IsRunOfInput, IsServedBy}
use Rattle.sg_top.specs.declared.command.Command.{Command}
use Rattle.sg_top.specs.declared.command.Command.TheVariants.{Play, Run, Check, Compile, Upgrade, Explain, Explore, Verify, Multi, Load}
use Rattle.sg_top.specs.declared.output.Ran.{Ran}
use Rattle.sg_top.specs.declared.output.Ran.TheVariants.{Nothing, One, Several}
use Rattle.sg_top.specs.declared.command.Shows.{Shows}
use Rattle.sg_top.specs.declared.command.Shows.TheVariants.{Report, Trace, Costs, Picture, Columns}
use Rattle.sg_top.specs.declared.status.Status.{Status}
use Rattle.sg_top.specs.declared.status.Status.TheVariants.{Done, Waits, OtherWords, Refused, ReadFault, WriteFault, NoMemory, Illegal}

-- ---- words

-- the words say a command, by their texts: those of a load end in digits, at least one, that stand for a number of 64 bits
abbrev pub IsCommand : List (String Global) → Command → Type 0
IsCommand words (Play Report) = map string_bytes words ≡ codes "sim" ∷ []
IsCommand words (Play Trace) = map string_bytes words ≡ codes "sim" ∷ codes "trace" ∷ []
IsCommand words (Play Costs) = map string_bytes words ≡ codes "cost" ∷ []
IsCommand words (Play Picture) = map string_bytes words ≡ codes "draw" ∷ []
IsCommand words (Play Columns) = map string_bytes words ≡ codes "draw" ∷ codes "text" ∷ []
IsCommand words (Run false) = map string_bytes words ≡ codes "run" ∷ []
IsCommand words (Run true) = map string_bytes words ≡ codes "run" ∷ codes "trace" ∷ []
IsCommand words Check = map string_bytes words ≡ codes "check" ∷ []
IsCommand words Compile = map string_bytes words ≡ codes "compile" ∷ []
IsCommand words Upgrade = map string_bytes words ≡ codes "upgrade" ∷ []
IsCommand words Explain = map string_bytes words ≡ codes "explain" ∷ []
IsCommand words (Explore most) =
    ((most ≡ 0) × (map string_bytes words ≡ codes "explore" ∷ []))
    ⊎ ((digits : List ℕ) × (IsNumber digits × (value_of_digits digits ≡ most) × (most ≤ most_paired)) × (map string_bytes words ≡ codes "explore" ∷ digits ∷ []))
IsCommand words Verify = map string_bytes words ≡ codes "verify" ∷ []
IsCommand words (Multi false) = map string_bytes words ≡ codes "multi" ∷ []
IsCommand words (Multi true) = map string_bytes words ≡ codes "multi" ∷ codes "trace" ∷ []
IsCommand words (Load service number) = (digits : List ℕ) × (IsNumber digits × (value_of_digits digits ≡ number) × (number ≤ last_count))
    × (map string_bytes words ≡ codes "load" ∷ (facts_by service).name ∷ digits ∷ [])

-- whether a command is a play
abbrev pub is_play : Command → Bool
is_play command = elim command [ Play shows ↦ true | Run trace ↦ true | Multi trace ↦ true | Load service number ↦ true | _ ↦ false ]

-- whether a command takes threads: a play whose clients have threads of their own, or runs that are made on all processors
abbrev pub is_in_threads : Command → Bool
is_in_threads command = elim command [ Run trace ↦ true | Explore most ↦ true | _ ↦ false ]

-- the words say a command that one thread does
abbrev pub IsSerialCommand : List (String Global) → Command → Type 0
IsSerialCommand words command = IsCommand words command × (is_in_threads command ≡ false)

-- whether a command has an input
abbrev pub has_input : Command → Bool
has_input command = elim command [ Load service number ↦ false | _ ↦ true ]

-- ---- limits

-- the greatest number of bytes of a command's input
abbrev pub most_bytes : Command → ℕ
most_bytes command = elim command [
  | Play shows ↦ most_interface + 4 + most_script
  | Run trace ↦ most_interface + 4 + most_script
  | Explain ↦ most_interface + 4 + most_script
  | Explore most ↦ most_interface + 4 + most_script
  | Verify ↦ most_interface + 4 + most_run
  | Multi trace ↦ 7 * most_interface + most_script
  | Load service number ↦ 0
  | _ ↦ most_interface
]

-- what is written of an input that has more
abbrev pub too_long_output : Command → List ℕ
too_long_output command = elim command [ Explain ↦ too_long_line ++ too_long_words | _ ↦ too_long_line ]

-- ---- outputs

-- the services whose interfaces may be accepted
abbrev pub services : List Facts
services = map (λ s. s.facts) played_services

-- how the text of an interface is judged: against these, or by itself
abbrev pub judging : Judging
judging = any_judging services

-- the status of a play that came to its end: whether some client waits there
abbrev pub ended_status : List (ℕ × End) → Status
ended_status ends = if list_any (λ e. is_blocked e.1) ends then Waits else Done

-- an input is an interface of one of the services, or of the one that it describes, and a history that a run of the service printed, and this is
-- said of the history, with its status and line
pub record IsJudgedAs (bytes : List ℕ) (status : Status) (output : List ℕ) : Type 0 where
  pub i : Declared
  pub history : List Entry
  pub ready : IsRunReady judging bytes i history
  pub service : Answering
  pub is_served : IsServedBy played_services ready.interface service
  pub its : service.facts ≡ i.facts
  pub said : Verdict
  pub is : IsVerdictOf i service.ask history said
  pub answered : status ≡ (elim said as (λ v. Status) [ Legal ↦ Done | _ ↦ Illegal ])
  pub line : output ≡ verdict_line_of i.facts history said

-- an input is an interface of one of the services, or of the one that it describes, and a script for it, and this was found by runs of the script
-- with other stops: its text, and the status, which says whether some client waits at the end of some run
pub record IsExploredAs (bytes : List ℕ) (most : ℕ) (status : Status) (output : List ℕ) : Type 0 where
  pub i : Declared
  pub script : Script
  pub ready : IsReady judging bytes i script
  pub service : Answering
  pub is_served : IsServedBy played_services ready.interface service
  pub its : service.facts ≡ i.facts
  pub found : Explored
  pub runs : IsExplored i service script most found
  pub answered : status ≡ (if found.waits then Waits else Done)
  pub text : output ≡ found.text

-- the status of a play over several services that came to its end: whether some client waits there
abbrev pub multi_status : List (ℕ × MultiEnd) → Status
multi_status ends = if list_any (λ e. elim e.1 [ MultiDone ↦ false | MultiBlocked member call ↦ true ]) ends then Waits else Done

-- what is printed of a run with its trace, or without
abbrev pub report_shown : Bool → Shows
report_shown trace = if trace then Trace else Report

-- the output of a play, and its status: what is printed of the run, or the line of an input that is refused
abbrev pub IsPlayOutput : List ℕ → Bool → Shows → Ran → Status → List ℕ → Type 0
IsPlayOutput bytes in_threads shows Nothing status output = (status ≡ Refused) × IsInputOf judging bytes (refused output)
IsPlayOutput bytes in_threads shows (One ended) status output = (status ≡ ended_status ended.ends) × IsRunOfInput played_services bytes in_threads shows ended output
IsPlayOutput bytes in_threads shows (Several came) status output = ⊥

-- the output of a play over several services, and its status: what is printed of it, or the line of an input that is refused
abbrev pub IsMultiOutput : List ℕ → Bool → Ran → Status → List ℕ → Type 0
IsMultiOutput bytes with_trace Nothing status output = (status ≡ Refused) × IsMultiInputOf judging bytes (refused output)
IsMultiOutput bytes with_trace (One ended) status output = ⊥
IsMultiOutput bytes with_trace (Several came) status output = (status ≡ multi_status came.ends) × IsPlayOfMembers played_services bytes with_trace came output

-- the output of a command that judges a text, and its status: of a text that is accepted, or of one that is refused
abbrev pub IsOfText : (Read (List ℕ) → Type 0) → Status → List ℕ → Type 0
IsOfText Is status output = ((status ≡ Done) × Is (ready output)) ⊎ ((status ≡ Refused) × Is (refused output))

-- the output of a command for an input, its status, and the run where there was one, which only a play has: what is printed of the run; the
-- line of a text that is accepted, its tables, or its text in version 2; what is explained of an input; what is said of a history; or the line
-- of what is refused
abbrev pub IsOutput : Command → List ℕ → Ran → Status → List ℕ → Type 0
IsOutput (Play shows) bytes ran status output = IsPlayOutput bytes false shows ran status output
IsOutput (Run trace) bytes ran status output = IsPlayOutput bytes true (report_shown trace) ran status output
IsOutput (Multi trace) bytes ran status output = IsMultiOutput bytes trace ran status output
IsOutput Check bytes ran status output = (ran ≡ Nothing) × IsOfText (IsChecked services bytes) status output
IsOutput Compile bytes ran status output = (ran ≡ Nothing) × IsOfText (IsTabled services bytes) status output
IsOutput Upgrade bytes ran status output = (ran ≡ Nothing) × IsOfText (IsRenewed services bytes) status output
IsOutput Explain bytes ran status output = (ran ≡ Nothing) × IsOfText (IsExplainedAny services bytes) status output
IsOutput (Explore most) bytes ran status output =
    (ran ≡ Nothing) × (IsExploredAs bytes most status output ⊎ ((status ≡ Refused) × IsInputOf judging bytes (refused output)))
IsOutput Verify bytes ran status output =
    (ran ≡ Nothing) × (IsJudgedAs bytes status output ⊎ ((status ≡ Refused) × IsRunInputOf judging bytes (refused output)))
IsOutput (Load service number) bytes ran status output = ⊥

-- the output of a command without an input, its status and its run
abbrev pub IsOwnOutput : Command → Ran → Status → List ℕ → Type 0
IsOwnOutput (Load service number) (One ended) status output = (status ≡ ended_status ended.ends) × IsRunOfLoad service number ended output
IsOwnOutput command ran status output = ⊥

-- the output of a command that refuses these bytes: the line of an input or text that is refused, or what is explained of one; or what is
-- written of more bytes than an input may have
abbrev pub IsRefusal : Command → List ℕ → List ℕ → Type 0
IsRefusal command bytes output =
    ((length bytes ≤ most_bytes command) × (elim command as (λ c. Type 0) [
      | Play shows ↦ IsInputOf judging bytes (refused output)
      | Run trace ↦ IsInputOf judging bytes (refused output)
      | Compile ↦ IsTabled services bytes (refused output)
      | Upgrade ↦ IsRenewed services bytes (refused output)
      | Explain ↦ IsExplainedAny services bytes (refused output)
      | Explore most ↦ IsInputOf judging bytes (refused output)
      | Verify ↦ IsRunInputOf judging bytes (refused output)
      | Multi trace ↦ IsMultiInputOf judging bytes (refused output)
      | Load service number ↦ ⊥
      | _ ↦ IsChecked services bytes (refused output)
    ]))
    ⊎ ((has_input command ≡ true) × (most_bytes command < length bytes) × (output ≡ too_long_output command))

-- ---- answers

-- the run of a script over one service, where that was run
abbrev pub one_in : Ran → Option Ended
one_in ran = elim ran [ One ended ↦ Some ended | _ ↦ None ]

-- what a script over several services came to, where that was run
abbrev pub multi_in : Ran → Option MultiCame
multi_in ran = elim ran [ Several came ↦ Some came | _ ↦ None ]

-- whether something was run: a script over one service, or over several
abbrev pub has_run : Ran → Bool
has_run ran = elim ran [ Nothing ↦ false | _ ↦ true ]

-- the bytes of a source, as far as they are told, and how often it failed; those of a sink likewise
pub record Ends : Type 0 where
  pub told : Option (List ℕ)
  pub faults : ℕ

-- an input was read to its end, and an output for it is to be written with this status; or one byte more than an input may
-- have was read, and the input is refused; or the command has no input, nothing was read, and its output is to be written
pub record HasRead (command : Command) (before after : Ends) (ran : Ran) (status : Status) (output : List ℕ) : Type 0 where
  pub read : ((bytes : List ℕ) × (length bytes ≤ most_bytes command) × Consumes before.told after.told bytes × IsAtEnd after.told × IsOutput command bytes ran status output)
      ⊎ ((bytes : List ℕ) × (has_input command ≡ true) × (length bytes ≡ most_bytes command + 1) × Consumes before.told after.told bytes × (ran ≡ Nothing) × (status ≡ Refused) × (output ≡ too_long_output command))
      ⊎ ((after ≡ before) × IsOwnOutput command ran status output)

-- what an answer says, by its status, where the words say this command
pub record IsAnswer (said : Command → Type 0) (source source' sink sink' : Ends) (status : Status) (ran : Ran) : Type 0 where
  -- other words: they are no command's, and nothing is read or written
  pub words : status ≡ OtherWords → ((command : Command) → said command → ⊥) × (source' ≡ source) × (sink' ≡ sink) × (ran ≡ Nothing)
  pub other_words : ((command : Command) → said command → ⊥) → status ≡ OtherWords
  -- done: the input is played and no client waits, or it is accepted, compiled or upgraded, or nothing is wrong with it, or its history is legal; waits: it is played,
  -- and some client waits at the end; illegal: its history isn't legal. Its report, line, tables or text are written
  pub answered : (status ≡ Done) ⊎ (status ≡ Waits) ⊎ (status ≡ Illegal)
      → (command : Command) × said command × (output : List ℕ) × HasRead command source source' ran status output × Appends sink.told sink'.told output
  -- refused: the input is refused, and the line that refuses it is written
  pub refused : status ≡ Refused → (ran ≡ Nothing)
      × ((command : Command) × said command × (output : List ℕ) × HasRead command source source' ran Refused output × Appends sink.told sink'.told output
      × IfSome source.told (λ bytes. IsRefusal command bytes output))
  -- an input that is refused is never answered as played: the status says that it is refused, or that there was a fault or no memory
  pub refuses : (command : Command) → said command → IfSome source.told (λ bytes. (output : List ℕ) → IsRefusal command bytes output
      → (status ≡ Refused) ⊎ (status ≡ ReadFault) ⊎ (status ≡ WriteFault) ⊎ (status ≡ NoMemory))
  -- a history that isn't legal is never answered as one that is, nor as refused: the status says so, or that there was a fault or no memory
  pub judges : (command : Command) → said command → IfSome source.told (λ bytes. (output : List ℕ)
      → (command ≡ Verify) × (length bytes ≤ most_bytes command) × IsJudgedAs bytes Illegal output
      → (status ≡ Illegal) ⊎ (status ≡ ReadFault) ⊎ (status ≡ WriteFault) ⊎ (status ≡ NoMemory))
  -- a read fault: a read failed, and nothing is written; no other status is answered where the source's count of faults rose
  pub read_fault : status ≡ ReadFault → (ran ≡ Nothing) × Rose source.faults source'.faults × (sink' ≡ sink)
  pub only_read_fault : source.faults < source'.faults → status ≡ ReadFault
  -- a command without an input reads nothing, and so no read of it fails
  pub no_read : (command : Command) → said command → has_input command ≡ false → (source' ≡ source) × (status ≡ ReadFault → ⊥)
  -- a write fault: a write failed, and what is written is a proper prefix of the output; no other status is answered where the
  -- sink's count of faults rose
  pub write_fault : status ≡ WriteFault → Rose sink.faults sink'.faults
      × ((command : Command) × said command × (output : List ℕ) × (wanted : Status) × (written : ℕ) × HasRead command source source' ran wanted output
      × (written < length output) × Appends sink.told sink'.told (take written output))
  pub only_write_fault : sink.faults < sink'.faults → status ≡ WriteFault
  -- no memory: nothing is written
  pub no_memory : status ≡ NoMemory → (ran ≡ Nothing) × (sink' ≡ sink)
  -- a run is there where a play came to its end, and never of another command
  pub played : (status ≡ Done) ⊎ (status ≡ Waits) → (command : Command) → said command → is_play command ≡ true → has_run ran ≡ true
  pub only_played : has_run ran ≡ true → (command : Command) × said command × (is_play command ≡ true)
  -- the counts of faults never fall
  pub reads : source.faults ≤ source'.faults
  pub writes : sink.faults ≤ sink'.faults

-- at most one byte more was read than an input of the command may have, and nothing for other words and for a command without an input
abbrev pub ReadsInput : (Command → Type 0) → Option (List ℕ) → Option (List ℕ) → Type 0
ReadsInput said told told' =
    ((command : Command) × said command × (has_input command ≡ true) × ConsumesAtMost (most_bytes command + 1) told told')
    ⊎ (((command : Command) → said command → has_input command ≡ false) × (told' ≡ told))
