-- The lines that refuse an input.
use Rattle.sg_facts.specs.Words.{line_end}
use Rattle.std.specs.Prelude.{ℕ, ◌+◌, ◌==◌, List, ◌++◌, codes, count_by, length, take, [], slice_get}
use Rattle.std.specs.Fmt.{decimal}
use Rattle.std.specs.List.{after_last}
use Rattle.std.specs.Option.{option_map_or}
use Rattle.sg_entries.specs.declared.error.EntriesKind.{EntriesKind}
use Rattle.sg_entries.specs.declared.error.EntriesKind.TheVariants.{Syntax as EntriesSyntax, UnknownFunction as EntriesFunction, BadArgs as EntriesArgs, BadClient as EntriesClient, Limit as EntriesLimit}
use Rattle.sg_script.specs.declared.fault.ScriptKind.{ScriptKind}
use Rattle.sg_script.specs.Flaws.{script_kinds, script_kind_rank}

-- the input, its interface, its script or its printed run is too long
abbrev pub too_long_line : List ℕ
too_long_line = codes "input refused: TooLong" ++ line_end

-- the line that refuses a text at a place, by its first words and the name of what is wrong there. Places are counted in bytes from 0.
-- The line of a place is one more than the LFs before it; its byte in that line is one more than the bytes between the last LF before
-- it, or the beginning of the text, and the place
abbrev pub refused_line : List ℕ → List ℕ → ℕ → List ℕ → List ℕ
refused_line words text at name =
    let before = take at text in
    words ++ decimal (count_by (λ b. b == 10) before + 1) ++ codes ":" ++ decimal (length (after_last (λ b. b == 10) before) + 1)
    ++ codes ": " ++ name ++ line_end

-- the name of a kind of fault of a script
abbrev pub script_kind_name : ScriptKind → List ℕ
script_kind_name kind = option_map_or (λ p. p.1) (slice_get script_kinds (script_kind_rank kind)) []

-- the name of a kind of fault of the entries of a printed run
abbrev pub entries_kind_name : EntriesKind → List ℕ
entries_kind_name EntriesSyntax = codes "Syntax"
entries_kind_name EntriesFunction = codes "UnknownFunction"
entries_kind_name EntriesArgs = codes "BadArgs"
entries_kind_name EntriesClient = codes "BadClient"
entries_kind_name EntriesLimit = codes "Limit"
