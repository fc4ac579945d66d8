-- The limits of every run, each by its name.
use Rattle.std.specs.Prelude.{ℕ, ◌^◌}

-- the greatest number of functions of a service
abbrev pub most_funs : ℕ
most_funs = 32

-- the greatest number of fields of a row
abbrev pub most_fields : ℕ
most_fields = 8

-- the greatest number of calls of a script
abbrev pub most_script_calls : ℕ
most_script_calls = 65536

-- the greatest number of a client; the first is 1
abbrev pub last_client : ℕ
last_client = 64

-- the greatest number of live rows
abbrev pub most_live : ℕ
most_live = 1024

-- the greatest number of bytes of a file's path
abbrev pub most_path : ℕ
most_path = 256

-- the greatest number of bytes that a call writes into a file
abbrev pub most_written : ℕ
most_written = 256

-- the greatest number of bytes of a file
abbrev pub most_file : ℕ
most_file = 65536

-- below this number are the ids that a service gives, and the words that it counts in
abbrev pub end_of_counts : ℕ
end_of_counts = 2 ^ 63
