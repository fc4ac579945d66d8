-- How many more records can be taken without memory.
use Rattle.std.specs.Prelude.{ℕ, ◌-◌, ◌/◌, min}

-- the greatest place in a list: 32 bits
abbrev pub last_place : ℕ
last_place = 4294967295

-- how many elements more a list takes, by its length and its capacity: none after the last place
abbrev pub spare_of : ℕ → ℕ → ℕ
spare_of len capacity = min capacity last_place - len

-- the greatest number of words of a record in brief: 4 of arguments, 4 of the reply, the id and the client of a walk's call, and a descriptor
abbrev pub most_words : ℕ
most_words = 11

-- the room for records, by what the heads, the words and the whole records have to spare
abbrev pub room_of : ℕ → ℕ → ℕ → ℕ
room_of heads words whole = min (min heads whole) (words / most_words)
