-- The bytes of the marks, by name.
use Rattle.std.specs.Prelude.{ℕ}

-- the byte of the mark `{`
abbrev pub open_brace_byte : ℕ
open_brace_byte = 0x7B

-- the byte of the mark `}`
abbrev pub close_brace_byte : ℕ
close_brace_byte = 0x7D

-- the byte of the mark `(`
abbrev pub open_bracket_byte : ℕ
open_bracket_byte = 0x28

-- the byte of the mark `)`
abbrev pub close_bracket_byte : ℕ
close_bracket_byte = 0x29

-- the byte of the mark `,`
abbrev pub comma_byte : ℕ
comma_byte = 0x2C

-- the byte of the mark `;`
abbrev pub semicolon_byte : ℕ
semicolon_byte = 0x3B

-- the byte of the mark `$`
abbrev pub dollar_byte : ℕ
dollar_byte = 0x24
