-- The numbers of the program: each float is a word, its bit pattern. What turns words to numbers, and numbers to words and digits, takes the format first; the functions' contracts give this one. Definitions only.
use Rattle.std.specs.Prelude.{ℕ, ◌/◌}
use Rattle.std.specs.Float.{Format, binary32, binary64}
use Rattle.grammar.specs.Layout.{Widths, WIDTHS}

abbrev pub format : Format
format = binary32

-- how many bits a pattern has
abbrev pub pattern_bits : Format → ℕ
pattern_bits binary32 = 32
pattern_bits binary64 = 64

-- how wide the numbers of a code are: whole numbers are as wide in every format
abbrev pub widths_of : Format → Widths
widths_of f = record { float = pattern_bits f; whole = WIDTHS.whole }

-- how many hex digits a result has, of four bits each
abbrev pub hex_digits_of : Format → ℕ
hex_digits_of f = pattern_bits f / 4
