-- The numbers of a printed line: document 01, "Scenario program". Definitions only.
use Rattle.std.specs.Prelude.{ℕ, ◌+◌, ◌*◌}
use Rattle.grammar.specs.Layout.{ANSWERS}

abbrev pub SPACE : ℕ
SPACE = 32

abbrev pub LINE-FEED : ℕ
LINE-FEED = 10

-- the characters of the digits 0 and a
abbrev pub ZERO : ℕ
ZERO = 48

abbrev pub LETTER-A : ℕ
LETTER-A = 97

-- a code or an answer, in decimal: 32 bits have at most ten digits
abbrev pub TEN : ℕ
TEN = 10

abbrev pub TEN-DIGITS : ℕ
TEN-DIGITS = 10

-- a result: its bits, in hex, as many digits as 32 bits have
abbrev pub HEX : ℕ
HEX = 16

abbrev pub HEX-DIGITS : ℕ
HEX-DIGITS = 8

-- the most results that a line has, those of an aim: the speed, and for each wheel its hard point and its ray
abbrev pub WHEEL-RESULTS : ℕ
WHEEL-RESULTS = 6

abbrev pub RESULTS : ℕ
RESULTS = 1 + ANSWERS * WHEEL-RESULTS

-- the longest line, where each result has so many hex digits
abbrev pub line_bytes : ℕ → ℕ
line_bytes size = TEN-DIGITS + 1 + TEN-DIGITS + RESULTS * (1 + size) + 1

abbrev pub LINE-BYTES : ℕ
LINE-BYTES = line_bytes HEX-DIGITS
