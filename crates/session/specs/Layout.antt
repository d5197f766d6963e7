-- How much is kept of the stream and of the text at a time: document 01 bounds neither. Definitions only.
use Rattle.std.specs.Prelude.{ℕ}

abbrev pub WINDOW-BYTES : ℕ
WINDOW-BYTES = 65536

abbrev pub TEXT-BYTES : ℕ
TEXT-BYTES = 65536
