-- Where each field of a scenario code stands among its words: the field order of docs/STREAM.md. Word 0 is the code. Each place is a named constant, counted from the one before it. How many floats a field has, and how many fields there are at most, the stream's layout says. Definitions only.
use Rattle.std.specs.Prelude.{ℕ, ◌+◌, ◌*◌}
use Rattle.grammar.specs.Layout as code

-- ---- the first field: an add has the settings from there on, an aim the chassis, in the order in which the table keeps them
abbrev pub FIRST : ℕ
FIRST = 1

-- ---- the wheel's number, which a read has alone, and behind it the controls
abbrev pub WHEEL : ℕ
WHEEL = FIRST

abbrev pub CONTROLS : ℕ
CONTROLS = WHEEL + 1

-- ---- a drive: the step, the number of bodies, and the bodies, each a lent body's numbers and its flag
abbrev pub STEP : ℕ
STEP = FIRST

abbrev pub BODY-COUNT : ℕ
BODY-COUNT = STEP + 1

abbrev pub BODIES : ℕ
BODIES = BODY-COUNT + 1

abbrev pub FLAG : ℕ
FLAG = code.BODY-FLOATS

abbrev pub BODY-WORDS : ℕ
BODY-WORDS = FLAG + 1

-- ---- an answer: its kind, and where its fields stand from there. The body's number comes last, and the next answer after it
abbrev pub TIME : ℕ
TIME = 1

abbrev pub NORMAL : ℕ
NORMAL = TIME + 1

abbrev pub HIT-BODY : ℕ
HIT-BODY = NORMAL + 3

abbrev pub HIT-WORDS : ℕ
HIT-WORDS = 1 + code.HIT-FLOATS + 1

abbrev pub UPWARD : ℕ
UPWARD = NORMAL + 3

abbrev pub HIT-UP-BODY : ℕ
HIT-UP-BODY = UPWARD + 3

abbrev pub HIT-UP-WORDS : ℕ
HIT-UP-WORDS = 1 + code.HIT-UP-FLOATS + 1

-- where the answers start at the latest: behind every body
abbrev pub LAST-ANSWERS : ℕ
LAST-ANSWERS = BODIES + code.BODIES * BODY-WORDS + 1
