-- The numbers of the scenario stream: document 01, "Scenario program", and the field order of docs/STREAM.md. Definitions only.
use Rattle.std.specs.Prelude.{ℕ, ◌+◌, ◌*◌}
use Rattle.numbers.specs.Layout.{last}

-- how many bits a float has, and a whole number at most
pub record Widths : Type 0 where
  pub float : ℕ
  pub whole : ℕ

abbrev pub WIDTHS : Widths
WIDTHS = record { float = 32; whole = 32 }

-- ---- the codes, and how many floats follow them
abbrev pub END : ℕ
END = 0

abbrev pub ADD : ℕ
ADD = 1

-- three vectors, rest length, radius and the seven numbers of `WheelTuning`
abbrev pub ADD-FLOATS : ℕ
ADD-FLOATS = 18

-- change request 2026-07: "an add with the new number last"
abbrev pub ADD-ROLLED : ℕ
ADD-ROLLED = 6

abbrev pub ADD-ROLLED-FLOATS : ℕ
ADD-ROLLED-FLOATS = ADD-FLOATS + 1

abbrev pub CONTROLS : ℕ
CONTROLS = 2

-- the wheel's number; then engine, brake and a rotation
abbrev pub CONTROLS-FLOATS : ℕ
CONTROLS-FLOATS = 6

-- change request 2026-11: "code 2 with the angle in place of the rotation"
abbrev pub CONTROLS-BY-ANGLE : ℕ
CONTROLS-BY-ANGLE = 10

abbrev pub CONTROLS-BY-ANGLE-FLOATS : ℕ
CONTROLS-BY-ANGLE-FLOATS = 3

abbrev pub AIM : ℕ
AIM = 3

-- the chassis
abbrev pub AIM-FLOATS : ℕ
AIM-FLOATS = 26

abbrev pub DRIVE : ℕ
DRIVE = 4

-- dt; then the bodies and the answers
abbrev pub STEP-FLOATS : ℕ
STEP-FLOATS = 1

-- the wheel's number, and no float; code 8 is that of change request 2026-02, code 9 that of 2026-05
abbrev pub READ : ℕ
READ = 5

abbrev pub READ-SETTLED : ℕ
READ-SETTLED = 8

abbrev pub READ-ALL : ℕ
READ-ALL = 9

abbrev pub READ-FLOATS : ℕ
READ-FLOATS = 0

-- ---- the bodies of a drive: how many at most, the floats of each, and the most that its flag may be
abbrev pub BODIES : ℕ
BODIES = 64

abbrev pub BODY-FLOATS : ℕ
BODY-FLOATS = 16

abbrev pub DYNAMIC : ℕ
DYNAMIC = 1

-- ---- the answers of a drive: how many at most, their kinds, and how many floats follow these
abbrev pub ANSWERS : ℕ
ANSWERS = 16

abbrev pub NOTHING : ℕ
NOTHING = 0

abbrev pub HIT : ℕ
HIT = 1

-- time and normal; then the body's number
abbrev pub HIT-FLOATS : ℕ
HIT-FLOATS = 4

abbrev pub HIT-UP : ℕ
HIT-UP = 2

-- time, normal and upward normal; then the body's number
abbrev pub HIT-UP-FLOATS : ℕ
HIT-UP-FLOATS = 7

-- ---- the longest code: a drive of every body, and every answer with its upward normal
abbrev pub ANSWER-WORDS : ℕ
ANSWER-WORDS = 1 + HIT-UP-FLOATS + 1

abbrev pub ANSWERS-WORDS : ℕ
ANSWERS-WORDS = 1 + ANSWERS * ANSWER-WORDS

abbrev pub BODIES-WORDS : ℕ
BODIES-WORDS = 1 + BODIES * (BODY-FLOATS + 1) + ANSWERS-WORDS

abbrev pub CODE-WORDS : ℕ
CODE-WORDS = 1 + STEP-FLOATS + BODIES-WORDS

-- as many bytes as it has where each word is as wide as a float, and no whole number is wider
abbrev pub code_bytes : Widths → ℕ
code_bytes widths = CODE-WORDS * (last widths.float + 1)
