-- Document 01, "Marked cases": the twelve as one table, each with what the definitions give and what document 01 asks. Definitions only.
use Rattle.std.specs.Prelude.{ℕ, List, [], ◌∷◌, ◌≡◌, Float}
use Rattle.std.specs.Float.{binary32}
use Rattle.std.specs.Float.Ieee.{neg, of_bits, to_bits}
use Rattle.real.specs.Number.{zero, one, two, half}
use Rattle.marked.specs.Numbers.{three, four, five, six, seven, eight, ten, twelve, twenty_four, quarter, three_quarters}
use Rattle.real.specs.Root.{root_of}
use Rattle.tyre.specs.declared.WheelTuning.{WheelTuning}
use Rattle.tyre.specs.Suspension.{clip, suspension_length, approach_of, suspension_force}
use Rattle.tyre.specs.Grip.{skid_of, rescaled_by, braked_of}
use Rattle.grammar.specs.Layout.{WIDTHS}
use Rattle.numbers.specs.declared.Number.{Number}
use Rattle.numbers.specs.declared.Number.TheVariants.{Value, Short, Bad}
use Rattle.numbers.specs.Number.{read_number, write_number}

pub record Case : Type 0 where
  pub marked : ℕ
  pub gives : List ℕ
  pub asks : List ℕ

infix 50 case◌gives◌asks◌
abbrev pub case◌gives◌asks◌ : ℕ → List ℕ → List ℕ → Case
case n gives x asks y = record { marked = n; gives = x; asks = y }

-- numbers by their bit patterns, and one number
unfoldable pub numbers : List Float → List ℕ
numbers [] = []
numbers (x ∷ l) = to_bits binary32 x ∷ numbers l

abbrev pub number : Float → List ℕ
number x = numbers (x ∷ [])

-- cases 3 and 4: the inverse of a ray that meets the ground so
unfoldable pub inverse : Float → List ℕ
inverse facing = number (approach_of binary32 facing one).inverse

-- cases 6 and 7: stiffness 8, rest 1, length 0.5, inverse 1, compression 2, relaxation 5, mass 4
abbrev pub tuning : WheelTuning
tuning = record { stiffness = eight; compression = two; damping = five; travel = zero; sideways = zero; slip = zero; most = zero }

unfoldable pub force : Float → List ℕ
force velocity = number (suspension_force binary32 tuning one half (record { velocity = velocity; inverse = one }) quarter)

-- cases 8 to 10: both impulses, and skid
unfoldable pub impulses : Float → Float → Float → List ℕ
impulses forward side limit =
    let skid = skid_of binary32 forward side limit in
    numbers (rescaled_by binary32 skid forward ∷ rescaled_by binary32 skid side ∷ skid ∷ [])

-- case 12: the number that stands at the start of the bytes of a float, and how many of them it takes; nothing where none does
unfoldable pub valued : Number → List ℕ
valued (Value v n) = v ∷ n ∷ []
valued Short = []
valued Bad = []

unfoldable pub float_read : List ℕ → List ℕ
float_read bytes = valued (read_number WIDTHS.float bytes)

-- the last is stated of the writer and of the reader
unfoldable pub cases : List Case
cases =
    (case 1 gives number (root_of binary32 (of_bits binary32 0x4000_0000)) asks (0x3FB5_04F3 ∷ []))
    ∷ (case 2 gives number (root_of binary32 (of_bits binary32 0x0000_0001)) asks (0x1A35_04F3 ∷ []))
    ∷ (case 3 gives inverse (neg (clip binary32)) asks number ten)
    ∷ (case 4 gives inverse (neg half) asks number two)
    ∷ (case 5 gives number (suspension_length binary32 one quarter half half) asks number three_quarters)
    ∷ (case 6 gives force (neg one) asks number twenty_four)
    ∷ (case 7 gives force one asks number zero)
    ∷ (case 8 gives impulses six four five asks numbers (six ∷ four ∷ one ∷ []))
    ∷ (case 9 gives impulses twelve eight five asks numbers (six ∷ four ∷ half ∷ []))
    ∷ (case 10 gives impulses twelve eight zero asks numbers (zero ∷ zero ∷ zero ∷ []))
    ∷ (case 11 gives number (braked_of three seven) asks number three)
    ∷ (case 12 gives write_number WIDTHS.float (to_bits binary32 one) asks (0x80 ∷ 0x80 ∷ 0x80 ∷ 0xFC ∷ 0x03 ∷ []))
    ∷ (case 12 gives float_read (0x80 ∷ 0x80 ∷ 0x80 ∷ 0xFC ∷ 0x03 ∷ []) asks (0x3F80_0000 ∷ 5 ∷ []))
    ∷ []

-- every case is met
unfoldable pub Met : List Case → Type 0
Met [] = Unit {0}
Met (c ∷ l) = (c.gives ≡ c.asks) × Met l
