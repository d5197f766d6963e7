-- Document 01, "Scenario program": the lines that are printed, as bytes. Definitions only.
use Rattle.std.specs.Prelude.{ℕ, zero, suc, ◌+◌, ◌-◌, ◌/◌, ◌%◌, ◌^◌, List, [], ◌∷◌, ◌++◌, ltb}
use Rattle.lists.specs.Pick.{pick}
use Rattle.lines.specs.Layout.{SPACE, LINE-FEED, ZERO, LETTER-A, TEN, TEN-DIGITS, HEX}

-- the character of a digit: 0 to 9, then a to f
unfoldable pub glyph : ℕ → ℕ
glyph d = pick (ltb d TEN) (ZERO + d) (LETTER-A + (d - TEN))

-- the last k digits of n in a base, the highest first
unfoldable pub digits : ℕ → ℕ → ℕ → List ℕ
digits base zero n = []
digits base (suc k) n = glyph (n / base ^ k % base) ∷ digits base k n

-- how many digits n has in base ten: one, and one more for each division by ten; at most k + 1
unfoldable pub places_up_to : ℕ → ℕ → ℕ
places_up_to zero n = 1
places_up_to (suc k) n = pick (ltb n TEN) 1 (suc (places_up_to k (n / TEN)))

-- the same for a number below 2^32
unfoldable pub places : ℕ → ℕ
places n = places_up_to (TEN-DIGITS - 1) n

-- a number in decimal
unfoldable pub decimal : ℕ → List ℕ
decimal n = digits TEN (places n) n

-- each result: a space and so many hex digits
unfoldable pub results : ℕ → List ℕ → List ℕ
results size [] = []
results size (w ∷ l) = SPACE ∷ (digits HEX size w ++ results size l)

-- the line of a code: the code and the answer with a space between, the results of so many hex digits each, and a line feed
unfoldable pub line : ℕ → ℕ → ℕ → List ℕ → List ℕ
line size code answer l = decimal code ++ (SPACE ∷ (decimal answer ++ (results size l ++ (LINE-FEED ∷ []))))

-- the first line: `vehicle 1`
unfoldable pub title : List ℕ
title = 118 ∷ 101 ∷ 104 ∷ 105 ∷ 99 ∷ 108 ∷ 101 ∷ SPACE ∷ 49 ∷ LINE-FEED ∷ []
