-- Document 01, refusal 1: the lent table and the whole numbers beside it. Definitions only.
use Rattle.std.specs.Prelude.{ℕ, Bool, true, false, List, ◌≡◌, eqb, leb, length, get_or, Float, Result, MatchResult}
use Rattle.std.specs.Borrow.{Bor}
use Rattle.refusals.specs.declared.Refusal.{Refusal}
use Rattle.refusals.specs.declared.Refusal.TheVariants.{NoVehicle}
use Rattle.lists.specs.Pick.{◌and◌}
use Rattle.table.specs.Layout as at

-- the whole numbers: how many wheels, the mark, the up and the forward axis
abbrev pub count_of : List ℕ → ℕ
count_of m = get_or m at.COUNT 0

abbrev pub mark_of : List ℕ → ℕ
mark_of m = get_or m at.MARK 0

abbrev pub up_of : List ℕ → ℕ
up_of m = get_or m at.UP 0

abbrev pub forward_of : List ℕ → ℕ
forward_of m = get_or m at.FORWARD 0

-- no lent table of the wrong size
unfoldable pub sizes_ok : List Float → List ℕ → Bool
sizes_ok t m = eqb (length t) at.SIZE and eqb (length m) at.WHOLE

-- no axis above 2
unfoldable pub axes_ok : ℕ → ℕ → Bool
axes_ok up forward = leb up 2 and leb forward 2

-- no count above 16, no unknown mark
unfoldable pub status_ok : ℕ → ℕ → Bool
status_ok count mark = leb count at.WHEELS and leb mark at.DRIVEN

-- refusal 1 is given by every call but set-up exactly when this is false
unfoldable pub shape_ok : List Float → List ℕ → Bool
shape_ok t m = sizes_ok t m and status_ok (count_of m) (mark_of m) and axes_ok (up_of m) (forward_of m)

-- the lent numbers as they are, where the shape is right, or refusal 1
abbrev pub Shaped : List Float → List ℕ → Result (Bor (List Float) × Bor (List ℕ)) Refusal → Type 0
Shaped t m r = MatchResult r (λ lent. (lent.0.now ≡ t) × (lent.1.now ≡ m) × (shape_ok t m ≡ true)) (λ e. (e ≡ NoVehicle) × (shape_ok t m ≡ false))
