-- Document 01, "What a vehicle keeps". Set up: writes the two axes, count 0 and zeros over any contents; mark new. Its one refusal is 1, for size or axis. Definitions only.
use Rattle.std.specs.Prelude.{ℕ, List, [], ◌∷◌, replicate, Float}
use Rattle.lists.specs.Refusal.{◌or◌, first_failed}
use Rattle.real.specs.Number.{zero}
use Rattle.table.specs.Layout as at
use Rattle.refusals.specs.Shape.{sizes_ok, axes_ok}
use Rattle.refusals.specs.After.{After, after, settled}

unfoldable pub refuse_set_up : List Float → List ℕ → ℕ → ℕ → ℕ
refuse_set_up t m up forward = first_failed (sizes_ok t m or 1 ∷ axes_ok up forward or 1 ∷ [])

unfoldable pub set_up : List Float → List ℕ → ℕ → ℕ → After ℕ
set_up t m up forward =
    settled (refuse_set_up t m up forward) (λ n. n) (after 0 (replicate at.SIZE zero) (0 ∷ at.NEW ∷ up ∷ forward ∷ [])) t m
