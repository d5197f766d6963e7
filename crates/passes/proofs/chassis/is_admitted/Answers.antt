-- `passes::chassis::is_admitted` meets its contract: three tests of one bound. Assumes nothing.
use mathlib.Core.Bool.{Bool, true, false}
use mathlib.Core.List.{[], ◌∷◌}
use mathlib.Core.Path.{◌≡◌, refl, ap, ◌∙◌}
use lib.Ieee.{Float, of_bits}
use Rattle.lists.specs.All.{all}
use Rattle.lists.specs.Pick.{pick, ◌and◌}
use Rattle.real.specs.Scalar.{within}
use Rattle.table.specs.Bounds.{all_within, STORED}
use Rattle.passes.specs.Passes.{admits}
use Rattle.passes.proofs.chassis.is_admitted.Goals as goal

last : (b : Bool) → (b and true) ≡ b
unfolding pick
last true = refl
last false = refl

three : (p : Float → Bool) (r : Bool) (x y z : Float) → r ≡ all p (x ∷ y ∷ z ∷ []) → r ≡ (p x and p y and p z)
unfolding all
three p r x y z h = h ∙ ap (λ (b : Bool). p x and p y and b) (last (p z))

pub returns : goal.returns
unfolding admits all_within of_bits
returns c = rw (← c.wheel_limit-limit.ensures) (three (within STORED) _ _ _ _ c.all_within.ensures)
