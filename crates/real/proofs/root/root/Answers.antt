-- `real::root::root` meets its contract: x is what its bits are read as, and each return is `root_of` at a kind of pattern, `Cases.antt` at binary32. Assumes nothing.
use mathlib.Core.Path.{◌≡◌, sym, subst, ap, ◌∙◌}
use mathlib.Core.Bool.{true}
use lib.Ieee.{Float, binary32, fits, of_bits, to_bits}
use lib.Ieee.Bits.{of_bits-to_bits, to_bits-lt}
use Rattle.real.specs.Root.{root_of}
use Rattle.real.proofs.Literals.{held}
use Rattle.real.proofs.root.Cases.{of_nan, of_zero, of_negative, of_top, is_positive}
use Rattle.real.proofs.root.root.Goals as goal

-- ---- the format holds x, so x is its bits read back
read : (x : Float) → fits binary32 x ≡ true → (r : Float) → r ≡ root_of binary32 (of_bits binary32 (to_bits binary32 x)) → r ≡ root_of binary32 x
read x h r e = e ∙ ap (root_of binary32) (of_bits-to_bits binary32 x (held x h))

same : (x : Float) → fits binary32 x ≡ true → of_bits binary32 (to_bits binary32 x) ≡ root_of binary32 (of_bits binary32 (to_bits binary32 x)) → x ≡ root_of binary32 x
same x h e = subst (λ (y : Float). y ≡ root_of binary32 y) (of_bits-to_bits binary32 x (held x h)) e

pub returns-then-is_nan : goal.returns-then-is_nan
returns-then-is_nan c = of_nan binary32 c.args.x (sym c.is_nan.ensures.value ∙ c.if-is_nan.true)

pub returns-then-bits-eq0 : goal.returns-then-bits-eq0
returns-then-bits-eq0 c = same c.args.x c.well_formed.0.1 (of_zero binary32 (to_bits binary32 c.args.x) c.if-bits-eq0.true)

pub returns-then-bits-eq1 : goal.returns-then-bits-eq1
returns-then-bits-eq1 c = read c.args.x c.well_formed.0.1 _ (of_negative binary32 (to_bits binary32 c.args.x) c.if-bits-eq0.false c.if-bits-eq1.true)

pub returns-then-bits-ge-INFINITY : goal.returns-then-bits-ge-INFINITY
returns-then-bits-ge-INFINITY c = same c.args.x c.well_formed.0.1 (of_top binary32 (to_bits binary32 c.args.x) c.if-bits-ge-INFINITY.true (to_bits-lt binary32 c.args.x (held c.args.x c.well_formed.0.1)) c.if-bits-eq1.false)

pub positive-requires : goal.positive-requires
positive-requires c = is_positive binary32 (to_bits binary32 c.args.x) c.if-bits-eq0.false c.if-bits-ge-INFINITY.false

pub returns : goal.returns
returns c =
    read c.args.x c.well_formed.0.1 _ c.positive.ensures
