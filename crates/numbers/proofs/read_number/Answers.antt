-- `numbers::read_number` meets its contract: the groups that are left give what all give. Assumes nothing.
use native.Mathlib.Omega.{arith}
use Prim.Native.Nat.{◌≤◌}
use mathlib.Core.Path.{sym, ◌∙◌}
use lib.Pow.{pow_mono}
use Rattle.numbers.specs.Layout.{last}
use Rattle.numbers.proofs.Groups.{none_read, ends_short, ends_bad, ends_value, sum_fits, unit_fits, one_more, not_last}
use Rattle.numbers.proofs.read_number.Goals as goal

pub loop-k-init : goal.loop-k-init
loop-k-init c = none_read _ _

pub overflow_mul-value : goal.overflow_mul-value
overflow_mul-value c =
    let h = sym c.bad_group.ensures ∙ c.if-bad_group.false in
    omega (arith, sum_fits c.loop-k.invariant c.if-k-bytes.false _ h c.from.ensures, pow_mono c.requires)

pub overflow_add-value : goal.overflow_add-value
overflow_add-value c =
    let h = sym c.bad_group.ensures ∙ c.if-bad_group.false in
    omega (arith, sum_fits c.loop-k.invariant c.if-k-bytes.false _ h c.from.ensures, pow_mono c.requires)

pub overflow_mul-unit : goal.overflow_mul-unit
overflow_mul-unit c =
    let h = sym c.bad_group.ensures ∙ c.if-bad_group.false in
    let few : last c.args.bits ≤ last 32 = omega (arith, c.requires) in
    rw c.from-unit.ensures (omega (arith, unit_fits c.loop-k.invariant c.if-k-bytes.false _ h c.from.ensures (last 32) few c.if-b-lt-GROUP.false))

pub loop-k-smaller : goal.loop-k-smaller
loop-k-smaller c =
    let h = sym c.bad_group.ensures ∙ c.if-bad_group.false in
    omega (arith, not_last _ _ _ h c.loop-k.invariant.few c.if-b-lt-GROUP.false)

pub loop-k-preserved : goal.loop-k-preserved
loop-k-preserved c =
    let h = sym c.bad_group.ensures ∙ c.if-bad_group.false in
    rw c.from-unit.ensures (one_more c.loop-k.invariant c.if-k-bytes.false _ h c.from.ensures c.if-b-lt-GROUP.false)

pub returns-then-k-bytes : goal.returns-then-k-bytes
returns-then-k-bytes c = ends_short c.loop-k.invariant c.if-k-bytes.true

pub returns-then-bad_group : goal.returns-then-bad_group
returns-then-bad_group c =
    ends_bad c.loop-k.invariant c.if-k-bytes.false (sym c.bad_group.ensures ∙ c.if-bad_group.true)

pub returns-then-b-lt-GROUP : goal.returns-then-b-lt-GROUP
returns-then-b-lt-GROUP c =
    let h = sym c.bad_group.ensures ∙ c.if-bad_group.false in
    ends_value c.loop-k.invariant c.if-k-bytes.false _ h c.from.ensures c.if-b-lt-GROUP.true
