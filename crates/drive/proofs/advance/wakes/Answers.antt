-- `drive::advance::wakes` meets its contract: the invariant is that the wheels from i on decide. Assumes nothing.
use Prim.Native.Nat.{ℕ}
use mathlib.Core.Bool.{true, false, not}
use mathlib.Core.List.{List}
use mathlib.Core.Path.{◌≡◌, ◌∙◌, sym, ap}
use native.Mathlib.Omega.{arith}
use lib.Ieee.{Float, binary32, lt, of_bits}
use Rattle.lists.proofs.Turns.{every_start, every_yes, every_no, every_end}
use Rattle.wheel.specs.declared.Wheel.{Wheel}
use Rattle.table.specs.Rows.{wheel_at}
use Rattle.drive.specs.Drive.{idle_at, wakes}
use Rattle.drive.proofs.advance.wakes.Goals as goal

idle_no : (t : List Float) (i : ℕ) (w : Wheel) → w ≡ wheel_at t i → lt (of_bits binary32 0) w.controls.engine ≡ true → idle_at t i ≡ false
unfolding idle_at of_bits
idle_no t i w p q = rw (← p, q)

idle_yes : (t : List Float) (i : ℕ) (w : Wheel) → w ≡ wheel_at t i → lt (of_bits binary32 0) w.controls.engine ≡ false → idle_at t i ≡ true
unfolding idle_at of_bits
idle_yes t i w p q = rw (← p, q)

pub loop-i-init : goal.loop-i-init
loop-i-init c = every_start (idle_at c.args.table.now) c.args.n

pub returns-then-w : goal.returns-then-w
unfolding wakes
returns-then-w c =
    let l = c.loop-i in
    let idle = idle_at c.args.table.now in
    sym (ap not (l.invariant ∙ every_no idle c.args.n l.i (omega arith) (idle_no _ _ _ c.get_wheel-w.ensures c.if-w.true)))

pub loop-i-preserved : goal.loop-i-preserved
loop-i-preserved c =
    let l = c.loop-i in
    let idle = idle_at c.args.table.now in
    l.invariant ∙ every_yes idle c.args.n l.i (omega arith) (idle_yes _ _ _ c.get_wheel-w.ensures c.if-w.false)

pub returns : goal.returns
unfolding wakes
returns c =
    let l = c.loop-i in
    sym (ap not (l.invariant ∙ every_end (idle_at c.args.table.now) c.args.n l.i (omega arith)))
