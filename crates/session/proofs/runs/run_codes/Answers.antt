-- `session::runs::run_codes` meets its contract: what is left to run gives what the whole gives. Assumes nothing.
use native.Mathlib.Omega.{arith}
use Rattle.session.proofs.Running.{none_run, stands_full, next_within, stands_ended, stands_more, one_run}
use Rattle.session.proofs.runs.run_codes.Goals as goal

pub loop-car-init : goal.loop-car-init
loop-car-init g c = none_run _ _ _ _ c.clear.ensures

pub slice_bounds-take_code-count : goal.slice_bounds-take_code-count
slice_bounds-take_code-count g c = c.loop-car.invariant.within

-- a code takes a byte at least, and no more than are left
pub overflow_add-taken : goal.overflow_add-taken
overflow_add-taken g c =
    omega (arith, (next_within c.loop-car.invariant (omega (arith, c.room.ensures.free, c.if-room-lt-LINE_BYTES.false)) c.take_code-next.ensures _ c.in-On.is).1)

pub loop-car-smaller : goal.loop-car-smaller
loop-car-smaller g c =
    let within = next_within c.loop-car.invariant (omega (arith, c.room.ensures.free, c.if-room-lt-LINE_BYTES.false)) c.take_code-next.ensures _ c.in-On.is in
    omega (arith, within.0, within.1)

pub loop-car-preserved : goal.loop-car-preserved
loop-car-preserved g c = one_run c.loop-car.invariant (omega (arith, c.room.ensures.free, c.if-room-lt-LINE_BYTES.false)) c.take_code-next.ensures _ c.in-On.is

pub returns-then-room-lt-LINE_BYTES : goal.returns-then-room-lt-LINE_BYTES
returns-then-room-lt-LINE_BYTES g c = stands_full c.loop-car.invariant (omega (arith, c.room.ensures.free, c.if-room-lt-LINE_BYTES.true))

pub returns-in-Ended : goal.returns-in-Ended
returns-in-Ended g c = stands_ended c.loop-car.invariant (omega (arith, c.room.ensures.free, c.if-room-lt-LINE_BYTES.false)) c.take_code-next.ensures c.in-Ended.is

pub returns-in-More : goal.returns-in-More
returns-in-More g c = stands_more c.loop-car.invariant (omega (arith, c.room.ensures.free, c.if-room-lt-LINE_BYTES.false)) c.take_code-next.ensures c.in-More.is
