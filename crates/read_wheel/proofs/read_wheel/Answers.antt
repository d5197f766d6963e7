-- `read_wheel::read_wheel` meets its contract: it is refused, or answers the wheel's numbers. Assumes nothing.
use mathlib.Core.Path.{◌≡◌, sym}
use native.Mathlib.Omega.{arith}
use borrow.Author.Rules.{rules}
use Rattle.refusals.proofs.Lent.{refused_call}
use Rattle.refusals.proofs.Settled.{settled_ok}
use Rattle.read_wheel.specs.Read.{read_wheel}
use Rattle.read_wheel.proofs.Accepted.{read_says}
use Rattle.read_wheel.proofs.read_wheel.Goals as goal

pub returns-in_err-refuse_read : goal.returns-in_err-refuse_read
unfolding read_wheel
returns-in_err-refuse_read c = refused_call _ _ _ _ _ _ _ _ c.from_residual.ensures.1 c.in_err-refuse_read.ensures

pub unwrap-rows-requires : goal.unwrap-rows-requires
unwrap-rows-requires c = c.try_into.ensures.0 (read_says _ _ _ (sym c.in_ok-refuse_read.ensures)).shape.sized

pub get_wheel-requires : goal.get_wheel-requires
get_wheel-requires c = let r = read_says _ _ _ (sym c.in_ok-refuse_read.ensures) in omega arith

pub returns : goal.returns
unfolding read_wheel
returns c =
    let rows : c.unwrap-rows.result.now ≡ c.args.table.now = search rules in
    settled_ok _ _ _ _ _ _ c.in_ok-refuse_read.ensures (rw (c.reading_of.ensures, c.get_wheel.ensures, rows))
