-- `session::window::Window::drop_front` meets its contract. Assumes nothing.
use mathlib.Core.Path.{◌≡◌, ap, ◌∙◌}
use native.Mathlib.Omega.{arith}
use lib.ListN.{length, take, drop}
use lib.Seq.{length-take-le}
use Prim.Native.Nat.{◌≤◌}
use Rattle.session.proofs.Stepping.{dropped}
use Rattle.session.proofs.window.Window.drop_front.Goals as goal

pub returns : goal.returns
returns g c =
    let bytes = c.self.inside.bytes in
    let filled = c.self.inside.filled in
    let fits : filled ≤ length bytes = omega (arith, c.self.invariant, c.self.told) in
    let long : length (take filled bytes) ≡ length c.args.self.now = ap length c.self.view_is in
    dropped bytes _ c.args.n filled (omega (arith, c.requires, length-take-le filled bytes fits)) fits c.copy_within.ensures.after ∙ ap (drop c.args.n) c.self.view_is
