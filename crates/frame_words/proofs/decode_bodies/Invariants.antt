-- `frame_words::decode_bodies` meets its contract: the first k numbers are in place. Assumes nothing.
use Prim.Native.Nat.{◌*◌, ◌-◌, ◌≤◌}
use Rattle.lists.specs.Counted.{listed}
use Rattle.lists.proofs.Filling.{Filling}
use Rattle.table.specs.Layout as table
use Rattle.scenario.specs.Format.{format}
use Rattle.frame_words.specs.Frame.{body_number_from, bodies_from}
use Rattle.frame_words.proofs.decode_bodies.Given as goal

abbrev pub invariant-loop-k : goal.invariant-loop-k
invariant-loop-k l = (l.k ≤ l.nb * table.BODY) × Filling l.initial.number-items l.number-items l.k (listed (body_number_from format l.words) (l.nb * table.BODY - l.k) l.k) (bodies_from format l.words l.nb)
