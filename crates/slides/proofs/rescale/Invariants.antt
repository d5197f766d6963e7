-- `slides::rescale` meets its contract: the records before the index are rescaled, the others are as they were lent. Assumes nothing.
use Rattle.std.proofs.Common.{◌≡◌}
use Rattle.std.specs.Float.{binary32}
use Rattle.tyre.specs.Grip.{rescaled_of}
use Rattle.slides.proofs.Each.{up_to}
use Rattle.slides.proofs.rescale.Given as goal

abbrev pub invariant-loop-s : goal.invariant-loop-s
invariant-loop-s l = l.slides ≡ up_to (rescaled_of binary32) l.s-index l.fn.slides
