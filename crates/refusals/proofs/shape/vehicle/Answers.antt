-- `refusals::shape::vehicle` meets its contract: a tested shape has the arrays' lengths. Assumes nothing.
use Rattle.lists.proofs.Picks.{told}
use Rattle.refusals.proofs.Says.{shape_says}
use Rattle.refusals.proofs.shape.vehicle.Goals as goal

pub unwrap-requires : goal.unwrap-requires
unwrap-requires c = c.try_into.ensures.0 (shape_says _ _ (told _ _ _ c.is_shape_ok.ensures c.if-not-is_shape_ok.false)).sized

pub unwrap-requires-2 : goal.unwrap-requires-2
unwrap-requires-2 c = c.try_into-2.ensures.0 (shape_says _ _ (told _ _ _ c.is_shape_ok.ensures c.if-not-is_shape_ok.false)).four
