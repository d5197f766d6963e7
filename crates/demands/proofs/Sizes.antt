-- The table that an aim or a drive leaves has the size of a table: its passes write rows, and keep the chassis. Assumes nothing.
use Prim.Native.Nat.{ℕ, ◌≤◌}
use mathlib.Core.List.{List}
use mathlib.Core.Path.{◌≡◌}
use lib.ListN.{length}
use lib.Ieee.{Float, Format}
use Rattle.body.specs.declared.Chassis.{Chassis}
use Rattle.tyre.specs.declared.WheelTuning.{WheelTuning}
use Rattle.table.specs.Layout as at
use Rattle.table.specs.Rows.{put_chassis}
use Rattle.table.proofs.Laws.{length_keep}
use Rattle.ground.specs.Frame.{Frame}
use Rattle.passes.specs.Passes.{transforms, casts, suspensions, demands, rescales, spins}
use Rattle.passes.specs.Step.{sprung, demanded, pushed, spun, demand_step, whole_step}
use Rattle.passes.proofs.Laws.{length_each}
use Rattle.aim.specs.Aim.{aimed_table}

pub length_aimed : (f : Format) (c : Chassis) (n : ℕ) (t : List Float) → length t ≡ at.SIZE → n ≤ at.WHEELS → length (aimed_table f c n t) ≡ at.SIZE
unfolding aimed_table transforms
length_aimed f c n t s l = length_each _ n (put_chassis t c) (length_keep t c s) l

module _ (f : Format) (tune : WheelTuning → WheelTuning) (r : Frame) (n : ℕ) (l : n ≤ at.WHEELS) (t : List Float) (s : length t ≡ at.SIZE) where
  pub length_cast : (body : _) → length (casts f tune body r.answer n t) ≡ at.SIZE
  unfolding casts
  length_cast body = length_each _ n t s l

  pub length_sprung : length (sprung f tune r n t).table ≡ at.SIZE
  unfolding sprung suspensions
  length_sprung = length_each _ n _ (length_cast _) l

  pub length_demanded : length (demand_step f tune r n t).table ≡ at.SIZE
  unfolding demand_step demanded demands
  length_demanded = length_each _ n _ length_sprung l

  pub length_rescaled : length (rescales f n (demand_step f tune r n t).table) ≡ at.SIZE
  unfolding rescales
  length_rescaled = length_each _ n _ length_demanded l

pub length_whole_step : (f : Format) (tune : WheelTuning → WheelTuning) (t : List Float) (up : ℕ) (r : Frame) (n : ℕ) → length t ≡ at.SIZE → n ≤ at.WHEELS → length (whole_step f tune up r n t).table ≡ at.SIZE
unfolding whole_step spun pushed spins
length_whole_step f tune t up r n s l = length_keep _ _ (length_each _ n _ (length_rescaled f tune r n l t s) l)
