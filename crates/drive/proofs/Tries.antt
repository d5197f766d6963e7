-- What a tried step answers and leaves. In order: refused with 7, refused with 8, done; how the drive settles with it, and without it. Assumes nothing.
use Prim.Native.Nat.{ℕ, zero, suc}
use mathlib.Core.Bool.{Bool, true, false}
use mathlib.Core.List.{List}
use mathlib.Core.Path.{◌≡◌, refl, sym, ap, ◌∙◌}
use native.Mathlib.Omega.{arith}
use borrow.Author.Tests.{eq-eqb, ne_eqb}
use lib.Dec.{eqb}
use lib.Ieee.{Float, Format}
use Rattle.lists.specs.Pick.{pick}
use Rattle.lists.specs.Refusal.{first_failed}
use Rattle.lists.proofs.Refusals.{append_refused_by, append_passed}
use Rattle.body.specs.declared.Chassis.{Chassis}
use Rattle.table.specs.Layout as at
use Rattle.table.specs.Bounds.{stored_within}
use Rattle.ground.specs.Frame.{Frame}
use Rattle.tyre.specs.declared.WheelTuning.{WheelTuning}
use Rattle.wheel.specs.declared.Directions.{Directions}
use Rattle.passes.specs.Passes.{demands_admitted}
use Rattle.passes.specs.Step.{work, pushed, spun, demand_step, whole_step}
use Rattle.refusals.specs.Shape.{up_of}
use Rattle.refusals.specs.After.{after, marked}
use Rattle.refusals.proofs.Settled.{settled_refused, settled_done}
use Rattle.early.specs.Early.{early_tests}
use Rattle.drive.specs.Drive.{DriveReply, step_tests, refuse_under, wakes, not_driven, driven_by, drive_under}
use Rattle.drive.specs.Tried.{Tried, tried, try_step}
use Rattle.early.proofs.Accepted.{early_numbered}

-- the step: `demanded` and c after the demands, `last` and c' at its end
module _ (f : Format) (tune : WheelTuning → WheelTuning) (t demanded : List Float) (up : ℕ) (r : Frame) (n : ℕ) (c : Chassis) (d : List Directions) (admitted : Bool)
    (w : work demanded c d ≡ demand_step f tune r n t) (p : admitted ≡ demands_admitted f tune r.dt r.answer n demanded) where
  pub tried_7 : admitted ≡ false → tried (not_driven 7) t ≡ try_step f tune t up r n
  unfolding try_step step_tests first_failed pick
  tried_7 q = rw (← w, ← p, q)

  module _ (last : List Float) (c' : Chassis) (within : Bool) (q : admitted ≡ true) (x : work last c' d ≡ spun f r.dt r.answer n (pushed f up n (work demanded c d)))
      (s : within ≡ stored_within last n) where
    whole_is : whole_step f tune up r n t ≡ work last c' d
    unfolding whole_step
    whole_is = rw (← w, ← x)

    pub tried_8 : within ≡ false → tried (not_driven 8) t ≡ try_step f tune t up r n
    unfolding try_step step_tests first_failed pick
    tried_8 u = rw (whole_is, ← w, ← p, q, ← s, u)

    pub tried_done : (wake : Bool) → within ≡ true → wake ≡ wakes t n
        → tried (record { number = 0; linvel = c'.body.linvel; angvel = c'.body.angvel; wake = wake }) last ≡ try_step f tune t up r n
    unfolding try_step step_tests first_failed pick driven_by
    tried_done wake u v = rw (v, whole_is, ← w, ← p, q, ← s, u)

-- ---- what a tried step says of the drive, whose reply has the number of the first failed test of the step
module _ (f : Format) (tune : WheelTuning → WheelTuning) (t t' : List Float) (m : List ℕ) (r : Frame) (n : ℕ) (reply : DriveReply) (h : tried reply t' ≡ try_step f tune t (up_of m) r n) where
  number_of_tried : reply.number ≡ first_failed (step_tests f tune t (up_of m) r n)
  unfolding try_step driven_by not_driven pick
  number_of_tried = ap (λ (s : Tried). s.reply.number) h ∙ go (first_failed (step_tests f tune t (up_of m) r n))
    where
      go : (number : ℕ)
          → (pick (eqb number 0) (tried (driven_by t n (whole_step f tune (up_of m) r n t)) (whole_step f tune (up_of m) r n t).table) (tried (not_driven number) t)).reply.number ≡ number
      go zero = refl
      go (suc k) = rw (ne_eqb (suc k) 0 (λ e. omega arith))

  tried_accepted : reply.number ≡ 0 → tried reply t' ≡ tried (driven_by t n (whole_step f tune (up_of m) r n t)) (whole_step f tune (up_of m) r n t).table
  unfolding try_step pick
  tried_accepted e = h ∙ rw (← number_of_tried, eq-eqb reply.number 0 e)

  tried_refused : (reply.number ≡ 0 → ⊥) → tried reply t' ≡ tried (not_driven reply.number) t
  unfolding try_step pick
  tried_refused e = h ∙ rw (← number_of_tried, ne_eqb reply.number 0 e)

  module _ (p : 0 ≡ first_failed (early_tests f t m r n)) where
    number_of_drive : reply.number ≡ refuse_under f tune t m r n
    unfolding refuse_under
    number_of_drive = number_of_tried ∙ sym (append_passed (early_tests f t m r n) _ (early_numbered f t m r n) (sym p))

    pub drive_accepted : reply.number ≡ 0 → after reply t' (marked m at.DRIVEN) ≡ drive_under f tune t m r n
    unfolding drive_under
    drive_accepted e =
        settled_done reply.number _ not_driven _ _ t m number_of_drive e (ap (λ (s : Tried). after s.reply s.table (marked m at.DRIVEN)) (tried_accepted e))

    pub drive_refused_late : (reply.number ≡ 0 → ⊥) → after reply t' m ≡ drive_under f tune t m r n
    unfolding drive_under
    drive_refused_late e =
        ap (λ (s : Tried). after s.reply s.table m) (tried_refused e)
        ∙ settled_refused reply.number _ not_driven _ _ t m number_of_drive e refl

-- refused before the step is tried: the number of the drive
pub refused_early : (f : Format) (tune : WheelTuning → WheelTuning) (t : List Float) (m : List ℕ) (r : Frame) (n number : ℕ)
    → number ≡ first_failed (early_tests f t m r n) → (number ≡ 0 → ⊥) → number ≡ refuse_under f tune t m r n
unfolding refuse_under
refused_early f tune t m r n number p q = append_refused_by _ _ number p q
