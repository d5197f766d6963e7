-- The calls on flat lists: the lengths that are asked for, what is read from the lists, the call itself, and the results that an accepted call writes. Definitions only.
-- A set-up takes numbers alone, and is stated by its own definition.
use Rattle.std.specs.Prelude.{ℕ, List, [], ◌∷◌, length, Float}
use Rattle.std.specs.Float.{Format}
use Rattle.lists.specs.Refusal.{first_failed}
use Rattle.refusals.specs.After.{After, settled}
use Rattle.add_wheel.specs.Add.{add_wheel}
use Rattle.set_controls.specs.Controls.{set_controls}
use Rattle.read_wheel.specs.Read.{ReadReply, ALL, all_list, read_wheel}
use Rattle.table.specs.Layout as table
use Rattle.table.specs.Rows.{settings_at, by_rotation_at, by_angle_at, chassis_of}
use Rattle.aim.specs.Aim.{AimReply, aim_of}
use Rattle.drive.specs.Drive.{DriveReply, drive_of}
use Rattle.aim.specs.Sights.{aimed_list}
use Rattle.flat_out.specs.Layout as at
use Rattle.flat_out.specs.Ends.{Flat, flat, of_length, flattened}
use Rattle.flat_in.specs.Lists.{list_tests, frame_in}
use Rattle.flat_out.specs.Results.{driven_list}

unfoldable pub flat_add : List Float → List ℕ → List Float → After ℕ
flat_add t m settings = settled (first_failed (of_length settings table.SETTINGS ∷ [])) (λ n. n) (add_wheel t m (settings_at settings 0)) t m

unfoldable pub flat_controls : Format → List Float → List ℕ → ℕ → List Float → After ℕ
flat_controls f t m wheel controls = settled (first_failed (of_length controls table.BY-ROTATION ∷ [])) (λ n. n) (set_controls f t m wheel (by_rotation_at controls 0)) t m

-- with an angle in place of the rotation
unfoldable pub flat_controls_by_angle : Format → List Float → List ℕ → ℕ → List Float → After ℕ
flat_controls_by_angle f t m wheel controls = settled (first_failed (of_length controls table.BY-ANGLE ∷ [])) (λ n. n) (set_controls f t m wheel (by_angle_at controls 0)) t m

-- the results of a read have the two answers on the directions last
unfoldable pub flat_read : Format → List Float → List ℕ → ℕ → List Float → After Flat
flat_read f t m wheel results =
    settled (first_failed (of_length results ALL ∷ [])) (λ n. flat n results)
    (flattened (λ (r : ReadReply). r.number) all_list results (read_wheel f t m wheel)) t m

unfoldable pub flat_aim : Format → List Float → List ℕ → List Float → List Float → After Flat
flat_aim f t m chassis results =
    settled (first_failed (of_length chassis table.KEPT ∷ of_length results at.AIM ∷ [])) (λ n. flat n results)
    (flattened (λ (r : AimReply). r.number) (λ (r : AimReply). aimed_list r.speed r.sights) results (aim_of f t m (chassis_of chassis))) t m

-- an answer for each kind: how many wheels there are is the drive's own test
unfoldable pub flat_drive : Format → List Float → List ℕ → Float → List Float → List ℕ → List ℕ → List ℕ → List Float → List Float → After Flat
flat_drive f t m dt bodies dynamic kinds named rays results =
    settled (first_failed (of_length results at.DRIVE ∷ list_tests t m dynamic kinds named rays)) (λ n. flat n results)
    (flattened (λ (r : DriveReply). r.number) driven_list results (drive_of f t m (frame_in dt bodies dynamic kinds named rays) (length kinds))) t m
