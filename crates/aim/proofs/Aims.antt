-- How an aim settles, by the number of the refusals that come first, whether each angle makes a rotation, and whether what it worked out can be stored. Assumes nothing.
use Prim.Native.Nat.{ℕ}
use mathlib.Core.Bool.{Bool, true, false}
use mathlib.Core.List.{List}
use mathlib.Core.Path.{◌≡◌, refl, sym, ◌∙◌}
use lib.Ieee.{Float, Format}
use Rattle.lists.specs.Refusal.{first_failed}
use Rattle.lists.proofs.Picks.{pick_yes, pick_no, told}
use Rattle.lists.proofs.Refusals.{append_refused_by, append_passed}
use Rattle.body.specs.declared.Chassis.{Chassis}
use Rattle.table.specs.Layout as at
use Rattle.table.specs.Bounds.{stored_within}
use Rattle.refusals.specs.Shape.{count_of, forward_of}
use Rattle.refusals.specs.Steered.{all_steered_ok}
use Rattle.refusals.specs.After.{after, marked}
use Rattle.refusals.specs.declared.Refusal.TheVariants.{BadTurn, WildStep}
use Rattle.refusals.proofs.Settled.{settled_err, settled_ok}
use Rattle.aim.specs.Aim.{AimReply, aimed_table, chassis_tests, place_tests, refuse_aim, not_aimed, aimed_by, aim_of}
use Rattle.aim.proofs.Accepted.{all_numbered}

module _ (f : Format) (t : List Float) (m : List ℕ) (c : Chassis) where
  pub refused_early : (number : ℕ) → number ≡ first_failed (chassis_tests f t m c) → (number ≡ 0 → ⊥) → number ≡ refuse_aim f t m c
  unfolding refuse_aim
  refused_early number p q = append_refused_by (chassis_tests f t m c) (place_tests f c (count_of m) t) number p q

  -- the first tests passed, and the copy was worked out, whose steering was tested with the answer a
  module _ (work : List Float) (a : Bool) (h : 0 ≡ first_failed (chassis_tests f t m c)) (w : work ≡ aimed_table f c (count_of m) t) (s : a ≡ all_steered_ok f work (count_of m)) where
    refused_late : (number : ℕ) → number ≡ first_failed (place_tests f c (count_of m) t) → number ≡ refuse_aim f t m c
    unfolding refuse_aim
    refused_late number p = p ∙ sym (append_passed (chassis_tests f t m c) (place_tests f c (count_of m) t) (all_numbered f t m c) (sym h))

    pub aim_not_steered : a ≡ false → after (not_aimed 17) t m ≡ aim_of f t m c
    unfolding aim_of place_tests first_failed
    aim_not_steered q = settled_err BadTurn _ not_aimed _ t m (refused_late 17 (pick_no _ _ _ _ (rw (← w) (told a _ _ s q)) refl))

    -- and which was then tested with the answer b
    module _ (b : Bool) (o : a ≡ true) (p : b ≡ stored_within work (count_of m)) where
      pub aim_not_stored : b ≡ false → after (not_aimed 8) t m ≡ aim_of f t m c
      unfolding aim_of place_tests first_failed
      aim_not_stored q =
          settled_err WildStep _ not_aimed _ t m
          (refused_late 8 (pick_yes _ _ _ _ (rw (← w) (told a _ _ s o)) (pick_no _ _ _ _ (rw (← w) (told b _ _ p q)) refl)))

      pub aim_done : (reply : AimReply) (t' : List Float) → b ≡ true → reply ≡ aimed_by f (forward_of m) c (count_of m) work → t' ≡ work
          → after reply t' (marked m at.AIMED) ≡ aim_of f t m c
      unfolding aim_of place_tests first_failed
      aim_done reply t' q e k =
          settled_ok _ not_aimed _ _ t m
          (refused_late 0 (pick_yes _ _ _ _ (rw (← w) (told a _ _ s o)) (pick_yes _ _ _ _ (rw (← w) (told b _ _ p q)) refl))) (rw (e, k, w))
