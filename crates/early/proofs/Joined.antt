-- The three lists of tests of a drive before its step, one after another, by the number k that a callee answered. In order: the first refuses; the second refuses; the third decides. Assumes nothing.
use Prim.Native.Nat.{ℕ}
use mathlib.Core.List.{List, ◌++◌}
use mathlib.Core.Path.{◌≡◌, sym, ◌∙◌}
use lib.ListN.{length}
use lib.Ieee.{Float, Format}
use Rattle.lists.specs.Refusal.{first_failed}
use Rattle.lists.proofs.Refusals.{append_refused_by, append_passed}
use Rattle.ground.specs.Frame.{Frame}
use Rattle.early.specs.Early.{frame_tests, number_tests, range_tests, early_tests}
use Rattle.early.proofs.Accepted.{frame_numbered, handed_numbered}

module _ (f : Format) (t : List Float) (m : List ℕ) (r : Frame) (n k : ℕ) where
  pub refused_frame : k ≡ first_failed (frame_tests t m r.bodies r.dynamic r.answer n) → (k ≡ 0 → ⊥) → k ≡ first_failed (early_tests f t m r n)
  unfolding early_tests
  refused_frame p q = append_refused_by _ _ k (append_refused_by _ _ k p q) q

  -- the rows are the table's
  module _ (frame : 0 ≡ first_failed (frame_tests t m r.bodies r.dynamic r.answer n)) (rows : List Float) (e : rows ≡ t) where
    passed : first_failed (frame_tests t m r.bodies r.dynamic r.answer n ++ number_tests f t r.dt r.bodies r.answer n) ≡ first_failed (number_tests f rows r.dt r.bodies r.answer n)
    passed = rw e (append_passed _ _ (frame_numbered t m r.bodies r.dynamic r.answer n) (sym frame))

    pub refused_numbers : k ≡ first_failed (number_tests f rows r.dt r.bodies r.answer n) → (k ≡ 0 → ⊥) → k ≡ first_failed (early_tests f t m r n)
    unfolding early_tests
    refused_numbers p q = append_refused_by _ _ k (p ∙ sym passed) q

    pub joined : 0 ≡ first_failed (number_tests f rows r.dt r.bodies r.answer n) → k ≡ first_failed (range_tests f rows r.dt r.bodies (length r.dynamic) n)
        → k ≡ first_failed (early_tests f t m r n)
    unfolding early_tests
    joined p q =
        let last = append_passed _ (range_tests f t r.dt r.bodies (length r.dynamic) n) (handed_numbered f t m r.dt r.bodies r.dynamic r.answer n) (passed ∙ sym p) in
        rw last (rw e at q)
