-- Laws on the lists of a drive. In order: what lists that fit together tell; that they fit where nothing was refused; the flags as they are lent on; what the drive is given. Assumes nothing.
use Prim.Native.Nat.{ℕ, ◌*◌, ◌≤◌}
use mathlib.Core.Bool.{Bool, true, false}
use mathlib.Core.List.{List}
use mathlib.Core.Path.{◌≡◌}
use borrow.Author.Tests.{eqb-true, leb-true}
use lib.ListN.{length, take, replicate}
use lib.Ieee.{Float}
use Rattle.lists.specs.Part.{paste}
use Rattle.lists.specs.Refusal.{first_failed}
use Rattle.lists.proofs.Picks.{pick_true, pick_zero}
use Rattle.lists.proofs.Parts.{front_of_paste}
use Rattle.lists.proofs.Turns.{length_listed}
use Rattle.wheel.specs.declared.RayAnswer.{RayAnswer}
use Rattle.wheel.specs.declared.RayAnswer.TheVariants.{Nothing}
use Rattle.table.specs.Layout as table
use Rattle.wheel.specs.Ray.{answer_at}
use Rattle.ground.specs.Frame.{frame}
use Rattle.flat_in.specs.Layout as at
use Rattle.flat_in.specs.Lists.{flags_fit, answers_fit, lists_fit, list_tests, flag_in, flags_in, answer_in, given_in, answers_in, frame_in}

pub record Fitting (dynamic kinds named : List ℕ) (rays : List Float) : Type 0 where
  pub room : length dynamic ≤ table.BODIES
  pub wheels : length kinds ≤ table.WHEELS
  pub names : length named ≡ length kinds
  pub sized : length rays ≡ length kinds * at.RAY

pub lists_say : (dynamic kinds named : List ℕ) (rays : List Float) → lists_fit dynamic kinds named rays ≡ true → Fitting dynamic kinds named rays
unfolding lists_fit flags_fit answers_fit
lists_say dynamic kinds named rays h =
    let p = pick_true _ _ h in
    let q = pick_true _ _ p.1 in
    let r = pick_true _ _ q.1 in
    let s = pick_true _ _ r.1 in
    record { room = leb-true _ _ (pick_true _ _ p.0).0; wheels = leb-true _ _ q.0; names = eqb-true _ _ r.0; sized = eqb-true _ _ s.0 }

pub lists_fit_lem : (t : List Float) (m dynamic kinds named : List ℕ) (rays : List Float) → first_failed (list_tests t m dynamic kinds named rays) ≡ 0
    → lists_fit dynamic kinds named rays ≡ true
unfolding list_tests first_failed
lists_fit_lem t m dynamic kinds named rays h = (pick_zero _ _ _ (pick_zero _ _ _ (pick_zero _ _ _ h).1).1).0

length_flags : (dynamic : List ℕ) → length (flags_in dynamic) ≡ length dynamic
unfolding flags_in
length_flags dynamic = length_listed (flag_in dynamic) (length dynamic) 0

pub flags_lent : (flags : List Bool) (dynamic : List ℕ) → flags ≡ paste (replicate table.BODIES false) 0 (flags_in dynamic) → take (length dynamic) flags ≡ flags_in dynamic
flags_lent flags dynamic e = rw e (front_of_paste (replicate table.BODIES false) (flags_in dynamic) (length dynamic) (length_flags dynamic))

pub length_given : (kinds named : List ℕ) (rays : List Float) → length (given_in kinds named rays) ≡ length kinds
unfolding given_in
length_given kinds named rays = length_listed (answer_in kinds named rays) (length kinds) 0

pub answers_lent : (answers : List RayAnswer) (kinds named : List ℕ) (rays : List Float) → answers ≡ answers_in kinds named rays → take (length kinds) answers ≡ given_in kinds named rays
unfolding answers_in
answers_lent answers kinds named rays e = rw e (front_of_paste (replicate table.WHEELS Nothing) (given_in kinds named rays) (length kinds) (length_given kinds named rays))

pub frame_is : (dt : Float) (bodies : List Float) (dynamic kinds named : List ℕ) (rays : List Float) (flags : List Bool) (answers : List RayAnswer)
    → flags ≡ flags_in dynamic → answers ≡ given_in kinds named rays → frame dt bodies flags (answer_at answers) ≡ frame_in dt bodies dynamic kinds named rays
unfolding frame_in
frame_is dt bodies dynamic kinds named rays flags answers p q = rw (p, q)
