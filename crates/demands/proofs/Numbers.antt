-- The number that a call answers is one of those that it can answer: its refusal list has no other. Assumes nothing.
use Prim.Native.Nat.{ℕ}
use mathlib.Core.Bool.{Bool, true, false}
use mathlib.Core.List.{List, [], ◌∷◌}
use mathlib.Core.Path.{◌≡◌, refl}
use lib.Ieee.{Float, Format}
use Rattle.lists.specs.Pick.{pick}
use Rattle.lists.specs.All.{all}
use Rattle.lists.specs.Refusal.{Test, first_failed}
use Rattle.lists.proofs.Picks.{pick_true}
use Rattle.refusals.specs.After.{After, settled}
use Rattle.refusals.proofs.Settled.{settled_number}
use Rattle.set_up.specs.SetUp.{set_up, refuse_set_up}
use Rattle.add_wheel.specs.Add.{add_wheel, refuse_add}
use Rattle.set_controls.specs.Controls.{set_controls, refuse_controls}
use Rattle.read_wheel.specs.Read.{read_wheel, refuse_read, not_read, reading_of}
use Rattle.aim.specs.Aim.{aim_of, refuse_aim, not_aimed, aimed_by, chassis_tests, place_tests}
use Rattle.drive.specs.Drive.{drive_under, drive_of, refuse_under, refuse_drive, not_driven, driven_by, step_tests}
use Rattle.early.specs.Early.{early_tests, frame_tests, number_tests, range_tests}
use Rattle.demands.specs.History.{State, Call, SetUp, AddWheel, SetControls, Aim, Drive, ReadWheel, answered}
use Rattle.demands.specs.Answers.{is_one_of, answers}

-- a test whose number is allowed
abbrev among : List ℕ → Test → Bool
among allowed t = is_one_of t.number allowed

first_failed_among : (allowed : List ℕ) (l : List Test) → is_one_of 0 allowed ≡ true → all (among allowed) l ≡ true → is_one_of (first_failed l) allowed ≡ true
unfolding all first_failed
first_failed_among allowed [] z h = z
first_failed_among allowed (t ∷ l) z h =
    let p = pick_true (among allowed t) (all (among allowed) l) h in
    either t.holds _ _ (first_failed_among allowed l z p.1) p.0
  where
    either : (b : Bool) (x y : ℕ) → is_one_of x allowed ≡ true → is_one_of y allowed ≡ true → is_one_of (pick b x y) allowed ≡ true
    either true x y p q = unfold pick in p
    either false x y p q = unfold pick in q

settled_among : {R : Type 0} (of : R → ℕ) (allowed : List ℕ) (l : List Test) (refused : ℕ → R) (done : After R) (t : List Float) (m : List ℕ) → of (refused (first_failed l)) ≡ first_failed l → of done.reply ≡ 0
    → is_one_of 0 allowed ≡ true → all (among allowed) l ≡ true → is_one_of (of (settled (first_failed l) refused done t m).reply) allowed ≡ true
settled_among of allowed l refused done t m p q z h = rw (settled_number (first_failed l) refused done t m of p q) (first_failed_among allowed l z h)

pub number_among : (f : Format) (c : Call) (s : State) → is_one_of (answered f c s).reply (answers c) ≡ true
unfolding answered answers set_up add_wheel set_controls aim_of drive_of drive_under read_wheel not_aimed aimed_by not_driven driven_by not_read reading_of refuse_set_up refuse_add refuse_controls refuse_aim chassis_tests place_tests refuse_drive refuse_under early_tests frame_tests number_tests range_tests step_tests refuse_read
number_among f (SetUp up forward) s = settled_among (λ n. n) _ _ _ _ s.table s.whole refl refl (unfold is_one_of in refl) (unfold all in unfold pick in unfold is_one_of in refl)
number_among f (AddWheel settings) s = settled_among (λ n. n) _ _ _ _ s.table s.whole refl refl (unfold is_one_of in refl) (unfold all in unfold pick in unfold is_one_of in refl)
number_among f (SetControls i controls) s = settled_among (λ n. n) _ _ _ _ s.table s.whole refl refl (unfold is_one_of in refl) (unfold all in unfold pick in unfold is_one_of in refl)
number_among f (Aim chassis) s = settled_among (λ r. r.number) _ _ not_aimed _ s.table s.whole refl refl (unfold is_one_of in refl) (unfold all in unfold pick in unfold is_one_of in refl)
number_among f (Drive frame n) s = settled_among (λ r. r.number) _ _ not_driven _ s.table s.whole refl refl (unfold is_one_of in refl) (unfold all in unfold pick in unfold is_one_of in refl)
number_among f (ReadWheel i) s = settled_among (λ r. r.number) _ _ not_read _ s.table s.whole refl refl (unfold is_one_of in refl) (unfold all in unfold pick in unfold is_one_of in refl)
