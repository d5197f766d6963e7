-- A refused call of each kind, and the theorems of demand 1 on refusals applied to it: the kernel works out the number of its refusal list, and the theorem gives what the call answers and leaves. Assumes nothing.
use Prim.Native.Nat.{ℕ}
use mathlib.Core.Bool.{true, false}
use mathlib.Core.List.{List}
use mathlib.Core.Path.{◌≡◌, refl, ap, ◌∙◌}
use borrow.Author.Tests.{eqb-false}
use lib.Dec.{eqb}
use lib.Ieee.{Float, binary32}
use Rattle.real.specs.Number.{zero, power}
use Rattle.refusals.specs.After.{After, after, settled}
use Rattle.set_up.specs.SetUp.{set_up, refuse_set_up}
use Rattle.add_wheel.specs.Add.{add_wheel, refuse_add}
use Rattle.set_controls.specs.Controls.{set_controls, refuse_controls}
use Rattle.read_wheel.specs.Read.{read_wheel, refuse_read, not_read}
use Rattle.aim.specs.Aim.{aim_of, refuse_aim, not_aimed}
use Rattle.drive.specs.Drive.{drive_of, refuse_drive, not_driven}
use Rattle.demands.specs.History.{Drive, answered}
use Rattle.demands.specs.Answers.{is_one_of, answers}
use Rattle.demands.proofs.Demands as demands
use Rattle.witnesses.specs.Car.{flattened, pressed, rolling, road}
use Rattle.witnesses.specs.Calls.{fitted, left_by}
use Rattle.witnesses.specs.Opened.{opened}

-- the car with its wheels on, not aimed
abbrev t : List Float
t = (left_by fitted).table

abbrev m : List ℕ
m = (left_by fitted).whole

not_zero : {n : ℕ} (k : ℕ) → n ≡ k → eqb k 0 ≡ eqb 1 0 → n ≡ 0 → ⊥
not_zero {n} k e h = eqb-false n 0 (ap (λ (x : ℕ). eqb x 0) e ∙ h)

-- ---- set up with an axis 3: 1
set_up_refuses : refuse_set_up t m 3 0 ≡ 1
unfolding opened
set_up_refuses = refl

pub witness_set_up_number : (set_up t m 3 0).reply ≡ 1
witness_set_up_number = demands.set_up_number binary32 t m 3 0 ∙ set_up_refuses

pub witness_set_up_refused : set_up t m 3 0 ≡ after 1 t m
witness_set_up_refused = demands.set_up_refused binary32 t m 3 0 (not_zero 1 set_up_refuses refl) ∙ ap (λ (n : ℕ). after n t m) set_up_refuses

-- ---- add a wheel with no radius: 10
add_refuses : refuse_add t m flattened ≡ 10
unfolding opened
add_refuses = refl

pub witness_add_number : (add_wheel t m flattened).reply ≡ 10
witness_add_number = demands.add_number binary32 t m flattened ∙ add_refuses

pub witness_add_refused : add_wheel t m flattened ≡ after 10 t m
witness_add_refused = demands.add_refused binary32 t m flattened (not_zero 10 add_refuses refl) ∙ ap (λ (n : ℕ). after n t m) add_refuses

-- ---- the controls of wheel 3, of three: 4
controls_refuses : refuse_controls binary32 t m 3 (pressed zero zero) ≡ 4
unfolding opened
controls_refuses = refl

pub witness_controls_number : (set_controls binary32 t m 3 (pressed zero zero)).reply ≡ 4
witness_controls_number = demands.controls_number binary32 t m 3 (pressed zero zero) ∙ controls_refuses

pub witness_controls_refused : set_controls binary32 t m 3 (pressed zero zero) ≡ after 4 t m
witness_controls_refused = demands.controls_refused binary32 t m 3 (pressed zero zero) (not_zero 4 controls_refuses refl) ∙ ap (λ (n : ℕ). after n t m) controls_refuses

-- ---- aim a chassis that moves at 2^21: 2
aim_refuses : refuse_aim binary32 t m (rolling (power 21)) ≡ 2
unfolding opened
aim_refuses = refl

pub witness_aim_number : (aim_of binary32 t m (rolling (power 21))).reply.number ≡ 2
witness_aim_number = demands.aim_number binary32 t m (rolling (power 21)) ∙ aim_refuses

pub witness_aim_refused : aim_of binary32 t m (rolling (power 21)) ≡ after (not_aimed 2) t m
witness_aim_refused = demands.aim_refused binary32 t m (rolling (power 21)) (not_zero 2 aim_refuses refl) ∙ ap (λ (n : ℕ). after (not_aimed n) t m) aim_refuses

-- ---- drive when not aimed: 5
drive_refuses : refuse_drive binary32 t m road 3 ≡ 5
unfolding opened
drive_refuses = refl

pub witness_drive_number : (drive_of binary32 t m road 3).reply.number ≡ 5
witness_drive_number = demands.drive_number binary32 t m road 3 ∙ drive_refuses

pub witness_drive_refused : drive_of binary32 t m road 3 ≡ after (not_driven 5) t m
witness_drive_refused = demands.drive_refused binary32 t m road 3 (not_zero 5 drive_refuses refl) ∙ ap (λ (n : ℕ). after (not_driven n) t m) drive_refuses

-- ---- read when not driven: 5
read_refuses : refuse_read t m 0 ≡ 5
unfolding opened
read_refuses = refl

pub witness_read_number : (read_wheel binary32 t m 0).reply.number ≡ 5
witness_read_number = demands.read_number binary32 t m 0 ∙ read_refuses

pub witness_read_refused : read_wheel binary32 t m 0 ≡ after (not_read 5) t m
witness_read_refused = demands.read_refused binary32 t m 0 (not_zero 5 read_refuses refl) ∙ ap (λ (n : ℕ). after (not_read n) t m) read_refuses

-- ---- any refusal, and any answer
pub witness_refusal_changes_nothing : (done : After ℕ) → settled 5 (λ n. n) done t m ≡ after 5 t m
witness_refusal_changes_nothing done = demands.refusal_changes_nothing binary32 t m 5 (λ n. n) done (not_zero {n = 5} 5 refl refl)

pub witness_answer_in_list : is_one_of (answered binary32 (Drive road 3) (left_by fitted)).reply (answers (Drive road 3)) ≡ true
witness_answer_in_list = demands.answer_in_list binary32 (Drive road 3) (left_by fitted)

-- and its list has no 3, which an add may answer
pub drive_has_no_3 : is_one_of 3 (answers (Drive road 3)) ≡ false
unfolding opened
drive_has_no_3 = refl
