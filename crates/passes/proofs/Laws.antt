-- Laws on the passes over the wheels of a table. In order: a loop that moves the chassis by each wheel (h); one wheel changed (g),
-- and a loop that changes each; what a pass over the first n wheels leaves of the length, the chassis and each wheel; each pass at a wheel; the two loops' laws as sets. Assumes nothing.
use Prim.Native.Nat.{ℕ, zero, suc, ◌+◌, ◌≤◌, ◌<◌}
use mathlib.Core.List.{List}
use mathlib.Core.Path.{◌≡◌, refl, ap, ◌∙◌}
use native.Mathlib.Decide.{dec_lt}
use native.Mathlib.Omega.{arith}
use lib.ListN.{length}
use lib.Ieee.{Float, Format}
use Rattle.lists.specs.Counted.{iter}
use Rattle.lists.proofs.Turns.{iter_keeps, Turning, turning_start, turning_again, turning_done}
use Rattle.body.specs.declared.Body.{Body}
use Rattle.body.specs.declared.Chassis.{Chassis}
use Rattle.wheel.specs.declared.Wheel.{Wheel}
use Rattle.tyre.specs.Grip.{rescaled_of}
use Rattle.tyre.specs.declared.WheelTuning.{WheelTuning}
use Rattle.wheel.specs.declared.Directions.{Directions}
use Rattle.wheel.specs.declared.RayAnswer.{RayAnswer}
use Rattle.wheel.specs.Parts.{with_friction, friction_in}
use Rattle.wheel.specs.Ray.{ray_cast}
use Rattle.road.specs.Step.{suspended_of, update_rotation}
use Rattle.table.specs.Layout as at
use Rattle.table.specs.Rows.{wheel_at, put_wheel, chassis_at}
use Rattle.table.proofs.Laws.{length_put, wheel_put, wheel_other, chassis_stays}
use Rattle.ground.specs.Frame.{Frame, grounded_at}
use Rattle.passes.specs.Passes.{changed, each_wheel, moved, each_moves, cast_at, casts, suspend_at, suspensions, demand_at, demands, rescale_at, rescales, spin_at, spins}

-- ---- a loop that moves the chassis by each wheel that it reads
module _ (h : ℕ → Wheel → Chassis → Chassis) (n : ℕ) (t : List Float) (start : Chassis) where
  abbrev pub Moving : ℕ → Chassis → Type 0
  Moving i c = Turning (moved h t) n start i c

  pub moving_again : (i : ℕ) (c c' : Chassis) (w : Wheel) → Moving i c → i < n → w ≡ wheel_at t i → c' ≡ h i w c → Moving (i + 1) c'
  unfolding moved
  moving_again i c c' w m l p q = turning_again (moved h t) n start i c c' m l (rw (q, p))

  pub moving_done : (i : ℕ) (c : Chassis) → Moving i c → n ≤ i → c ≡ each_moves h n t start
  unfolding each_moves
  moving_done i c m l = turning_done (moved h t) n start i c m l

module _ (g : ℕ → Wheel → Wheel) where
  -- ---- a wheel read, changed and put
  pub changed_of_put : (i : ℕ) (t t' : List Float) (w w' : Wheel) → w ≡ wheel_at t i → w' ≡ g i w → t' ≡ put_wheel t i w' → t' ≡ changed g i t
  unfolding changed
  changed_of_put i t t' w w' p q r = rw (r, q, p)

  -- ---- what a change of wheel i leaves
  length_changed : (i : ℕ) (t : List Float) → length t ≡ at.SIZE → i < at.WHEELS → length (changed g i t) ≡ at.SIZE
  unfolding changed
  length_changed i t s l = length_put t i _ s l

  chassis_changed : (i : ℕ) (t : List Float) → length t ≡ at.SIZE → i < at.WHEELS → chassis_at (changed g i t) ≡ chassis_at t
  unfolding changed
  chassis_changed i t s l = chassis_stays t i _ s l

  pub wheel_changed : (i : ℕ) (t : List Float) → length t ≡ at.SIZE → i < at.WHEELS → wheel_at (changed g i t) i ≡ g i (wheel_at t i)
  unfolding changed
  wheel_changed i t s l = wheel_put t i _ s l

  pub wheel_unchanged : (i j : ℕ) (t : List Float) → (j ≡ i → ⊥) → length t ≡ at.SIZE → i < at.WHEELS → wheel_at (changed g i t) j ≡ wheel_at t j
  unfolding changed
  wheel_unchanged i j t ne s l = wheel_other t i j _ ne s l

  -- ---- a loop that changes each wheel
  module _ (n : ℕ) (start : List Float) where
    pub record Passing (i : ℕ) (t : List Float) : Type 0 where
      pub turns : Turning (changed g) n start i t
      pub size : length t ≡ at.SIZE

    pub passing_start : length start ≡ at.SIZE → Passing 0 start
    passing_start s = record { turns = turning_start (changed g) n start; size = s }

    pub passing_again : (i : ℕ) (t t' : List Float) → Passing i t → i < n → n ≤ at.WHEELS → t' ≡ changed g i t → Passing (i + 1) t'
    passing_again i t t' p u l e = record {
      turns = turning_again (changed g) n start i t t' p.turns u e;
      size = ap length e ∙ length_changed i t p.size (omega arith);
    }

    pub passing_done : (i : ℕ) (t : List Float) → Passing i t → n ≤ i → t ≡ each_wheel g n start
    unfolding each_wheel
    passing_done i t p l = turning_done (changed g) n start i t p.turns l

  -- ---- what k turns from i on leave
  wheel_outside : (k i j : ℕ) (t : List Float) → length t ≡ at.SIZE → i + k ≤ at.WHEELS → ((m : ℕ) → i ≤ m → m < i + k → j ≡ m → ⊥)
      → wheel_at (iter (changed g) k i t) j ≡ wheel_at t j
  unfolding iter
  wheel_outside zero i j t s l out = refl
  wheel_outside (suc k) i j t s l out =
      wheel_outside k (suc i) j (changed g i t) (length_changed i t s (omega arith)) (omega arith) (λ m a b. out m (omega arith) (omega arith))
      ∙ wheel_unchanged i j t (out i (omega arith) (omega arith)) s (omega arith)

  wheel_inside : (k i j : ℕ) (t : List Float) → length t ≡ at.SIZE → i + k ≤ at.WHEELS → i ≤ j → j < i + k
      → wheel_at (iter (changed g) k i t) j ≡ g j (wheel_at t j)
  unfolding iter
  wheel_inside zero i j t s l a b = absurd (omega arith)
  wheel_inside (suc k) i j t s l a b =
      let s' = length_changed i t s (omega arith) in
      elim (dec_lt i j) [
        | yes u ↦ wheel_inside k (suc i) j (changed g i t) s' (omega arith) u (omega arith) ∙ ap (g j) (wheel_unchanged i j t (λ e. omega arith) s (omega arith))
        | no u ↦ (
            let e : j ≡ i = omega arith in
            rw e (wheel_outside k (suc i) i (changed g i t) s' (omega arith) (λ m c d q. omega arith) ∙ wheel_changed i t s (omega arith)))
      ]

  -- ---- what a pass over the first n wheels leaves
  module _ (n : ℕ) (t : List Float) (s : length t ≡ at.SIZE) (l : n ≤ at.WHEELS) where
    pub length_each : length (each_wheel g n t) ≡ at.SIZE
    unfolding each_wheel
    length_each = iter_keeps (changed g) (λ x. length x ≡ at.SIZE) n (λ i x u p. length_changed i x p (omega arith)) n 0 t (omega arith) s

    pub chassis_each : chassis_at (each_wheel g n t) ≡ chassis_at t
    unfolding each_wheel
    chassis_each =
        (iter_keeps (changed g) (λ x. (length x ≡ at.SIZE) × (chassis_at x ≡ chassis_at t)) n
        (λ i x u p. (length_changed i x p.0 (omega arith), chassis_changed i x p.0 (omega arith) ∙ p.1)) n 0 t (omega arith) (s, refl)).1

    -- a wheel of the pass, and one past it
    pub wheel_each : (i : ℕ) → i < n → wheel_at (each_wheel g n t) i ≡ g i (wheel_at t i)
    unfolding each_wheel
    wheel_each i h = wheel_inside n 0 i t s (omega arith) (omega arith) (omega arith)

    pub wheel_past : (i : ℕ) → n ≤ i → wheel_at (each_wheel g n t) i ≡ wheel_at t i
    unfolding each_wheel
    wheel_past i h = wheel_outside n 0 i t s (omega arith) (λ m a b e. omega arith)

-- ---- each pass at a wheel i of the first n
module _ (f : Format) (n : ℕ) (t : List Float) (s : length t ≡ at.SIZE) (l : n ≤ at.WHEELS) (i : ℕ) (h : i < n) where
  module _ (tune : WheelTuning → WheelTuning) where
    pub wheel_casts : (chassis : Body) (answer : ℕ → RayAnswer) → wheel_at (casts f tune chassis answer n t) i ≡ ray_cast f (tune (wheel_at t i).settings.tuning) chassis (answer i) (wheel_at t i)
    unfolding casts cast_at
    wheel_casts chassis answer = wheel_each (cast_at f tune chassis answer) n t s l i h

    pub wheel_suspensions : (invmass : Float) (answer : ℕ → RayAnswer) → wheel_at (suspensions f tune invmass answer n t) i ≡ suspended_of f (tune (wheel_at t i).settings.tuning) invmass (grounded_at answer i) (wheel_at t i)
    unfolding suspensions suspend_at
    wheel_suspensions invmass answer = wheel_each (suspend_at f tune invmass answer) n t s l i h

    pub wheel_demands : (r : Frame) (chassis : Body) (grounded : ℕ) (d : ℕ → Directions) → wheel_at (demands f tune r chassis grounded d n t) i ≡ demand_at f tune r chassis grounded d i (wheel_at t i)
    unfolding demands
    wheel_demands r chassis grounded d = wheel_each (demand_at f tune r chassis grounded d) n t s l i h

  pub wheel_rescales : wheel_at (rescales f n t) i ≡ with_friction (wheel_at t i) (rescaled_of f (friction_in (wheel_at t i)))
  unfolding rescales rescale_at
  wheel_rescales = wheel_each (rescale_at f) n t s l i h

  pub wheel_spins : (dt : Float) (chassis : Body) (answer : ℕ → RayAnswer) → wheel_at (spins f dt chassis answer n t) i ≡ update_rotation f dt (grounded_at answer i) chassis (wheel_at t i)
  unfolding spins spin_at
  wheel_spins dt chassis answer = wheel_each (spin_at f dt chassis answer) n t s l i h

-- ---- what a loop of a pass cites, and one that moves the chassis
pub ruleset passing = (passing_start, passing_again, passing_done)

pub ruleset moving = (turning_start, moving_again, moving_done)
