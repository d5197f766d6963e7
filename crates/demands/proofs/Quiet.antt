-- Calls that neither drive nor call for a new drive leave what a read gives of each wheel. In order: a call that was refused; set controls; any such call; a list of them. Assumes nothing.
use Prim.Native.Nat.{ℕ, ◌<◌}
use mathlib.Core.Bool.{Bool, true, false, not, ◌&&◌, ◌||◌, true≢false}
use mathlib.Core.List.{List, [], ◌∷◌}
use mathlib.Core.Path.{◌≡◌, refl, sym, ap, ◌∙◌}
use native.Mathlib.Omega.{arith}
use borrow.Author.Tests.{eqb-true, eqb-false, eq-eqb}
use lib.Dec.{eqb}
use lib.ListN.{length}
use lib.Ieee.{Float, Format}
use Rattle.lists.specs.Pick.{pick}
use Rattle.wheel.specs.declared.KeptControls.{KeptControls}
use Rattle.wheel.specs.Parts.{with_controls}
use Rattle.wheel.specs.Ray.{settled_centre}
use Rattle.table.specs.Layout as at
use Rattle.table.specs.Rows.{wheel_at, put_wheel}
use Rattle.table.proofs.Laws.{wheel_put, wheel_other}
use Rattle.refusals.specs.After.{After, after, settled}
use Rattle.refusals.proofs.Says.{Shape}
use Rattle.set_up.specs.SetUp.{set_up}
use Rattle.add_wheel.specs.Add.{add_wheel}
use Rattle.set_controls.specs.Controls.{set_controls}
use Rattle.set_controls.proofs.Accepted.{set_controls_says}
use Rattle.read_wheel.specs.Read.{reading_of, read_wheel}
use Rattle.aim.specs.Aim.{aim_of, not_aimed, aimed_by}
use Rattle.drive.specs.Drive.{drive_under, drive_of, not_driven, driven_by}
use Rattle.demands.specs.History.{State, Call, SetUp, AddWheel, SetControls, Aim, Drive, ReadWheel, answered, accepted, run, run_all, drives, undrives}
use Rattle.demands.specs.Settled.{quiet}
use Rattle.demands.proofs.Marks.{settled_has, left_by}

pub not_true : (b : Bool) → not b ≡ true → b ≡ false
not_true true h = sym h
not_true false h = refl

pub both_true : (a b : Bool) → a && b ≡ true → (a ≡ true) × (b ≡ true)
both_true true b h = (refl, h)
both_true false b h = absurd (true≢false (sym h))

-- ---- a call whose number is not 0
refused_keeps : {R : Type 0} (of : R → ℕ) (number : ℕ) (refused : ℕ → R) (done : After R) (t : List Float) (m : List ℕ) → of done.reply ≡ 0 → eqb (of (settled number refused done t m).reply) 0 ≡ false
    → (settled number refused done t m).table ≡ t
unfolding settled pick
refused_keeps of number refused done t m q = either (eqb number 0)
  where
    either : (b : Bool) → eqb (of (pick b done (after (refused number) t m)).reply) 0 ≡ false → (pick b done (after (refused number) t m)).table ≡ t
    either true e = absurd (true≢false (sym (eq-eqb _ 0 q) ∙ e))
    either false e = refl

-- ---- set controls of wheel j
controls_keep : (f : Format) (t : List Float) (i j : ℕ) (c : KeptControls) → length t ≡ at.SIZE → j < at.WHEELS → reading_of f (wheel_at (put_wheel t j (with_controls (wheel_at t j) c)) i) ≡ reading_of f (wheel_at t i)
unfolding reading_of settled_centre
controls_keep f t i j c s l = either (eqb i j) refl
  where
    either : (b : Bool) → eqb i j ≡ b → reading_of f (wheel_at (put_wheel t j (with_controls (wheel_at t j) c)) i) ≡ reading_of f (wheel_at t i)
    either true e = rw (eqb-true i j e) (ap (reading_of f) (wheel_put t j (with_controls (wheel_at t j) c) s l))
    either false e = ap (reading_of f) (wheel_other t j i (with_controls (wheel_at t j) c) (eqb-false i j e) s l)

-- ---- any call
abbrev Stays : Format → ℕ → State → List Float → List ℕ → Type 0
Stays f i s t m = reading_of f (wheel_at t i) ≡ reading_of f (wheel_at s.table i)

of_same : (f : Format) (i : ℕ) (s : State) (t : List Float) → t ≡ s.table → reading_of f (wheel_at t i) ≡ reading_of f (wheel_at s.table i)
of_same f i s t e = ap (λ (x : List Float). reading_of f (wheel_at x i)) e

call_stays : (f : Format) (c : Call) (s : State) (i : ℕ) → Shape s.table s.whole → not ((drives c || undrives c) && accepted f c s) ≡ true → reading_of f (wheel_at (run f c s).table i) ≡ reading_of f (wheel_at s.table i)
unfolding run accepted answered drives undrives set_up add_wheel set_controls aim_of aimed_by drive_of drive_under driven_by read_wheel
call_stays f (SetUp up forward) s i shape h = of_same f i s _ (refused_keeps (λ n. n) _ _ _ s.table s.whole refl (not_true _ h))
call_stays f (AddWheel settings) s i shape h = of_same f i s _ (refused_keeps (λ n. n) _ _ _ s.table s.whole refl (not_true _ h))
call_stays f (SetControls j controls) s i shape h =
    settled_has (Stays f i s) _ _ _ s.table s.whole refl
    (λ z. let a = set_controls_says f s.table s.whole j controls z in controls_keep f s.table i j _ shape.sized (let u = a.used in let r = a.shape.room in omega arith))
call_stays f (Aim chassis) s i shape h = of_same f i s _ (refused_keeps (λ r. r.number) _ not_aimed _ s.table s.whole refl (not_true _ h))
call_stays f (Drive frame n) s i shape h = of_same f i s _ (refused_keeps (λ r. r.number) _ not_driven _ s.table s.whole refl (not_true _ h))
call_stays f (ReadWheel j) s i shape h = settled_has (Stays f i s) _ _ _ s.table s.whole refl (λ z. refl)

-- ---- a list of calls
pub quiet_stays : (f : Format) (l : List Call) (s : State) (i : ℕ) → Shape s.table s.whole → quiet f l s ≡ true → reading_of f (wheel_at (run_all f l s).table i) ≡ reading_of f (wheel_at s.table i)
unfolding run_all run quiet
quiet_stays f [] s i shape h = refl
quiet_stays f (c ∷ l) s i shape h =
    let p = both_true _ _ h in
    quiet_stays f l (run f c s) i (left_by f c s shape).shape p.1 ∙ call_stays f c s i shape p.0
