-- What a history leaves: the shape that refusal 1 asks for, and the mark that the history says. In order: one call that ends by `settled`; each of the six calls; a list of calls. Assumes nothing.
use Prim.Native.Nat.{ℕ, ◌+◌, ◌<◌}
use mathlib.Core.Bool.{Bool, true, false, not, ◌&&◌, ◌||◌, and-true, and-false}
use mathlib.Core.List.{List, [], ◌∷◌}
use mathlib.Core.Path.{◌≡◌, refl, sym, ap, ◌∙◌}
use native.Mathlib.Omega.{arith}
use borrow.Author.Tests.{eqb-true, eqb-false, eq-eqb, ne_eqb}
use lib.Dec.{eqb}
use lib.Ieee.{Float, Format}
use lib.ListN.{length, set, replicate, length-replicate, length-set}
use Rattle.lists.specs.Pick.{pick}
use Rattle.real.specs.Number as real
use Rattle.table.specs.Layout as at
use Rattle.table.specs.Rows.{put_wheel, wheel_at}
use Rattle.table.proofs.Laws.{length_put}
use Rattle.refusals.specs.Shape.{count_of, mark_of}
use Rattle.refusals.specs.After.{After, after, settled, marked}
use Rattle.refusals.proofs.Says.{Shape}
use Rattle.refusals.proofs.Settled.{settled_refused, settled_done, settled_number}
use Rattle.set_up.specs.SetUp.{set_up, refuse_set_up}
use Rattle.add_wheel.specs.Add.{add_wheel, refuse_add, new_wheel}
use Rattle.wheel.specs.Parts.{with_controls}
use Rattle.wheel.specs.Steering.{kept_controls}
use Rattle.set_controls.specs.Controls.{set_controls, refuse_controls, unaimed}
use Rattle.read_wheel.specs.Read.{read_wheel, refuse_read, not_read, reading_of}
use Rattle.set_up.proofs.Accepted.{SetUpTested, set_up_says}
use Rattle.add_wheel.proofs.Accepted.{add_says}
use Rattle.set_controls.proofs.Accepted.{set_controls_says}
use Rattle.aim.specs.Aim.{aim_of, refuse_aim, not_aimed, aimed_by, aimed_table}
use Rattle.passes.specs.Passes.{stored}
use Rattle.drive.specs.Drive.{drive_under, drive_of, refuse_under, refuse_drive, not_driven, driven_by}
use Rattle.aim.proofs.Accepted.{aim_says}
use Rattle.drive.proofs.Accepted.{drive_says}
use Rattle.demands.specs.History.{State, state, Call, SetUp, AddWheel, SetControls, Aim, Drive, ReadWheel, answered, accepted, run, run_all, drives, undrives, none_undrives, driven_since}
use Rattle.demands.proofs.Shapes.{shape_other_table, shape_marked, shape_counted, mark_marked}
use Rattle.demands.proofs.Sizes.{length_aimed, length_whole_step}

-- the mark is driven
abbrev pub is_driven : List ℕ → Bool
is_driven m = eqb (mark_of m) at.DRIVEN

-- what a call leaves of the whole numbers m: the shape, and a driven mark where the call `makes` one and was accepted, or where there was one, unless the call `takes` it and was accepted
pub record Left (makes takes : Bool) (m : List ℕ) (x : After ℕ) : Type 0 where
  pub shape : Shape x.table x.whole
  pub mark : is_driven x.whole ≡ (makes && eqb x.reply 0) || (is_driven m && not (takes && eqb x.reply 0))

-- ---- what holds of the table and the whole numbers before a call, and after it where it is accepted, holds after it
pub settled_has : {R : Type 0} (P : List Float → List ℕ → Type 0) (number : ℕ) (refused : ℕ → R) (done : After R) (t : List Float) (m : List ℕ) → P t m → (number ≡ 0 → P done.table done.whole)
    → P (settled number refused done t m).table (settled number refused done t m).whole
unfolding settled pick
settled_has P number refused done t m h k = either (eqb number 0) refl
  where
    either : (b : Bool) → eqb number 0 ≡ b → P (pick b done (after (refused number) t m)).table (pick b done (after (refused number) t m)).whole
    either true e = k (eqb-true number 0 e)
    either false e = h

-- ---- one call, whose number is `of` its reply
module _ {R : Type 0} (of : R → ℕ) (makes takes : Bool) (number : ℕ) (refused : ℕ → R) (done : After R) (t : List Float) (m : List ℕ) where
  pub left_of_settled : of (refused number) ≡ number → of done.reply ≡ 0 → Shape t m → (number ≡ 0 → Shape done.table done.whole)
      → (number ≡ 0 → is_driven done.whole ≡ pick makes true (pick takes false (is_driven m)))
      → (x : After R) → x ≡ settled number refused done t m → Left makes takes m (after (of x.reply) x.table x.whole)
  unfolding pick
  left_of_settled p q s shape mark x e = either (eqb number 0) refl
    where
      done_mark : (v u d a : Bool) → a ≡ true → pick v true (pick u false d) ≡ (v && a) || (d && not (u && a))
      done_mark true u d a h = rw h
      done_mark false true d a h = rw (h, and-false)
      done_mark false false d a h = sym (and-true d)

      kept_mark : (v u d a : Bool) → a ≡ false → d ≡ (v && a) || (d && not (u && a))
      kept_mark v u d a h = rw (h, and-false v, and-false u) (sym (and-true d))

      either : (b : Bool) → eqb number 0 ≡ b → Left makes takes m (after (of x.reply) x.table x.whole)
      either true h =
          let z = eqb-true number 0 h in
          let y : x ≡ done = e ∙ sym (settled_done number number refused done done t m refl z refl) in
          rw y (record { shape = shape z; mark = mark z ∙ done_mark makes takes (is_driven m) _ (eq-eqb _ 0 q) })
      either false h =
          let z : number ≡ 0 → ⊥ = eqb-false number 0 h in
          let y : x ≡ after (refused number) t m = e ∙ sym (settled_refused number number refused (refused number) done t m refl z refl) in
          rw y (record { shape = s; mark = kept_mark makes takes (is_driven m) _ (ap (λ (k : ℕ). eqb k 0) p ∙ h) })

-- ---- each call
abbrev LeftBy : Format → Call → State → Type 0
LeftBy f c s = Left (drives c) (undrives c) s.whole (answered f c s)

pub set_up_shape : {t : List Float} {m : List ℕ} (up forward : ℕ) → SetUpTested t m up forward → Shape (replicate at.SIZE real.zero) (0 ∷ at.NEW ∷ up ∷ forward ∷ [])
set_up_shape up forward a =
    record { sized = length-replicate at.SIZE real.zero; four = refl; room = omega arith; marked = omega arith; up = a.up_axis; forward = a.forward_axis }

marked_not_driven : (m : List ℕ) (mark : ℕ) → length m ≡ at.WHOLE → mark < at.DRIVEN → is_driven (marked m mark) ≡ false
marked_not_driven m mark four l = rw (mark_marked m four mark) (ne_eqb mark at.DRIVEN (λ (e : mark ≡ at.DRIVEN). omega arith))

marked_driven : (m : List ℕ) → length m ≡ at.WHOLE → is_driven (marked m at.DRIVEN) ≡ true
marked_driven m four = eq-eqb _ at.DRIVEN (mark_marked m four at.DRIVEN)

unaimed_driven : (m : List ℕ) → length m ≡ at.WHOLE → is_driven (unaimed m) ≡ is_driven m
unfolding unaimed pick
unaimed_driven m four = either (eqb (mark_of m) at.AIMED) refl
  where
    either : (b : Bool) → eqb (mark_of m) at.AIMED ≡ b → is_driven (pick b (marked m at.NEW) m) ≡ is_driven m
    either true h =
        let e = eqb-true (mark_of m) at.AIMED h in
        marked_not_driven m at.NEW four (omega arith) ∙ sym (ne_eqb (mark_of m) at.DRIVEN (λ k. omega arith))
    either false h = refl

unaimed_shape : {t : List Float} {m : List ℕ} → Shape t m → Shape t (unaimed m)
unfolding unaimed pick
unaimed_shape {t} {m} s = either (eqb (mark_of m) at.AIMED)
  where
    either : (b : Bool) → Shape t (pick b (marked m at.NEW) m)
    either true = shape_marked s at.NEW (omega arith)
    either false = s

pub left_by : (f : Format) (c : Call) (s : State) → Shape s.table s.whole → LeftBy f c s
unfolding answered drives undrives set_up add_wheel set_controls aim_of drive_of drive_under refuse_drive read_wheel not_aimed aimed_by not_driven driven_by not_read reading_of pick
left_by f (SetUp up forward) s h =
    left_of_settled (λ n. n) _ _ (refuse_set_up s.table s.whole up forward) (λ n. n) _ s.table s.whole refl refl h
    (λ z. set_up_shape up forward (set_up_says s.table s.whole up forward z)) (λ z. refl) _ refl
left_by f (AddWheel settings) s h =
    left_of_settled (λ n. n) _ _ (refuse_add s.table s.whole settings) (λ n. n) _ s.table s.whole refl refl h
    (λ z.
    let a = add_says s.table s.whole settings z in
    shape_marked
    (shape_counted (shape_other_table a.shape (put_wheel s.table (count_of s.whole) (new_wheel settings)) (length_put s.table (count_of s.whole) (new_wheel settings) a.shape.sized a.free))
    (count_of s.whole + 1)
    (let r = a.free in omega arith)) at.NEW (omega arith))
    (λ z. marked_not_driven (set s.whole at.COUNT (count_of s.whole + 1)) at.NEW (length-set s.whole at.COUNT (count_of s.whole + 1) ∙ h.four) (omega arith))
    _ refl
left_by f (SetControls i controls) s h =
    left_of_settled (λ n. n) _ _ (refuse_controls f s.table s.whole i controls) (λ n. n) _ s.table s.whole refl refl h
    (λ z.
    let a = set_controls_says f s.table s.whole i controls z in
    shape_other_table (unaimed_shape a.shape) (put_wheel s.table i (with_controls (wheel_at s.table i) (kept_controls controls)))
    (length_put s.table i (with_controls (wheel_at s.table i) (kept_controls controls)) a.shape.sized (let u = a.used in let r = a.shape.room in omega arith)))
    (λ z. unaimed_driven s.whole h.four) _ refl
left_by f (Aim chassis) s h =
    left_of_settled (λ r. r.number) _ _ (refuse_aim f s.table s.whole chassis) not_aimed _ s.table s.whole refl refl h
    (λ z.
    let a = (aim_says f s.table s.whole chassis z).shape in
    shape_marked (shape_other_table a (aimed_table f chassis (count_of s.whole) s.table) (length_aimed f chassis (count_of s.whole) s.table a.sized a.room)) at.AIMED (omega arith))
    (λ z. marked_not_driven s.whole at.AIMED h.four (omega arith)) _ refl
left_by f (Drive frame n) s h =
    left_of_settled (λ r. r.number) _ _ (refuse_under f stored s.table s.whole frame n) not_driven _ s.table s.whole refl refl h
    (λ z.
    let a = (drive_says f s.table s.whole frame n z).early.frame in
    shape_marked (shape_other_table a.shape _ (length_whole_step f stored s.table _ frame n a.shape.sized (let e = a.each in let r = a.shape.room in omega arith))) at.DRIVEN (omega arith))
    (λ z. marked_driven s.whole h.four) _ refl
left_by f (ReadWheel i) s h =
    left_of_settled (λ r. r.number) _ _ (refuse_read s.table s.whole i) not_read _ s.table s.whole refl refl h (λ z. h) (λ z. refl) _ refl

-- ---- a list of calls
pub record History (f : Format) (l : List Call) (s : State) : Type 0 where
  pub shape : Shape (run_all f l s).table (run_all f l s).whole
  pub mark : is_driven (run_all f l s).whole ≡ driven_since f l s || (is_driven s.whole && none_undrives f l s)

pub history : (f : Format) (l : List Call) (s : State) → Shape s.table s.whole → History f l s
unfolding run_all driven_since none_undrives run accepted
history f [] s h = record { shape = h; mark = sym (and-true (is_driven s.whole)) }
history f (c ∷ l) s h =
    let a = left_by f c s h in
    let later = history f l (run f c s) a.shape in
    record {
      shape = later.shape;
      mark =
          later.mark
          ∙ ap (λ (d : Bool). driven_since f l (run f c s) || (d && none_undrives f l (run f c s))) a.mark
          ∙ regrouped (driven_since f l (run f c s)) (none_undrives f l (run f c s)) (drives c && accepted f c s) (is_driven s.whole) (not (undrives c && accepted f c s));
    }
  where
    regrouped : (since none drove driven kept : Bool) → since || ((drove || (driven && kept)) && none) ≡ (since || (drove && none)) || (driven && (kept && none))
    regrouped true none drove driven kept = refl
    regrouped false true true driven kept = refl
    regrouped false true false true true = refl
    regrouped false true false true false = refl
    regrouped false true false false kept = refl
    regrouped false false true true true = refl
    regrouped false false true true false = refl
    regrouped false false true false kept = refl
    regrouped false false false true true = refl
    regrouped false false false true false = refl
    regrouped false false false false kept = refl

-- ---- a history from an accepted set-up, of whatever was lent
pub record FromSetUp (f : Format) (l : List Call) (s : State) : Type 0 where
  pub shape : Shape (run_all f l s).table (run_all f l s).whole
  pub mark : is_driven (run_all f l s).whole ≡ driven_since f l s

-- what an accepted set-up leaves
abbrev pub fresh : ℕ → ℕ → State
fresh up forward = state (replicate at.SIZE real.zero) (0 ∷ at.NEW ∷ up ∷ forward ∷ [])

pub set_up_leaves : (f : Format) (lent : State) (up forward : ℕ) → accepted f (SetUp up forward) lent ≡ true → (run f (SetUp up forward) lent ≡ fresh up forward) × SetUpTested lent.table lent.whole up forward
unfolding run accepted answered set_up
set_up_leaves f lent up forward h =
    let number = refuse_set_up lent.table lent.whole up forward in
    let done : After ℕ = after 0 (fresh up forward).table (fresh up forward).whole in
    let z : number ≡ 0 = sym (settled_number number (λ n. n) done lent.table lent.whole (λ n. n) refl refl) ∙ eqb-true _ 0 h in
    (ap (λ (x : After ℕ). state x.table x.whole) (sym (settled_done number number (λ n. n) done done lent.table lent.whole refl z refl)), set_up_says lent.table lent.whole up forward z)

pub history_from_set_up : (f : Format) (lent : State) (up forward : ℕ) (l : List Call) → accepted f (SetUp up forward) lent ≡ true → FromSetUp f (SetUp up forward ∷ l) lent
unfolding run_all driven_since drives
history_from_set_up f lent up forward l h =
    let start = set_up_leaves f lent up forward h in
    let later = history f l (fresh up forward) (set_up_shape up forward start.1) in
    let now : run_all f (SetUp up forward ∷ l) lent ≡ run_all f l (fresh up forward) = ap (run_all f l) start.0 in
    record {
      shape = rw now later.shape;
      mark = ap (λ (s : State). is_driven s.whole) now ∙ later.mark ∙ ap (λ (s : State). driven_since f l s || false) (sym start.0);
    }
