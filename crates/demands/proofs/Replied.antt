-- Document 01's reply tells two answers of a call apart: answers with one reply are equal. In order: a refusal is told by its number; an answer by its reply, where the reply gives the number and what is held;
-- and so for each call. Assumes nothing.
use Prim.Native.Nat.{ℕ}
use mathlib.Core.List.{[], ◌∷◌}
use mathlib.Core.Path.{◌≡◌, refl, sym, ap, ◌∙◌}
use lib.ListN.{get_or}
use Rattle.std.specs.Prelude.{Result, Ok, Err}
use Rattle.refusals.specs.declared.Refusal.{Refusal}
use Rattle.refusals.specs.declared.Refusal.TheVariants.{NoVehicle, BadNumber, Full, NoSuchWheel, WrongMoment, BadLists, WildGrip, WildStep, Malformed, OutOfRange, BadNormal, BadTurn}
use Rattle.refusals.specs.Refused.{number_of, replied, answered}
use Rattle.refusals.proofs.Settled.{number_not_zero}
use Rattle.aim.specs.declared.Aimed.{Aimed}
use Rattle.aim.specs.Aim.{aim_reply, not_aimed}
use Rattle.drive.specs.declared.Driven.{Driven}
use Rattle.drive.specs.Drive.{drive_reply, not_driven}
use Rattle.read_wheel.specs.declared.Reading.{Reading}
use Rattle.read_wheel.specs.Read.{ReadReply, read_reply, not_read}

-- the refusals by their numbers; 0 and 11 are none's
refusal_of : ℕ → Refusal
refusal_of n =
    get_or
    (BadTurn ∷ NoVehicle ∷ BadNumber ∷ Full ∷ NoSuchWheel ∷ WrongMoment ∷ BadLists ∷ WildGrip ∷ WildStep ∷ Malformed ∷ OutOfRange ∷ BadTurn ∷ BadNormal ∷ [])
    n BadTurn

numbered : (r : Refusal) → refusal_of (number_of r) ≡ r
unfolding refusal_of
numbered NoVehicle = refl
numbered BadNumber = refl
numbered Full = refl
numbered NoSuchWheel = refl
numbered WrongMoment = refl
numbered BadLists = refl
numbered WildGrip = refl
numbered WildStep = refl
numbered Malformed = refl
numbered OutOfRange = refl
numbered BadNormal = refl
numbered BadTurn = refl

-- `number` and `held` read from a reply what was put into it
module _ {A R : Type 0} (accepted : A → R) (refused : ℕ → R) (number : R → ℕ) (held : R → A)
    (done : (x : A) → number (accepted x) ≡ 0) (not-done : (n : ℕ) → number (refused n) ≡ n) (kept : (x : A) → held (accepted x) ≡ x) where
  pub reply_tells : (r r' : Result A Refusal) → replied accepted refused r ≡ replied accepted refused r' → r ≡ r'
  reply_tells (Ok x) (Ok y) e = ap Ok (sym (kept x) ∙ ap held e ∙ kept y)
  reply_tells (Ok x) (Err q) e = absurd (number_not_zero q (sym (not-done (number_of q)) ∙ sym (ap number e) ∙ done x))
  reply_tells (Err p) (Ok y) e = absurd (number_not_zero p (sym (not-done (number_of p)) ∙ ap number e ∙ done y))
  reply_tells (Err p) (Err q) e = ap Err (sym (numbered p) ∙ ap refusal_of (sym (not-done (number_of p)) ∙ ap number e ∙ not-done (number_of q)) ∙ numbered q)

pub answered_tells : (r r' : Result Unit Refusal) → answered r ≡ answered r' → r ≡ r'
answered_tells r r' e = reply_tells (λ done. 0) (λ n. n) (λ n. n) (λ n. tt) (λ x. refl) (λ n. refl) (λ x. refl) r r' e

pub aim_tells : (r r' : Result Aimed Refusal) → replied aim_reply not_aimed r ≡ replied aim_reply not_aimed r' → r ≡ r'
unfolding not_aimed
aim_tells r r' e = reply_tells aim_reply not_aimed (λ y. y.number) (λ y. record { speed = y.speed; sights = y.sights }) (λ x. refl) (λ n. refl) (λ x. refl) r r' e

pub drive_tells : (r r' : Result Driven Refusal) → replied drive_reply not_driven r ≡ replied drive_reply not_driven r' → r ≡ r'
unfolding not_driven
drive_tells r r' e = reply_tells drive_reply not_driven (λ y. y.number) (λ y. record { linvel = y.linvel; angvel = y.angvel; wake = y.wake }) (λ x. refl) (λ n. refl) (λ x. refl) r r' e

pub read_tells : (r r' : Result Reading Refusal) → replied read_reply not_read r ≡ replied read_reply not_read r' → r ≡ r'
unfolding not_read
read_tells r r' e = reply_tells read_reply not_read (λ y. y.number) read_held (λ x. refl) (λ n. refl) (λ x. refl) r r' e
  where
    read_held : ReadReply → Reading
    read_held y = record {
      centre = y.centre;
      direction = y.direction;
      axle = y.axle;
      length = y.length;
      force = y.force;
      forward = y.forward;
      side = y.side;
      skid = y.skid;
      rotation = y.rotation;
      settled = y.settled;
      noaxis = y.noaxis;
      noforward = y.noforward;
    }
