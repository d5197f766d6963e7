-- Document 01, "Refusal numbers", with 12 of change request 2026-03 and 17 of 2026-11: the number of each refusal, and of an answer: 0 where it is accepted. Definitions only.
use Rattle.std.specs.Prelude.{ℕ, Result, Ok, Err}
use Rattle.refusals.specs.declared.Refusal.{Refusal}
use Rattle.refusals.specs.declared.Refusal.TheVariants.{NoVehicle, BadNumber, Full, NoSuchWheel, WrongMoment, BadLists, WildGrip, WildStep, Malformed, OutOfRange, BadNormal, BadTurn}

abbrev pub number_of : Refusal → ℕ
number_of NoVehicle = 1
number_of BadNumber = 2
number_of Full = 3
number_of NoSuchWheel = 4
number_of WrongMoment = 5
number_of BadLists = 6
number_of WildGrip = 7
number_of WildStep = 8
number_of Malformed = 9
number_of OutOfRange = 10
number_of BadNormal = 12
number_of BadTurn = 17

-- a call's answer as the document's reply: what it holds, or the number of the refusal, zeros elsewhere
abbrev pub replied : {A R : Type 0} → (A → R) → (ℕ → R) → Result A Refusal → R
replied accepted refused (Ok x) = accepted x
replied accepted refused (Err r) = refused (number_of r)

-- the same of an answer that holds nothing: 0 where the call is accepted
abbrev pub answered : Result Unit Refusal → ℕ
answered r = replied (λ done. 0) (λ n. n) r
