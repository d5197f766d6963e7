-- What is read into the window, and what comes after a run. Of the bytes that arrive no contract of the kit speaks: they are the window's, behind those that are kept. Definitions only.
use Rattle.std.specs.Prelude.{ℕ, ◌≤◌, Bool, true, false, List, ◌≡◌, eqb, length, take, Result, Ok, Err}
use Rattle.std.specs.declared.io.Error.{Error}
use Rattle.session.specs.declared.Stands.{Stands}
use Rattle.console.specs.declared.Input.{Input}

abbrev pub input : Bool → Bool → Input
input last runs = record { last = last; runs = runs }

-- a read that moved bytes, or came to the end of the input, was not interrupted; of one that failed nothing is known
abbrev pub Interrupted : Result ℕ Error → Bool → Type 0
Interrupted (Ok n) r = r ≡ false
Interrupted (Err e) r = Unit

-- bytes are read behind those of a window, which are kept
pub record Fills (before after : List ℕ) : Type 0 where
  pub kept : take (length before) after ≡ before
  pub from : length before ≤ length after

-- more bytes are read; a read that gives none is the last one
abbrev pub ReadsMore : Input → List ℕ → List ℕ → Type 0
ReadsMore r before after = (r ≡ input (eqb (length after) (length before)) true) × Fills before after

-- what comes after a run that left a window, by how it stands: nothing, another run at once, or one with more bytes
abbrev pub ReadsOn : Stands → Bool → Input → List ℕ → List ℕ → Type 0
ReadsOn Stands.Ended last r before after = (r ≡ input last false) × (after ≡ before)
ReadsOn Stands.Full last r before after = (r ≡ input last true) × (after ≡ before)
ReadsOn Stands.More last r before after = ReadsMore r before after
