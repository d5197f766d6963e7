-- "show that two replies it allows are equal" (document 01, "What the contracts owe"): two ends of a call that are the same. Definitions only.
use Rattle.std.specs.Prelude.{ℕ, List, ◌≡◌, Float}

pub record Same {R : Type 0} (r r' : R) (t t' : List Float) (m m' : List ℕ) : Type 0 where
  pub reply : r ≡ r'
  pub table : t ≡ t'
  pub whole : m ≡ m'
