-- A choice by a test, and a conjunction that is one. It computes only where a proof unfolds it, so that a long list of tests stays readable in a goal. Definitions only.
use Rattle.std.specs.Prelude.{Bool, true, false}

unfoldable pub pick : {A : Type 0} → Bool → A → A → A
pick true x y = x
pick false x y = y

infixr 75 ◌and◌
-- both tests hold
abbrev pub ◌and◌ : Bool → Bool → Bool
a and b = pick a b false
