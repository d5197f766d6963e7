-- The kernel runs the histories: their calls are the words of the streams that the oracle was given, and each call answers what the oracle printed. Assumes nothing.
use Prim.Native.Nat.{ℕ}
use mathlib.Core.List.{List}
use mathlib.Core.Path.{◌≡◌, refl}
use lib.Ieee.{binary32}
use Rattle.real.specs.Number.{zero}
use Rattle.marked.specs.Numbers.{four}
use Rattle.demands.specs.History.{Call, SetUp, run}
use Rattle.witnesses.specs.Car.{sixteen, thirty_two}
use Rattle.witnesses.specs.Calls.{lent, calls, other_calls}
use Rattle.witnesses.specs.Carts.{cart_calls, wagon_calls}
use Rattle.witnesses.specs.Sledge.{sledge_calls}
use Rattle.witnesses.specs.Tractor.{tractor_calls}
use Rattle.witnesses.specs.Stream.{stream_words, answers_to}
use Rattle.witnesses.specs.Oracle.{asked, told, other_asked, other_told, cart_asked, wagon_asked, cart_told_four, cart_told_sixteen, wagon_told_zero, wagon_told_four, wagon_told_thirty_two, sledge_asked, sledge_told, tractor_asked, tractor_told}
use Rattle.witnesses.specs.Opened.{opened}

pub record AsTold (l : List Call) (asked told : List (List ℕ)) : Type 0 where
  pub words : stream_words l ≡ asked
  pub answers : answers_to l (run binary32 (SetUp 1 0) lent) ≡ told

pub calls_as_told : AsTold calls asked told
unfolding opened
calls_as_told = record { words = refl; answers = refl }

pub other_calls_as_told : AsTold other_calls other_asked other_told
unfolding opened
other_calls_as_told = record { words = refl; answers = refl }

-- ---- the cart and the wagon, each brake by its pattern
pub cart_four_as_told : AsTold (cart_calls four) (cart_asked 0x40800000) cart_told_four
unfolding opened
cart_four_as_told = record { words = refl; answers = refl }

pub cart_sixteen_as_told : AsTold (cart_calls sixteen) (cart_asked 0x41800000) cart_told_sixteen
unfolding opened
cart_sixteen_as_told = record { words = refl; answers = refl }

pub wagon_zero_as_told : AsTold (wagon_calls zero) (wagon_asked 0) wagon_told_zero
unfolding opened
wagon_zero_as_told = record { words = refl; answers = refl }

pub wagon_four_as_told : AsTold (wagon_calls four) (wagon_asked 0x40800000) wagon_told_four
unfolding opened
wagon_four_as_told = record { words = refl; answers = refl }

pub wagon_thirty_two_as_told : AsTold (wagon_calls thirty_two) (wagon_asked 0x42000000) wagon_told_thirty_two
unfolding opened
wagon_thirty_two_as_told = record { words = refl; answers = refl }

-- ---- the sledge
pub sledge_as_told : AsTold sledge_calls sledge_asked sledge_told
unfolding opened
sledge_as_told = record { words = refl; answers = refl }

-- ---- the tractor
pub tractor_as_told : AsTold tractor_calls tractor_asked tractor_told
unfolding opened
tractor_as_told = record { words = refl; answers = refl }
