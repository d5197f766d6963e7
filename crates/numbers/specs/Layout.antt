-- The groups of a number of the scenario stream: document 01, "Scenario program". Definitions only.
use Rattle.std.specs.Prelude.{ℕ, ◌-◌, ◌/◌, ◌%◌, ◌^◌}

-- a group holds so many bits, and a byte from GROUP on has its top bit set
abbrev pub GROUP-BITS : ℕ
GROUP-BITS = 7

abbrev pub GROUP : ℕ
GROUP = 128

-- the last group that so many bits reach into, counted from 0, and the most that it holds
abbrev pub last : ℕ → ℕ
last bits = bits / GROUP-BITS

abbrev pub last_most : ℕ → ℕ
last_most bits = 2 ^ (bits % GROUP-BITS) - 1
