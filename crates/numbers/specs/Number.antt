-- Document 01, "Scenario program": numbers stand in groups of seven bits, lowest first, top bit set on all but the last; at most so many bits, shortest form only. Definitions only.
use Rattle.std.specs.Prelude.{ℕ, zero, suc, ◌+◌, ◌*◌, ◌/◌, ◌%◌, ◌^◌, Bool, true, false, List, [], ◌∷◌, eqb, ltb}
use Rattle.lists.specs.Pick.{pick}
use Rattle.numbers.specs.declared.Number.{Number}
use Rattle.numbers.specs.declared.Number.TheVariants.{Value, Short, Bad}
use Rattle.numbers.specs.Layout.{GROUP, last, last_most}

abbrev pub is_byte : ℕ → Bool
is_byte b = ltb b 256

-- a number of at most so many bits
abbrev pub has_bits : ℕ → ℕ → Bool
has_bits bits n = ltb n (2 ^ bits)

-- The k-th group, counted from 0, cannot be b: it ends a number that is not in its shortest form, or passes so many bits.
unfoldable pub bad_group : ℕ → ℕ → ℕ → Bool
bad_group bits k b = pick (eqb b 0) (ltb 0 k) (pick (eqb k (last bits)) (ltb (last_most bits) b) false)

-- what k groups worth v are worth with the group b
unfoldable pub gained : ℕ → ℕ → ℕ → ℕ
gained k v b = v + b % GROUP * GROUP ^ k

-- the number of which k groups worth v are read, and whose others start the bytes
unfoldable pub read_groups : ℕ → ℕ → ℕ → List ℕ → Number
read_groups bits k v [] = Short
read_groups bits k v (b ∷ l) = pick (bad_group bits k b) Bad (pick (ltb b GROUP) (Value (gained k v b) (suc k)) (read_groups bits (suc k) (gained k v b) l))

-- what stands at the start of the bytes: a value of at most so many bits and how many bytes it takes; too few bytes; or no such number
unfoldable pub read_number : ℕ → List ℕ → Number
read_number bits bytes = read_groups bits 0 0 bytes

-- whether the bytes were enough to tell
unfoldable pub decided_number : Number → Bool
decided_number (Value v n) = true
decided_number Short = false
decided_number Bad = true

-- n in its shortest form, of at most k + 1 groups
unfoldable pub write_groups : ℕ → ℕ → List ℕ
write_groups zero n = n ∷ []
write_groups (suc k) n = pick (ltb n GROUP) (n ∷ []) ((GROUP + n % GROUP) ∷ write_groups k (n / GROUP))

-- a number of at most so many bits, as bytes
unfoldable pub write_number : ℕ → ℕ → List ℕ
write_number bits n = write_groups (last bits) n
