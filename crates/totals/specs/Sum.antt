-- The sum of two numbers of 64 bits.
use Rattle.std.specs.Prelude.{ℕ, ◌+◌, min, cond, leb, Option, Some, None}

-- 2^64 - 1
abbrev pub top : ℕ
top = 18_446_744_073_709_551_615

-- the sum, or none where it leaves 64 bits
abbrev pub sum_of : ℕ → ℕ → Option ℕ
sum_of a b = cond (leb (a + b) top) (Some (a + b)) None

-- the sum that stays at the top of 64 bits
abbrev pub capped : ℕ → ℕ → ℕ
capped a b = min (a + b) top
