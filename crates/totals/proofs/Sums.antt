-- Laws of the sum of two numbers of 64 bits: how `capped` adds, by arithmetic.
use Prim.Native.Nat.{ℕ, ◌+◌, ◌≤◌}
use mathlib.Core.Path.{◌≡◌}
use native.Mathlib.Omega.{arith}
use Rattle.totals.specs.Sum.{top, capped}

pub associative : (a b c : ℕ) → capped (capped a b) c ≡ capped a (capped b c)
associative a b c = omega arith

pub commutative : (a b : ℕ) → capped a b ≡ capped b a
commutative a b = omega arith

-- 0 added to a number of 64 bits
pub neutral : (a : ℕ) → a ≤ top → capped 0 a ≡ a
neutral a h = omega arith

pub at_most_top : (a b : ℕ) → capped a b ≤ top
at_most_top a b = omega arith

-- no loss where the sum has 64 bits
pub no_loss : (a b : ℕ) → a + b ≤ top → capped a b ≡ a + b
no_loss a b h = omega arith
