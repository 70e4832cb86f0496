-- The front of a buffer: how long it is.
use Prim.Native.Nat.{ℕ, ◌≤◌}
use mathlib.Core.Path.{◌≡◌}
use mathlib.Core.List.{List}
use native.Mathlib.Omega.{arith}
use lib.ListN.{length, take, length-take}

-- the first bytes of a buffer are as many as are taken
pub front_length : (n : ℕ) (s : List ℕ) → n ≤ length s → n ≡ length (take n s)
front_length n s h = simp length-take (omega arith)
