-- How large a chunk can be.
use Rattle.std.proofs.Common.{ℕ, ◌/◌, ◌%◌, ◌≤◌, mul-le-mul, arith}
use Rattle.cases.specs.Cuts.{size_of}

-- 0 to 361 bytes
pub size_range : (n : ℕ) → size_of n ≤ 361
unfolding size_of
size_range n =
    let first : n / 65536 % 20 ≤ 19 = omega arith in
    let second : n / 16777216 % 20 ≤ 19 = omega arith in
    mul-le-mul first second
