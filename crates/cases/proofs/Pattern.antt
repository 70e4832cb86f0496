-- Laws of the pattern that fills an output: one more byte, and the one behind it.
use Rattle.std.proofs.Common.{◌≡◌, ℕ, ◌+◌, ◌%◌, ◌<◌, List, length, take, set, add-one, arith, take-suc-set}
use Rattle.cases.specs.Output.{pattern, pattern_at}

-- one more byte behind those that are filled
pub more : (s : List ℕ) (i b : ℕ) → i < length s → b ≡ pattern_at i → take i s ≡ pattern i → take (i + 1) (set s i b) ≡ pattern (i + 1)
unfolding pattern
more s i b l e h = rw (add-one, take-suc-set s i b l, h, e)

-- the byte behind it
pub next : (i b : ℕ) → b ≡ pattern_at i → (b + 7) % 256 ≡ pattern_at (i + 1)
next i b e = omega arith
