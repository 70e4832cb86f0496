-- Places that look random, at which a file is cut into chunks.
use Rattle.std.specs.Prelude.{◌≡◌, ℕ, ◌+◌, ◌*◌, ◌/◌, ◌%◌, List, ◌++◌, min}
use Rattle.std.specs.Borrow.{Bor}
use Rattle.cases.specs.declared.cuts.Cuts.{Cuts}

-- one step of a linear congruential generator, modulo 2^32
abbrev pub stepped : ℕ → ℕ
stepped n = (n % 4294967296 * 1664525 + 1013904223) % 4294967296

abbrev pub next_of : Cuts → Cuts
next_of c = record { state = stepped c.state }

-- how many bytes the next chunk has: a product of two numbers below 20, so none is often met, and 361 are the most
unfoldable pub size_of : ℕ → ℕ
size_of n = n / 65536 % 20 * (n / 16777216 % 20)

-- where the chunk from a place on ends, in a file of this length
abbrev pub cut_behind : ℕ → ℕ → ℕ → ℕ
cut_behind n at length = min (at + size_of n) length

-- what takes a file chunk by chunk: each call answers what `taken` says, and two chunks are as one
pub record Takes {S : Type 0} (call : S → Bor (List ℕ) → S → Type 0) (taken : S → List ℕ → S) : Type 0 where
  pub says : (s : S) (chunk : Bor (List ℕ)) (r : S) → call s chunk r → r ≡ taken s chunk.now
  pub joins : (s : S) (a b : List ℕ) → taken (taken s a) b ≡ taken s (a ++ b)
