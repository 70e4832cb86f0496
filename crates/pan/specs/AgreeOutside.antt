-- Two fields that agree outside some places.
use Rattle.std.specs.Prelude.{ℕ, ◌<◌, ◌≡◌, List, Bool, false, length, get_or}

-- "byte for byte outside": the same length, and the same byte at each place that a test does not pick out
pub record AgreeOutside (picks : ℕ → Bool) (s t : List ℕ) : Type 0 where
  pub same_length : length s ≡ length t
  pub same_byte : (i : ℕ) → i < length s → picks i ≡ false → get_or s i 0 ≡ get_or t i 0
