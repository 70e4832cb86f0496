-- What stands at a place of a buffer of cases. "Numbers are unsigned, high byte first."
use Rattle.std.specs.Prelude.{◌≡◌, ℕ, ◌+◌, ◌*◌, ◌%◌, List, [], ◌∷◌}
use Rattle.std.specs.Borrow.{Bor}
use Rattle.text.specs.Part.{positions, AtPositions}
use Rattle.totals.specs.Sum.{capped}
use Rattle.cases.specs.declared.cursor.Number.{Number}

-- the number of 64 bits that bytes write behind those that wrote n: of n seven bytes stay
unfoldable pub high_first : ℕ → List ℕ → ℕ
high_first n [] = n
high_first n (b ∷ s) = high_first (n % 72057594037927936 * 256 + b) s

-- size bytes from a place on, as far as there are any
abbrev pub bytes_at : List ℕ → ℕ → ℕ → List ℕ
bytes_at s at size = positions (capped at 1) (capped at size) s

-- the part of lent cases that these are
unfoldable pub PartAt : Bor (List ℕ) → ℕ → ℕ → Bor (List ℕ) → Type 0
PartAt cases at size part = AtPositions (capped at 1) (capped at size) cases part

-- a number of size bytes, and the place behind it
pub record NumberAt (s : List ℕ) (at size : ℕ) (r : Number) : Type 0 where
  pub value : r.value ≡ high_first 0 (bytes_at s at size)
  pub behind : r.behind ≡ capped at size
