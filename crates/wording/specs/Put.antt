-- A text that is put into a buffer.
use Rattle.std.specs.Prelude.{ℕ, zero, suc, ◌+◌, min, ◌≡◌, List, [], ◌∷◌, length}

-- a text over the start of a buffer, as far as there is room; what stands behind it stays
unfoldable pub over : List ℕ → List ℕ → List ℕ
over text [] = []
over [] (b ∷ buffer) = b ∷ buffer
over (x ∷ text) (b ∷ buffer) = x ∷ over text buffer

-- the same behind the first bytes
unfoldable pub over_at : ℕ → List ℕ → List ℕ → List ℕ
over_at zero text buffer = over text buffer
over_at (suc at) text [] = []
over_at (suc at) text (b ∷ buffer) = b ∷ over_at at text buffer

-- a text was put behind the first bytes: where it ends, and what the buffer then holds
pub record Puts (text before : List ℕ) (at end : ℕ) (after : List ℕ) : Type 0 where
  pub ends : end ≡ min (at + length text) (length before)
  pub leaves : after ≡ over_at at text before
