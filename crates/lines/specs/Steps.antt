-- The pieces of bytes, taken one after the other by a step.
use Rattle.std.specs.Prelude.{ℕ, ◌≡◌, ◌<◌, List, [], ◌∷◌, length}
use Rattle.std.specs.Borrow.{Bor}
use Rattle.lines.specs.Lines.{cut}

-- each answer that a step can give of a state and of bytes that it is lent is the one that is meant
abbrev pub Means : {S : Type 0} → (S → Bor (List ℕ) → S → Type 0) → (S → List ℕ → S) → Type 0
Means {S} answers meant = (st : S) (piece : Bor (List ℕ)) (next : S) → answers st piece next → next ≡ meant st piece.now

-- no LF stands in bytes: all of them are left
pub record NoPiece (s : List ℕ) : Type 0 where
  pub pieces : (cut s).pieces ≡ []
  pub left : (cut s).rest ≡ s

-- the first piece of bytes, and those behind its LF
pub record FirstPiece (s piece behind : List ℕ) : Type 0 where
  pub pieces : (cut s).pieces ≡ piece ∷ (cut behind).pieces
  pub left : (cut s).rest ≡ (cut behind).rest
  pub shorter : length behind < length s
