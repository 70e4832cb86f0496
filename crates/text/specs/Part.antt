-- A part of a record by its positions: "Positions count from 1".
use Rattle.std.specs.Prelude.{ℕ, ◌+◌, ◌-◌, min, ◌≡◌, List, length}
use Rattle.std.specs.Borrow.{Bor}
use Rattle.std.proofs.Math.Seq.{slice}

-- a part of lent bytes: what it holds, and the place in them, from 0, at which it begins (a pointer is a block and an offset in it)
pub record PartOf (lent : Bor (List ℕ)) (place : ℕ) (content : List ℕ) (part : Bor (List ℕ)) : Type 0 where
  pub holds : part.now ≡ content
  pub block : part.ref_ptr.0 ≡ lent.ref_ptr.0
  pub begins : part.ref_ptr.1 ≡ lent.ref_ptr.1 + place

-- the bytes at the positions from first to last, as far as there are any
abbrev pub positions : ℕ → ℕ → List ℕ → List ℕ
positions first last r = slice (first - 1) last r

-- the place, from 0, at which these begin, as far as the record goes
abbrev pub place_of : ℕ → ℕ → List ℕ → ℕ
place_of first last r = min (first - 1) (min last (length r))

-- the part of lent bytes at the positions from first to last
abbrev pub AtPositions : ℕ → ℕ → Bor (List ℕ) → Bor (List ℕ) → Type 0
AtPositions first last lent part = PartOf lent (place_of first last lent.now) (positions first last lent.now) part
