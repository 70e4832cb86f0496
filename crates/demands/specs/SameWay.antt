-- THE SAME WAY: hidden digits do not choose between the quick way through a record and the slow one. It is the least that can be said here about time.
use Rattle.std.specs.Prelude.{ℕ, ◌≡◌, List, map, Bool, ◌&&◌, length}
use Rattle.lines.specs.Lines.{cut, ends_in_cr, without_last}
use Rattle.card_quick.specs.Quick.{passes_quick}
use Rattle.demands.specs.HiddenDigits.{TwinRecords, TwinFiles}

-- which pieces of a file are records that the quick way passes, in turn; the others are read slowly, or not at all where no CR ends them
abbrev pub ways_of : ℕ → List ℕ → List Bool
ways_of edition file = map (λ p. ends_in_cr p && passes_quick edition (without_last p)) (cut file).pieces

-- how long its pieces are
abbrev pub sizes_of : List ℕ → List ℕ
sizes_of file = map length (cut file).pieces

pub record SameWay : Type 0 where
  pub records : (edition : ℕ) (r s : List ℕ) → TwinRecords r s → passes_quick edition r ≡ passes_quick edition s
  pub files : (edition : ℕ) (s t : List ℕ) → TwinFiles s t → ways_of edition s ≡ ways_of edition t
  -- and each piece is as long as the other's
  pub sizes : (s t : List ℕ) → TwinFiles s t → sizes_of s ≡ sizes_of t
