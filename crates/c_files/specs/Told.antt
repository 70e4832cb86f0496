-- A question that writes, as C asks it: its answer is told as a row, and of answer and output holds what the library's own question promises of them.
use Rattle.std.specs.Prelude.{ℕ, ◌≡◌, List}

pub record Told {Answer : Type 0} (numbers : Answer → List ℕ) (promised : Answer → List ℕ → Type 0) (row after : List ℕ) : Type 0 where
  pub answer : Answer
  pub in_row : row ≡ numbers answer
  pub as_promised : promised answer after
