-- The check accepts bytes: its answer is "accepted", with some numbers.
use Rattle.std.specs.Prelude.{ℕ, ◌≡◌, List, Ok, Some}
use Rattle.card_run.specs.declared.answer.Accepted.{Accepted}
use Rattle.card_file.specs.CardFile.{check_of}

pub record Accepts (edition : ℕ) (bytes : List ℕ) : Type 0 where
  pub numbers : Accepted
  pub answer : check_of edition bytes ≡ Some (Ok numbers)
