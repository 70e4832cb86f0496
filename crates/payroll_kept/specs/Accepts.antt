-- The check accepts bytes: its answer is "accepted", with some numbers.
use Rattle.std.specs.Prelude.{ℕ, ◌≡◌, List, Ok}
use Rattle.payroll_file.specs.declared.answer.Accepted.{Accepted}
use Rattle.payroll_file.specs.PayrollFile.{check_of}

pub record Accepts (bytes : List ℕ) : Type 0 where
  pub numbers : Accepted
  pub answer : check_of bytes ≡ Ok numbers
