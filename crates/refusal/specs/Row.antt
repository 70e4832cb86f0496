-- The paper's row of a refusal, "A refusal is a number, a record number from 1 and a column", and zeros where nothing is refused.
use Rattle.std.specs.Prelude.{ℕ}
use Rattle.refusal.specs.declared.Refusal.{Refusal}
use Rattle.refusal.specs.RefusalList.{number_of}

pub record RefusalRow : Type 0 where
  pub number : ℕ
  pub record_number : ℕ
  pub column : ℕ

abbrev pub no_refusal : RefusalRow
no_refusal = record { number = 0; record_number = 0; column = 0 }

abbrev pub refusal_row : Refusal → RefusalRow
refusal_row r = record { number = number_of r.cause; record_number = r.«record»; column = r.column }
