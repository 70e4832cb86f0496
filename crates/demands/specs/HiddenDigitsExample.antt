-- Two files that differ only in hidden digits: document 01's example with two cards, and the same with a credit in its sale's place.
use Rattle.std.specs.Prelude.{ℕ, ◌≡◌, List, true}
use Rattle.card_file.specs.CardFile.{check_of}
use Rattle.card_run.specs.Answer.{card_file_row}
use Rattle.demands.specs.ExampleFile.{sale_with, file_of, credit_file_of}
use Rattle.demands.specs.HiddenDigits.{TwinFiles}

-- of 16 valid characters the first six and the last four stay; the six between are hidden
abbrev pub one_file : List ℕ
one_file = file_of (sale_with "0001234567890123456")

abbrev pub other_file : List ℕ
other_file = file_of (sale_with "0001234565555553456")

abbrev pub one_credit : List ℕ
one_credit = credit_file_of "0001234567890123456"

abbrev pub other_credit : List ℕ
other_credit = credit_file_of "0001234565555553456"

-- the one is accepted, they are twins, and they are not the same
pub record TwinsThatDiffer (one other : List ℕ) : Type 0 where
  pub accepted : (card_file_row (check_of 2 one)).accepted ≡ true
  pub twins : TwinFiles one other
  pub differ : one ≡ other → ⊥
