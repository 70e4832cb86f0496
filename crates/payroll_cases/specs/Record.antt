-- The records of files that are made: blanks, and numbers at their positions.
use Rattle.std.specs.Prelude.{ℕ, ◌+◌, ◌*◌, ◌-◌, ◌%◌, List, ◌++◌, fold, Option, None, Some, cond, ◌&&◌, length, take, drop, set, replicate, leb}
use Rattle.day_sheet.specs.Number.{in_base}
use Rattle.payroll_cases.specs.declared.record.Field.{Field}
use Rattle.payroll_cases.specs.declared.record.Record.{Record}

-- a number's last ASCII digits behind the first bytes of a record, up to the last of the field
abbrev pub with_number : ℕ → ℕ → ℕ → List ℕ → List ℕ
with_number first last n r = take first r ++ (in_base 10 48 (last - first) n ++ drop last r)

-- where the field lies within the record
unfoldable pub with_field : Field → List ℕ → List ℕ
with_field f r = cond (leb f.first f.last && leb f.last (length r)) (with_number f.first f.last f.number r) r

-- a number of a record's own, where it has one
abbrev pub with_own : Option Field → List ℕ → List ℕ
with_own None r = r
with_own (Some f) r = with_field f r

-- the bank 1-3, the batch 4-7 and the kind 8, as one number
abbrev pub front_of : Record → Field
front_of what = record { first = 0; last = 8; number = 42200000 + what.batch % 10000 * 10 + what.kind % 10 }

-- all numbers of a record
unfoldable pub with_numbers : Record → List ℕ → List ℕ
with_numbers what r = fold (λ made own. with_own own made) (with_field (front_of what) r) what.fields

-- 240 blanks, with the letter 14, and CR LF
abbrev pub blanks_with : ℕ → List ℕ
blanks_with letter = set (set (set (replicate 242 32) 13 letter) 240 13) 241 10

-- the bytes of a record
unfoldable pub record_of : Record → List ℕ
record_of what = with_numbers what (blanks_with what.letter)
