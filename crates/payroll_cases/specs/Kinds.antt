-- The records of the files that are made, one definition for each kind.
use Rattle.std.specs.Prelude.{ℕ, ◌+◌, [], ◌∷◌, Option, None, Some}
use Rattle.payroll_cases.specs.declared.record.Field.{Field}
use Rattle.payroll_cases.specs.declared.record.Record.{Record}

-- a number behind the first bytes of a record, up to the last of its field
abbrev pub field : ℕ → ℕ → ℕ → Option Field
field first last number = Some (record { first = first; last = last; number = number })

-- the file header: 143 is 1, the date 144-151
abbrev pub file_header : Record
file_header = record { kind = 0; batch = 0; letter = 32; fields = field 142 151 115112023 ∷ None ∷ None ∷ [] }

abbrev pub batch_header : ℕ → Record
batch_header batch = record { kind = 1; batch = batch; letter = 32; fields = None ∷ None ∷ None ∷ [] }

-- a payment: the detail number 9-13, the date 94-101, the amount 120-134
abbrev pub payment : ℕ → ℕ → ℕ → Record
payment batch amount number =
    record { kind = 3; batch = batch; letter = 65; fields = field 8 13 number ∷ field 93 101 15112023 ∷ field 119 134 amount ∷ [] }

-- the trailer of a batch of so many payments: its records 18-23, the sum of its payments 24-41
abbrev pub batch_trailer : ℕ → ℕ → ℕ → Record
batch_trailer batch payments sum = record { kind = 5; batch = batch; letter = 32; fields = field 17 23 (payments + 2) ∷ field 23 41 sum ∷ None ∷ [] }

-- the file trailer: the batches 18-23, all records 24-29
abbrev pub file_trailer : ℕ → ℕ → Record
file_trailer batches records = record { kind = 9; batch = 9999; letter = 32; fields = field 17 23 batches ∷ field 23 29 records ∷ None ∷ [] }
