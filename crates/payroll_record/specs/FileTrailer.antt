-- The file trailer: bank, batch number 9999, "18-23 batches; 24-29 all records", which the file so far judges.
use Rattle.std.specs.Prelude.{ℕ, List, ◌++◌}
use Rattle.refusal.specs.declared.Cause.TheVariants.{ValueNotAllowed}
use Rattle.refusal.specs.Rules.{Rule, first_broken}
use Rattle.payroll_record.specs.declared.file_trailer.FileTrailer.{FileTrailer}
use Rattle.payroll_record.specs.Field.{field, batch, number_rules, number_in}
use Rattle.payroll_record.specs.Front.{front_rules}

-- "9999 in the file trailer (8)"
abbrev pub trailer_front_rules : List ℕ → List Rule
trailer_front_rules r = front_rules r ++ number_rules ValueNotAllowed batch.0 (number_in batch r) 9999

abbrev pub file_trailer_of : List ℕ → FileTrailer
file_trailer_of r =
    record { front = first_broken (trailer_front_rules r); batches = number_in (field 18 23) r; records = number_in (field 24 29) r }
