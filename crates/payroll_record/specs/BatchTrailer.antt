-- A batch trailer: bank, batch number, "18-23 counts its records .. 24-41 sums the amounts of A", which the file so far judges.
use Rattle.std.specs.Prelude.{ℕ, List}
use Rattle.refusal.specs.Rules.{first_broken}
use Rattle.payroll_record.specs.declared.batch_trailer.BatchTrailer.{BatchTrailer}
use Rattle.payroll_record.specs.Field.{field, batch, number_in}
use Rattle.payroll_record.specs.Front.{front_rules}

abbrev pub batch_trailer_of : List ℕ → BatchTrailer
batch_trailer_of r =
    record {
      front = first_broken (front_rules r);
      batch = number_in batch r;
      count = number_in (field 18 23) r;
      sum = number_in (field 24 41) r;
    }
