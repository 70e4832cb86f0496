-- A batch header: bank, and the batch number, which the file so far judges.
use Rattle.std.specs.Prelude.{ℕ, List}
use Rattle.refusal.specs.Rules.{first_broken}
use Rattle.payroll_record.specs.declared.batch_header.BatchHeader.{BatchHeader}
use Rattle.payroll_record.specs.Field.{batch, number_in}
use Rattle.payroll_record.specs.Front.{front_rules}

abbrev pub batch_header_of : List ℕ → BatchHeader
batch_header_of r = record { front = first_broken (front_rules r); batch = number_in batch r }
