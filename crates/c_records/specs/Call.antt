-- What a call with bytes makes of a payroll file that is given record by record.
use Rattle.std.specs.Prelude.{ℕ, List}
use Rattle.payroll_stream.specs.declared.feeding.Feeding.{Feeding}
use Rattle.payroll_stream.specs.Feeding.{fed_of, closed_with}
use Rattle.c_records.specs.declared.payroll.Call.{Call}
use Rattle.c_records.specs.declared.payroll.Call.TheVariants.{Feed, Close}

unfoldable pub called_of : Call → Feeding → List ℕ → Feeding
called_of Feed f bytes = fed_of f bytes
called_of Close f bytes = closed_with f bytes
