-- `payroll_stream::run_on` meets its contract: a line is looked at no further than what is held of it.
use Rattle.std.specs.Prelude.{None}
use Rattle.payroll_file.specs.PayrollFile.{line_of}
use Rattle.payroll_stream.proofs.NoFurther.{no_further}
use Rattle.payroll_stream.proofs.run_on.Goals as goal

pub returns : goal.returns
returns c =
    let ran = c.take_chunk.ensures line_of (λ st piece next e. e) no_further in
    λ i. record { state = ran.same_state i; held = ran.same_held i; progress = None }
