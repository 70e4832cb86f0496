-- `payroll_cases::long_batch::answer` meets its contract: the file header, the rest behind it, and the byte 1A.
use mathlib.Core.Path.{ap, ◌∙◌}
use Rattle.payroll_stream.specs.Stream.{taken_of, ended_of, answer_of}
use Rattle.payroll_cases.specs.Record.{record_of}
use Rattle.payroll_cases.specs.Kinds.{file_header}
use Rattle.payroll_cases.proofs.Taking.{taken_as, file_answer}
use Rattle.payroll_cases.proofs.long_batch.answer.Goals as goal

pub returns : goal.returns
returns c =
    let opened = c.«open» in
    file_answer c.args.payments
    (taken_as opened.result c.file_header.ensures c.take_record-header.ensures ∙ ap (λ s. taken_of s (record_of file_header)) opened.ensures)
    c.take_batch-last.ensures
    (c.answer.ensures ∙ ap answer_of (c.end.ensures ∙ ap ended_of c.take.ensures))
