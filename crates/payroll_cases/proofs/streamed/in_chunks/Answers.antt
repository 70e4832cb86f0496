-- `payroll_cases::streamed::in_chunks` meets its contract: the stream has taken all of the file.
use Rattle.std.proofs.Common.{ap, ◌∙◌, rules}
use Rattle.payroll_stream.specs.Stream.{taken_of, answer_of}
use Rattle.payroll_cases.proofs.Chunks.{taken_on, answered}
use Rattle.payroll_cases.proofs.streamed.in_chunks.Goals as goal

pub returns : goal.returns
returns c =
    let whole = c.in_chunks-stream.ensures taken_of (record { says = λ s chunk r said. search rules; joins = taken_on }) in
    c.answer.ensures ∙ ap answer_of c.end.ensures ∙ answered _ c.«open».ensures whole
