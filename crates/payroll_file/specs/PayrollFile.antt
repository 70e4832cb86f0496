-- A payroll file read whole: at each record "13, 12, 3, 6, 4, 5, ..".
use Rattle.std.specs.Prelude.{ℕ, List, [], ◌∷◌, cond, Ok, Err}
use Rattle.refusal.specs.declared.Cause.TheVariants.{NoLineEnd, EndsTooEarly, BytesAfterTheEnd}
use Rattle.text.specs.Literal.{same_bytes}
use Rattle.lines.specs.Lines.{Lines, cut, ends_in_cr, without_last}
use Rattle.payroll_record.specs.Reading.{reading_of}
use Rattle.payroll_run.specs.declared.stage.Stage.{Stage}
use Rattle.payroll_run.specs.declared.stage.Stage.TheVariants.{Start, BetweenBatches, InBatch, BehindA, BehindB, Ended, Refused}
use Rattle.payroll_run.specs.declared.running.Running.{Running}
use Rattle.payroll_run.specs.State.{opened, refusal_at, refused_at}
use Rattle.payroll_step.specs.Step.{took_of}
use Rattle.payroll_file.specs.Answer.{PayrollAnswer}

-- 3, "no LF in the rest, or the next LF has no CR right before it in the record"; 13, "bytes after the end", comes first
unfoldable pub unended_at : Stage → Running → Running
unended_at Start st = refused_at NoLineEnd 0 st
unended_at BetweenBatches st = refused_at NoLineEnd 0 st
unended_at InBatch st = refused_at NoLineEnd 0 st
unended_at BehindA st = refused_at NoLineEnd 0 st
unended_at BehindB st = refused_at NoLineEnd 0 st
unended_at Ended st = refused_at BytesAfterTheEnd 0 st
unended_at (Refused r) st = st

abbrev pub unended_of : Running → Running
unended_of st = unended_at st.stage st

-- the piece before an LF: a record, where it ends in CR
abbrev pub line_of : Running → List ℕ → Running
line_of st piece = cond (ends_in_cr piece) (took_of st (reading_of (without_last piece))) (unended_of st)

-- one piece after the other
unfoldable pub lines_of : Running → List (List ℕ) → Running
lines_of st [] = st
lines_of st (piece ∷ pieces) = lines_of (line_of st piece) pieces

-- the numbers of an accepted file
abbrev pub accepted : Running → PayrollAnswer
accepted st = Ok (record { records = st.records; batches = st.batches; payments = st.payments; amount = st.amount })

-- "after the file trailer's CR LF one byte 1A and nothing more (12 if it isn't there because the file ends, else 13)"
unfoldable pub ended_of : Running → List ℕ → PayrollAnswer
ended_of st [] = Err (refusal_at EndsTooEarly 0 st)
ended_of st (b ∷ s) = cond (same_bytes (b ∷ s) (26 ∷ [])) (accepted st) (Err (refusal_at BytesAfterTheEnd 0 st))

-- before it: nothing is left (12), or bytes without a line end (3)
unfoldable pub cut_short_of : Running → List ℕ → PayrollAnswer
cut_short_of st [] = Err (refusal_at EndsTooEarly 0 st)
cut_short_of st (b ∷ s) = Err (refusal_at NoLineEnd 0 st)

-- the answer of a state, with what is left behind the last LF
unfoldable pub end_at : Stage → Running → List ℕ → PayrollAnswer
end_at Start st rest = cut_short_of st rest
end_at BetweenBatches st rest = cut_short_of st rest
end_at InBatch st rest = cut_short_of st rest
end_at BehindA st rest = cut_short_of st rest
end_at BehindB st rest = cut_short_of st rest
end_at Ended st rest = ended_of st rest
end_at (Refused r) st rest = Err r

abbrev pub end_of : Running → List ℕ → PayrollAnswer
end_of st rest = end_at st.stage st rest

-- the answer that a file's lines lead to
abbrev pub ran_of : Running → Lines → PayrollAnswer
ran_of st ls = end_of (lines_of st ls.pieces) ls.rest

-- the answer of a file
abbrev pub check_of : List ℕ → PayrollAnswer
check_of file = ran_of opened (cut file)
