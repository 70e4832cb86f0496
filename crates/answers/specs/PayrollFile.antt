-- What the contracts of a payroll file, whole, in chunks and record by record, are held to. Behind a function's name: the wrong programs that are ruled out.
use Rattle.std.specs.Prelude.{ℕ, true, false, List, [], ◌++◌, take, drop, Err, None, Ok, Some}
use Rattle.text.specs.Literal.{ascii}
use Rattle.refusal.specs.declared.Cause.TheVariants.{NoLineEnd, WrongWidth, ByteNotAllowed, SequenceWrong, TrailerDisagrees, EndsTooEarly, BytesAfterTheEnd}
use Rattle.chunks.specs.Unfinished.{holding}
use Rattle.payroll_record.specs.declared.kind.Kind.TheVariants.{SegmentA, SegmentB, SegmentZ, FileHeader}
use Rattle.payroll_record.specs.declared.reading.Reading.TheVariants.{Detail, BatchTrailer, FileTrailer}
use Rattle.payroll_run.specs.declared.stage.Stage.{Stage}
use Rattle.payroll_run.specs.declared.stage.Stage.TheVariants.{Start, BetweenBatches, InBatch, BehindA, Ended, Refused}
use Rattle.payroll_run.specs.declared.running.Running.{Running}
use Rattle.payroll_stream.specs.declared.Stream.{Stream}
use Rattle.payroll_stream.specs.declared.feeding.Feeding.{Feeding}
use Rattle.answers.specs.CardRun.{refusal}
use Rattle.answers.specs.PayrollRecord.{detail_of, batch_trailer_of, file_trailer_of}
use Rattle.answers.specs.Samples.{at, file_header, payment, batch_trailer, payroll_file, payroll_file_of, payroll_file_with}
use base.Fml.{Lft}
use Rattle.payroll_run.specs.contracts.running.Running.open as Open
use Rattle.payroll_run.specs.contracts.running.Running.next_number as NextNumber
use Rattle.payroll_run.specs.contracts.running.Running.refusal as RefusalOf
use Rattle.payroll_run.specs.contracts.running.Running.refused as RefusedAt
use Rattle.payroll_run.specs.contracts.running.Running.behind as Behind
use Rattle.payroll_step.specs.contracts.took as Took
use Rattle.payroll_run.specs.contracts.stage.Stage.allows as Allows
use Rattle.payroll_file.specs.contracts.file.take_line as TakeLine
use Rattle.payroll_file.specs.contracts.file.answer_with_rest as AnswerWithRest
use Rattle.payroll_file.specs.contracts.file.check as Check
use Rattle.payroll_stream.specs.contracts.Stream.open as StreamOpen
use Rattle.payroll_stream.specs.contracts.Stream.take as StreamTake
use Rattle.payroll_stream.specs.contracts.Stream.end as StreamEnd
use Rattle.payroll_stream.specs.contracts.Stream.answer as StreamAnswer
use Rattle.payroll_stream.specs.contracts.feeding.Feeding.open as FeedingOpen
use Rattle.payroll_stream.specs.contracts.feeding.Feeding.feed as FeedingFeed
use Rattle.payroll_stream.specs.contracts.feeding.Feeding.close as FeedingClose
use Rattle.payroll_stream.specs.contracts.feeding.Feeding.answer as FeedingAnswer
use borrow.Fn.Read.{r_last}
use Rattle.answers.specs.Held.{Claim, fact_of, logic, memory, run, OneAnswer, Tells, lent, one}
use Rattle.refusal.specs.Fault.{nothing}
use Rattle.payroll_file.specs.Answer.{PayrollAnswer}
use Rattle.payroll_stream.specs.Stream.{PayrollProgress}

-- what each contract says
abbrev OpenSays : Claim Open.ended
OpenSays κs a r s = fact_of ((Open.clauses logic memory run κs a).ensures tt r s) (r_last _)

abbrev NextNumberSays : Claim NextNumber.ended
NextNumberSays κs a r s = fact_of ((NextNumber.clauses logic memory run κs a).ensures tt r s) (r_last _)

abbrev RefusalOfSays : Claim RefusalOf.ended
RefusalOfSays κs a r s = fact_of ((RefusalOf.clauses logic memory run κs a).ensures tt r s) (r_last _)

abbrev RefusedAtSays : Claim RefusedAt.ended
RefusedAtSays κs a r s = fact_of ((RefusedAt.clauses logic memory run κs a).ensures tt r s) (r_last _)

abbrev BehindSays : Claim Behind.ended
BehindSays κs a r s = fact_of ((Behind.clauses logic memory run κs a).ensures tt r s) (r_last _)

abbrev TookSays : Claim Took.ended
TookSays κs a r s = fact_of ((Took.clauses logic memory run κs a).ensures tt r s) (r_last _)

abbrev AllowsSays : Claim Allows.ended
AllowsSays κs a r s = fact_of ((Allows.clauses logic memory run κs a).ensures tt r s) (r_last _)

abbrev TakeLineSays : Claim TakeLine.ended
TakeLineSays κs a r s = fact_of ((TakeLine.clauses logic memory run κs a).ensures tt r s) (r_last _)

abbrev AnswerWithRestSays : Claim AnswerWithRest.ended
AnswerWithRestSays κs a r s = fact_of ((AnswerWithRest.clauses logic memory run κs a).ensures tt r s) (r_last _)

abbrev CheckSays : Claim Check.ended
CheckSays κs a r s = fact_of ((Check.clauses logic memory run κs a).ensures tt r s) (r_last _)

abbrev StreamOpenSays : Claim StreamOpen.ended
StreamOpenSays κs a r s = fact_of ((StreamOpen.clauses logic memory run κs a).ensures tt r s) (r_last _)

abbrev StreamTakeSays : Claim StreamTake.ended
StreamTakeSays κs a r s = fact_of ((StreamTake.clauses logic memory run κs a).ensures tt r s) (r_last _)

abbrev StreamEndSays : Claim StreamEnd.ended
StreamEndSays κs a r s = fact_of ((StreamEnd.clauses logic memory run κs a).ensures tt r s) (r_last _)

abbrev StreamAnswerSays : Claim StreamAnswer.ended
StreamAnswerSays κs a r s = fact_of ((StreamAnswer.clauses logic memory run κs a).ensures tt r s) (r_last _)

abbrev FeedingOpenSays : Claim FeedingOpen.ended
FeedingOpenSays κs a r s = fact_of ((FeedingOpen.clauses logic memory run κs a).ensures tt r s) (r_last _)

abbrev FeedingFeedSays : Claim FeedingFeed.ended
FeedingFeedSays κs a r s = fact_of ((FeedingFeed.clauses logic memory run κs a).ensures tt r s) (r_last _)

abbrev FeedingCloseSays : Claim FeedingClose.ended
FeedingCloseSays κs a r s = fact_of ((FeedingClose.clauses logic memory run κs a).ensures tt r s) (r_last _)

abbrev FeedingAnswerSays : Claim FeedingAnswer.ended
FeedingAnswerSays κs a r s = fact_of ((FeedingAnswer.clauses logic memory run κs a).ensures tt r s) (r_last _)

-- a state at a stage, behind so many records, in batch 1 of so many records and details and this sum, which is the file's amount
abbrev pub state : Stage → ℕ → ℕ → ℕ → ℕ → Running
state stage records in_batch details sum =
    record {
      stage = stage;
      is_return = false;
      records = records;
      batches = 1;
      payments = details;
      amount = sum;
      batch = record { records = in_batch; details = details; sum = sum };
    }

-- nothing has come
abbrev pub opened : Stage → Running
opened stage =
    record {
      stage = stage;
      is_return = false;
      records = 0;
      batches = 0;
      payments = 0;
      amount = 0;
      batch = record { records = 0; details = 0; sum = 0 };
    }

-- the largest number of 64 bits
abbrev largest : ℕ
largest = 18446744073709551615

abbrev pub accepted : ℕ → ℕ → PayrollAnswer
accepted payments amount = Ok (record { records = 5; batches = 1; payments = payments; amount = amount })

-- a stream at a state, with an unfinished record and an answer or none
abbrev pub stream : Running → List ℕ → PayrollProgress → Stream
stream st held progress = record { state = st; held = holding held; progress = progress }

-- a file that is given record by record, at a state with an answer or none
abbrev feeding : Running → PayrollProgress → Feeding
feeding st progress = record { state = st; progress = progress }

pub record PayrollFile (κ : Lft) : Type 0 where
  -- `Running::open`: open at a batch; a record that has not come
  pub opens : OneAnswer OpenSays
  pub opens_in_batch : Tells (OpenSays tt) tt (opened Start) (opened InBatch)
  pub opens_counted : Tells (OpenSays tt) tt (opened Start) (state Start 1 0 0 0)
  -- `Running::next_number`: the record before; a count that wraps
  pub next_number_lem : OneAnswer NextNumberSays
  pub next_number_before : Tells (NextNumberSays tt) (state BehindA 3 2 1 10000, tt) 4 3
  pub next_number_wrapped : Tells (NextNumberSays tt) (state BehindA largest 2 1 10000, tt) largest 0
  -- `Running::refusal`: the record before told; a column left out
  pub refusal_of_lem : OneAnswer RefusalOfSays
  pub refusal_before : Tells (RefusalOfSays tt) (state BehindA 3 2 1 10000, (SequenceWrong, (9, tt))) (refusal SequenceWrong 4 9) (refusal SequenceWrong 3 9)
  pub refusal_column : Tells (RefusalOfSays tt) (state BehindA 3 2 1 10000, (SequenceWrong, (9, tt))) (refusal SequenceWrong 4 9) (refusal SequenceWrong 4 0)
  -- `Running::refused`: the refusal forgotten; the record counted though it is refused
  pub refuses : OneAnswer RefusedAtSays
  pub refuses_forgotten : Tells (RefusedAtSays tt) (state BehindA 3 2 1 10000, (SequenceWrong, (9, tt))) (state (Refused (refusal SequenceWrong 4 9)) 3 2 1 10000) (state BehindA 3 2 1 10000)
  pub refuses_counted : Tells (RefusedAtSays tt) (state BehindA 3 2 1 10000, (SequenceWrong, (9, tt))) (state (Refused (refusal SequenceWrong 4 9)) 3 2 1 10000) (state (Refused (refusal SequenceWrong 4 9)) 4 2 1 10000)
  -- `Running::behind`: a payment counted and not added; amounts added in 64 bits; a trailer that is not counted
  pub behind : OneAnswer BehindSays
  pub behind_not_added : Tells (BehindSays tt) (state InBatch 2 1 0 0, (Detail (detail_of SegmentA nothing 10000), tt)) (state BehindA 3 2 1 10000) (state BehindA 3 2 1 0)
  pub behind_wrapped : Tells (BehindSays tt) (state InBatch 2 1 0 largest, (Detail (detail_of SegmentA nothing 1), tt)) (state BehindA 3 2 1 largest) (state BehindA 3 2 1 0)
  pub behind_not_counted : Tells (BehindSays tt) (state BehindA 3 2 1 10000, (BatchTrailer (batch_trailer_of (Ok 3) (Ok 10000)), tt)) (state BetweenBatches 4 3 1 10000) (state BetweenBatches 3 2 1 10000)
  -- `payroll_step::took`: a record that is only nodded at; amounts added in 64 bits and compared after a wrap, in the batch and over the file; a trailer that does not count itself
  pub took : OneAnswer TookSays
  pub took_nodded : Tells (TookSays tt) (state BehindA 3 2 1 10000, (Detail (detail_of SegmentA nothing 10000), tt)) (state (Refused (refusal SequenceWrong 4 9)) 3 2 1 10000) (state BehindA 4 3 2 20000)
  pub took_wrapped : Tells (TookSays tt) (state InBatch 2 1 0 largest, (Detail (detail_of SegmentA nothing 1), tt)) (state BehindA 3 2 1 largest) (state BehindA 3 2 1 0)
  pub took_wrapped_trailer : Tells (TookSays tt) (state BehindA 3 2 1 largest, (BatchTrailer (batch_trailer_of (Ok 3) (Ok 0)), tt)) (state (Refused (refusal TrailerDisagrees 4 24)) 3 2 1 largest) (state BetweenBatches 4 3 1 largest)
  pub took_10_to_the_19 : Tells (TookSays tt) (state BetweenBatches 4 3 1 10000000000000000000, (FileTrailer (file_trailer_of nothing (Ok 1) (Ok 5)), tt)) (state (Refused (refusal TrailerDisagrees 5 0)) 4 3 1 10000000000000000000) (state Ended 5 4 1 10000000000000000000)
  pub took_not_itself : Tells (TookSays tt) (state BehindA 3 2 1 10000, (BatchTrailer (batch_trailer_of (Ok 2) (Ok 10000)), tt)) (state (Refused (refusal TrailerDisagrees 4 18)) 3 2 1 10000) (state BetweenBatches 4 3 1 10000)
  -- `Stage::allows`: a Z in a file that is no return; a B without an A; a payment without a batch; no header at the start
  pub allows : OneAnswer AllowsSays
  pub allows_z : Tells (AllowsSays tt) (BehindA, (false, (SegmentZ, tt))) false true
  pub allows_b : Tells (AllowsSays tt) (InBatch, (true, (SegmentB, tt))) false true
  pub allows_a : Tells (AllowsSays tt) (Start, (false, (SegmentA, tt))) false true
  pub allows_header : Tells (AllowsSays tt) (Start, (false, (FileHeader, tt))) true false
  -- `take_line`: a piece without CR taken for a record; a payment that is not added
  pub take_line : OneAnswer TakeLineSays
  pub line_without_cr : Tells (TakeLineSays (one κ)) (state InBatch 2 1 0 0, (lent payment, tt)) (state (Refused (refusal NoLineEnd 3 0)) 2 1 0 0) (state BehindA 3 2 1 10000)
  pub line_not_added : Tells (TakeLineSays (one κ)) (state InBatch 2 1 0 0, (lent (at 241 "\r" payment), tt)) (state BehindA 3 2 1 10000) (state BehindA 3 2 1 0)
  -- `answer_with_rest`: the byte 1A optional; a second byte 1A taken; 12 for bytes without a line end
  pub answer_with_rest : OneAnswer AnswerWithRestSays
  pub rest_optional : Tells (AnswerWithRestSays (one κ)) (state Ended 5 3 1 10000, (lent [], tt)) (Err (refusal EndsTooEarly 6 0)) (accepted 1 10000)
  pub rest_second : Tells (AnswerWithRestSays (one κ)) (state Ended 5 3 1 10000, (lent (ascii "\u{1a}\u{1a}"), tt)) (Err (refusal BytesAfterTheEnd 6 0)) (accepted 1 10000)
  pub rest_unended : Tells (AnswerWithRestSays (one κ)) (state BehindA 3 2 1 10000, (lent (ascii "x"), tt)) (Err (refusal NoLineEnd 4 0)) (Err (refusal EndsTooEarly 4 0))
  -- `check`: every file refused; one accepted answer for all files; a look at the first record alone; an accent taken; a payment counted and not added
  pub check : OneAnswer CheckSays
  pub check_refused : Tells (CheckSays (one κ)) (lent payroll_file, tt) (accepted 1 10000) (Err (refusal EndsTooEarly 6 0))
  pub check_one_answer : Tells (CheckSays (one κ)) (lent [], tt) (Err (refusal EndsTooEarly 1 0)) (accepted 1 10000)
  pub check_first_record : Tells (CheckSays (one κ)) (lent (payroll_file_of (at 9 "00002" payment)), tt) (Err (refusal SequenceWrong 3 9)) (accepted 1 10000)
  pub check_accent : Tells (CheckSays (one κ)) (lent (payroll_file_with (at 80 "\u{a0}" file_header) payment batch_trailer), tt) (Err (refusal ByteNotAllowed 1 80)) (accepted 1 10000)
  pub check_not_added : Tells (CheckSays (one κ)) (lent payroll_file, tt) (accepted 1 10000) (accepted 1 0)
  -- `Stream::open`: accepted before anything has come; a byte that has not come
  pub stream_open_lem : OneAnswer StreamOpenSays
  pub stream_open_answered : Tells (StreamOpenSays tt) tt (stream (opened Start) [] None) (stream (opened Start) [] (Some (accepted 1 10000)))
  pub stream_open_byte : Tells (StreamOpenSays tt) tt (stream (opened Start) [] None) (stream (opened Start) (ascii " ") None)
  -- `Stream::take`: a record cut in two judged by its second half; bytes behind an accepted end passed over
  pub stream_take : OneAnswer StreamTakeSays
  pub stream_take_half : Tells (StreamTakeSays (one κ)) (stream (state InBatch 2 1 0 0) (take 100 payment) None, (lent (drop 100 payment ++ ascii "\r\n"), tt)) (stream (state BehindA 3 2 1 10000) [] None) (stream (state (Refused (refusal WrongWidth 3 0)) 2 1 0 0) [] None)
  pub stream_take_behind : Tells (StreamTakeSays (one κ)) (stream (state Ended 5 3 1 10000) [] (Some (accepted 1 10000)), (lent (ascii "x"), tt)) (stream (state Ended 5 3 1 10000) [] (Some (Err (refusal BytesAfterTheEnd 6 0)))) (stream (state Ended 5 3 1 10000) [] (Some (accepted 1 10000)))
  -- `Stream::end`: a file that ends too early accepted; what is held let go
  pub stream_end : OneAnswer StreamEndSays
  pub stream_end_early : Tells (StreamEndSays tt) (stream (state BehindA 3 2 1 10000) [] None, tt) (stream (state BehindA 3 2 1 10000) [] (Some (Err (refusal EndsTooEarly 4 0)))) (stream (state BehindA 3 2 1 10000) [] (Some (accepted 1 10000)))
  pub stream_end_held : Tells (StreamEndSays tt) (stream (state Ended 5 3 1 10000) (ascii "x") None, tt) (stream (state Ended 5 3 1 10000) (ascii "x") (Some (Err (refusal BytesAfterTheEnd 6 0)))) (stream (state Ended 5 3 1 10000) (ascii "x") (Some (accepted 1 10000)))
  -- `Stream::answer`: accepted before the end; a refusal that shows only at the end
  pub stream_answer : OneAnswer StreamAnswerSays
  pub stream_answer_early : Tells (StreamAnswerSays tt) (stream (state Ended 5 3 1 10000) [] None, tt) None (Some (accepted 1 10000))
  pub stream_answer_late : Tells (StreamAnswerSays tt) (stream (state (Refused (refusal WrongWidth 3 0)) 2 1 0 0) [] None, tt) (Some (Err (refusal WrongWidth 3 0))) None
  -- `Feeding::open`: accepted before anything has come; open at a batch
  pub feeding_open : OneAnswer FeedingOpenSays
  pub feeding_open_answered : Tells (FeedingOpenSays tt) tt (feeding (opened Start) None) (feeding (opened Start) (Some (accepted 1 10000)))
  pub feeding_open_in_batch : Tells (FeedingOpenSays tt) tt (feeding (opened Start) None) (feeding (opened InBatch) None)
  -- `Feeding::feed`: a payment that is not added; a record behind an accepted close passed over
  pub feeding_feed : OneAnswer FeedingFeedSays
  pub feeding_feed_not_added : Tells (FeedingFeedSays (one κ)) (feeding (state InBatch 2 1 0 0) None, (lent payment, tt)) (feeding (state BehindA 3 2 1 10000) None) (feeding (state BehindA 3 2 1 0) None)
  pub feeding_feed_behind : Tells (FeedingFeedSays (one κ)) (feeding (state Ended 5 3 1 10000) (Some (accepted 1 10000)), (lent payment, tt)) (feeding (state Ended 5 3 1 10000) (Some (Err (refusal BytesAfterTheEnd 6 0)))) (feeding (state Ended 5 3 1 10000) (Some (accepted 1 10000)))
  -- `Feeding::close`: the byte 1A optional; a further close that answers anew
  pub feeding_close : OneAnswer FeedingCloseSays
  pub feeding_close_optional : Tells (FeedingCloseSays (one κ)) (feeding (state Ended 5 3 1 10000) None, (lent [], tt)) (feeding (state Ended 5 3 1 10000) (Some (Err (refusal EndsTooEarly 6 0)))) (feeding (state Ended 5 3 1 10000) (Some (accepted 1 10000)))
  pub feeding_close_again : Tells (FeedingCloseSays (one κ)) (feeding (state Ended 5 3 1 10000) (Some (accepted 1 10000)), (lent [], tt)) (feeding (state Ended 5 3 1 10000) (Some (accepted 1 10000))) (feeding (state Ended 5 3 1 10000) (Some (Err (refusal EndsTooEarly 6 0))))
  -- `Feeding::answer`: accepted before the close; a refusal that shows only at the close
  pub feeding_answer_lem : OneAnswer FeedingAnswerSays
  pub feeding_answer_early : Tells (FeedingAnswerSays tt) (feeding (state Ended 5 3 1 10000) None, tt) None (Some (accepted 1 10000))
  pub feeding_answer_late : Tells (FeedingAnswerSays tt) (feeding (state (Refused (refusal WrongWidth 3 0)) 2 1 0 0) None, tt) (Some (Err (refusal WrongWidth 3 0))) None
