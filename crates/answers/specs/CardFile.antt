-- What the contracts of a card file, step by step, whole and in chunks, are held to. Behind a function's name: the wrong programs that are ruled out.
use Rattle.std.specs.Prelude.{ℕ, List, [], ◌∷◌, ◌++◌, take, drop, replicate, Err, None, Ok, Some}
use Rattle.text.specs.Literal.{ascii}
use Rattle.refusal.specs.declared.Cause.TheVariants.{
  EditionUnknown,
  EditionRetired,
  OutputTooShort,
  NoLineEnd,
  KindUnknown,
  KindNotAllowedHere,
  ByteNotAllowed,
  ValueNotAllowed,
  SequenceWrong,
  AmountsDisagree,
  TrailerDisagrees,
  EndsTooEarly,
  BytesAfterTheEnd,
}
use Rattle.totals.specs.TwoSets.{sets_of}
use Rattle.chunks.specs.Unfinished.{holding}
use Rattle.chunks.specs.declared.Unfinished.{Unfinished}
use Rattle.card_run.specs.declared.stage.Stage.TheVariants.{Start, BetweenBatches, InBatch, Ended, Closed, Refused}
use Rattle.card_run.specs.declared.running.Running.{Running}
use Rattle.card_stream.specs.declared.Stream.{Stream}
use Rattle.card_record.specs.declared.reading.Reading.TheVariants.{Cv as sale_read, Aj as adjustment_read}
use Rattle.answers.specs.Totals.{amounts, settled, forecast}
use Rattle.answers.specs.CardSale.{sale_as, cash_as, cash_sale}
use Rattle.answers.specs.CardAdjustment.{one_credit, one_debit}
use Rattle.answers.specs.CardRun.{
  adjusted,
  numbers_with,
  numbers,
  batch_of,
  batch,
  state,
  in_batch_with,
  refusal,
  no_sale,
  one_sale,
  one_forecast,
  accepted,
  opened,
}
use Rattle.lines.specs.Lines.{joined}
use Rattle.demands.specs.ExampleFile.{a0, l0, l9, a9, file_of}
use Rattle.answers.specs.Samples.{at, sale, credit, card_file, adjusted_file}
use base.Fml.{Lft}
use Rattle.card_step.specs.contracts.took as Took
use Rattle.card_file.specs.contracts.feed as Feed
use Rattle.card_file.specs.contracts.room.check_with_room as WithRoom
use Rattle.card_file.specs.contracts.take_line as TakeLine
use Rattle.card_file.specs.contracts.no_line_end as NoLineEndOf
use Rattle.card_file.specs.contracts.end as EndOf
use Rattle.card_file.specs.contracts.check as Check
use Rattle.card_stream.specs.contracts.Stream.open as StreamOpen
use Rattle.card_stream.specs.contracts.Stream.take as StreamTake
use Rattle.card_stream.specs.contracts.Stream.end as StreamEnd
use Rattle.card_stream.specs.contracts.Stream.answer as StreamAnswer
use Rattle.chunks.specs.contracts.Unfinished.none as UnfinishedNone
use Rattle.chunks.specs.contracts.Unfinished.size as UnfinishedSize
use Rattle.chunks.specs.contracts.Unfinished.followed_by as FollowedBy
use borrow.Fn.Read.{r_last}
use Rattle.answers.specs.Held.{Claim, fact_of, logic, memory, run, OneAnswer, Tells, lent, one}

-- what each contract says
abbrev TookSays : Claim Took.ended
TookSays κs a r s = fact_of ((Took.clauses logic memory run κs a).ensures tt r s) (r_last _)

abbrev FeedSays : Claim Feed.ended
FeedSays κs a r s = fact_of ((Feed.clauses logic memory run κs a).ensures tt r s) (r_last _)

abbrev WithRoomSays : Claim WithRoom.ended
WithRoomSays κs a r s = fact_of ((WithRoom.clauses logic memory run κs a).ensures tt r s) (r_last _)

abbrev EndOfSays : Claim EndOf.ended
EndOfSays κs a r s = fact_of ((EndOf.clauses logic memory run κs a).ensures tt r s) (r_last _)

abbrev TakeLineSays : Claim TakeLine.ended
TakeLineSays κs a r s = fact_of ((TakeLine.clauses logic memory run κs a).ensures tt r s) (r_last _)

abbrev NoLineEndOfSays : Claim NoLineEndOf.ended
NoLineEndOfSays κs a r s = fact_of ((NoLineEndOf.clauses logic memory run κs a).ensures tt r s) (r_last _)

abbrev CheckSays : Claim Check.ended
CheckSays κs a r s = fact_of ((Check.clauses logic memory run κs a).ensures tt r s) (r_last _)

abbrev StreamOpenSays : Claim StreamOpen.ended
StreamOpenSays κs a r s = fact_of ((StreamOpen.clauses logic memory run κs a).ensures tt r s) (r_last _)

abbrev StreamTakeSays : Claim StreamTake.ended
StreamTakeSays κs a r s = fact_of ((StreamTake.clauses logic memory run κs a).ensures tt r s) (r_last _)

abbrev StreamEndSays : Claim StreamEnd.ended
StreamEndSays κs a r s = fact_of ((StreamEnd.clauses logic memory run κs a).ensures tt r s) (r_last _)

abbrev StreamAnswerSays : Claim StreamAnswer.ended
StreamAnswerSays κs a r s = fact_of ((StreamAnswer.clauses logic memory run κs a).ensures tt r s) (r_last _)

abbrev UnfinishedNoneSays : Claim UnfinishedNone.ended
UnfinishedNoneSays κs a r s = fact_of ((UnfinishedNone.clauses logic memory run κs a).ensures tt r s) (r_last _)

abbrev UnfinishedSizeSays : Claim UnfinishedSize.ended
UnfinishedSizeSays κs a r s = fact_of ((UnfinishedSize.clauses logic memory run κs a).ensures tt r s) (r_last _)

abbrev FollowedBySays : Claim FollowedBy.ended
FollowedBySays κs a r s = fact_of ((FollowedBy.clauses logic memory run κs a).ensures tt r s) (r_last _)

-- a stream at a state, with an unfinished record
abbrev pub stream : Running → List ℕ → Stream
stream st held = record { state = st; held = holding held }

-- a length past the buffer, which stands for all of it
abbrev too_long : Unfinished
too_long = record { bytes = replicate 242 65; length = 300 }

pub record CardFile (κ : Lft) : Type 0 where
  -- `took`: a record that is only nodded at; a sale that is counted and not added; a sale taken behind A9
  pub took : OneAnswer TookSays
  pub took_nodded : Tells (TookSays tt) (state InBatch 3 one_sale, (sale_read cash_sale, tt)) (state (Refused (refusal SequenceWrong 4 194)) 3 one_sale) (state InBatch 4 one_sale)
  pub took_not_added : Tells (TookSays tt) (state InBatch 2 no_sale, (sale_read cash_sale, tt)) (state InBatch 3 one_sale) (state InBatch 3 no_sale)
  pub took_behind_a9 : Tells (TookSays tt) (state Ended 2 no_sale, (sale_read cash_sale, tt)) (state (Refused (refusal BytesAfterTheEnd 3 0)) 2 no_sale) (state InBatch 3 one_sale)
  -- a forecast among the settled, in neither set, in both; launch type 2 among the forecasts; the sale's amounts of a forecast where the instalment's are payable; a
  -- forecast that the batch does not add
  pub took_settled : Tells (TookSays tt) (state InBatch 2 no_sale, (sale_read (cash_as 0), tt)) (state InBatch 3 one_forecast) (state InBatch 3 one_sale)
  pub took_neither : Tells (TookSays tt) (state InBatch 2 no_sale, (sale_read (cash_as 0), tt)) (state InBatch 3 one_forecast) (in_batch_with 3 no_sale (adjusted 0 0) (adjusted 0 0) (batch 1 10000))
  pub took_both : Tells (TookSays tt) (state InBatch 2 no_sale, (sale_read (cash_as 0), tt)) (state InBatch 3 one_forecast) (in_batch_with 3 (sets_of one_forecast.forecast one_sale.settled) (adjusted 0 0) (adjusted 0 0) (batch 1 10000))
  pub took_advanced : Tells (TookSays tt) (state InBatch 2 no_sale, (sale_read (cash_as 2), tt)) (state InBatch 3 one_sale) (state InBatch 3 one_forecast)
  pub took_instalment : Tells (TookSays tt) (state InBatch 2 no_sale, (sale_read (sale_as 0 (amounts 9 3 6) 2 3 (amounts 3 1 2)), tt)) (state InBatch 3 (forecast 1 (amounts 3 1 2))) (state InBatch 3 (forecast 1 (amounts 9 3 6)))
  pub took_not_in_batch : Tells (TookSays tt) (state InBatch 2 no_sale, (sale_read (cash_as 0), tt)) (state InBatch 3 one_forecast) (in_batch_with 3 one_forecast (adjusted 0 0) (adjusted 0 0) (batch 0 0))
  -- an adjustment: its gross in the batch's sum; counted among the sales; a debit added; refused where the sum is below zero on the way
  pub took_gross : Tells (TookSays tt) (state InBatch 2 no_sale, (adjustment_read one_credit, tt)) (in_batch_with 3 no_sale (adjusted 1 975) (adjusted 0 0) (batch 1 975)) (in_batch_with 3 no_sale (adjusted 1 975) (adjusted 0 0) (batch 1 1000))
  pub took_as_sale : Tells (TookSays tt) (state InBatch 2 no_sale, (adjustment_read one_credit, tt)) (in_batch_with 3 no_sale (adjusted 1 975) (adjusted 0 0) (batch 1 975)) (in_batch_with 3 (settled 1 (amounts 1000 25 975)) (adjusted 1 975) (adjusted 0 0) (batch 1 975))
  pub took_debit_added : Tells (TookSays tt) (state InBatch 2 no_sale, (adjustment_read one_debit, tt)) (in_batch_with 3 no_sale (adjusted 0 0) (adjusted 1 975) (batch_of 1 0 975)) (in_batch_with 3 no_sale (adjusted 0 0) (adjusted 1 975) (batch 1 975))
  pub took_below_zero : Tells (TookSays tt) (state InBatch 2 no_sale, (adjustment_read one_debit, tt)) (in_batch_with 3 no_sale (adjusted 0 0) (adjusted 1 975) (batch_of 1 0 975)) (state (Refused (refusal TrailerDisagrees 3 132)) 2 no_sale)
  -- `feed`: a sale whose amounts disagree added; L9's sum not compared; a refused state that goes on
  pub feed : OneAnswer FeedSays
  pub feed_disagreeing : Tells (FeedSays (one κ)) (state InBatch 2 no_sale, (lent (at 77 "00000009751" sale), tt)) (state (Refused (refusal AmountsDisagree 3 77)) 2 no_sale) (state InBatch 3 one_sale)
  pub feed_l9 : Tells (FeedSays (one κ)) (state InBatch 3 one_sale, (lent (at 9 "00000000009750" l9), tt)) (state (Refused (refusal TrailerDisagrees 4 9)) 3 one_sale) (record { stage = BetweenBatches; edition = 2; numbers = numbers 4 1 one_sale; batch = batch 1 10000 })
  pub feed_refused : Tells (FeedSays (one κ)) (state (Refused (refusal KindUnknown 2 1)) 2 no_sale, (lent sale, tt)) (state (Refused (refusal KindUnknown 2 1)) 2 no_sale) (state InBatch 3 one_sale)
  -- a trailer of a batch with a forecast, checked against the settled alone: refused where it covers both, and taken where it covers no more than those
  pub feed_both : Tells (FeedSays (one κ)) (state InBatch 3 one_forecast, (lent l9, tt)) (record { stage = BetweenBatches; edition = 2; numbers = numbers 4 1 one_forecast; batch = batch 1 10000 }) (state (Refused (refusal TrailerDisagrees 4 3)) 3 one_forecast)
  pub feed_settled_alone : Tells (FeedSays (one κ)) (state InBatch 3 one_forecast, (lent (at 3 "00000000000000000000" l9), tt)) (state (Refused (refusal TrailerDisagrees 4 3)) 3 one_forecast) (record { stage = BetweenBatches; edition = 2; numbers = numbers 4 1 one_forecast; batch = batch 1 10000 })
  -- a trailer that says the absolute value of a sum below zero taken; one that says what is left of the sum refused
  pub feed_absolute :
      Tells (FeedSays (one κ)) (in_batch_with 3 no_sale (adjusted 0 0) (adjusted 1 975) (batch_of 1 0 975), (lent (at 9 "00000000000975" l9), tt))
      (record { stage = Refused (refusal TrailerDisagrees 4 9); edition = 2; numbers = numbers_with 3 0 no_sale (adjusted 0 0) (adjusted 1 975); batch = batch_of 1 0 975 })
      (record { stage = BetweenBatches; edition = 2; numbers = numbers_with 4 1 no_sale (adjusted 0 0) (adjusted 1 975); batch = batch_of 1 0 975 })
  pub feed_difference :
      Tells (FeedSays (one κ)) (in_batch_with 3 one_sale (adjusted 0 0) (adjusted 1 975) (batch_of 1 10000 975), (lent (at 9 "00000000009025" l9), tt))
      (record { stage = BetweenBatches; edition = 2; numbers = numbers_with 4 1 one_sale (adjusted 0 0) (adjusted 1 975); batch = batch_of 1 10000 975 })
      (record { stage = Refused (refusal TrailerDisagrees 4 9); edition = 2; numbers = numbers_with 3 0 one_sale (adjusted 0 0) (adjusted 1 975); batch = batch_of 1 10000 975 })
  -- `take_line`: a piece without CR taken for a record; the CR taken for a part of the record
  pub take_line : OneAnswer TakeLineSays
  pub line_without_cr : Tells (TakeLineSays (one κ)) (state InBatch 2 no_sale, (lent sale, tt)) (state (Refused (refusal NoLineEnd 3 0)) 2 no_sale) (state InBatch 3 one_sale)
  pub line_with_cr : Tells (TakeLineSays (one κ)) (state InBatch 2 no_sale, (lent (at 200 "\r" sale), tt)) (state InBatch 3 one_sale) (state (Refused (refusal NoLineEnd 3 0)) 2 no_sale)
  -- `no_line_end`: 3 before 13; 12 for bytes without a line end
  pub no_line_end : OneAnswer NoLineEndOfSays
  pub no_line_end_behind_a9 : Tells (NoLineEndOfSays tt) (state Ended 5 one_sale, tt) (state (Refused (refusal BytesAfterTheEnd 6 0)) 5 one_sale) (state (Refused (refusal NoLineEnd 6 0)) 5 one_sale)
  pub no_line_end_early : Tells (NoLineEndOfSays tt) (state InBatch 3 one_sale, tt) (state (Refused (refusal NoLineEnd 4 0)) 3 one_sale) (state (Refused (refusal EndsTooEarly 4 0)) 3 one_sale)
  -- `end`: a file closed with bytes left; 3 where nothing is left
  pub end_of : OneAnswer EndOfSays
  pub end_passed_over : Tells (EndOfSays (one κ)) (state Ended 5 one_sale, (lent (ascii "x"), tt)) (state (Refused (refusal BytesAfterTheEnd 6 0)) 5 one_sale) (state Closed 5 one_sale)
  pub end_unended : Tells (EndOfSays (one κ)) (state InBatch 3 one_sale, (lent [], tt)) (state (Refused (refusal EndsTooEarly 4 0)) 3 one_sale) (state (Refused (refusal NoLineEnd 4 0)) 3 one_sale)
  -- `check`: every file refused; a made-up count; one accepted answer for all files
  pub check : OneAnswer CheckSays
  pub check_refused : Tells (CheckSays (one κ)) (2, (lent card_file, tt)) (accepted 5 1 one_sale) (Some (Err (refusal EndsTooEarly 6 0)))
  pub check_count : Tells (CheckSays (one κ)) (2, (lent card_file, tt)) (accepted 5 1 one_sale) (accepted 5 1 (settled 2 (amounts 10000 250 9750)))
  pub check_one_answer : Tells (CheckSays (one κ)) (2, (lent [], tt)) (Some (Err (refusal EndsTooEarly 1 0))) (accepted 5 1 one_sale)
  -- a forecast told as settled; launch type 2 told as forecast; the sale's amounts where a forecast of an instalment is payable
  pub check_forecast : Tells (CheckSays (one κ)) (2, (lent (file_of (at 44 "0" sale)), tt)) (accepted 5 1 one_forecast) (accepted 5 1 one_sale)
  pub check_advanced : Tells (CheckSays (one κ)) (2, (lent (file_of (at 44 "2" sale)), tt)) (accepted 5 1 one_sale) (accepted 5 1 one_forecast)
  pub check_instalment : Tells (CheckSays (one κ)) (2, (lent (joined (a0 ∷ l0 ∷ at 44 "0" (at 107 "0102" (at 123 "000000040000000000010000000003900" sale)) ∷ at 9 "00000000004000" l9 ∷ a9 ∷ [])), tt)) (accepted 5 1 (forecast 1 (amounts 4000 100 3900))) (accepted 5 1 one_forecast)
  -- a look at the first record alone; an edition cut down to a byte; the edition by the version string; capture 7 judged under edition 1; what stands behind A9 passed over
  pub check_first_record : Tells (CheckSays (one κ)) (2, (lent (file_of (at 194 "000004" sale)), tt)) (Some (Err (refusal SequenceWrong 3 194))) (accepted 5 1 one_sale)
  pub check_258 : Tells (CheckSays (one κ)) (258, (lent card_file, tt)) (Some (Err (refusal EditionUnknown 0 0))) (accepted 5 1 one_sale)
  pub check_version : Tells (CheckSays (one κ)) (1, (lent card_file, tt)) (Some (Err (refusal EditionRetired 0 0))) (accepted 5 1 one_sale)
  pub check_capture : Tells (CheckSays (one κ)) (1, (lent (file_of (at 54 "7" sale)), tt)) (Some (Err (refusal EditionRetired 0 0))) (Some (Err (refusal ValueNotAllowed 3 54)))
  pub check_behind_a9 : Tells (CheckSays (one κ)) (2, (lent (card_file ++ ascii "\n"), tt)) (Some (Err (refusal BytesAfterTheEnd 6 0))) (accepted 5 1 one_sale)
  -- a header refused for its accents; one that holds 159 taken
  pub check_accents : Tells (CheckSays (one κ)) (2, (lent (joined (at 29 "ESTAÇÃO" a0 ∷ l0 ∷ sale ∷ l9 ∷ a9 ∷ [])), tt)) (accepted 5 1 one_sale) (Some (Err (refusal ByteNotAllowed 1 29)))
  pub check_159 : Tells (CheckSays (one κ)) (2, (lent (joined (at 29 "ESTA\u{9f}" a0 ∷ l0 ∷ sale ∷ l9 ∷ a9 ∷ [])), tt)) (Some (Err (refusal ByteNotAllowed 1 29))) (accepted 5 1 one_sale)
  -- a file with an adjustment: refused as unknown; the credit forgotten; an adjustment before L0 taken
  pub check_adjusted : Tells (CheckSays (one κ)) (2, (lent adjusted_file, tt)) (Some (Ok (numbers_with 6 1 one_sale (adjusted 1 975) (adjusted 0 0)))) (Some (Err (refusal KindUnknown 4 1)))
  pub check_credit : Tells (CheckSays (one κ)) (2, (lent adjusted_file, tt)) (Some (Ok (numbers_with 6 1 one_sale (adjusted 1 975) (adjusted 0 0)))) (accepted 6 1 one_sale)
  pub check_before_l0 : Tells (CheckSays (one κ)) (2, (lent (joined (a0 ∷ at 188 "000002" credit ∷ at 3 "000003000003" a9 ∷ [])), tt)) (Some (Err (refusal KindNotAllowedHere 2 0))) (Some (Ok (numbers_with 3 0 no_sale (adjusted 1 975) (adjusted 0 0))))
  -- `check_with_room`: 2 before 1, and before 22; the file's own refusal before 2; a byte more asked for than is needed
  pub with_room : OneAnswer WithRoomSays
  pub with_room_edition : Tells (WithRoomSays (one κ)) (3, (lent card_file, (52, (0, tt)))) (Some (Err (refusal EditionUnknown 0 0))) (Some (Err (refusal OutputTooShort 0 0)))
  pub with_room_retired : Tells (WithRoomSays (one κ)) (1, (lent card_file, (52, (0, tt)))) (Some (Err (refusal EditionRetired 0 0))) (Some (Err (refusal OutputTooShort 0 0)))
  pub with_room_first : Tells (WithRoomSays (one κ)) (2, (lent [], (52, (51, tt)))) (Some (Err (refusal OutputTooShort 0 0))) (Some (Err (refusal EndsTooEarly 1 0)))
  pub with_room_exact : Tells (WithRoomSays (one κ)) (2, (lent card_file, (52, (52, tt)))) (accepted 5 1 one_sale) (Some (Err (refusal OutputTooShort 0 0)))
  -- `Stream::open`: always edition 2; edition 1 open, so that 22 comes at the end at the earliest; a byte that has not come
  pub stream_open_lem : OneAnswer StreamOpenSays
  pub stream_open_3 : Tells (StreamOpenSays tt) (3, tt) (stream (opened (Refused (refusal EditionUnknown 0 0)) 3) []) (stream (opened Start 3) [])
  pub stream_open_1 : Tells (StreamOpenSays tt) (1, tt) (stream (opened (Refused (refusal EditionRetired 0 0)) 1) []) (stream (opened Start 1) [])
  pub stream_open_byte : Tells (StreamOpenSays tt) (2, tt) (stream (opened Start 2) []) (stream (opened Start 2) (ascii " "))
  -- `Stream::take`: a record cut in two judged by its second half; what comes behind the LF lost
  pub stream_take : OneAnswer StreamTakeSays
  pub stream_take_half : Tells (StreamTakeSays (one κ)) (stream (state InBatch 2 no_sale) (take 100 sale), (lent (drop 100 sale ++ ascii "\r\n"), tt)) (stream (state InBatch 3 one_sale) []) (stream (state (Refused (refusal NoLineEnd 3 0)) 2 no_sale) [])
  pub stream_take_lost : Tells (StreamTakeSays (one κ)) (stream (state InBatch 2 no_sale) [], (lent (sale ++ ascii "\r\nL9"), tt)) (stream (state InBatch 3 one_sale) (ascii "L9")) (stream (state InBatch 3 one_sale) [])
  -- `Stream::end`: an unfinished record let go; a file that ends too early accepted
  pub stream_end : OneAnswer StreamEndSays
  pub stream_end_held : Tells (StreamEndSays tt) (stream (state Ended 5 one_sale) (ascii "x"), tt) (stream (state (Refused (refusal BytesAfterTheEnd 6 0)) 5 one_sale) []) (stream (state Closed 5 one_sale) [])
  pub stream_end_early : Tells (StreamEndSays tt) (stream (state InBatch 3 one_sale) [], tt) (stream (state (Refused (refusal EndsTooEarly 4 0)) 3 one_sale) []) (stream (state Closed 3 one_sale) [])
  -- `Stream::answer`: accepted before the end; accepted though a byte came behind the end
  pub stream_answer : OneAnswer StreamAnswerSays
  pub stream_answer_early : Tells (StreamAnswerSays tt) (stream (state Ended 5 one_sale) [], tt) None (accepted 5 0 one_sale)
  pub stream_answer_behind : Tells (StreamAnswerSays tt) (stream (state Closed 5 one_sale) (ascii "x"), tt) (Some (Err (refusal BytesAfterTheEnd 6 0))) (accepted 5 0 one_sale)
  -- `Unfinished::none`: a byte that has not come; a length of the whole buffer
  pub unfinished_none : OneAnswer UnfinishedNoneSays
  pub unfinished_none_byte : Tells (UnfinishedNoneSays tt) tt (holding []) (holding (ascii " "))
  pub unfinished_none_whole : Tells (UnfinishedNoneSays tt) tt (holding []) (holding (replicate 242 0))
  -- `Unfinished::size`: the buffer's own length; a length past the buffer
  pub unfinished_size : OneAnswer UnfinishedSizeSays
  pub unfinished_size_buffer : Tells (UnfinishedSizeSays tt) (holding (ascii "CV"), tt) 2 242
  pub unfinished_size_past : Tells (UnfinishedSizeSays tt) (too_long, tt) 242 300
  -- `Unfinished::followed_by`: what was held forgotten; the last byte of a long piece lost
  pub followed_by : OneAnswer FollowedBySays
  pub followed_forgotten : Tells (FollowedBySays (one κ)) (holding (ascii "C"), (lent (ascii "V"), tt)) (holding (ascii "CV")) (holding (ascii "V"))
  pub followed_last_lost : Tells (FollowedBySays (one κ)) (holding (replicate 242 65), (lent (ascii "\r"), tt)) (holding (replicate 241 65 ++ ascii "\r")) (holding (replicate 242 65))
