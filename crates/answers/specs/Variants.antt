-- What the demands are held to: of each a variant with a hypothesis dropped or a definition changed, which does not hold. Each names the field that it
-- is a variant of.
use Rattle.std.specs.Prelude.{ℕ, suc, ◌+◌, ◌^◌, ◌≤◌, ◌≡◌, ◌↔◌, true, false, cond, ◌&&◌, length, get_or, take, drop, replicate, eqb, Err, Ok, Some}
use mathlib.Core.List.{List, [], ◌∷◌, ◌++◌, map, foldl}
use Rattle.refusal.specs.declared.Cause.TheVariants.{EditionUnknown, EditionRetired}
use Rattle.refusal.specs.declared.Refusal.{Refusal}
use Rattle.refusal.specs.Nowhere.{nowhere}
use Rattle.refusal.specs.Row.{no_refusal}
use Rattle.refusal.specs.Rules.{all_hold}
use Rattle.text.specs.Alphabet.{digit}
use Rattle.pan.specs.AgreeOutside.{AgreeOutside}
use Rattle.pan.specs.Masked.{star_where}
use Rattle.lines.specs.Lines.{all_no_lf, cut, joined, without_last}
use Rattle.chunks.specs.Chunks.{joined_chunks}
use Rattle.wording.specs.Shown.{shown_as}
use Rattle.first_fault.specs.InTurn.{records_in, pieces_hold, ComesBehind}
use Rattle.edition.specs.Known.{current, retired, known}
use Rattle.card_content.specs.EqualOutside.{EqualOutside}
use Rattle.card_record.specs.declared.kind.Kind.{Kind}
use Rattle.card_record.specs.Kind.{kind_of}
use Rattle.card_record.specs.Reading.{reading_of}
use Rattle.card_quick.specs.Quick.{passes_quick}
use Rattle.card_run.specs.declared.running.Running.{Running}
use Rattle.card_run.specs.Running.{open_of, next_number, closed_of}
use Rattle.card_run.specs.Answer.{answer_of, going_on_row, refused_row, card_file_row, CardAnswer}
use Rattle.card_file.specs.Feeding.{fed_of, fed_all}
use Rattle.card_file.specs.CardFile.{check_of}
use Rattle.card_kept.specs.FirstFault.{FirstFaultOfRecord, rules_behind, FirstFaultDecides}
use Rattle.card_kept.specs.Kept.{Kept, records_of, added, taken, sales_of}
use Rattle.card_kept.specs.Limits.{before_joined, in_batch, NoSumIsRight, SalesOf}
use Rattle.card_kept.specs.Numbers.{TotalsOf}
use Rattle.card_kept.specs.State.{transactions_in, plain_batch, plain_state, state_behind, StateKnown}
use Rattle.card_sheet.specs.SheetOf.{sheet_from, SheetOf}
use Rattle.card_sheet.specs.PlainSheet.{plain_sheet1}
use Rattle.card_mask.specs.Mask.{Masks}
use Rattle.card_mask.specs.Masked.{masked_file, MasksLines}
use Rattle.card_stream.specs.declared.Stream.{Stream}
use Rattle.card_stream.specs.Stream as stream
use Rattle.adjustment_rows.specs.declared.rows.Rows.{Rows}
use Rattle.adjustment_rows.specs.Fields.{quoted}
use Rattle.adjustment_rows.specs.Row.{row_of}
use Rattle.adjustment_rows.specs.Rows.{csv_of, PutsRows}
use Rattle.file_list.specs.Line.{file_line}
use Rattle.card_program.specs.declared.verdict.Lines.TheVariants.{Sales}
use Rattle.card_program.specs.Listing.{words_of}
use Rattle.card_program.specs.Outcome.{outcome_at}
use Rattle.card_program.specs.Verdict.{verdict_text, outcome_text}
use Rattle.payroll_record.specs.declared.kind.Kind.TheVariants.{BatchTrailer, FileTrailer}
use Rattle.payroll_run.specs.declared.running.Running.{Running as PayrollRunning}
use Rattle.payroll_file.specs.Answer.{payroll_row}
use Rattle.payroll_stream.specs.Stream.{PayrollProgress}
use Rattle.payroll_file.specs.PayrollFile.{check_of as payroll_check_of}
use Rattle.payroll_kept.specs.FirstFault as PayrollRecord
use Rattle.payroll_kept.specs.FirstFaultOfFile as PayrollFile
use Rattle.payroll_kept.specs.Kept as payroll
use Rattle.payroll_kept.specs.Limits as PayrollLimits
use Rattle.payroll_kept.specs.State as PayrollState
use Rattle.payroll_stream.specs.declared.feeding.Feeding.{Feeding}
use Rattle.payroll_stream.specs.Stream.{progress_row}
use Rattle.payroll_stream.specs.Feeding.{open_feeding, closed_with, fed_all as feeding_all, answer_of as feeding_answer}
use Rattle.sheet_numbers.specs.declared.sheet.Sheet.{Sheet}
use Rattle.day_sheet.specs.Sheet.{bytes_of}
use Rattle.sheet_numbers.specs.Allowed.{sheet_allowed}
use Rattle.day_sheet.specs.Reading.{read_of}
use Rattle.day_sheet.specs.Writing.{Writes}
use Rattle.sheet_numbers.specs.Converted.{converted}
use Rattle.day_sheet.specs.Conversion.{Converts, converted_bytes}
use Rattle.day_sheet.specs.Answer.{read_row}
use Rattle.day_sheet.specs.Writing.{SheetWritten}
use Rattle.answer_rows.specs.Card.{card_numbers}
use Rattle.answer_rows.specs.Payroll.{payroll_numbers, progress_numbers}
use Rattle.state_numbers.specs.CardState.{state_numbers, state_of}
use Rattle.state_numbers.specs.PayrollState.{feeding_numbers, feeding_of}
use Rattle.state_numbers.specs.Calls.{
  card_open_by,
  card_fed_by,
  card_closed_by,
  payroll_open_by,
  payroll_fed_by,
  payroll_closed_by,
  Kept as KeptStream,
  card_kept,
  card_stream_of,
  card_stream_open_by,
  card_taken_by,
  payroll_kept,
  payroll_stream_of,
  payroll_stream_open_by,
  payroll_taken_by,
}
use Rattle.demands.specs.Demands.{Demands}
use Rattle.demands.specs.Editions.{RefusedOutright}
use Rattle.demands.specs.Examples.{agrees, all_as_written}
use Rattle.demands.specs.Feeding.{FedAsWhole, RefusedForGood, AfterAcceptedClose, OnePastTheLast, after_the_end}
use Rattle.demands.specs.HiddenDigits.{hidden_in_record, hidden_in, TwinRecords, TwinFiles}
use Rattle.demands.specs.HiddenDigitsExample.{one_file, other_file, one_credit, other_credit}
use Rattle.demands.specs.InChunks.{card_taken, card_in_chunks, copied_in_chunks, tabled_in_chunks}
use Rattle.demands.specs.KeptAsNumbers.{card_row_of, payroll_row_of, card_stream_row, payroll_stream_row}
use Rattle.demands.specs.MaskTwice.{FileAndMasked}
use Rattle.demands.specs.PayrollFeeding.{PayrollFedAsWhole, PayrollRefusedForGood, PayrollAfterAcceptedClose}
use Rattle.demands.specs.RowsOfFile.{plain_rows}
use Rattle.demands.specs.SameWay.{ways_of, sizes_of}
use Rattle.demands.specs.ToldAlike.{ComeAlike}
use Rattle.demands.specs.TwinsMade.{DigitsChanged}
use Rattle.files.specs.Loaded.{Got}

-- a demand, and a variant of it that does not hold
abbrev pub NotSo : {Right : Type 0} → Right → Type 0 → Type 0
NotSo right Wrong = Wrong → ⊥

pub record Variants (d : Demands) : Type 0 where
  -- of a state that is refused too
  pub record_judged : NotSo d.record_judged ((st : Running) (r : List ℕ) → FirstFaultOfRecord st r)
  -- 1 for an edition that is retired too
  pub edition_first : NotSo d.edition_first ((edition : ℕ) → current edition ≡ false → RefusedOutright edition EditionUnknown)
  -- 22 for one that is not known too; and fed, not before the close
  pub edition_retired : NotSo d.edition_retired ((edition : ℕ) → current edition ≡ false → RefusedOutright edition EditionRetired)
  pub retired_when_fed : NotSo d.edition_retired
      ((edition : ℕ) → retired edition ≡ true → (r : List ℕ) → card_file_row (answer_of (fed_of (open_of edition) r)) ≡ going_on_row)
  -- under an edition that is retired too
  pub file_judged : NotSo d.file_judged ((edition : ℕ) → known edition ≡ true → (file : List ℕ) → FirstFaultDecides edition file)
  -- of pieces that break a rule too; and all transactions of the file taken for those since the last L0
  pub state_known : NotSo d.state_known
      ((edition : ℕ) → current edition ≡ true → (pieces : List (List ℕ)) → all_no_lf pieces ≡ true → StateKnown edition pieces)
  pub since_header_lem : NotSo d.state_known
      ((edition : ℕ) → current edition ≡ true → (pieces : List (List ℕ)) → all_no_lf pieces ≡ true → pieces_hold (rules_behind edition) [] pieces ≡ true →
      (state_behind edition pieces).batch ≡ plain_batch (transactions_in (records_in pieces)))
  -- a file of five pieces; every record, whatever its number
  pub million_pieces : NotSo d.millionth_record.is_refused_lem
      ((edition : ℕ) → current edition ≡ true → (file : List ℕ) → 5 ≤ length (cut file).pieces →
      (refusal : Refusal) × (card_file_row (check_of edition file) ≡ refused_row refusal) × (refusal.«record» ≤ 5))
  pub millionth_record : NotSo d.millionth_record.by_nine
      ((edition : ℕ) (file : List ℕ) (earlier : List (List ℕ)) (p : List ℕ) → current edition ≡ true → ComesBehind (rules_behind edition) file earlier p → (kind : Kind) → kind_of (without_last p) ≡ Some kind →
      all_hold (before_joined (plain_state edition (records_in earlier)) kind p) ≡ true → (card_file_row (check_of edition file)).refusal.number ≡ 9)
  -- too large for four digits; of one sale
  pub too_large : NotSo d.sum_of_no_trailer.too_large
      ((edition : ℕ) (file : List ℕ) (earlier : List (List ℕ)) → 10 ^ 4 + taken (in_batch earlier) ≤ added (in_batch earlier) → NoSumIsRight edition file earlier)
  pub of_sales : NotSo d.sum_of_no_trailer.of_sales
      ((edition : ℕ) (file : List ℕ) (earlier : List (List ℕ)) → length (in_batch earlier) ≡ 1 → SalesOf 10_000 (in_batch earlier) → NoSumIsRight edition file earlier)
  -- that a sum which is not below zero is none
  pub below_zero : NotSo d.sum_of_no_trailer.below_zero
      ((edition : ℕ) (file : List ℕ) (earlier : List (List ℕ)) → taken (in_batch earlier) ≤ added (in_batch earlier) → NoSumIsRight edition file earlier)
  -- of a state that is refused too
  pub payroll_record_judged : NotSo d.payroll_record_judged ((st : PayrollRunning) (r : List ℕ) → PayrollRecord.FirstFaultOfRecord st r)
  -- what stands behind the last LF not looked at
  pub payroll_file_judged : NotSo d.payroll_file_judged
      ((file : List ℕ) → ((payroll_row (payroll_check_of file)).accepted ≡ true) ↔ (pieces_hold PayrollFile.rules_behind [] (cut file).pieces ≡ true))
  -- of pieces that break a rule too; and the amount of the last batch taken for the file's
  pub payroll_state_known : NotSo d.payroll_state_known ((pieces : List (List ℕ)) → PayrollState.StateKnown pieces)
  pub payroll_amount : NotSo d.payroll_state_known
      ((pieces : List (List ℕ)) → pieces_hold PayrollFile.rules_behind [] pieces ≡ true →
      (PayrollState.state_behind pieces).amount ≡ PayrollState.amount_in (PayrollState.from_header (records_in pieces)))
  -- too large for four digits, of a sum and of an amount; a fifth record; and never cut at the top
  pub payroll_sum : NotSo d.payroll_too_large
      ((file : List ℕ) (earlier : List (List ℕ)) → 10 ^ 4 ≤ PayrollState.amount_in (PayrollState.from_header (records_in earlier)) →
      PayrollLimits.RefusedAt 24 BatchTrailer PayrollLimits.before_sum file earlier)
  pub payroll_total : NotSo d.payroll_too_large
      ((file : List ℕ) (earlier : List (List ℕ)) → 10 ^ 4 ≤ PayrollState.amount_in (records_in earlier) →
      PayrollLimits.RefusedAt 0 FileTrailer PayrollLimits.before_amount file earlier)
  pub payroll_records : NotSo d.payroll_too_large
      ((file : List ℕ) (earlier : List (List ℕ)) → 4 ≤ length earlier → PayrollLimits.RefusedAt 24 FileTrailer PayrollLimits.before_records file earlier)
  pub payroll_top : NotSo d.payroll_top ((n : ℕ) → PayrollState.stayed n ≡ n)
  -- of an accepted file too
  pub refused_leaves_alone : NotSo d.refused_leaves_alone
      ((edition : ℕ) (file out : List ℕ) (answer : CardAnswer) (after : List ℕ) → Masks edition file out answer after → after ≡ out)
  -- the edition not looked at
  pub card_rules_kept : NotSo d.card_rules_kept
      ((edition : ℕ) (bytes : List ℕ) → ((card_file_row (check_of edition bytes)).accepted ≡ true) ↔ Kept 2 bytes)
  -- the settled alone taken for the totals over all CV
  pub card_numbers_lem : NotSo d.card_rules_kept.numbers
      ((edition : ℕ) (bytes : List ℕ) (kept : Kept edition bytes) → TotalsOf (sales_of kept.file) (card_file_row (check_of edition bytes)).numbers.totals.settled)
  -- a second byte 1A at the end
  pub payroll_rules_kept : NotSo d.payroll_rules_kept
      ((bytes : List ℕ) → ((payroll_row (payroll_check_of bytes)).accepted ≡ true) ↔ payroll.Kept (bytes ++ (26 ∷ [])))
  -- of numbers that are not allowed too
  pub sheet_there_and_back : NotSo d.sheet_there_and_back.reads_back ((s : Sheet) → read_row (read_of (bytes_of s)) ≡ read_row (Ok s))
  -- of edition 1 too: that we would write it; of a known split too: that conversion writes it; of every sheet: that none is written
  pub the_one_we_write : NotSo d.sheet_there_and_back.the_one_we_write
      ((l : List ℕ) (s : Sheet) → read_row (read_of l) ≡ read_row (Ok s) → Writes s (replicate (length l) 0) (Ok tt) l)
  pub the_one_conversion_writes : NotSo d.sheet_there_and_back.the_one_conversion_writes
      ((l : List ℕ) (s : Sheet) → read_row (read_of l) ≡ read_row (Ok s) → Converts (converted_bytes l) (replicate (length l) 0) (Ok tt) l)
  pub none_new : NotSo d.sheet_there_and_back.none_new ((s : Sheet) (out : List ℕ) → Writes s out (Err (nowhere EditionRetired)) out)
  -- two sheets that differ, one of which is not allowed
  pub sheets_different : NotSo d.sheet_there_and_back.different ((s t : Sheet) → sheet_allowed s ≡ true → bytes_of s ≡ bytes_of t → s ≡ t)
  -- of bytes that are no readable sheet too
  pub sheet_converted : NotSo d.sheet_converted.readable ((s : Sheet) → read_row (read_of (converted_bytes (bytes_of s))) ≡ read_row (Ok (converted s)))
  -- of edition 1 too: that converting is writing
  pub as_written_lem : NotSo d.sheet_converted.as_written_lem
      ((l : List ℕ) (s : Sheet) → read_row (read_of l) ≡ read_row (Ok s) → (out : List ℕ) (answer : SheetWritten) (after : List ℕ) →
      Converts l out answer after → Writes (converted s) out answer after)
  -- from version 2 and back, also where the split is known
  pub from_two_and_back : NotSo d.sheet_converted.from_two_and_back
      ((l : List ℕ) → (read_row (read_of l)).refusal ≡ no_refusal → converted_bytes (converted_bytes l) ≡ l)
  -- the sheet of a file: document 01's as it is
  pub both_sets_added : NotSo d.sheet_of_file.both_sets_added
      ((edition : ℕ) (bytes : List ℕ) (kept : Kept edition bytes) →
      bytes_of (sheet_from edition (card_file_row (check_of edition bytes)).numbers) ≡ bytes_of (plain_sheet1 edition kept.file))
  -- no header line; the debits alone counted; records that differ in the description; texts of the same length
  pub rows_alone : NotSo d.rows_of_file.rows
      ((edition : ℕ) (file : List ℕ) (kept : Kept edition file) → csv_of file ≡ plain_rows 1 (records_of kept.file))
  pub rows_as_many : NotSo d.rows_of_file.as_many
      ((edition : ℕ) (file : List ℕ) → Kept edition file → length (cut (csv_of file)).pieces ≡ suc (card_file_row (check_of edition file)).numbers.debits.count)
  pub rows_no_card : NotSo d.rows_of_file.no_card_lem ((number : ℕ) (r s : List ℕ) → EqualOutside 79 109 r s → row_of number r ≡ row_of number s)
  pub rows_no_byte_lost : NotSo d.rows_of_file.no_byte_lost ((s t : List ℕ) → length (quoted s) ≡ length (quoted t) → s ≡ t)
  -- the name as it is
  pub one_line_each : NotSo d.one_line_each ((words name : List ℕ) → (cut (file_line words name)).pieces ≡ (shown_as 32 words ++ name) ∷ [])
  -- of records with an LF too
  pub fed_as_whole : NotSo d.fed_as_whole ((edition : ℕ) (records : List (List ℕ)) → FedAsWhole edition records)
  -- of a state that is not refused too
  pub refused_for_good : NotSo d.refused_for_good ((st : Running) (refusal : Refusal) → RefusedForGood st refusal)
  -- of a file that is not accepted too
  pub after_accepted_close : NotSo d.after_accepted_close ((st : Running) → AfterAcceptedClose st)
  pub one_past_the_last : NotSo d.one_past_the_last ((edition : ℕ) (records : List (List ℕ)) → OnePastTheLast edition records)
  -- of payroll records with an LF too; with an LF in what is left too; before the close
  pub payroll_fed_as_whole : NotSo d.payroll_fed_as_whole ((records : List (List ℕ)) → PayrollFedAsWhole records)
  pub payroll_rest : NotSo d.payroll_fed_as_whole
      ((rest : List ℕ) → progress_row (feeding_answer (closed_with open_feeding rest)) ≡ payroll_row (payroll_check_of rest))
  pub payroll_before_close : NotSo d.payroll_fed_as_whole
      ((records : List (List ℕ)) → all_no_lf records ≡ true → progress_row (feeding_answer (feeding_all open_feeding records)) ≡ payroll_row (payroll_check_of (joined records)))
  -- of a state that is not refused too
  pub payroll_refused_for_good : NotSo d.payroll_refused_for_good ((f : Feeding) (refusal : Refusal) → PayrollRefusedForGood f refusal)
  -- of a file that is not accepted too
  pub payroll_after_accepted_close : NotSo d.payroll_after_accepted_close ((f : Feeding) → PayrollAfterAcceptedClose f)
  -- before the end
  pub in_chunks : NotSo d.in_chunks
      ((edition : ℕ) (chunks : List (List ℕ)) → card_file_row (stream.answer_of (card_taken edition chunks)) ≡ card_file_row (check_of edition (joined_chunks chunks)))
  -- each chunk a file of its own
  pub csv_chunk_by_chunk : NotSo d.in_chunks.csv ((chunks : List (List ℕ)) → joined_chunks (map csv_of chunks) ≡ csv_of (joined_chunks chunks))
  -- of a file that is not accepted too
  pub on_the_way_lem : NotSo d.in_chunks.on_the_way_lem
      ((edition : ℕ) (chunks : List (List ℕ)) → next_number (card_taken edition chunks).state ≡ (tabled_in_chunks chunks).number)
  pub after_the_end_lem : NotSo d.after_the_end_lem
      ((s : Stream) (b : ℕ) (chunk : List ℕ) → card_file_row (stream.answer_of (stream.taken_of s (b ∷ chunk))) ≡ refused_row (after_the_end s.state))
  -- what no state and no stream has left there, and back again
  pub card_back_and_there : NotSo d.kept_as_numbers.card_there_and_back ((l : List ℕ) → state_numbers (state_of l) ≡ l)
  pub payroll_back_and_there : NotSo d.kept_as_numbers.payroll_there_and_back ((l : List ℕ) → feeding_numbers (feeding_of l) ≡ l)
  pub card_stream_back_and_there : NotSo d.kept_as_numbers.card_stream_there_and_back ((k : KeptStream) → card_kept (card_stream_of k) ≡ k)
  pub payroll_stream_back_and_there : NotSo d.kept_as_numbers.payroll_stream_there_and_back ((k : KeptStream) → payroll_kept (payroll_stream_of k) ≡ k)
  -- after each record: the numbers of the state that is closed
  pub numbers_so_far : NotSo d.kept_as_numbers.so_far_lem
      ((edition : ℕ) (records : List (List ℕ)) → foldl card_fed_by (card_open_by edition) records ≡ state_numbers (closed_of (fed_all (open_of edition) records)))
  -- by numbers: of records with an LF too; with an LF in what is left too; before the end
  pub card_records_by_numbers : NotSo d.kept_as_numbers.card_records
      ((edition : ℕ) (records : List (List ℕ)) →
      card_row_of (card_closed_by (foldl card_fed_by (card_open_by edition) records)) ≡ card_numbers (check_of edition (joined records)))
  pub payroll_records_by_numbers : NotSo d.kept_as_numbers.payroll_records
      ((records : List (List ℕ)) (rest : List ℕ) → all_no_lf records ≡ true →
      payroll_row_of (payroll_closed_by (foldl payroll_fed_by payroll_open_by records) rest) ≡ payroll_numbers (payroll_check_of (joined records ++ rest)))
  pub card_chunks_by_numbers : NotSo d.kept_as_numbers.card_chunks
      ((edition : ℕ) (chunks : List (List ℕ)) →
      card_stream_row (card_stream_of (foldl card_taken_by (card_stream_open_by edition) chunks)) ≡ card_numbers (check_of edition (joined_chunks chunks)))
  pub payroll_chunks_by_numbers : NotSo d.kept_as_numbers.payroll_chunks
      ((chunks : List (List ℕ)) →
      payroll_stream_row (payroll_stream_of (foldl payroll_taken_by payroll_stream_open_by chunks)) ≡ payroll_numbers (payroll_check_of (joined_chunks chunks)))
  -- a zero in front, whatever stands behind it
  pub not_opened : NotSo d.kept_as_numbers.not_opened ((l : List ℕ) → get_or l 0 0 ≡ 0 → card_row_of l ≡ 1 ∷ replicate 19 0)
  -- rows without their last number, whether the file is accepted
  pub card_row : NotSo d.kept_as_numbers.rows_fix_answers.card ((a b : CardAnswer) → take 19 (card_numbers a) ≡ take 19 (card_numbers b) → a ≡ b)
  pub payroll_row_lem : NotSo d.kept_as_numbers.rows_fix_answers.payroll ((p q : PayrollProgress) → take 7 (progress_numbers p) ≡ take 7 (progress_numbers q) → p ≡ q)
  -- of any two files of the same length
  pub hidden_digits_reach_nothing : NotSo d.hidden_digits_reach_nothing
      ((edition : ℕ) (s t : List ℕ) → length s ≡ length t → card_file_row (check_of edition s) ≡ card_file_row (check_of edition t))
  pub masks_lines : NotSo d.hidden_digits_reach_nothing.masks_lines
      ((s t : List ℕ) → length s ≡ length t → (answer-s answer-t : ℕ) (after-s after-t : List ℕ) →
      MasksLines s answer-s after-s → MasksLines t answer-t after-t → answer-s ≡ answer-t)
  -- before the end: not equally much of both; the bytes that wait in a stream; what waits to be written; not equally much, read whole; what is printed after another last read
  pub so_far_lem : NotSo d.hidden_digits_reach_nothing.so_far_lem
      ((edition : ℕ) (cs ds : List (List ℕ)) (more_of_one more_of_other : List ℕ) → TwinFiles (joined_chunks cs ++ more_of_one) (joined_chunks ds ++ more_of_other) →
      card_file_row (stream.answer_of (card_taken edition cs)) ≡ card_file_row (stream.answer_of (card_taken edition ds)))
  pub kept_so_far : NotSo d.hidden_digits_reach_nothing.kept_so_far
      ((edition : ℕ) (cs ds : List (List ℕ)) → ComeAlike TwinFiles cs ds → (card_taken edition cs).held.bytes ≡ (card_taken edition ds).held.bytes)
  pub waits_so_far : NotSo d.hidden_digits_reach_nothing.written_so_far
      ((cs ds : List (List ℕ)) → ComeAlike TwinFiles cs ds → (copied_in_chunks cs).waiting ≡ (copied_in_chunks ds).waiting)
  pub taken_so_far : NotSo d.hidden_digits_reach_nothing.taken_so_far
      ((edition : ℕ) (cs ds : List (List ℕ)) (more_of_one more_of_other : List ℕ) → TwinFiles (joined_chunks cs ++ more_of_one) (joined_chunks ds ++ more_of_other) →
      verdict_text Sales (check_of edition (joined_chunks cs)) ≡ verdict_text Sales (check_of edition (joined_chunks ds)))
  pub printed : NotSo d.hidden_digits_reach_nothing.printed
      ((edition : ℕ) (cs ds : List (List ℕ)) → ComeAlike TwinFiles cs ds → (got other : Got) →
      outcome_text Sales (outcome_at got (card_taken edition cs)) ≡ outcome_text Sales (outcome_at other (card_taken edition ds)))
  -- under another name; the rows of any two files of the same length, of a file and put; of not equally much of both
  pub listed : NotSo d.hidden_digits_reach_nothing.listed
      ((edition : ℕ) (cs ds : List (List ℕ)) → ComeAlike TwinFiles cs ds → (got : Got) (name other : List ℕ) →
      file_line (words_of (outcome_at got (card_taken edition cs))) name ≡ file_line (words_of (outcome_at got (card_taken edition ds))) other)
  pub csv : NotSo d.hidden_digits_reach_nothing.csv ((s t : List ℕ) → length s ≡ length t → csv_of s ≡ csv_of t)
  pub puts_rows : NotSo d.hidden_digits_reach_nothing.puts_rows
      ((number : ℕ) (s t out : List ℕ) → length s ≡ length t → (answer-s answer-t : Rows) (after-s after-t : List ℕ) →
      PutsRows number s out answer-s after-s → PutsRows number t out answer-t after-t → after-s ≡ after-t)
  pub rows_so_far : NotSo d.hidden_digits_reach_nothing.rows_so_far
      ((cs ds : List (List ℕ)) (more_of_one more_of_other : List ℕ) → TwinFiles (joined_chunks cs ++ more_of_one) (joined_chunks ds ++ more_of_other) →
      (tabled_in_chunks cs).written ≡ (tabled_in_chunks ds).written)
  -- a letter put for a hidden digit; a digit put for an open one
  pub record_twins_made : NotSo d.twins_made.records
      ((r s : List ℕ) → AgreeOutside (λ i. hidden_in_record r i && digit (get_or r i 0)) r s → TwinRecords r s)
  pub file_twins_made : NotSo d.twins_made.files ((s t : List ℕ) → DigitsChanged (λ i. true) s t → TwinFiles s t)
  -- of records that read alike, though one has an accent; of files of the same length
  pub same_way : NotSo d.same_way.records
      ((edition : ℕ) (r s : List ℕ) → reading_of edition r ≡ reading_of edition s → passes_quick edition r ≡ passes_quick edition s)
  pub same_ways : NotSo d.same_way.files ((edition : ℕ) (s t : List ℕ) → length s ≡ length t → ways_of edition s ≡ ways_of edition t)
  pub same_sizes : NotSo d.same_way.sizes ((s t : List ℕ) → length s ≡ length t → sizes_of s ≡ sizes_of t)
  -- the places one late
  pub masked_where_hidden : NotSo d.masked_where_hidden
      ((file : List ℕ) (i : ℕ) → get_or (masked_file file) i 0 ≡ cond (hidden_in file (i + 1)) 42 (get_or file i 0))
  -- the masked form: a star at any place; asked for its sheet under another edition; in chunks, before the end; each chunk masked for itself
  pub as_the_file : NotSo d.mask_twice.as_the_file.whole
      ((edition : ℕ) (file : List ℕ) (place : ℕ) → card_file_row (check_of edition (star_where (eqb place) file)) ≡ card_file_row (check_of edition file))
  pub sheet_of_copy : NotSo d.mask_twice.as_the_file.sheets
      ((edition other : ℕ) (file out : List ℕ) (answer answer-of-copy : CardAnswer) (after after-of-copy : List ℕ) →
      SheetOf edition file out answer after → SheetOf other (masked_file file) out answer-of-copy after-of-copy → after ≡ after-of-copy)
  pub masked_in_chunks : NotSo d.mask_twice.as_the_file.in_chunks
      ((edition : ℕ) (cs ds : List (List ℕ)) → FileAndMasked (joined_chunks cs) (joined_chunks ds) →
      card_file_row (card_in_chunks edition cs) ≡ card_file_row (stream.answer_of (card_taken edition ds)))
  pub copied_chunk_by_chunk : NotSo d.mask_twice.as_the_file.copied ((cs : List (List ℕ)) → masked_file (joined_chunks cs) ≡ joined_chunks (map masked_file cs))
  -- masking again gives the file back
  pub same_bytes_lem : NotSo d.mask_twice.same_bytes_lem ((file : List ℕ) → masked_file (masked_file file) ≡ file)
  -- into an output without room too
  pub written_again : NotSo d.mask_twice.written_again
      ((edition : ℕ) (file out other : List ℕ) (answer again : CardAnswer) (after after-again : List ℕ) →
      Masks edition file out answer after → (card_file_row answer).accepted ≡ true → Masks edition (take (length file) after) other again after-again →
      after-again ≡ take (length file) after ++ drop (length file) other)
  -- without the same hidden places; and of accepted files, hidden digits for hidden places
  pub equal_copies : NotSo d.mask_twice.equal_copies ((s t : List ℕ) → (masked_file s ≡ masked_file t) ↔ AgreeOutside (hidden_in s) s t)
  pub equal_but_for_digits : NotSo d.mask_twice.equal_copies
      ((edition : ℕ) (s t : List ℕ) → (card_file_row (check_of edition s)).accepted ≡ true → (card_file_row (check_of edition t)).accepted ≡ true →
      (masked_file s ≡ masked_file t) ↔ TwinFiles s t)
  -- one file and itself
  pub twins_that_differ : NotSo d.twins_that_differ (one_file ≡ other_file)
  pub credits_that_differ : NotSo d.credits_that_differ (one_credit ≡ other_credit)
  -- net 9751 agrees
  pub examples_hold : NotSo d.examples_hold (all_as_written (agrees "00000010000" "00000000250" "00000009751" ∷ []) ≡ true)
