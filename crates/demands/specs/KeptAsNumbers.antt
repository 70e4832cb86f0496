-- A STATE KEPT AS NUMBERS: a caller who keeps them from one call to the next, as C does, gets the library's own answers, as rows of numbers.
use Rattle.std.specs.Prelude.{ℕ, ◌≡◌, true, replicate}
use mathlib.Core.List.{List, ◌∷◌, ◌++◌, foldl}
use Rattle.lines.specs.Lines.{no_lf, all_no_lf, joined}
use Rattle.chunks.specs.Chunks.{joined_chunks}
use Rattle.card_run.specs.declared.running.Running.{Running}
use Rattle.card_run.specs.Running.{open_of}
use Rattle.card_run.specs.Answer as CardFile
use Rattle.card_file.specs.Feeding.{fed_all}
use Rattle.card_file.specs.CardFile.{check_of}
use Rattle.card_stream.specs.declared.Stream.{Stream as CardStream}
use Rattle.card_stream.specs.Stream as CardStream
use Rattle.payroll_file.specs.PayrollFile.{check_of as payroll_check_of}
use Rattle.payroll_stream.specs.declared.Stream.{Stream as PayrollStream}
use Rattle.payroll_stream.specs.declared.feeding.Feeding.{Feeding}
use Rattle.payroll_stream.specs.Stream as PayrollStream
use Rattle.payroll_stream.specs.Feeding as PayrollFile
use Rattle.answer_rows.specs.Card.{card_numbers}
use Rattle.answer_rows.specs.Payroll.{payroll_numbers, progress_numbers}
use Rattle.state_numbers.specs.CardState.{state_numbers, state_of}
use Rattle.state_numbers.specs.PayrollState.{feeding_numbers, feeding_of}
use Rattle.state_numbers.specs.Streams.{card_stream, payroll_stream}
use Rattle.state_numbers.specs.Calls.{
  card_open_by,
  card_fed_by,
  card_closed_by,
  payroll_open_by,
  payroll_fed_by,
  payroll_closed_by,
  card_kept,
  card_stream_of,
  card_stream_open_by,
  card_taken_by,
  card_ended_by,
  payroll_kept,
  payroll_stream_of,
  payroll_stream_open_by,
  payroll_taken_by,
  payroll_ended_by,
}
use Rattle.demands.specs.InChunks.{card_taken, payroll_taken}
use Rattle.card_run.specs.Answer.{CardAnswer}
use Rattle.payroll_stream.specs.Stream.{PayrollProgress}

-- the row that a caller gets of each kind of state, from what it keeps
abbrev pub card_row_of : List ℕ → List ℕ
card_row_of l = card_numbers (CardFile.answer_of (state_of l))

abbrev pub payroll_row_of : List ℕ → List ℕ
payroll_row_of l = progress_numbers (PayrollFile.answer_of (feeding_of l))

-- and of a file in chunks
abbrev pub card_stream_row : CardStream → List ℕ
card_stream_row s = card_numbers (CardStream.answer_of s)

abbrev pub payroll_stream_row : PayrollStream → List ℕ
payroll_stream_row s = progress_numbers (PayrollStream.answer_of s)

-- after each call, before the close or the end: what the caller keeps is what the library's own calls come to
pub record SoFar : Type 0 where
  pub card : (edition : ℕ) (records : List (List ℕ)) → foldl card_fed_by (card_open_by edition) records ≡ state_numbers (fed_all (open_of edition) records)
  pub payroll : (records : List (List ℕ)) → foldl payroll_fed_by payroll_open_by records ≡ feeding_numbers (PayrollFile.fed_all PayrollFile.open_feeding records)
  pub card_in_chunks_lem : (edition : ℕ) (chunks : List (List ℕ)) → foldl card_taken_by (card_stream_open_by edition) chunks ≡ card_kept (card_taken edition chunks)
  pub payroll_in_chunks_lem : (chunks : List (List ℕ)) → foldl payroll_taken_by payroll_stream_open_by chunks ≡ payroll_kept (payroll_taken chunks)

-- numbers that no call has opened, zeros alone, get the row of 1 at record 0, column 0, and in chunks whatever waits
pub record NotOpened : Type 0 where
  pub card : card_row_of (replicate 24 0) ≡ 1 ∷ replicate 19 0
  pub payroll : payroll_row_of (replicate 20 0) ≡ 1 ∷ replicate 7 0
  pub card_in_chunks_lem : (waiting : ℕ) (bytes : List ℕ) → card_stream_row (card_stream (replicate 24 0) waiting bytes) ≡ 1 ∷ replicate 19 0
  pub payroll_in_chunks_lem : (waiting : ℕ) (bytes : List ℕ) → payroll_stream_row (payroll_stream (replicate 20 0) waiting bytes) ≡ 1 ∷ replicate 7 0

-- answers with the same numbers are the same
pub record RowsFixAnswers : Type 0 where
  pub card : (a b : CardAnswer) → card_numbers a ≡ card_numbers b → a ≡ b
  pub payroll : (p q : PayrollProgress) → progress_numbers p ≡ progress_numbers q → p ≡ q

pub record KeptAsNumbers : Type 0 where
  -- nothing of a state is lost in what is kept of it
  pub card_there_and_back : (st : Running) → state_of (state_numbers st) ≡ st
  pub payroll_there_and_back : (f : Feeding) → feeding_of (feeding_numbers f) ≡ f
  pub card_stream_there_and_back : (s : CardStream) → card_stream_of (card_kept s) ≡ s
  pub payroll_stream_there_and_back : (s : PayrollStream) → payroll_stream_of (payroll_kept s) ≡ s
  -- so calls by what is kept are the calls themselves
  pub so_far_lem : SoFar
  -- and a file that is opened, fed and closed by numbers gets the row of the file read whole: record by record, "for records without LF"
  pub card_records : (edition : ℕ) (records : List (List ℕ)) → all_no_lf records ≡ true →
      card_row_of (card_closed_by (foldl card_fed_by (card_open_by edition) records)) ≡ card_numbers (check_of edition (joined records))
  pub payroll_records : (records : List (List ℕ)) (rest : List ℕ) → all_no_lf records ≡ true → no_lf rest ≡ true →
      payroll_row_of (payroll_closed_by (foldl payroll_fed_by payroll_open_by records) rest) ≡ payroll_numbers (payroll_check_of (joined records ++ rest))
  -- and in chunks of any size
  pub card_chunks : (edition : ℕ) (chunks : List (List ℕ)) →
      card_stream_row (card_stream_of (card_ended_by (foldl card_taken_by (card_stream_open_by edition) chunks))) ≡ card_numbers (check_of edition (joined_chunks chunks))
  pub payroll_chunks : (chunks : List (List ℕ)) →
      payroll_stream_row (payroll_stream_of (payroll_ended_by (foldl payroll_taken_by payroll_stream_open_by chunks))) ≡ payroll_numbers (payroll_check_of (joined_chunks chunks))
  -- what no call has opened is refused
  pub not_opened : NotOpened
  -- and a row of numbers is of one answer alone
  pub rows_fix_answers : RowsFixAnswers
