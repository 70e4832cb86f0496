-- What a call makes of what the caller keeps: of the numbers of a file that is given record by record, and of those and the waiting bytes of a file in chunks.
use Rattle.std.specs.Prelude.{ℕ, List}
use Rattle.card_run.specs.Running.{open_of, closed_of}
use Rattle.card_file.specs.Feeding.{fed_of}
use Rattle.card_stream.specs.declared.Stream.{Stream as CardStream}
use Rattle.card_stream.specs.Stream.{open_of as card_opened, taken_of as card_taken, ended_of as card_ended}
use Rattle.payroll_stream.specs.declared.Stream.{Stream as PayrollStream}
use Rattle.payroll_stream.specs.Stream.{open_of as payroll_opened, taken_of as payroll_taken, ended_of as payroll_ended}
use Rattle.payroll_stream.specs.Feeding.{open_feeding, fed_of as payroll_fed, closed_with}
use Rattle.state_numbers.specs.CardState.{state_numbers, state_of}
use Rattle.state_numbers.specs.PayrollState.{feeding_numbers, feeding_of}
use Rattle.state_numbers.specs.Streams.{card_stream, payroll_stream}

-- a step of what is kept, by a step of what it keeps
abbrev pub step_by : {N S X : Type 0} → (S → N) → (N → S) → (S → X → S) → N → X → N
step_by there back step n x = there (step (back n) x)

-- a card file, record by record
abbrev pub card_open_by : ℕ → List ℕ
card_open_by edition = state_numbers (open_of edition)

abbrev pub card_fed_by : List ℕ → List ℕ → List ℕ
card_fed_by = step_by state_numbers state_of fed_of

abbrev pub card_closed_by : List ℕ → List ℕ
card_closed_by l = state_numbers (closed_of (state_of l))

-- a payroll file, record by record
abbrev pub payroll_open_by : List ℕ
payroll_open_by = feeding_numbers open_feeding

abbrev pub payroll_fed_by : List ℕ → List ℕ → List ℕ
payroll_fed_by = step_by feeding_numbers feeding_of payroll_fed

abbrev pub payroll_closed_by : List ℕ → List ℕ → List ℕ
payroll_closed_by l rest = feeding_numbers (closed_with (feeding_of l) rest)

-- what a caller keeps of a file in chunks
pub record Kept : Type 0 where
  pub numbers : List ℕ
  pub waiting : ℕ
  pub bytes : List ℕ

-- a card file in chunks
abbrev pub card_kept : CardStream → Kept
card_kept s = record { numbers = state_numbers s.state; waiting = s.held.length; bytes = s.held.bytes }

abbrev pub card_stream_of : Kept → CardStream
card_stream_of k = card_stream k.numbers k.waiting k.bytes

abbrev pub card_stream_open_by : ℕ → Kept
card_stream_open_by edition = card_kept (card_opened edition)

abbrev pub card_taken_by : Kept → List ℕ → Kept
card_taken_by = step_by card_kept card_stream_of card_taken

abbrev pub card_ended_by : Kept → Kept
card_ended_by k = card_kept (card_ended (card_stream_of k))

-- a payroll file in chunks
abbrev pub payroll_kept : PayrollStream → Kept
payroll_kept s =
    record {
      numbers = feeding_numbers (record { state = s.state; progress = s.progress });
      waiting = s.held.length;
      bytes = s.held.bytes;
    }

abbrev pub payroll_stream_of : Kept → PayrollStream
payroll_stream_of k = payroll_stream k.numbers k.waiting k.bytes

abbrev pub payroll_stream_open_by : Kept
payroll_stream_open_by = payroll_kept payroll_opened

abbrev pub payroll_taken_by : Kept → List ℕ → Kept
payroll_taken_by = step_by payroll_kept payroll_stream_of payroll_taken

abbrev pub payroll_ended_by : Kept → Kept
payroll_ended_by k = payroll_kept (payroll_ended (payroll_stream_of k))
