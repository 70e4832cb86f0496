-- A file in chunks as a caller keeps it: the numbers of its state, how many bytes of an unfinished record wait, and those bytes.
use Rattle.std.specs.Prelude.{ℕ, ◌≡◌, List}
use Rattle.card_stream.specs.declared.Stream.{Stream as CardStream}
use Rattle.payroll_stream.specs.declared.Stream.{Stream as PayrollStream}
use Rattle.state_numbers.specs.CardState.{state_numbers, state_of}
use Rattle.state_numbers.specs.PayrollState.{feeding_numbers, running_of, progress_of}

-- the stream that is kept so
abbrev pub card_stream : List ℕ → ℕ → List ℕ → CardStream
card_stream numbers waiting bytes = record { state = state_of numbers; held = record { bytes = bytes; length = waiting } }

abbrev pub payroll_stream : List ℕ → ℕ → List ℕ → PayrollStream
payroll_stream numbers waiting bytes =
    record { state = running_of numbers; held = record { bytes = bytes; length = waiting }; progress = progress_of numbers }

-- what keeps a stream
pub record KeepsCard (s : CardStream) (numbers : List ℕ) (waiting : ℕ) (bytes : List ℕ) : Type 0 where
  pub in_numbers : numbers ≡ state_numbers s.state
  pub waits : waiting ≡ s.held.length
  pub is_held : bytes ≡ s.held.bytes

pub record KeepsPayroll (s : PayrollStream) (numbers : List ℕ) (waiting : ℕ) (bytes : List ℕ) : Type 0 where
  pub in_numbers : numbers ≡ feeding_numbers (record { state = s.state; progress = s.progress })
  pub waits : waiting ≡ s.held.length
  pub is_held : bytes ≡ s.held.bytes
