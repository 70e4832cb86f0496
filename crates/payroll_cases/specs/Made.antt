-- A file that is made in an output: its records, one behind the other.
use Rattle.std.specs.Prelude.{ℕ, zero, suc, ◌+◌, Option, None, Some, cond, length, take, drop, leb}
use mathlib.Core.List.{List, [], ◌∷◌, ◌++◌, foldl}
use Rattle.payroll_cases.specs.declared.record.Record.{Record}
use Rattle.payroll_cases.specs.declared.made.Plan.{Plan}
use Rattle.payroll_cases.specs.Record.{record_of}
use Rattle.payroll_cases.specs.Kinds.{file_header, batch_header, payment, batch_trailer, file_trailer}

-- an output, and how many of its first bytes are made
pub record Made : Type 0 where
  pub out : List ℕ
  pub size : ℕ

abbrev pub made : List ℕ → ℕ → Made
made out size = record { out = out; size = size }

-- bytes put behind those; where there is no room for them, nothing is done
unfoldable pub put_behind : Made → List ℕ → Made
put_behind m bytes =
    cond (leb (m.size + length bytes) (length m.out))
    (made (take m.size m.out ++ (bytes ++ drop (m.size + length bytes) m.out)) (m.size + length bytes))
    m

-- records, one behind the other
abbrev pub put_all : Made → List Record → Made
put_all = foldl (λ m what. put_behind m (record_of what))

-- so many payments of one amount, numbered from 1
unfoldable pub payments_of : ℕ → ℕ → ℕ → List Record
payments_of batch amount zero = []
payments_of batch amount (suc n) = payments_of batch amount n ++ (payment batch amount (suc n) ∷ [])

-- a batch: its header, its payments and its trailer
abbrev pub batch_of : ℕ → ℕ → ℕ → ℕ → List Record
batch_of batch count amount sum = batch_header batch ∷ (payments_of batch amount count ++ (batch_trailer batch count sum ∷ []))

-- the batches of a plan that differ only in their number, from 1
unfoldable pub alike_batches : Plan → ℕ → List Record
alike_batches plan zero = []
alike_batches plan (suc n) = alike_batches plan n ++ batch_of (suc n) plan.payments plan.amount plan.sum

-- the batch of one payment behind them, where the plan has one
abbrev pub batch_behind : ℕ → Option ℕ → List Record
batch_behind batches None = []
batch_behind batches (Some last) = batch_of (batches + 1) 1 last last

abbrev pub last_batch : Plan → List Record
last_batch plan = batch_behind plan.batches plan.last

-- how many batches it has
abbrev pub count_with : ℕ → Option ℕ → ℕ
count_with batches None = batches
count_with batches (Some last) = batches + 1

abbrev pub batch_count : Plan → ℕ
batch_count plan = count_with plan.batches plan.last

-- the file trailer of a plan
abbrev pub trailer_of : Plan → Record
trailer_of plan = file_trailer (batch_count plan) plan.records

-- all records of a file
abbrev pub records_of : Plan → List Record
records_of plan = file_header ∷ (alike_batches plan plan.batches ++ (last_batch plan ++ (trailer_of plan ∷ [])))

-- and the byte 1A behind them
abbrev pub end_byte : List ℕ
end_byte = 26 ∷ []
