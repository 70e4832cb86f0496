-- A payroll file keeps document 01's rules.
use Rattle.std.specs.Prelude.{ℕ, ◌+◌, ◌^◌, ◌<◌, ◌≡◌, List, [], ◌∷◌, ◌++◌, length}
use Rattle.std.proofs.Math.Option.{Option, none, some}
use Rattle.lines.specs.Lines.{joined}
use Rattle.payroll_kept.specs.Fields.{number_at}
use Rattle.payroll_kept.specs.Records.{HeaderKept, BatchHeaderKept, AKept, BKept, ZKept, BatchTrailerKept, FileTrailerKept}

-- a payment: "B stands right after A; Z right after A or B"
pub record Payment : Type 0 where
  pub a : List ℕ
  pub b : Option (List ℕ)
  pub z : Option (List ℕ)

-- "batches of header, details, trailer"
pub record Batch : Type 0 where
  pub header : List ℕ
  pub payments : List Payment
  pub trailer : List ℕ

-- "Order: header; batches ..; file trailer. No batch, or no detail, is allowed."
pub record File : Type 0 where
  pub header : List ℕ
  pub batches : List Batch
  pub trailer : List ℕ

-- the records in their order
abbrev pub if_there : Option (List ℕ) → List (List ℕ)
if_there none = []
if_there (some r) = r ∷ []

abbrev pub payment_records : Payment → List (List ℕ)
payment_records p = p.a ∷ (if_there p.b ++ if_there p.z)

unfoldable pub details : List Payment → List (List ℕ)
details [] = []
details (p ∷ ps) = payment_records p ++ details ps

abbrev pub batch_records : Batch → List (List ℕ)
batch_records b = b.header ∷ (details b.payments ++ (b.trailer ∷ []))

unfoldable pub batches_records : List Batch → List (List ℕ)
batches_records [] = []
batches_records (b ∷ bs) = batch_records b ++ batches_records bs

abbrev pub records_of : File → List (List ℕ)
records_of f = f.header ∷ (batches_records f.batches ++ (f.trailer ∷ []))

-- the payments of a file
unfoldable pub batches_payments : List Batch → List Payment
batches_payments [] = []
batches_payments (b ∷ bs) = b.payments ++ batches_payments bs

abbrev pub payments_of : File → List Payment
payments_of f = batches_payments f.batches

-- the sum of "the amounts of A": "Sums are whole numbers: one too large for 18 digits equals no trailer and is refused by 11"
abbrev pub amount_at : List ℕ → ℕ
amount_at = number_at 120 134

unfoldable pub amount_of : List Payment → ℕ
amount_of [] = 0
amount_of (p ∷ ps) = amount_at p.a + amount_of ps

-- a record that may stand there keeps a rule, or is not there
abbrev pub IfThere : (List ℕ → Type 0) → Option (List ℕ) → Type 0
IfThere Keeps none = Unit {0}
IfThere Keeps (some r) = Keeps r

-- a payment keeps the rules, its A with a detail number
pub record PaymentKept (header : List ℕ) (batch number : ℕ) (p : Payment) : Type 0 where
  pub a : AKept batch number p.a
  pub b : IfThere (BKept batch (number + 1)) p.b
  pub z : IfThere (ZKept header batch (number + length (p.a ∷ if_there p.b))) p.z

-- "from 1 in each batch, rising by one"
unfoldable pub PaymentsKept : List ℕ → ℕ → ℕ → List Payment → Type 0
PaymentsKept header batch number [] = Unit {0}
PaymentsKept header batch number (p ∷ ps) =
    PaymentKept header batch number p × PaymentsKept header batch (number + length (payment_records p)) ps

-- a batch keeps them, with its number
pub record BatchKept (header : List ℕ) (batch : ℕ) (b : Batch) : Type 0 where
  pub opens : BatchHeaderKept batch b.header
  pub payments : PaymentsKept header batch 1 b.payments
  pub closes : BatchTrailerKept batch (length (batch_records b)) (amount_of b.payments) b.trailer

unfoldable pub BatchesKept : List ℕ → ℕ → List Batch → Type 0
BatchesKept header batch [] = Unit {0}
BatchesKept header batch (b ∷ bs) = BatchKept header batch b × BatchesKept header (batch + 1) bs

-- a file keeps them
pub record FileKept (f : File) : Type 0 where
  pub header : HeaderKept f.header
  pub batches : BatchesKept f.header 1 f.batches
  pub trailer : FileTrailerKept (length f.batches) (length (records_of f)) f.trailer
  -- "an amount over the whole file of 10^19 or more is refused"
  pub amount : amount_of (payments_of f) < 10 ^ 19

-- bytes keep document 01's rules: they are such a file's records, "240 bytes and CR LF each", and "one byte 1A and nothing more"
pub record Kept (bytes : List ℕ) : Type 0 where
  pub file : File
  pub keeps : FileKept file
  pub is : bytes ≡ joined (records_of file) ++ (26 ∷ [])
