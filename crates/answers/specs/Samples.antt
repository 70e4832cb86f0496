-- What contracts are tried on: document 01's example, a payroll file with one payment, and an output.
use Rattle.std.specs.Prelude.{ℕ, ◌+◌, ◌-◌, List, [], ◌∷◌, ◌++◌, length, take, drop, replicate}
use Prim.Native.String.{String}
use Rattle.text.specs.Literal.{ascii}
use Rattle.lines.specs.Lines.{joined}
use Rattle.demands.specs.ExampleFile.{a0, l0, sale_with, adjustment, l9, file_of}

-- a record with another text at a position, which counts from 1; a letter with an accent is the byte of its code, as in Latin-1
abbrev pub at : ℕ → String → List ℕ → List ℕ
at position text r = take (position - 1) r ++ (ascii text ++ drop (position - 1 + length (ascii text)) r)

abbrev pub sale : List ℕ
sale = sale_with "0001234567890123456"

abbrev pub card_file : List ℕ
card_file = file_of sale

-- a credit and a debit in the sale's place, and the file with a credit behind its sale
abbrev pub credit : List ℕ
credit = adjustment "1" "0001234567890123456" "000003"

abbrev pub debit : List ℕ
debit = adjustment "2" "0001234567890123456" "000003"

abbrev pub adjusted_file : List ℕ
adjusted_file =
    joined (a0 ∷ l0 ∷ sale ∷ adjustment "1" "0001234567890123456" "000004" ∷ ascii "L900000200000000010975000005" ∷ ascii "A9000006000006" ∷ [])

-- the example with a second batch, of no transaction
abbrev pub two_batches : List ℕ
two_batches = joined (a0 ∷ l0 ∷ sale ∷ l9 ∷ at 13 "000005" l0 ∷ ascii "L900000000000000000000000006" ∷ ascii "A9000007000007" ∷ [])

-- a card of blanks
abbrev pub blank_card : String
blank_card = "                   "

-- an output of so many bytes
abbrev pub room : ℕ → List ℕ
room size = replicate size 46

-- a payroll record: its front, and blanks up to 240
abbrev pub padded : String → List ℕ
padded front = ascii front ++ replicate (240 - length (ascii front)) 32

abbrev pub file_header : List ℕ
file_header = at 143 "129022024" (padded "42200000")

abbrev pub batch_header : List ℕ
batch_header = padded "42200011"

-- segment A: date and amount
abbrev pub payment : List ℕ
payment = at 120 "000000000010000" (at 94 "29022024" (padded "4220001300001A"))

-- three records, and the sum
abbrev pub batch_trailer : List ℕ
batch_trailer = at 18 "000003000000000000010000" (padded "42200015")

-- one batch, five records
abbrev pub file_trailer : List ℕ
file_trailer = at 18 "000001000005" (padded "42299999")

-- a payroll file with another first payment, and the byte 1A behind it
abbrev pub payroll_file_with : List ℕ → List ℕ → List ℕ → List ℕ
payroll_file_with header detail trailer = joined (header ∷ batch_header ∷ detail ∷ trailer ∷ file_trailer ∷ []) ++ (26 ∷ [])

abbrev pub payroll_file_of : List ℕ → List ℕ
payroll_file_of detail = payroll_file_with file_header detail batch_trailer

abbrev pub payroll_file : List ℕ
payroll_file = payroll_file_of payment

-- with a second batch, of no payment
abbrev pub two_payroll_batches : List ℕ
two_payroll_batches =
    joined
    (file_header ∷ batch_header ∷ payment ∷ batch_trailer ∷ padded "42200021" ∷ at 18 "000002000000000000000000" (padded "42200025") ∷
    at 18 "000002000007" (padded "42299999") ∷ []) ++
    (26 ∷ [])
