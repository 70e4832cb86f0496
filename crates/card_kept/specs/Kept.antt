-- A card file keeps document 01's rules.
use Rattle.std.specs.Prelude.{ℕ, suc, ◌+◌, ◌≡◌, List, [], ◌∷◌, ◌++◌, map, Bool, true, false, cond, ◌||◌, length, eqb}
use Rattle.lines.specs.Lines.{joined}
use Rattle.edition.specs.Known.{current}
use Rattle.card_kept.specs.Sale.{launch_type, payable_gross}
use Rattle.card_kept.specs.Adjustment.{adjustment_type, adjustment_net}
use Rattle.card_kept.specs.Records.{A0Kept, L0Kept, CvKept, AjKept, L9Kept, A9Kept}

-- a transaction: a CV, and "An AJ may stand wherever a CV may"
pub data Transaction : Type 0 where
  sale : List ℕ → Transaction
  adjustment : List ℕ → Transaction

abbrev pub bytes_of : Transaction → List ℕ
bytes_of (sale r) = r
bytes_of (adjustment r) = r

-- "a batch is L0, any number of CV, L9", and of AJ, in any order
pub record Batch : Type 0 where
  pub l0 : List ℕ
  pub transactions : List Transaction
  pub l9 : List ℕ

-- "The order is A0, any number of batches, A9"
pub record File : Type 0 where
  pub a0 : List ℕ
  pub batches : List Batch
  pub a9 : List ℕ

-- the records in their order
abbrev pub batch_records : Batch → List (List ℕ)
batch_records b = b.l0 ∷ (map bytes_of b.transactions ++ (b.l9 ∷ []))

unfoldable pub batches_records : List Batch → List (List ℕ)
batches_records [] = []
batches_records (b ∷ bs) = batch_records b ++ batches_records bs

abbrev pub records_of : File → List (List ℕ)
records_of f = f.a0 ∷ (batches_records f.batches ++ (f.a9 ∷ []))

-- a sum over records, as a whole number
unfoldable pub sum_over : (List ℕ → ℕ) → List (List ℕ) → ℕ
sum_over amount [] = 0
sum_over amount (r ∷ rs) = amount r + sum_over amount rs

-- which transactions are sales, which of them are "forecast (launch type 0) and settled (1 and 2)", and which are credits and debits
abbrev pub is_sale : Transaction → Bool
is_sale (sale r) = true
is_sale (adjustment r) = false

abbrev pub is_forecast : Transaction → Bool
is_forecast (sale r) = eqb (launch_type r) 0
is_forecast (adjustment r) = false

abbrev pub is_settled : Transaction → Bool
is_settled (sale r) = eqb (launch_type r) 1 || eqb (launch_type r) 2
is_settled (adjustment r) = false

abbrev pub is_credit : Transaction → Bool
is_credit (sale r) = false
is_credit (adjustment r) = eqb (adjustment_type r) 1

abbrev pub is_debit : Transaction → Bool
is_debit (sale r) = false
is_debit (adjustment r) = eqb (adjustment_type r) 2

-- the records of those that a test picks
unfoldable pub picked : (Transaction → Bool) → List Transaction → List (List ℕ)
picked test [] = []
picked test (t ∷ ts) = cond (test t) (bytes_of t ∷ picked test ts) (picked test ts)

-- what a sum of both adds and takes: the payable gross of sales, "An AJ enters a sum of both with its net, a debit subtracted"
abbrev pub added : List Transaction → ℕ
added ts = sum_over payable_gross (picked is_sale ts) + sum_over adjustment_net (picked is_credit ts)

abbrev pub taken : List Transaction → ℕ
taken ts = sum_over adjustment_net (picked is_debit ts)

-- transactions keep the rules, numbered from a number on
abbrev pub TransactionKept : ℕ → ℕ → Transaction → Type 0
TransactionKept edition number (sale r) = CvKept edition number r
TransactionKept edition number (adjustment r) = AjKept edition number r

unfoldable pub TransactionsKept : ℕ → ℕ → List Transaction → Type 0
TransactionsKept edition number [] = Unit {0}
TransactionsKept edition number (t ∷ ts) = TransactionKept edition number t × TransactionsKept edition (suc number) ts

-- a batch keeps them, from the number of its L0 on; what its L9 counts and sums is CV and AJ of the batch
pub record BatchKept (edition number : ℕ) (b : Batch) : Type 0 where
  pub l0 : L0Kept edition number b.l0
  pub transactions : TransactionsKept edition (suc number) b.transactions
  pub l9 :
      L9Kept (length b.transactions) (added b.transactions) (taken b.transactions) edition (suc number + length b.transactions) b.l9

unfoldable pub BatchesKept : ℕ → ℕ → List Batch → Type 0
BatchesKept edition number [] = Unit {0}
BatchesKept edition number (b ∷ bs) = BatchKept edition number b × BatchesKept edition (number + length (batch_records b)) bs

-- a file keeps them: NSEQ counts up from 1; it has six digits, so "A millionth record is refused by 9"
pub record FileKept (edition : ℕ) (f : File) : Type 0 where
  pub a0 : A0Kept edition 1 f.a0
  pub batches : BatchesKept edition 2 f.batches
  pub a9 : A9Kept edition (2 + length (batches_records f.batches)) f.a9

-- bytes keep document 01's rules under an edition: it is 2, and they are such a file's records, each followed by CR LF, joined
pub record Kept (edition : ℕ) (bytes : List ℕ) : Type 0 where
  pub edition_current : current edition ≡ true
  pub file : File
  pub keeps : FileKept edition file
  pub is : bytes ≡ joined (records_of file)

-- the transactions of a file; its sales, those that are forecast and those that are settled, its credits and its debits
unfoldable pub batches_transactions : List Batch → List Transaction
batches_transactions [] = []
batches_transactions (b ∷ bs) = b.transactions ++ batches_transactions bs

abbrev pub transactions_of : File → List Transaction
transactions_of f = batches_transactions f.batches

abbrev pub sales_of : File → List (List ℕ)
sales_of f = picked is_sale (transactions_of f)

abbrev pub forecasts_of : File → List (List ℕ)
forecasts_of f = picked is_forecast (transactions_of f)

abbrev pub settled_of : File → List (List ℕ)
settled_of f = picked is_settled (transactions_of f)

abbrev pub credits_of : File → List (List ℕ)
credits_of f = picked is_credit (transactions_of f)

abbrev pub debits_of : File → List (List ℕ)
debits_of f = picked is_debit (transactions_of f)
