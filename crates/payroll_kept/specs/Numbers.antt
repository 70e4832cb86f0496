-- The numbers of an accepted payroll file are the plain ones.
use Rattle.std.specs.Prelude.{◌^◌, ◌≤◌, ◌<◌, ◌≡◌, List, [], ◌∷◌, length}
use Rattle.payroll_file.specs.declared.answer.Accepted.{Accepted}
use Rattle.payroll_kept.specs.Fields.{number_at}
use Rattle.payroll_kept.specs.Kept.{Batch, File, records_of, payments_of, amount_of}

-- each batch trailer's "24-41 sums the amounts of A", as a whole number
unfoldable pub TrailersSum : List Batch → Type 0
TrailersSum [] = Unit {0}
TrailersSum (b ∷ bs) = (number_at 24 41 b.trailer ≡ amount_of b.payments) × TrailersSum bs

-- "The answer is records, batches, payments (A records) and amount"
pub record Numbers (f : File) (a : Accepted) : Type 0 where
  pub records : a.records ≡ length (records_of f)
  pub batches : a.batches ≡ length f.batches
  pub payments : a.payments ≡ length (payments_of f)
  pub amount : a.amount ≡ amount_of (payments_of f)
  pub trailers_sum : TrailersSum f.batches
  -- the trailer counts records in six digits, and a batch number is at most 9998: nothing leaves 64 bits
  pub records_below : a.records < 10 ^ 6
  pub batches_at_most : a.batches ≤ 9998
  pub amount_below : a.amount < 10 ^ 19
