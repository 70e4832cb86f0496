-- The numbers of an accepted card file are the plain ones.
use Rattle.std.specs.Prelude.{ℕ, ◌+◌, ◌^◌, ◌≤◌, ◌<◌, ◌≡◌, List, length}
use Rattle.totals.specs.declared.amounts.Totals.{Totals}
use Rattle.totals.specs.TwoSets.{summed}
use Rattle.card_run.specs.declared.adjusted.Adjusted.{Adjusted}
use Rattle.card_run.specs.declared.answer.Accepted.{Accepted}
use Rattle.card_kept.specs.Fields.{number_at}
use Rattle.card_kept.specs.Adjustment.{adjustment_net}
use Rattle.card_kept.specs.Sale.{payable_gross, payable_discount, payable_net}
use Rattle.card_kept.specs.Kept.{File, records_of, sum_over, added, taken, transactions_of, sales_of, forecasts_of, settled_of, credits_of, debits_of}

-- how many sales there are, and the sums of what is payable of them, as whole numbers
abbrev pub plain_totals : List (List ℕ) → Totals
plain_totals rs =
    record {
      sales = length rs;
      amounts = record { gross = sum_over payable_gross rs; discount = sum_over payable_discount rs; net = sum_over payable_net rs };
    }

-- how many adjustments there are, and the sum of their nets
abbrev pub plain_adjusted : List (List ℕ) → Adjusted
plain_adjusted rs = record { count = length rs; net = sum_over adjustment_net rs }

-- what totals say of sales
pub record TotalsOf (sales : List (List ℕ)) (t : Totals) : Type 0 where
  pub plain : t ≡ plain_totals sales
  -- NSEQ has six digits, so no sum leaves 64 bits
  pub gross_below : t.amounts.gross < 10 ^ 17
  pub discount_below : t.amounts.discount < 10 ^ 17
  pub net_below : t.amounts.net < 10 ^ 17
  -- "gross = discount + net", of all of them
  pub agree : t.amounts.gross ≡ t.amounts.discount + t.amounts.net

-- what an accepted file's numbers say of its records: "An accepted file answers: A0 date, movement, records, batches, sales (CV records), and the totals of payable gross,
-- discount and net over all CV"; "The answer now has two sets of totals"; "Credits and debits each get a count and a total of net of their own, kept apart from sales"
pub record Numbers (f : File) (a : Accepted) : Type 0 where
  pub date : a.date ≡ number_at 9 16 f.a0
  pub movement : a.movement ≡ number_at 23 28 f.a0
  pub records : a.records ≡ length (records_of f)
  pub batches : a.batches ≡ length f.batches
  -- "forecast (launch type 0) and settled (1 and 2), each with its own count of sales"
  pub forecast : TotalsOf (forecasts_of f) a.totals.forecast
  pub settled : TotalsOf (settled_of f) a.totals.settled
  -- "The old three totals equal the sums of both": those over all CV, and their count too
  pub both : TotalsOf (sales_of f) (summed a.totals)
  pub credits : a.credits.count ≡ length (credits_of f)
  pub credit_net : a.credits.net ≡ sum_over adjustment_net (credits_of f)
  pub debits : a.debits.count ≡ length (debits_of f)
  pub debit_net : a.debits.net ≡ sum_over adjustment_net (debits_of f)
  -- no other count and no other sum leaves 64 bits
  pub records_below : a.records ≤ 999999
  pub credits_below : a.credits.count ≤ 999999
  pub credit_net_below : a.credits.net < 10 ^ 17
  pub debits_below : a.debits.count ≤ 999999
  pub debit_net_below : a.debits.net < 10 ^ 17
  -- nor does what its batches add or take, all together
  pub added_below : added (transactions_of f) < 10 ^ 17
  pub taken_below : taken (transactions_of f) < 10 ^ 17
