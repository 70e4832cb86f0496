-- What the contracts of `totals` are held to. Behind a function's name: the wrong programs that are ruled out.
use Rattle.std.specs.Prelude.{ℕ, true, false, None, Some}
use Rattle.totals.specs.declared.amounts.Amounts.{Amounts}
use Rattle.totals.specs.declared.amounts.Totals.{Totals as TotalsOf}
use Rattle.totals.specs.declared.two_sets.TwoSets.{TwoSets}
use Rattle.totals.specs.TwoSets.{sets_of}
use Rattle.totals.specs.contracts.sum.checked as Checked
use Rattle.totals.specs.contracts.sum.added as Added
use Rattle.totals.specs.contracts.amounts.Amounts.agree as Agree
use Rattle.totals.specs.contracts.amounts.Amounts.added as AmountsAdded
use Rattle.totals.specs.contracts.amounts.Totals.none as NoTotals
use Rattle.totals.specs.contracts.amounts.Totals.of_sale as OfSale
use Rattle.totals.specs.contracts.amounts.Totals.added as TotalsAdded
use Rattle.totals.specs.contracts.two_sets.TwoSets.none as NoSets
use Rattle.totals.specs.contracts.two_sets.TwoSets.one_more as OneMore
use Rattle.totals.specs.contracts.two_sets.TwoSets.both as Both
use borrow.Fn.Read.{r_last}
use Rattle.answers.specs.Held.{Claim, fact_of, logic, memory, run, OneAnswer, Tells}

-- what each contract says
abbrev CheckedSays : Claim Checked.ended
CheckedSays κs a r s = fact_of ((Checked.clauses logic memory run κs a).ensures tt r s) (r_last _)

abbrev AddedSays : Claim Added.ended
AddedSays κs a r s = fact_of ((Added.clauses logic memory run κs a).ensures tt r s) (r_last _)

abbrev AgreeSays : Claim Agree.ended
AgreeSays κs a r s = fact_of ((Agree.clauses logic memory run κs a).ensures tt r s) (r_last _)

abbrev AmountsAddedSays : Claim AmountsAdded.ended
AmountsAddedSays κs a r s = fact_of ((AmountsAdded.clauses logic memory run κs a).ensures tt r s) (r_last _)

abbrev NoTotalsSays : Claim NoTotals.ended
NoTotalsSays κs a r s = fact_of ((NoTotals.clauses logic memory run κs a).ensures tt r s) (r_last _)

abbrev OfSaleSays : Claim OfSale.ended
OfSaleSays κs a r s = fact_of ((OfSale.clauses logic memory run κs a).ensures tt r s) (r_last _)

abbrev TotalsAddedSays : Claim TotalsAdded.ended
TotalsAddedSays κs a r s = fact_of ((TotalsAdded.clauses logic memory run κs a).ensures tt r s) (r_last _)

abbrev NoSetsSays : Claim NoSets.ended
NoSetsSays κs a r s = fact_of ((NoSets.clauses logic memory run κs a).ensures tt r s) (r_last _)

abbrev OneMoreSays : Claim OneMore.ended
OneMoreSays κs a r s = fact_of ((OneMore.clauses logic memory run κs a).ensures tt r s) (r_last _)

abbrev BothSays : Claim Both.ended
BothSays κs a r s = fact_of ((Both.clauses logic memory run κs a).ensures tt r s) (r_last _)

abbrev pub amounts : ℕ → ℕ → ℕ → Amounts
amounts gross discount net = record { gross = gross; discount = discount; net = net }

abbrev pub totals_of : ℕ → Amounts → TotalsOf
totals_of sales a = record { sales = sales; amounts = a }

-- so many sales of these amounts, all settled, and all forecast
abbrev pub settled : ℕ → Amounts → TwoSets
settled sales a = sets_of (totals_of 0 (amounts 0 0 0)) (totals_of sales a)

abbrev pub forecast : ℕ → Amounts → TwoSets
forecast sales a = sets_of (totals_of sales a) (totals_of 0 (amounts 0 0 0))

-- a forecast of 10 and a settled sale of 100
abbrev two_sales : TwoSets
two_sales = sets_of (totals_of 1 (amounts 10 2 8)) (totals_of 1 (amounts 100 30 70))

-- the largest number of 64 bits
abbrev largest : ℕ
largest = 18446744073709551615

pub record Totals : Type 0 where
  -- `checked`: a sum that wraps; the largest number left out
  pub checked : OneAnswer CheckedSays
  pub checked_wraps : Tells (CheckedSays tt) (largest, (1, tt)) None (Some 0)
  pub checked_largest : Tells (CheckedSays tt) (largest, (0, tt)) (Some largest) None
  -- `added`: a sum that wraps; the top for every sum
  pub added : OneAnswer AddedSays
  pub added_wraps : Tells (AddedSays tt) (largest, (1, tt)) largest 0
  pub added_top : Tells (AddedSays tt) (2, (3, tt)) 5 largest
  -- `Amounts::agree`: net compared with the gross; a sum that wraps
  pub agree : OneAnswer AgreeSays
  pub agree_net : Tells (AgreeSays tt) (amounts 10000 250 9750, tt) true false
  pub agree_wraps : Tells (AgreeSays tt) (amounts 0 1 largest, tt) false true
  -- `Amounts::added`: net added to the discount; nothing added
  pub amounts_added : OneAnswer AmountsAddedSays
  pub amounts_added_net : Tells (AmountsAddedSays tt) (amounts 10 2 8, (amounts 100 30 70, tt)) (amounts 110 32 78) (amounts 110 72 78)
  pub amounts_added_nothing : Tells (AmountsAddedSays tt) (amounts 10 2 8, (amounts 100 30 70, tt)) (amounts 110 32 78) (amounts 10 2 8)
  -- `Totals::none`: counted from 1; the largest numbers, as of a search for the smallest
  pub none : OneAnswer NoTotalsSays
  pub none_from_one : Tells (NoTotalsSays tt) tt (totals_of 0 (amounts 0 0 0)) (totals_of 1 (amounts 0 0 0))
  pub none_largest : Tells (NoTotalsSays tt) tt (totals_of 0 (amounts 0 0 0)) (totals_of 0 (amounts largest largest largest))
  -- `Totals::of_sale`: a sale that is not counted; one that is counted and not added
  pub of_sale : OneAnswer OfSaleSays
  pub of_sale_uncounted : Tells (OfSaleSays tt) (amounts 10 2 8, tt) (totals_of 1 (amounts 10 2 8)) (totals_of 0 (amounts 10 2 8))
  pub of_sale_unadded : Tells (OfSaleSays tt) (amounts 10 2 8, tt) (totals_of 1 (amounts 10 2 8)) (totals_of 1 (amounts 0 0 0))
  -- `Totals::added`: sales not added up; the amounts of the last alone
  pub totals_added : OneAnswer TotalsAddedSays
  pub totals_added_sales : Tells (TotalsAddedSays tt) (totals_of 1 (amounts 10 2 8), (totals_of 1 (amounts 100 30 70), tt)) (totals_of 2 (amounts 110 32 78)) (totals_of 1 (amounts 110 32 78))
  pub totals_added_last : Tells (TotalsAddedSays tt) (totals_of 1 (amounts 10 2 8), (totals_of 1 (amounts 100 30 70), tt)) (totals_of 2 (amounts 110 32 78)) (totals_of 2 (amounts 100 30 70))
  -- `TwoSets::none`: a forecast that has not come; a settled sale that has not
  pub no_sets_lem : OneAnswer NoSetsSays
  pub no_sets_forecast : Tells (NoSetsSays tt) tt (settled 0 (amounts 0 0 0)) (forecast 1 (amounts 10 2 8))
  pub no_sets_settled : Tells (NoSetsSays tt) tt (settled 0 (amounts 0 0 0)) (settled 1 (amounts 10 2 8))
  -- `TwoSets::one_more`: a forecast among the settled, in both sets and in neither; a settled sale among the forecasts
  pub one_more : OneAnswer OneMoreSays
  pub one_more_settled : Tells (OneMoreSays tt) (settled 1 (amounts 100 30 70), (true, (totals_of 1 (amounts 10 2 8), tt))) two_sales (settled 2 (amounts 110 32 78))
  pub one_more_both : Tells (OneMoreSays tt) (settled 1 (amounts 100 30 70), (true, (totals_of 1 (amounts 10 2 8), tt))) two_sales (sets_of (totals_of 1 (amounts 10 2 8)) (totals_of 2 (amounts 110 32 78)))
  pub one_more_neither : Tells (OneMoreSays tt) (settled 1 (amounts 100 30 70), (true, (totals_of 1 (amounts 10 2 8), tt))) two_sales (settled 1 (amounts 100 30 70))
  pub one_more_forecast : Tells (OneMoreSays tt) (forecast 1 (amounts 10 2 8), (false, (totals_of 1 (amounts 100 30 70), tt))) two_sales (forecast 2 (amounts 110 32 78))
  -- `TwoSets::both`: the settled alone; the forecasts alone
  pub both : OneAnswer BothSays
  pub both_settled_lem : Tells (BothSays tt) (two_sales, tt) (totals_of 2 (amounts 110 32 78)) (totals_of 1 (amounts 100 30 70))
  pub both_forecast : Tells (BothSays tt) (two_sales, tt) (totals_of 2 (amounts 110 32 78)) (totals_of 1 (amounts 10 2 8))
