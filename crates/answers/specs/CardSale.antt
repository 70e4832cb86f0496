-- What the contracts of a sale are held to. Behind a function's name: the wrong programs that are ruled out.
use Rattle.std.specs.Prelude.{ℕ, true, false}
use Rattle.refusal.specs.declared.Cause.TheVariants.{WrongWidth, ByteNotAllowed, ValueNotAllowed, AmountsDisagree}
use Rattle.totals.specs.declared.amounts.Amounts.{Amounts}
use Rattle.card_sale.specs.declared.cv.Cv.{Cv}
use Rattle.answers.specs.Totals.{amounts}
use Rattle.answers.specs.Samples.{at, sale}
use base.Fml.{Lft}
use Rattle.card_sale.specs.contracts.cv.Cv.fault as Fault
use Rattle.card_sale.specs.contracts.cv.Cv.read as Read
use Rattle.card_sale.specs.contracts.cv.Cv.is_forecast as IsForecast
use Rattle.card_sale.specs.contracts.cv.Cv.has_instalment as HasInstalment
use Rattle.card_sale.specs.contracts.cv.Cv.payable_amounts as Payable
use Rattle.card_sale.specs.contracts.cv.Cv.joined_fault as JoinedFault
use borrow.Fn.Read.{r_last}
use Rattle.answers.specs.Held.{Claim, fact_of, logic, memory, run, OneAnswer, Tells, lent, one}
use Rattle.refusal.specs.Fault.{at as fault_at, nothing}

-- what each contract says
abbrev FaultSays : Claim Fault.ended
FaultSays κs a r s = fact_of ((Fault.clauses logic memory run κs a).ensures tt r s) (r_last _)

abbrev ReadSays : Claim Read.ended
ReadSays κs a r s = fact_of ((Read.clauses logic memory run κs a).ensures tt r s) (r_last _)

abbrev IsForecastSays : Claim IsForecast.ended
IsForecastSays κs a r s = fact_of ((IsForecast.clauses logic memory run κs a).ensures tt r s) (r_last _)

abbrev HasInstalmentSays : Claim HasInstalment.ended
HasInstalmentSays κs a r s = fact_of ((HasInstalment.clauses logic memory run κs a).ensures tt r s) (r_last _)

abbrev PayableSays : Claim Payable.ended
PayableSays κs a r s = fact_of ((Payable.clauses logic memory run κs a).ensures tt r s) (r_last _)

abbrev JoinedFaultSays : Claim JoinedFault.ended
JoinedFaultSays κs a r s = fact_of ((JoinedFault.clauses logic memory run κs a).ensures tt r s) (r_last _)

-- a sale of a launch type, of these amounts, and of an instalment, one of how many, with its own
abbrev pub sale_as : ℕ → Amounts → ℕ → ℕ → Amounts → Cv
sale_as launched whole instalment instalments paid =
    record {
      launch_type = launched;
      sale = whole;
      instalment = instalment;
      instalments = instalments;
      instalment_nsu = 0;
      instalment_amounts = paid;
      nseq = 3;
    }

abbrev pub sale_of : Amounts → ℕ → ℕ → Amounts → Cv
sale_of = sale_as 1

-- document 01's cash sale, and that of another launch type
abbrev pub cash_as : ℕ → Cv
cash_as launched = sale_as launched (amounts 10000 250 9750) 0 0 (amounts 0 0 0)

abbrev pub cash_sale : Cv
cash_sale = cash_as 1

pub record CardSale (κ : Lft) : Type 0 where
  -- `Cv::fault`: a longer record taken; the fields not in order; capture 0
  pub fault : OneAnswer FaultSays
  pub fault_width : Tells (FaultSays (one κ)) (2, (lent (at 200 "0" sale), tt)) (fault_at WrongWidth 0) nothing
  pub fault_order : Tells (FaultSays (one κ)) (2, (lent (at 88 "x" (at 3 "\n" sale)), tt)) (fault_at ByteNotAllowed 3) (fault_at ByteNotAllowed 88)
  pub fault_capture : Tells (FaultSays (one κ)) (2, (lent (at 54 "0" sale), tt)) (fault_at ValueNotAllowed 54) nothing
  -- `Cv::read`: gross read for net; the instalment's amounts for the sale's
  pub read : OneAnswer ReadSays
  pub read_gross : Tells (ReadSays (one κ)) (lent sale, tt) cash_sale (sale_of (amounts 10000 250 10000) 0 0 (amounts 0 0 0))
  pub read_instalment : Tells (ReadSays (one κ)) (lent sale, tt) cash_sale (sale_of (amounts 0 0 0) 0 0 (amounts 10000 250 9750))
  -- the launch type not read
  pub read_launch_type : Tells (ReadSays (one κ)) (lent (at 44 "0" sale), tt) (cash_as 0) cash_sale
  -- `Cv::is_forecast`: launch type 2 among the forecasts; 0 not among them
  pub is_forecast_lem : OneAnswer IsForecastSays
  pub forecast_advanced : Tells (IsForecastSays tt) (cash_as 2, tt) false true
  pub forecast_normal : Tells (IsForecastSays tt) (cash_as 1, tt) false true
  pub forecast_none : Tells (IsForecastSays tt) (cash_as 0, tt) true false
  -- `Cv::has_instalment`: none where it is the only one; one in a cash sale
  pub has_instalment_lem : OneAnswer HasInstalmentSays
  pub instalment_only : Tells (HasInstalmentSays tt) (sale_of (amounts 9 1 8) 1 1 (amounts 9 1 8), tt) true false
  pub instalment_cash : Tells (HasInstalmentSays tt) (cash_sale, tt) false true
  -- `Cv::payable_amounts`: the sale once per instalment; the instalment's of a cash sale
  pub payable : OneAnswer PayableSays
  pub payable_sale : Tells (PayableSays tt) (sale_of (amounts 9 3 6) 2 3 (amounts 3 1 2), tt) (amounts 3 1 2) (amounts 9 3 6)
  pub payable_cash : Tells (PayableSays tt) (cash_sale, tt) (amounts 10000 250 9750) (amounts 0 0 0)
  -- `Cv::joined_fault`: net 9751 taken; instalment 4 of 3 taken; a discount left where there is no instalment; the instalment's amounts not compared
  pub joined_fault : OneAnswer JoinedFaultSays
  pub joined_net : Tells (JoinedFaultSays tt) (sale_of (amounts 10000 250 9751) 0 0 (amounts 0 0 0), tt) (fault_at AmountsDisagree 77) nothing
  pub joined_instalment : Tells (JoinedFaultSays tt) (sale_of (amounts 9 3 6) 4 3 (amounts 3 1 2), tt) (fault_at ValueNotAllowed 107) nothing
  pub joined_discount : Tells (JoinedFaultSays tt) (sale_of (amounts 9 3 6) 0 0 (amounts 0 1 0), tt) (fault_at ValueNotAllowed 134) nothing
  pub joined_paid : Tells (JoinedFaultSays tt) (sale_of (amounts 9 3 6) 2 3 (amounts 3 1 1), tt) (fault_at AmountsDisagree 145) nothing
