-- What the contracts of an adjustment are held to. Behind a function's name: the wrong programs that are ruled out.
use Rattle.std.specs.Prelude.{ℕ, true, false}
use Rattle.refusal.specs.declared.Cause.TheVariants.{WrongWidth, ByteNotAllowed, ValueNotAllowed, AmountsDisagree}
use Rattle.totals.specs.declared.amounts.Amounts.{Amounts}
use Rattle.card_adjustment.specs.declared.aj.Aj.{Aj}
use Rattle.answers.specs.Totals.{amounts}
use Rattle.answers.specs.Samples.{at, credit, debit, blank_card}
use base.Fml.{Lft}
use Rattle.card_adjustment.specs.contracts.aj.Aj.fault as Fault
use Rattle.card_adjustment.specs.contracts.aj.Aj.read as Read
use Rattle.card_adjustment.specs.contracts.aj.Aj.is_credit as IsCredit
use Rattle.card_adjustment.specs.contracts.aj.Aj.joined_fault as JoinedFault
use borrow.Fn.Read.{r_last}
use Rattle.answers.specs.Held.{Claim, fact_of, logic, memory, run, OneAnswer, Tells, lent, one}
use Rattle.refusal.specs.Fault.{at as fault_at, nothing}

-- what each contract says
abbrev FaultSays : Claim Fault.ended
FaultSays κs a r s = fact_of ((Fault.clauses logic memory run κs a).ensures tt r s) (r_last _)

abbrev ReadSays : Claim Read.ended
ReadSays κs a r s = fact_of ((Read.clauses logic memory run κs a).ensures tt r s) (r_last _)

abbrev IsCreditSays : Claim IsCredit.ended
IsCreditSays κs a r s = fact_of ((IsCredit.clauses logic memory run κs a).ensures tt r s) (r_last _)

abbrev JoinedFaultSays : Claim JoinedFault.ended
JoinedFaultSays κs a r s = fact_of ((JoinedFault.clauses logic memory run κs a).ensures tt r s) (r_last _)

-- an adjustment of a type, with these amounts
abbrev pub adjustment_of : ℕ → Amounts → Aj
adjustment_of code all = record { adjustment_type = code; amounts = all; nseq = 3 }

abbrev pub one_credit : Aj
one_credit = adjustment_of 1 (amounts 1000 25 975)

abbrev pub one_debit : Aj
one_debit = adjustment_of 2 (amounts 1000 25 975)

pub record CardAdjustment (κ : Lft) : Type 0 where
  -- `Aj::fault`: a record as wide as a sale taken; the fields not in order; capture 8; capture 7 refused; a type 3
  pub fault : OneAnswer FaultSays
  pub fault_width : Tells (FaultSays (one κ)) (2, (lent (at 194 "000003" credit), tt)) (fault_at WrongWidth 0) nothing
  pub fault_order : Tells (FaultSays (one κ)) (2, (lent (at 163 "x" (at 3 "\n" credit)), tt)) (fault_at ByteNotAllowed 3) (fault_at ByteNotAllowed 163)
  pub fault_capture_8 : Tells (FaultSays (one κ)) (2, (lent (at 75 "8" credit), tt)) (fault_at ValueNotAllowed 75) nothing
  pub fault_capture_7 : Tells (FaultSays (one κ)) (2, (lent (at 75 "7" credit), tt)) nothing (fault_at ValueNotAllowed 75)
  pub fault_type : Tells (FaultSays (one κ)) (2, (lent (at 76 "3" credit), tt)) (fault_at ValueNotAllowed 76) nothing
  -- zeros refused in field 04, and taken in field 07; a blank card refused, and one of digits and blanks taken
  pub fault_original_date : Tells (FaultSays (one κ)) (2, (lent (at 30 "00000000" credit), tt)) nothing (fault_at ValueNotAllowed 30)
  pub fault_date : Tells (FaultSays (one κ)) (2, (lent (at 52 "00000000" credit), tt)) (fault_at ValueNotAllowed 52) nothing
  pub fault_blank_card : Tells (FaultSays (one κ)) (2, (lent (at 163 blank_card credit), tt)) nothing (fault_at ByteNotAllowed 163)
  pub fault_mixed_card : Tells (FaultSays (one κ)) (2, (lent (at 163 "   " credit), tt)) (fault_at ByteNotAllowed 163) nothing
  -- an accent refused in the description, and taken in the card
  pub fault_accent : Tells (FaultSays (one κ)) (2, (lent (at 80 "BÔNUS DO MÊS" credit), tt)) nothing (fault_at ByteNotAllowed 80)
  pub fault_accent_card : Tells (FaultSays (one κ)) (2, (lent (at 174 "É" credit), tt)) (fault_at ByteNotAllowed 163) nothing
  -- `Aj::read`: gross read for net; a debit read as a credit
  pub read : OneAnswer ReadSays
  pub read_gross : Tells (ReadSays (one κ)) (lent credit, tt) one_credit (adjustment_of 1 (amounts 1000 25 1000))
  pub read_debit : Tells (ReadSays (one κ)) (lent debit, tt) one_debit one_credit
  -- `Aj::is_credit`: a debit taken for a credit; a credit taken for a debit
  pub is_credit_lem : OneAnswer IsCreditSays
  pub is_credit_debit : Tells (IsCreditSays tt) (one_debit, tt) false true
  pub is_credit_credit : Tells (IsCreditSays tt) (one_credit, tt) true false
  -- `Aj::joined_fault`: net 976 taken; the fault at the gross
  pub joined_fault : OneAnswer JoinedFaultSays
  pub joined_net : Tells (JoinedFaultSays tt) (adjustment_of 1 (amounts 1000 25 976), tt) (fault_at AmountsDisagree 132) nothing
  pub joined_column : Tells (JoinedFaultSays tt) (adjustment_of 2 (amounts 1000 25 976), tt) (fault_at AmountsDisagree 132) (fault_at AmountsDisagree 110)
