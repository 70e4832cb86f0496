-- What the contracts of A0, L0, L9 and A9 are held to. Behind a function's name: the wrong programs that are ruled out.
use Rattle.std.specs.Prelude.{ℕ, take, Bool, true, false}
use Rattle.refusal.specs.declared.Cause.TheVariants.{WrongWidth, ByteNotAllowed, ValueNotAllowed}
use Rattle.card_frame.specs.declared.a0.A0.{A0}
use Rattle.card_frame.specs.declared.l0.L0.{L0}
use Rattle.card_frame.specs.declared.l9.L9.{L9}
use Rattle.card_frame.specs.declared.a9.A9.{A9}
use Rattle.demands.specs.ExampleFile.{a0, l0, l9, a9}
use Rattle.answers.specs.Samples.{at}
use base.Fml.{Lft}
use Rattle.card_frame.specs.contracts.a0.A0.fault as A0Fault
use Rattle.card_frame.specs.contracts.a0.A0.read as A0Read
use Rattle.card_frame.specs.contracts.l0.L0.fault as L0Fault
use Rattle.card_frame.specs.contracts.l0.L0.read as L0Read
use Rattle.card_frame.specs.contracts.l9.L9.fault as L9Fault
use Rattle.card_frame.specs.contracts.l9.L9.read as L9Read
use Rattle.card_frame.specs.contracts.a9.A9.fault as A9Fault
use Rattle.card_frame.specs.contracts.a9.A9.read as A9Read
use borrow.Fn.Read.{r_last}
use Rattle.answers.specs.Held.{Claim, fact_of, logic, memory, run, OneAnswer, Tells, lent, one}
use Rattle.refusal.specs.Fault.{at as fault_at, nothing}

-- what each contract says
abbrev A0FaultSays : Claim A0Fault.ended
A0FaultSays κs a r s = fact_of ((A0Fault.clauses logic memory run κs a).ensures tt r s) (r_last _)

abbrev A0ReadSays : Claim A0Read.ended
A0ReadSays κs a r s = fact_of ((A0Read.clauses logic memory run κs a).ensures tt r s) (r_last _)

abbrev L0FaultSays : Claim L0Fault.ended
L0FaultSays κs a r s = fact_of ((L0Fault.clauses logic memory run κs a).ensures tt r s) (r_last _)

abbrev L0ReadSays : Claim L0Read.ended
L0ReadSays κs a r s = fact_of ((L0Read.clauses logic memory run κs a).ensures tt r s) (r_last _)

abbrev L9FaultSays : Claim L9Fault.ended
L9FaultSays κs a r s = fact_of ((L9Fault.clauses logic memory run κs a).ensures tt r s) (r_last _)

abbrev L9ReadSays : Claim L9Read.ended
L9ReadSays κs a r s = fact_of ((L9Read.clauses logic memory run κs a).ensures tt r s) (r_last _)

abbrev A9FaultSays : Claim A9Fault.ended
A9FaultSays κs a r s = fact_of ((A9Fault.clauses logic memory run κs a).ensures tt r s) (r_last _)

abbrev A9ReadSays : Claim A9Read.ended
A9ReadSays κs a r s = fact_of ((A9Read.clauses logic memory run κs a).ensures tt r s) (r_last _)

abbrev header : ℕ → ℕ → Bool → A0
header date movement reprocessed = record { date = date; movement = movement; reprocessed = reprocessed; nseq = 1 }

abbrev batch_header : ℕ → L0
batch_header nseq = record { nseq = nseq }

abbrev batch_trailer : ℕ → ℕ → ℕ → L9
batch_trailer count sum nseq = record { count = count; sum = sum; nseq = nseq }

abbrev trailer : ℕ → ℕ → A9
trailer count nseq = record { count = count; nseq = nseq }

pub record CardFrame (κ : Lft) : Type 0 where
  -- `A0::fault`: another version taken; 8 for a letter in NSEQ; an accent refused in the name, and taken in the movement
  pub a0_fault : OneAnswer A0FaultSays
  pub a0_version : Tells (A0FaultSays (one κ)) (2, (lent (at 3 "001.8d" a0), tt)) (fault_at ValueNotAllowed 3) nothing
  pub a0_nseq : Tells (A0FaultSays (one κ)) (2, (lent (at 70 "A" a0), tt)) (fault_at ByteNotAllowed 70) (fault_at ValueNotAllowed 70)
  pub a0_accent : Tells (A0FaultSays (one κ)) (2, (lent (at 29 "ESTAÇÃO" a0), tt)) nothing (fault_at ByteNotAllowed 29)
  pub a0_accent_movement : Tells (A0FaultSays (one κ)) (2, (lent (at 23 "Ç" a0), tt)) (fault_at ByteNotAllowed 23) nothing
  -- `A0::read`: the time read for the movement; a new file taken for a reprocessed one
  pub a0_read : OneAnswer A0ReadSays
  pub a0_movement : Tells (A0ReadSays (one κ)) (lent a0, tt) (header 20240229 1 false) (header 20240229 120000 false)
  pub a0_reprocessed : Tells (A0ReadSays (one κ)) (lent a0, tt) (header 20240229 1 false) (header 20240229 1 true)
  -- `L0::fault`: another currency taken; a day that is none taken
  pub l0_fault : OneAnswer L0FaultSays
  pub l0_currency : Tells (L0FaultSays (one κ)) (2, (lent (at 11 "US" l0), tt)) (fault_at ValueNotAllowed 11) nothing
  pub l0_day : Tells (L0FaultSays (one κ)) (2, (lent (at 3 "20230229" l0), tt)) (fault_at ValueNotAllowed 3) nothing
  -- `L0::read`: the date read for NSEQ; NSEQ counted from 0
  pub l0_read : OneAnswer L0ReadSays
  pub l0_date : Tells (L0ReadSays (one κ)) (lent l0, tt) (batch_header 2) (batch_header 20240229)
  pub l0_from_zero : Tells (L0ReadSays (one κ)) (lent l0, tt) (batch_header 2) (batch_header 1)
  -- `L9::fault`: a trailer of 28 bytes and one more taken; a blank in the sum taken
  pub l9_fault : OneAnswer L9FaultSays
  pub l9_width : Tells (L9FaultSays (one κ)) (2, (lent (at 29 "0" l9), tt)) (fault_at WrongWidth 0) nothing
  pub l9_blank : Tells (L9FaultSays (one κ)) (2, (lent (at 9 " " l9), tt)) (fault_at ByteNotAllowed 9) nothing
  -- `L9::read`: count and sum exchanged; NSEQ read for the count
  pub l9_read : OneAnswer L9ReadSays
  pub l9_exchanged : Tells (L9ReadSays (one κ)) (lent l9, tt) (batch_trailer 1 10000 4) (batch_trailer 10000 1 4)
  pub l9_nseq : Tells (L9ReadSays (one κ)) (lent l9, tt) (batch_trailer 1 10000 4) (batch_trailer 4 10000 4)
  -- `A9::fault`: a trailer that is cut short taken; a letter in the count taken
  pub a9_fault : OneAnswer A9FaultSays
  pub a9_width : Tells (A9FaultSays (one κ)) (2, (lent (take 13 a9), tt)) (fault_at WrongWidth 0) nothing
  pub a9_count : Tells (A9FaultSays (one κ)) (2, (lent (at 3 "x" a9), tt)) (fault_at ByteNotAllowed 3) nothing
  -- `A9::read`: the record itself not counted; count and NSEQ exchanged
  pub a9_read : OneAnswer A9ReadSays
  pub a9_not_itself : Tells (A9ReadSays (one κ)) (lent a9, tt) (trailer 5 5) (trailer 4 5)
  pub a9_exchanged : Tells (A9ReadSays (one κ)) (lent (at 3 "000006" a9), tt) (trailer 6 5) (trailer 5 6)
