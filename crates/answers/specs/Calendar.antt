-- What the contracts of `calendar` are held to. Behind a function's name: the wrong programs that are ruled out.
use Rattle.std.specs.Prelude.{ℕ, ◌+◌, ◌-◌, true, false, Err, Ok}
use Rattle.text.specs.Literal.{ascii}
use Rattle.refusal.specs.declared.Cause.TheVariants.{ByteNotAllowed, ValueNotAllowed}
use base.Fml.{Lft}
use Rattle.calendar.specs.contracts.month.leap as Leap
use Rattle.calendar.specs.contracts.month.days_in as DaysIn
use Rattle.calendar.specs.contracts.day.is_day as IsDay
use Rattle.calendar.specs.contracts.day.year_first as YearFirst
use Rattle.calendar.specs.contracts.day.day_first as DayFirst
use Rattle.calendar.specs.contracts.time.is_time as IsTime
use Rattle.calendar.specs.contracts.time.time_of as TimeOf
use Rattle.calendar.specs.contracts.when.fault_of as Fault
use borrow.Fn.Read.{r_last}
use Rattle.answers.specs.Held.{Claim, fact_of, logic, memory, run, OneAnswer, Tells, lent, one}
use Rattle.refusal.specs.Fault.{at, nothing}
use Rattle.calendar.specs.declared.when.Unreadable.TheVariants.{NoSuch, NotDigits}

-- what each contract says
abbrev LeapSays : Claim Leap.ended
LeapSays κs a r s = fact_of ((Leap.clauses logic memory run κs a).ensures tt r s) (r_last _)

abbrev DaysInSays : Claim DaysIn.ended
DaysInSays κs a r s = fact_of ((DaysIn.clauses logic memory run κs a).ensures tt r s) (r_last _)

abbrev IsDaySays : Claim IsDay.ended
IsDaySays κs a r s = fact_of ((IsDay.clauses logic memory run κs a).ensures tt r s) (r_last _)

abbrev YearFirstSays : Claim YearFirst.ended
YearFirstSays κs a r s = fact_of ((YearFirst.clauses logic memory run κs a).ensures tt r s) (r_last _)

abbrev DayFirstSays : Claim DayFirst.ended
DayFirstSays κs a r s = fact_of ((DayFirst.clauses logic memory run κs a).ensures tt r s) (r_last _)

abbrev IsTimeSays : Claim IsTime.ended
IsTimeSays κs a r s = fact_of ((IsTime.clauses logic memory run κs a).ensures tt r s) (r_last _)

abbrev TimeOfSays : Claim TimeOf.ended
TimeOfSays κs a r s = fact_of ((TimeOf.clauses logic memory run κs a).ensures tt r s) (r_last _)

abbrev FaultSays : Claim Fault.ended
FaultSays κs a r s = fact_of ((Fault.clauses logic memory run κs a).ensures tt r s) (r_last _)

-- a month has so many days: a day more, and a day less, are ruled out
abbrev pub HasDays : ℕ → ℕ → ℕ → Type 0
HasDays year month days = Tells (DaysInSays tt) (year, (month, tt)) days (days + 1) × Tells (DaysInSays tt) (year, (month, tt)) days (days - 1)

pub record Calendar (κ : Lft) : Type 0 where
  -- `leap`: the rule of 100 forgotten, the rule of 400 forgotten
  pub leap : OneAnswer LeapSays
  pub leap_1900 : Tells (LeapSays tt) (1900, tt) false true
  pub leap_2100 : Tells (LeapSays tt) (2100, tt) false true
  pub leap_2000 : Tells (LeapSays tt) (2000, tt) true false
  -- `days_in`: each month a day longer, a day shorter, February also in a leap year; a month before the first; a thirteenth
  pub days_in_lem : OneAnswer DaysInSays
  pub days_in_january : HasDays 2023 1 31
  pub days_in_february : HasDays 2023 2 28
  pub days_in_leap_february : HasDays 2024 2 29
  pub days_in_march : HasDays 2023 3 31
  pub days_in_april : HasDays 2023 4 30
  pub days_in_may : HasDays 2023 5 31
  pub days_in_june : HasDays 2023 6 30
  pub days_in_july : HasDays 2023 7 31
  pub days_in_august : HasDays 2023 8 31
  pub days_in_september : HasDays 2023 9 30
  pub days_in_october : HasDays 2023 10 31
  pub days_in_november : HasDays 2023 11 30
  pub days_in_december : HasDays 2023 12 31
  pub days_in_zeroth : Tells (DaysInSays tt) (2023, (0, tt)) 0 31
  pub days_in_thirteenth : Tells (DaysInSays tt) (2023, (13, tt)) 0 31
  -- `is_day`: a day of 1999; 29 February of every year; the last year left out
  pub is_day_lem : OneAnswer IsDaySays
  pub is_day_1999 : Tells (IsDaySays tt) (19991231, tt) false true
  pub is_day_2023 : Tells (IsDaySays tt) (20230229, tt) false true
  pub is_day_2099 : Tells (IsDaySays tt) (20991231, tt) true false
  -- `year_first`: the day read first; 8 before 7; a ninth digit passed over
  pub year_first_lem : OneAnswer YearFirstSays
  pub year_first_turned : Tells (YearFirstSays (one κ)) (lent (ascii "29022024"), tt) (Err NoSuch) (Ok 20240229)
  pub year_first_dashes : Tells (YearFirstSays (one κ)) (lent (ascii "2024-2-9"), tt) (Err NotDigits) (Err NoSuch)
  pub year_first_nine : Tells (YearFirstSays (one κ)) (lent (ascii "020240229"), tt) (Err NoSuch) (Ok 20240229)
  -- `day_first`: not turned round; the year read first
  pub day_first_lem : OneAnswer DayFirstSays
  pub day_first_unturned : Tells (DayFirstSays (one κ)) (lent (ascii "29022024"), tt) (Ok 20240229) (Ok 29022024)
  pub day_first_turned : Tells (DayFirstSays (one κ)) (lent (ascii "20240229"), tt) (Err NoSuch) (Ok 20240229)
  -- `is_time`: minute 60; hour 24
  pub is_time_lem : OneAnswer IsTimeSays
  pub is_time_minute : Tells (IsTimeSays tt) (116000, tt) false true
  pub is_time_hour : Tells (IsTimeSays tt) (240000, tt) false true
  -- `time_of`: second 60; hours and minutes alone
  pub time_of_lem : OneAnswer TimeOfSays
  pub time_of_second : Tells (TimeOfSays (one κ)) (lent (ascii "235960"), tt) (Err NoSuch) (Ok 235960)
  pub time_of_four : Tells (TimeOfSays (one κ)) (lent (ascii "1200"), tt) (Err NoSuch) (Ok 1200)
  -- `fault_of`: 8 for what is no digit; no fault for a day that is none
  pub fault : OneAnswer FaultSays
  pub fault_eight : Tells (FaultSays tt) ((Err NotDigits), (9, tt)) (at ByteNotAllowed 9) (at ValueNotAllowed 9)
  pub fault_none : Tells (FaultSays tt) ((Err NoSuch), (9, tt)) (at ValueNotAllowed 9) nothing
