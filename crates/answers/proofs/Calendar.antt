-- The contracts of `calendar` are held to one answer, and rule wrong ones out, by computation.
use Prim.Native.Nat.{ℕ}
use mathlib.Core.Path.{◌≡◌, refl}
use mathlib.Core.Bool.{true}
use native.Mathlib.Omega.{arith}
use lib.Dec.{leb}
use borrow.Author.Tests.{leb-true}
use Rattle.refusal.specs.Rules.{first_broken}
use Rattle.text.specs.Alphabet.{allowed, holds_only}
use Rattle.text.specs.Number.{value_from}
use Rattle.calendar.specs.Month.{days_in}
use Rattle.calendar.specs.Day.{is_day}
use Rattle.calendar.specs.Time.{is_time}
use Rattle.calendar.specs.When.{when_rules}
use Rattle.answers.proofs.Observed.{fault_number, when_read}
use base.Fml.{Lft}
use Rattle.answers.specs.Calendar.{HasDays, Calendar}
use Rattle.answers.proofs.Told.{equal, told, bit}

-- a length that is the rule's, and not 0, is neither a day more nor a day less
has_days : (year month days : ℕ) → days ≡ days_in year month → leb 1 days ≡ true → HasDays year month days
has_days year month days e some = ((e, λ f. omega (arith, e, f)), (e, λ f. omega (arith, e, f, leb-true 1 days some)))

pub calendar : (κ : Lft) → Calendar κ
unfolding first_broken allowed holds_only value_from days_in is_day is_time when_rules
calendar κ =
    record {
      leap = λ κs a r r' s s' p q. equal p q;
      leap_1900 = (refl, told bit refl);
      leap_2100 = (refl, told bit refl);
      leap_2000 = (refl, told bit refl);
      days_in_lem = λ κs a r r' s s' p q. equal p q;
      days_in_january = has_days 2023 1 31 refl refl;
      days_in_february = has_days 2023 2 28 refl refl;
      days_in_leap_february = has_days 2024 2 29 refl refl;
      days_in_march = has_days 2023 3 31 refl refl;
      days_in_april = has_days 2023 4 30 refl refl;
      days_in_may = has_days 2023 5 31 refl refl;
      days_in_june = has_days 2023 6 30 refl refl;
      days_in_july = has_days 2023 7 31 refl refl;
      days_in_august = has_days 2023 8 31 refl refl;
      days_in_september = has_days 2023 9 30 refl refl;
      days_in_october = has_days 2023 10 31 refl refl;
      days_in_november = has_days 2023 11 30 refl refl;
      days_in_december = has_days 2023 12 31 refl refl;
      days_in_zeroth = (refl, told (λ n. n) refl);
      days_in_thirteenth = (refl, told (λ n. n) refl);
      is_day_lem = λ κs a r r' s s' p q. equal p q;
      is_day_1999 = (refl, told bit refl);
      is_day_2023 = (refl, told bit refl);
      is_day_2099 = (refl, told bit refl);
      year_first_lem = λ κs a r r' s s' p q. equal p q;
      year_first_turned = (refl, told when_read refl);
      year_first_dashes = (refl, told when_read refl);
      year_first_nine = (refl, told when_read refl);
      day_first_lem = λ κs a r r' s s' p q. equal p q;
      day_first_unturned = (refl, told when_read refl);
      day_first_turned = (refl, told when_read refl);
      is_time_lem = λ κs a r r' s s' p q. equal p q;
      is_time_minute = (refl, told bit refl);
      is_time_hour = (refl, told bit refl);
      time_of_lem = λ κs a r r' s s' p q. equal p q;
      time_of_second = (refl, told when_read refl);
      time_of_four = (refl, told when_read refl);
      fault = λ κs a r r' s s' p q. equal p q;
      fault_eight = (refl, told fault_number refl);
      fault_none = (refl, told fault_number refl);
    }
