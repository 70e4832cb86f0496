-- "Numbers are allowed when the edition is 1 or 2, date and digits are right, counts are at most 999999, totals below 10^17, and
-- gross = discount + net." Of version 2: "The limits hold for each set and for both summed, and each set has gross = discount + net."
use Rattle.std.specs.Prelude.{ℕ, ◌^◌, Bool, ◌&&◌, ◌||◌, leb, ltb, eqb}
use Rattle.totals.specs.declared.amounts.Totals.{Totals}
use Rattle.totals.specs.declared.two_sets.TwoSets.{TwoSets}
use Rattle.totals.specs.Amounts.{agreeing}
use Rattle.totals.specs.TwoSets.{summed}
use Rattle.calendar.specs.Day.{is_day}
use Rattle.sheet_numbers.specs.declared.sheet.Heading.{Heading}
use Rattle.sheet_numbers.specs.declared.sheet.Sheet.{Sheet}
use Rattle.sheet_numbers.specs.declared.sheet.Sheet.TheVariants.{Version1, Version2}

-- a count and three totals
unfoldable pub within_limits : Totals → Bool
within_limits t =
    leb t.sales 999999 && (ltb t.amounts.gross (10 ^ 17) && (ltb t.amounts.discount (10 ^ 17) && ltb t.amounts.net (10 ^ 17)))

-- one set
unfoldable pub set_allowed : Totals → Bool
set_allowed t = within_limits t && agreeing t.amounts

-- each of two sets, and both summed, as whole numbers
unfoldable pub sets_allowed : TwoSets → Bool
sets_allowed s = set_allowed s.settled && (set_allowed s.forecast && within_limits (summed s))

-- a movement has six digits
unfoldable pub heading_allowed : Heading → Bool
heading_allowed h = leb 1 h.edition && (leb h.edition 2 && (is_day h.date && (leb h.movement 999999 && leb h.batches 999999)))

-- whether every number of a set is zero
unfoldable pub none_of : Totals → Bool
none_of t = eqb t.sales 0 && (eqb t.amounts.gross 0 && (eqb t.amounts.discount 0 && eqb t.amounts.net 0))

-- "17 also for a split byte above 1 and for split 0 with a forecast number that isn't zero"
unfoldable pub split_allowed : ℕ → Totals → Bool
split_allowed split forecast = eqb split 1 || (eqb split 0 && none_of forecast)

unfoldable pub sheet_allowed : Sheet → Bool
sheet_allowed (Version1 heading totals) = heading_allowed heading && set_allowed totals
sheet_allowed (Version2 heading split sets) = heading_allowed heading && (sets_allowed sets && split_allowed split sets.forecast)
