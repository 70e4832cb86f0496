-- "two sets of totals, forecast (launch type 0) and settled (1 and 2), each with its own count of sales".
use Rattle.std.specs.Prelude.{Bool, cond}
use Rattle.totals.specs.declared.amounts.Totals.{Totals}
use Rattle.totals.specs.declared.two_sets.TwoSets.{TwoSets}
use Rattle.totals.specs.Amounts.{no_totals, added_totals, plus}

abbrev pub sets_of : Totals → Totals → TwoSets
sets_of forecast settled = record { forecast = forecast; settled = settled }

abbrev pub no_sets : TwoSets
no_sets = sets_of no_totals no_totals

-- one sale more: in the one set or in the other, by whether it is forecast
abbrev pub one_sale_more : Bool → Totals → TwoSets → TwoSets
one_sale_more forecast sale s =
    cond forecast (sets_of (added_totals s.forecast sale) s.settled) (sets_of s.forecast (added_totals s.settled sale))

-- both sets added, each number at the top of 64 bits at most
abbrev pub both_sets : TwoSets → Totals
both_sets s = added_totals s.forecast s.settled

-- both sets added, as whole numbers
abbrev pub summed : TwoSets → Totals
summed s = plus s.forecast s.settled
