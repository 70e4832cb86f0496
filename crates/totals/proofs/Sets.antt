-- Laws of the two sets of totals: added, they are the totals of all sales. One sale more in either set is one more in both, since adding is associative and commutative.
use mathlib.Core.Path.{◌≡◌, refl, sym, ◌∙◌, ap}
use mathlib.Core.Bool.{Bool, true, false}
use Rattle.totals.specs.declared.amounts.Totals.{Totals}
use Rattle.totals.specs.declared.two_sets.TwoSets.{TwoSets}
use Rattle.totals.specs.Amounts.{no_totals, added_totals}
use Rattle.totals.specs.TwoSets.{no_sets, one_sale_more, both_sets}
use Rattle.totals.proofs.Totals.{associative, commutative}

pub both_none : both_sets no_sets ≡ no_totals
both_none = refl

pub both_more : (forecast : Bool) (sale : Totals) (s : TwoSets) → both_sets (one_sale_more forecast sale s) ≡ added_totals (both_sets s) sale
both_more true sale s =
    associative s.forecast sale s.settled ∙ ap (added_totals s.forecast) (commutative sale s.settled) ∙
    sym (associative s.forecast s.settled sale)
both_more false sale s = sym (associative s.forecast s.settled sale)
