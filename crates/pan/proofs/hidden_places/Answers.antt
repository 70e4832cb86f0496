-- `pan::hidden_places` meets its contract: the leading zeros are 19 less the valid characters, which the code counts.
use Rattle.std.proofs.Common.{◌∙◌, sym, arith}
use Rattle.pan.proofs.HiddenPlaces.{counted}
use Rattle.pan.proofs.hidden_places.Goals as goal

pub overflow_sub-result : goal.overflow_sub-result
overflow_sub-result c = omega (arith, counted _ _ (sym c.well_formed-2.ensures ∙ c.if-not-well_formed.false) c.valid_characters-valid.ensures.holds)
