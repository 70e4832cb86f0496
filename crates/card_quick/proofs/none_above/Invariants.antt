-- `card_quick::none_above` meets its contract. The invariant: the places passed and those to come pass together exactly where the rows do.
use Rattle.std.proofs.Common.{◌≡◌, ◌&&◌}
use Rattle.card_quick.specs.Quick.{none_above}
use Rattle.card_quick.proofs.none_above.Given as goal

abbrev pub invariant-loop-low : goal.invariant-loop-low
invariant-loop-low l = l.none && none_above l.low-iterator.a.rest.now l.low-iterator.b.rest.now ≡ none_above l.low l.high
