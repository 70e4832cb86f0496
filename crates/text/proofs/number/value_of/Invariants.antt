-- `text::number::value_of` meets its contract. The invariant: the value so far is below 10^i, and with the digits still to come it is the
-- value of all. Eighteen digits leave room for each step.
use Rattle.std.proofs.Common.{◌≡◌, ◌<◌, ◌^◌, drop}
use Rattle.text.specs.Number.{value_from, value_of}
use Rattle.text.proofs.number.value_of.Given as goal

abbrev pub invariant-loop-digit : goal.invariant-loop-digit
invariant-loop-digit l = (l.value < 10 ^ l.digit-index) × (value_from l.value (drop l.digit-index l.digits) ≡ value_of l.digits)
