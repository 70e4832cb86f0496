-- `text::number::value_if_digits` meets its contract. The invariant: what the bytes and the zeros come to so far, with those still to come,
-- is what all come to. Seventeen bytes leave room for each step.
use Rattle.std.proofs.Common.{◌≡◌, drop}
use Rattle.text.specs.Weighed.{weighed, zeros_weighed}
use Rattle.text.proofs.Weights.{Light}
use Rattle.text.proofs.number.value_if_digits.Given as goal

abbrev pub invariant-loop-byte : goal.invariant-loop-byte
invariant-loop-byte l =
    (Light l.value l.byte-index × (weighed l.value (drop l.byte-index l.part) ≡ weighed 0 l.part)) ×
    (Light l.zeros l.byte-index × (zeros_weighed l.zeros (drop l.byte-index l.part) ≡ zeros_weighed 0 l.part))
