-- The invariant: the value so far, with the digits still to come, is the value of all, both cut off at the top of 64 bits.
use Prim.Native.Nat.{◌≤◌, min}
use mathlib.Core.Path.{◌≡◌}
use lib.ListN.{drop}
use Rattle.text.specs.Number.{value_from, value_of}
use Rattle.totals.specs.Sum.{top}
use Rattle.edition.proofs.capped_value.Given as goal

abbrev pub invariant-loop-digit : goal.invariant-loop-digit
invariant-loop-digit l = (l.value ≤ top) × (min (value_from l.value (drop l.digit-index l.digits)) top ≡ min (value_of l.digits) top)
