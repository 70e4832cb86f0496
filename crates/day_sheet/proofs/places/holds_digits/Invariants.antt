-- `day_sheet::places::holds_digits` meets its contract. The invariant: whether the places still to come hold digits decides of all, and the bytes reach as far.
use Prim.Native.Nat.{◌+◌, ◌-◌, ◌≤◌}
use mathlib.Core.Path.{◌≡◌}
use lib.ListN.{length, drop}
use Rattle.day_sheet.specs.Layout.{table_width, digits_right}
use Rattle.day_sheet.specs.FirstPlaces.{first_places}
use Rattle.day_sheet.proofs.places.holds_digits.Given as goal

abbrev pub invariant-loop-number : goal.invariant-loop-number
invariant-loop-number l = (l.number ≤ l.places) ×
    (l.at + table_width (drop l.number (first_places l.places)) ≤ length l.bytes) ×
    (digits_right (drop l.number (first_places l.places)) (drop l.at l.bytes) ≡ digits_right (first_places l.places) (drop 3 l.bytes))

abbrev pub decreases-loop-number : goal.decreases-loop-number
decreases-loop-number l = l.places - l.number
