-- `day_sheet::places::read_numbers` meets its contract. The invariant: the numbers read so far, and those of the places still to come, are all numbers, and the bytes
-- reach as far.
use Prim.Native.Nat.{◌+◌, ◌-◌, ◌≤◌}
use mathlib.Core.Path.{◌≡◌}
use mathlib.Core.List.{◌++◌}
use lib.ListN.{length, take, drop}
use Rattle.day_sheet.specs.Layout.{table_width, from_places}
use Rattle.day_sheet.specs.FirstPlaces.{first_places}
use Rattle.day_sheet.proofs.places.read_numbers.Given as goal

abbrev pub invariant-loop-number : goal.invariant-loop-number
invariant-loop-number l = (l.number ≤ length l.initial.numbers) ×
    (length l.numbers ≡ length l.initial.numbers) ×
    (l.at + table_width (drop l.number (first_places (length l.initial.numbers))) ≤ length l.bytes) ×
    (take l.number l.numbers ++ from_places (drop l.number (first_places (length l.initial.numbers))) (drop l.at l.bytes) ≡
    from_places (first_places (length l.initial.numbers)) (drop 3 l.bytes))

abbrev pub decreases-loop-number : goal.decreases-loop-number
decreases-loop-number l = length l.initial.numbers - l.number
