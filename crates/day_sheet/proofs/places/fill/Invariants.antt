-- `day_sheet::places::fill` meets its contract. The invariant: what is filled so far, and the places still to come, are what stood in front and all numbers; the rest is as it
-- was.
use Prim.Native.Nat.{◌+◌, ◌-◌, ◌≤◌}
use mathlib.Core.Path.{◌≡◌}
use mathlib.Core.List.{◌++◌}
use lib.ListN.{length, take, drop}
use Rattle.day_sheet.specs.Layout.{table_width, in_places}
use Rattle.day_sheet.specs.FirstPlaces.{first_places}
use Rattle.day_sheet.proofs.Filling.{Filled}
use Rattle.day_sheet.proofs.places.fill.Given as goal

abbrev pub invariant-loop-number : goal.invariant-loop-number
invariant-loop-number l = (l.number ≤ length l.numbers) ×
    (length l.out ≡ length l.initial.out) ×
    (l.at + table_width (drop l.number (first_places (length l.numbers))) ≡ 3 + table_width (first_places (length l.numbers))) ×
    Filled l.initial.out (take l.at l.out) l.at l.out ×
    (take l.at l.out ++ in_places (drop l.number (first_places (length l.numbers))) (drop l.number l.numbers) ≡
    take 3 l.initial.out ++ in_places (first_places (length l.numbers)) l.numbers)

abbrev pub decreases-loop-number : goal.decreases-loop-number
decreases-loop-number l = length l.numbers - l.number
