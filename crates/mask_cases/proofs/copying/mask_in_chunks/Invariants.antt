-- `mask_cases::copying::mask_in_chunks` meets its contract. The invariant: the records so far are masked, and with the rest masked the copy is that of all.
use Prim.Native.Nat.{◌-◌, ◌≤◌}
use mathlib.Core.Path.{◌≡◌}
use mathlib.Core.List.{◌++◌}
use lib.ListN.{length, take, drop}
use Rattle.card_mask.specs.Masked.{masked_file}
use Rattle.mask_cases.proofs.copying.mask_in_chunks.Given as goal

abbrev pub invariant-loop : goal.invariant-loop
invariant-loop l = (length l.copy ≡ length l.initial.copy) × (l.done ≤ l.at) × (l.at ≤ length l.copy) × (l.counter ≤ l.end) × (take l.done l.copy ++ masked_file (drop l.done l.copy) ≡ masked_file l.initial.copy)

abbrev pub decreases-loop : goal.decreases-loop
decreases-loop l = l.end - l.counter
