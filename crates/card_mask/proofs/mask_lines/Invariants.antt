-- `card_mask::mask_lines` meets its contract. The invariant: before `at` the bytes are masked, and from there on they are as they were.
-- The measure is what is left of the length.
use Prim.Native.Nat.{◌-◌}
use lib.ListN.{length}
use Rattle.card_mask.proofs.Copies.{Sofar}
use Rattle.card_mask.proofs.mask_lines.Given as goal

abbrev pub invariant-loop-end : goal.invariant-loop-end
invariant-loop-end l = Sofar l.initial.bytes l.at l.bytes

abbrev pub decreases-loop-end : goal.decreases-loop-end
decreases-loop-end l = length l.initial.bytes - l.at
