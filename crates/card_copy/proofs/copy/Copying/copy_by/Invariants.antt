-- `card_copy::copy::Copying::copy_by` meets its contract. The invariant: the bytes that are to be taken lie within the buffer, which keeps its length, and those
-- in front of them are what waits of the chunks that the stream has taken.
use Prim.Native.Nat.{◌≤◌}
use mathlib.Core.Path.{◌≡◌}
use lib.ListN.{length, take}
use Rattle.card_copy.proofs.InHand.{Waits}
use Rattle.card_copy.proofs.copy.Copying.copy_by.Given as goal

abbrev pub invariant-loop : goal.invariant-loop
invariant-loop g l =
    (l.tail ≤ l.end) × (l.end ≤ length l.buffer) × (length l.buffer ≡ length l.initial.buffer) × Waits l.self.edition l.stream (take l.tail l.buffer)
