-- `adjustment_rows::rows::put_rows` meets its contract. The invariant: the rows of the lines so far are put (`Sofar`). The measure is what is left.
use lib.ListN.{length}
use Rattle.adjustment_rows.proofs.Passing.{Sofar}
use Rattle.adjustment_rows.proofs.rows.put_rows.Given as goal

abbrev pub invariant-loop-piece : goal.invariant-loop-piece
invariant-loop-piece l = Sofar l.number l.bytes l.initial.out l.next l.size l.rest l.out

abbrev pub decreases-loop-piece : goal.decreases-loop-piece
decreases-loop-piece l = length l.rest
