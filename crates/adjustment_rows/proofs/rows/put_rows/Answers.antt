-- `adjustment_rows::rows::put_rows` meets its contract. The invariant: the rows of the lines so far are put (`Sofar`).
use borrow.Author.Rules.{rules}
use Rattle.adjustment_rows.proofs.Passing.{begun, passed, left_within, all_passed}
use Rattle.adjustment_rows.proofs.rows.put_rows.Goals as goal

pub loop-piece-init : goal.loop-piece-init
loop-piece-init c = begun _ _ _

pub loop-piece-preserved : goal.loop-piece-preserved
loop-piece-preserved c = passed c.loop-piece.invariant (search rules) c.put_piece-size.ensures c.added-next.ensures

pub overflow_sub-result : goal.overflow_sub-result
overflow_sub-result c = left_within c.loop-piece.invariant (search rules)

pub returns : goal.returns
returns c = all_passed c.loop-piece.invariant (search rules)
