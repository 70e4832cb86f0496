-- `file_list::list::list_by` meets its contract. The invariant: every argument before the number is tallied.
use Rattle.file_list.proofs.Lists.{at_first, one_reached}
use Rattle.file_list.proofs.list.list_by.Goals as goal

pub loop-number-init : goal.loop-number-init
loop-number-init g c = at_first _ _ _ _ c.none-tally.ensures

pub loop-number-preserved : goal.loop-number-preserved
loop-number-preserved g c =
    let l = c.loop-number in
    let checked = c.check-outcome in
    one_reached _ _ _ _ _ checked.result c.loop-number-test.true l.invariant checked.ensures c.said.ensures c.with-tally.ensures
