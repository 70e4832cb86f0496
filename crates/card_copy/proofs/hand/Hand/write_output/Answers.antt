-- `card_copy::hand::Hand::write_output` meets its contract, by the output: masked lines leave the unfinished one as it was, and rows leave all bytes as they were.
use Rattle.card_copy.proofs.Finished.{left_alone}
use Rattle.card_copy.proofs.hand.Hand.write_output.Goals as goal

pub returns-in-Adjustments : goal.returns-in-Adjustments
returns-in-Adjustments c =
    let a = c.args in
    left_alone a.buffer.now a.self.end c.write_rows.result c.write_rows.ensures
