-- `wording::put::mark_over` meets its contract.
use Rattle.wording.proofs.Marked.{marked_on}
use Rattle.wording.proofs.put.mark_over.Goals as goal

pub loop-byte-preserved : goal.loop-byte-preserved
loop-byte-preserved c = marked_on c.args.mark c.args.bytes.now c.loop-byte.bytes c.loop-byte.byte-index _ c.loop-byte-test.true c.loop-byte.invariant c.shown_byte.ensures
