-- `adjustment_rows::quoting::put_unclosed` meets its contract. The invariant: what is doubled of the bytes so far is put behind the front.
use native.Mathlib.Omega.{arith}
use Rattle.wording.proofs.Putting.{begun, both, reworded}
use Rattle.adjustment_rows.specs.Fields.{doubled}
use Rattle.adjustment_rows.proofs.PutUpTo.{within}
use Rattle.adjustment_rows.proofs.Doubling.{one_doubled, all_doubled}
use Rattle.adjustment_rows.proofs.quoting.put_unclosed.Goals as goal

pub loop-byte-init : goal.loop-byte-init
unfolding doubled
loop-byte-init c = begun (omega (arith, within c.put_opening-end.ensures))

pub loop-byte-preserved : goal.loop-byte-preserved
loop-byte-preserved c = reworded (one_doubled _ _ c.loop-byte-test.true) (both c.loop-byte.invariant c.put_byte-end.ensures)

pub returns : goal.returns
returns c = both c.put_opening-end.ensures (reworded (all_doubled _ _ c.loop-byte-test.false) c.loop-byte.invariant)
