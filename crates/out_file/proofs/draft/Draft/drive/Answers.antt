-- `out_file::draft::Draft::drive` meets its contract. The invariant: wherever the machine is driven from here, it is driven from the start. With every call
-- fewer are left.
use mathlib.Core.Path.{sym, ◌∙◌}
use Rattle.out_file.specs.Driving.{there}
use Rattle.out_file.proofs.Drives.{turned, nearer}
use Rattle.out_file.proofs.draft.Draft.drive.Goals as goal

pub loop-draft-smaller : goal.loop-draft-smaller
loop-draft-smaller c = nearer c.turn-draft.ensures (sym c.is_resting.ensures ∙ c.loop-draft-test.true)

pub loop-draft-preserved : goal.loop-draft-preserved
loop-draft-preserved c to d = c.loop-draft.invariant to (turned c.turn-draft.ensures (sym c.is_resting.ensures ∙ c.loop-draft-test.true) d)

pub returns : goal.returns
returns c = c.loop-draft.invariant _ (there (sym c.is_resting.ensures ∙ c.loop-draft-test.false))
