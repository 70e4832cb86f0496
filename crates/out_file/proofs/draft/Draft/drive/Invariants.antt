-- `out_file::draft::Draft::drive` meets its contract. The invariant: wherever the machine is driven from here, it is driven from the start. With every call
-- fewer are left.
use Rattle.out_file.specs.Saving.{calls_left}
use Rattle.out_file.specs.Driving.{Driven}
use Rattle.out_file.specs.declared.step.Step.{Step}
use Rattle.out_file.proofs.draft.Draft.drive.Given as goal

abbrev pub invariant-loop-draft : goal.invariant-loop-draft
invariant-loop-draft l = (to : Step) → Driven to l.draft.step → Driven to l.initial.draft.step

abbrev pub decreases-loop-draft : goal.decreases-loop-draft
decreases-loop-draft l = calls_left l.draft.step
