-- The invariant: looking on from a row of the list finds what looking from its start finds.
use mathlib.Core.Path.{◌≡◌}
use lib.ListN.{drop}
use Rattle.refusal.specs.declared.Cause.TheVariants.{EditionUnknown}
use Rattle.refusal.specs.RefusalList.{causes, numbered, cause_numbered}
use Rattle.refusal.proofs.Cause.numbered.Given as goal

abbrev pub invariant-loop-cause : goal.invariant-loop-cause
invariant-loop-cause l = numbered l.number (drop l.cause-index causes) EditionUnknown ≡ cause_numbered l.number
