-- A state that is not refused, by its stage.
use mathlib.Core.Path.{◌≡◌}
use Rattle.refusal.specs.declared.Refusal.{Refusal}
use Rattle.payroll_run.specs.declared.stage.Stage.TheVariants.{Refused}
use Rattle.payroll_run.specs.declared.running.Running.{Running}

abbrev pub Going : Running → Type 0
Going st = (refusal : Refusal) → st.stage ≡ Refused refusal → ⊥
