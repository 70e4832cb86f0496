-- A fault that reading found is the first fault of what stands for it in the list of rules.
use mathlib.Core.Path.{◌≡◌, refl}
use Rattle.std.specs.Prelude.{Ok, Err}
use Rattle.refusal.specs.Fault.{Judged}
use Rattle.refusal.specs.Rules.{first_broken}
use Rattle.payroll_step.specs.Rules.{found_rules}

pub found : (f : Judged) → f ≡ first_broken (found_rules f)
unfolding first_broken found_rules
found (Ok none) = refl
found (Err fault) = refl
