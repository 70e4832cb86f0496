-- The fault of one rule, and the first of two faults.
use Rattle.std.specs.Prelude.{ℕ, Bool, cond, Result, Ok, Err}
use Rattle.refusal.specs.declared.Cause.{Cause}
use Rattle.refusal.specs.declared.Fault.{Fault}

-- what judging finds: nothing, or a fault
abbrev pub Judged : Type 0
Judged = Result (Unit {0}) Fault

abbrev pub nothing : Judged
nothing = Ok tt

abbrev pub at : Cause → ℕ → Judged
at cause column = Err (record { cause = cause; column = column })

-- the fault of a rule that gives a cause at a column unless it holds
abbrev pub rule_of : Cause → ℕ → Bool → Judged
rule_of cause column holds = cond holds nothing (at cause column)

-- the first fault, unless it is none
abbrev pub earlier_of : Judged → Judged → Judged
earlier_of (Ok none) second = second
earlier_of (Err fault) second = Err fault
