-- Answers with the same row are the same: a row tells whether the file is accepted, and which refusal it has.
use mathlib.Core.Path.{◌≡◌, refl, sym, ◌∙◌, ap}
use mathlib.Core.Logic.{◌↔◌}
use mathlib.Core.Bool.{true, true≢false, false≢true}
use Rattle.std.specs.Prelude.{Ok, Err}
use Rattle.refusal.specs.declared.Refusal.{Refusal}
use Rattle.refusal.specs.Row.{no_refusal}
use Rattle.refusal.proofs.RefusalRows.{same_refusal, not_none}
use Rattle.payroll_run.specs.declared.stage.Stage.{Stage}
use Rattle.payroll_run.specs.declared.stage.Stage.TheVariants.{Start, BetweenBatches, InBatch, BehindA, BehindB, Ended, Refused as Stopped}
use Rattle.payroll_file.specs.Answer.{PayrollAnswer, refused_row, payroll_row, state_row}

pub same_answer : (a b : PayrollAnswer) → payroll_row a ≡ payroll_row b → a ≡ b
unfolding payroll_row
same_answer (Ok a) (Ok b) e = ap Ok (ap (λ row. row.numbers) e)
same_answer (Ok a) (Err s) e = absurd (true≢false (ap (λ row. row.accepted) e))
same_answer (Err r) (Ok b) e = absurd (false≢true (ap (λ row. row.accepted) e))
same_answer (Err r) (Err s) e = ap Err (same_refusal r s (ap (λ row. row.refusal) e))

-- an accepted answer has its numbers in the row
pub is_accepted_lem : (a : PayrollAnswer) → (payroll_row a).accepted ≡ true → a ≡ Ok (payroll_row a).numbers
unfolding payroll_row
is_accepted_lem (Ok n) e = refl
is_accepted_lem (Err r) e = absurd (false≢true e)

-- a stage is refused as its row tells
pub refused_stage : (s : Stage) (x : Refusal) → (state_row s ≡ refused_row x) ↔ (s ≡ Stopped x)
unfolding state_row
refused_stage s x = (by s, λ e. ap state_row e)
  where
    by : (s : Stage) → state_row s ≡ refused_row x → s ≡ Stopped x
    by Start e = absurd (not_none x (sym (ap (λ row. row.refusal) e)))
    by BetweenBatches e = absurd (not_none x (sym (ap (λ row. row.refusal) e)))
    by InBatch e = absurd (not_none x (sym (ap (λ row. row.refusal) e)))
    by BehindA e = absurd (not_none x (sym (ap (λ row. row.refusal) e)))
    by BehindB e = absurd (not_none x (sym (ap (λ row. row.refusal) e)))
    by Ended e = absurd (not_none x (sym (ap (λ row. row.refusal) e)))
    by (Stopped y) e = ap Stopped (same_refusal y x (ap (λ row. row.refusal) e))

-- and not refused
pub going_stage : (s : Stage) → ((state_row s).refusal ≡ no_refusal) ↔ ((x : Refusal) → s ≡ Stopped x → ⊥)
unfolding state_row
going_stage s = (λ e x q. not_none x (sym (ap (λ s. (state_row s).refusal) q) ∙ e), by s)
  where
    by : (s : Stage) → ((x : Refusal) → s ≡ Stopped x → ⊥) → (state_row s).refusal ≡ no_refusal
    by Start g = refl
    by BetweenBatches g = refl
    by InBatch g = refl
    by BehindA g = refl
    by BehindB g = refl
    by Ended g = refl
    by (Stopped y) g = absurd (g y refl)
