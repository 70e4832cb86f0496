-- What is promised of the machine while its calls are made.
use Rattle.std.specs.Prelude.{◌≡◌, ◌⊎◌, List, true, false}
use Rattle.out_file.specs.Saving.{next_of, is_resting, is_over, run_from, run_of}
use Rattle.out_file.specs.declared.step.Step.{Step}
use Rattle.out_file.specs.declared.step.Step.TheVariants.{Write, Gone}
use Rattle.out_file.specs.declared.step.Went.{Went}

-- one answer led from a step to another: of two steps, and so of no type alone
pub record Turned (from to : Step) : Type 0 where
  pub went : Went
  pub reached : to ≡ next_of from went

-- answers led from a step to where the machine first rests
pub data Driven (to : Step) : Step → Type 0 where
  there : is_resting to ≡ true → Driven to to
  onward : {from : Step} (went : Went) → is_resting from ≡ false → Driven to (next_of from went) → Driven to from

-- a file that was begun waits for what is to be written, or nothing of it is there
pub record Begun (step : Step) : Type 0 where
  pub answers : List Went
  pub reached : step ≡ run_of answers
  pub ready : (step ≡ Write) ⊎ (step ≡ Gone)

-- from a step the machine came to an end
pub record Ended (from to : Step) : Type 0 where
  pub answers : List Went
  pub reached : to ≡ run_from from answers
  pub over : is_over to ≡ true
