-- The contracts of states as numbers are held to one answer, and rule wrong ones out, by computation.
use mathlib.Core.Path.{refl}
use lib.ListN.{get_or}
use Rattle.payroll_file.specs.Answer.{payroll_row}
use Rattle.payroll_stream.specs.Stream.{progress_row}
use Rattle.state_numbers.specs.CardState.{state_numbers, stage_of, state_of}
use Rattle.state_numbers.specs.PayrollState.{feeding_numbers, stage_of as payroll_stage, running_of, progress_of}
use Rattle.answers.proofs.Observed.{stage_read, payroll_stage_read, progress_read}
use base.Fml.{Lft}
use Rattle.answers.specs.StateNumbers.{StateNumbers}
use Rattle.answers.proofs.Told.{equal, told}

pub state_numbers_lem : (κ : Lft) → StateNumbers κ
unfolding payroll_row progress_row state_numbers stage_of state_of feeding_numbers payroll_stage running_of progress_of
state_numbers_lem κ =
    record {
      card_numbers_lem = λ κs a r r' s s' p q. equal p q;
      card_from_zero = (refl, told (λ l. get_or l 0 0) refl);
      card_refusal = (refl, told (λ l. get_or l 2 0) refl);
      card_state_of = λ κs a r r' s s' p q. equal p q;
      card_of_zeros = (refl, told (λ st. stage_read st.stage) refl);
      card_of_no_stage = (refl, told (λ st. stage_read st.stage) refl);
      card_of_forecast = (refl, told (λ st. st.numbers.totals.forecast.sales) refl);
      payroll_numbers_lem = λ κs a r r' s s' p q. equal p q;
      payroll_return = (refl, told (λ l. get_or l 4 0) refl);
      payroll_answer_lem = (refl, told (λ l. get_or l 19 0) refl);
      feeding_of_lem = λ κs a r r' s s' p q. equal p q;
      feeding_of_zeros = (refl, told (λ f. payroll_stage_read f.state.stage) refl);
      feeding_of_accepted = (refl, told (λ f. progress_read f.progress) refl);
      feeding_of_refused = (refl, told (λ f. progress_read f.progress) refl);
    }
