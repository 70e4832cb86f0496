-- `demands::demands_hold` meets its contract: the theorems, gathered.
use Rattle.edition.proofs.Editions.{unknown_fault, retired_fault}
use Rattle.card_run.specs.Answer.{answer_of, card_file_row}
use Rattle.card_run.proofs.FileRows.{same_answer, refusal_told, is_accepted_lem}
use Rattle.file_list.proofs.Lines.{one_line}
use Rattle.card_kept.proofs.FirstFault.{first_fault_of_record, first_fault_decides}
use Rattle.card_kept.proofs.Limits.{millionth_record, sum_of_no_trailer}
use Rattle.card_kept.proofs.State.{state_known}
use Rattle.payroll_file.specs.Answer.{payroll_row}
use Rattle.payroll_file.proofs.FileRows.{going_stage}
use Rattle.payroll_kept.proofs.FirstFault as PayrollRecord
use Rattle.payroll_kept.proofs.FirstFaultOfFile as PayrollFile
use Rattle.payroll_kept.proofs.Limits.{limits, stays_at_top}
use Rattle.payroll_kept.proofs.State as PayrollState
use Rattle.payroll_stream.specs.Stream.{progress_row}
use Rattle.payroll_stream.specs.Feeding.{answer_of as feeding_answer}
use Rattle.payroll_stream.proofs.ProgressRows.{same_progress, is_answered}
use Rattle.demands.proofs.DaySheets.{sheet_there_and_back, sheet_converted, sheet_of_file}
use Rattle.demands.proofs.Editions.{refused_outright}
use Rattle.demands.proofs.Examples.{hold}
use Rattle.demands.proofs.Feeding.{fed_as_whole, refused_for_good, after_accepted_close, one_past_the_last}
use Rattle.demands.proofs.HiddenDigits.{hidden_digits_reach_nothing, masked_where_hidden}
use Rattle.demands.proofs.HiddenDigitsExample.{twins_that_differ, credits_that_differ}
use Rattle.demands.proofs.InChunks.{as_the_whole, after_the_end_lem}
use Rattle.demands.proofs.KeptAsNumbers.{kept_as_numbers}
use Rattle.demands.proofs.LentBuffers.{refused_leaves_alone}
use Rattle.demands.proofs.MaskTwice.{mask_twice}
use Rattle.demands.proofs.PayrollFeeding.{payroll_fed_as_whole, payroll_refused_for_good, payroll_after_accepted_close}
use Rattle.demands.proofs.RowsOfFile.{rows_of_file}
use Rattle.demands.proofs.RulesKept.{card_rules_kept, payroll_rules_kept}
use Rattle.demands.proofs.SameWay.{same_ways}
use Rattle.demands.proofs.TwinsMade.{twins_made}
use Rattle.demands.proofs.demands_hold.Goals as goal
use Rattle.std.specs.Prelude.{Err, Some}

pub returns : goal.returns
unfolding card_file_row payroll_row progress_row
returns c =
    record {
      record_judged = λ st r going. first_fault_of_record st r ((refusal_told (answer_of st)).1 going);
      edition_first = λ edition bad. refused_outright edition (unknown_fault edition bad);
      file_judged = first_fault_decides;
      state_known = state_known;
      millionth_record = millionth_record;
      sum_of_no_trailer = sum_of_no_trailer;
      payroll_record_judged = λ st r e. PayrollRecord.first_fault_of_record st r ((going_stage st.stage).0 e);
      payroll_file_judged = PayrollFile.first_fault_decides;
      payroll_state_known = PayrollState.state_known;
      payroll_too_large = limits;
      payroll_top = stays_at_top;
      refused_leaves_alone = refused_leaves_alone;
      card_rules_kept = card_rules_kept;
      payroll_rules_kept = payroll_rules_kept;
      sheet_there_and_back = sheet_there_and_back;
      sheet_converted = sheet_converted;
      sheet_of_file = sheet_of_file;
      rows_of_file = rows_of_file;
      one_line_each = one_line;
      fed_as_whole = fed_as_whole;
      refused_for_good = λ st refusal e. refused_for_good st refusal (same_answer (answer_of st) (Some (Err refusal)) e);
      after_accepted_close = λ st e. after_accepted_close st _ (is_accepted_lem (answer_of st) e);
      one_past_the_last = λ edition records e. one_past_the_last edition records _ (is_accepted_lem _ e);
      payroll_fed_as_whole = payroll_fed_as_whole;
      payroll_refused_for_good = λ f refusal e. payroll_refused_for_good f refusal (same_progress (feeding_answer f) (Some (Err refusal)) e);
      payroll_after_accepted_close = λ f e. payroll_after_accepted_close f _ (is_answered (feeding_answer f) e);
      in_chunks = as_the_whole;
      after_the_end_lem = after_the_end_lem;
      kept_as_numbers = kept_as_numbers;
      hidden_digits_reach_nothing = hidden_digits_reach_nothing;
      twins_made = twins_made;
      same_way = same_ways;
      edition_retired = λ edition old. refused_outright edition (retired_fault edition old);
      masked_where_hidden = masked_where_hidden;
      mask_twice = mask_twice;
      twins_that_differ = twins_that_differ;
      credits_that_differ = credits_that_differ;
      examples_hold = hold;
    }
