-- What the definitions rule out: what a file keeps is what the check accepts, which is computed; the others are computed as they stand.
use mathlib.Core.Path.{refl}
use lib.Dec.{lit<}
use Rattle.refusal.specs.Rules.{first_broken}
use Rattle.text.specs.Alphabet.{allowed, holds_only, first_stray}
use Rattle.text.specs.Number.{value_from}
use Rattle.text.specs.Literal.{same_bytes, has_byte, one_byte_of}
use Rattle.calendar.specs.Month.{days_in}
use Rattle.calendar.specs.Day.{is_day}
use Rattle.calendar.specs.Time.{is_time}
use Rattle.calendar.specs.When.{when_rules}
use Rattle.pan.specs.CardField.{well_formed, leading_zeros}
use Rattle.pan.specs.HiddenPlaces.{hidden_places}
use Rattle.pan.specs.Masked.{star_where}
use Rattle.lines.specs.Lines.{in_front, cut, joined, ends_in_cr, without_last}
use Rattle.card_content.specs.Content.{in_set, day_or_zeros_rules, card_or_blanks_rules, content_rules}
use Rattle.card_content.specs.Field.{table_rules, record_rules}
use Rattle.card_sale.specs.Cv.{joined_rules}
use Rattle.card_adjustment.specs.Aj.{joined_rules as adjustment_rules}
use Rattle.card_record.specs.CardPart.{card_part_found}
use Rattle.card_record.specs.Kind.{kind_named}
use Rattle.card_record.specs.Reading.{right_reading, judged_as, read_found}
use Rattle.card_run.specs.Answer.{answer_at, card_file_row}
use Rattle.card_run.specs.Running.{closed_at, late_at}
use Rattle.card_step.specs.Rules.{joined_at, rules_of}
use Rattle.card_step.specs.Behind.{behind}
use Rattle.card_step.specs.Step.{behind_or_refused, took_at}
use Rattle.card_file.specs.CardFile.{unended_at, lines_of, end_of}
use Rattle.card_kept.proofs.KeptMeansKept.{kept_means_kept}
use Rattle.payroll_record.specs.Field.{number_rules}
use Rattle.payroll_record.specs.Front.{stray_at}
use Rattle.payroll_record.specs.Kind.{segment_named, kind_named as payroll_kind_named}
use Rattle.payroll_record.specs.Reading.{read_as, read_found as payroll_read_found}
use Rattle.payroll_step.specs.Rules.{found_rules, due_rules, rules_of as payroll_run_rules}
use Rattle.payroll_run.specs.Behind.{behind_detail_as, behind as payroll_behind}
use Rattle.payroll_step.specs.Step.{behind_or_refused as payroll_behind_or_refused, took_at as payroll_took_at}
use Rattle.payroll_file.specs.PayrollFile.{
  unended_at as payroll_unended_at,
  lines_of as payroll_lines_of,
  ended_of,
  cut_short_of,
  end_at,
}
use Rattle.payroll_kept.proofs.KeptMeansKept as PayrollLaw
use Rattle.card_run.proofs.FileRows.{is_accepted}
use Rattle.card_mask.specs.Masked.{masked_at}
use Rattle.demands.specs.HiddenDigits.{hidden_at, hidden_in_pieces}
use Rattle.answers.specs.Definitions.{Definitions}
use Rattle.answers.proofs.Told.{told, bit}
use Rattle.answers.proofs.Observed.{payroll_answer_read}

pub definitions : Definitions
unfolding first_broken allowed holds_only first_stray value_from same_bytes has_byte one_byte_of days_in is_day is_time when_rules well_formed leading_zeros hidden_places star_where in_front cut joined ends_in_cr without_last in_set day_or_zeros_rules card_or_blanks_rules content_rules table_rules record_rules joined_rules adjustment_rules card_part_found kind_named right_reading judged_as read_found answer_at card_file_row joined_at rules_of behind behind_or_refused took_at closed_at unended_at lines_of end_of number_rules stray_at segment_named payroll_kind_named read_as payroll_read_found found_rules due_rules payroll_run_rules behind_detail_as payroll_behind payroll_behind_or_refused payroll_took_at payroll_unended_at payroll_lines_of ended_of cut_short_of end_at masked_at hidden_at hidden_in_pieces late_at
definitions =
    record {
      kept_other_card = (kept_means_kept 2 _).0 (record { numbers = _; answer = refl });
      kept_first_instalment = (kept_means_kept 2 _).0 (record { numbers = _; answer = refl });
      kept_disagreeing = λ kept. told (λ a. bit (is_accepted a)) refl ((kept_means_kept 2 _).1 kept).answer;
      kept_by_net = λ kept. told (λ a. bit (is_accepted a)) refl ((kept_means_kept 2 _).1 kept).answer;
      kept_retired = λ kept. told (λ a. bit (is_accepted a)) refl ((kept_means_kept 1 _).1 kept).answer;
      kept_accents = (kept_means_kept 2 _).0 (record { numbers = _; answer = refl });
      kept_159 = λ kept. told (λ a. bit (is_accepted a)) refl ((kept_means_kept 2 _).1 kept).answer;
      kept_adjusted = (kept_means_kept 2 _).0 (record { numbers = _; answer = refl });
      kept_blank_card = (kept_means_kept 2 _).0 (record { numbers = _; answer = refl });
      kept_absolute = λ kept. told (λ a. bit (is_accepted a)) refl ((kept_means_kept 2 _).1 kept).answer;
      kept_zero = λ kept. told (λ a. bit (is_accepted a)) refl ((kept_means_kept 2 _).1 kept).answer;
      forecast_0 = (refl, refl);
      settled_1 = (refl, refl);
      settled_2 = (refl, refl);
      adjustment_in_neither = (refl, refl);
      kept_forecast = (kept_means_kept 2 _).0 (record { numbers = _; answer = refl });
      kept_settled_alone = λ kept. told (λ a. bit (is_accepted a)) refl ((kept_means_kept 2 _).1 kept).answer;
      kept_payroll = (PayrollLaw.kept_means_kept _).0 (record { numbers = _; answer = refl });
      kept_z = λ kept. told payroll_answer_read refl ((PayrollLaw.kept_means_kept _).1 kept).answer;
      kept_payroll_accent = λ kept. told payroll_answer_read refl ((PayrollLaw.kept_means_kept _).1 kept).answer;
      kept_not_itself = λ kept. told payroll_answer_read refl ((PayrollLaw.kept_means_kept _).1 kept).answer;
      hidden_from = (refl, refl);
      hidden_to = (refl, refl);
      twins_open_digit = λ twins. told (λ n. n) refl (twins.same_byte 202 (lit< tt) refl);
      hidden_adjustment_from = (refl, refl);
      hidden_adjustment_to = (refl, refl);
      masked_sale_lem = refl;
      masked_adjustment = refl;
      hidden_in_one = λ same. told bit refl (same 193);
      rules_place_first = refl;
      refused_at_once = refl;
      refused_not_before = refl;
      accepted_not_alone = λ alone. told (λ numbers. numbers.records) refl alone.counts;
    }
