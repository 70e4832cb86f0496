-- The contracts of a card file, step by step, whole and in chunks, are held to one answer, and rule wrong ones out, by computation.
use mathlib.Core.Path.{refl}
use Rattle.refusal.specs.Rules.{first_broken}
use Rattle.text.specs.Alphabet.{allowed, holds_only}
use Rattle.text.specs.Number.{value_from}
use Rattle.text.specs.Literal.{same_bytes, has_byte, one_byte_of}
use Rattle.calendar.specs.Month.{days_in}
use Rattle.calendar.specs.Day.{is_day}
use Rattle.calendar.specs.Time.{is_time}
use Rattle.calendar.specs.When.{when_rules}
use Rattle.pan.specs.CardField.{well_formed}
use Rattle.card_content.specs.Content.{in_set, day_or_zeros_rules, card_or_blanks_rules, content_rules}
use Rattle.card_content.specs.Field.{table_rules, record_rules}
use Rattle.card_sale.specs.Cv.{joined_rules}
use Rattle.card_adjustment.specs.Aj.{joined_rules as adjustment_rules}
use Rattle.card_record.specs.Kind.{kind_named}
use Rattle.card_record.specs.Reading.{right_reading, judged_as, read_found}
use Rattle.card_run.specs.Answer.{answer_at}
use Rattle.card_run.specs.Running.{closed_at, late_at}
use Rattle.card_step.specs.Rules.{joined_at, rules_of}
use Rattle.card_step.specs.Behind.{behind}
use Rattle.card_step.specs.Step.{behind_or_refused, took_at}
use Rattle.card_file.specs.Room.{answer_with_room}
use Rattle.lines.specs.Lines.{in_front, cut, joined, ends_in_cr, without_last}
use Rattle.card_file.specs.CardFile.{unended_at, lines_of, end_of}
use Rattle.chunks.specs.Unfinished.{clipped_with}
use Rattle.chunks.specs.Chunks.{held_before}
use Rattle.card_stream.specs.Stream.{behind_end, with_held}
use Rattle.answers.proofs.Observed.{stage_read, answer_read, forecast_read, credits_read}
use lib.ListN.{get_or}
use base.Fml.{Lft}
use Rattle.answers.specs.CardFile.{CardFile}
use Rattle.answers.proofs.Told.{equal, told}

pub card_file_lem : (κ : Lft) → CardFile κ
unfolding answer_with_room first_broken allowed holds_only value_from same_bytes has_byte one_byte_of days_in is_day is_time when_rules well_formed in_set day_or_zeros_rules card_or_blanks_rules content_rules table_rules record_rules joined_rules adjustment_rules kind_named right_reading judged_as read_found answer_at joined_at rules_of behind behind_or_refused took_at closed_at in_front cut joined ends_in_cr without_last unended_at lines_of end_of clipped_with held_before behind_end with_held late_at
card_file_lem κ =
    record {
      took = λ κs a r r' s s' p q. equal p q;
      took_nodded = (refl, told (λ st. stage_read st.stage) refl);
      took_not_added = (refl, told (λ st. st.numbers.totals.settled.amounts.gross) refl);
      took_behind_a9 = (refl, told (λ st. stage_read st.stage) refl);
      took_settled = (refl, told (λ st. st.numbers.totals.forecast.sales) refl);
      took_neither = (refl, told (λ st. st.numbers.totals.forecast.sales) refl);
      took_both = (refl, told (λ st. st.numbers.totals.settled.sales) refl);
      took_advanced = (refl, told (λ st. st.numbers.totals.settled.sales) refl);
      took_instalment = (refl, told (λ st. st.numbers.totals.forecast.amounts.gross) refl);
      took_not_in_batch = (refl, told (λ st. st.batch.transactions) refl);
      took_gross = (refl, told (λ st. st.batch.added) refl);
      took_as_sale = (refl, told (λ st. st.numbers.totals.settled.sales) refl);
      took_debit_added = (refl, told (λ st. st.batch.added) refl);
      took_below_zero = (refl, told (λ st. stage_read st.stage) refl);
      feed = λ κs a r r' s s' p q. equal p q;
      feed_disagreeing = (refl, told (λ st. stage_read st.stage) refl);
      feed_l9 = (refl, told (λ st. stage_read st.stage) refl);
      feed_refused = (refl, told (λ st. stage_read st.stage) refl);
      feed_both = (refl, told (λ st. stage_read st.stage) refl);
      feed_settled_alone = (refl, told (λ st. stage_read st.stage) refl);
      feed_absolute = (refl, told (λ st. stage_read st.stage) refl);
      feed_difference = (refl, told (λ st. stage_read st.stage) refl);
      take_line = λ κs a r r' s s' p q. equal p q;
      line_without_cr = (refl, told (λ st. stage_read st.stage) refl);
      line_with_cr = (refl, told (λ st. stage_read st.stage) refl);
      no_line_end = λ κs a r r' s s' p q. equal p q;
      no_line_end_behind_a9 = (refl, told (λ st. stage_read st.stage) refl);
      no_line_end_early = (refl, told (λ st. stage_read st.stage) refl);
      end_of = λ κs a r r' s s' p q. equal p q;
      end_passed_over = (refl, told (λ st. stage_read st.stage) refl);
      end_unended = (refl, told (λ st. stage_read st.stage) refl);
      check = λ κs a r r' s s' p q. equal p q;
      check_refused = (refl, told answer_read refl);
      check_count = (refl, told answer_read refl);
      check_one_answer = (refl, told answer_read refl);
      check_forecast = (refl, told answer_read refl);
      check_advanced = (refl, told answer_read refl);
      check_instalment = (refl, told forecast_read refl);
      check_first_record = (refl, told answer_read refl);
      check_258 = (refl, told answer_read refl);
      check_version = (refl, told answer_read refl);
      check_capture = (refl, told answer_read refl);
      check_behind_a9 = (refl, told answer_read refl);
      check_accents = (refl, told answer_read refl);
      check_159 = (refl, told answer_read refl);
      check_adjusted = (refl, told answer_read refl);
      check_credit = (refl, told credits_read refl);
      check_before_l0 = (refl, told answer_read refl);
      with_room = λ κs a r r' s s' p q. equal p q;
      with_room_edition = (refl, told answer_read refl);
      with_room_retired = (refl, told answer_read refl);
      with_room_first = (refl, told answer_read refl);
      with_room_exact = (refl, told answer_read refl);
      stream_open_lem = λ κs a r r' s s' p q. equal p q;
      stream_open_3 = (refl, told (λ s. stage_read s.state.stage) refl);
      stream_open_1 = (refl, told (λ s. stage_read s.state.stage) refl);
      stream_open_byte = (refl, told (λ s. s.held.length) refl);
      stream_take = λ κs a r r' s s' p q. equal p q;
      stream_take_half = (refl, told (λ s. stage_read s.state.stage) refl);
      stream_take_lost = (refl, told (λ s. s.held.length) refl);
      stream_end = λ κs a r r' s s' p q. equal p q;
      stream_end_held = (refl, told (λ s. stage_read s.state.stage) refl);
      stream_end_early = (refl, told (λ s. stage_read s.state.stage) refl);
      stream_answer = λ κs a r r' s s' p q. equal p q;
      stream_answer_early = (refl, told answer_read refl);
      stream_answer_behind = (refl, told answer_read refl);
      unfinished_none = λ κs a r r' s s' p q. equal p q;
      unfinished_none_byte = (refl, told (λ u. u.length) refl);
      unfinished_none_whole = (refl, told (λ u. u.length) refl);
      unfinished_size = λ κs a r r' s s' p q. equal p q;
      unfinished_size_buffer = (refl, told (λ n. n) refl);
      unfinished_size_past = (refl, told (λ n. n) refl);
      followed_by = λ κs a r r' s s' p q. equal p q;
      followed_forgotten = (refl, told (λ u. u.length) refl);
      followed_last_lost = (refl, told (λ u. get_or u.bytes 241 0) refl);
    }
