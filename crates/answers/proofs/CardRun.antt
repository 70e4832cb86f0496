-- The contracts of the running state of a card file are held to one answer, and rule wrong ones out, by computation.
use mathlib.Core.Path.{refl}
use Rattle.refusal.specs.Rules.{first_broken}
use Rattle.card_run.specs.Answer.{answer_at}
use Rattle.card_run.specs.Running.{late_at, closed_at}
use Rattle.answers.proofs.Observed.{stage_read, refused_record, answer_read}
use Rattle.answers.specs.CardRun.{CardRun}
use Rattle.answers.proofs.Told.{equal, told, bit}

pub card_run : CardRun
unfolding first_broken answer_at late_at closed_at
card_run =
    record {
      opens = λ κs a r r' s s' p q. equal p q;
      open_258 = (refl, told (λ st. stage_read st.stage) refl);
      open_1 = (refl, told (λ st. stage_read st.stage) refl);
      open_unknown = (refl, told (λ st. stage_read st.stage) refl);
      open_3 = (refl, told (λ st. stage_read st.stage) refl);
      refuses = λ κs a r r' s s' p q. equal p q;
      refused_before = (refl, told (λ st. refused_record st.stage) refl);
      refused_forgotten = (refl, told (λ st. stage_read st.stage) refl);
      next_number_lem = λ κs a r r' s s' p q. equal p q;
      next_number_last = (refl, told (λ n. n) refl);
      next_number_wraps = (refl, told (λ n. n) refl);
      moved = λ κs a r r' s s' p q. equal p q;
      moved_stage = (refl, told (λ st. stage_read st.stage) refl);
      moved_numbers = (refl, told (λ st. st.numbers.records) refl);
      moved_batch = (refl, told (λ st. st.batch.transactions) refl);
      late = λ κs a r r' s s' p q. equal p q;
      late_behind_a9 = (refl, told (λ st. stage_read st.stage) refl);
      late_refused = (refl, told (λ st. stage_read st.stage) refl);
      no_adjustment_lem = λ κs a r r' s s' p q. equal p q;
      no_adjustment_one = (refl, told (λ a. a.count) refl);
      no_adjustment_net = (refl, told (λ a. a.net) refl);
      one_more = λ κs a r r' s s' p q. equal p q;
      one_more_forgotten = (refl, told (λ a. a.net) refl);
      one_more_wraps = (refl, told (λ a. a.count) refl);
      no_transaction_lem = λ κs a r r' s s' p q. equal p q;
      no_transaction_one = (refl, told (λ b. b.transactions) refl);
      no_transaction_sum = (refl, told (λ b. b.added) refl);
      with_added = λ κs a r r' s s' p q. equal p q;
      with_added_forgotten = (refl, told (λ b. b.added) refl);
      with_added_wraps = (refl, told (λ b. b.transactions) refl);
      with_taken = λ κs a r r' s s' p q. equal p q;
      with_taken_added = (refl, told (λ b. b.added) refl);
      with_taken_cut_off = (refl, told (λ b. b.added) refl);
      sums_to_lem = λ κs a r r' s s' p q. equal p q;
      sums_to_absolute = (refl, told bit refl);
      sums_to_zero = (refl, told bit refl);
      sums_to_added = (refl, told bit refl);
      close = λ κs a r r' s s' p q. equal p q;
      close_in_batch = (refl, told (λ st. stage_read st.stage) refl);
      close_again = (refl, told (λ st. stage_read st.stage) refl);
      answer = λ κs a r r' s s' p q. equal p q;
      answer_early = (refl, told answer_read refl);
      answer_sales = (refl, told answer_read refl);
      answer_refused = (refl, told answer_read refl);
      answer_forecast = (refl, told answer_read refl);
      is_open = λ κs a r r' s s' p q. equal p q;
      is_open_ended = (refl, told bit refl);
      is_open_start = (refl, told bit refl);
      allows = λ κs a r r' s s' p q. equal p q;
      allows_adjustment = (refl, told bit refl);
      allows_no_adjustment = (refl, told bit refl);
      allows_sale = (refl, told bit refl);
      allows_trailer = (refl, told bit refl);
      allows_header = (refl, told bit refl);
    }
