-- A STATE KEPT AS NUMBERS: calls by numbers are the calls themselves (state_numbers), so what is known of those is known of them.
use Prim.Native.Nat.{ℕ}
use mathlib.Core.Path.{◌≡◌, refl, sym, ◌∙◌, ap}
use mathlib.Core.List.{List, ◌∷◌, ◌++◌}
use mathlib.Core.Bool.{not}
use lib.ListN.{get_or}
use lib.Dec.{eqb}
use Rattle.card_run.specs.Answer.{CardFileRow, card_file_row, CardAnswer}
use Rattle.card_run.proofs.FileRows.{same_answer}
use Rattle.payroll_run.specs.State.{opened}
use Rattle.payroll_file.specs.Answer.{payroll_row}
use Rattle.payroll_stream.specs.Stream.{PayrollProgress}
use Rattle.payroll_stream.specs.declared.feeding.Feeding.{Feeding}
use Rattle.payroll_stream.specs.Stream.{progress_row}
use Rattle.answer_rows.specs.Card.{card_row_as_list, card_numbers}
use Rattle.answer_rows.specs.Payroll.{payroll_row_as_list, progress_numbers}
use Rattle.state_numbers.specs.CardState.{numbers_from}
use Rattle.state_numbers.specs.PayrollState.{running_numbers, feeding_numbers, feeding_of}
use Rattle.state_numbers.proofs.ThereAndBack.{
  flag_again,
  state_again,
  feeding_again,
  card_again,
  payroll_again,
  card_zeros,
  feeding_zeros,
  card_stream_zeros,
  payroll_stream_zeros,
}
use Rattle.state_numbers.proofs.Calls.{card_fed, payroll_fed_lem, card_taken_lem, payroll_taken_lem, card_answered, payroll_answered, card_ended_lem, payroll_ended_lem}
use Rattle.demands.specs.KeptAsNumbers.{NotOpened, KeptAsNumbers}
use Rattle.demands.proofs.Feeding.{fed_as_whole}
use Rattle.demands.proofs.InChunks.{as_the_whole}
use Rattle.demands.proofs.PayrollFeeding.{payroll_fed_as_whole}

-- the row of a card file that stands in a list; its numbers stand there as in a state, two places further to the front
abbrev row_in : List ℕ → CardFileRow
row_in l =
    record {
      accepted = not (eqb (get_or l 19 0) 0);
      refusal = record { number = get_or l 0 0; record_number = get_or l 1 0; column = get_or l 2 0 };
      numbers = numbers_from (0 ∷ 0 ∷ l);
    }

row_again : (row : CardFileRow) → row_in (card_row_as_list row) ≡ row
row_again row = λ i. record { accepted = flag_again row.accepted i; refusal = row.refusal; numbers = row.numbers }

-- so a list is one row's alone
card_fixed : (a b : CardAnswer) → card_numbers a ≡ card_numbers b → a ≡ b
card_fixed a b e = same_answer a b (sym (row_again (card_file_row a)) ∙ ap row_in e ∙ row_again (card_file_row b))

-- a payroll file's answer is kept, behind a state
payroll_fixed : (p q : PayrollProgress) → progress_numbers p ≡ progress_numbers q → p ≡ q
unfolding feeding_numbers
payroll_fixed p q e = sym (again p) ∙ ap (λ l. (feeding_of (running_numbers opened ++ l)).progress) e ∙ again q
  where
    again : (p : PayrollProgress) → (feeding_of (running_numbers opened ++ progress_numbers p)).progress ≡ p
    again p = ap (λ (f : Feeding). f.progress) (feeding_again (record { state = opened; progress = p }))

not_opened : NotOpened
unfolding card_file_row payroll_row progress_row
not_opened =
    record {
      card = ap card_numbers card_zeros;
      payroll = ap progress_numbers feeding_zeros;
      card_in_chunks_lem = λ waiting bytes. ap card_numbers (card_stream_zeros waiting bytes);
      payroll_in_chunks_lem = λ waiting bytes. ap progress_numbers (payroll_stream_zeros waiting bytes);
    }

-- THE THEOREM
pub kept_as_numbers : KeptAsNumbers
kept_as_numbers =
    record {
      card_there_and_back = state_again;
      payroll_there_and_back = feeding_again;
      card_stream_there_and_back = λ s. card_again (record { in_numbers = refl; waits = refl; is_held = refl });
      payroll_stream_there_and_back = λ s. payroll_again (record { in_numbers = refl; waits = refl; is_held = refl });
      so_far_lem = record { card = card_fed; payroll = payroll_fed_lem; card_in_chunks_lem = card_taken_lem; payroll_in_chunks_lem = payroll_taken_lem };
      card_records = λ edition records clear. ap card_numbers (card_answered edition records) ∙ ap card_row_as_list (fed_as_whole edition records clear).closed;
      payroll_records = λ records left clear clear-left.
          ap progress_numbers (payroll_answered records left) ∙ ap payroll_row_as_list ((payroll_fed_as_whole records clear).closed left clear-left);
      card_chunks = λ edition chunks. ap card_numbers (card_ended_lem edition chunks) ∙ ap card_row_as_list (as_the_whole.card_file_lem edition chunks);
      payroll_chunks = λ chunks. ap progress_numbers (payroll_ended_lem chunks) ∙ ap payroll_row_as_list (as_the_whole.payroll_file_lem chunks);
      not_opened = not_opened;
      rows_fix_answers = record { card = card_fixed; payroll = payroll_fixed };
    }
