-- The contracts of the texts that programs say have one answer, and rule wrong ones out: a text that is put is computed, and told apart by its length or by
-- the first byte that differs.
use Prim.Native.Nat.{ℕ}
use mathlib.Core.Path.{◌≡◌, refl}
use mathlib.Core.List.{List}
use lib.ListN.{get_or}
use base.Fml.{Lft}
use Rattle.wording.specs.Put.{over, over_at, Puts}
use Rattle.wording.specs.Number.{digits_within}
use Rattle.wording.specs.Line.{word_of, line_of, refused_line}
use Rattle.program.specs.Reason.{other_reason, reason_of}
use Rattle.card_program.specs.Verdict.{led_line, totals_text, sets_text, accepted_text, adjusted_text}
use Rattle.payroll_program.specs.Verdict.{accepted_text as payroll_text}
use Rattle.day_sheet.specs.Number.{in_base}
use Rattle.sheet_program.specs.Verdict.{digits_line, heading_text, version1_text, version2_text}
use Rattle.answers.specs.Texts.{Texts}
use Rattle.answers.proofs.Observed.{standard_read}
use Rattle.answers.proofs.Told.{equal, told}

one_put : {text before after after' : List ℕ} {at end end' : ℕ} → Puts text before at end after → Puts text before at end' after' → (end ≡ end') × (after ≡ after')
one_put p q = (equal p.ends q.ends, equal p.leaves q.leaves)

pub texts : (κ : Lft) → Texts κ
unfolding over over_at digits_within word_of line_of refused_line other_reason reason_of led_line totals_text sets_text accepted_text adjusted_text payroll_text in_base digits_line heading_text version1_text version2_text
texts κ =
    record {
      text = λ κs a r r' s s' p q. one_put p q;
      text_at_start = (record { ends = refl; leaves = refl }, λ p. told (λ s. get_or s 0 0) refl p.leaves);
      text_past_the_end = (record { ends = refl; leaves = refl }, λ p. told (λ n. n) refl p.ends);
      number = λ κs a r r' s s' p q. one_put p q;
      number_padded = (record { ends = refl; leaves = refl }, λ p. told (λ n. n) refl p.ends);
      number_zero = (record { ends = refl; leaves = refl }, λ p. told (λ n. n) refl p.ends);
      number_from_the_last = (record { ends = refl; leaves = refl }, λ p. told (λ s. get_or s 0 0) refl p.leaves);
      line = λ κs a r r' s s' p q. one_put p q;
      line_no_end = (record { ends = refl; leaves = refl }, λ p. told (λ n. n) refl p.ends);
      line_number_first = (record { ends = refl; leaves = refl }, λ p. told (λ s. get_or s 0 0) refl p.leaves);
      refused = λ κs a r r' s s' p q. one_put p q;
      refused_exchanged = (record { ends = refl; leaves = refl }, λ p. told (λ s. get_or s 17 0) refl p.leaves);
      refused_from_0 = (record { ends = refl; leaves = refl }, λ p. told (λ s. get_or s 8 0) refl p.leaves);
      mistake = λ κs a r r' s s' p q. one_put p q;
      mistake_unwritten = (record { ends = refl; leaves = refl }, λ p. told (λ s. get_or s 4 0) refl p.leaves);
      mistake_reason = (record { ends = refl; leaves = refl }, λ p. told (λ s. get_or s 86 0) refl p.leaves);
      totals = λ κs a r r' s s' p q. one_put p q;
      totals_exchanged = (record { ends = refl; leaves = refl }, λ p. told (λ s. get_or s 15 0) refl p.leaves);
      totals_no_discount = (record { ends = refl; leaves = refl }, λ p. told (λ n. n) refl p.ends);
      totals_led_once = (record { ends = refl; leaves = refl }, λ p. told (λ n. n) refl p.ends);
      sets = λ κs a r r' s s' p q. one_put p q;
      sets_exchanged = (record { ends = refl; leaves = refl }, λ p. told (λ s. get_or s 0 0) refl p.leaves);
      sets_left_out = (record { ends = refl; leaves = refl }, λ p. told (λ n. n) refl p.ends);
      card = λ κs a r r' s s' p q. one_put p q;
      card_exchanged = (record { ends = refl; leaves = refl }, λ p. told (λ s. get_or s 17 0) refl p.leaves);
      card_sets_exchanged = (record { ends = refl; leaves = refl }, λ p. told (λ s. get_or s 44 0) refl p.leaves);
      card_four_lines = (record { ends = refl; leaves = refl }, λ p. told (λ n. n) refl p.ends);
      card_accepted = (record { ends = refl; leaves = refl }, λ p. told (λ n. n) refl p.ends);
      adjusted_exchanged = (record { ends = refl; leaves = refl }, λ p. told (λ s. get_or s 17 0) refl p.leaves);
      adjusted_sales = (record { ends = refl; leaves = refl }, λ p. told (λ n. n) refl p.ends);
      payroll = λ κs a r r' s s' p q. one_put p q;
      payroll_exchanged = (record { ends = refl; leaves = refl }, λ p. told (λ s. get_or s 38 0) refl p.leaves);
      payroll_refused_lem = (record { ends = refl; leaves = refl }, λ p. told (λ s. get_or s 17 0) refl p.leaves);
      sheet = λ κs a r r' s s' p q. one_put p q;
      sheet_movement = (record { ends = refl; leaves = refl }, λ p. told (λ n. n) refl p.ends);
      sheet_day_first = (record { ends = refl; leaves = refl }, λ p. told (λ s. get_or s 16 0) refl p.leaves);
      sheet_settled_first = (record { ends = refl; leaves = refl }, λ p. told (λ s. get_or s 68 0) refl p.leaves);
      sheet_no_version = (record { ends = refl; leaves = refl }, λ p. told (λ n. n) refl p.ends);
      sheet_no_split = (record { ends = refl; leaves = refl }, λ p. told (λ n. n) refl p.ends);
      sheet_added = (record { ends = refl; leaves = refl }, λ p. told (λ n. n) refl p.ends);
      card_to = λ κs a r r' s s' p q. equal p q;
      card_to_error = (refl, told standard_read refl);
      card_to_output = (refl, told standard_read refl);
      payroll_to = λ κs a r r' s s' p q. equal p q;
      payroll_to_error = (refl, told standard_read refl);
      payroll_to_output = (refl, told standard_read refl);
      sheet_to = λ κs a r r' s s' p q. equal p q;
      sheet_to_error = (refl, told standard_read refl);
      sheet_to_output = (refl, told standard_read refl);
    }
