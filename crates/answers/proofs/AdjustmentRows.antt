-- The contracts of the rows of adjustments have one answer, and rule wrong ones out: what is put is computed, and told apart by its length or by a byte that differs.
use mathlib.Core.Path.{refl}
use lib.ListN.{get_or}
use base.Fml.{Lft}
use Rattle.text.specs.Alphabet.{allowed, holds_only}
use Rattle.text.specs.Number.{value_from}
use Rattle.text.specs.Literal.{same_bytes, has_byte, one_byte_of}
use Rattle.lines.specs.Lines.{in_front, cut, rejoined, ends_in_cr, without_last}
use Rattle.wording.specs.Put.{over, over_at}
use Rattle.wording.specs.Number.{digits_within}
use Rattle.adjustment_rows.specs.Fields.{doubled, quoted, amount_text, separated}
use Rattle.adjustment_rows.specs.Row.{day_text, type_text, row_of}
use Rattle.adjustment_rows.specs.Rows.{row_in, rows_of}
use Rattle.answers.specs.AdjustmentRows.{AdjustmentRows}
use Rattle.answers.proofs.Told.{equal, told}

pub adjustment_rows : (κ : Lft) → AdjustmentRows κ
unfolding allowed holds_only value_from same_bytes has_byte one_byte_of in_front cut rejoined ends_in_cr without_last over over_at digits_within doubled quoted amount_text separated day_text type_text row_of row_in rows_of
adjustment_rows κ =
    record {
      header = λ κs a r r' s s' p q. (equal p.ends q.ends, equal p.leaves q.leaves);
      header_separators = (record { ends = refl; leaves = refl }, λ p. told (λ s. get_or s 6 0) refl p.leaves);
      header_no_end = (record { ends = refl; leaves = refl }, λ p. told (λ n. n) refl p.ends);
      rows = λ κs a r r' s s' p q.
          let lines = equal p.counts q.counts in
          let size = equal p.puts.ends q.puts.ends in
          (λ i. record { lines = lines i; size = size i }, equal p.puts.leaves q.puts.leaves);
      rows_unfinished = (record { counts = refl; puts = record { ends = refl; leaves = refl } }, λ p. told (λ n. n) refl p.counts);
      rows_sale = (record { counts = refl; puts = record { ends = refl; leaves = refl } }, λ p. told (λ n. n) refl p.puts.ends);
      rows_no_cr = (record { counts = refl; puts = record { ends = refl; leaves = refl } }, λ p. told (λ n. n) refl p.puts.ends);
      rows_debit = (record { counts = refl; puts = record { ends = refl; leaves = refl } }, λ p. told (λ n. n) refl p.puts.ends);
      rows_number = (record { counts = refl; puts = record { ends = refl; leaves = refl } }, λ p. told (λ s. get_or s 0 0) refl p.puts.leaves);
      rows_quote = (record { counts = refl; puts = record { ends = refl; leaves = refl } }, λ p. told (λ n. n) refl p.puts.ends);
      rows_computed = (record { counts = refl; puts = record { ends = refl; leaves = refl } }, λ p. told (λ n. n) refl p.puts.ends);
      rows_blanks = (record { counts = refl; puts = record { ends = refl; leaves = refl } }, λ p. told (λ n. n) refl p.puts.ends);
      rows_no_day = (record { counts = refl; puts = record { ends = refl; leaves = refl } }, λ p. told (λ n. n) refl p.puts.ends);
      rows_centavos = (record { counts = refl; puts = record { ends = refl; leaves = refl } }, λ p. told (λ n. n) refl p.puts.ends);
      rows_past_the_end = (record { counts = refl; puts = record { ends = refl; leaves = refl } }, λ p. told (λ n. n) refl p.puts.ends);
    }
