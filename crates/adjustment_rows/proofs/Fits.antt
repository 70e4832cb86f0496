-- The rows of some bytes are at most twice as long: so an output twice as long as the bytes has room for all of them.
use Prim.Native.Nat.{ℕ, ◌+◌, ◌-◌, ◌*◌, ◌/◌, ◌≤◌}
use mathlib.Core.Path.{◌≡◌, refl, ◌∙◌, ap}
use mathlib.Core.List.{List, [], ◌∷◌}
use mathlib.Core.Bool.{Bool, true, false, cond}
use native.Mathlib.Omega.{arith}
use lib.ListN.{length, take, length-append, length-take, length-drop}
use lib.Dec.{eqb}
use borrow.Author.Tests.{eqb-true}
use Rattle.text.specs.Literal.{ascii, same_bytes}
use Rattle.text.specs.Part.{positions}
use Rattle.text.proofs.Alphabets.{both_left, both_right}
use Rattle.totals.specs.Sum.{capped}
use Rattle.lines.specs.Lines.{cr, cut, rejoined, ends_in_cr, without_last}
use Rattle.lines.proofs.Ends.{record_and_cr}
use Rattle.lines.proofs.Finished.{finished_within}
use Rattle.wording.proofs.Lengths.{either, digits_short}
use Rattle.wording.proofs.Putting.{whole}
use Rattle.card_content.specs.declared.content.Content.TheVariants.{Digits, Text, Day, DayOrZeros}
use Rattle.card_content.specs.declared.field.Field.{Field}
use Rattle.card_content.specs.Content.{no_day}
use Rattle.card_content.specs.Field.{field, part_of}
use Rattle.card_adjustment.specs.Aj.{aj_amounts, aj_of, is_credit}
use Rattle.adjustment_rows.specs.declared.rows.Rows.{Rows}
use Rattle.adjustment_rows.specs.Fields.{is_marked, doubled, quoted, amount_text, separated}
use Rattle.adjustment_rows.specs.Row.{day_text, type_text, row_of}
use Rattle.adjustment_rows.specs.Rows.{is_adjustment, has_row, row_in, rows_of, PutsRows}

-- each quote twice
doubled_short : (s : List ℕ) → length (doubled s) ≤ 2 * length s
unfolding doubled
doubled_short [] = omega arith
doubled_short (b ∷ s) = either (eqb b 34) _ _ (2 * length (b ∷ s)) (omega (arith, doubled_short s)) (omega (arith, doubled_short s))

-- with two quotes around it, and the mark
quoted_short : (s : List ℕ) → length (quoted s) ≤ 2 * length s + 3
unfolding quoted
quoted_short s =
    simp length-append (omega (arith, either (is_marked s) (ascii "'") [] 1 (omega arith) (omega arith), doubled_short s))

-- at most 20 digits, the point and two digits
amount_short : (n : ℕ) → length (amount_text n) ≤ 23
unfolding amount_text
amount_short n = simp length-append (omega (arith, digits_short 20 (n / 100)))

-- a field's part
part_short : (f : Field) (r : List ℕ) → length (part_of f r) ≤ f.1 - (f.0 - 1)
part_short f r = simp (length-drop, length-take) (omega arith)

day_short : (p : List ℕ) (n : ℕ) → length p ≤ n → length (day_text p) ≤ n
unfolding day_text
day_short p n h = either (same_bytes p no_day) [] p n (omega arith) h

row_short : (number : ℕ) (r : List ℕ) → length (row_of number r) ≤ 220
unfolding row_of separated type_text
row_short number r =
    simp length-append
    (omega (
      arith,
      digits_short 20 number,
      quoted_short (part_of (field 3 17 Text) r),
      part_short (field 3 17 Text) r,
      day_short (part_of (field 30 37 DayOrZeros) r) 8 (part_short (field 30 37 DayOrZeros) r),
      part_short (field 52 59 Day) r,
      either (is_credit (aj_of r)) (ascii "CREDIT") (ascii "DEBIT") 6 (omega arith) (omega arith),
      part_short (field 77 79 Digits) r,
      quoted_short (part_of (field 80 109 Text) r),
      part_short (field 80 109 Text) r,
      amount_short (aj_amounts r).gross,
      amount_short (aj_amounts r).discount,
      amount_short (aj_amounts r).net,
    ))

-- a piece with a row has 193 bytes and a CR, and an LF behind it
with_row : (p : List ℕ) → has_row p ≡ true → length p ≡ 194
with_row p e =
    let r = without_last p in
    let is : is_adjustment r ≡ true = both_right (ends_in_cr p) (is_adjustment r) e in
    let width : length r ≡ 193 = eqb-true (length r) 193 (both_right (same_bytes (positions 1 2 r) (ascii "AJ")) (eqb (length r) 193) is) in
    ap length (record_and_cr p (both_left (ends_in_cr p) (is_adjustment r) e)) ∙ length-append r (cr ∷ []) ∙ omega arith

piece_fits : (number : ℕ) (p : List ℕ) → length (row_in number p) ≤ 2 * (length p + 1)
unfolding row_in
piece_fits number p = by (has_row p) (with_row p)
  where
    by : (has : Bool) → (has ≡ true → length p ≡ 194) → length (cond has (row_of number (without_last p)) []) ≤ 2 * (length p + 1)
    by true wide = omega (arith, row_short number (without_last p), wide refl)
    by false wide = omega arith

pieces_fit : (number : ℕ) (ps : List (List ℕ)) → length (rows_of number ps) ≤ 2 * length (rejoined ps [])
unfolding rows_of rejoined
pieces_fit number [] = omega arith
pieces_fit number (p ∷ ps) =
    simp length-append (omega (arith, piece_fits number p, pieces_fit (capped number 1) ps))

pub rows_fit : (number : ℕ) (bytes : List ℕ) → length (rows_of number (cut bytes).pieces) ≤ 2 * length bytes
rows_fit number bytes = omega (arith, pieces_fit number (cut bytes).pieces, finished_within bytes)

-- so the first bytes of such an output are then the rows
pub all_rows : (number : ℕ) (bytes before : List ℕ) {answer : Rows} {after : List ℕ} → 2 * length bytes ≤ length before → PutsRows number bytes before answer after →
    take answer.size after ≡ rows_of number (cut bytes).pieces
all_rows number bytes before room p = whole (omega (arith, rows_fit number bytes)) p.puts
