-- The CSV of a file has a line for each adjustment, and the header line: no text of a record breaks a line.
use Prim.Native.Nat.{ℕ, suc}
use mathlib.Core.Path.{◌≡◌, refl, sym, ◌∙◌, ap}
use mathlib.Core.List.{List, [], ◌∷◌, ◌++◌, append_assoc}
use mathlib.Core.Bool.{Bool, true, false, cond}
use lib.ListN.{length}
use Rattle.text.proofs.Alphabets.{both_left, both_right}
use Rattle.totals.specs.Sum.{capped}
use Rattle.lines.specs.Lines.{Lines, lf, cut, no_lf, all_no_lf, ends_in_cr, without_last}
use Rattle.lines.proofs.Cuts.{first_piece, with_cr_clear, cut_is_cut}
use Rattle.lines.proofs.Ends.{record_and_cr}
use Rattle.adjustment_rows.specs.Row.{header, row_of}
use Rattle.adjustment_rows.specs.Rows.{is_adjustment, has_row, row_in, rows_of, csv_of}
use Rattle.adjustment_rows.proofs.Clear.{IsLine, row_is_line}

-- how many pieces are adjustments
unfoldable pub adjustments_in : List (List ℕ) → ℕ
adjustments_in [] = 0
adjustments_in (p ∷ ps) = cond (has_row p) (suc (adjustments_in ps)) (adjustments_in ps)

-- so many lines, each with its LF, and nothing behind them
pub record HasLines (n : ℕ) (s : List ℕ) : Type 0 where
  pub count : length (cut s).pieces ≡ n
  pub nothing_behind : (cut s).rest ≡ []

one_more : {s t : List ℕ} {n : ℕ} → IsLine s → HasLines n t → HasLines (suc n) (s ++ t)
one_more {s} {t} l w =
    let e = ap (λ (u : List ℕ). cut (u ++ t)) l.ends ∙ ap cut (append_assoc l.line (lf ∷ []) t) ∙ first_piece l.line t l.clear in
    record { count = ap (λ (ls : Lines). length ls.pieces) e ∙ ap suc w.count; nothing_behind = ap (λ (ls : Lines). ls.rest) e ∙ w.nothing_behind }

-- a piece that is an adjustment makes one
piece_line : (number : ℕ) (p : List ℕ) → no_lf p ≡ true → has_row p ≡ true → IsLine (row_of number (without_last p))
piece_line number p h has =
    let r = without_last p in
    row_is_line number r (sym (with_cr_clear r) ∙ ap no_lf (sym (record_and_cr p (both_left (ends_in_cr p) (is_adjustment r) has))) ∙ h)

rows_counted : (number : ℕ) (ps : List (List ℕ)) → all_no_lf ps ≡ true → HasLines (adjustments_in ps) (rows_of number ps)
unfolding cut all_no_lf row_in rows_of adjustments_in
rows_counted number [] h = record { count = refl; nothing_behind = refl }
rows_counted number (p ∷ ps) h =
    by (has_row p) (piece_line number p (both_left (no_lf p) (all_no_lf ps) h)) (rows_counted (capped number 1) ps (both_right (no_lf p) (all_no_lf ps) h))
  where
    by : (has : Bool) {t : List ℕ} {n : ℕ} → (has ≡ true → IsLine (row_of number (without_last p))) → HasLines n t →
        HasLines (cond has (suc n) n) (cond has (row_of number (without_last p)) [] ++ t)
    by true line w = one_more (line refl) w
    by false line w = w

header_line : IsLine header
unfolding no_lf without_last
header_line = record { line = without_last header; clear = refl; ends = refl }

pub as_many_lines : (file : List ℕ) → HasLines (suc (adjustments_in (cut file).pieces)) (csv_of file)
as_many_lines file = one_more header_line (rows_counted 1 (cut file).pieces (cut_is_cut file).pieces_clear)
