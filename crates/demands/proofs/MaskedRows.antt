-- A masked piece has the piece's row: an adjustment is one still, and no byte of its card stands in the row.
use Prim.Native.Nat.{ℕ}
use mathlib.Core.Path.{◌≡◌, refl, sym, ◌∙◌, ap, ap₂}
use mathlib.Core.List.{List, [], ◌∷◌, ◌++◌, map}
use mathlib.Core.Bool.{Bool, true, cond, ◌&&◌}
use lib.ListN.{length}
use lib.Dec.{eqb}
use borrow.Author.Tests.{eqb-true}
use Rattle.text.specs.Literal.{ascii, same_bytes}
use Rattle.text.specs.Part.{positions}
use Rattle.text.proofs.Literals.{same_equal}
use Rattle.text.proofs.Alphabets.{both_left, both_right}
use Rattle.totals.specs.Sum.{capped}
use Rattle.pan.proofs.Tests.{by_test}
use Rattle.lines.specs.Lines.{Lines, cr, cut, ends_in_cr, without_last}
use Rattle.lines.proofs.Cuts.{cut_is_cut}
use Rattle.lines.proofs.Ends.{cr_ends, before_last}
use Rattle.card_content.specs.declared.content.Content.TheVariants.{Text}
use Rattle.card_content.specs.Field.{field}
use Rattle.card_record.specs.declared.kind.Kind.TheVariants.{Aj}
use Rattle.card_record.specs.CardPart.{card_part}
use Rattle.card_record.specs.Kind.{kind_named}
use Rattle.card_record.proofs.CardParts.{card_if, kind_clear}
use Rattle.card_mask.specs.Masked.{masked_at, masked_record, masked_piece, masked_file}
use Rattle.card_mask.proofs.Pieces.{no_record, record_length}
use Rattle.card_mask.proofs.MaskedCard.{masked_card}
use Rattle.card_mask.proofs.Again.{cut_masked}
use Rattle.adjustment_rows.specs.Row.{row_of}
use Rattle.adjustment_rows.specs.Rows.{is_adjustment, row_in, rows_of}
use Rattle.adjustment_rows.proofs.WithoutCard.{no_card_lem}
use Rattle.demands.proofs.MaskedRecords.{same_part}
use Rattle.std.specs.Prelude.{Some}

-- an adjustment has its card where its kind has it
card_there : (r : List ℕ) → is_adjustment r ≡ true → card_part r ≡ Some 162
unfolding kind_named same_bytes
card_there r a =
    let named : Bool = same_bytes (positions 1 2 r) (ascii "AJ") in
    let wide : Bool = eqb (length r) 193 in
    card_if Aj r (ap kind_named (same_equal (positions 1 2 r) (ascii "AJ") (both_left named wide a))) (eqb-true (length r) 193 (both_right named wide a))

-- masked it is one still
same_kind : (r : List ℕ) → is_adjustment (masked_record r) ≡ is_adjustment r
same_kind r =
    ap₂ (λ (name : List ℕ) (n : ℕ). same_bytes name (ascii "AJ") && eqb n 193) (same_part r (field 1 2 Text) (kind_clear r)) (record_length r)

-- with the same row
same_row : (number : ℕ) (r : List ℕ) → is_adjustment r ≡ true → row_of number (masked_record r) ≡ row_of number r
same_row number r a =
    let there = card_there r a in
    ap (λ part. row_of number (masked_at part r)) there ∙ sym (no_card_lem number r (masked_at (Some 162) r) (masked_card 162 r there).outside)

-- of a record, and of a piece
row_or_none : (number : ℕ) (r : List ℕ) →
    cond (is_adjustment (masked_record r)) (row_of number (masked_record r)) [] ≡ cond (is_adjustment r) (row_of number r) []
row_or_none number r = by_test (is_adjustment r) (λ e. rw (same_kind r, e) (same_row number r e)) (λ e. rw (same_kind r, e))

same_row_in : (number : ℕ) (p : List ℕ) → row_in number (masked_piece p) ≡ row_in number p
unfolding row_in
same_row_in number p =
    by_test (ends_in_cr p)
    (λ e. let m = masked_record (without_last p) in rw (e, cr_ends m, before_last m cr) (row_or_none number (without_last p)))
    (λ e. ap (row_in number) (sym (no_record p e)))

-- so of pieces, and of a file
pub same_rows : (number : ℕ) (ps : List (List ℕ)) → rows_of number (map masked_piece ps) ≡ rows_of number ps
unfolding rows_of
same_rows number [] = refl
same_rows number (p ∷ ps) = ap₂ ◌++◌ (same_row_in number p) (same_rows (capped number 1) ps)

pub same_rows_of_file : (number : ℕ) (file : List ℕ) → rows_of number (cut (masked_file file)).pieces ≡ rows_of number (cut file).pieces
same_rows_of_file number file =
    ap (λ (ls : Lines). rows_of number ls.pieces) (cut_masked file (cut file).rest (cut_is_cut file).rest_clear) ∙ same_rows number (cut file).pieces
