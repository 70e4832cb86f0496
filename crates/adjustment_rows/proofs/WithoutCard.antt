-- No byte of a record's card, at positions 163 to 181, reaches a row: two records that are equal outside these have the same row.
use Prim.Native.Nat.{ℕ}
use mathlib.Core.Path.{◌≡◌, refl}
use mathlib.Core.List.{List}
use mathlib.Core.Bool.{true}
use Rattle.card_content.specs.declared.content.ClosedSet.TheVariants.{AdjustmentType}
use Rattle.card_content.specs.declared.content.Content.TheVariants.{Digits, Text, Day, DayOrZeros, OneOf}
use Rattle.card_content.specs.declared.field.Field.{Field}
use Rattle.card_content.specs.EqualOutside.{EqualOutside}
use Rattle.card_content.specs.Field.{field, part_of}
use Rattle.card_content.proofs.FieldParts.{clear, same_part}
use Rattle.adjustment_rows.specs.Row.{row_of}

pub no_card_lem : (number : ℕ) (r s : List ℕ) → EqualOutside 162 181 r s → row_of number r ≡ row_of number s
unfolding row_of
no_card_lem number r s same =
    let part : (f : Field) → clear 162 181 f ≡ true → part_of f r ≡ part_of f s = same_part 162 181 r s same in
    rw (
      part (field 3 17 Text) refl,
      part (field 30 37 DayOrZeros) refl,
      part (field 52 59 Day) refl,
      part (field 76 76 (OneOf AdjustmentType)) refl,
      part (field 77 79 Digits) refl,
      part (field 80 109 Text) refl,
      part (field 110 120 Digits) refl,
      part (field 121 131 Digits) refl,
      part (field 132 142 Digits) refl,
    )
