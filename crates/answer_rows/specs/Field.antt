-- What the field question answers, as five numbers: the refusal, and of "the part of the record that is that field" the place in the record, from 0, and the length.
use Rattle.std.specs.Prelude.{ℕ, List, [], ◌∷◌, ◌++◌, length}
use Rattle.sale_field.specs.Field.{refusal_of, field_row, place_of_field, field_of}
use Rattle.answer_rows.specs.Row.{refusal_as_list}

abbrev pub field_numbers : List ℕ → ℕ → List ℕ
field_numbers r n = refusal_as_list (field_row (refusal_of r n)) ++ (place_of_field r n ∷ length (field_of r n) ∷ [])
