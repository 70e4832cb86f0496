-- "One question takes a lone CV record and a field number and hands back the part of the record that is that field."
use Rattle.std.specs.Prelude.{ℕ, ◌-◌, List, [], ◌∷◌, Bool, cond, not, ◌&&◌, length, get_or, leb, eqb, Result, Ok, Err}
use Rattle.refusal.specs.declared.Cause.TheVariants.{KindUnknown, WrongWidth, FieldNotOffered}
use Rattle.refusal.specs.declared.Refusal.{Refusal}
use Rattle.refusal.specs.Nowhere.{nowhere}
use Rattle.refusal.specs.Row.{RefusalRow, no_refusal, refusal_row}
use Rattle.text.specs.Literal.{ascii, same_bytes}
use Rattle.text.specs.Part.{positions, place_of}
use Rattle.card_content.specs.declared.content.Content.TheVariants.{Text}
use Rattle.card_content.specs.declared.field.Field.{Field}
use Rattle.card_content.specs.Field.{field, part_of}
use Rattle.card_sale.specs.Cv.{cv_table}

-- whether a field is handed back, or why not
abbrev pub FieldAnswer : Type 0
FieldAnswer = Result (Unit {0}) Refusal

-- "14 if the number isn't 1 to 26 or is 13, the card"
abbrev pub offered : ℕ → Bool
offered n = leb 1 n && (leb n 26 && not (eqb n 13))

-- "CV, 199 bytes, fields 1 to 26: kind 1-2", and then the table
abbrev pub cv_fields : List Field
cv_fields = field 1 2 Text ∷ cv_table

abbrev pub numbered : ℕ → Field
numbered n = get_or cv_fields (n - 1) (field 1 0 Text)

-- "It refuses, in order: 4 if it doesn't begin with CV, 6 if it isn't 199 wide (here record 1), 14 .."
unfoldable pub refusal_of : List ℕ → ℕ → FieldAnswer
refusal_of r n =
    cond (same_bytes (positions 1 2 r) (ascii "CV"))
    (cond (eqb (length r) 199)
    (cond (offered n) (Ok tt) (Err (nowhere FieldNotOffered)))
    (Err (record { cause = WrongWidth; «record» = 1; column = 0 })))
    (Err (record { cause = KindUnknown; «record» = 1; column = 1 }))

-- "A refusal hands back an empty part"; "No other field is judged"
unfoldable pub part_as : FieldAnswer → List ℕ → ℕ → List ℕ
part_as (Ok none) r n = part_of (numbered n) r
part_as (Err x) r n = []

abbrev pub field_of : List ℕ → ℕ → List ℕ
field_of r n = part_as (refusal_of r n) r n

-- the place, from 0, at which that part begins; an empty part begins at 0
unfoldable pub place_as : FieldAnswer → List ℕ → ℕ → ℕ
place_as (Ok none) r n = place_of (numbered n).0 (numbered n).1 r
place_as (Err x) r n = 0

abbrev pub place_of_field : List ℕ → ℕ → ℕ
place_of_field r n = place_as (refusal_of r n) r n

-- "a second question gives the number": the paper's row for each answer
unfoldable pub field_row : FieldAnswer → RefusalRow
field_row (Ok none) = no_refusal
field_row (Err x) = refusal_row x
