-- A0, 75 bytes.
use Rattle.std.specs.Prelude.{ℕ, List, [], ◌∷◌}
use Rattle.text.specs.Literal.{ascii, same_bytes}
use Rattle.card_content.specs.declared.content.ClosedSet.TheVariants.{Version, Processing}
use Rattle.card_content.specs.declared.content.Content.TheVariants.{Digits, Text, Day, Time, OneOf}
use Rattle.card_content.specs.declared.field.Field.{Field}
use Rattle.card_content.specs.Field.{field, part_of, number_in}
use Rattle.card_frame.specs.declared.a0.A0.{A0}

-- "version 3-8 .. date 9-16; time 17-22; movement 23-28 N; name 29-58 AN; sender 59-62 N; receiver 63-68 N; processing 69 .. NSEQ 70-75"
abbrev pub a0_table : List Field
a0_table =
    field 3 8 (OneOf Version) ∷
    field 9 16 Day ∷
    field 17 22 Time ∷
    field 23 28 Digits ∷
    field 29 58 Text ∷
    field 59 62 Digits ∷
    field 63 68 Digits ∷
    field 69 69 (OneOf Processing) ∷
    field 70 75 Digits ∷ []

abbrev pub a0_of : List ℕ → A0
a0_of r =
    record {
      date = number_in (field 9 16 Day) r;
      movement = number_in (field 23 28 Digits) r;
      reprocessed = same_bytes (part_of (field 69 69 (OneOf Processing)) r) (ascii "R");
      nseq = number_in (field 70 75 Digits) r;
    }
