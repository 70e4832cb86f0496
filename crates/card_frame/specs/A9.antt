-- A9, 14 bytes: "the tables printed in sections 2.8 and 2.9 of document 003; the last printed position is the width" (docs/READINGS.md).
use Rattle.std.specs.Prelude.{ℕ, List, [], ◌∷◌}
use Rattle.card_content.specs.declared.content.Content.TheVariants.{Digits}
use Rattle.card_content.specs.declared.field.Field.{Field}
use Rattle.card_content.specs.Field.{field, number_in}
use Rattle.card_frame.specs.declared.a9.A9.{A9}

-- count of the file's records 3-8, NSEQ 9-14
abbrev pub a9_table : List Field
a9_table = field 3 8 Digits ∷ field 9 14 Digits ∷ []

abbrev pub a9_of : List ℕ → A9
a9_of r = record { count = number_in (field 3 8 Digits) r; nseq = number_in (field 9 14 Digits) r }
