-- L9, 28 bytes: "the tables printed in sections 2.8 and 2.9 of document 003; the last printed position is the width" (docs/READINGS.md).
use Rattle.std.specs.Prelude.{ℕ, List, [], ◌∷◌}
use Rattle.card_content.specs.declared.content.Content.TheVariants.{Digits}
use Rattle.card_content.specs.declared.field.Field.{Field}
use Rattle.card_content.specs.Field.{field, number_in}
use Rattle.card_frame.specs.declared.l9.L9.{L9}

-- count of the batch's sales and adjustments 3-8, their sum 9-22, NSEQ 23-28
abbrev pub l9_table : List Field
l9_table = field 3 8 Digits ∷ field 9 22 Digits ∷ field 23 28 Digits ∷ []

abbrev pub l9_of : List ℕ → L9
l9_of r = record { count = number_in (field 3 8 Digits) r; sum = number_in (field 9 22 Digits) r; nseq = number_in (field 23 28 Digits) r }
