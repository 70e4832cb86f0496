-- L0, 18 bytes.
use Rattle.std.specs.Prelude.{ℕ, List, [], ◌∷◌}
use Rattle.card_content.specs.declared.content.ClosedSet.TheVariants.{Currency}
use Rattle.card_content.specs.declared.content.Content.TheVariants.{Digits, Day, OneOf}
use Rattle.card_content.specs.declared.field.Field.{Field}
use Rattle.card_content.specs.Field.{field, number_in}
use Rattle.card_frame.specs.declared.l0.L0.{L0}

-- "date 3-10; currency 11-12 ..; NSEQ 13-18"
abbrev pub l0_table : List Field
l0_table = field 3 10 Day ∷ field 11 12 (OneOf Currency) ∷ field 13 18 Digits ∷ []

abbrev pub l0_of : List ℕ → L0
l0_of r = record { nseq = number_in (field 13 18 Digits) r }
