-- Fields, and the rules of a table of fields.
use Rattle.std.specs.Prelude.{ℕ, List, [], ◌∷◌, ◌++◌, length, eqb}
use Rattle.refusal.specs.declared.Cause.TheVariants.{WrongWidth}
use Rattle.refusal.specs.Rules.{Rule, rule_at}
use Rattle.text.specs.Number.{number_of, plain_number}
use Rattle.card_content.specs.declared.content.Content.{Content}
use Rattle.card_content.specs.declared.field.Field.{Field}
use Rattle.text.specs.Part.{positions}
use Rattle.card_content.specs.Content.{content_rules}

-- the field from a first to a last position with a content
abbrev pub field : ℕ → ℕ → Content → Field
field first last content = record { 0 = first; 1 = last; 2 = content }

-- the part of a record that is a field
abbrev pub part_of : Field → List ℕ → List ℕ
part_of f r = positions f.0 f.1 r

-- the rules of a field of a record; "a field's column is its first position"
abbrev pub field_rules : ℕ → List ℕ → Field → List Rule
field_rules edition r f = content_rules f.2 edition f.0 (part_of f r)

-- the rules of a table's fields, "single fields by position (7 before 8 in each)"
unfoldable pub table_rules : ℕ → List ℕ → List Field → List Rule
table_rules edition r [] = []
table_rules edition r (f ∷ fs) = field_rules edition r f ++ table_rules edition r fs

-- a kind's rules of one record: its width (6, column 0), then its fields
unfoldable pub record_rules : ℕ → List ℕ → ℕ → List Field → List Rule
record_rules edition r width table = rule_at WrongWidth 0 (eqb (length r) width) ∷ table_rules edition r table

-- the number in a field of a record; 0 where its digits write none
abbrev pub number_in : Field → List ℕ → ℕ
number_in f r = plain_number (number_of (part_of f r))
