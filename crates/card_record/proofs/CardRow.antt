-- What the laws of cards need of a kind that has a card, one row for each such kind: all of it is computed from the kind's table.
use Prim.Native.Nat.{ℕ, ◌+◌}
use mathlib.Core.Path.{◌≡◌}
use mathlib.Core.Logic.{◌⊎◌}
use mathlib.Core.List.{List, ◌∷◌, ◌++◌}
use mathlib.Core.Bool.{true}
use lib.Dec.{leb}
use Rattle.pan.specs.CardField.{well_formed}
use Rattle.card_content.specs.declared.content.Content.TheVariants.{Text}
use Rattle.card_content.specs.declared.field.Field.{Field}
use Rattle.card_content.specs.EqualOutside.{EqualOutside}
use Rattle.card_content.specs.Field.{field, field_rules}
use Rattle.card_content.proofs.FieldParts.{clear, all_clear}
use Rattle.card_record.specs.declared.kind.Kind.{Kind}
use Rattle.card_record.specs.CardPart.{card_from}
use Rattle.card_record.specs.Reading.{width_of, table_of, right_reading}

-- two cards that reading does not tell apart: both are well formed, or they are equal (a card that is not well formed may still be allowed, as blanks are)
abbrev pub AlikeCards : List ℕ → List ℕ → Type 0
AlikeCards p q = ((well_formed p ≡ true) × (well_formed q ≡ true)) ⊎ (p ≡ q)

-- a kind whose card begins at a place
pub record CardRow (kind : Kind) (from : ℕ) : Type 0 where
  -- the card stands behind the kind's two bytes, and a byte at least stands behind the card
  pub kind_clear : clear from (from + 19) (field 1 2 Text) ≡ true
  pub inside : leb (from + 20) (width_of kind) ≡ true
  -- the kind's table has the card's field, and all other fields keep clear of the card
  pub card : Field
  pub before : List Field
  pub behind : List Field
  pub table : table_of kind ≡ before ++ (card ∷ behind)
  pub before_clear : all_clear from (from + 19) before ≡ true
  pub behind_clear : all_clear from (from + 19) behind ≡ true
  -- the card's field has the same rules in two records whose cards are alike
  pub same_card : (edition : ℕ) (r s : List ℕ) → AlikeCards (card_from from r) (card_from from s) → field_rules edition r card ≡ field_rules edition s card
  -- the kind's numbers are the same in two records that are equal outside the card
  pub same_numbers : (r s : List ℕ) → EqualOutside from (from + 19) r s → right_reading kind r ≡ right_reading kind s
