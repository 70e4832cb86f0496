-- THE LAW OF READING: of a card that is well formed, what a record is read as says only that it is.
-- It goes by the row of the record's kind: the fields but the card's keep clear of the card. A record with no card has nothing to hide, and needs no law.
use Prim.Native.Nat.{ℕ, ◌+◌}
use mathlib.Core.Path.{◌≡◌, sym, ◌∙◌, ap, ap₂}
use mathlib.Core.List.{List, ◌∷◌}
use native.Mathlib.Omega.{arith}
use lib.ListN.{length, length-drop}
use lib.Dec.{eqb}
use borrow.Author.Tests.{leb-true}
use Rattle.refusal.specs.declared.Cause.TheVariants.{WrongWidth}
use Rattle.refusal.specs.Rules.{rule_at, first_broken}
use Rattle.card_content.specs.declared.content.Content.TheVariants.{Text}
use Rattle.card_content.specs.EqualOutside.{EqualOutside}
use Rattle.card_content.specs.Field.{field, table_rules, record_rules}
use Rattle.card_content.proofs.FieldParts.{same_part, same_around}
use Rattle.std.specs.Prelude.{Some}
use Rattle.card_record.specs.declared.kind.Kind.{Kind}
use Rattle.card_record.specs.CardPart.{card_part, card_from}
use Rattle.card_record.specs.Kind.{kind_named, kind_of}
use Rattle.card_record.specs.Reading.{width_of, table_of, kind_rules, judged_as, read_as, read_found, reading_of}
use Rattle.card_record.proofs.CardRow.{CardRow, AlikeCards}
use Rattle.card_record.proofs.CardParts.{has_card, card_if}

-- a record of a kind with a card, and one that is equal to it outside the card
module _ (kind : Kind) (from : ℕ) (row : CardRow kind from) (r s : List ℕ) (same : EqualOutside from (from + 19) r s) where
  same_kind : kind_of r ≡ kind_of s
  same_kind = ap kind_named (same_part from (from + 19) r s same (field 1 2 Text) row.kind_clear)

  module _ (wide : length r ≡ width_of kind) where
    same_length : length r ≡ length s
    same_length =
        omega (
          arith,
          leb-true (from + 20) (width_of kind) row.inside,
          ap length same.behind,
          length-drop (from + 19) r,
          length-drop (from + 19) s,
        )

    module _ (e : ℕ) (alike : AlikeCards (card_from from r) (card_from from s)) where
      same_table : table_rules e r (table_of kind) ≡ table_rules e s (table_of kind)
      same_table =
          ap (table_rules e r) row.table ∙
          same_around from (from + 19) r s same e row.before row.card row.behind row.before_clear row.behind_clear
          (row.same_card e r s alike) ∙
          sym (ap (table_rules e s) row.table)

      same_rules : kind_rules kind e r ≡ kind_rules kind e s
      unfolding record_rules
      same_rules = ap₂ ◌∷◌ (ap (λ (n : ℕ). rule_at WrongWidth 0 (eqb n (width_of kind))) same_length) same_table

      same_reading : read_as kind e r ≡ read_as kind e s
      same_reading = ap₂ (judged_as kind) (ap first_broken same_rules) (row.same_numbers r s same)

-- two records that are equal outside the card of one of them, and whose cards are alike, read the same
pub law_of_reading : (e from : ℕ) (r s : List ℕ) → card_part r ≡ Some from → EqualOutside from (from + 19) r s →
    AlikeCards (card_from from r) (card_from from s) → reading_of e r ≡ reading_of e s
unfolding read_found
law_of_reading e from r s has same alike =
    let is = has_card from r has in
    let known = is.known in
    ap (λ found. read_found found e r) known ∙
    same_reading is.kind from is.row r s same is.wide e alike ∙
    sym (ap (λ found. read_found found e s) (sym (same_kind is.kind from is.row r s same) ∙ known))

-- and the other has its card at the same place
pub same_place : (from : ℕ) (r s : List ℕ) → card_part r ≡ Some from → EqualOutside from (from + 19) r s → card_part s ≡ Some from
same_place from r s has same =
    let is = has_card from r has in
    card_if is.kind s
    (sym (same_kind is.kind from is.row r s same) ∙ is.known)
    (sym (same_length is.kind from is.row r s same is.wide) ∙ is.wide) ∙
    is.begins
