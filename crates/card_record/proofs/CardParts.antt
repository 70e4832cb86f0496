-- Where a record has a card: its kind has one, and it is as wide as its kind. What is said here holds of every kind.
use Prim.Native.Nat.{ℕ, ◌+◌, ◌≤◌}
use mathlib.Core.Path.{◌≡◌, refl, ◌∙◌, ap}
use mathlib.Core.List.{List}
use mathlib.Core.Bool.{Bool, true, false, cond}
use native.Mathlib.Omega.{arith}
use Rattle.std.specs.Prelude.{Option, Some, None}
use lib.ListN.{length}
use lib.Dec.{eqb}
use borrow.Author.Tests.{eq-eqb, eqb-true, leb-true}
use Rattle.pan.proofs.Tests.{by_test}
use Rattle.card_content.specs.declared.content.Content.TheVariants.{Text}
use Rattle.card_content.specs.declared.field.Field.{Field}
use Rattle.card_content.specs.Field.{field}
use Rattle.card_content.proofs.FieldParts.{clear}
use Rattle.card_record.specs.declared.kind.Kind.{Kind}
use Rattle.card_record.specs.CardPart.{card_part_found, card_part}
use Rattle.card_record.specs.Kind.{kind_of}
use Rattle.card_record.specs.Reading.{width_of, card_of}
use Rattle.card_record.proofs.CardRow.{CardRow}
use Rattle.card_record.proofs.CardRows.{card_row, nowhere}

-- a record with a card
pub record HasCard (from : ℕ) (r : List ℕ) : Type 0 where
  pub kind : Kind
  pub known : kind_of r ≡ Some kind
  pub wide : length r ≡ width_of kind
  pub begins : card_of kind ≡ Some from
  pub row : CardRow kind from

where_wide : (wide : Bool) (part : Option ℕ) {from : ℕ} → cond wide part None ≡ Some from → (wide ≡ true) × (part ≡ Some from)
where_wide true part e = (refl, e)
where_wide false part e = absurd (nowhere e)

where_found : (from : ℕ) (r : List ℕ) (found : Option Kind) → kind_of r ≡ found → card_part_found r found ≡ Some from → HasCard from r
unfolding card_part_found
where_found from r (Some kind) k e =
    let is = where_wide (eqb (length r) (width_of kind)) (card_of kind) e in
    record { kind = kind; known = k; wide = eqb-true (length r) (width_of kind) is.0; begins = is.1; row = card_row kind is.1 }
where_found from r None k e = absurd (nowhere e)

pub has_card : (from : ℕ) (r : List ℕ) → card_part r ≡ Some from → HasCard from r
has_card from r e = where_found from r (kind_of r) refl e

-- a record that is as wide as its kind has its kind's card
pub card_if : (kind : Kind) (r : List ℕ) → kind_of r ≡ Some kind → length r ≡ width_of kind → card_part r ≡ card_of kind
unfolding card_part_found
card_if kind r k w = ap (card_part_found r) k ∙ rw (eq-eqb (length r) (width_of kind) w)

-- a record of a kind with no card has none
pub no_card_lem : (kind : Kind) (r : List ℕ) → kind_of r ≡ Some kind → card_of kind ≡ None → card_part r ≡ None
unfolding card_part_found
no_card_lem kind r k none =
    ap (card_part_found r) k ∙ by_test (eqb (length r) (width_of kind)) (λ wide. rw (wide, none)) (λ other. rw other)

-- the card lies in the record
pub card_inside : (from : ℕ) (r : List ℕ) → card_part r ≡ Some from → from + 19 ≤ length r
card_inside from r e =
    let has = has_card from r e in
    let ends = leb-true (from + 20) (width_of has.kind) has.row.inside in
    omega (arith, has.wide)

-- a field keeps clear of a card, if there is one
abbrev pub clear_of : Option ℕ → Field → Bool
clear_of None f = true
clear_of (Some k) f = clear k (k + 19) f

-- the kind's two bytes do, in every record
pub kind_clear : (r : List ℕ) → clear_of (card_part r) (field 1 2 Text) ≡ true
kind_clear r = by (card_part r) refl
  where
    by : (part : Option ℕ) → card_part r ≡ part → clear_of part (field 1 2 Text) ≡ true
    by None e = refl
    by (Some k) e = (has_card k r e).row.kind_clear
