-- A masked record gets the record's own answer and part from the field question: it looks at the kind, the width and one field that is not the card's, and
-- those keep clear of the card, which is computed for each number.
use Prim.Native.Nat.{ℕ}
use mathlib.Core.Path.{◌≡◌, refl, sym, ◌∙◌, ap}
use mathlib.Core.List.{List}
use mathlib.Core.Bool.{true, not, ◌&&◌, ◌||◌}
use native.Mathlib.Omega.{arith}
use lib.Dec.{leb, eqb}
use borrow.Author.Tests.{leb-true}
use Rattle.text.proofs.Alphabets.{both_left, both_right}
use Rattle.card_content.specs.declared.content.Content.TheVariants.{Text}
use Rattle.card_content.specs.Field.{field}
use Rattle.card_record.specs.declared.kind.Kind.TheVariants.{Cv}
use Rattle.card_record.specs.CardPart.{card_part}
use Rattle.card_record.specs.Kind.{kind_named}
use Rattle.card_record.specs.Reading.{card_of}
use Rattle.card_record.proofs.CardParts.{card_if, clear_of, kind_clear}
use Rattle.sale_field.proofs.Below.{all_below_lem, each_below}
use Rattle.sale_field.proofs.Offers.{is_sale_lem, is_offered, is_field, is_empty}
use Rattle.sale_field.specs.Field.{offered, numbered, refusal_of, field_of, place_as, place_of_field, FieldAnswer}
use Rattle.card_mask.specs.Masked.{masked_record}
use Rattle.card_mask.proofs.Pieces.{record_length}
use Rattle.demands.proofs.MaskedRecords.{same_part}
use Rattle.std.specs.Prelude.{Err, Ok}

-- each field that is offered keeps clear of a sale's card
keeps_clear : (n : ℕ) → offered n ≡ true → clear_of (card_of Cv) (numbered n) ≡ true
unfolding all_below_lem
keeps_clear n e =
    let low = both_right (leb 1 n) (leb n 26 && not (eqb n 13)) e in
    let high = leb-true n 26 (both_left (leb n 26) (not (eqb n 13)) low) in
    let is = each_below 27 (λ n. not (offered n) || clear_of (card_of Cv) (numbered n)) refl n (omega arith) in
    rw e at is

-- the record of which a field is offered has a sale's card
sale_card : (r : List ℕ) (n : ℕ) → refusal_of r n ≡ (Ok tt) → card_part r ≡ card_of Cv
unfolding kind_named
sale_card r n e =
    let is = is_sale_lem r n e in
    card_if Cv r (rw is.0) is.1

module _ (r : List ℕ) (n : ℕ) where
  pub same_refusal : refusal_of (masked_record r) n ≡ refusal_of r n
  unfolding refusal_of
  same_refusal = rw (same_part r (field 1 2 Text) (kind_clear r), record_length r)

  -- the place looks at the refusal and the width alone
  pub same_place : place_of_field (masked_record r) n ≡ place_of_field r n
  unfolding place_as
  same_place = ap (λ answer. place_as answer (masked_record r) n) same_refusal ∙ by (refusal_of r n)
    where
      by : (answer : FieldAnswer) → place_as answer (masked_record r) n ≡ place_as answer r n
      by (Ok tt) = rw (record_length r)
      by (Err x) = refl

  pub same_field : field_of (masked_record r) n ≡ field_of r n
  same_field = by (refusal_of r n) refl
    where
      by : (answer : FieldAnswer) → refusal_of r n ≡ answer → field_of (masked_record r) n ≡ field_of r n
      by (Ok tt) e =
          let clear = ap (λ part. clear_of part (numbered n)) (sale_card r n e) ∙ keeps_clear n (is_offered r n e) in
          is_field (masked_record r) n (same_refusal ∙ e) ∙ same_part r (numbered n) clear ∙ sym (is_field r n e)
      by (Err x) e = is_empty (masked_record r) n x (same_refusal ∙ e) ∙ sym (is_empty r n x e)
