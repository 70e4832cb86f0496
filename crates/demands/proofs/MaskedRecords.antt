-- A masked record is read as the record (the law of reading: a well-formed card stays well formed, and any other stays as it is), and every field that keeps
-- clear of the card has the same part in both.
use Prim.Native.Nat.{ℕ, ◌+◌}
use mathlib.Core.Path.{◌≡◌, refl, sym, ◌∙◌, ap, subst}
use mathlib.Core.Logic.{inl, inr}
use mathlib.Core.List.{List}
use mathlib.Core.Bool.{true}
use Rattle.pan.specs.CardField.{well_formed}
use Rattle.pan.specs.Masked.{masked}
use Rattle.pan.proofs.Tests.{by_test}
use Rattle.pan.proofs.Masking.{masked_formed, masked_unformed}
use Rattle.card_content.specs.declared.field.Field.{Field}
use Rattle.card_content.specs.Field.{part_of}
use Rattle.card_content.proofs.FieldParts as parts
use Rattle.card_record.specs.CardPart.{card_part, card_from}
use Rattle.card_record.specs.Reading.{reading_of}
use Rattle.card_record.proofs.CardRow.{AlikeCards}
use Rattle.card_record.proofs.CardParts.{clear_of}
use Rattle.card_record.proofs.LawOfReading.{law_of_reading}
use Rattle.card_mask.specs.Masked.{masked_at, masked_record}
use Rattle.card_mask.proofs.MaskedCard.{masked_card}
use Rattle.std.specs.Prelude.{None, Option, Some}

-- reading does not tell a card from its masked form
masked_alike : (p : List ℕ) → AlikeCards p (masked p)
masked_alike p = by_test (well_formed p) (λ e. inl (e, masked_formed p ∙ e)) (λ e. inr (sym (masked_unformed p e)))

pub same_reading : (edition : ℕ) (r : List ℕ) → reading_of edition (masked_record r) ≡ reading_of edition r
unfolding masked_at
same_reading edition r = by (card_part r) refl
  where
    by : (part : (Option ℕ)) → card_part r ≡ part → reading_of edition (masked_at part r) ≡ reading_of edition r
    by None e = refl
    by (Some k) e =
        let is = masked_card k r e in
        sym (law_of_reading edition k r (masked_at (Some k) r) e is.outside
        (subst (AlikeCards (card_from k r)) (sym is.card) (masked_alike (card_from k r))))

pub same_part : (r : List ℕ) (f : Field) → clear_of (card_part r) f ≡ true → part_of f (masked_record r) ≡ part_of f r
unfolding masked_at
same_part r f h = by (card_part r) refl
  where
    by : (part : (Option ℕ)) → card_part r ≡ part → part_of f (masked_at part r) ≡ part_of f r
    by None e = refl
    by (Some k) e =
        let keeps : clear_of (Some k) f ≡ true = sym (ap (λ part. clear_of part f) e) ∙ h in
        sym (parts.same_part k (k + 19) r (masked_at (Some k) r) (masked_card k r e).outside f keeps)
