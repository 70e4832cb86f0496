-- Hidden digits of a record, changed into digits, leave its masked form: a record with no card is not changed, and one with a card becomes one with the
-- card at the same place, equal outside it, and the two cards are twins.
use Prim.Native.Nat.{ℕ, ◌+◌}
use mathlib.Core.Path.{◌≡◌, refl, sym, ◌∙◌, ap, ap₂}
use mathlib.Core.List.{List, ◌++◌}
use native.Mathlib.Omega.{arith}
use lib.ListN.{length-take}
use Rattle.pan.specs.HiddenPlaces.{hidden_place}
use Rattle.pan.specs.Twins.{Twins}
use Rattle.pan.proofs.Twins.{twins_masked, twins_made}
use Rattle.card_content.specs.EqualOutside.{EqualOutside}
use Rattle.card_record.specs.CardPart.{card_part, card_from}
use Rattle.card_record.proofs.LawOfReading.{same_place}
use Rattle.card_mask.specs.Masked.{masked_at, masked_record}
use Rattle.demands.specs.HiddenDigits.{hidden_in_record}
use Rattle.demands.specs.TwinsMade.{DigitsChanged}
use Rattle.demands.proofs.HiddenPlaces.{no_card_lem, in_card, before_card, behind_card}
use Rattle.demands.proofs.TwinLaws.{none_hidden, changed_where, changed_front, changed_behind}
use Rattle.std.specs.Prelude.{None, Option, Some}

module _ (k : ℕ) (r s : List ℕ) (has : card_part r ≡ Some k) (w : DigitsChanged (hidden_in_record r) r s) where
  -- equal outside the card
  outside_card : EqualOutside k (k + 19) r s
  outside_card =
      record {
        before = none_hidden (changed_front w k) (λ i l. before_card k r has i (omega (arith, length-take k r)));
        behind = none_hidden (changed_behind w (k + 19)) (λ i l. behind_card k r has i);
      }

  -- the other's card stands at the same place
  has_too : card_part s ≡ Some k
  has_too = same_place k r s has outside_card

  -- and the cards are twins
  twin_cards : Twins (card_from k r) (card_from k s)
  twin_cards =
      let card = changed_where (changed_behind (changed_front w (k + 19)) k) (hidden_place (card_from k r)) (λ j l. in_card k r has j) in
      twins_made (card_from k r) (card_from k s) card.elsewhere card.into_digits

-- so they are masked alike
pub same_masked_record : (r s : List ℕ) → DigitsChanged (hidden_in_record r) r s → masked_record r ≡ masked_record s
unfolding masked_at
same_masked_record r s w = by (card_part r) refl
  where
    by : (part : (Option ℕ)) → card_part r ≡ part → masked_record r ≡ masked_record s
    by None e = ap masked_record (none_hidden w (λ i l. no_card_lem r e i))
    by (Some k) e =
        let same = outside_card k r s e w in
        ap (λ part. masked_at part r) e ∙
        ap₂ ◌++◌ same.before (ap₂ ◌++◌ (twins_masked (twin_cards k r s e w)) same.behind) ∙
        sym (ap (λ part. masked_at part s) (has_too k r s e w))
