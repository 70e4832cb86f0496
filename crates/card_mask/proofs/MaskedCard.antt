-- A record with a card, masked and taken apart again.
use Prim.Native.Nat.{ℕ, ◌+◌}
use mathlib.Core.Path.{◌≡◌, sym, ◌∙◌, ap}
use mathlib.Core.List.{List, ◌++◌, append_assoc}
use mathlib.Core.Bool.{false}
use native.Mathlib.Omega.{arith}
use lib.ListN.{length, take, drop, length-append, take-append-drop}
use lib.Seq.{length-take-le, length-slice, take_at, drop_at, take-take}
use Rattle.pan.specs.CardField.{well_formed}
use Rattle.pan.specs.Masked.{masked}
use Rattle.pan.proofs.Masking.{masked_length, masked_unformed}
use Rattle.card_content.specs.EqualOutside.{EqualOutside}
use Rattle.card_record.specs.CardPart.{card_part, card_from}
use Rattle.card_record.proofs.CardParts.{card_inside}
use Rattle.card_record.proofs.LawOfReading.{same_place}
use Rattle.card_mask.specs.Masked.{masked_at}
use Rattle.std.specs.Prelude.{Some}

-- a record is its card and what stands around it
pub around_card : (k : ℕ) (r : List ℕ) → r ≡ take k r ++ (card_from k r ++ drop (k + 19) r)
around_card k r =
    let front = take (k + 19) r in
    sym (sym (append_assoc (take k r) (card_from k r) (drop (k + 19) r)) ∙
    ap (λ (l : List ℕ). (l ++ card_from k r) ++ drop (k + 19) r) (sym (take-take k (k + 19) r (omega arith))) ∙
    ap (λ (l : List ℕ). l ++ drop (k + 19) r) (take-append-drop k front) ∙
    take-append-drop (k + 19) r)

-- around the card it is the record, and the card, at the same place, is the record's card masked
pub record MaskedCard (k : ℕ) (r m : List ℕ) : Type 0 where
  pub outside : EqualOutside k (k + 19) r m
  pub has_too : card_part m ≡ Some k
  pub card : card_from k m ≡ masked (card_from k r)

pub masked_card : (k : ℕ) (r : List ℕ) → card_part r ≡ Some k → MaskedCard k r (masked_at (Some k) r)
unfolding masked_at
masked_card k r has =
    let inside = card_inside k r has in
    let front = take k r in
    let card = masked (card_from k r) in
    let rest = drop (k + 19) r in
    let short : length front ≡ k = length-take-le k r (omega arith) in
    let long : length (front ++ card) ≡ k + 19 =
    length-append front card ∙ omega (arith, masked_length (card_from k r), length-slice k (k + 19) r inside) in
    let parts : front ++ (card ++ rest) ≡ (front ++ card) ++ rest = sym (append_assoc front card rest) in
    let outside : EqualOutside k (k + 19) r (front ++ (card ++ rest)) =
    record {
      before = sym (take_at front (card ++ rest) k short);
      behind = sym (ap (drop (k + 19)) parts ∙ drop_at (front ++ card) rest (k + 19) long);
    } in
    record {
      outside = outside;
      has_too = same_place k r (front ++ (card ++ rest)) has outside;
      card = ap (card_from k) parts ∙ ap (drop k) (take_at (front ++ card) rest (k + 19) long) ∙ drop_at front card k short;
    }

-- a card that is not well formed has no hidden place, so the record stays as it is
pub unformed_card : (k : ℕ) (r : List ℕ) → well_formed (card_from k r) ≡ false → masked_at (Some k) r ≡ r
unfolding masked_at
unformed_card k r e = ap (λ (card : List ℕ). take k r ++ (card ++ drop (k + 19) r)) (masked_unformed (card_from k r) e) ∙ sym (around_card k r)
