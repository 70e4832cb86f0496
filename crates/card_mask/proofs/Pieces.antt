-- The masked form of one piece, by whether it is a record and has a card: what the code writes, and that its length stays.
use Prim.Native.Nat.{ℕ, ◌+◌, ◌-◌, ◌≤◌}
use mathlib.Core.Path.{◌≡◌, refl, sym, ◌∙◌, ap, ap₂}
use mathlib.Core.List.{List, [], ◌∷◌, ◌++◌, append_assoc}
use mathlib.Core.Bool.{true, false}
use native.Mathlib.Omega.{arith}
use lib.ListN.{length, take, drop, length-append, length-drop}
use lib.Seq.{length-take-le, take-append-le, drop-append-le, length-slice}
use Rattle.text.proofs.Parts.{drop_take}
use Rattle.pan.specs.Masked.{masked}
use Rattle.pan.proofs.Masking.{masked_length}
use Rattle.pan.proofs.Tests.{by_test}
use Rattle.lines.specs.Lines.{cr, ends_in_cr, without_last, with_cr}
use Rattle.lines.proofs.Ends.{record_and_cr}
use Rattle.card_record.specs.CardPart.{card_part, card_from}
use Rattle.card_record.proofs.CardParts.{card_inside}
use Rattle.card_mask.specs.Masked.{masked_at, masked_record, masked_piece}
use Rattle.std.specs.Prelude.{None, Option, Some}

-- a piece that is no record, and a record with no card
pub no_record : (p : List ℕ) → ends_in_cr p ≡ false → p ≡ masked_piece p
no_record p e = rw e

pub no_card_lem : (p : List ℕ) → ends_in_cr p ≡ true → card_part (without_last p) ≡ None → p ≡ masked_piece p
unfolding masked_at
no_card_lem p e n = record_and_cr p e ∙ sym (rw (e, n))

-- the card of a record, found in the piece
card_there : (r : List ℕ) (k : ℕ) → k + 19 ≤ length r → take ((k + 19) - k) (drop k (with_cr r)) ≡ card_from k r
card_there r k h = sym (drop_take k (k + 19) (with_cr r) (omega arith)) ∙ ap (drop k) (take-append-le (k + 19) r (cr ∷ []) h)

-- a record with a card: its part is masked, and nothing else
pub with_card : (p : List ℕ) (k : ℕ) → ends_in_cr p ≡ true → card_part (without_last p) ≡ Some k →
    take k p ++ (masked (take ((k + 19) - k) (drop k p)) ++ drop (k + 19) p) ≡ masked_piece p
unfolding masked_at
with_card p k e c =
    let r = without_last p in
    let inside : k + 19 ≤ length r = card_inside k r c in
    let card = masked (card_from k r) in
    let put : List ℕ → List ℕ = λ l. take k l ++ (masked (take ((k + 19) - k) (drop k l)) ++ drop (k + 19) l) in
    let front : take k (with_cr r) ≡ take k r = take-append-le k r (cr ∷ []) (omega arith) in
    let rest : drop (k + 19) (with_cr r) ≡ drop (k + 19) r ++ (cr ∷ []) = drop-append-le (k + 19) r (cr ∷ []) inside in
    ap put (record_and_cr p e) ∙
    ap₂ ◌++◌ front (ap₂ ◌++◌ (ap masked (card_there r k inside)) rest) ∙
    sym (append_assoc (take k r) (card ++ drop (k + 19) r) (cr ∷ []) ∙ ap (λ (l : List ℕ). take k r ++ l) (append_assoc card (drop (k + 19) r) (cr ∷ []))) ∙
    sym (rw (e, c))

-- masking keeps the length
pub record_length : (r : List ℕ) → length (masked_record r) ≡ length r
unfolding masked_at
record_length r = by (card_part r) refl
  where
    by : (part : Option ℕ) → card_part r ≡ part → length (masked_at part r) ≡ length r
    by None e = refl
    by (Some k) e =
        let inside = card_inside k r e in
        simp (length-append, masked_length)
        (let a = length-take-le k r (omega arith) in
        let b = length-slice k (k + 19) r inside in
        let c = length-drop (k + 19) r in
        omega arith)

pub piece_length : (p : List ℕ) → length (masked_piece p) ≡ length p
piece_length p =
    by_test (ends_in_cr p)
    (λ e.
    let r = without_last p in
    let whole : length p ≡ length r + 1 = ap length (record_and_cr p e) ∙ length-append r (cr ∷ []) in
    rw e (length-append (masked_record r) (cr ∷ []) ∙ ap (λ (n : ℕ). n + 1) (record_length r) ∙ sym whole))
    (λ e. ap length (sym (no_record p e)))
