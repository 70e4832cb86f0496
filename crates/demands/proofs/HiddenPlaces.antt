-- The hidden places of a record, by its card's part; of a piece; and of pieces in a row, the first and those behind it.
use Prim.Native.Nat.{ℕ, ◌+◌, ◌-◌, ◌≤◌, ◌<◌}
use mathlib.Core.Path.{◌≡◌, refl, ◌∙◌, ap}
use mathlib.Core.List.{List, [], ◌∷◌}
use mathlib.Core.Bool.{false}
use native.Mathlib.Omega.{arith}
use lib.ListN.{length, length-append}
use lib.Seq.{length-slice}
use borrow.Author.Tests.{le-leb, lt-leb}
use Rattle.pan.specs.HiddenPlaces.{hidden_place}
use Rattle.pan.proofs.Tests.{by_test}
use Rattle.pan.proofs.HiddenPlaces.{hidden_inside}
use Rattle.lines.specs.Lines.{cr, ends_in_cr, without_last}
use Rattle.lines.proofs.Ends.{record_and_cr}
use Rattle.card_record.specs.CardPart.{card_part, card_from}
use Rattle.card_record.proofs.CardParts.{card_inside}
use Rattle.demands.specs.HiddenDigits.{hidden_at, hidden_in_record, hidden_in_piece, hidden_in_pieces}
use Rattle.std.specs.Prelude.{None, Option, Some}

-- no card, nothing hidden
pub no_card_lem : (r : List ℕ) → card_part r ≡ None → (i : ℕ) → hidden_in_record r i ≡ false
unfolding hidden_at
no_card_lem r e i = ap (λ part. hidden_at part r i) e

module _ (k : ℕ) (r : List ℕ) (has : card_part r ≡ Some k) where
  -- in the card, its hidden places
  pub in_card : (j : ℕ) → hidden_in_record r (k + j) ≡ hidden_place (card_from k r) j
  unfolding hidden_at
  in_card j =
      let n : (k + j) - k ≡ j = omega arith in
      ap (λ part. hidden_at part r (k + j)) has ∙ rw (le-leb k (k + j) (omega arith)) (ap (hidden_place (card_from k r)) n)

  -- before and behind it nothing
  pub before_card : (i : ℕ) → i < k → hidden_in_record r i ≡ false
  unfolding hidden_at
  before_card i h = ap (λ part. hidden_at part r i) has ∙ rw (lt-leb k i h)

  pub behind_card : (i : ℕ) → hidden_in_record r (k + 19 + i) ≡ false
  behind_card i =
      let card = card_from k r in
      let wide = length-slice k (k + 19) r (card_inside k r has) in
      let n : k + 19 + i ≡ k + (19 + i) = omega arith in
      ap (hidden_in_record r) n ∙ in_card (19 + i) ∙
      by_test (hidden_place card (19 + i)) (λ e. absurd (omega (arith, (hidden_inside card (19 + i) e).before))) (λ e. e)

-- nothing is hidden at a record's end, nor at a piece's
pub past_record : (r : List ℕ) (i : ℕ) → length r ≤ i → hidden_in_record r i ≡ false
past_record r i h = by (card_part r) refl
  where
    by : (part : (Option ℕ)) → card_part r ≡ part → hidden_in_record r i ≡ false
    by None e = no_card_lem r e i
    by (Some k) e =
        let inside = card_inside k r e in
        let n : i ≡ k + 19 + (i - (k + 19)) = omega arith in
        ap (hidden_in_record r) n ∙ behind_card k r e (i - (k + 19))

pub past_piece : (p : List ℕ) → hidden_in_piece p (length p) ≡ false
past_piece p =
    by_test (ends_in_cr p)
    (λ e.
    let one_more = ap length (record_and_cr p e) ∙ length-append (without_last p) (cr ∷ []) in
    rw e (past_record (without_last p) (length p) (omega arith)))
    (λ e. rw e)

-- in pieces none, those of the first, and those behind it
pub in_none : (i : ℕ) → hidden_in_pieces [] i ≡ false
unfolding hidden_in_pieces
in_none i = refl

pub in_first : (p : List ℕ) (ps : List (List ℕ)) (i : ℕ) → i ≤ length p → hidden_in_pieces (p ∷ ps) i ≡ hidden_in_piece p i
unfolding hidden_in_pieces
in_first p ps i h = rw (le-leb i (length p) h)

pub in_later : (p : List ℕ) (ps : List (List ℕ)) (n i : ℕ) → length p ≡ n → hidden_in_pieces (p ∷ ps) (n + 1 + i) ≡ hidden_in_pieces ps i
unfolding hidden_in_pieces
in_later p ps n i e =
    let m : (n + 1 + i) - (length p + 1) ≡ i = omega arith in
    rw (lt-leb (n + 1 + i) (length p) (omega arith)) (ap (hidden_in_pieces ps) m)
