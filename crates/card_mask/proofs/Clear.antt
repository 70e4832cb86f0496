-- Masking puts no LF into a piece: the bytes around the card stay, and a star is no LF.
use Prim.Native.Nat.{ℕ, suc, ◌+◌}
use mathlib.Core.Path.{◌≡◌, refl, sym, ◌∙◌, ap}
use mathlib.Core.List.{List, [], ◌∷◌, ◌++◌, map}
use mathlib.Core.Bool.{Bool, true, false, cond, ◌&&◌, false≢true}
use lib.ListN.{take, drop}
use lib.Dec.{eqb}
use Rattle.text.proofs.Alphabets.{both_left, both_right, both}
use Rattle.pan.specs.HiddenPlaces.{hidden_place}
use Rattle.pan.specs.Masked.{star_where, masked}
use Rattle.pan.proofs.Tests.{by_test}
use Rattle.lines.specs.Lines.{lf, no_lf, all_no_lf, ends_in_cr, without_last}
use Rattle.lines.proofs.Cuts.{with_cr_clear}
use Rattle.lines.proofs.Ends.{record_and_cr}
use Rattle.card_record.specs.CardPart.{card_part, card_from}
use Rattle.card_mask.specs.Masked.{masked_at, masked_record, masked_piece}
use Rattle.card_mask.proofs.MaskedCard.{around_card}
use Rattle.std.specs.Prelude.{None, Option, Some}

-- bytes in a row
clear_row : (s t : List ℕ) → no_lf (s ++ t) ≡ no_lf s && no_lf t
unfolding no_lf
clear_row [] t = refl
clear_row (b ∷ s) t = ap (λ q. cond (eqb b lf) false q) (clear_row s t) ∙ one (eqb b lf)
  where
    one : (p : Bool) → cond p false (no_lf s && no_lf t) ≡ cond p false (no_lf s) && no_lf t
    one true = refl
    one false = refl

-- stars
pub stars_clear : (p : ℕ → Bool) (s : List ℕ) → no_lf s ≡ true → no_lf (star_where p s) ≡ true
unfolding no_lf star_where
stars_clear p [] e = refl
stars_clear p (b ∷ s) e = one (p 0) (eqb b lf) refl e (stars_clear (λ i. p (suc i)) s)
  where
    one : (star t : Bool) {q rest : Bool} → eqb b lf ≡ t → cond t false q ≡ true → (q ≡ true → rest ≡ true) → cond (eqb (cond star 42 b) lf) false rest ≡ true
    one star true is e on = absurd (false≢true e)
    one true false is e on = on e
    one false false is e on = rw is (on e)

record_clear : (part : Option ℕ) (r : List ℕ) → no_lf r ≡ true → no_lf (masked_at part r) ≡ true
unfolding masked_at
record_clear None r e = e
record_clear (Some k) r e =
    let card = card_from k r in
    let behind = drop (k + 19) r in
    let all : no_lf (take k r) && (no_lf card && no_lf behind) ≡ true =
    sym (ap no_lf (around_card k r) ∙ clear_row (take k r) (card ++ behind) ∙ ap (λ q. no_lf (take k r) && q) (clear_row card behind)) ∙ e in
    let rest = both_right (no_lf (take k r)) (no_lf card && no_lf behind) all in
    clear_row (take k r) (masked card ++ behind) ∙
    both (both_left (no_lf (take k r)) (no_lf card && no_lf behind) all)
    (clear_row (masked card) behind ∙
    both (stars_clear (hidden_place card) card (both_left (no_lf card) (no_lf behind) rest)) (both_right (no_lf card) (no_lf behind) rest))

piece_clear : (p : List ℕ) → no_lf p ≡ true → no_lf (masked_piece p) ≡ true
piece_clear p h =
    by_test (ends_in_cr p)
    (λ e.
    let r = without_last p in
    let clear : no_lf r ≡ true = sym (with_cr_clear r) ∙ ap no_lf (sym (record_and_cr p e)) ∙ h in
    rw e (with_cr_clear (masked_record r) ∙ record_clear (card_part r) r clear))
    (λ e. rw e h)

pub pieces_clear : (ps : List (List ℕ)) → all_no_lf ps ≡ true → all_no_lf (map masked_piece ps) ≡ true
unfolding all_no_lf
pieces_clear [] e = refl
pieces_clear (p ∷ ps) e =
    both (piece_clear p (both_left (no_lf p) (all_no_lf ps) e)) (pieces_clear ps (both_right (no_lf p) (all_no_lf ps) e))
