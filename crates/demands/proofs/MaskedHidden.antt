-- A masked form has the same hidden places: of a card field by its law, and so of a record, a piece, pieces in a row and a file.
use Prim.Native.Nat.{ℕ, ◌+◌, ◌-◌}
use mathlib.Core.Path.{◌≡◌, refl, sym, ◌∙◌, ap, ap₂}
use mathlib.Core.List.{List, [], ◌∷◌, map}
use mathlib.Core.Bool.{cond, ◌&&◌}
use lib.ListN.{length}
use lib.Dec.{leb}
use Rattle.pan.specs.HiddenPlaces.{hidden_place}
use Rattle.pan.proofs.Tests.{by_test}
use Rattle.pan.proofs.Masking.{masked_hidden}
use Rattle.lines.specs.Lines.{Lines, cr, cut, ends_in_cr, without_last}
use Rattle.lines.proofs.Cuts.{cut_is_cut}
use Rattle.lines.proofs.Ends.{cr_ends, before_last}
use Rattle.card_record.specs.CardPart.{card_part, card_from}
use Rattle.card_mask.specs.Masked.{masked_at, masked_record, masked_piece, masked_file}
use Rattle.card_mask.proofs.Pieces.{no_record, piece_length}
use Rattle.card_mask.proofs.MaskedCard.{masked_card}
use Rattle.card_mask.proofs.Again.{cut_masked}
use Rattle.demands.specs.HiddenDigits.{hidden_at, hidden_in_record, hidden_in_piece, hidden_in_pieces, hidden_in}
use Rattle.std.specs.Prelude.{None, Option, Some}

pub same_hidden_record : (r : List ℕ) (i : ℕ) → hidden_in_record (masked_record r) i ≡ hidden_in_record r i
unfolding masked_at hidden_at
same_hidden_record r i = by (card_part r) refl
  where
    by : (part : (Option ℕ)) → card_part r ≡ part → hidden_in_record (masked_at part r) i ≡ hidden_in_record r i
    by None e = refl
    by (Some k) e =
        let is = masked_card k r e in
        ap (λ part. hidden_at part (masked_at (Some k) r) i) is.has_too ∙
        ap (λ card. leb k i && hidden_place card (i - k)) is.card ∙
        ap (λ h. leb k i && h) (masked_hidden (card_from k r) (i - k)) ∙
        sym (ap (λ part. hidden_at part r i) e)

of_piece : (p : List ℕ) (i : ℕ) → hidden_in_piece (masked_piece p) i ≡ hidden_in_piece p i
of_piece p i =
    by_test (ends_in_cr p)
    (λ e. let m = masked_record (without_last p) in rw (e, cr_ends m, before_last m cr) (same_hidden_record (without_last p) i))
    (λ e. ap (λ q. hidden_in_piece q i) (sym (no_record p e)))

of_pieces : (ps : List (List ℕ)) (i : ℕ) → hidden_in_pieces (map masked_piece ps) i ≡ hidden_in_pieces ps i
unfolding hidden_in_pieces
of_pieces [] i = refl
of_pieces (p ∷ ps) i =
    ap (λ n. cond (leb i n) (hidden_in_piece (masked_piece p) i) (hidden_in_pieces (map masked_piece ps) (i - (n + 1)))) (piece_length p) ∙
    ap₂ (cond (leb i (length p))) (of_piece p i) (of_pieces ps (i - (length p + 1)))

pub same_hidden : (file : List ℕ) (i : ℕ) → hidden_in (masked_file file) i ≡ hidden_in file i
same_hidden file i =
    ap (λ (ls : Lines). hidden_in_pieces ls.pieces i) (cut_masked file (cut file).rest (cut_is_cut file).rest_clear) ∙
    of_pieces (cut file).pieces i
