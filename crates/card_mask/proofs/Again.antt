-- What is masked is its own masked form: a masked record has its card at the same place, where masking again changes nothing; and no masked piece holds an LF,
-- so masked lines are cut into the masked pieces.
use Prim.Native.Nat.{ℕ}
use mathlib.Core.Path.{◌≡◌, refl, sym, ◌∙◌, ap, ap₂}
use mathlib.Core.List.{List, [], ◌∷◌, ◌++◌, map}
use mathlib.Core.Bool.{true}
use lib.ListN.{length, take}
use Rattle.pan.specs.Masked.{masked}
use Rattle.pan.proofs.Masking.{masked_again}
use Rattle.pan.proofs.Tests.{by_test}
use Rattle.lines.specs.Lines.{Lines, cr, cut, rejoined, no_lf, ends_in_cr, without_last, with_cr, finished_in}
use Rattle.lines.proofs.Cuts.{cut_is_cut, cut_is_unique}
use Rattle.lines.proofs.Ends.{cr_ends, before_last}
use Rattle.card_record.specs.CardPart.{card_part, card_from}
use Rattle.card_mask.specs.Masked.{masked_at, masked_record, masked_piece, masked_file}
use Rattle.card_mask.proofs.Pieces.{no_record}
use Rattle.card_mask.proofs.InChunks.{finished_part}
use Rattle.card_mask.proofs.Clear.{pieces_clear}
use Rattle.card_mask.proofs.MaskedCard.{masked_card}
use Rattle.std.specs.Prelude.{None, Option, Some}

-- a record with a card, and every record
card_again : (k : ℕ) (r : List ℕ) → card_part r ≡ Some k → masked_record (masked_at (Some k) r) ≡ masked_at (Some k) r
unfolding masked_at
card_again k r has =
    let m = masked_at (Some k) r in
    let is = masked_card k r has in
    ap (λ part. masked_at part m) is.has_too ∙
    ap₂ ◌++◌ (sym is.outside.before) (ap₂ ◌++◌ (ap masked is.card ∙ masked_again (card_from k r)) (sym is.outside.behind))

pub record_again : (r : List ℕ) → masked_record (masked_record r) ≡ masked_record r
unfolding masked_at
record_again r = by (card_part r) refl
  where
    by : (part : Option ℕ) → card_part r ≡ part → masked_record (masked_at part r) ≡ masked_at part r
    by None e = ap (λ part. masked_at part r) e
    by (Some k) e = card_again k r e

piece_again : (p : List ℕ) → masked_piece (masked_piece p) ≡ masked_piece p
piece_again p =
    by_test (ends_in_cr p)
    (λ e.
    let m = masked_record (without_last p) in
    rw (e, cr_ends m, before_last m cr) (ap with_cr (record_again (without_last p))))
    (λ e. ap masked_piece (sym (no_record p e)))

pieces_again : (ps : List (List ℕ)) → map masked_piece (map masked_piece ps) ≡ map masked_piece ps
pieces_again [] = refl
pieces_again (p ∷ ps) = ap₂ ◌∷◌ (piece_again p) (pieces_again ps)

module _ (bytes rest : List ℕ) (clear : no_lf rest ≡ true) where
  -- the masked lines of some bytes, and a rest without LF behind them, are cut into the masked pieces and that rest
  pub cut_masked : cut (rejoined (map masked_piece (cut bytes).pieces) rest) ≡ record { pieces = map masked_piece (cut bytes).pieces; rest = rest }
  cut_masked =
      sym (cut_is_unique (rejoined (map masked_piece (cut bytes).pieces) rest) (record { pieces = map masked_piece (cut bytes).pieces; rest = rest })
      (record { whole = refl; pieces_clear = pieces_clear (cut bytes).pieces (cut_is_cut bytes).pieces_clear; rest_clear = clear }))

  -- so they are their own masked form
  lines_again : masked_file (rejoined (map masked_piece (cut bytes).pieces) rest) ≡ rejoined (map masked_piece (cut bytes).pieces) rest
  lines_again =
      ap (λ (ls : Lines). rejoined (map masked_piece ls.pieces) ls.rest) cut_masked ∙
      ap (λ ps. rejoined ps rest) (pieces_again (cut bytes).pieces)

-- a masked file
pub file_again : (file : List ℕ) → masked_file (masked_file file) ≡ masked_file file
file_again file = lines_again file (cut file).rest (cut_is_cut file).rest_clear

-- the finished lines of masked bytes: all of them are finished, and they are their own masked form
pub all_finished : (bytes : List ℕ) → finished_in (take (finished_in bytes) (masked_file bytes)) ≡ length (take (finished_in bytes) (masked_file bytes))
unfolding no_lf
all_finished bytes =
    ap (λ s. finished_in s) (finished_part bytes) ∙
    ap (λ (ls : Lines). length (rejoined ls.pieces [])) (cut_masked bytes [] refl) ∙
    ap length (sym (finished_part bytes))

pub own_masked : (bytes : List ℕ) → masked_file (take (finished_in bytes) (masked_file bytes)) ≡ take (finished_in bytes) (masked_file bytes)
unfolding no_lf
own_masked bytes = ap masked_file (finished_part bytes) ∙ lines_again bytes [] refl ∙ sym (finished_part bytes)
