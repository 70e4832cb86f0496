-- A record and its masked form take the same way (card_quick: a well-formed card stays well formed, and any other stays as it is), and twins have one masked form.
use Prim.Native.Nat.{ℕ}
use mathlib.Core.Path.{◌≡◌, refl, sym, ◌∙◌, ap, ap₂}
use mathlib.Core.List.{List, [], ◌∷◌, map}
use mathlib.Core.Bool.{Bool, false, ◌&&◌}
use native.Mathlib.Omega.{arith}
use lib.ListN.{length}
use borrow.Author.Tests.{ne_eqb}
use Rattle.pan.specs.CardField.{well_formed}
use Rattle.pan.proofs.Masking.{masked_formed}
use Rattle.pan.proofs.Tests.{by_test}
use Rattle.lines.specs.Lines.{Lines, cr, cut, ends_in_cr, without_last}
use Rattle.lines.proofs.Cuts.{cut_is_cut}
use Rattle.lines.proofs.Ends.{cr_ends, before_last}
use Rattle.card_record.specs.declared.kind.Kind.{Kind}
use Rattle.card_record.specs.declared.kind.Kind.TheVariants.{A0, L0, Cv, Aj, L9, A9}
use Rattle.card_record.specs.CardPart.{card_part, card_from}
use Rattle.card_record.specs.Reading.{width_of, card_of}
use Rattle.card_record.proofs.CardParts.{has_card}
use Rattle.card_quick.specs.Quick.{surely_right, passes_quick}
use Rattle.card_quick.proofs.SameWay.{same_way}
use Rattle.card_mask.specs.Masked.{masked_at, masked_record, masked_piece, masked_file}
use Rattle.card_mask.proofs.Again.{cut_masked}
use Rattle.card_mask.proofs.MaskedCard.{masked_card, unformed_card}
use Rattle.card_mask.proofs.Pieces.{no_record, record_length, piece_length}
use Rattle.demands.specs.SameWay.{SameWay, ways_of, sizes_of}
use Rattle.demands.proofs.ToldAlike.{alike}
use Rattle.demands.proofs.TwinMasks.{twin_records, twin_files}
use Rattle.std.specs.Prelude.{None, Option, Some}

-- a record with its card masked is as wide as it was
same_wide : (r : List ℕ) {part : (Option ℕ)} → card_part r ≡ part → length (masked_at part r) ≡ length r
same_wide r e = ap (λ part. length (masked_at part r)) (sym e) ∙ record_length r

-- a record that is not as wide as a sale goes the slow way
not_so_wide : (edition n : ℕ) (r : List ℕ) → length r ≡ n → (n ≡ 199 → ⊥) → passes_quick edition r ≡ false
not_so_wide edition n r wide other = ap (λ b. b && surely_right edition r) (ne_eqb (length r) 199 (λ e. other (sym wide ∙ e)))

module _ (edition : ℕ) (r : List ℕ) where
  -- a record whose card is that of its kind
  by_kind : (kind : Kind) → card_part r ≡ card_of kind → length r ≡ width_of kind → passes_quick edition (masked_at (card_of kind) r) ≡ passes_quick edition r
  unfolding masked_at
  by_kind A0 has wide = refl
  by_kind L0 has wide = refl
  by_kind Cv has wide =
      by_test (well_formed (card_from 87 r))
      (λ formed.
      let is = masked_card 87 r has in
      sym (same_way r (masked_at (Some 87) r) is.outside formed (ap well_formed is.card ∙ masked_formed (card_from 87 r) ∙ formed) edition
      (sym (same_wide r has))))
      (λ other. ap (passes_quick edition) (unformed_card 87 r other))
  by_kind Aj has wide =
      not_so_wide edition 193 (masked_at (Some 162) r) (same_wide r has ∙ wide) (λ e. omega arith) ∙ sym (not_so_wide edition 193 r wide (λ e. omega arith))
  by_kind L9 has wide = refl
  by_kind A9 has wide = refl

  -- every record
  same_pass : passes_quick edition (masked_record r) ≡ passes_quick edition r
  unfolding masked_at
  same_pass = by (card_part r) refl
    where
      by : (part : (Option ℕ)) → card_part r ≡ part → passes_quick edition (masked_at part r) ≡ passes_quick edition r
      by None e = refl
      by (Some k) e =
          let has = has_card k r e in
          ap (λ part. passes_quick edition (masked_at part r)) (sym has.begins) ∙ by_kind has.kind (e ∙ sym has.begins) has.wide

-- a piece, and pieces in turn
abbrev way : ℕ → List ℕ → Bool
way edition p = ends_in_cr p && passes_quick edition (without_last p)

same_piece : (edition : ℕ) (p : List ℕ) → way edition (masked_piece p) ≡ way edition p
same_piece edition p =
    by_test (ends_in_cr p)
    (λ e. let m = masked_record (without_last p) in rw (e, cr_ends m, before_last m cr) (same_pass edition (without_last p)))
    (λ e. ap (way edition) (sym (no_record p e)))

each : {A : Type 0} (tell : List ℕ → A) → ((p : List ℕ) → tell (masked_piece p) ≡ tell p) → (ps : List (List ℕ)) → map tell (map masked_piece ps) ≡ map tell ps
each tell same [] = refl
each tell same (p ∷ ps) = ap₂ ◌∷◌ (same p) (each tell same ps)

-- a file: what is told of each of its pieces
same_each : {A : Type 0} (tell : List ℕ → A) → ((p : List ℕ) → tell (masked_piece p) ≡ tell p) → (file : List ℕ) →
    map tell (cut (masked_file file)).pieces ≡ map tell (cut file).pieces
same_each tell same file =
    ap (λ (ls : Lines). map tell ls.pieces) (cut_masked file (cut file).rest (cut_is_cut file).rest_clear) ∙ each tell same (cut file).pieces

pub same_ways : SameWay
same_ways =
    record {
      records = λ edition r s w. alike masked_record (passes_quick edition) (same_pass edition) (twin_records r s w);
      files = λ edition s t w. alike masked_file (ways_of edition) (same_each (way edition) (same_piece edition)) (twin_files s t w);
      sizes = λ s t w. alike masked_file sizes_of (same_each length piece_length) (twin_files s t w);
    }
