-- Hidden digits of a file, changed into digits, leave its masked copy: piece by piece, and in a piece by its record.
use Prim.Native.Nat.{ℕ}
use mathlib.Core.Path.{◌≡◌, refl, ap, ap₂}
use mathlib.Core.List.{List, [], ◌∷◌, ◌++◌, map}
use Rattle.pan.proofs.Tests.{by_test}
use Rattle.lines.specs.Lines.{cr, rejoined, ends_in_cr, without_last}
use Rattle.card_mask.specs.Masked.{masked_record, masked_piece, masked_file}
use Rattle.demands.specs.HiddenDigits.{hidden_in_record, hidden_in, TwinRecords, TwinFiles}
use Rattle.demands.specs.TwinsMade.{DigitsChanged}
use Rattle.demands.proofs.TwinLaws.{twins_changed, none_hidden}
use Rattle.demands.proofs.TwinRecords.{same_masked_record}
use Rattle.demands.proofs.TwinFiles.{ChangedPiece, OneByOne, no_piece, one_more, ends_too, changed_record, changed_pieces}

same_piece : (p q : List ℕ) → ChangedPiece p q → masked_piece p ≡ masked_piece q
same_piece p q w =
    by_test (ends_in_cr p)
    (λ e.
    rw (e, ends_too p q w e) (ap (λ l. l ++ (cr ∷ [])) (same_masked_record (without_last p) (without_last q) (changed_record p q w e))))
    (λ e. ap masked_piece (none_hidden w (λ i l. rw e)))

same_pieces : {ps qs : List (List ℕ)} → OneByOne ps qs → map masked_piece ps ≡ map masked_piece qs
same_pieces no_piece = refl
same_pieces (one_more {p} {q} w ws) = ap₂ ◌∷◌ (same_piece p q w) (same_pieces ws)

pub same_masked : (s t : List ℕ) → DigitsChanged (hidden_in s) s t → masked_file s ≡ masked_file t
same_masked s t w =
    let ws = changed_pieces s t w in
    ap₂ rejoined (same_pieces ws.0) ws.1

-- so twin records, and twin files, have one masked form
pub twin_records : (r s : List ℕ) → TwinRecords r s → masked_record r ≡ masked_record s
twin_records r s w = same_masked_record r s (twins_changed (hidden_in_record r) (hidden_in_record s) w)

pub twin_files : (s t : List ℕ) → TwinFiles s t → masked_file s ≡ masked_file t
twin_files s t w = same_masked s t (twins_changed (hidden_in s) (hidden_in t) w)
