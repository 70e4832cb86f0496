-- The masked form of a file leads through the same states, and so has the file's own answer: it is cut into the masked pieces, and each is taken as the piece.
use Prim.Native.Nat.{ℕ}
use mathlib.Core.Path.{◌≡◌, refl, sym, ◌∙◌, ap}
use mathlib.Core.List.{List, [], ◌∷◌, map}
use lib.ListN.{length}
use Rattle.pan.proofs.Tests.{by_test}
use Rattle.lines.specs.Lines.{Lines, cr, cut, rejoined, ends_in_cr, without_last, finished_in}
use Rattle.lines.proofs.Cuts.{cut_is_cut}
use Rattle.lines.proofs.Ends.{cr_ends, before_last}
use Rattle.card_run.specs.declared.running.Running.{Running}
use Rattle.card_run.specs.Running.{open_of}
use Rattle.card_run.specs.Answer.{answer_of}
use Rattle.card_step.specs.Step.{took_of}
use Rattle.card_file.specs.Feeding.{fed_of}
use Rattle.card_file.specs.CardFile.{line_of, lines_of, end_of, check_of}
use Rattle.card_mask.specs.Masked.{masked_record, masked_piece, masked_file}
use Rattle.card_mask.proofs.Pieces.{no_record}
use Rattle.card_mask.proofs.InChunks.{lines_length}
use Rattle.card_mask.proofs.Again.{cut_masked}
use Rattle.demands.proofs.MaskedRecords.{same_reading}

-- one record fed, in every state
pub same_fed : (st : Running) (r : List ℕ) → fed_of st (masked_record r) ≡ fed_of st r
same_fed st r = ap (took_of st) (same_reading st.edition r)

-- one piece, and one piece after the other
same_line : (st : Running) (p : List ℕ) → line_of st (masked_piece p) ≡ line_of st p
same_line st p =
    by_test (ends_in_cr p)
    (λ e. let m = masked_record (without_last p) in rw (e, cr_ends m, before_last m cr) (same_fed st (without_last p)))
    (λ e. ap (line_of st) (sym (no_record p e)))

pub same_lines : (st : Running) (ps : List (List ℕ)) → lines_of st (map masked_piece ps) ≡ lines_of st ps
unfolding lines_of
same_lines st [] = refl
same_lines st (p ∷ ps) = ap (λ next. lines_of next (map masked_piece ps)) (same_line st p) ∙ same_lines (line_of st p) ps

-- how many bytes the finished lines of a file take
pub same_finished : (file : List ℕ) → finished_in (masked_file file) ≡ finished_in file
same_finished file =
    ap (λ (ls : Lines). length (rejoined ls.pieces [])) (cut_masked file (cut file).rest (cut_is_cut file).rest_clear) ∙
    lines_length (cut file).pieces []

-- a file read whole
pub same_check : (edition : ℕ) (file : List ℕ) → check_of edition (masked_file file) ≡ check_of edition file
same_check edition file =
    ap (λ (ls : Lines). answer_of (end_of (lines_of (open_of edition) ls.pieces) ls.rest))
    (cut_masked file (cut file).rest (cut_is_cut file).rest_clear) ∙
    ap (λ st. answer_of (end_of st (cut file).rest)) (same_lines (open_of edition) (cut file).pieces)
