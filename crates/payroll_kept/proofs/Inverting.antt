-- A file that is accepted keeps the rules: its first piece is the header, and the run behind it says what the others are.
use Prim.Native.Nat.{ℕ, ◌+◌}
use mathlib.Core.Path.{◌≡◌, refl, sym, ◌∙◌, ap, ap₂, subst}
use mathlib.Core.List.{List, [], ◌∷◌, map}
use mathlib.Core.Bool.{false≢true}
use native.Mathlib.Omega.{arith}
use lib.ListN.{length, length-append}
use Rattle.std.specs.Prelude.{Ok}
use Rattle.lines.specs.Lines.{with_cr, rejoined, cut}
use Rattle.lines.proofs.Cuts.{cut_is_cut, records_are_pieces}
use Rattle.payroll_record.specs.declared.kind.Kind.{Kind}
use Rattle.payroll_record.specs.declared.kind.Kind.TheVariants.{FileHeader, BatchHeader, SegmentA, SegmentB, SegmentZ, BatchTrailer, FileTrailer}
use Rattle.payroll_file.specs.declared.answer.Accepted.{Accepted}
use Rattle.payroll_run.specs.State.{opened}
use Rattle.payroll_file.specs.PayrollFile.{check_of}
use Rattle.payroll_kept.specs.Kept.{File, batches_records, records_of, FileKept, Kept}
use Rattle.payroll_kept.proofs.Plain.{behind_plain}
use Rattle.payroll_kept.proofs.Next.{Next}
use Rattle.payroll_kept.proofs.Steps.{took_record, step, stepped}
use Rattle.payroll_kept.proofs.Refused.{EndsAccepted, piece, too_early}
use Rattle.payroll_kept.proofs.Accepting.{file_trailer_at}
use Rattle.payroll_kept.proofs.Left.{BatchesLeft, says}

-- pieces and a rest are a file that keeps the rules
record Whole (ps : List (List ℕ)) (rest : List ℕ) : Type 0 where
  file : File
  keeps : FileKept file
  is : ps ≡ map with_cr (records_of file)
  mark : rest ≡ 26 ∷ []

-- the first record is the header
module _ (r : List ℕ) (ps : List (List ℕ)) (rest : List ℕ) (a : Accepted) (taken : EndsAccepted (took_record opened r) ps rest a) where
  begins : (kind : Kind) → Next kind opened r → Whole (with_cr r ∷ ps) rest
  begins FileHeader n =
      let next = behind_plain FileHeader opened r in
      let b : BatchesLeft r rest 0 1 0 ps = (says r rest ps a next refl (subst (λ s. EndsAccepted s ps rest a) (step FileHeader opened r n) taken)).between refl in
      let f : File = record { header = r; batches = b.batches; trailer = b.trailer } in
      let count : 0 + length f.batches ≡ length f.batches = omega arith in
      let total : 1 + length (batches_records f.batches) + 1 ≡ length (records_of f) =
      omega (arith, length-append (batches_records f.batches) (f.trailer ∷ [])) in
      record {
        file = f;
        keeps = record {
          header = n.kept;
          batches = b.keep;
          trailer = file_trailer_at count total b.last;
          amount = omega (arith, b.below);
        };
        is = ap (λ l. with_cr r ∷ l) b.is;
        mark = b.mark;
      }
  begins BatchHeader n = absurd (false≢true n.place)
  begins SegmentA n = absurd (false≢true n.place)
  begins SegmentB n = absurd (false≢true n.place)
  begins SegmentZ n = absurd (false≢true n.place)
  begins BatchTrailer n = absurd (false≢true n.place)
  begins FileTrailer n = absurd (false≢true n.place)

whole : (ps : List (List ℕ)) (rest : List ℕ) (a : Accepted) → EndsAccepted opened ps rest a → Whole ps rest
whole [] rest a h = absurd (too_early FileHeader opened rest a refl h)
whole (p ∷ ps) rest a h =
    let one = piece opened p ps rest a h in
    let took = stepped opened one.bytes one.goes in
    subst (λ p. Whole (p ∷ ps) rest) (sym one.is) (begins one.bytes ps rest a one.taken took.kind took.next)

-- so the bytes are those of the file
pub accepted_kept : (bytes : List ℕ) (a : Accepted) → check_of bytes ≡ Ok a → Kept bytes
accepted_kept bytes a h =
    let ls = cut bytes in
    let w = whole ls.pieces ls.rest a h in
    record {
      file = w.file;
      keeps = w.keeps;
      is = sym (cut_is_cut bytes).whole ∙ ap₂ rejoined w.is w.mark ∙ sym (records_are_pieces (records_of w.file) (26 ∷ []));
    }
