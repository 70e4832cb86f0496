-- The finished lines among the first bytes of a buffer: they are no longer than these, the unfinished one stands behind them, and once they are masked they
-- may be written.
use Prim.Native.Nat.{ℕ, ◌-◌, ◌≤◌}
use mathlib.Core.Path.{◌≡◌, refl, sym, ap, ap₂, ◌∙◌}
use mathlib.Core.List.{List, [], ◌++◌}
use native.Mathlib.Omega.{arith}
use lib.ListN.{length, take, drop, length-take, length-drop, length-append}
use lib.Seq.{take-append-le, drop-append-le, take_at, drop_at}
use Rattle.std.specs.Prelude.{Result, Ok, Err}
use Rattle.text.proofs.Parts.{drop_take}
use Rattle.lines.specs.Lines.{cut, rejoined, finished_in}
use Rattle.lines.proofs.Cuts.{cut_is_cut}
use Rattle.lines.proofs.Finished.{rejoined_behind, finished_within}
use Rattle.card_mask.specs.Masked.{masked_file, MasksLines}
use Rattle.card_mask.proofs.InChunks.{masked_length, waiting_part}
use Rattle.card_mask.proofs.Again.{all_finished, own_masked}
use Rattle.card_stream.specs.declared.Stream.{Stream}
use Rattle.card_copy.specs.Copying.{InHand, MayBeWritten, counts, finishes}

pub finished_in_front : (s : List ℕ) (end n : ℕ) → n ≡ finished_in (take end s) → n ≤ end
finished_in_front s end n e = omega (arith, finished_within (take end s), length-take end s)

-- and the unfinished one, which is what they leave of the bytes
both_parts : (s : List ℕ) → rejoined (cut s).pieces [] ++ (cut s).rest ≡ s
both_parts s = rejoined_behind (cut s).pieces [] (cut s).rest ∙ (cut_is_cut s).whole

pub unfinished_length : (s : List ℕ) → length (cut s).rest ≡ length s - finished_in s
unfinished_length s = omega (arith, simp length-append at (ap length (both_parts s)))

unfinished_rest : (s : List ℕ) → drop (finished_in s) s ≡ (cut s).rest
unfinished_rest s =
    let front = rejoined (cut s).pieces [] in
    ap (drop (finished_in s)) (sym (both_parts s)) ∙ drop_at front (cut s).rest (finished_in s) refl

-- bytes that are left alone
pub left_alone : (s : List ℕ) (end : ℕ) (r : Result ℕ ℕ) → counts (take (end - 0) (drop 0 s)) r → finishes s end s r
left_alone s end (Ok n) e =
    let z : end - 0 ≡ end = omega arith in
    let f : n ≡ finished_in (take end s) = rw z at e in
    (f, sym (drop_take n end s (finished_in_front s end n f)) ∙ ap (λ (k : ℕ). drop k (take end s)) f ∙ unfinished_rest (take end s))
left_alone s end (Err error) e = tt

-- masked where they stand, it is as it was
pub unfinished_behind : (bytes masked post : List ℕ) (end lines : ℕ) → MasksLines bytes lines masked → length bytes ≡ end →
    take (end - lines) (drop lines (masked ++ post)) ≡ (cut bytes).rest
unfinished_behind bytes masked post end lines w l =
    let within : lines ≤ length masked = omega (arith, finished_within bytes, masked_length bytes, w.counts, ap length w.leaves) in
    let left : length (drop lines masked) ≡ end - lines = omega (arith, length-drop lines masked, masked_length bytes, ap length w.leaves) in
    ap (take (end - lines)) (drop-append-le lines masked post within) ∙ take_at (drop lines masked) post (end - lines) left ∙
    ap₂ drop w.counts w.leaves ∙
    waiting_part bytes

-- the lines of what is in hand, masked, whatever stands behind these bytes
pub lines_may_be_written : {before : Stream} {bytes masked : List ℕ} {lines : ℕ} (post : List ℕ) → MasksLines bytes lines masked → InHand before bytes →
    MayBeWritten before (take (lines - 0) (drop 0 (masked ++ post)))
lines_may_be_written {before} {bytes} {masked} {lines} post w h =
    let n : lines - 0 ≡ finished_in bytes = omega (arith, w.counts) in
    let within : finished_in bytes ≤ length (masked_file bytes) = omega (arith, finished_within bytes, masked_length bytes) in
    let are : take (lines - 0) (masked ++ post) ≡ take (finished_in bytes) (masked_file bytes) =
    ap₂ (λ (k : ℕ) (l : List ℕ). take k (l ++ post)) n w.leaves ∙ take-append-le (finished_in bytes) (masked_file bytes) post within in
    rw are (record { bytes = bytes; in_hand = h; are = refl; all_finished = all_finished bytes; own_masked = own_masked bytes })
